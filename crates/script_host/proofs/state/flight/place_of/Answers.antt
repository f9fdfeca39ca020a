use Rattle.std.proofs.Common.{◌≡◌, ◌<◌, ◌++◌, length, take, drop, sym, ap, subst, ◌∙◌, arith}
use Rattle.host_console.specs.State.{placed}
use Rattle.script_host.specs.Texts.{texts_of}
use Rattle.script_host.proofs.Placed.{before, length-texts, text_at, here, behind, at_end}
use Rattle.script_host.proofs.state.flight.place_of.Goals as goal

pub returns-then-is_before : goal.returns-then-is_before
returns-then-is_before c =
    let texts = c.args.texts.now.items in
    let within : c.loop-place.place < length texts = omega (arith, c.loop-place-test.true, c.len-place-end.ensures) in
    let some : c.loop-place.place < length (texts_of texts) = omega (arith, within, length-texts texts) in
    let there = text_at texts c.loop-place.place c.index.result.now within c.index.ensures in
    let yes = ap (before c.args.text.now) (sym (c.as_slice.ensures.value ∙ there)) ∙ (sym c.is_before.ensures ∙ c.if-is_before.true) in
    record {
      within = omega (arith, within);
      place = here c.args.text.now (texts_of texts) c.loop-place.place some yes c.loop-place.invariant;
    }

pub loop-place-preserved : goal.loop-place-preserved
loop-place-preserved c =
    let texts = c.args.texts.now.items in
    let within : c.loop-place.place < length texts = omega (arith, c.loop-place-test.true, c.len-place-end.ensures) in
    let some : c.loop-place.place < length (texts_of texts) = omega (arith, within, length-texts texts) in
    let there = text_at texts c.loop-place.place c.index.result.now within c.index.ensures in
    let no = ap (before c.args.text.now) (sym (c.as_slice.ensures.value ∙ there)) ∙ (sym c.is_before.ensures ∙ c.if-is_before.false) in
    behind c.args.text.now (texts_of texts) c.loop-place.place some no c.loop-place.invariant

pub returns : goal.returns
returns c =
    let texts = c.args.texts.now.items in
    let last : c.len.result ≡ length (texts_of texts) = omega (arith, c.len.ensures, length-texts texts) in
    let same : c.loop-place.place ≡ c.len.result = omega (arith, c.len.ensures, c.len-place-end.ensures, c.loop-place-test.false, c.loop-place.auto.place-end) in
    record {
      within = omega (arith, c.len.ensures);
      place = at_end c.args.text.now (texts_of texts) c.len.result last (subst (λ i. placed c.args.text.now (texts_of texts) ≡ take i (texts_of texts) ++ placed c.args.text.now (drop i (texts_of texts))) same c.loop-place.invariant);
    }
