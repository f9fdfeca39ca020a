use Rattle.std.proofs.Common.{◌≡◌, ◌∷◌, ◌++◌, ◌≤◌, length, sym, ap, ◌∙◌, rules}
use Rattle.script_host.proofs.Placed.{texts_more, texts_done}
use Rattle.script_host.proofs.Told.{one_more, all_told}
use Rattle.script_host.proofs.state.flight.put_texts.Goals as goal

pub loop-text-preserved : goal.loop-text-preserved
loop-text-preserved c =
    let texts = c.args.texts.now.items in
    let next = texts_more texts c.loop-text.text-index c.text-item.result (search rules) (search rules) in
    let told : c.put_text.new.out.items ≡ c.loop-text.out.items ++ (32 ∷ c.text-item.result.items) =
    c.in_ok-put_text.ensures ∙ ap (λ t. c.loop-text.out.items ++ (32 ∷ t)) c.as_slice.ensures.value in
    one_more c.loop-text.out.items c.put_text.new.out.items _ _ _ told (ap (λ ys. c.loop-text.out.items ++ ys) (sym next) ∙ c.loop-text.invariant)

pub returns : goal.returns
returns c =
    let texts = c.args.texts.now.items in
    let over : length texts ≤ c.loop-text.text-index = search rules in
    all_told c.loop-text.out.items _ _ (texts_done texts c.loop-text.text-index over) c.loop-text.invariant
