use Rattle.std.proofs.Common.{sym, ap, ◌∙◌}
use Rattle.std.specs.List.{insert}
use Rattle.host_console.specs.State.{placed}
use Rattle.script_host.specs.Texts.{texts_of}
use Rattle.script_host.proofs.Placed.{texts-insert}
use Rattle.script_host.proofs.state.flight.place.Goals as goal

pub returns : goal.returns
returns c =
    let texts = c.args.texts.now.items in
    let there = ap (λ t. insert (texts_of texts) c.place_of-place.result t) (sym c.as_slice.ensures.value) in
    ap texts_of c.in_ok-insert.ensures.items
    ∙ (texts-insert texts c.place_of-place.result c.args.text c.place_of-place.ensures.within
    ∙ (there ∙ (c.place_of-place.ensures.place ∙ ap (λ t. placed t (texts_of texts)) c.as_slice.ensures.value)))
