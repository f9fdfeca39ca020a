use Rattle.std.specs.Prelude.{slice_get}
use Rattle.std.proofs.Common.{◌≡◌, ◌∙◌, [], None, sym, ap, rules}
use Rattle.plain.specs.Classes.{Classes, same_times}
use Rattle.bfq_select.proofs.Looking.{looked_none}
use Rattle.bfq_select.proofs.reading.vtimes_of.Goals as goal

pub returns-in-None : goal.returns-in-None
returns-in-None c =
    let trees = c.args.parts.now.tables.trees in
    let none : slice_get trees c.args.group ≡ None = search rules in
    c.same.ensures ∙ sym (ap (λ (s : Classes). s.vtimes) (looked_none trees c.args.group (record { vtimes = same_times 0; members = [] }) none))
