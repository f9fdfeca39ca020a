use Rattle.std.specs.Prelude.{slice_get}
use Rattle.std.proofs.Common.{◌≡◌, [], None, sym, ap, rules}
use Rattle.plain.specs.Classes.{Classes, first_class, same_times}
use Rattle.bfq_select.proofs.Looking.{looked_none}
use Rattle.bfq_select.proofs.reading.class_in.Goals as goal

pub returns-in-None : goal.returns-in-None
returns-in-None c =
    let trees = c.args.parts.now.tables.trees in
    let none : slice_get trees c.args.group ≡ None = search rules in
    sym (ap (λ (s : Classes). first_class s.members) (looked_none trees c.args.group (record { vtimes = same_times 0; members = [] }) none))
