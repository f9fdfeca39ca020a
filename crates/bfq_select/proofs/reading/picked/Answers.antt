use Rattle.std.specs.Prelude.{slice_get}
use Rattle.std.proofs.Common.{◌≡◌, [], None, sym, ap, rules}
use Rattle.plain.specs.Members.{pick}
use Rattle.plain.specs.Classes.{Classes, only, same_times, time_of}
use Rattle.bfq_select.proofs.Looking.{looked_none}
use Rattle.bfq_select.proofs.reading.picked.Goals as goal

pub returns-in-None-clause-value : goal.returns-in-None-clause-value
returns-in-None-clause-value c =
    let trees = c.args.parts.now.tables.trees in
    let none : slice_get trees c.args.group ≡ None = search rules in
    sym (ap (λ (s : Classes). pick (time_of s.vtimes c.args.class) (only c.args.class s.members)) (looked_none trees c.args.group (record { vtimes = same_times 0; members = [] }) none))
