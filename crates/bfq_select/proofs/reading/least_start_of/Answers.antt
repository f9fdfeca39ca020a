use Rattle.std.specs.Prelude.{slice_get}
use Rattle.std.proofs.Common.{◌≡◌, [], None, Some, sym, ap, rules}
use Rattle.plain.specs.Members.{least_start}
use Rattle.plain.specs.Classes.{Classes, only, same_times}
use Rattle.change_record.specs.Machine.{bfq_of}
use Rattle.bfq_select.proofs.Bounds.{small_least}
use Rattle.bfq_select.proofs.Looking.{looked_none, looked_some}
use Rattle.bfq_select.proofs.reading.least_start_of.Goals as goal

pub returns-in-None-clause-value : goal.returns-in-None-clause-value
returns-in-None-clause-value c =
    let trees = c.args.parts.now.tables.trees in
    let none : slice_get trees c.args.group ≡ None = search rules in
    sym (ap (λ (s : Classes). least_start (only c.args.class s.members)) (looked_none trees c.args.group (record { vtimes = same_times 0; members = [] }) none))

pub returns-in-Some-clause-small : goal.returns-in-Some-clause-small
returns-in-Some-clause-small c = λ v.
    let trees = c.args.parts.now.tables.trees in
    let found : slice_get trees c.args.group ≡ Some c.in-Some.tree.now = search rules in
    small_least (bfq_of c.args.parts.now.tables) c.args.group c.args.class c.in-Some.tree.now.members c.least_start.result v
    (ap (λ (s : Classes). s.members) (looked_some trees c.args.group (record { vtimes = same_times 0; members = [] }) c.in-Some.tree.now found)) c.least_start.ensures.least
