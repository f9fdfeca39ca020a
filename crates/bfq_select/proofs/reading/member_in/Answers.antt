use Rattle.std.specs.Prelude.{slice_get, unwrap_or}
use Rattle.std.proofs.Common.{◌≡◌, [], None, Some, slice_index_or, sym, ap, rules}
use Rattle.plain.specs.Classes.{Classes, same_times}
use Rattle.plain.specs.Rules.{absent}
use Rattle.bfq_select.proofs.Looking.{looked_none, looked_in}
use Rattle.bfq_select.proofs.reading.member_in.Goals as goal

pub returns-in_default-clause-value : goal.returns-in_default-clause-value
returns-in_default-clause-value c =
    let trees = c.args.parts.now.tables.trees in
    let none : slice_get trees c.args.group ≡ None = search rules in
    sym (ap (λ (s : Classes). unwrap_or (slice_index_or s.members c.args.entity None) absent) (looked_none trees c.args.group (record { vtimes = same_times 0; members = [] }) none))

pub returns-in-None-clause-value : goal.returns-in-None-clause-value
returns-in-None-clause-value c =
    let found : slice_get c.args.parts.now.tables.trees c.args.group ≡ Some c.in-Some.tree.now = search rules in
    sym (ap (λ o. unwrap_or o absent) (looked_in c.args.parts.now.tables c.args.group c.args.entity c.in-Some.tree.now c.member.result None found c.member.ensures c.in-None.is))

pub returns-in-Some-member-clause-value : goal.returns-in-Some-member-clause-value
returns-in-Some-member-clause-value c =
    let m = c.in-Some-member.member in
    let found : slice_get c.args.parts.now.tables.trees c.args.group ≡ Some c.in-Some.tree.now = search rules in
    sym (ap (λ o. unwrap_or o absent) (looked_in c.args.parts.now.tables c.args.group c.args.entity c.in-Some.tree.now c.member.result (Some m) found c.member.ensures c.in-Some-member.is))

pub returns-in-Some-member-clause-start : goal.returns-in-Some-member-clause-start
returns-in-Some-member-clause-start c =
    let m = c.in-Some-member.member in
    let found : slice_get c.args.parts.now.tables.trees c.args.group ≡ Some c.in-Some.tree.now = search rules in
    λ v. v.starts c.args.group c.args.entity m (looked_in c.args.parts.now.tables c.args.group c.args.entity c.in-Some.tree.now c.member.result (Some m) found c.member.ensures c.in-Some-member.is)

pub returns-in-Some-member-clause-finish : goal.returns-in-Some-member-clause-finish
returns-in-Some-member-clause-finish c =
    let m = c.in-Some-member.member in
    let found : slice_get c.args.parts.now.tables.trees c.args.group ≡ Some c.in-Some.tree.now = search rules in
    λ v. v.finishes c.args.group c.args.entity m (looked_in c.args.parts.now.tables c.args.group c.args.entity c.in-Some.tree.now c.member.result (Some m) found c.member.ensures c.in-Some-member.is)
