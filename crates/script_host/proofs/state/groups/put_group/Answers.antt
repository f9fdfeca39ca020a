use Rattle.std.proofs.Common.{◌≡◌, ℕ, ◌+◌, List, [], ◌∷◌, ◌++◌, codes, cond, sym, ap, ◌∙◌, append_assoc, append-nil, rules}
use Rattle.std.specs.List.{flat_map}
use Rattle.std.specs.Fmt.{decimal}
use Rattle.sector_core.specs.declared.class.Class.TheVariants.{RealTime, BestEffort}
use Rattle.plain.specs.Lists.{numbers}
use Rattle.plain.specs.Machine.{Plain}
use Rattle.dispatch_core.specs.Running.{plain_of}
use Rattle.plain.specs.Rules.{vtime_of}
use Rattle.host_console.specs.Views.{parent_text}
use Rattle.host_console.specs.State.{times_text, member_text, group_text}
use Rattle.script_host.proofs.Told.{on_ok}
use Rattle.script_host.proofs.state.groups.put_group.Goals as goal

pub returns-in_default : goal.returns-in_default
unfolding group_text
returns-in_default c =
    let m : Plain = plain_of c.args.view.now in
    let old : List ℕ = c.args.out.now.items in
    let empty : group_text m c.args.group ≡ [] = ap (λ b. cond b (times_text m c.args.group ++ flat_map (member_text m c.args.group) (numbers 0 48)) []) c.in_default.ensures in
    sym (ap (λ t. old ++ t) empty ∙ append-nil old)

pub returns : goal.returns
unfolding group_text
returns c =
    let m : Plain = plain_of c.args.view.now in
    let old : List ℕ = c.args.out.now.items in
    let group : List ℕ = decimal c.args.group in
    let t = c.in-Some.times in
    let has = c.in-Some.ensures in
    let members : List ℕ = flat_map (member_text m c.args.group) (numbers 0 48) in
    let head : List ℕ = codes " tree " ++ (group ++ 32 ∷ (parent_text c.parent_of.result ++ 32 ∷ (decimal t.real_time ++ 32 ∷ (decimal t.best_effort ++ 32 ∷ decimal t.idle)))) in
    let told : c.put_times.new.out.items ≡ old ++ head = search rules in
    let same : head ≡ times_text m c.args.group =
    ap (λ p. codes " tree " ++ (group ++ 32 ∷ (parent_text p ++ 32 ∷ (decimal t.real_time ++ 32 ∷ (decimal t.best_effort ++ 32 ∷ decimal t.idle))))) (c.parent_of.ensures has.stands)
    ∙ (ap (λ v. codes " tree " ++ (group ++ 32 ∷ (parent_text (m.bfq.parent (16 + c.args.group)) ++ 32 ∷ (decimal v ++ 32 ∷ (decimal t.best_effort ++ 32 ∷ decimal t.idle))))) has.real_time
    ∙ (ap (λ v. codes " tree " ++ (group ++ 32 ∷ (parent_text (m.bfq.parent (16 + c.args.group)) ++ 32 ∷ (decimal (vtime_of m.bfq c.args.group RealTime) ++ 32 ∷ (decimal v ++ 32 ∷ decimal t.idle))))) has.best_effort
    ∙ ap (λ v. codes " tree " ++ (group ++ 32 ∷ (parent_text (m.bfq.parent (16 + c.args.group)) ++ 32 ∷ (decimal (vtime_of m.bfq c.args.group RealTime) ++ 32 ∷ (decimal (vtime_of m.bfq c.args.group BestEffort) ++ 32 ∷ decimal v))))) has.idle)) in
    let whole : group_text m c.args.group ≡ times_text m c.args.group ++ members = ap (λ b. cond b (times_text m c.args.group ++ members) []) has.stands in
    let joined : (old ++ head) ++ members ≡ old ++ (head ++ members) = simp append_assoc in
    on_ok c.put_members.result (λ put. put ∙ (ap (λ w. w ++ members) told ∙ (joined ∙ ap (λ t. old ++ t) (ap (λ h. h ++ members) same ∙ sym whole)))) c.put_members.ensures
