use Rattle.std.proofs.Common.{◌≡◌, ℕ, ◌+◌, List, ◌∷◌, ◌++◌, codes, cond, sym, ap, ◌∙◌, append_assoc, rules}
use Rattle.std.specs.List.{flat_map}
use Rattle.std.specs.Fmt.{decimal}
use Rattle.sector_core.specs.declared.class.Class.TheVariants.{BestEffort}
use Rattle.plain.specs.Lists.{numbers}
use Rattle.plain.specs.Machine.{Plain}
use Rattle.dispatch_core.specs.Running.{plain_of}
use Rattle.plain.specs.Rules.{vtime_of}
use Rattle.host_console.specs.Views.{parent_text, member_text}
use Rattle.script_host.proofs.Told.{on_ok, stands_of}
use Rattle.script_host.proofs.entities.put_tree.Goals as goal

pub returns : goal.returns
returns c =
    let m : Plain = plain_of c.args.view.now in
    let old : List ℕ = c.args.out.now.items in
    let group : List ℕ = decimal c.args.group in
    let up : List ℕ = parent_text c.parent_of.result in
    let vtime : List ℕ = decimal c.in-Some.vtime in
    let text : List ℕ = flat_map (member_text m c.args.group) (numbers 0 48) in
    let shown = stands_of m c.args.group BestEffort c.in-Some.vtime (sym c.in-Some.is ∙ c.vtime.ensures) in
    let told : c.put_head.new.out.items ≡ old ++ (codes "tree " ++ (group ++ 32 ∷ (up ++ 32 ∷ vtime))) = search rules in
    let joined : (old ++ (codes "tree " ++ (group ++ 32 ∷ (up ++ 32 ∷ vtime)))) ++ text ≡ old ++ (codes "tree " ++ (group ++ 32 ∷ (up ++ 32 ∷ (vtime ++ text)))) = simp append_assoc in
    let same : codes "tree " ++ (group ++ 32 ∷ (up ++ 32 ∷ (vtime ++ text))) ≡ codes "tree " ++ (group ++ 32 ∷ (parent_text (m.bfq.parent (16 + c.args.group)) ++ 32 ∷ (decimal (vtime_of m.bfq c.args.group BestEffort) ++ text))) =
    ap (λ p. codes "tree " ++ (group ++ 32 ∷ (parent_text p ++ 32 ∷ (vtime ++ text)))) (c.parent_of.ensures shown.0)
    ∙ ap (λ v. codes "tree " ++ (group ++ 32 ∷ (parent_text (m.bfq.parent (16 + c.args.group)) ++ 32 ∷ (decimal v ++ text)))) shown.1 in
    let whole = ap (λ b. cond b (codes "tree " ++ (group ++ 32 ∷ (parent_text (m.bfq.parent (16 + c.args.group)) ++ 32 ∷ (decimal (vtime_of m.bfq c.args.group BestEffort) ++ text)))) (codes "tree " ++ (group ++ codes " none"))) (sym shown.0) in
    on_ok c.put_members.result (λ put. put ∙ ap (λ w. w ++ text) told ∙ joined ∙ ap (λ t. old ++ t) (same ∙ whole)) c.put_members.ensures
