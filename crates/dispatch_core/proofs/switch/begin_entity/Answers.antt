use Rattle.std.proofs.Common.{◌≡◌, ℕ, ◌<◌, Option, Some, is_some, unwrap_or, cond, sym, ap, ◌∙◌, rules}
use Rattle.change_record.specs.declared.change.Change.TheVariants.{TreeMember}
use Rattle.dispatch_core.proofs.Words.{Member, Bfq, after, bfq_of, put_member, member_in}
use Rattle.bfq_select.proofs.Bounds.{bounded_member}
use Rattle.dispatch_core.proofs.Begun.{member_put}
use Rattle.dispatch_core.proofs.switch.begin_entity.Goals as goal

pub returns-clause-bounded : goal.returns-clause-bounded
returns-clause-bounded c =
    let t = c.args.parts.now.tables in
    let g = c.in-Some.group in
    let there : (bfq_of t).parent c.args.entity ≡ Some g = search rules in
    let within : g < 32 = c.requires.sized.groups c.args.entity g there in
    let m : Member = record c.member_in.result { start = c.args.sizes.first_vtime; finish = c.args.sizes.first_vtime } in
    bounded_member (bfq_of t) (bfq_of c.exchange.new.parts.tables) g c.args.entity m
    (ap bfq_of (c.exchange.ensures.tables ∙ ap (λ place. after t (TreeMember g c.args.entity place)) c.of.ensures) ∙ member_put t g c.args.entity m c.requires.sized.trees within)
    c.requires.bounded c.requires.vtime c.requires.vtime

pub returns-clause-made : goal.returns-clause-made
returns-clause-made c =
    let t = c.args.parts.now.tables in
    let g = c.in-Some.group in
    let there : (bfq_of t).parent c.args.entity ≡ Some g = search rules in
    let within : g < 32 = c.requires.sized.groups c.args.entity g there in
    let m : Member = record c.member_in.result { start = c.args.sizes.first_vtime; finish = c.args.sizes.first_vtime } in
    let f : Option ℕ → Bfq = λ o. cond (is_some o)
    (put_member (unwrap_or o 0) c.args.entity (record (member_in (bfq_of t) (unwrap_or o 0) c.args.entity) { start = c.args.sizes.first_vtime; finish = c.args.sizes.first_vtime }) (bfq_of t)) (bfq_of t) in
    let same : m ≡ record (member_in (bfq_of t) g c.args.entity) { start = c.args.sizes.first_vtime; finish = c.args.sizes.first_vtime } =
    ap (λ (k : Member). let r : Member = record k { start = c.args.sizes.first_vtime; finish = c.args.sizes.first_vtime } in r) c.member_in.ensures.value in
    ap bfq_of (c.exchange.ensures.tables ∙ ap (λ place. after t (TreeMember g c.args.entity place)) c.of.ensures) ∙ member_put t g c.args.entity m c.requires.sized.trees within
    ∙ ap (λ k. put_member g c.args.entity k (bfq_of t)) same ∙ sym (ap f there)
