use Rattle.std.proofs.Common.{◌≡◌, ◌+◌, ◌<◌, List, None, length, true, false, subst, sym, ap, ◌∙◌, arith, rules}
use Rattle.change_record.specs.declared.change.Change.{Change}
use Rattle.change_record.specs.declared.change.Change.TheVariants.{TreeMember, GroupEntry}
use Rattle.dispatch_core.proofs.Words.{Tables, after, bfq_of, meaning, stands, group_of, WellFormed}
use Rattle.change_record.specs.Trail.{IsTrail}
use Rattle.plain.specs.Step.{of_sizes}
use Rattle.plain.specs.Steps.GroupDrop.{is_used}
use Rattle.plain.specs.declared.answer.Answer.TheVariants.{Accepted}
use Rattle.plain.specs.declared.answer.Reply.TheVariants.{Done}
use Rattle.dispatch_core.proofs.Recorded.{one_more}
use Rattle.dispatch_core.proofs.Decided.{stands_below}
use Rattle.dispatch_core.proofs.Grouping.{group_drop_does, dropped-meaning, dropped-well}
use Rattle.dispatch_core.proofs.groups.run_group_drop.Goals.{in-Some, in-None}
use Rattle.dispatch_core.proofs.groups.run_group_drop.Goals as goal

pub returns-clause-answers : goal.returns-clause-answers
returns-clause-answers c =
    let l = of_sizes c.args.sizes in
    let t = c.args.parts.now.tables in
    let there : stands (bfq_of t) c.args.group ≡ true = search rules in
    let unused : is_used (bfq_of t) c.args.group ≡ false = search rules in
    let below : c.args.group < 32 = stands_below (bfq_of t) c.args.group there in
    let above : c.match-parent.parent ≡ group_of (bfq_of t) (16 + c.args.group) = elim c.match-parent.branch [ in-Some w ↦ search rules | in-None w ↦ search rules ] in
    let one : c.exchange.new.parts.tables ≡ after t (TreeMember c.match-parent.parent (16 + c.args.group) None) =
    c.exchange.ensures.tables ∙ ap (λ place. after t (TreeMember c.match-parent.parent (16 + c.args.group) place)) c.of.ensures in
    let two : c.exchange-2.new.parts.tables ≡ after c.exchange.new.parts.tables (GroupEntry (16 + c.args.group) None) = c.exchange-2.ensures.tables in
    let now : c.exchange-2.new.parts.tables ≡ after (after t (TreeMember (group_of (bfq_of t) (16 + c.args.group)) (16 + c.args.group) None)) (GroupEntry (16 + c.args.group) None) =
    two ∙ ap (λ u. after u (GroupEntry (16 + c.args.group) None)) (one ∙ ap (λ g. after t (TreeMember g (16 + c.args.group) None)) above) in
    sym (group_drop_does (meaning t) c.args.room c.args.group there c.if-group-eq0.false unused c.if-not-room.false
    ∙ ap (λ m. (m, Accepted Done)) (sym (ap meaning now ∙ dropped-meaning l c.args.serial t (16 + c.args.group) c.requires (omega (arith, below)))))

pub returns-clause-leaves : goal.returns-clause-leaves
returns-clause-leaves c =
    let l = of_sizes c.args.sizes in
    let t = c.args.parts.now.tables in
    let there : stands (bfq_of t) c.args.group ≡ true = search rules in
    let below : c.args.group < 32 = stands_below (bfq_of t) c.args.group there in
    let above : c.match-parent.parent ≡ group_of (bfq_of t) (16 + c.args.group) = elim c.match-parent.branch [ in-Some w ↦ search rules | in-None w ↦ search rules ] in
    let one : c.exchange.new.parts.tables ≡ after t (TreeMember c.match-parent.parent (16 + c.args.group) None) =
    c.exchange.ensures.tables ∙ ap (λ place. after t (TreeMember c.match-parent.parent (16 + c.args.group) place)) c.of.ensures in
    let two : c.exchange-2.new.parts.tables ≡ after c.exchange.new.parts.tables (GroupEntry (16 + c.args.group) None) = c.exchange-2.ensures.tables in
    let now : c.exchange-2.new.parts.tables ≡ after (after t (TreeMember (group_of (bfq_of t) (16 + c.args.group)) (16 + c.args.group) None)) (GroupEntry (16 + c.args.group) None) =
    two ∙ ap (λ u. after u (GroupEntry (16 + c.args.group) None)) (one ∙ ap (λ g. after t (TreeMember g (16 + c.args.group) None)) above) in
    let P : Tables → Type 0 = λ u. WellFormed l (c.args.serial + 1) u in
    let first = one_more c.reserve.new.self.current c.exchange.new.self.current _ c.exchange.ensures.recorded in
    let second = one_more c.exchange.new.self.current c.exchange-2.new.self.current _ c.exchange-2.ensures.recorded in
    let kept = ap length c.reserve.ensures.current in (
      subst P (sym now) (dropped-well l c.args.serial t (16 + c.args.group) c.requires (omega (arith, below))),
      omega (arith, c.exchange.ensures.spare, c.exchange-2.ensures.spare, c.in_ok-reserve.ensures.spare),
      omega (arith, first, second, kept),
      omega (arith, first, second, kept),
    )

pub returns-clause-trail : goal.returns-clause-trail
returns-clause-trail c = λ origin h.
    let P : List Change → Type 0 = λ changes. IsTrail changes c.args.parts.now.tables origin in
    c.exchange-2.ensures.trail origin (c.exchange.ensures.trail origin (subst P (sym c.reserve.ensures.current) h))
