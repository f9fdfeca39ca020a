use Rattle.std.proofs.Common.{◌≡◌, ◌+◌, ◌<◌, length, Some, subst, sym, ap, ◌∙◌, arith, rules}
use Rattle.dispatch_core.proofs.Words.{Tables, meaning, at, WellFormed, requeued_tables}
use Rattle.plain.specs.declared.answer.Answer.TheVariants.{Accepted}
use Rattle.plain.specs.declared.answer.Reply.TheVariants.{Requeued}
use Rattle.plain.specs.Step.{of_sizes}
use Rattle.dispatch_core.proofs.Queues.{flight_is}
use Rattle.dispatch_core.proofs.Requeues.{requeue-well, requeue-meaning, requeue_does}
use Rattle.dispatch_core.proofs.Recorded.{one_more}
use Rattle.dispatch_core.proofs.requeue.run_requeue.Goals as goal

pub returns-clause-answers : goal.returns-clause-answers
returns-clause-answers c =
    let l = of_sizes c.args.sizes in
    let t = c.args.parts.now.tables in
    let n = c.args.serial in
    let tag = c.args.tag in
    let borne = c.in-Some.borne in
    let bears : at t.tags tag ≡ Some borne = search rules in
    let found = flight_is l n t tag borne c.requires bears in
    let same : borne.issue ≡ c.args.issue = c.if-borne-issue.false in
    let within : tag < l.tags = c.if-tag-sizes.false in
    let now : c.exchange-2.new.parts.tables ≡ requeued_tables t n borne.slot tag = search rules in
    let next = ap meaning now ∙ requeue-meaning l n t tag borne.issue borne.slot found.0 c.requires bears found.1 in
    sym (requeue_does l (meaning t) c.args.room tag c.args.issue _ within found.2 same c.if-not-room.false
    ∙ ap (λ m. (m, Accepted Requeued)) (sym next))

pub returns-clause-leaves : goal.returns-clause-leaves
returns-clause-leaves c =
    let l = of_sizes c.args.sizes in
    let t = c.args.parts.now.tables in
    let n = c.args.serial in
    let tag = c.args.tag in
    let borne = c.in-Some.borne in
    let bears : at t.tags tag ≡ Some borne = search rules in
    let found = flight_is l n t tag borne c.requires bears in
    let now : c.exchange-2.new.parts.tables ≡ requeued_tables t n borne.slot tag = search rules in
    let P : Tables → Type 0 = λ u. WellFormed l (n + 1) u in (
      subst P (sym now) (requeue-well l n t tag borne.issue borne.slot found.0 c.requires bears found.1),
      omega (arith, c.exchange.ensures.spare, c.exchange-2.ensures.spare, c.in_ok-reserve.ensures.spare),
      omega (
        arith,
        one_more c.reserve.new.self.current c.exchange.new.self.current _ c.exchange.ensures.recorded,
        one_more c.exchange.new.self.current c.exchange-2.new.self.current _ c.exchange-2.ensures.recorded,
        ap length c.reserve.ensures.current,
      ),
      omega (
        arith,
        one_more c.reserve.new.self.current c.exchange.new.self.current _ c.exchange.ensures.recorded,
        one_more c.exchange.new.self.current c.exchange-2.new.self.current _ c.exchange-2.ensures.recorded,
        ap length c.reserve.ensures.current,
      ),
    )
