use Rattle.std.proofs.Common.{[], ◌∷◌, ◌++◌, refl, ap, ◌∙◌, subst}
use Rattle.host_core.proofs.SameSeats.{seat-none, seat-twice}
use Rattle.host_core.proofs.seat.Seat.collect_waiting.Goals as goal

pub loop-init : goal.loop-init
loop-init g c = (seat-none c.args.self.now, refl, refl, refl)

pub returns-in-Some-next_reply-clause-seat : goal.returns-in-Some-next_reply-clause-seat
returns-in-Some-next_reply-clause-seat g c =
    seat-twice c.args.self.now c.next_reply.new.self c.tell_of_place.new.self
    (seat-twice c.args.self.now c.loop.self c.next_reply.new.self c.loop.invariant.0 c.next_reply.ensures.seat) c.tell_of_place.ensures.seat

pub returns-in-Some-next_reply-clause-some : goal.returns-in-Some-next_reply-clause-some
returns-in-Some-next_reply-clause-some g c = (
  c.tell_of_place.ensures.collected.0 ∙ c.in-Some-next_reply.ensures.some.0 ∙ ap (λ rs. rs ++ c.in-Some-next_reply.reply ∷ []) c.loop.invariant.2,
  subst (λ rs. g.P.Protocol.allows rs c.in-Some-next_reply.reply) c.loop.invariant.2 c.in-Some-next_reply.ensures.some.1,
)

pub returns-in-Some-next_reply-clause-staged : goal.returns-in-Some-next_reply-clause-staged
returns-in-Some-next_reply-clause-staged g c = c.tell_of_place.ensures.staged ∙ c.next_reply.ensures.staged ∙ c.loop.invariant.1

pub loop-preserved : goal.loop-preserved
loop-preserved g c =
    let none = c.next_reply.ensures.none c.in_default.is in (
      seat-twice c.args.self.now c.loop.self c.next_reply.new.self c.loop.invariant.0 c.next_reply.ensures.seat,
      c.next_reply.ensures.staged ∙ c.loop.invariant.1,
      none.0 ∙ c.loop.invariant.2,
      none.1 ∙ c.loop.invariant.3,
    )
