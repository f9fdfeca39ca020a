use Rattle.std.proofs.Common.{sym, ap, ◌∙◌}
use Rattle.host_core.specs.Seats.{collected, closed_by}
use Rattle.host_core.proofs.seat.Seat.next_reply.Goals.{in-Closed, in-Answer}
use Rattle.host_core.proofs.seat.Seat.next_reply.Goals as goal

pub returns-after-reply-clause-some : goal.returns-after-reply-clause-some
returns-after-reply-clause-some g c = (
  elim c.match-reply.branch [ in-Closed w ↦ ap collected w.self-is ∙ c.in-Ok.ensures.ok.0 | in-Answer w ↦ ap collected w.self-is ∙ c.in-Ok.ensures.ok.0 ],
  c.in-Ok.ensures.ok.2,
)

pub returns-after-reply-clause-none : goal.returns-after-reply-clause-none
returns-after-reply-clause-none g c = λ e. absurd (cc)

pub returns-after-reply-clause-closed : goal.returns-after-reply-clause-closed
returns-after-reply-clause-closed g c =
    let was = c.args.self.now.closed in
    elim c.match-reply.branch [
      | in-Closed w ↦ ap (λ s. s.closed) w.self-is ∙ ap (closed_by was) (sym w.in-Closed.is)
      | in-Answer w ↦ ap (λ s. s.closed) w.self-is ∙ ap (closed_by was) (sym w.in-Answer.is)
    ]
