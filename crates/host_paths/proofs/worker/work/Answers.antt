use Rattle.std.proofs.Common.{[], ◌∷◌, ◌++◌, ap, ◌∙◌}
use Rattle.host_calls.specs.declared.ring.RingReply.TheVariants.{Answer as Answered}
use Rattle.plain.specs.declared.answer.Answer.TheVariants.{Accepted}
use Rattle.host_core.specs.Seats.{collected}
use Rattle.host_paths.specs.declared.worker.WorkerEnd.TheVariants.{Closed}
use Rattle.host_paths.specs.Working.{read_of}
use Rattle.host_paths.proofs.Rounds.{round-told, round-asked, round-closed}
use Rattle.host_paths.proofs.worker.work.Goals as goal

pub returns-in-Answer-Accepted-Taken-clause-round : goal.returns-in-Answer-Accepted-Taken-clause-round
returns-in-Answer-Accepted-Taken-clause-round g c =
    let work = c.in-Answer-Accepted-Taken in
    let is = work.is ∙ ap Answered (work.field-0-is ∙ ap Accepted work.field-0-0-is) in
    let read = read_of g.I.Image.disk g.I.Image.log in
    round-told c.args.seat.now c.reply.new.seat c.done.new.seat c.done.result work.work (read c.args.image.now) (read c.done.new.image)
    c.reply.ensures.made.0 (c.reply.ensures.made.1 ∙ ap (λ r. collected c.args.seat.now ++ r ∷ []) is) c.reply.ensures.seat.2 c.done.ensures.told

pub returns-in-Answer-clause-round : goal.returns-in-Answer-clause-round
returns-in-Answer-clause-round g c =
    round-asked c.args.seat.now c.reply.new.seat c.reply.result (read_of g.I.Image.disk g.I.Image.log c.args.image.now) c.reply.ensures.made.0 c.reply.ensures.made.1

pub returns-clause-round : goal.returns-clause-round
returns-clause-round g c =
    round-closed c.args.seat.now c.reply.new.seat Closed c.reply.result (read_of g.I.Image.disk g.I.Image.log c.args.image.now) c.reply.ensures.made.0 c.reply.ensures.made.1
