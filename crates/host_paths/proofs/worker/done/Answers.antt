use Rattle.std.proofs.Common.{[], ◌∷◌, ◌++◌, refl}
use Rattle.host_core.specs.Seats.{seat_number, staged, collected}
use Rattle.host_paths.specs.Working.{read_of}
use Rattle.host_paths.proofs.Rounds.{left-alone, told, lost}
use Rattle.host_paths.proofs.worker.done.Goals as goal

pub returns-in-Err-clause-told : goal.returns-in-Err-clause-told
returns-in-Err-clause-told g c =
    let read = read_of g.I.Image.disk g.I.Image.log in (
      staged c.args.seat.now,
      refl,
      lost (seat_number c.args.seat.now) c.args.work.now (staged c.args.seat.now) (collected c.args.seat.now) (collected c.args.seat.now)
          (read c.args.image.now) (read c.work_once.new.image) c.in-Err.ensures.err c.in-Err.ensures.in_vain refl,
    )

pub returns-else-may_ask-clause-told : goal.returns-else-may_ask-clause-told
returns-else-may_ask-clause-told g c =
    let read = read_of g.I.Image.disk g.I.Image.log in (
      staged c.args.seat.now ++ c.in-Ok.call ∷ [],
      left-alone c.tell_alone.result (seat_number c.args.seat.now) (staged c.args.seat.now ++ c.in-Ok.call ∷ []) c.tell_alone.new.seat c.tell_alone.ensures.waits
          c.tell_alone.ensures.staged,
      told (seat_number c.args.seat.now) c.args.work.now c.in-Ok.call (staged c.args.seat.now) (collected c.args.seat.now) (collected c.tell_alone.new.seat)
          (read c.args.image.now) (read c.work_once.new.image) c.in-Ok.ensures.ok c.in-Ok.ensures.reads c.tell_alone.ensures.replied,
    )

pub returns-then-may_ask-clause-told : goal.returns-then-may_ask-clause-told
returns-then-may_ask-clause-told g c =
    let read = read_of g.I.Image.disk g.I.Image.log in (
      staged c.args.seat.now ++ c.in-Ok.call ∷ [],
      c.tell.ensures.asked,
      told (seat_number c.args.seat.now) c.args.work.now c.in-Ok.call (staged c.args.seat.now) (collected c.args.seat.now) (collected c.tell.new.seat)
          (read c.args.image.now) (read c.work_once.new.image) c.in-Ok.ensures.ok c.in-Ok.ensures.reads c.tell.ensures.replied,
    )
