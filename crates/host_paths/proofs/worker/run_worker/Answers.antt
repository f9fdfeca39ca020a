use Rattle.std.proofs.Common.{inl, refl}
use Rattle.host_core.specs.Seats.{seat_number, staged, collected}
use Rattle.host_paths.specs.Working.{read_of}
use Rattle.host_paths.proofs.Rounds.{made-none, from-asked}
use Rattle.host_paths.proofs.worker.run_worker.Goals as goal

pub returns-then-is_worn-clause-works : goal.returns-then-is_worn-clause-works
returns-then-is_worn-clause-works g c = (
  staged c.args.seat.now,
  inl refl,
  made-none (seat_number c.args.seat.now) (staged c.args.seat.now) (collected c.args.seat.now) (read_of g.I.Image.disk g.I.Image.log c.args.image.now),
)

pub returns-clause-works : goal.returns-clause-works
returns-clause-works g c =
    let read = read_of g.I.Image.disk g.I.Image.log in
    from-asked c.args.seat.now c.ask.new.seat c.go_round.new.seat c.go_round.result (read c.args.image.now) (read c.go_round.new.image)
    c.ask.ensures.asked c.ask.ensures.collected c.ask.ensures.seat.2 c.go_round.ensures.rounds
