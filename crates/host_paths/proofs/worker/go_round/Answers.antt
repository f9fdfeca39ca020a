use Rattle.std.proofs.Common.{subst, sym, ◌∙◌}
use Rattle.host_core.specs.Seats.{seat_number, staged}
use Rattle.host_paths.specs.declared.worker.Round.TheVariants.{Told, Pauses, Waits, Ended}
use Rattle.host_paths.specs.Working.{HasAsked, IsGoing, IsRound, Stands, read_of}
use Rattle.host_paths.proofs.Rounds.{rounds-ask, rounds-more, rounds-none, seat-none, seat-twice}
use Rattle.host_paths.proofs.worker.go_round.Goals as goal

pub loop-init : goal.loop-init
loop-init g c = (
  c.requires.owed,
  seat-none c.args.seat.now,
  c.requires.countable,
  rounds-none (seat_number c.args.seat.now) c.args.seat.now (read_of g.I.Image.disk g.I.Image.log c.args.image.now),
)

pub loop-preserved-in-Told : goal.loop-preserved-in-Told
loop-preserved-in-Told g c =
    let was = c.loop.invariant in
    let read = read_of g.I.Image.disk g.I.Image.log in
    let number = seat_number c.args.seat.now in (
      subst (λ r. Stands r c.work.new.seat) c.in-Told.is c.work.ensures.stands,
      seat-twice c.args.seat.now c.loop.seat c.work.new.seat was.1 c.work.ensures.seat,
      c.work.ensures.countable (subst IsGoing (sym c.in-Told.is) tt),
      rounds-more number Told c.args.seat.now c.loop.seat c.work.new.seat (read c.args.image.now) (read c.loop.image) (read c.work.new.image) was.3
          (subst (λ r. IsRound number r c.loop.seat (read c.loop.image) c.work.new.seat (read c.work.new.image)) c.in-Told.is
          (subst (λ n. IsRound n c.work.result c.loop.seat (read c.loop.image) c.work.new.seat (read c.work.new.image)) was.1.2 c.work.ensures.round)),
    )

pub loop-preserved-in-Pauses : goal.loop-preserved-in-Pauses
loop-preserved-in-Pauses g c =
    let was = c.loop.invariant in
    let read = read_of g.I.Image.disk g.I.Image.log in
    let number = seat_number c.args.seat.now in (
      subst (λ r. Stands r c.work.new.seat) c.in-Pauses.is c.work.ensures.stands,
      seat-twice c.args.seat.now c.loop.seat c.work.new.seat was.1 c.work.ensures.seat,
      c.work.ensures.countable (subst IsGoing (sym c.in-Pauses.is) tt),
      rounds-more number Pauses c.args.seat.now c.loop.seat c.work.new.seat (read c.args.image.now) (read c.loop.image) (read c.work.new.image) was.3
          (subst (λ r. IsRound number r c.loop.seat (read c.loop.image) c.work.new.seat (read c.work.new.image)) c.in-Pauses.is
          (subst (λ n. IsRound n c.work.result c.loop.seat (read c.loop.image) c.work.new.seat (read c.work.new.image)) was.1.2 c.work.ensures.round)),
    )

pub loop-preserved : goal.loop-preserved
loop-preserved g c =
    let was = c.loop.invariant in
    let read = read_of g.I.Image.disk g.I.Image.log in
    let number = seat_number c.args.seat.now in
    let same = c.work.ensures.seat.2 ∙ was.1.2 in (
      c.ask.ensures.owed,
      seat-twice c.args.seat.now c.work.new.seat c.ask.new.seat (seat-twice c.args.seat.now c.loop.seat c.work.new.seat was.1 c.work.ensures.seat) c.ask.ensures.seat,
      c.work.ensures.countable (subst IsGoing (sym c.in-Waits.is) tt),
      rounds-ask number c.args.seat.now c.work.new.seat c.ask.new.seat (read c.args.image.now) (read c.work.new.image)
          (rounds-more number Waits c.args.seat.now c.loop.seat c.work.new.seat (read c.args.image.now) (read c.loop.image) (read c.work.new.image) was.3
          (subst (λ r. IsRound number r c.loop.seat (read c.loop.image) c.work.new.seat (read c.work.new.image)) c.in-Waits.is
          (subst (λ n. IsRound n c.work.result c.loop.seat (read c.loop.image) c.work.new.seat (read c.work.new.image)) was.1.2 c.work.ensures.round)))
          (subst (λ n. HasAsked n (staged c.work.new.seat) c.ask.new.seat) same c.ask.ensures.asked) c.ask.ensures.collected,
    )

pub returns-in-Ended-clause-rounds : goal.returns-in-Ended-clause-rounds
returns-in-Ended-clause-rounds g c =
    let was = c.loop.invariant in
    let read = read_of g.I.Image.disk g.I.Image.log in
    let number = seat_number c.args.seat.now in
    rounds-more number (Ended c.in-Ended.end) c.args.seat.now c.loop.seat c.work.new.seat (read c.args.image.now) (read c.loop.image) (read c.work.new.image) was.3
    (subst (λ r. IsRound number r c.loop.seat (read c.loop.image) c.work.new.seat (read c.work.new.image)) c.in-Ended.is
    (subst (λ n. IsRound n c.work.result c.loop.seat (read c.loop.image) c.work.new.seat (read c.work.new.image)) was.1.2 c.work.ensures.round))
