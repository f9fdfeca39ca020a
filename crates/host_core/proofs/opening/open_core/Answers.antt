use Rattle.std.proofs.Common.{refl, arith}
use Rattle.std.proofs.lemmas.Bool.{false≢true}
use Rattle.host_core.specs.Desks.{rows}
use Rattle.host_core.proofs.Fresh.{kept-fresh, ready-fresh, named-fresh, idle-fresh, seated-fresh, beside-fresh}
use Rattle.host_core.proofs.opening.open_core.Goals as goal

pub invariant_of-core : goal.invariant_of-core
invariant_of-core g c =
    let opened = c.in_ok-desks.ensures.rows in
    let desks = c.in_ok-desks.desks in
    record {
      kept = ∣ kept-fresh (g.B.Judges.pages c.args.book) 16 c.args.workers (rows desks) c.requires.entries opened ∣₁;
      named = named-fresh 16 c.args.workers (rows desks) opened;
      ready = λ _. ready-fresh 16 c.args.workers (rows desks) opened;
      shut = λ e. absurd (false≢true e);
      within = omega (arith, opened.long);
    }

pub returns-clause-seats : goal.returns-clause-seats
returns-clause-seats g c = c.in_ok-desks.ensures.rows

pub returns-clause-journal : goal.returns-clause-journal
returns-clause-journal g c = (refl, refl)

pub returns-clause-pairs : goal.returns-clause-pairs
returns-clause-pairs g c =
    let pairs = c.in_ok-desks.ensures.pairs in
    record { callers_are = pairs.callers; devices_are = pairs.devices; operator_is = pairs.operator }

pub returns-clause-idle : goal.returns-clause-idle
returns-clause-idle g c =
    let pairs = c.in_ok-desks.ensures.pairs in
    let seats = c.in_ok-desks.seats in
    let desks = c.in_ok-desks.desks in (
      idle-fresh 16 seats.callers.items desks.callers.items pairs.callers,
      idle-fresh c.args.workers seats.devices.items desks.devices.items pairs.devices,
      (pairs.operator.staged, pairs.operator.collected, pairs.operator.unclosed),
    )

pub returns-clause-seated : goal.returns-clause-seated
returns-clause-seated g c =
    let pairs = c.in_ok-desks.ensures.pairs in
    let seats = c.in_ok-desks.seats in
    let desks = c.in_ok-desks.desks in (
      seated-fresh 16 seats.callers.items desks.callers.items pairs.callers,
      seated-fresh c.args.workers seats.devices.items desks.devices.items pairs.devices,
      beside-fresh 0 seats.operator desks.operator pairs.operator,
    )
