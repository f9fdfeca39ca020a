use Rattle.std.proofs.Common.{refl}
use Rattle.std.proofs.lemmas.Bool.{true≢false}
use Rattle.std.proofs.Math.Logic.{∥∥₁_map}
use Rattle.host_core.specs.Desks.{rows, lasts}
use Rattle.host_core.proofs.Same.{desks-none}
use Rattle.host_core.proofs.Waiting.{devices-told}
use Rattle.host_core.proofs.Accounts.{kept-any, named-any, shut-last}
use Rattle.host_core.proofs.turns.Core.turn.Goals as goal

pub take_turn-starved-requires-clause-ready : goal.take_turn-starved-requires-clause-ready
take_turn-starved-requires-clause-ready g c = c.args.self.now.ready c.if-self.false

pub invariant_of-self : goal.invariant_of-self
invariant_of-self g c =
    let was = c.args.self.now in
    let now = c.take_turn-starved.new in
    let report = c.take_turn-starved.result.report in
    let turn = c.take_turn-starved.ensures in
    record {
      kept = ∥∥₁_map was.kept (λ h. kept-any (lasts was.desks) (g.B.Judges.pages was.book) (g.B.Judges.pages now.book) (rows was.desks) (rows now.desks) report.answered report.dispatched report.ended (λ e. (turn.turn e).0) turn.last (devices-told was.desks) was.named h);
      named = named-any (lasts was.desks) (g.B.Judges.pages was.book) (g.B.Judges.pages now.book) (rows was.desks) (rows now.desks) report.answered report.dispatched report.ended (λ e. (turn.turn e).0) turn.last was.named;
      ready = turn.ready;
      shut = λ e. shut-last (g.B.Judges.pages was.book) (g.B.Judges.pages now.book) (rows was.desks) (rows now.desks) report.answered report.dispatched (turn.last e);
      within = turn.within;
    }

pub returns-then-self-clause-desks : goal.returns-then-self-clause-desks
returns-then-self-clause-desks g c = desks-none c.args.self.now.desks

pub returns-then-self-clause-stays : goal.returns-then-self-clause-stays
returns-then-self-clause-stays g c = λ _. (refl, refl, refl)

pub returns-clause-turn : goal.returns-clause-turn
returns-clause-turn g c = λ _. c.take_turn-starved.ensures.turn

pub returns-clause-last : goal.returns-clause-last
returns-clause-last g c = λ _. c.take_turn-starved.ensures.last

pub returns-clause-stays : goal.returns-clause-stays
returns-clause-stays g c = λ e. absurd (true≢false (cc))

pub returns-clause-ended : goal.returns-clause-ended
returns-clause-ended g c = refl
