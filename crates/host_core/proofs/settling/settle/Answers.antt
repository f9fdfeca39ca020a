use Rattle.std.proofs.Common.{◌<◌, length, refl, sym, subst}
use Rattle.std.proofs.Math.Logic.{∥∥₁_map}
use Rattle.host_core.specs.RowSettling.{name_of, staged_calls, collected_replies, IsSettled}
use Rattle.host_core.specs.Visits.{AllReady}
use Rattle.host_core.specs.Names.{AreNamed}
use Rattle.host_core.specs.Keeping.{AreKept, AreShut}
use Rattle.host_core.proofs.First.{first-of}
use Rattle.host_core.proofs.settling.settle.Goals as goal

pub invariant_of-core : goal.invariant_of-core
invariant_of-core g c =
    let was = c.args.core.now.core in
    let same = sym c.settle.ensures.rows in
    record {
      kept = subst (λ rs. ∥ AreKept (g.B.Judges.pages was.book) rs ∥₁) same was.kept;
      named = subst AreNamed same was.named;
      ready = λ e. subst AllReady same (was.ready e);
      shut = λ e. subst AreShut same (was.shut e);
      within = subst (λ rs. was.next < length rs) same was.within;
    }

pub returns-clause-settles : goal.returns-clause-settles
returns-clause-settles g c = refl

pub returns-clause-settled : goal.returns-clause-settled
returns-clause-settled g c = c.settle.ensures.settled

pub returns-clause-ended : goal.returns-clause-ended
returns-clause-ended g c = refl

pub returns-clause-first : goal.returns-clause-first
returns-clause-first g c =
    let was = c.args.core.now.core in
    let end = c.args.end in
    let same = sym c.settle.ensures.rows in
    ∥∥₁_map was.kept (λ h. first-of (g.B.Judges.pages was.book) _ end c.settle.result.left c.settle.result.uncollected
    (subst (λ rs. IsSettled rs (name_of end) (staged_calls end) (collected_replies end) c.settle.result.left c.settle.result.uncollected) same c.settle.ensures.settled)
    (subst (AreKept (g.B.Judges.pages was.book)) same h))
