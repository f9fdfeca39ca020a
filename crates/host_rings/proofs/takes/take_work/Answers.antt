use Rattle.std.proofs.Common.{arith}
use Rattle.dispatch_core.specs.Running.{plain_of}
use Rattle.host_rings.proofs.Best.{best-skips, best-nearer, none-free, taken-skips, found-free, best-upto, best-of-all, none-before, none-beyond}
use Rattle.host_rings.proofs.takes.take_work.Goals as goal
use Rattle.host_rings.proofs.takes.take_work.Goals.{in-None, in-Some+then-not-is_others, in-Some+else-not-is_others}

pub loop-tag-preserved : goal.loop-tag-preserved
loop-tag-preserved c = λ n ok. let m = plain_of c.args.view.now in elim c.match-in_flight.branch [
  | in-None w ↦ rw w.best-is (best-skips c.loop-tag.tag m c.args.lasts.now c.args.own c.loop-tag.best
      (none-free c.loop-tag.tag m c.args.lasts.now c.args.own c.in_flight.result w.in-None.is (c.in_flight.ensures n ok))
      (c.loop-tag.invariant n ok))
  | in-Some+then-not-is_others w ↦ rw w.best-is (best-nearer c.loop-tag.tag m c.args.lasts.now c.args.own c.loop-tag.best w.nearer-best.result w.in-Some.work
      (found-free c.loop-tag.tag m c.args.lasts.now c.args.own c.in_flight.result w.in-Some.work w.in-Some.is (c.in_flight.ensures n ok)
      (w.is_others.ensures.free w.if-not-is_others.true))
      w.nearer-best.ensures (c.loop-tag.invariant n ok))
  | in-Some+else-not-is_others w ↦ rw w.best-is (best-skips c.loop-tag.tag m c.args.lasts.now c.args.own c.loop-tag.best
      (taken-skips c.loop-tag.tag m c.args.lasts.now c.args.own c.in_flight.result w.in-Some.work w.in-Some.is (c.in_flight.ensures n ok)
      (w.is_others.ensures.others w.if-not-is_others.false))
      (c.loop-tag.invariant n ok))
]

pub returns : goal.returns
returns c = λ n ok. best-of-all c.tags-tag-end.result (plain_of c.args.view.now) c.args.lasts.now c.args.own c.loop-tag.best
    (λ t past. none-beyond n c.args.view.now ok t (omega (arith, past, c.tags-tag-end.ensures)))
    (best-upto c.loop-tag.tag c.tags-tag-end.result (plain_of c.args.view.now) c.args.lasts.now c.args.own c.loop-tag.best (omega arith) (c.loop-tag.invariant n ok))

pub loop-tag-init : goal.loop-tag-init
loop-tag-init c = λ n ok. none-before (plain_of c.args.view.now) c.args.lasts.now c.args.own
