use Rattle.host_rings.proofs.Best.{not-others}
use Rattle.host_rings.proofs.takes.is_others.Goals as goal

pub returns-clause-free : goal.returns-clause-free
returns-clause-free c = λ no. not-others c.args.lasts.now c.args.own c.args.issue c.loop-device.device c.loop-device-test.false c.loop-device.invariant
