use Rattle.std.proofs.Common.{sym, arith}
use Rattle.dispatch_core.proofs.Switches.{none_taken}
use Rattle.dispatch_core.proofs.switch.has_request.Goals as goal

pub returns : goal.returns
returns c = sym (none_taken c.args.parts.now.tables.requests (λ j h. c.loop-slot.invariant j (omega (arith, h, c.requires, c.loop-slot-test.false))))
