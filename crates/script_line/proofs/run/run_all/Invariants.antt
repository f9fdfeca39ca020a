use Rattle.std.proofs.Common.{◌+◌, ◌*◌, ◌-◌, [], length}
use Rattle.script_line.specs.Steps.{SoFar}
use Rattle.script_line.proofs.run.run_all.Given as goal

abbrev pub invariant-loop-count : goal.invariant-loop-count
invariant-loop-count g l = SoFar g.C.Console.prints
    (g.R.Read.remaining l.initial.reader) (g.R.Read.remaining l.reader)
    (g.W.Write.contents l.initial.writer) (g.W.Write.contents l.writer)
    l.initial.console l.console l.held.count l.held.begun.items []

abbrev pub decreases-loop-count : goal.decreases-loop-count
decreases-loop-count g l = 1048576 * 300 + 300 - (l.held.count * 300 + length l.held.begun.items)
