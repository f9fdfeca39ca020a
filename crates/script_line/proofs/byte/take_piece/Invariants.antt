use Rattle.std.proofs.Common.{◌+◌, ◌*◌, ◌≤◌, length}
use Rattle.script_line.specs.Script.{Known}
use Rattle.script_line.specs.Steps.{SoFar}
use Rattle.script_line.proofs.byte.take_piece.Given as goal

abbrev pub invariant-loop-rest : goal.invariant-loop-rest
invariant-loop-rest g l = record {
  few : l.held.count ≤ 1048576;
  grows : l.initial.held.count * 300 + length l.initial.held.begun.items + length l.piece ≤ l.held.count * 300 + length l.held.begun.items + length l.rest;
  taken : (r0 r1 w0 : Known) (c0 : g.row.C.Denot)
      → SoFar g.C.Console.prints r0 r1 w0 (g.W.Write.contents l.initial.writer) c0 l.initial.console l.initial.held.count l.initial.held.begun.items l.piece
      → SoFar g.C.Console.prints r0 r1 w0 (g.W.Write.contents l.writer) c0 l.console l.held.count l.held.begun.items l.rest;
}

abbrev pub decreases-loop-rest : goal.decreases-loop-rest
decreases-loop-rest g l = length l.rest
