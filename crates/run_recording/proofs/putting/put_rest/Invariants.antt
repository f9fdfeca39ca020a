use Rattle.std.proofs.Common.{length, ◌-◌, ◌≤◌}
use Rattle.run_recording.specs.Recorded.{HasRecorded}
use Rattle.run_recording.proofs.putting.put_rest.Given as goal

abbrev pub invariant-loop-name : goal.invariant-loop-name
invariant-loop-name g l =
    l.initial.next ≤ length (g.B.Judges.pages l.book).entries → HasRecorded (g.W.Write.contents l.initial.writer) (g.W.Write.contents l.writer) (g.B.Judges.pages l.book).entries l.initial.next l.next

abbrev pub decreases-loop-name : goal.decreases-loop-name
decreases-loop-name g l = length (g.B.Judges.pages l.book).entries - l.next
