use Rattle.std.proofs.Common.{◌≡◌, ◌+◌, ◌*◌, ◌≤◌, length}
use Rattle.std.specs.Vec.Iter.{into_iter_items}
use Rattle.session_proto.specs.Opened.{HeldCalls}
use Rattle.session_proto.specs.Asked.{Known}
use Rattle.session_proto.specs.SoFar.{SoFar, Standing}
use Rattle.session_proto.proofs.answering.answer_all.Given as goal

abbrev pub invariant-loop-call : goal.invariant-loop-call
invariant-loop-call g l =
    (l.counts.calls ≤ l.frame_limit) × (l.counts.written ≤ l.counts.calls * 32791)
    × (l.counts.calls + length (into_iter_items l.call-iterator) ≡ l.initial.counts.calls + length l.fn.calls.items)
    × ((start : Standing g.row.A.Denot) (input : Known) (held : HeldCalls)
    → SoFar g.A.Asks.asks l.frame_limit start (record { input = input; output = g.W.Write.contents l.initial.writer; asker = l.initial.asker }) held
    l.fn.calls.items l.initial.counts.calls l.initial.counts.written
    → SoFar g.A.Asks.asks l.frame_limit start (record { input = input; output = g.W.Write.contents l.writer; asker = l.asker }) held
    (into_iter_items l.call-iterator) l.counts.calls l.counts.written)
