use Rattle.std.proofs.Common.{◌≡◌, ◌+◌, ◌-◌, ◌*◌, ◌≤◌, ◌<◌, [], length, false, is_some}
use Rattle.std.specs.Prelude.{if◌then◌else◌}
use Rattle.session_proto.specs.SoFar.{SoFar}
use Rattle.session_proto.proofs.serving.serve_frames.Given as goal

abbrev pub invariant-pieces : goal.invariant-pieces
invariant-pieces g l =
    (l.is_bad ≡ is_some l.feeder.fault) × (l.is_bad ≡ false → length l.feeder.bytes < 32791)
    × (l.counts.calls ≤ l.frame_limit) × (l.counts.written ≤ l.counts.calls * 32791) × (length l.piece ≡ 8192)
    × SoFar g.A.Asks.asks l.frame_limit
    (record { input = g.R.Read.remaining l.initial.reader; output = g.W.Write.contents l.initial.writer; asker = l.initial.asker })
    (record { input = g.R.Read.remaining l.reader; output = g.W.Write.contents l.writer; asker = l.asker })
    l.feeder [] l.counts.calls l.counts.written

-- a fault ends it; else more calls are asked, or the version is known, or more bytes are held
abbrev pub decreases-pieces : goal.decreases-pieces
decreases-pieces g l = if l.is_bad then 0 else 1 + (l.frame_limit - l.counts.calls) * 100000 + (if is_some l.feeder.version then 0 else 50000) + (40000 - length l.feeder.bytes)
