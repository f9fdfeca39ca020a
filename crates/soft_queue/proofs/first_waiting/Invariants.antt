use Rattle.std.proofs.Common.{◌≡◌, ◌-◌}
use Rattle.std.specs.List.{find}
use Rattle.plain.specs.Lists.{numbers}
use Rattle.soft_queue.specs.Turn.{is_waiting}
use Rattle.soft_queue.proofs.first_waiting.Given as goal

-- no seat before this one has a queued request
abbrev pub invariant-loop-seat : goal.invariant-loop-seat
invariant-loop-seat l =
    find (is_waiting l.queues) (numbers l.fn.from (l.end - l.fn.from)) ≡ find (is_waiting l.queues) (numbers l.seat (l.end - l.seat))
