-- The round robin over the software queues (blk-mq: software queues are served in turn; the order is our profile).
use Rattle.std.specs.Prelude.{ℕ, ◌+◌, ◌++◌, take, drop, List, Bool, not, Option}
use Rattle.std.specs.List.{find}
use Rattle.process_queue.specs.declared.Link.{Link}
use Rattle.process_queue.specs.Queue.{queue_slots}
use Rattle.plain.specs.Lists.{is_empty, seats}

-- whether a seat has a queued request
abbrev pub is_waiting : List (Option Link) → ℕ → Bool
is_waiting links seat = not (is_empty (queue_slots seat links))

-- the first seat after `last` with a queued request, in turn, and `last` itself last
abbrev pub next_seat : ℕ → List (Option Link) → Option ℕ
next_seat last links = find (is_waiting links) (drop (last + 1) seats ++ take (last + 1) seats)
