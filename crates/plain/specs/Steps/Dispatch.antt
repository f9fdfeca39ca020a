-- Dispatch: a request is sent under the lowest free tag. The first of the dispatch list, if there is one, at no cost (blk-mq). Else,
-- scheduler none (blk-mq): the earliest request of the first nonempty queue, in turn from the seat after the last one. Scheduler bfq: the
-- next request of the queue in service.
use Rattle.std.specs.Prelude.{ℕ, ◌+◌, nat_le, nat_lt, Bool, true, false, not, List, [], ◌∷◌, ◌++◌, take, drop, Option, None, Some, if◌then◌else◌}
use Rattle.std.specs.List.{find}
use Rattle.std.specs.Option.{option_map, option_map_or, option_and_then, is_none}
use Rattle.plain.specs.Lists.{numbers, seats, is_empty}
use Rattle.plain.specs.Machine.{WholeRequest, Bfq, Plain, put}
use Rattle.plain.specs.declared.seat.InService.{InService}
use Rattle.plain.specs.Opening.{Limits}
use Rattle.sector_core.specs.declared.config.Scheduler.{Scheduler}
use Rattle.sector_core.specs.declared.config.Scheduler.TheVariants.{Plain as PlainScheduler, Bfq as BfqScheduler}
use Rattle.plain.specs.Next.{next_of, has_start}
use Rattle.plain.specs.declared.seat.Expiry.TheVariants.{Exhaustion, Timeout, Emptying}
use Rattle.plain.specs.Rules.{select, charge, expire}
use Rattle.plain.specs.declared.answer.Code.TheVariants.{NothingQueued, NoTag}
use Rattle.plain.specs.declared.answer.Reply.{Reply}
use Rattle.plain.specs.declared.answer.Reply.TheVariants.{Issued}
use Rattle.plain.specs.declared.answer.Answer.TheVariants.{Refused}
use Rattle.plain.specs.Tests.{StepResult, accepted, accepted_if}
use Rattle.plain.specs.Requests.{shape, size_of, range_of}

-- the first seat with a request in its queue, in turn from the one after the seat last served (blk-mq: queues in sequence; the turn is our profile)
abbrev pub next_queue : Plain → Option ℕ
next_queue m = find (λ seat. not (is_empty (m.queue seat))) (drop (m.served + 1) seats ++ take (m.served + 1) seats)

-- the lowest tag that bears no request, if there is one (blk-mq has integer tags; the lowest is our profile)
abbrev pub lowest_free : Limits → Plain → Option ℕ
lowest_free l m = find (λ tag. is_none (m.flight tag)) (numbers 0 l.tags)

-- under none: the earliest request of a queue is sent, and its seat is the last one served (blk-mq: none does not reorder; the turn is our profile)
abbrev pub sent : Plain → ℕ → Bool → ℕ → ℕ → List WholeRequest → StepResult
sent m n room seat tag [] = (m, Refused NothingQueued)
sent m n room seat tag (request ∷ requests) = accepted room m
    (record m {
      queue = put m.queue seat requests;
      flight = put m.flight tag (Some (record { issue = n; request = request }));
      served = seat;
    }) (Issued tag n request.op (range_of request.bios))

-- the request of a queue to be served next, by its head (bfq; one direction is our profile)
abbrev pub next_request : Plain → ℕ → Option WholeRequest
next_request m seat = next_of shape (m.queue seat) (m.head seat)

-- how many sectors the next request of a queue has, which its budget must have room for (bfq: budgets are in sectors)
abbrev pub next_size : Plain → ℕ → ℕ
next_size m seat = option_map_or (λ request. size_of request.bios) (next_request m seat) 0

-- a queue has a request (bfq)
abbrev pub has_queued : Plain → ℕ → Bool
has_queued m seat = not (is_empty (m.queue seat))

-- bfq: a queue that has been in service for too many ticks expires, and so does one whose budget has no room for its next request
-- (ticks, and that they are asked about first, are our profile)
abbrev pub with_budget_in : Limits → Plain → Option InService → Option Bfq
with_budget_in l m None = Some m.bfq
with_budget_in l m (Some current) =
    if nat_le l.timeout current.age then expire Timeout l.max_budget (has_queued m current.seat) m.bfq
    else if nat_lt (m.bfq.budget current.seat) (current.service + next_size m current.seat) then expire Exhaustion l.max_budget (has_queued m current.seat) m.bfq
    else Some m.bfq

-- bfq: if no queue is in service now, one is selected
abbrev pub with_selected : Bfq → Bfq
with_selected b = if is_none b.in_service then select b else b

-- a list without its first element that passes a test (our profile)
abbrev pub without_first : {A : Type 0} → (A → Bool) → List A → List A
without_first passes [] = []
without_first passes (x ∷ xs) = if passes x then xs else x ∷ without_first passes xs

-- bfq: a queue that is empty now expires
abbrev pub without_empty : Limits → List WholeRequest → Bfq → Option Bfq
without_empty l queue b = if is_empty queue then expire Emptying l.max_budget false b else Some b

-- bfq: a queue's next request is charged and leaves the queue, whose head is the request's end then (the head is our profile, as the kernel's code)
abbrev pub sent_next : Limits → Plain → ℕ → ℕ → Bfq → ℕ → WholeRequest → Option (Plain × Reply)
sent_next l m n tag b seat request =
    let range = range_of request.bios in
    let queue = without_first (has_start shape range.start) (m.queue seat) in
    option_map
    (λ c. (
      record m {
        queue = put m.queue seat queue;
        head = put m.head seat (range.start + range.count);
        flight = put m.flight tag (Some (record { issue = n; request = request }));
        bfq = c;
      },
      Issued tag n request.op range,
    ))
    (option_and_then (without_empty l queue) (charge range.count b))

-- the next request of the queue in service is sent; it is refused if there is no queue or no request, which never comes (bfq: one queue is served
-- at a time; the refusal is our profile)
abbrev pub sent_in : Limits → Plain → ℕ → ℕ → Bfq → Option (Plain × Reply)
sent_in l m n tag b = option_and_then (λ current. option_and_then (sent_next l m n tag b current.seat) (next_request m current.seat)) b.in_service

-- under bfq: a queue in service that is due expires, one is selected if none is in service then, and its next request is sent (bfq)
abbrev pub sent_by_bfq : Limits → Plain → ℕ → ℕ → Option (Plain × Reply)
sent_by_bfq l m n tag = option_and_then (λ b. sent_in l m n tag (with_selected b)) (with_budget_in l m m.bfq.in_service)

-- under none the queue in turn is served, and under bfq the queue in service (blk-mq for none, bfq)
abbrev pub sent_by : Limits → Plain → ℕ → Bool → ℕ → ℕ → Scheduler → StepResult
sent_by l m n room seat tag PlainScheduler = sent m n room seat tag (m.queue seat)
sent_by l m n room seat tag BfqScheduler = accepted_if room m (sent_by_bfq l m n tag)

-- a queued request is sent if there is one and a tag is free for it; which one, the scheduler says, and bfq does not ask for the seat in turn
-- (blk-mq: each request has a tag; the refusals are our profile)
abbrev pub dispatch_to : Limits → Plain → ℕ → Bool → Option ℕ → Option ℕ → StepResult
dispatch_to l m n room None tag = (m, Refused NothingQueued)
dispatch_to l m n room (Some seat) None = (m, Refused NoTag)
dispatch_to l m n room (Some seat) (Some tag) = sent_by l m n room seat tag m.scheduler

-- blk-mq: the first of the dispatch list goes before all others, with no charge, no move of a head and no turn of a seat (no charge is our profile)
abbrev pub sent_again : Plain → ℕ → Bool → WholeRequest → List WholeRequest → Option ℕ → StepResult
sent_again m n room request requests None = (m, Refused NoTag)
sent_again m n room request requests (Some tag) = accepted room m
    (record m {
      requeued = requests;
      flight = put m.flight tag (Some (record { issue = n; request = request }));
    }) (Issued tag n request.op (range_of request.bios))

-- the dispatch list is asked first, and the queues only if it is empty (blk-mq)
abbrev pub dispatch_of : Limits → Plain → ℕ → Bool → List WholeRequest → StepResult
dispatch_of l m n room [] = dispatch_to l m n room (next_queue m) (lowest_free l m)
dispatch_of l m n room (request ∷ requests) = sent_again m n room request requests (lowest_free l m)

-- what a Dispatch does on a machine, by the dispatch list that it has (blk-mq)
abbrev pub dispatch : Limits → Plain → ℕ → Bool → StepResult
dispatch l m n room = dispatch_of l m n room m.requeued
