-- How many exchanges an accepted step records (our profile).
use Rattle.std.specs.Prelude.{ℕ, ◌+◌, ◌≤◌, Bool, false, ◌&&◌, List, [], ◌∷◌, length, Option, None, Some, is_some, if◌then◌else◌}
use Rattle.std.specs.List.{count_by}
use Rattle.std.specs.Option.{option_map_or}
use Rattle.sector_core.specs.declared.config.Scheduler.{Scheduler}
use Rattle.sector_core.specs.declared.config.Scheduler.TheVariants.{Plain as PlainScheduler, Bfq as BfqScheduler}
use Rattle.plain.specs.Lists.{numbers, is_empty}
use Rattle.sector_core.specs.declared.bio.Outcome.{Outcome}
use Rattle.sector_core.specs.declared.bio.Effect.{Effect}
use Rattle.sector_core.specs.declared.bio.Effect.TheVariants.{Reads, Writes, Clears, Fails}
use Rattle.plain.specs.Machine.{WholeRequest, Plain, Flight}
use Rattle.plain.specs.declared.step.Step.{Step}
use Rattle.plain.specs.declared.step.Step.TheVariants.{Attach, Submit, Reap, Leave, Dispatch, Finish, Requeue, GroupMake, GroupDrop, SetWeight, Freeze, Thaw, Switch, Tick}
use Rattle.plain.specs.Requests.{size_of}
use Rattle.plain.specs.Steps.Submit.{merge_in}
use Rattle.plain.specs.Entities.{is_bfq}
use Rattle.plain.specs.Sessions.{is_leaving}
use Rattle.plain.specs.Steps.Finish.{effect_of, seat_of}

-- a store puts one block at each of its sectors, and so does a discard; another effect none
abbrev pub blocks_put : Effect → ℕ → ℕ
blocks_put (Reads bytes) sectors = 0
blocks_put Writes sectors = sectors
blocks_put Clears sectors = sectors
blocks_put (Fails kind) sectors = 0

-- of a Finish: each bio, the blocks, and then the request, the tag, and the outbox or the entry of a seat that is leaving
abbrev pub finish_exchanges : Outcome → Option Flight → ℕ
finish_exchanges outcome None = 0
finish_exchanges outcome (Some flight) = length flight.request.bios + blocks_put (effect_of outcome flight.request.op) (size_of flight.request.bios) + 3

-- of a Submit: a bio that joins a request has no link of its own
abbrev pub submit_exchanges : Option (WholeRequest × Bool) → ℕ
submit_exchanges None = 4
submit_exchanges (Some found) = 3

-- of a Dispatch: what stands in the dispatch list moves neither a head nor a turn
abbrev pub dispatch_exchanges : List WholeRequest → ℕ
dispatch_exchanges [] = 3
dispatch_exchanges (request ∷ requests) = 2

-- of a Switch: the mode and 16 heads; and to bfq the virtual times of 32 groups, 16 budgets, and the times of each entity that is in a group
abbrev pub switch_exchanges : Plain → Scheduler → ℕ
switch_exchanges m PlainScheduler = 17
switch_exchanges m BfqScheduler = 65 + count_by (λ entity. is_some (m.bfq.parent entity)) (numbers 0 48)

-- Attach: the seat's entry, its queue's head, and of its entity the group, the tree's member, the pending weight and the budget.
-- Submit: the bio, the request, the seat's entry, and for a new request its link. Reap: the outbox, the bio, the seat's entry.
-- Leave: the bios of the outbox, the outbox, the seat's entry. Dispatch: the link, the tag, and the seat last served, or under bfq the
-- queue's head. Requeue: the tag and the link. GroupMake: of its entity the group, the tree's member and the pending weight, and the
-- group's virtual times. GroupDrop: the tree's member and the group. SetWeight: the pending weight. Freeze, Thaw: the mode. Tick: the queue in service.
abbrev pub exchanges_of : Plain → Step → ℕ
exchanges_of m (Attach seat group prio class) = 6
exchanges_of m (Submit seat session op range payload) = submit_exchanges (merge_in m seat session op range)
exchanges_of m (Reap seat session) = 3
exchanges_of m (Leave seat why) = length (m.outbox seat) + 2
exchanges_of m Dispatch = dispatch_exchanges m.requeued
exchanges_of m (Finish tag issue outcome) = finish_exchanges outcome (m.flight tag)
exchanges_of m (Requeue tag issue) = 2
exchanges_of m (GroupMake parent weight) = 4
exchanges_of m (GroupDrop group) = 2
exchanges_of m (SetWeight group weight) = 1
exchanges_of m Freeze = 1
exchanges_of m Thaw = 1
exchanges_of m (Switch scheduler) = switch_exchanges m scheduler
exchanges_of m Tick = 1

-- a request in flight is of a session that leaves
abbrev pub is_of_leaver : Plain → Option Flight → Bool
is_of_leaver m None = false
is_of_leaver m (Some flight) = option_map_or (λ seat. is_leaving (m.seat seat)) (seat_of m flight.request.session) false

-- how many more there may be: under bfq five entities are activated at most; at a dispatch one queue expires, one is selected at five
-- levels, is charged, and expires; and with the last request of a session that leaves its entity goes, the tree's member and the group
abbrev pub rule_exchanges : Plain → Step → ℕ
rule_exchanges m (Attach seat group prio class) = 0
rule_exchanges m (Submit seat session op range payload) = if is_bfq m.scheduler then 5 else 0
rule_exchanges m (Reap seat session) = 0
rule_exchanges m (Leave seat why) = 2
rule_exchanges m Dispatch = if is_empty m.requeued && is_bfq m.scheduler then 31 else 0
rule_exchanges m (Finish tag issue outcome) = if is_of_leaver m (m.flight tag) then 2 else 0
rule_exchanges m (Requeue tag issue) = 0
rule_exchanges m (GroupMake parent weight) = 0
rule_exchanges m (GroupDrop group) = 0
rule_exchanges m (SetWeight group weight) = 0
rule_exchanges m Freeze = 0
rule_exchanges m Thaw = 0
rule_exchanges m (Switch scheduler) = 0
rule_exchanges m Tick = 0

-- the most exchanges that a step may make (our profile)
abbrev pub most_exchanges : ℕ
most_exchanges = 512

-- a number of exchanges of a step: exact but for those of the rules, and never above the bound
pub record IsCount (m : Plain) (s : Step) (count : ℕ) : Type 0 where
  pub least : exchanges_of m s ≤ count
  pub most : count ≤ exchanges_of m s + rule_exchanges m s
  pub bound : count ≤ most_exchanges
