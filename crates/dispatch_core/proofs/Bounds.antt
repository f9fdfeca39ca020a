-- How many exchanges a step makes at most.
use Rattle.std.proofs.Common.{◌≡◌, ℕ, ◌+◌, ◌≤◌, List, [], ◌∷◌, length, Option, None, Some, is_some, Bool, true, false, ◌&&◌, cond, refl, arith}
use Rattle.std.proofs.lemmas.List.Sums.{count_by-le-length}
use Rattle.std.proofs.lemmas.List.Elements.{All-nil}
use Rattle.sector_core.specs.declared.config.Scheduler.{Scheduler}
use Rattle.sector_core.specs.declared.config.Scheduler.TheVariants.{Plain as PlainScheduler, Bfq as BfqScheduler}
use Rattle.dispatch_core.proofs.Words.{numbers, is_empty, Outcome, Effect, effect_of, WholeRequest, Plain, Flight, Limits, opening, size_of, merge_in}
use Rattle.sector_core.specs.declared.bio.Effect.TheVariants.{Reads, Writes, Clears, Fails}
use Rattle.plain.specs.declared.step.Step.{Step}
use Rattle.plain.specs.declared.step.Step.TheVariants.{Attach, Submit, Reap, Leave, Dispatch, Finish, Requeue, GroupMake, GroupDrop, SetWeight, Freeze, Thaw, Switch, Tick}
use Rattle.plain.specs.Entities.{is_bfq}
use Rattle.plain_laws.specs.Whole.{IsWhole, AreWhole}
use Rattle.dispatch_core.specs.Counts.{blocks_put, finish_exchanges, submit_exchanges, dispatch_exchanges, switch_exchanges, is_of_leaver, exchanges_of, rule_exchanges}

-- no more blocks are put than there are sectors
blocks_few : (effect : Effect) (sectors : ℕ) → blocks_put effect sectors ≤ sectors
blocks_few (Reads bytes) sectors = omega arith
blocks_few Writes sectors = omega arith
blocks_few Clears sectors = omega arith
blocks_few (Fails kind) sectors = omega arith

-- a bio makes four exchanges at most
submit_few : (found : Option (WholeRequest × Bool)) → submit_exchanges found ≤ 4
submit_few None = omega arith
submit_few (Some found) = omega arith

-- a whole request makes 291 at most: its bios, its sectors, and three more
finish_few : (outcome : Outcome) (o : Option Flight) → ((flight : Flight) → o ≡ Some flight → IsWhole flight.request) → finish_exchanges outcome o ≤ 291
finish_few outcome None whole = omega arith
finish_few outcome (Some flight) whole =
    let w : IsWhole flight.request = whole flight refl in
    omega (arith, w.few_bios, w.few_sectors, blocks_few (effect_of outcome flight.request.op) (size_of flight.request.bios))

-- the rules of bfq make five at most, or 31
rules_few : (b : Bool) (k : ℕ) → k ≤ 31 → cond b k 0 ≤ 31
rules_few true k h = h
rules_few false k h = omega arith

-- a dispatch makes three of its own
dispatch_few : (requests : List WholeRequest) → dispatch_exchanges requests ≤ 3
dispatch_few [] = omega arith
dispatch_few (request ∷ requests) = omega arith

-- a switch begins the times of no more than 48 entities again
switch_few : (m : Plain) (scheduler : Scheduler) → switch_exchanges m scheduler ≤ 113
switch_few m PlainScheduler = omega arith
switch_few m BfqScheduler = omega (arith, count_by-le-length (λ entity. is_some (m.bfq.parent entity)) (numbers 0 48))

-- so no step makes more than 512, where no outbox has more than 32 bios
pub exchanges_few : (m : Plain) (s : Step) → AreWhole m → ((seat : ℕ) → length (m.outbox seat) ≤ 32) → exchanges_of m s + rule_exchanges m s ≤ 512
exchanges_few m (Attach seat group prio class) whole short = omega arith
exchanges_few m (Submit seat session op range payload) whole short = omega (arith, submit_few (merge_in m seat session op range), rules_few (is_bfq m.scheduler) 5 (omega arith))
exchanges_few m (Reap seat session) whole short = omega arith
exchanges_few m (Leave seat why) whole short = omega (arith, short seat)
exchanges_few m Dispatch whole short = omega (arith, dispatch_few m.requeued, rules_few (is_empty m.requeued && is_bfq m.scheduler) 31 (omega arith))
exchanges_few m (Finish tag issue outcome) whole short =
    omega (arith, finish_few outcome (m.flight tag) (whole.flying tag), rules_few (is_of_leaver m (m.flight tag)) 2 (omega arith))
exchanges_few m (Requeue tag issue) whole short = omega arith
exchanges_few m (GroupMake parent weight) whole short = omega arith
exchanges_few m (GroupDrop group) whole short = omega arith
exchanges_few m (SetWeight group weight) whole short = omega arith
exchanges_few m Freeze whole short = omega arith
exchanges_few m Thaw whole short = omega arith
exchanges_few m (Switch scheduler) whole short = omega (arith, switch_few m scheduler)
exchanges_few m Tick whole short = omega arith

-- a machine before its first step has no request
pub opening-whole : (l : Limits) → AreWhole (opening l)
opening-whole l = record { queued = λ seat. All-nil IsWhole; requeued = All-nil IsWhole; flying = λ tag flight e. cc }
