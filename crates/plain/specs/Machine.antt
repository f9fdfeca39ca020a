-- The plain machine: lists, maps and a few numbers. What a reader has to believe is said on it alone.
use Rattle.std.specs.Prelude.{ℕ, List, Option, ◌==◌, Bool, if◌then◌else◌}
use Rattle.std.specs.Ordering.{nat_cmp}
use Rattle.std.specs.FinMap as map
use Rattle.sector_core.specs.declared.bio.Op.{Op}
use Rattle.sector_core.specs.declared.bio.BioFields.{BioFields as Bio}
use Rattle.plain.specs.declared.seat.Seat.{Seat}
use Rattle.plain.specs.declared.seat.InService.{InService}
use Rattle.plain.specs.Classes.{Classes}
use Rattle.sector_core.specs.declared.config.Scheduler.{Scheduler}

-- a finite map from sectors to blocks (our profile)
abbrev pub Blocks : Type 0
Blocks = map.FinMap nat_cmp (List ℕ)

-- blk-mq: a request is what is sent to the device as one; its bios are in the order of their sectors
pub record WholeRequest : Type 0 where
  -- the session of all its bios (our profile)
  pub session : ℕ
  -- what all its bios do: fetch or store (our profile, as the kernel's code)
  pub op : Op
  -- its bios, each of which begins where the one before it ends (blk-mq)
  pub bios : List Bio

-- blk-mq: a request in flight is known by its tag; the issue is the serial of its dispatch (our profile)
pub record Flight : Type 0 where
  -- what tells this use of its tag from the next one (our profile)
  pub issue : ℕ
  -- the request that the device has (blk-mq)
  pub request : WholeRequest

-- bfq: hierarchical scheduling by weights. Seat n is entity n, and group g from 1 on is entity 16 + g (our profile).
pub record Bfq : Type 0 where
  -- the group that an entity is in, if it is in one; group 0 is the root (bfq; the number is our profile)
  pub parent : ℕ → Option ℕ
  -- B-WF2Q+: of each group its virtual time in each class (bfq), and its members: of each its class, state, start, finish and weight in effect
  pub service : ℕ → Classes
  -- the weight that an entity gets when it is stamped next (our profile, as the kernel's code)
  pub pending : ℕ → ℕ
  -- bfq: how many sectors the queue of a session may be served at a time; a group's number makes its finish alone
  pub budget : ℕ → ℕ
  -- bfq: the one queue in service, if one is: its seat, the sectors sent for it, and its age in ticks (ticks are our profile)
  pub in_service : Option InService

-- all that a host is at one moment: its clients and their requests, what is stored, and what the scheduler knows (our profile)
pub record Plain : Type 0 where
  -- the blocks that have been stored, by sector (our profile)
  pub overlay : Blocks
  -- who sits at a seat, if anyone does (our profile)
  pub seat : ℕ → Option Seat
  -- blk-mq: the software queue of a seat, in order of insertion (one for each seat is our profile)
  pub queue : ℕ → List WholeRequest
  -- blk-mq: the dispatch list, the requests that the device gave back, the first of them first (one for the host is our profile)
  pub requeued : List WholeRequest
  -- the completed bios of a seat that are not yet reaped, in order (our profile)
  pub outbox : ℕ → List Bio
  -- the request in flight that a tag bears, if it bears one (blk-mq; the issue is our profile)
  pub flight : ℕ → Option Flight
  -- whether submits wait (blk-mq)
  pub frozen : Bool
  -- the seat that the round robin served last (our profile)
  pub served : ℕ
  -- the sector from which a seat's queue is served next: the end of what was sent last (our profile, as the kernel's code)
  pub head : ℕ → ℕ
  -- what BFQ knows of entities and groups (bfq)
  pub bfq : Bfq
  -- the scheduler that the host has: bfq or none (blk-mq)
  pub scheduler : Scheduler

-- a function with another value at one number (our profile)
abbrev pub put : {A : Type 0} → (ℕ → A) → ℕ → A → ℕ → A
put f k v n = if n == k then v else f n
