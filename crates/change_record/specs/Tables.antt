-- What stands at each place: lists and one finite map, with no rule that joins them (our profile).
use Rattle.std.specs.Prelude.{ℕ, Bool, false, List, [], ◌++◌, Option, None, replicate}
use Rattle.std.specs.FinMap as map
use Rattle.arrayvec.specs.ArrayVec.{ArrayVec}
use Rattle.sector_core.specs.declared.bio.BioFields.{BioFields as Bio}
use Rattle.sector_core.specs.declared.config.Scheduler.{Scheduler}
use Rattle.request_pool.specs.declared.RequestFields.{RequestFields as Request}
use Rattle.tag_set.specs.declared.Issue.{Issue}
use Rattle.process_queue.specs.declared.Link.{Link}
use Rattle.plain.specs.Classes.{Classes}
use Rattle.plain.specs.declared.seat.Seat.{Seat}
use Rattle.plain.specs.declared.seat.InService.{InService}
use Rattle.change_record.specs.declared.change.Making.{Making}
use Rattle.plain.specs.Machine.{Blocks}
use Rattle.plain.specs.Opening.{empty_service}

pub record Tables : Type 0 where
  pub overlay : Blocks
  pub requests : List (Option Request)
  pub bios : List (Option Bio)
  pub tags : List (Option Issue)
  pub links : List (Option Link)
  -- the links of the dispatch list, which is one queue, that of number 0
  pub requeued : List (Option Link)
  pub outboxes : List (ArrayVec ℕ)
  pub seats : List (Option Seat)
  pub frozen : Bool
  pub served : ℕ
  -- where each queue's head is, a sector
  pub heads : List ℕ
  -- of each group its virtual times and its members
  pub trees : List Classes
  -- of each entity its group, its pending weight and its budget
  pub parents : List (Option ℕ)
  pub weights : List ℕ
  pub budgets : List ℕ
  pub in_service : Option InService
  pub scheduler : Scheduler

-- the tables, and how many exchanges were made on them
pub record Loose : Type 0 where
  pub tables : Tables
  pub turns : ℕ

-- the tables of a new machine: every place is free, and the round robin begins at seat 0
abbrev pub empty_tables : Making → Tables
empty_tables making = record {
  overlay = map.empty;
  requests = replicate making.requests None;
  bios = replicate 512 None;
  tags = replicate making.tags None;
  links = replicate making.requests None;
  requeued = replicate making.requests None;
  outboxes = replicate 16 (record { items = [] });
  seats = replicate 16 None;
  frozen = false;
  served = 15;
  heads = replicate 16 0;
  trees = replicate 32 (empty_service making.first_vtime);
  parents = replicate 48 None;
  weights = replicate 48 1;
  budgets = replicate 16 making.first_budget ++ replicate 32 making.max_budget;
  in_service = None;
  scheduler = making.scheduler;
}
