-- Tables on which the rules of BFQ run: their lengths, and the bounds of their numbers (our profile).
use Rattle.std.specs.Prelude.{◌≡◌, ℕ, ◌<◌, ◌≤◌, ◌^◌, List, length, Option, None, Some, slice_index_or}
use Rattle.sector_core.specs.declared.class.Class.{Class}
use Rattle.plain.specs.declared.member.Member.{Member}
use Rattle.plain.specs.Classes.{Classes, time_of}
use Rattle.plain.specs.Groups.{parent}
use Rattle.plain.specs.declared.seat.InService.{InService}
use Rattle.change_record.specs.Tables.{Tables}
use Rattle.plain.specs.Machine.{Bfq}

-- the lengths of the tables; groups are below 32, and a seat below 16 is in service
pub record IsSizedIn (ts : List Classes) (ps : List (Option ℕ)) (ws bs : List ℕ) (slot : Option InService) : Type 0 where
  pub trees : length ts ≡ 32
  pub parents : length ps ≡ 48
  pub weights : length ws ≡ 48
  pub budgets : length bs ≡ 48
  pub groups : (entity group : ℕ) → parent ps entity ≡ Some group → group < 32
  pub seat : (s : InService) → slot ≡ Some s → s.seat < 16

abbrev pub IsSized : Tables → Type 0
IsSized t = IsSizedIn t.trees t.parents t.weights t.budgets t.in_service

-- the times are at most 2^62, the budgets 256 to 65536, and the service in the slot is at most 65536
pub record IsBounded (b : Bfq) : Type 0 where
  pub vtimes : (group : ℕ) (class : Class) → time_of (b.service group).vtimes class ≤ 2 ^ 62
  pub starts : (group entity : ℕ) (m : Member) → slice_index_or (b.service group).members entity None ≡ Some m → m.start ≤ 2 ^ 62
  pub finishes : (group entity : ℕ) (m : Member) → slice_index_or (b.service group).members entity None ≡ Some m → m.finish ≤ 2 ^ 62
  pub least_budgets : (entity : ℕ) → 256 ≤ b.budget entity
  pub most_budgets : (entity : ℕ) → b.budget entity ≤ 65536
  pub served : (slot : InService) → b.in_service ≡ Some slot → slot.service ≤ 65536

-- the tables with other trees, budgets and slot
abbrev pub OnlyServes : Tables → Tables → Type 0
OnlyServes before now = now ≡ record before { trees = now.trees; budgets = now.budgets; in_service = now.in_service }
