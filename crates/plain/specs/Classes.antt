-- The members of one group in three classes, in strict order: what is asked of a class is asked of its members alone.
use Rattle.std.specs.Prelude.{◌≡◌, ℕ, ◌==◌, ◌≤◌, Bool, List, [], ◌∷◌, Option, None, Some, is_some, if◌then◌else◌, slice_set}
use Rattle.sector_core.specs.declared.class.Class.{Class}
use Rattle.sector_core.specs.declared.class.Class.TheVariants.{RealTime, BestEffort, Idle}
use Rattle.plain.specs.declared.member.Member.{Member}
use Rattle.plain.specs.declared.member.Vtimes.{Vtimes}
use Rattle.plain.specs.Members.{IsActiveAt, Service, least_start}

-- the virtual times of a group, and its members of all classes by entity number (B-WF2Q+; classes are bfq's, the places by number our profile)
pub record Classes : Type 0 where
  -- a virtual time of each class (B-WF2Q+; one for each class is our profile)
  pub vtimes : Vtimes
  -- the members of all classes, each at the place of its entity's number (bfq; the places are our profile)
  pub members : List (Option Member)

-- the order of the classes, the highest first (bfq)
abbrev pub rank : Class → ℕ
rank RealTime = 0
rank BestEffort = 1
rank Idle = 2

-- the virtual time of a class (B-WF2Q+; one for each class is our profile)
abbrev pub time_of : Vtimes → Class → ℕ
time_of times RealTime = times.real_time
time_of times BestEffort = times.best_effort
time_of times Idle = times.idle

-- the virtual times with this one of a class (B-WF2Q+; one for each class is our profile)
abbrev pub with_time : Vtimes → Class → ℕ → Vtimes
with_time times RealTime vtime = record times { real_time = vtime }
with_time times BestEffort vtime = record times { best_effort = vtime }
with_time times Idle vtime = record times { idle = vtime }

-- every class at the same virtual time (our profile)
abbrev pub same_times : ℕ → Vtimes
same_times vtime = record { real_time = vtime; best_effort = vtime; idle = vtime }

-- a member, if it is of this class (bfq)
abbrev pub only_one : Class → Option Member → Option Member
only_one class None = None
only_one class (Some m) = if rank m.class == rank class then Some m else None

-- the members of this class, each under its number (bfq; the places by number are our profile)
abbrev pub only : Class → List (Option Member) → List (Option Member)
only class [] = []
only class (m ∷ members) = only_one class m ∷ only class members

-- a class of a group: its virtual time, and its members alone (B-WF2Q+ in each class; the classes are bfq's)
abbrev pub of_class : Class → Classes → Service
of_class class g = record { vtime = time_of g.vtimes class; members = only class g.members }

-- a member of this class is active (bfq)
abbrev pub has_active : Class → List (Option Member) → Bool
has_active class members = is_some (least_start (only class members))

-- the highest class with an active member, if a member is active (bfq)
abbrev pub first_class : List (Option Member) → Option Class
first_class members =
    if has_active RealTime members then Some RealTime
    else if has_active BestEffort members then Some BestEffort
    else if has_active Idle members then Some Idle
    else None

-- some active member is of this class (bfq)
pub record HasActive (members : List (Option Member)) (class : Class) : Type 0 where
  pub number : ℕ
  pub member : Member
  pub active_at : IsActiveAt members number member
  pub own : member.class ≡ class

-- some active member is of this class, and none is of a higher one (bfq)
pub record IsFirstClass (members : List (Option Member)) (class : Class) : Type 0 where
  pub some : HasActive members class
  pub highest : (n : ℕ) (m : Member) → IsActiveAt members n m → rank class ≤ rank m.class

-- a group with this at an entity's place, a member or none (B-WF2Q+; the places by number are our profile)
abbrev pub with_member : Classes → ℕ → Option Member → Classes
with_member tree entity member = record tree { members = slice_set tree.members entity member }

-- a group with these virtual times of its classes (B-WF2Q+)
abbrev pub with_vtimes : Classes → Vtimes → Classes
with_vtimes tree vtimes = record tree { vtimes = vtimes }
