-- The members of one class of a group, and B-WF2Q+'s questions about them.
use Rattle.std.specs.Prelude.{◌≡◌, ℕ, ◌+◌, ◌<◌, ◌≤◌, ◌⊎◌, List, [], ◌∷◌, Bool, true, false, Option, Some, None, map, option_map, nat_lt, nat_le, ◌==◌, ◌&&◌, ◌||◌, if◌then◌else◌, slice_index_or}
use Rattle.std.specs.List.{filter, sum_by}
use Rattle.plain.specs.declared.member.State.{State}
use Rattle.plain.specs.declared.member.State.TheVariants.{Idle, Active, Serving}
use Rattle.plain.specs.declared.member.Member.{Member}

-- a class of a group: its virtual time, and its members by entity number (B-WF2Q+; the places by number are our profile)
pub record Service : Type 0 where
  -- the virtual time of the class (B-WF2Q+)
  pub vtime : ℕ
  -- its members, each at the place of its entity's number (B-WF2Q+; the places are our profile)
  pub members : List (Option Member)

-- a member in this state waits to be picked: it is backlogged, and not in service (B-WF2Q+)
abbrev pub is_active : State → Bool
is_active Idle = false
is_active Active = true
is_active Serving = false

-- eligible: active, with a start that is not after the virtual time (B-WF2Q+)
abbrev pub is_eligible : ℕ → Member → Bool
is_eligible vtime m = is_active m.state && nat_le m.start vtime

-- in this state a weight counts: active or serving, or idle with a finish that is still ahead (our profile)
abbrev pub counts_in : State → Bool → Bool
counts_in Idle ahead = ahead
counts_in Active ahead = true
counts_in Serving ahead = true

-- a member counts in the sum of weights at a virtual time (our profile)
abbrev pub does_count : ℕ → Member → Bool
does_count vtime m = counts_in m.state (nat_lt vtime m.finish)

-- the members that are there, each after its number; the first place has the number `base` (our profile)
abbrev pub numbered : ℕ → List (Option Member) → List (ℕ × Member)
numbered base [] = []
numbered base (None ∷ members) = numbered (base + 1) members
numbered base (Some m ∷ members) = (base, m) ∷ numbered (base + 1) members

-- the sum of the weights in effect of those that count (B-WF2Q+; who counts is our profile)
abbrev pub weight_sum : ℕ → List (Option Member) → ℕ
weight_sum vtime members = sum_by (λ e. e.1.weight) (filter (λ e. does_count vtime e.1) (numbered 0 members))

-- the lesser of a number and what may be another one (our profile)
abbrev pub lesser : ℕ → Option ℕ → ℕ
lesser n None = n
lesser n (Some other) = if nat_lt other n then other else n

-- the least number of a list, if it has one (our profile)
abbrev pub least : List ℕ → Option ℕ
least [] = None
least (n ∷ ns) = Some (lesser n (least ns))

-- the least start of the active members, if one is active (B-WF2Q+)
abbrev pub least_start : List (Option Member) → Option ℕ
least_start members = least (map (λ e. e.1.start) (filter (λ e. is_active e.1.state) (numbered 0 members)))

-- the first goes before the second: by the lesser finish (B-WF2Q+), on a tie by the lower number (our profile)
abbrev pub is_sooner : ℕ × Member → ℕ × Member → Bool
is_sooner a b = nat_lt a.1.finish b.1.finish || (a.1.finish == b.1.finish) && nat_lt a.0 b.0

-- the sooner of an entry and what may be another one (B-WF2Q+)
abbrev pub sooner : ℕ × Member → Option (ℕ × Member) → ℕ × Member
sooner e None = e
sooner e (Some other) = if is_sooner other e then other else e

-- the soonest entry of a list, if it has one (B-WF2Q+)
abbrev pub soonest : List (ℕ × Member) → Option (ℕ × Member)
soonest [] = None
soonest (e ∷ es) = Some (sooner e (soonest es))

-- the number of the soonest eligible member, if one is eligible (B-WF2Q+)
abbrev pub pick : ℕ → List (Option Member) → Option ℕ
pick vtime members = option_map (λ e. e.0) (soonest (filter (λ e. is_eligible vtime e.1) (numbered 0 members)))

-- an active member stands under a number (our profile)
abbrev pub IsActiveAt : List (Option Member) → ℕ → Member → Type 0
IsActiveAt members n m = (slice_index_or members n None ≡ Some m) × (m.state ≡ Active)

-- an eligible member stands under a number: an active one whose start is not after the virtual time (B-WF2Q+)
abbrev pub IsEligibleAt : ℕ → List (Option Member) → ℕ → Member → Type 0
IsEligibleAt vtime members n m = IsActiveAt members n m × (m.start ≤ vtime)

-- no member is active (B-WF2Q+)
abbrev pub NoneActive : List (Option Member) → Type 0
NoneActive members = (n : ℕ) (m : Member) → IsActiveAt members n m → ⊥

-- the least start: some active member has it, and no active one has a lesser (B-WF2Q+)
pub record IsLeastStart (members : List (Option Member)) (start : ℕ) : Type 0 where
  pub number : ℕ
  pub member : Member
  pub active_at : IsActiveAt members number member
  pub attained : member.start ≡ start
  pub lowest : (n : ℕ) (m : Member) → IsActiveAt members n m → start ≤ m.start

-- no member is eligible (B-WF2Q+)
abbrev pub NoneEligible : ℕ → List (Option Member) → Type 0
NoneEligible vtime members = (n : ℕ) (m : Member) → IsEligibleAt vtime members n m → ⊥

-- the pick: an eligible member, and each eligible one has a greater finish, or the same and no lower number (B-WF2Q+; ties are our profile)
pub record IsPicked (vtime : ℕ) (members : List (Option Member)) (entity : ℕ) : Type 0 where
  pub within : entity < 48
  pub member : Member
  pub eligible_at : IsEligibleAt vtime members entity member
  pub soonest_of : (n : ℕ) (m : Member) → IsEligibleAt vtime members n m → (member.finish < m.finish) ⊎ ((member.finish ≡ m.finish) × (entity ≤ n))

-- no member that counts at a virtual time weighs more than the sum (B-WF2Q+: a share of the whole is at most the whole)
abbrev pub WeighsAtMost : ℕ → List (Option Member) → ℕ → Type 0
WeighsAtMost vtime members sum = (n : ℕ) (m : Member) → slice_index_or members n None ≡ Some m → does_count vtime m ≡ true → m.weight ≤ sum
