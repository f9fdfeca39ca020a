-- Which entities a group's trees have.
use Rattle.std.specs.Prelude.{◌≡◌, ℕ, true, List, Some, None, is_some, slice_index_or}
use Rattle.plain.specs.Machine.{Bfq}
use Rattle.plain.specs.declared.call.Call.{Call}
use Rattle.plain.specs.Opening.{Limits}
use Rattle.plain.specs.Keeper.{machine_of}
use Rattle.plain.specs.Headline.{replay}

-- an entity that a group's trees have is in that group, and each entity that is in a group is in its trees (our profile)
abbrev pub AreMembers : Bfq → Type 0
AreMembers b =
    ((group entity : ℕ) → is_some (slice_index_or (b.service group).members entity None) ≡ true → b.parent entity ≡ Some group)
    × ((group entity : ℕ) → b.parent entity ≡ Some group → is_some (slice_index_or (b.service group).members entity None) ≡ true)

-- so it is on the machine of every keeper that a journal makes
abbrev pub EntitiesAreMembers : Limits → ℕ → List Call → Type 0
EntitiesAreMembers l most journal = AreMembers (machine_of (replay l most journal)).bfq
