-- What weights are on every machine of a keeper.
use Rattle.std.specs.Prelude.{◌≡◌, ℕ, ◌≤◌, List, Some, None, slice_index_or}
use Rattle.plain.specs.declared.member.Member.{Member}
use Rattle.plain.specs.Machine.{Bfq}
use Rattle.plain.specs.declared.call.Call.{Call}
use Rattle.plain.specs.Opening.{Limits}
use Rattle.plain.specs.Keeper.{machine_of}
use Rattle.plain.specs.Headline.{replay}

-- no weight is 0, be it pending or in effect (bfq: weights are 1 to 1000; a session's is 10 to 80, by its priority)
abbrev pub WeighEnough : Bfq → Type 0
WeighEnough b =
    ((entity : ℕ) → 1 ≤ b.pending entity)
    × ((group entity : ℕ) (member : Member) → slice_index_or (b.service group).members entity None ≡ Some member → 1 ≤ member.weight)

-- so it is on the machine of every keeper that a journal makes
abbrev pub WeightsArePositive : Limits → ℕ → List Call → Type 0
WeightsArePositive l most journal = WeighEnough (machine_of (replay l most journal)).bfq
