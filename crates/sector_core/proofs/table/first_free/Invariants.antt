use Rattle.std.proofs.Common.{ℕ, ◌<◌, None, IsSome, slice_index_or}
use Rattle.sector_core.proofs.table.first_free.Given as goal

abbrev pub invariant-loop-place : goal.invariant-loop-place
invariant-loop-place g l = (k : ℕ) → k < l.place → IsSome (slice_index_or l.table k None)
