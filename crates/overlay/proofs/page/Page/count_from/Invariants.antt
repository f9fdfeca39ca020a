use Rattle.std.proofs.Common.{ℕ, ◌+◌, ◌<◌, None, IsSome, get_or}
use Rattle.overlay.proofs.page.Page.count_from.Given as goal

-- each place before this one has a block
abbrev pub invariant-loop-count : goal.invariant-loop-count
invariant-loop-count l = (k : ℕ) → k < l.count → IsSome (get_or l.self-inside.blocks (l.from + k) None)
