use Rattle.std.proofs.Common.{◌≡◌, ℕ, ◌<◌, ◌≤◌, None, get_or}
use Rattle.overlay.proofs.page.Page.first_from.Given as goal

-- no place before this one has a block
abbrev pub invariant-loop-at : goal.invariant-loop-at
invariant-loop-at l = (k : ℕ) → l.from ≤ k → k < l.at → get_or l.self-inside.blocks k None ≡ None
