use Rattle.std.proofs.Common.{◌≡◌, take}
use Rattle.run_replay.proofs.loading.kept.Given as goal

abbrev pub invariant-loop-at : goal.invariant-loop-at
invariant-loop-at l = (l.front.entries ≡ take l.at l.fn.book.entries) × (l.front.limits ≡ l.fn.book.limits) × (l.front.most ≡ l.fn.book.most)
