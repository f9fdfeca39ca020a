use Rattle.std.proofs.Common.{◌≡◌}
use Rattle.run_replay.proofs.Reading.{Stands}
use Rattle.run_replay.proofs.loading.load.Given as goal

abbrev pub invariant-loop : goal.invariant-loop
invariant-loop g l =
    Stands (g.R.Read.remaining l.fn.reader) (g.R.Read.remaining l.reader) l.reel l.book
    × (l.book.limits ≡ l.initial.book.limits) × (l.book.most ≡ l.initial.book.most) × (l.reel.header ≡ l.initial.reel.header)
