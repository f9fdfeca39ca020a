use Rattle.std.proofs.Common.{◌≡◌, ◌++◌, map}
use Rattle.std.specs.Vec.Iter.{into_iter_items}
use Rattle.run_record.specs.Naming.{parts_of}
use Rattle.run_replay.specs.Replaying.{whose}
use Rattle.run_replay.proofs.loading.make_all.Given as goal

abbrev pub invariant-loop-entry : goal.invariant-loop-entry
invariant-loop-entry l =
    (map whose l.book.entries ++ map parts_of (into_iter_items l.entry-iterator) ≡ map whose l.initial.book.entries ++ map parts_of l.fn.batch.entries.items)
    × (l.book.limits ≡ l.initial.book.limits) × (l.book.most ≡ l.initial.book.most)
