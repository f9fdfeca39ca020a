use Rattle.std.proofs.Common.{◌≡◌, ◌+◌, length}
use Rattle.std.specs.Vec.Iter.{into_iter_items}
use Rattle.bfqhost.specs.Serving.{HaveBad}
use Rattle.bfqhost.proofs.serving.with_bad.Given as goal

-- the files so far have an image with these bad sectors
abbrev pub invariant-loop-file : goal.invariant-loop-file
invariant-loop-file l =
    (length l.images.items + length (into_iter_items l.file-iterator) ≡ length l.fn.files.items) × HaveBad l.bad l.images.items
