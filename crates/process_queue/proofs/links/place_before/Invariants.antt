use Rattle.std.proofs.Common.{◌≡◌, ◌-◌, length}
use Rattle.process_queue.specs.Links.{walk_back}
use Rattle.process_queue.proofs.links.place_before.Given as goal

-- the walk from here finds what the whole walk does
abbrev pub invariant-loop-passed : goal.invariant-loop-passed
invariant-loop-passed l =
    walk_back l.links l.sides l.entry (length l.links) l.fn.last ≡ walk_back l.links l.sides l.entry (length l.links - l._passed) l.at
