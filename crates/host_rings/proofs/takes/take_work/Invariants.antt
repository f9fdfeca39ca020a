use Rattle.std.proofs.Common.{ℕ, ◌<◌}
use Rattle.dispatch_core.specs.Running.{plain_of, IsFor}
use Rattle.host_core.specs.Takes.{IsBestOf}
use Rattle.host_rings.proofs.takes.take_work.Given as goal

-- of the tags that were looked at, the best
abbrev pub invariant-loop-tag : goal.invariant-loop-tag
invariant-loop-tag l = (n : ℕ) → IsFor n l.view → IsBestOf (λ t. t < l.tag) (plain_of l.view) l.lasts l.own l.best
