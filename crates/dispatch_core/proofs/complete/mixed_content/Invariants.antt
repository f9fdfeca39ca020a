use Rattle.std.proofs.Common.{◌≡◌, ◌-◌, ◌++◌}
use Rattle.plain.specs.Steps.Finish.{content}
use Rattle.dispatch_core.proofs.complete.mixed_content.Given as goal

-- what has been found, and the content of the sectors that are to come
abbrev pub invariant-loop-sector : goal.invariant-loop-sector
invariant-loop-sector l = l.found.items ++ content l.overlay l.sector (l.sector-end - l.sector) l.rest ≡ content l.fn.overlay l.fn.range.start l.fn.range.count l.fn.bytes
