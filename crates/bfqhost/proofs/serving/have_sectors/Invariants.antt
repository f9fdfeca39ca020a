use Rattle.std.proofs.Common.{◌≡◌, true, nat_lt, take}
use Rattle.std.specs.List.{list_all}
use Rattle.bfqhost.proofs.serving.have_sectors.Given as goal

abbrev pub invariant-loop-run : goal.invariant-loop-run
invariant-loop-run l = list_all (λ run. nat_lt 0 run.count) (take l.run-index l.runs) ≡ true
