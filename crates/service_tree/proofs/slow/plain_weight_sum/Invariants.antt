use Rattle.std.proofs.Common.{◌≡◌, ◌+◌, ◌*◌, ◌≤◌, ◌^◌, drop}
use Rattle.std.specs.List.{filter, sum_by}
use Rattle.plain.specs.Members.{does_count, numbered, weight_sum}
use Rattle.service_tree.proofs.slow.plain_weight_sum.Given as goal

-- the sum so far, with that of the places to come, and its bound
abbrev pub invariant-loop-entity : goal.invariant-loop-entity
invariant-loop-entity l = record {
  rest : l.sum + sum_by (λ e. e.1.weight) (filter (λ e. does_count l.vtime e.1) (numbered l.entity (drop l.entity l.tree.members))) ≡ weight_sum l.vtime l.tree.members;
  small : l.sum ≤ 2 ^ 32 * l.entity;
}
