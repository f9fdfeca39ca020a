use Rattle.std.proofs.Common.{◌≡◌, ◌==◌, ◌<◌, ℕ, List, [], Option, None, IsFalse, IsSome, IsTrue, get_or, sym, ◌∙◌, subst, arith}
use Rattle.std.proofs.lemmas.Bool.Decides.{nat_tests}
use Rattle.process_queue.specs.declared.Link.{Link}
use Rattle.process_queue.specs.Links.{linked_in}
use Rattle.process_queue.specs.Queue.{queue_slots}
use Rattle.process_queue.proofs.Counts.{queue-none, linked-some}
use Rattle.process_queue.proofs.ProcessQueue.are_empty.Goals as goal

is_zero : (n : ℕ) → IsTrue (n == 0) → n ≡ 0
is_zero n h = grind (arith, nat_tests)

is_more : (n : ℕ) → IsFalse (n == 0) → 0 < n
is_more n h = grind (arith, nat_tests)

pub returns-clause-none : goal.returns-clause-none
returns-clause-none c = λ none seat.
    subst (λ (links : List (Option Link)). queue_slots seat links ≡ []) c.self.view_is
    (queue-none c.self.inside.links.items seat (sym c.self.invariant.count ∙ is_zero c.self.inside.queued none))

pub returns-clause-some : goal.returns-clause-some
returns-clause-some c = λ some.
    subst (λ (links : List (Option Link)). (slot : ℕ) × IsSome (get_or links slot None)) c.self.view_is
    (linked-some c.self.inside.links.items (subst (λ n. 0 < n) c.self.invariant.count (is_more c.self.inside.queued some)))
