-- Parts of a step, one after the other.
use Rattle.std.proofs.Common.{ℕ, ◌+◌, ◌≤◌, refl, ap, ◌∙◌, arith}
use Rattle.change_record.specs.Tables.{Tables}
use Rattle.change_record.specs.Tape.{Record}
use Rattle.bfq_select.specs.Service.{OnlyServes}
use Rattle.bfq_select.specs.Course.{Exchanges}

-- nothing has been done yet
pub course_none : (n : ℕ) (t : Tables) (r : Record) → Exchanges n t r t r
course_none n t r = record { others = refl; trail = λ o h. h; steps = refl; room = omega arith; spare = refl; some = omega arith; few = omega arith }

-- what is left alone twice is left alone
pub serves_twice : (t u v : Tables) → OnlyServes t u → OnlyServes u v → OnlyServes t v
serves_twice t u v first second = second ∙ ap (λ (x : Tables). record x { trees = v.trees; budgets = v.budgets; in_service = v.in_service }) first

-- one part after another
pub course_more : (m n k : ℕ) (t u v : Tables) (r s w : Record) → Exchanges m t r u s → Exchanges n u s v w → m + n ≤ k → Exchanges k t r v w
course_more m n k t u v r s w first second fits = record {
  others = serves_twice t u v first.others second.others;
  trail = λ o h. second.trail o (first.trail o h);
  steps = second.steps ∙ first.steps;
  room = omega (arith, first.room, second.room, fits);
  spare = second.spare ∙ first.spare;
  some = omega (arith, first.some, second.some);
  few = omega (arith, first.few, second.few, fits);
}

-- what makes so many exchanges at most makes no more than a greater number
pub course_most : (m n : ℕ) (t u : Tables) (r s : Record) → Exchanges m t r u s → m ≤ n → Exchanges n t r u s
course_most m n t u r s first fits = course_more m 0 n t u u r s s first (course_none 0 u s) (omega (arith, fits))
