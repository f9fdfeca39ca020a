use Rattle.std.proofs.Common.{◌≡◌, ℕ, zero, suc, ◌/◌, ◌%◌, ◌<◌, ◌≤◌, Option, None, length, replicate, get_or, refl, ap, ◌∙◌, sym, subst, arith}
use Rattle.std.proofs.lemmas.List.{length-replicate}
use Rattle.sector_core.specs.declared.bio.BioFields.{BioFields as Bio}
use Rattle.request_pool.specs.declared.RequestFields.{RequestFields as Request}
use Rattle.request_pool.proofs.RequestPool.new.Goals as goal

-- a list of zeros has nothing else at any place, nor behind its end
all_zero : (n k : ℕ) → get_or (replicate {A = ℕ} n 0) k 0 ≡ 0
all_zero zero k = refl
all_zero (suc n) zero = refl
all_zero (suc n) (suc k) = all_zero n k

-- search would count the 512 slots
pub invariant_of-result : goal.invariant_of-result
invariant_of-result c =
    let few = ap length c.in_ok-empty_table.ensures ∙ length-replicate {A = Option Request} c.from.result None ∙ c.from.ensures in
    record {
      numbered = subst (λ n. n ≤ 65535) (sym few) (omega (arith, c.ranges.requests.fits));
      seated = ap length c.in_ok-empty_table-2.ensures ∙ length-replicate {A = Option Bio} 512 None;
      requests_taken = λ k from below. absurd (omega (arith, below));
      bios_taken = λ k below.
          let none : k % 32 < 0 = subst (λ bound. k % 32 < bound) (all_zero 16 (k / 32)) below in
          absurd (omega (arith, none));
    }
