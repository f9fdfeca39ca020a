-- An activation leaves the queue in service as it is.
use Rattle.std.proofs.Common.{◌≡◌, ℕ, List, [], ◌∷◌, Option, None, Some, Bool, true, false, cond, nat_le, refl, sym, ap, ◌∙◌}
use Rattle.std.specs.Option.{option_and_then}
use Rattle.std.proofs.lemmas.Option.{same_Some}
use Rattle.dispatch_core.proofs.Words.{Bfq, activate, activate_path, stamp, stamped, start_from, finish_from, member_of, is_idle, top}
use Rattle.plain.specs.Groups.{path}

-- a stamp does
stamp-slot : (start entity : ℕ) (b c : Bfq) → stamp start entity b ≡ Some c → c.in_service ≡ b.in_service
stamp-slot start entity b c = elim (nat_le (finish_from start entity b) top) as (λ t. cond t (Some (stamped start entity b)) None ≡ Some c → c.in_service ≡ b.in_service) [
  | true ↦ λ e. let made : stamped start entity b ≡ c = same_Some (stamped start entity b) c e in ap (λ (x : Bfq). x.in_service) (sym made)
  | false ↦ λ e. absurd cc
]

-- and one after the other
path-slot : (entities : List ℕ) (b c : Bfq) → activate_path entities b ≡ Some c → c.in_service ≡ b.in_service
path-slot [] b c = λ e. let made : b ≡ c = same_Some b c e in ap (λ (x : Bfq). x.in_service) (sym made)
path-slot (entity ∷ entities) b c =
    let one : Option Bfq = stamp (start_from b entity) entity b in
    elim (is_idle (member_of b entity).state) as (λ t. cond t (option_and_then (activate_path entities) (stamp (start_from b entity) entity b)) (Some b) ≡ Some c → c.in_service ≡ b.in_service) [
      | true ↦ (elim one as (λ o. one ≡ o → option_and_then (activate_path entities) o ≡ Some c → c.in_service ≡ b.in_service) [
        | None ↦ λ s e. absurd cc
        | Some d ↦ λ s e. path-slot entities d c e ∙ stamp-slot (start_from b entity) entity b d s
      ]) refl
      | false ↦ λ e. let made : b ≡ c = same_Some b c e in ap (λ (x : Bfq). x.in_service) (sym made)
    ]

-- so the slot is the same, where a session was woken or not
pub woken-slot : (wakes : Bool) (seat : ℕ) (b c : Bfq) → cond wakes (activate seat b) (Some b) ≡ Some c → c.in_service ≡ b.in_service
woken-slot true seat b c e = path-slot (path b.parent seat) b c e
woken-slot false seat b c e = let made : b ≡ c = same_Some b c e in ap (λ (x : Bfq). x.in_service) (sym made)
