-- A member of a group's tree that is a session's queue is that of a seat that is taken, and so is the queue in service.
use Rattle.std.proofs.Common.{true, ◌≡◌, inl, inr, ℕ, ◌+◌, ◌<◌, List, Option, Some, All, is_some, refl, sym, ap, ◌∙◌, subst, arith}
use Rattle.std.proofs.lemmas.Bool.{cases_eq}
use Rattle.std.proofs.lemmas.List.Elements.{All-cons, All-weaker}
use Rattle.sector_core.specs.declared.class.Class.{Class}
use Rattle.plain.specs.declared.member.Member.{Member}
use Rattle.plain.specs.declared.member.Vtimes.{Vtimes}
use Rattle.plain.specs.Groups.{climb, most_levels, path}
use Rattle.plain.specs.declared.seat.InService.{InService}
use Rattle.plain.specs.declared.seat.Seat.{Seat}
use Rattle.plain.specs.Machine.{Bfq}
use Rattle.plain.specs.Rules.{group_of, put_vtimes, picked, activate, select}
use Rattle.plain_laws.proofs.Puts.{some_is}
use Rattle.plain_laws.proofs.Placed.{placed, put_place, placed-other, placed-vtime}
use Rattle.plain_laws.proofs.Rules.{High, climb-high, StampsKeep, Changes, activate_path-keeps, select-keeps}
use Rattle.bfq_laws.proofs.Picks.{picked-is}

-- an entity that is a session's queue is that of a seat that is taken
abbrev pub Fits : (ℕ → Option Seat) → ℕ → Type 0
Fits seats entity = entity < 16 → is_some (seats entity) ≡ true

-- each member of a group's tree is such an entity
abbrev pub Known : (ℕ → Option Seat) → Bfq → Type 0
Known seats b = (group entity : ℕ) → is_some (placed b group entity) ≡ true → Fits seats entity

-- an entity changes, or goes
pub member-known : (seats : ℕ → Option Seat) (b : Bfq) (group entity : ℕ) (member : Option Member) → Fits seats entity → Known seats b → Known seats (put_place group entity member b)
member-known seats b group entity member fits h g e there = elim (cases_eq e entity) [
  | inl same ↦ subst (Fits seats) (sym same) fits
  | inr other ↦ h g e (ap is_some (sym (placed-other b group entity member g e other)) ∙ there)
]

-- virtual times are other ones
pub vtime-known : (seats : ℕ → Option Seat) (b : Bfq) (group : ℕ) (vtimes : Vtimes) → Known seats b → Known seats (put_vtimes group vtimes b)
vtime-known seats b group vtimes h g e there = h g e (ap is_some (sym (placed-vtime b group vtimes g e)) ∙ there)

-- so is each entity on the path of a seat that is taken
path-fits : (seats : ℕ → Option Seat) (above : ℕ → Option ℕ) (seat : ℕ) → is_some (seats seat) ≡ true → All (Fits seats) (path above seat)
path-fits seats above seat sits =
    let up : List ℕ = climb most_levels above (above seat) in
    All-cons (Fits seats) seat up (λ _. sits) (All-weaker High (Fits seats) (λ e high small. absurd (omega (arith, high, small))) up (climb-high most_levels above (above seat)))

-- the seat of the queue in service is taken
abbrev pub Sits : (ℕ → Option Seat) → Bfq → Type 0
Sits seats b = (slot : InService) → b.in_service ≡ Some slot → is_some (seats slot.seat) ≡ true

one-sits : (seats : ℕ → Option Seat) (new : InService) → is_some (seats new.seat) ≡ true → (slot : InService) → Some new ≡ Some slot → is_some (seats slot.seat) ≡ true
one-sits seats new its slot e = subst (λ (s : InService). is_some (seats s.seat) ≡ true) (some_is new slot e) its

-- who is picked is a member, and so fits
picked-fits : (seats : ℕ → Option Seat) (b : Bfq) (group : ℕ) (class : Class) (entity : ℕ) → picked b group class ≡ Some entity → Known seats b → Fits seats entity
picked-fits seats b group class entity is h = h group entity (ap is_some (picked-is b group class entity is).1)

stamps-known : (seats : ℕ → Option Seat) → StampsKeep (Fits seats) (Known seats)
stamps-known seats b start entity fits _ h = member-known seats b (group_of b entity) entity _ fits h

pub activate-known : (seats : ℕ → Option Seat) (seat : ℕ) (b c : Bfq) → is_some (seats seat) ≡ true → activate seat b ≡ Some c → Known seats b → Known seats c
activate-known seats seat b c sits = activate_path-keeps (Fits seats) (Known seats) (stamps-known seats) (path b.parent seat) b c (path-fits seats b.parent seat sits)

-- each change of a rule
pub known-changes : (most : ℕ) (seats : ℕ → Option Seat) → Changes most (Fits seats) (λ b. Known seats b × Sits seats b)
known-changes most seats = record {
  paths = λ b slot is h. path-fits seats b.parent slot.seat (h.1 slot is);
  stamps = λ b start entity fits le h. (stamps-known seats b start entity fits le h.0, h.1);
  selects = record {
    jumps = λ b group class start nobody is h. (vtime-known seats b group _ h.0, h.1);
    passes = λ b group class entity is high h. (member-known seats b group entity _ (picked-fits seats b group class entity is h.0) h.0, h.1);
    begins = λ b group class seat is small h.
        let fits : Fits seats seat = picked-fits seats b group class seat is h.0 in
        (member-known seats b group seat _ fits h.0, one-sits seats (record { seat = seat; service = 0; age = 0 }) (fits small));
  };
  charges = λ b slot sectors is h. (h.0, one-sits seats (record slot { service = slot.service + sectors }) (h.1 slot is));
  rises = λ b group class vtime rise le h. (vtime-known seats b group _ h.0, h.1);
  ends = λ b slot cause is h. (h.0, λ other e. cc);
  rests = λ b finish entity fits le h. (member-known seats b (group_of b entity) entity _ fits h.0, h.1);
}

-- the queue in service, if one is, is that of a seat that is taken, and no sector of it has been sent
pub record Begins (seats : ℕ → Option Seat) (b : Bfq) : Type 0 where
  pub known : Known seats b
  pub fresh : (slot : InService) → b.in_service ≡ Some slot → (is_some (seats slot.seat) ≡ true) × (slot.service ≡ 0)

pub select-begins : (seats : ℕ → Option Seat) (b : Bfq) → Begins seats b → Begins seats (select b)
select-begins seats = select-keeps (Begins seats) (record {
  jumps = λ b group class start nobody is h. record { known = vtime-known seats b group _ h.known; fresh = h.fresh };
  passes = λ b group class entity is high h. record { known = member-known seats b group entity _ (picked-fits seats b group class entity is h.known) h.known; fresh = h.fresh };
  begins = λ b group class seat is small h.
      let fits : Fits seats seat = picked-fits seats b group class seat is h.known in
      let P : InService → Type 0 = λ x. (is_some (seats x.seat) ≡ true) × (x.service ≡ 0) in
      record {
        known = member-known seats b group seat _ fits h.known;
        fresh = λ slot e. subst P (some_is (record { seat = seat; service = 0; age = 0 }) slot e) (fits small, refl);
      };
})
