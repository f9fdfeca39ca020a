-- Where a queue is not empty and none is in service, select goes down from the root to one.
use Rattle.std.proofs.Common.{true, false, ◌≡◌, ◌≢◌, inl, inr, ℕ, zero, suc, ◌+◌, ◌-◌, ◌<◌, ◌≤◌, nat_lt, Option, Some, None, is_some, cond, refl, sym, ap, ◌∙◌, subst, arith}
use Rattle.std.specs.Option.{is_none}
use Rattle.std.proofs.lemmas.Bool.{cases_eq, ltb-false}
use Rattle.sector_core.specs.declared.class.Class.{Class}
use Rattle.plain.specs.declared.member.State.{State}
use Rattle.plain.specs.declared.member.State.TheVariants.{Idle, Active, Serving}
use Rattle.plain.specs.Groups.{climb, path}
use Rattle.plain.specs.declared.seat.InService.{InService}
use Rattle.plain.specs.Machine.{Bfq, put}
use Rattle.plain.specs.Rules.{group_of, is_idle, picked, jumped, in_service, on_pick, taken, class_in, chosen_in, on_class, select_from, select}
use Rattle.plain.specs.Steps.Dispatch.{with_selected}
use Rattle.plain_laws.proofs.Puts.{put_here, put_other, some_is}
use Rattle.plain_laws.proofs.Placed.{placed}
use Rattle.plain_laws.proofs.Rules.{jumped-keeps}
use Rattle.bfq_laws.proofs.Quiet.{jumped-quiet}
use Rattle.bfq_laws.proofs.Tree.{idle}
use Rattle.bfq_laws.proofs.Busy.{no_slot}
use Rattle.bfq_laws.proofs.Picks.{class-of-active, picked-is, jumped-picks}
use Rattle.bfq_laws.proofs.Shape.{In, Levels, Stands, parent-stands, stands-low, climbing, climb-more, climb-under, climb-back, climb-none, climb-whole, At, group-at, state-at, member-at, move-at, vtime-at}
use Rattle.bfq_laws.proofs.Alive.{Has, Up, Down, Alive, not_idle, awake-active, has-kept, put-was}

-- what selecting leaves where a queue is in service then
pub record Done (above : ℕ → Option ℕ) (c : Bfq) (slot : InService) : Type 0 where
  pub now : ℕ → State
  pub at : At above now c
  pub up : Up above now
  pub down : Down above now
  pub serving : (e : ℕ) → now e ≡ Serving → In e (path above slot.seat)
  pub served : (e : ℕ) → In e (path above slot.seat) → now e ≡ Serving

-- and one is where this holds
pub record Chosen (above : ℕ → Option ℕ) (H : Type 0) (c : Bfq) : Type 0 where
  pub done : (slot : InService) → c.in_service ≡ Some slot → Done above c slot
  pub found : H → is_some c.in_service ≡ true

jumped-at : (above : ℕ → Option ℕ) (st : ℕ → State) (group : ℕ) (class : Class) (b : Bfq) → At above st b → At above st (jumped group class b)
jumped-at above st = jumped-keeps (At above st) (λ b group class start _ _ at. vtime-at above st b group _ at)

-- a class has an active member in a group that has one
has-class : (above : ℕ → Option ℕ) (st : ℕ → State) (b : Bfq) (g : ℕ) → At above st b → Has above st g → is_some (class_in b g) ≡ true
has-class above st b g at h =
    let m = member-at above st b h.0 at (λ rests. let bad : Idle ≡ Active = sym rests ∙ h.2 in cc) in
    let same : group_of b h.0 ≡ g = group-at above st b h.0 g at h.1 in
    class-of-active b g h.0 m.0 (ap (λ j. placed b j h.0) (sym same) ∙ m.1) (m.2 ∙ h.2)

serves-up : (above : ℕ → Option ℕ) (st : ℕ → State) (k : ℕ) → st k ≡ Active → Up above st → Up above (put st k Serving)
serves-up above st k act up =
    let same : (i : ℕ) → is_idle (put st k Serving i) ≡ is_idle (st i) = λ i. elim (cases_eq i k) [
      | inl its ↦ ap is_idle (put_here st k Serving i its) ∙ sym (ap is_idle (ap st its ∙ act))
      | inr other ↦ ap is_idle (put_other st k Serving i other)
    ] in
    λ i j above_i awake nz _. same (16 + j) ∙ up i j above_i (sym (same i) ∙ awake) nz nz

serves-down : (above : ℕ → Option ℕ) (st : ℕ → State) (k g : ℕ) → above k ≡ Some g → (g ≢ 0 → st (16 + g) ≡ Serving) → Down above st → Down above (put st k Serving)
serves-down above st k g parent served down j act nz _ =
    let was = put-was st k (16 + j) Serving Active (λ x. cc) act in
    let other : j ≢ g = λ same. let bad : Serving ≡ Active = sym (served (λ z. nz (same ∙ z))) ∙ ap (λ x. st (16 + x)) (sym same) ∙ was.1 in cc in
    has-kept above st k g j Serving parent other (down j was.1 nz nz)

-- an entity that was picked is served: a session's queue is in service now, and from a group the way goes on
taken-chosen : (above : ℕ → Option ℕ) (levels : Levels above) (choose : ℕ → Bfq → Bfq) (n g : ℕ) (class : Class) (st : ℕ → State) (b : Bfq) (e : ℕ)
    → ((h : ℕ) (now : ℕ → State) (d : Bfq) → levels.level h ≡ suc n → Stands above h → At above now d → Up above now → Down above now → (h ≢ 0 → now (16 + h) ≡ Serving)
    → d.in_service ≡ None → ((x : ℕ) → now x ≡ Serving → In x (climb (suc n) above (Some h))) → ((x : ℕ) → In x (climb (suc n) above (Some h)) → now x ≡ Serving)
    → Chosen above (Has above now h) (choose h d))
    → levels.level g ≡ n → n ≤ 4 → At above st b → Up above st → Down above st → (g ≢ 0 → st (16 + g) ≡ Serving) → b.in_service ≡ None
    → ((x : ℕ) → st x ≡ Serving → In x (climb n above (Some g))) → ((x : ℕ) → In x (climb n above (Some g)) → st x ≡ Serving) → picked b g class ≡ Some e
    → (H : Type 0) → Chosen above H (taken choose g b e)
taken-chosen above levels choose n g class st b e more deep few at up down served none serving way is H =
    let m = picked-is b g class e is in
    let parent : above e ≡ Some g = at.places.known g e (ap is_some m.1) in
    let act : st e ≡ Active = state-at above st b g e m.0 at m.1 ∙ m.2 in
    let now : ℕ → State = put st e Serving in
    let stays : (x : ℕ) → In x (climb n above (Some g)) → now x ≡ Serving = λ x i.
    let other : x ≢ e = λ same. let bad : Serving ≡ Active = sym (way x i) ∙ ap st same ∙ act in cc in
    put_other st e Serving x other ∙ way x i in
    let d : Bfq = in_service g e b in
    let at_d : At above now d = move-at above levels st b e g _ at parent in
    let up_d : Up above now = serves-up above st e act up in
    let down_d : Down above now = serves-down above st e g parent served down in
    let slot : InService = record { seat = e; service = 0; age = 0 } in
    let begun : Bfq = record d { in_service = Some slot } in
    elim (nat_lt e 16) as (λ t. nat_lt e 16 ≡ t → Chosen above H (cond t begun (choose (e - 16) d))) [
      | true ↦ λ _.
          let on : (x : ℕ) → now x ≡ Serving → In x (path above e) = λ x s. elim (cases_eq x e) [
            | inl same ↦ inl same
            | inr other ↦
                let far : In x (climb 4 above (Some g)) = climb-more above n 4 (Some g) x few (serving x (sym (put_other st e Serving x other) ∙ s)) in
                inr (subst (λ o. In x (climb 4 above o)) (sym parent) far)
          ] in
          let all : (x : ℕ) → In x (path above e) → now x ≡ Serving = λ x i. elim i [
            | inl same ↦ put_here st e Serving x same
            | inr later ↦
                let far : In x (climb 4 above (Some g)) = subst (λ o. In x (climb 4 above o)) parent later in
                stays x (climb-whole above levels n 4 g x (omega (arith, deep)) (parent-stands above levels e g parent) far)
          ] in
          let done : Done above begun slot = record {
            now = now;
            at = record { parents = at_d.parents; places = at_d.places; are = at_d.are };
            up = up_d;
            down = down_d;
            serving = on;
            served = all;
          } in
          record { done = λ s here. subst (Done above begun) (some_is slot s here) done; found = λ _. refl }
      | false ↦ λ no.
          let high : 16 ≤ e = ltb-false e 16 no in
          let h : ℕ = e - 16 in
          let one : 16 + h ≡ e = omega (arith, high) in
          let within : e < 48 = (levels.inside e g parent).0 in
          let low : h < 32 = omega (arith, within, one) in
          let parent_h : above (16 + h) ≡ Some g = ap above one ∙ parent in
          let rises : levels.level h ≡ suc (levels.level g) = (levels.rises h g parent_h).0 in
          let root : levels.level 0 ≡ 0 = levels.root in
          let nz : h ≢ 0 = λ z. let flat : levels.level h ≡ levels.level 0 = ap levels.level z in absurd (omega (arith, flat, root, rises)) in
          let apart : h ≢ g = λ same. let flat : levels.level h ≡ levels.level g = ap levels.level same in absurd (omega (arith, flat, rises)) in
          let has : Has above now h = has-kept above st e g h Serving parent apart (down h (ap st one ∙ act) nz nz) in
          let rest : Chosen above (Has above now h) (choose h d) =
          more h now d (rises ∙ ap suc deep) (low, λ _. (g, parent_h)) at_d up_d down_d (λ _. put_here st e Serving (16 + h) one) none
          (λ x s. elim (cases_eq x e) [
            | inl same ↦ climb-under above n h g x low nz parent_h (inl (same ∙ sym one))
            | inr other ↦ climb-under above n h g x low nz parent_h (inr (serving x (sym (put_other st e Serving x other) ∙ s)))
          ])
          (λ x i. elim (climb-back above n h g x low nz parent_h i) [
            | inl same ↦ put_here st e Serving x (same ∙ one)
            | inr later ↦ stays x later
          ]) in
          record { done = rest.done; found = λ _. rest.found has }
    ] refl

chooses : (above : ℕ → Option ℕ) (levels : Levels above) (fuel n g : ℕ) (st : ℕ → State) (b : Bfq) → n + fuel ≡ 5 → levels.level g ≡ n → Stands above g → At above st b → Up above st → Down above st
    → (g ≢ 0 → st (16 + g) ≡ Serving) → b.in_service ≡ None → ((x : ℕ) → st x ≡ Serving → In x (climb n above (Some g))) → ((x : ℕ) → In x (climb n above (Some g)) → st x ≡ Serving)
    → Chosen above (Has above st g) (select_from fuel g b)
unfolding select_from
chooses above levels zero n g st b sum deep stands at up down served none serving way =
    let few : levels.level g ≤ 4 = stands-low above levels g stands in absurd (omega (arith, sum, deep, few))
chooses above levels (suc fuel) n g st b sum deep stands at up down served none serving way =
    let H : Type 0 = Has above st g in
    let choose : ℕ → Bfq → Bfq = λ h d. select_from fuel h d in
    let low : levels.level g ≤ 4 = stands-low above levels g stands in
    let few : n ≤ 4 = omega (arith, low, deep) in
    let next : suc n + fuel ≡ 5 = omega (arith, sum) in
    elim (class_in b g) as (λ o. class_in b g ≡ o → Chosen above H (on_class o b (chosen_in choose g b))) [
      | None ↦ λ no. record {
        done = λ slot is. let bad : Some slot ≡ None = sym is ∙ none in cc;
        found = λ has. let some : is_some (class_in b g) ≡ true = has-class above st b g at has in let bad : is_some (class_in b g) ≡ false = ap is_some no in cc;
      }
      | Some class ↦ λ first.
          let c : Bfq = jumped g class b in
          let at_c : At above st c = jumped-at above st g class b at in
          let quiet = jumped-quiet g class b in
          let none_c : c.in_service ≡ None = quiet.1 ∙ none in
          elim (picked c g class) as (λ o. picked c g class ≡ o → Chosen above H (on_pick o c (taken choose g c))) [
            | None ↦ λ no. record {
              done = λ slot is. let bad : Some slot ≡ None = sym is ∙ none_c in cc;
              found = λ has. let some : is_some (picked c g class) ≡ true = jumped-picks b g class first in let bad : is_some (picked c g class) ≡ false = ap is_some no in cc;
            }
            | Some e ↦ λ is.
                taken-chosen above levels choose n g class st c e
                (λ h now d deeper stands_h at_d up_d down_d served_d none_d serving_d way_d.
                chooses above levels fuel (suc n) h now d next deeper stands_h at_d up_d down_d served_d none_d serving_d way_d)
                deep few at_c up down served none_c serving way is H
          ] refl
    ] refl

-- where no queue is in service
selects : (b : Bfq) (h : Alive b) → b.in_service ≡ None → Chosen h.above (Has h.above h.st 0) (select b)
selects b h none =
    chooses h.above h.levels 5 0 0 h.st b refl h.levels.root (omega arith, λ ne. absurd (ne refl)) h.at h.up h.down (λ ne. absurd (ne refl)) none
    (λ x s. let on = h.serving x s in let bad : Some on.0 ≡ None = sym on.1 ∙ none in cc) (λ x i. absurd (climb-none h.above (Some 0) x i))

pub with_selected-alive : (b : Bfq) → Alive b → (slot : InService) → (with_selected b).in_service ≡ Some slot → Alive (with_selected b)
with_selected-alive b h slot = elim (is_none b.in_service) as (λ t. is_none b.in_service ≡ t → (cond t (select b) b).in_service ≡ Some slot → Alive (cond t (select b) b)) [
  | true ↦ λ none is.
      let d : Done h.above (select b) slot = (selects b h (no_slot b.in_service none)).done slot is in
      record {
        above = h.above;
        st = d.now;
        levels = h.levels;
        at = d.at;
        up = d.up;
        down = d.down;
        serving = λ e s. (slot, is, d.serving e s);
        served = λ other its e on. d.served e (subst (λ (z : InService). In e (path h.above z.seat)) (some_is other slot (sym its ∙ is)) on);
      }
  | false ↦ λ _ _. h
] refl

-- where nobody is served, a group with an active member is in one with an active member, up to the root
to-root : (above : ℕ → Option ℕ) (levels : Levels above) (st : ℕ → State) → Up above st → ((e : ℕ) → st e ≢ Serving) → (g : ℕ) → Stands above g → Has above st g → Has above st 0
to-root above levels st up nobody g stands =
    climbing above levels (λ j _. Has above st j → Has above st 0) (λ has. has)
    (λ j h ways ne lt parent more has. more (16 + j, parent, awake-active (st (16 + j)) (up has.0 j has.1 (ap is_idle has.2) ne ne) (nobody (16 + j))))
    4 g (stands-low above levels g stands) stands

some_slot : (o : Option InService) → is_none o ≡ false → is_some o ≡ true
some_slot None e = cc
some_slot (Some slot) e = refl

-- where an entity is not idle, a queue is in service then
pub slot-found : (b : Bfq) → Alive b → (k : ℕ) → idle b k ≡ false → is_some (with_selected b).in_service ≡ true
slot-found b h k awake = elim (is_none b.in_service) as (λ t. is_none b.in_service ≡ t → is_some (cond t (select b) b).in_service ≡ true) [
  | true ↦ λ is.
      let none : b.in_service ≡ None = no_slot b.in_service is in
      let nobody : (e : ℕ) → h.st e ≢ Serving = λ e s. let on = h.serving e s in let bad : Some on.0 ≡ None = sym on.1 ∙ none in cc in
      let busy : is_idle (h.st k) ≡ false = ap is_idle (sym (h.at.are k)) ∙ awake in
      let m = member-at h.above h.st b k h.at (not_idle (h.st k) busy) in
      let has : Has h.above h.st (group_of b k) = (k, m.3, awake-active (h.st k) busy (nobody k)) in
      (selects b h none).found (to-root h.above h.levels h.st h.up nobody (group_of b k) (parent-stands h.above h.levels k (group_of b k) m.3) has)
  | false ↦ λ is. some_slot b.in_service is
] refl
