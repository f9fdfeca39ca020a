-- How expiring keeps that a group's entity waits exactly where one of its members does.
use Rattle.std.proofs.Common.{true, false, Bool, ◌≡◌, ◌≢◌, ◌⊎◌, inl, inr, ℕ, suc, ◌+◌, ◌-◌, ◌<◌, ◌≤◌, nat_le, nat_lt, List, ◌∷◌, Option, Some, None, is_some, cond, refl, sym, ap, ◌∙◌, subst, arith, rules}
use Rattle.std.proofs.lemmas.Bool.{cases_eq, cond-false}
use Rattle.plain.specs.declared.member.State.{State}
use Rattle.plain.specs.declared.member.State.TheVariants.{Idle, Active, Serving}
use Rattle.plain.specs.Groups.{climb, most_levels, path}
use Rattle.plain.specs.declared.seat.InService.{InService}
use Rattle.plain.specs.Machine.{Bfq, put}
use Rattle.plain.specs.declared.seat.Expiry.{Expiry}
use Rattle.plain.specs.Rules.{top, group_of, is_idle, along, stamp, ended, is_backlogged, rested, expire_one, out_of_service, expire, class_in}
use Rattle.plain_laws.proofs.Puts.{put_here, put_other, some_is, and_then_is}
use Rattle.plain_laws.proofs.Placed.{placed, least_of}
use Rattle.plain_laws.proofs.Rules.{expire-is}
use Rattle.bfq_laws.proofs.Quiet.{expire-slot}
use Rattle.bfq_laws.proofs.Tree.{idle}
use Rattle.bfq_laws.proofs.Picks.{class-of-active, active-of-class}
use Rattle.bfq_laws.proofs.Shape.{In, Levels, Stands, parent-stands, stands-low, climbing, At, group-at, state-at, member-at, own-at, stamp-at}
use Rattle.bfq_laws.proofs.Alive.{Has, Up, DownBut, Down, Alive, not_idle, awake-active, has-kept, put-was}

-- an entity leaves the service: it waits where there is more to serve, and else is idle
expires-at : (above : ℕ → Option ℕ) (levels : Levels above) (st : ℕ → State) (service : ℕ) (queued : Bool) (k g : ℕ) (b c : Bfq) → At above st b → above k ≡ Some g → expire_one service queued k b ≡ Some c
    → ((is_backlogged queued k b ≡ true) × At above (put st k Active) c) ⊎ ((is_backlogged queued k b ≡ false) × At above (put st k Idle) c)
expires-at above levels st service queued k g b c at up e =
    let finish : ℕ = ended service k b in
    let R : Type 0 = ((is_backlogged queued k b ≡ true) × At above (put st k Active) c) ⊎ ((is_backlogged queued k b ≡ false) × At above (put st k Idle) c) in
    elim (nat_le finish top) as (λ t. cond t (cond (is_backlogged queued k b) (stamp finish k b) (Some (rested finish k b))) None ≡ Some c → R) [
      | true ↦ λ f. elim (is_backlogged queued k b) as (λ t. is_backlogged queued k b ≡ t → cond t (stamp finish k b) (Some (rested finish k b)) ≡ Some c → R) [
        | true ↦ λ is s. inl (is, stamp-at above levels st finish k g b c at up s)
        | false ↦ λ is s. inr (is, subst (At above (put st k Idle)) (some_is (rested finish k b) c s) (own-at above levels st b k g _ at up))
      ] refl f
      | false ↦ λ f. cc
    ] e

-- a group's entity has more to serve exactly where a member of the group is active
group-backlogged : (queued : Bool) (g : ℕ) (b : Bfq) → is_backlogged queued (16 + g) b ≡ is_some (class_in b g)
group-backlogged queued g b =
    let no : nat_lt (16 + g) 16 ≡ false = search (arith, rules) in
    let one : 16 + g - 16 ≡ g = omega arith in
    cond-false (nat_lt (16 + g) 16) queued (is_some (class_in b (16 + g - 16))) no ∙ ap (λ j. is_some (class_in b j)) one

has-start : (above : ℕ → Option ℕ) (st : ℕ → State) (b : Bfq) (g : ℕ) → At above st b → Has above st g → is_some (class_in b g) ≡ true
has-start above st b g at h =
    let m = member-at above st b h.0 at (λ rests. let bad : Idle ≡ Active = sym rests ∙ h.2 in cc) in
    let same : group_of b h.0 ≡ g = group-at above st b h.0 g at h.1 in
    class-of-active b g h.0 m.0 (ap (λ j. placed b j h.0) (sym same) ∙ m.1) (m.2 ∙ h.2)

start-has : (above : ℕ → Option ℕ) (st : ℕ → State) (b : Bfq) (g : ℕ) → At above st b → is_some (class_in b g) ≡ true → Has above st g
start-has above st b g at e =
    let x = active-of-class b g e in
    (x.0, at.places.known g x.0 (ap is_some x.2), state-at above st b g x.0 x.1 at x.2 ∙ x.3)

-- what expiring leaves
record Fallen (above : ℕ → Option ℕ) (c : Bfq) : Type 0 where
  now : ℕ → State
  at : At above now c
  up : Up above now
  down : Down above now
  nobody : (e : ℕ) → now e ≡ Serving → ⊥

-- each of a way is the entity of a group of no deeper level
abbrev Below : (above : ℕ → Option ℕ) → Levels above → ℕ → List ℕ → Type 0
Below above levels g up = (e : ℕ) → In e up → (j : ℕ) × (e ≡ 16 + j) × (levels.level j ≤ levels.level g)

abbrev Expires : (above : ℕ → Option ℕ) → Levels above → ℕ → Bool → ℕ → List ℕ → Type 0
Expires above levels service queued g up =
    Below above levels g up
    × ((st : ℕ → State) (b c : Bfq) → At above st b → Up above st → DownBut above st g → ((e : ℕ) → st e ≡ Serving → In e up) → along (expire_one service queued) up b ≡ Some c → Fallen above c)

add16 : (j g : ℕ) → 16 + j ≡ 16 + g → j ≡ g
add16 j g e = omega (arith, e)

-- one group's entity leaves the service
expire-group : (above : ℕ → Option ℕ) (levels : Levels above) (service : ℕ) (queued : Bool) (g h : ℕ) (ways : List ℕ) → g ≢ 0 → above (16 + g) ≡ Some h
    → Expires above levels service queued h ways → Expires above levels service queued g ((16 + g) ∷ ways)
expire-group above levels service queued g h ways ne parent more =
    let deeper : levels.level g ≡ suc (levels.level h) = (levels.rises g h parent).0 in
    let below : Below above levels g ((16 + g) ∷ ways) = λ e i. elim i [
      | inl same ↦ (g, same, omega arith)
      | inr later ↦ let x = more.0 e later in let le : levels.level x.0 ≤ levels.level h = x.2 in (x.0, x.1, omega (arith, le, deeper))
    ] in (
      below,
      λ st b c at up down serving e.
          let k : ℕ = 16 + g in
          let first = and_then_is (along (expire_one service queued) ways) (expire_one service queued k b) c e in
          let d : Bfq = first.0 in
          let still : (s : State) → s ≢ Serving → (i : ℕ) → put st k s i ≡ Serving → In i ways = λ s nots i is.
          let was = put-was st k i s Serving nots is in
          elim (serving i was.1) [ inl same ↦ absurd (was.0 same) | inr later ↦ later ] in
          -- no member of the group is served
          let apart : (i : ℕ) → above i ≡ Some g → st i ≡ Serving → ⊥ = λ i above_i is.
          let x = below i (serving i is) in
          let j : ℕ = x.0 in
          let le : levels.level j ≤ levels.level g = x.2 in
          let r : levels.level j ≡ suc (levels.level g) = (levels.rises j g (ap above (sym x.1) ∙ above_i)).0 in
          absurd (omega (arith, le, r)) in
          elim (expires-at above levels st service queued k h b d at parent first.1) [
            | inl a ↦
                let now : ℕ → State = put st k Active in
                let has : Has above st g = start-has above st b g at (sym (group-backlogged queued g b) ∙ a.0) in
                let awake_k : is_idle (st k) ≡ false = up has.0 g has.1 (ap is_idle has.2) ne ne in
                let was_awake : (i : ℕ) → is_idle (now i) ≡ false → is_idle (st i) ≡ false = λ i awake. elim (cases_eq i k) [
                  | inl same ↦ ap (λ x. is_idle (st x)) same ∙ awake_k
                  | inr other ↦ ap is_idle (sym (put_other st k Active i other)) ∙ awake
                ] in
                let up_now : Up above now = λ i j above_i awake nz _. elim (cases_eq (16 + j) k) [
                  | inl same ↦ ap is_idle (put_here st k Active (16 + j) same)
                  | inr other ↦ ap is_idle (put_other st k Active (16 + j) other) ∙ up i j above_i (was_awake i awake) nz nz
                ] in
                let down_now : DownBut above now h = λ j act nz away. elim (cases_eq j g) [
                  | inl same ↦ subst (Has above now) (sym same) (has-kept above st k h g Active parent (λ its. away (same ∙ its)) has)
                  | inr other ↦
                      has-kept above st k h j Active parent away
                      (down j (sym (put_other st k Active (16 + j) (λ its. other (add16 j g its))) ∙ act) nz other)
                ] in
                more.1 now d c a.1 up_now down_now (still Active (λ x. cc)) first.2
            | inr a ↦
                let now : ℕ → State = put st k Idle in
                let none : Has above st g → ⊥ = λ has. let some : is_some (class_in b g) ≡ true = has-start above st b g at has in
                let no : is_some (class_in b g) ≡ false = sym (group-backlogged queued g b) ∙ a.0 in cc in
                let up_now : Up above now = λ i j above_i awake nz _.
                let moved : i ≢ k = λ same. let rests : is_idle (now i) ≡ true = ap is_idle (put_here st k Idle i same) in cc in
                let before : is_idle (st i) ≡ false = ap is_idle (sym (put_other st k Idle i moved)) ∙ awake in
                elim (cases_eq j g) [
                  | inl same ↦
                      let above_g : above i ≡ Some g = above_i ∙ ap (λ x. Some x) same in
                      absurd (none (i, above_g, awake-active (st i) before (apart i above_g)))
                  | inr other ↦ ap is_idle (put_other st k Idle (16 + j) (λ its. other (add16 j g its))) ∙ up i j above_i before nz nz
                ] in
                let down_now : DownBut above now h = λ j act nz away.
                let was = put-was st k (16 + j) Idle Active (λ x. cc) act in
                has-kept above st k h j Idle parent away (down j was.1 nz (λ same. was.0 (ap (λ x. 16 + x) same))) in
                more.1 now d c a.1 up_now down_now (still Idle (λ x. cc)) first.2
          ],
    )

expires : (above : ℕ → Option ℕ) (levels : Levels above) (service : ℕ) (queued : Bool) (n g : ℕ) → levels.level g ≤ n → Stands above g → Expires above levels service queued g (climb n above (Some g))
expires above levels service queued n g = climbing above levels (Expires above levels service queued)
    ((λ e i. absurd i), λ st b c at up down serving e. record { now = st; at = subst (At above st) (some_is b c e) at; up = up; down = down; nobody = serving })
    (λ g h ways ne lt parent more. expire-group above levels service queued g h ways ne parent more) n g

-- the queue in service expires, which was not idle
pub expire-alive : (cause : Expiry) (most : ℕ) (queued : Bool) (b c : Bfq) → ((slot : InService) → b.in_service ≡ Some slot → (slot.seat < 16) × (idle b slot.seat ≡ false)) → expire cause most queued b ≡ Some c → Alive b → Alive c
expire-alive cause most queued b c awake e h =
    let slot = expire-is cause most queued b c e in
    let k : ℕ = slot.0.seat in
    let out : Bfq = out_of_service cause most slot.0 b in
    let above : ℕ → Option ℕ = h.above in
    let levels : Levels above = h.levels in
    let st : ℕ → State = h.st in
    let small : k < 16 = (awake slot.0 slot.1).0 in
    let awake_k : is_idle (st k) ≡ false = ap is_idle (sym (h.at.are k)) ∙ (awake slot.0 slot.1).1 in
    let m = member-at above st b k h.at (not_idle (st k) awake_k) in
    let g : ℕ = group_of b k in
    let up_k : above k ≡ Some g = m.3 in
    let stands : Stands above g = parent-stands above levels k g up_k in
    let ways : List ℕ = climb most_levels above (Some g) in
    let same : path b.parent k ≡ k ∷ ways = ap (λ (f : ℕ → Option ℕ). path f k) h.at.parents ∙ ap (λ o. k ∷ climb most_levels above o) up_k in
    let at_out : At above st out = record { parents = h.at.parents; places = h.at.places; are = h.at.are } in
    let run : along (expire_one slot.0.service queued) (k ∷ ways) out ≡ Some c = subst (λ way. along (expire_one slot.0.service queued) way out ≡ Some c) same slot.2 in
    let first = and_then_is (along (expire_one slot.0.service queued) ways) (expire_one slot.0.service queued k out) c run in
    let d : Bfq = first.0 in
    let more = expires above levels slot.0.service queued most_levels g (stands-low above levels g stands) stands in
    let far : (j : ℕ) → 16 + j ≢ k = λ j its. absurd (omega (arith, its, small)) in
    let serving : (s : State) → s ≢ Serving → (i : ℕ) → put st k s i ≡ Serving → In i ways = λ s nots i is.
    let was = put-was st k i s Serving nots is in
    let on = h.serving i was.1 in
    let its : on.0.seat ≡ k = ap (λ (x : InService). x.seat) (some_is on.0 slot.0 (sym on.1 ∙ slot.1)) in
    let way : In i (k ∷ ways) = subst (λ o. In i (k ∷ climb most_levels above o)) up_k (subst (λ x. In i (path above x)) its on.2) in
    elim way [ inl one ↦ absurd (was.0 one) | inr later ↦ later ] in
    let up_of : (s : State) → Up above (put st k s) = λ s i j above_i busy nz _.
    let before : is_idle (st i) ≡ false = elim (cases_eq i k) [
      | inl its ↦ ap (λ x. is_idle (st x)) its ∙ awake_k
      | inr other ↦ ap is_idle (sym (put_other st k s i other)) ∙ busy
    ] in
    ap is_idle (put_other st k s (16 + j) (far j)) ∙ h.up i j above_i before nz nz in
    let down_of : (s : State) → DownBut above (put st k s) g = λ s j act nz away.
    has-kept above st k g j s up_k away (h.down j (sym (put_other st k s (16 + j) (far j)) ∙ act) nz nz) in
    let f : Fallen above c = elim (expires-at above levels st slot.0.service queued k g out d at_out up_k first.1) [
      | inl a ↦ more.1 (put st k Active) d c a.1 (up_of Active) (down_of Active) (serving Active (λ x. cc)) first.2
      | inr a ↦ more.1 (put st k Idle) d c a.1 (up_of Idle) (down_of Idle) (serving Idle (λ x. cc)) first.2
    ] in
    record {
      above = above;
      st = f.now;
      levels = levels;
      at = f.at;
      up = f.up;
      down = f.down;
      serving = λ i is. absurd (f.nobody i is);
      served = λ other is i on. let none : Some other ≡ None = sym is ∙ (expire-slot cause most queued b c e).3 in cc;
    }
