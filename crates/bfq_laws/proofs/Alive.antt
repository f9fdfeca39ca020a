-- A group's entity waits or is served where one of its members does; and how activating and expiring keep that.
use Rattle.std.proofs.Common.{true, false, ◌≡◌, ◌≢◌, inl, inr, ℕ, ◌+◌, ◌<◌, ◌≤◌, List, ◌∷◌, Option, Some, cond, refl, sym, ap, ◌∙◌, subst, arith}
use Rattle.std.specs.Option.{option_and_then}
use Rattle.std.proofs.lemmas.Bool.{cases_eq}
use Rattle.plain.specs.declared.member.State.{State}
use Rattle.plain.specs.declared.member.State.TheVariants.{Idle, Active, Serving}
use Rattle.plain.specs.Groups.{climb, most_levels, path}
use Rattle.plain.specs.declared.seat.InService.{InService}
use Rattle.plain.specs.Machine.{Bfq, put}
use Rattle.plain.specs.Rules.{member_of, is_idle, stamp, start_from, activate_path, activate, served_more, charge}
use Rattle.plain_laws.proofs.Puts.{put_here, put_other, some_is, and_then_is}
use Rattle.plain_laws.proofs.Rules.{charge-is, charges-keep}
use Rattle.bfq_laws.proofs.Shape.{In, Levels, Stands, parent-stands, stands-low, climbing, At, state, parent-at, stamp-at, vtime-at}

-- some member of a group is active
abbrev pub Has : (ℕ → Option ℕ) → (ℕ → State) → ℕ → Type 0
Has above st g = (e : ℕ) × (above e ≡ Some g) × (st e ≡ Active)

-- where a member of a group is not idle, the group's entity is not, but perhaps in one group
abbrev pub UpBut : (ℕ → Option ℕ) → (ℕ → State) → ℕ → Type 0
UpBut above st x = (e g : ℕ) → above e ≡ Some g → is_idle (st e) ≡ false → g ≢ 0 → g ≢ x → is_idle (st (16 + g)) ≡ false

abbrev pub Up : (ℕ → Option ℕ) → (ℕ → State) → Type 0
Up above st = UpBut above st 0

-- where a group's entity is active, a member of it is, but perhaps in one group
abbrev pub DownBut : (ℕ → Option ℕ) → (ℕ → State) → ℕ → Type 0
DownBut above st x = (g : ℕ) → st (16 + g) ≡ Active → g ≢ 0 → g ≢ x → Has above st g

abbrev pub Down : (ℕ → Option ℕ) → (ℕ → State) → Type 0
Down above st = DownBut above st 0

-- who is served is on the path of the queue in service, and so nobody is where no queue is; and who is on it is served
pub record Alive (b : Bfq) : Type 0 where
  pub above : ℕ → Option ℕ
  pub st : ℕ → State
  pub levels : Levels above
  pub at : At above st b
  pub up : Up above st
  pub down : Down above st
  pub serving : (e : ℕ) → st e ≡ Serving → (slot : InService) × (b.in_service ≡ Some slot) × In e (path above slot.seat)
  pub served : (slot : InService) → b.in_service ≡ Some slot → (e : ℕ) → In e (path above slot.seat) → st e ≡ Serving

pub not_idle : (s : State) → is_idle s ≡ false → s ≢ Idle
not_idle Idle e = cc
not_idle Active e = λ f. cc
not_idle Serving e = λ f. cc

pub awake-active : (s : State) → is_idle s ≡ false → s ≢ Serving → s ≡ Active
awake-active Idle e ne = cc
awake-active Active e ne = refl
awake-active Serving e ne = absurd (ne refl)

-- an entity that becomes active
pub has-put : (above : ℕ → Option ℕ) (st : ℕ → State) (k g : ℕ) → Has above st g → Has above (put st k Active) g
has-put above st k g h = (h.0, h.1, elim (cases_eq h.0 k) [ inl same ↦ put_here st k Active h.0 same | inr other ↦ put_other st k Active h.0 other ∙ h.2 ])

pub has-kept : (above : ℕ → Option ℕ) (st : ℕ → State) (k g j : ℕ) (s : State) → above k ≡ Some g → j ≢ g → Has above st j → Has above (put st k s) j
has-kept above st k g j s up ne h =
    let other : h.0 ≢ k = λ same. ne (some_is j g (sym h.1 ∙ ap above same ∙ up)) in
    (h.0, h.1, put_other st k s h.0 other ∙ h.2)

-- a state that an entity has after it has another one, it had before
pub put-was : (st : ℕ → State) (k e : ℕ) (s t : State) → s ≢ t → put st k s e ≡ t → (e ≢ k) × (st e ≡ t)
put-was st k e s t ne is =
    let other : e ≢ k = λ same. ne (sym (put_here st k s e same) ∙ is) in
    (other, sym (put_other st k s e other) ∙ is)

-- what activating leaves
pub record Risen (above : ℕ → Option ℕ) (st : ℕ → State) (c : Bfq) : Type 0 where
  pub now : ℕ → State
  pub at : At above now c
  pub up : Up above now
  pub down : Down above now
  pub serving : (e : ℕ) → now e ≡ Serving → st e ≡ Serving
  pub still : (e : ℕ) → st e ≡ Serving → now e ≡ Serving

-- the first entity of a way becomes active where it is idle
abbrev Activates : (above : ℕ → Option ℕ) → ℕ → List ℕ → Type 0
Activates above g up =
    (st : ℕ → State) (b c : Bfq) → At above st b → UpBut above st g → Down above st → Has above st g → activate_path up b ≡ Some c → Risen above st c

-- an idle entity of a group becomes active, on the way up
pub rises-at : (above : ℕ → Option ℕ) (levels : Levels above) (k g : ℕ) (ways : List ℕ) → above k ≡ Some g → Activates above g ways
    → (st : ℕ → State) (b c : Bfq) → At above st b → ((e j : ℕ) → above e ≡ Some j → is_idle (st e) ≡ false → j ≢ 0 → 16 + j ≢ k → is_idle (st (16 + j)) ≡ false)
    → Down above st → ((j : ℕ) → 16 + j ≡ k → j ≢ 0 → Has above st j) → activate_path (k ∷ ways) b ≡ Some c → Risen above st c
rises-at above levels k g ways parent more st b c at up down has e =
    elim (is_idle (member_of b k).state) as (λ t. is_idle (member_of b k).state ≡ t → cond t (option_and_then (activate_path ways) (stamp (start_from b k) k b)) (Some b) ≡ Some c → Risen above st c) [
      | true ↦ λ rests f.
          let first = and_then_is (activate_path ways) (stamp (start_from b k) k b) c f in
          let now : ℕ → State = put st k Active in
          let at_k : At above now first.0 = stamp-at above levels st (start_from b k) k g b first.0 at parent first.1 in
          let up_k : UpBut above now g = λ i j above_i awake nz ne.
          elim (cases_eq (16 + j) k) [
            | inl same ↦ ap is_idle (put_here st k Active (16 + j) same)
            | inr other ↦
                let apart : i ≢ k = λ same. ne (some_is j g (sym above_i ∙ ap above same ∙ parent)) in
                ap is_idle (put_other st k Active (16 + j) other) ∙ up i j above_i (ap is_idle (sym (put_other st k Active i apart)) ∙ awake) nz other
          ] in
          let down_k : Down above now = λ j act nz _.
          has-put above st k j (elim (cases_eq (16 + j) k) [
            | inl same ↦ has j same nz
            | inr other ↦ down j (sym (put_other st k Active (16 + j) other) ∙ act) nz nz
          ]) in
          let last : Risen above now c = more now first.0 c at_k up_k down_k (k, parent, put_here st k Active k refl) first.2 in
          record {
            now = last.now;
            at = last.at;
            up = last.up;
            down = last.down;
            serving = λ i s. (put-was st k i Active Serving (λ x. cc) (last.serving i s)).1;
            still = λ i s.
                let other : i ≢ k = λ same. let no : is_idle (state b k) ≡ false = ap is_idle (at.are k ∙ ap st (sym same) ∙ s) in cc in
                last.still i (put_other st k Active i other ∙ s);
          }
      | false ↦ λ awake f.
          let awake_k : is_idle (st k) ≡ false = ap is_idle (sym (at.are k)) ∙ awake in
          record {
            now = st;
            at = subst (At above st) (some_is b c f) at;
            up = λ i j above_i busy nz _. elim (cases_eq (16 + j) k) [
              | inl same ↦ ap (λ x. is_idle (st x)) same ∙ awake_k
              | inr other ↦ up i j above_i busy nz other
            ];
            down = down;
            serving = λ i s. s;
            still = λ i s. s;
          }
    ] refl e

add16 : (j g : ℕ) → 16 + j ≡ 16 + g → j ≡ g
add16 j g e = omega (arith, e)

activates : (above : ℕ → Option ℕ) (levels : Levels above) (n g : ℕ) → levels.level g ≤ n → Stands above g → Activates above g (climb n above (Some g))
activates above levels n g = climbing above levels (Activates above)
    (λ st b c at up down has e. record { now = st; at = subst (At above st) (some_is b c e) at; up = up; down = down; serving = λ i s. s; still = λ i s. s })
    (λ g h ways ne lt parent more st b c at up down has.
    rises-at above levels (16 + g) h ways parent more st b c at
    (λ i j above_i awake nz other. up i j above_i awake nz (λ same. other (ap (λ x. 16 + x) same))) down
    (λ j same nz. subst (Has above st) (sym (add16 j g same)) has)) n g

-- a session's queue is in a group
small-other : (j k : ℕ) → k < 16 → 16 + j ≡ k → ⊥
small-other j k lt e = absurd (omega (arith, lt, e))

pub activate-alive : (k : ℕ) (b c : Bfq) → k < 16 → (g : ℕ) → b.parent k ≡ Some g → c.in_service ≡ b.in_service → activate k b ≡ Some c → Alive b → Alive c
activate-alive k b c lt g parent slots e h =
    let above : ℕ → Option ℕ = h.above in
    let up_k : above k ≡ Some g = sym (parent-at above h.st b k h.at) ∙ parent in
    let stands : Stands above g = parent-stands above h.levels k g up_k in
    let same : path b.parent k ≡ k ∷ climb most_levels above (Some g) =
    ap (λ (f : ℕ → Option ℕ). path f k) h.at.parents ∙ ap (λ o. k ∷ climb most_levels above o) up_k in
    let r : Risen above h.st c =
    rises-at above h.levels k g (climb most_levels above (Some g)) up_k (activates above h.levels most_levels g (stands-low above h.levels g stands) stands) h.st b c h.at
    (λ i j above_i awake nz _. h.up i j above_i awake nz nz) h.down (λ j is nz. absurd (small-other j k lt is)) (subst (λ way. activate_path way b ≡ Some c) same e) in
    record {
      above = above;
      st = r.now;
      levels = h.levels;
      at = r.at;
      up = r.up;
      down = r.down;
      serving = λ i s. let old = h.serving i (r.serving i s) in (old.0, slots ∙ old.1, old.2);
      served = λ slot is i on. r.still i (h.served slot (sym slots ∙ is) i on);
    }

-- Charge: times alone
pub charge-at : (above : ℕ → Option ℕ) (st : ℕ → State) (sectors : ℕ) (b c : Bfq) → At above st b → charge sectors b ≡ Some c → At above st c
charge-at above st sectors b c at e =
    let slot = charge-is sectors b c e in
    charges-keep (At above st) (λ d g k vtime _ _ h. vtime-at above st d g _ h) sectors (path b.parent slot.0.seat) (served_more sectors slot.0 b) c slot.2
    (record { parents = at.parents; places = at.places; are = at.are })
