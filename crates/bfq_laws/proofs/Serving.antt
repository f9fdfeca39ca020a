-- On the machine of every keeper an entity is in service exactly where it is on the path of the queue in service, and a seat's entity is in
-- a group exactly where a session sits there.
use Rattle.std.proofs.Common.{true, false, ◌≡◌, inl, inr, ℕ, zero, suc, ◌<◌, List, [], ◌∷◌, length, Contains, slice_index_or, Option, is_some, refl, sym, ap, ◌∙◌, subst, arith}
use Rattle.plain.specs.Groups.{path}
use Rattle.plain.specs.Machine.{Bfq, Plain}
use Rattle.plain.specs.declared.call.Call.{Call}
use Rattle.plain.specs.Opening.{Limits}
use Rattle.plain.specs.Keeper.{machine_of}
use Rattle.plain.specs.Headline.{replay}
use Rattle.bfq_laws.specs.Served.{PathIsServed, ThePathIsServed}
use Rattle.bfq_laws.specs.Seats.{SeatsAreInGroups, TakenSeatsAreInGroups}
use Rattle.bfq_laws.proofs.Tree.{Tree}
use Rattle.bfq_laws.proofs.Shape.{In, parent-at}
use Rattle.bfq_laws.proofs.Alive.{Alive}
use Rattle.bfq_laws.proofs.Upcoming.{some_of}
use Rattle.bfq_laws.proofs.Sound.{Sound, machine-sound}

-- who is in a list stands at a place of it
in-contains : (xs : List ℕ) (e : ℕ) → In e xs → Contains xs e
in-contains [] e i = absurd i
in-contains (x ∷ xs) e i = elim i [
  | inl same ↦ (0, omega arith, sym same)
  | inr later ↦ let c = in-contains xs e later in let lt : c.0 < length xs = c.1 in (suc c.0, omega (arith, lt), c.2)
]

at-in : (xs : List ℕ) (k e : ℕ) → k < length xs → slice_index_or xs k e ≡ e → In e xs
at-in [] k e lt is = absurd (omega (arith, lt))
at-in (x ∷ xs) zero e lt is = inl (sym is)
at-in (x ∷ xs) (suc k) e lt is = inr (at-in xs k e (omega (arith, lt)) is)

path-served : (b : Bfq) → Alive b → PathIsServed b
path-served b h entity = (
  λ s.
      let on = h.serving entity (sym (h.at.are entity) ∙ s) in
      (on.0, on.1, in-contains (path b.parent on.0.seat) entity (subst (λ (f : ℕ → Option ℕ). In entity (path f on.0.seat)) (sym h.at.parents) on.2)),
  λ on.
      let way : In entity (path b.parent on.0.seat) = at-in (path b.parent on.0.seat) on.2.0 entity on.2.1 on.2.2 in
      h.at.are entity ∙ h.served on.0 on.1 entity (subst (λ (f : ℕ → Option ℕ). In entity (path f on.0.seat)) h.at.parents way),
)

pub the-path-served : (l : Limits) (most : ℕ) (journal : List Call) → ThePathIsServed l most journal
the-path-served l most journal = path-served (machine_of (replay l most journal)).bfq (machine-sound l most journal).alive

seats-in : (m : Plain) → Sound m → SeatsAreInGroups m
seats-in m h seat lt =
    let tree : Tree m.seat m.bfq = h.calm.busy.tree in
    elim (is_some (m.seat seat)) as (λ t. is_some (m.seat seat) ≡ t → is_some (m.bfq.parent seat) ≡ t) [
      | true ↦ λ sits. let a = tree.above seat lt sits in ap is_some a.1
      | false ↦ λ free. elim (is_some (m.bfq.parent seat)) as (λ t. is_some (m.bfq.parent seat) ≡ t → t ≡ false) [
        | true ↦ λ is.
            let g = some_of (m.bfq.parent seat) is in
            let sits : is_some (m.seat seat) ≡ true = (tree.known g.0 seat lt (h.alive.at.places.there g.0 seat (sym (parent-at h.alive.above h.alive.st m.bfq seat h.alive.at) ∙ g.1))).0 in
            cc
        | false ↦ λ _. refl
      ] refl
    ] refl

pub taken-seats-in : (l : Limits) (most : ℕ) (journal : List Call) → TakenSeatsAreInGroups l most journal
taken-seats-in l most journal = seats-in (machine_of (replay l most journal)) (machine-sound l most journal)
