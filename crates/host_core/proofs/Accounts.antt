-- The accounts of all seats after a turn.
use Rattle.std.proofs.Common.{true, false, Bool, ◌≡◌, ℕ, suc, List, [], ◌∷◌, ◌++◌, arith, length, refl, sym, ap, ◌∙◌, subst, Option, None, Some, inl, inr}
use Rattle.std.specs.List.{slice_get, filter}
use Rattle.std.proofs.lemmas.List.{append-nil}
use Rattle.std.proofs.lemmas.Option.{same_Some}
use Rattle.plain.specs.declared.call.Call.TheVariants.{Do}
use Rattle.plain.specs.declared.step.Step.TheVariants.{Dispatch}
use Rattle.host_calls.specs.declared.seat.SeatName.{SeatName}
use Rattle.host_calls.specs.declared.seat.SeatName.TheVariants.{Core}
use Rattle.host_core.specs.Journal.{Pages, Entry}
use Rattle.host_core.specs.Rows.{Row, Took}
use Rattle.host_core.specs.declared.asked.Asked.TheVariants.{Ask}
use Rattle.host_core.specs.Visits.{SamePages, Serves, Changes}
use Rattle.host_core.specs.Closing.{AllClose}
use Rattle.host_core.specs.Rounds.{AllTook}
use Rattle.host_core.specs.Turns.{Answers, RoundBy, Dispatches, Ends, IsTurn, IsLastTurn}
use Rattle.host_core.proofs.Ends.{same-place}
use Rattle.host_core.proofs.Took.{took-none, all-none, all-one, all-twice, changes-so}
use Rattle.host_core.specs.Names.{AreNamed}
use Rattle.host_core.specs.Keeping.{is_device, devices_among, is_entry, is_own, IsKept, AreKeptFor, AreKept, AreShut}
use Rattle.host_core.proofs.Kept.{added, entered-added, added-others, kept-took, kept-serves, kept-closes}

-- each seat has the name of one at that place
abbrev SameNames : List Row → List Row → Type 0
SameNames xs ys = (i : ℕ) (s : Row) → slice_get ys i ≡ Some s → (r : Row) × (slice_get xs i ≡ Some r) × (s.name ≡ r.name)

named-same : (xs ys : List Row) → SameNames xs ys → AreNamed xs → AreNamed ys
named-same xs ys a h = (
  (λ i j r s at_r at_s n. let x = a i r at_r in let y = a j s at_s in rw (x.2, y.2) (h.0 i j x.0 y.0 x.1 y.1 n)),
  (λ i r at. let x = a i r at in rw x.2 (h.1 i x.0 x.1)),
)

names-twice : (xs ys zs : List Row) → SameNames xs ys → SameNames ys zs → SameNames xs zs
names-twice xs ys zs a b = λ i t at. let y = b i t at in let x = a i y.0 y.1 in (x.0, x.1, y.2 ∙ x.2)

names-took : (xs ys : List Row) → AllTook xs ys → SameNames xs ys
names-took xs ys a = λ i s at. let x = a.took i s at in (x.0, x.1, x.2.name)

names-changes : (R : Row → Row → Type 0) (place : ℕ) (xs ys : List Row) → (c : Changes place R xs ys) → c.after.name ≡ c.before.name → SameNames xs ys
names-changes R place xs ys c e = λ i s at. elim (same-place i place) [
  | inl p ↦ (c.before, ap (slice_get xs) p ∙ c.stood, ap (λ t. t.name) (same_Some s c.after (sym at ∙ ap (slice_get ys) p ∙ c.stands)) ∙ e)
  | inr n ↦ (s, sym (c.others i n) ∙ at, refl)
]

names-closes : (xs ys : List Row) → AllClose xs ys → SameNames xs ys
names-closes xs ys a = λ i s at. let x = a.closes i s at in (x.0, x.1, ap (λ t. t.name) x.2.1)

names-round : (lasts : List (Option ℕ)) (p q : Pages) (xs ys : List Row) (answered : Option SeatName) → RoundBy lasts p xs q ys answered → SameNames xs ys
names-round lasts p q xs ys None r = names-took xs ys r.took
names-round lasts p q xs ys (Some name) r = let a = r.1 in
    names-twice xs a.between ys (names-took xs a.between a.took) (names-changes _ r.0 a.between ys a.changes a.changes.related.name)

names-turn : (lasts : List (Option ℕ)) (p q : Pages) (xs ys : List Row) (answered : Option SeatName) (dispatched : Bool)
    → IsTurn lasts p xs q ys answered dispatched → SameNames xs ys
names-turn lasts p q xs ys answered dispatched t = names-round lasts p t.between xs ys answered t.round

names-end : (p q : Pages) (place : ℕ) (xs ys : List Row) → Ends place p xs q ys → SameNames xs ys
names-end p q place xs ys e =
    names-twice xs e.between ys (names-took xs e.between e.took) (names-changes _ place e.between ys e.changes e.changes.related.took.name)

names-last : (p q : Pages) (xs ys : List Row) (answered : Option SeatName) (dispatched : Bool) → IsLastTurn p xs q ys answered dispatched → SameNames xs ys
names-last p q xs ys answered dispatched t = names-twice xs t.between ys (names-end p q t.place xs t.between t.ends) (names-closes t.between ys t.closes)

-- so many rows as before
long-round : (lasts : List (Option ℕ)) (p q : Pages) (xs ys : List Row) (answered : Option SeatName) → RoundBy lasts p xs q ys answered → length ys ≡ length xs
long-round lasts p q xs ys None r = r.took.long
long-round lasts p q xs ys (Some name) r = r.1.changes.long ∙ r.1.took.long

long-turn : (lasts : List (Option ℕ)) (p q : Pages) (xs ys : List Row) (answered : Option SeatName) (dispatched : Bool)
    → IsTurn lasts p xs q ys answered dispatched → length ys ≡ length xs
long-turn lasts p q xs ys answered dispatched t = long-round lasts p t.between xs ys answered t.round

long-last : (p q : Pages) (xs ys : List Row) (answered : Option SeatName) (dispatched : Bool) → IsLastTurn p xs q ys answered dispatched → length ys ≡ length xs
long-last p q xs ys answered dispatched t = t.closes.long ∙ t.ends.changes.long ∙ t.ends.took.long

-- and as many of them are a device's
one-device : (x y : Row) (xs ys : List Row) (b : Bool) → is_device x.name ≡ b → y.name ≡ x.name → devices_among xs ≡ devices_among ys
    → devices_among (x ∷ xs) ≡ devices_among (y ∷ ys)
one-device x y xs ys true is named h = rw (named, is) (ap suc h)
one-device x y xs ys false is named h = rw (named, is) h

same-devices : (xs ys : List Row) → length ys ≡ length xs → SameNames xs ys → devices_among xs ≡ devices_among ys
same-devices [] [] long same = refl
same-devices [] (y ∷ ys) long same = absurd (omega (arith, long))
same-devices (x ∷ xs) [] long same = absurd (omega (arith, long))
same-devices (x ∷ xs) (y ∷ ys) long same =
    let first = same 0 y refl in
    one-device x y xs ys (is_device x.name) refl (first.2 ∙ ap (λ r. r.name) (sym (same_Some x first.0 first.1)))
    (same-devices xs ys (omega (arith, long)) (λ i s at. same (suc i) s at))

-- the accounts where calls may have been taken, and nobody who sits at a seat made entries
all-kept-took : (devices : ℕ) (p q : Pages) (more : List Entry) (xs ys : List Row) → AllTook xs ys → q.entries ≡ p.entries ++ more → q.limits ≡ p.limits → q.most ≡ p.most
    → ((i : ℕ) (r : Row) → slice_get xs i ≡ Some r → filter (is_own r.name) more ≡ []) → AreKeptFor devices p xs → AreKeptFor devices q ys
all-kept-took devices p q more xs ys a e l m others h = λ i s at. let x = a.took i s at in
    kept-took devices p q more x.0 s x.2 e l m (others i x.0 x.1) (h i x.0 x.1)

-- the accounts where nobody was answered
all-kept-still : (devices : ℕ) (p q : Pages) (xs ys : List Row) → AllTook xs ys → SamePages p q → AreKeptFor devices p xs → AreKeptFor devices q ys
all-kept-still devices p q xs ys a s h = all-kept-took devices p q [] xs ys a (s.entries ∙ sym (append-nil p.entries)) s.limits s.most (λ i r at. refl) h

-- the accounts where one seat was answered
all-kept-serves : (lasts : List (Option ℕ)) (devices : ℕ) (place : ℕ) (p q : Pages) (xs ys : List Row) → Changes place (λ r s. Serves lasts p r q s) xs ys
    → length lasts ≡ devices → AreNamed xs → AreKeptFor devices p xs → AreKeptFor devices q ys
all-kept-serves lasts devices place p q xs ys c few named h = λ i s at. elim (same-place i place) [
  | inl e ↦ subst (λ t. IsKept devices q t) (same_Some c.after s (sym c.stands ∙ ap (slice_get ys) (sym e) ∙ at))
      (kept-serves lasts devices p q c.before c.after few c.related (h place c.before c.stood))
  | inr n ↦ let v = c.related in
      kept-took devices p q (added c.before.name v.call v.answer) s s (took-none s) (v.entries ∙ entered-added p.entries c.before.name v.call v.answer) v.limits v.most
      (added-others c.before.name s.name v.call (is_entry v.call v.answer) (named.0 i place s c.before (sym (c.others i n) ∙ at) c.stood n))
      (h i s (sym (c.others i n) ∙ at))
]

all-kept-answers : (lasts : List (Option ℕ)) (devices : ℕ) (place : ℕ) (p q : Pages) (xs ys : List Row) → Answers lasts place p xs q ys → length lasts ≡ devices → AreNamed xs
    → AreKeptFor devices p xs → AreKeptFor devices q ys
all-kept-answers lasts devices place p q xs ys a few named h =
    all-kept-serves lasts devices place p q a.between ys a.changes few (named-same xs a.between (names-took xs a.between a.took) named)
    (all-kept-still devices p p xs a.between a.took (record { entries = refl; limits = refl; most = refl }) h)

kept-round : (lasts : List (Option ℕ)) (devices : ℕ) (p q : Pages) (xs ys : List Row) (answered : Option SeatName) → RoundBy lasts p xs q ys answered → length lasts ≡ devices
    → AreNamed xs → AreKeptFor devices p xs → AreKeptFor devices q ys
kept-round lasts devices p q xs ys None r few named h = all-kept-still devices p q xs ys r.took r.pages h
kept-round lasts devices p q xs ys (Some name) r few named h = all-kept-answers lasts devices r.0 p q xs ys r.1 few named h

kept-dispatch : (devices : ℕ) (p q : Pages) (xs : List Row) (dispatched : Bool) → Dispatches p q dispatched → AreNamed xs → AreKeptFor devices p xs → AreKeptFor devices q xs
kept-dispatch devices p q xs dispatched d named h = all-kept-took devices p q (added Core (Ask (Do Dispatch)) d.answer) xs xs (all-none xs)
    (d.entries ∙ entered-added p.entries Core (Ask (Do Dispatch)) d.answer) d.limits d.most
    (λ i r at. added-others Core r.name (Ask (Do Dispatch)) (is_entry (Ask (Do Dispatch)) d.answer) (named.1 i r at)) h

kept-end : (devices : ℕ) (p q : Pages) (place : ℕ) (xs ys : List Row) → Ends place p xs q ys → AreKeptFor devices p xs → AreKeptFor devices q ys
kept-end devices p q place xs ys e h = all-kept-still devices p q xs ys
    (all-twice xs e.between ys e.took (all-one place e.between ys (changes-so _ Took place e.between ys e.changes e.changes.related.took))) e.changes.related.pages h

-- every turn keeps the account of every seat
kept-turn : (lasts : List (Option ℕ)) (devices : ℕ) (p q : Pages) (xs ys : List Row) (answered : Option SeatName) (dispatched : Bool) → IsTurn lasts p xs q ys answered dispatched
    → length lasts ≡ devices → AreNamed xs → AreKeptFor devices p xs → AreKeptFor devices q ys
kept-turn lasts devices p q xs ys answered dispatched t few named h =
    kept-dispatch devices t.between q ys dispatched t.dispatch (named-same xs ys (names-turn lasts p q xs ys answered dispatched t) named) (kept-round lasts devices p t.between xs ys answered t.round few named h)

kept-last : (devices : ℕ) (p q : Pages) (xs ys : List Row) (answered : Option SeatName) (dispatched : Bool) → IsLastTurn p xs q ys answered dispatched → AreKeptFor devices p xs → AreKeptFor devices q ys
kept-last devices p q xs ys answered dispatched t h = λ i s at. let c = t.closes.closes i s at in
    kept-closes devices q c.0 s c.2 (kept-end devices p q t.place xs t.between t.ends h i c.0 c.1)

-- and so after either turn
pub kept-any : (lasts : List (Option ℕ)) (p q : Pages) (xs ys : List Row) (answered : Option SeatName) (dispatched ended : Bool)
    → (ended ≡ false → IsTurn lasts p xs q ys answered dispatched) → (ended ≡ true → IsLastTurn p xs q ys answered dispatched)
    → length lasts ≡ devices_among xs → AreNamed xs → AreKept p xs → AreKept q ys
kept-any lasts p q xs ys answered dispatched false t l count named h =
    let one = t refl in
    subst (λ n. AreKeptFor n q ys) (same-devices xs ys (long-turn lasts p q xs ys answered dispatched one) (names-turn lasts p q xs ys answered dispatched one))
    (kept-turn lasts (devices_among xs) p q xs ys answered dispatched one count named h)
kept-any lasts p q xs ys answered dispatched true t l count named h =
    let one = l refl in
    subst (λ n. AreKeptFor n q ys) (same-devices xs ys (long-last p q xs ys answered dispatched one) (names-last p q xs ys answered dispatched one))
    (kept-last (devices_among xs) p q xs ys answered dispatched one h)

pub named-any : (lasts : List (Option ℕ)) (p q : Pages) (xs ys : List Row) (answered : Option SeatName) (dispatched ended : Bool)
    → (ended ≡ false → IsTurn lasts p xs q ys answered dispatched) → (ended ≡ true → IsLastTurn p xs q ys answered dispatched)
    → AreNamed xs → AreNamed ys
named-any lasts p q xs ys answered dispatched false t l named = named-same xs ys (names-turn lasts p q xs ys answered dispatched (t refl)) named
named-any lasts p q xs ys answered dispatched true t l named = named-same xs ys (names-last p q xs ys answered dispatched (l refl)) named

-- every seat has heard the end after the last
pub shut-last : (p q : Pages) (xs ys : List Row) (answered : Option SeatName) (dispatched : Bool) → IsLastTurn p xs q ys answered dispatched → AreShut ys
shut-last p q xs ys answered dispatched t = λ i s at. ap (λ r. r.closed) (t.closes.closes i s at).2.1
