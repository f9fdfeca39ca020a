-- Calls that were taken, one seat after the other.
use Rattle.std.proofs.Common.{ℕ, List, refl, sym, ap, ◌∙◌, subst, inl, inr}
use Rattle.std.specs.List.{slice_get}
use Rattle.std.proofs.lemmas.Option.{same_Some}
use Rattle.host_core.specs.Rows.{Row, Took}
use Rattle.host_core.specs.Visits.{AllReady, Changes, IsReady}
use Rattle.host_core.proofs.Ends.{same-place}
use Rattle.host_core.specs.Rounds.{AllTook}

-- a seat at which nothing was taken, and one that was visited twice
pub took-none : (r : Row) → Took r r
took-none r = record { name = refl; replied = refl; closed = refl; kind = λ h. h; taken_is = λ done h. h }

pub took-twice : (r s t : Row) → Took r s → Took s t → Took r t
took-twice r s t a b = record {
  name = b.name ∙ a.name;
  replied = b.replied ∙ a.replied;
  closed = b.closed ∙ a.closed;
  kind = λ h. b.kind (a.kind h);
  taken_is = λ done h. b.taken_is done (a.taken_is done h);
}

pub all-none : (xs : List Row) → AllTook xs xs
all-none xs = record { long = refl; took = λ i s at. (s, at, took-none s) }

pub all-twice : (xs ys zs : List Row) → AllTook xs ys → AllTook ys zs → AllTook xs zs
all-twice xs ys zs a b = record {
  long = b.long ∙ a.long;
  took = λ i t at. let y = b.took i t at in let x = a.took i y.0 y.1 in (x.0, x.1, took-twice x.0 y.0 t x.2 y.2);
}

-- one place at which a call may have been taken
pub all-one : (place : ℕ) (xs ys : List Row) → Changes place Took xs ys → AllTook xs ys
all-one place xs ys c = record {
  long = c.long;
  took = λ i s at. elim (same-place i place) [
    | inl e ↦ (c.before, ap (slice_get xs) e ∙ c.stood, subst (λ t. Took c.before t) (same_Some c.after s (sym c.stands ∙ ap (slice_get ys) (sym e) ∙ at)) c.related)
    | inr n ↦ (s, sym (c.others i n) ∙ at, took-none s)
  ];
}

-- a part of what changed
pub changes-so : (R S : Row → Row → Type 0) (place : ℕ) (xs ys : List Row) → (c : Changes place R xs ys) → S c.before c.after → Changes place S xs ys
changes-so R S place xs ys c h = record { before = c.before; after = c.after; long = c.long; stood = c.stood; stands = c.stands; related = h; others = c.others }

-- the seats are ready where the one that changed is
pub ready-changes : (R : Row → Row → Type 0) (place : ℕ) (xs ys : List Row) → (c : Changes place R xs ys) → IsReady c.after → AllReady xs → AllReady ys
ready-changes R place xs ys c ready h = λ i r at. elim (same-place i place) [
  | inl e ↦ subst (λ t. IsReady t) (same_Some c.after r (sym c.stands ∙ ap (slice_get ys) (sym e) ∙ at)) ready
  | inr n ↦ h i r (sym (c.others i n) ∙ at)
]
