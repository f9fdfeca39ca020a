-- One place more of a round, and the parts of a round.
use Rattle.std.proofs.Common.{◌≡◌, ℕ, zero, suc, ◌+◌, ◌<◌, ◌≤◌, List, [], ◌∷◌, refl, sym, ap, ◌∙◌, subst, arith, Option, None, Some, ◌⊎◌, inl, inr}
use Rattle.std.specs.List.{slice_get}
use Rattle.std.proofs.lemmas.Option.{same_Some}
use Rattle.host_calls.specs.declared.seat.SeatName.{SeatName}
use Rattle.host_core.specs.Journal.{Pages}
use Rattle.host_core.specs.Rows.{Row, Took}
use Rattle.host_core.specs.declared.asked.Asked.{Asked}
use Rattle.host_core.specs.Visits.{SamePages, MustWait, AllReady, Changes}
use Rattle.host_core.specs.Visited.{VisitsSeat}
use Rattle.host_core.specs.declared.visit.Came.{Came}
use Rattle.host_core.specs.Rounds.{Passes, Comes, RoundOver}
use Rattle.host_core.proofs.Ends.{same-place}
use Rattle.host_core.proofs.Took.{all-none, all-one, all-twice, changes-so, ready-changes}

lt-or-le : (i n : ℕ) → (i < n) ⊎ (n ≤ i)
lt-or-le i zero = inr (omega arith)
lt-or-le zero (suc n) = inl (omega arith)
lt-or-le (suc i) (suc n) = elim (lt-or-le i n) [ inl lt ↦ inl (omega (arith, lt)) | inr le ↦ inr (omega (arith, le)) ]

below-or-at : (i n : ℕ) → i < n + 1 → (i ≡ n → ⊥) → i < n
below-or-at i n lt ne = omega (arith, lt, ne)

-- what must wait, over the same pages
wait-same : (lasts : List (Option ℕ)) (p q : Pages) (name other : SeatName) (calls : List Asked) → SamePages p q → other ≡ name → MustWait lasts p name calls → MustWait lasts q other calls
wait-same lasts p q name other [] s e h = tt
wait-same lasts p q name other (call ∷ calls) s e h = (h.0, rw (s.limits, s.most, s.entries, e) h.1)

pages-back : (p q : Pages) → SamePages p q → SamePages q p
pages-back p q s = record { entries = sym s.entries; limits = sym s.limits; most = sym s.most }

pages-twice : (p q o : Pages) → SamePages p q → SamePages q o → SamePages p o
pages-twice p q o s t = record { entries = t.entries ∙ s.entries; limits = t.limits ∙ s.limits; most = t.most ∙ s.most }

pages-are : (p q : Pages) → SamePages p q → q ≡ p
pages-are p q s = rw (sym s.entries, sym s.limits, sym s.most) refl

pub passes-none : (lasts : List (Option ℕ)) (from : ℕ) (p : Pages) (xs : List Row) → AllReady xs → Passes lasts from from p xs p xs
passes-none lasts from p xs ready = record {
  pages = record { entries = refl; limits = refl; most = refl };
  took = all-none xs;
  ready = ready;
  waits = λ i r low high at. absurd (omega (arith, low, high));
  beyond = λ i out. refl;
}

-- one place more at which nobody was answered
pub passes-more : (lasts : List (Option ℕ)) (from place : ℕ) (p mid q : Pages) (xs ys zs : List Row) → Passes lasts from place p xs mid ys
    → Changes place (λ r s. VisitsSeat None lasts mid r q s) ys zs → from ≤ place → Passes lasts from (place + 1) p xs q zs
passes-more lasts from place p mid q xs ys zs h c low = let v = c.related.0 in record {
  pages = pages-twice p mid q h.pages v.pages;
  took = all-twice xs ys zs h.took (all-one place ys zs (changes-so _ Took place ys zs c v.took));
  ready = ready-changes _ place ys zs c c.related.1 h.ready;
  waits = λ i r above below at. elim (same-place i place) [
    | inl e ↦ rw (same_Some r c.after (sym at ∙ ap (slice_get zs) e ∙ c.stands))
        (wait-same lasts mid p c.before.name c.after.name c.after.waiting (pages-back p mid h.pages) v.took.name v.waits)
    | inr n ↦ h.waits i r above (below-or-at i place below n) (sym (c.others i n) ∙ at)
  ];
  beyond = λ i out. elim out [
    | inl lt ↦ c.others i (λ e. omega (arith, e, lt, low)) ∙ h.beyond i (inl lt)
    | inr le ↦ c.others i (λ e. omega (arith, e, le)) ∙ h.beyond i (inr (omega (arith, le)))
  ];
}

-- a place at which something came
pub comes-at : (came : Came) (lasts : List (Option ℕ)) (from place : ℕ) (p mid q : Pages) (xs ys zs : List Row) → Passes lasts from place p xs mid ys
    → Changes place (λ r s. VisitsSeat (Some came) lasts mid r q s) ys zs → Comes lasts place came p xs q zs
comes-at came lasts from place p mid q xs ys zs h c = record {
  between = ys;
  took = h.took;
  ready = h.ready;
  visits = subst (λ o. Changes place (λ r s. VisitsSeat (Some came) lasts o r q s) ys zs) (pages-are p mid h.pages) c;
}

-- the second part of a round, after one in which nobody was answered
pub comes-both : (came : Came) (lasts : List (Option ℕ)) (from upto place : ℕ) (p mid q : Pages) (xs ys zs : List Row) → Passes lasts from upto p xs mid ys
    → Comes lasts place came mid ys q zs → Comes lasts place came p xs q zs
comes-both came lasts from upto place p mid q xs ys zs h c = record {
  between = c.between;
  took = all-twice xs ys c.between h.took c.took;
  ready = c.ready;
  visits = subst (λ o. Changes place (λ r s. VisitsSeat (Some came) lasts o r q s) c.between zs) (pages-are p mid h.pages) c.visits;
}

pub passes-both : (lasts : List (Option ℕ)) (from count : ℕ) (p mid q : Pages) (xs ys zs : List Row) → Passes lasts from count p xs mid ys → Passes lasts 0 from mid ys q zs
    → from ≤ count → Passes lasts 0 count p xs q zs
passes-both lasts from count p mid q xs ys zs a b within = record {
  pages = pages-twice p mid q a.pages b.pages;
  took = all-twice xs ys zs a.took b.took;
  ready = b.ready;
  waits = λ i r low high at. elim (lt-or-le i from) [
    | inl lt ↦ wait-same lasts mid p r.name r.name r.waiting (pages-back p mid a.pages) refl (b.waits i r low lt at)
    | inr le ↦ a.waits i r le high (sym (b.beyond i (inr le)) ∙ at)
  ];
  beyond = λ i out. elim out [
    | inl lt ↦ absurd (omega (arith, lt))
    | inr le ↦ b.beyond i (inr (omega (arith, le, within))) ∙ a.beyond i (inr le)
  ];
}

-- the second part, whatever it came to
pub round-both : (lasts : List (Option ℕ)) (from count : ℕ) (p mid q : Pages) (xs ys zs : List Row) (came : Option (ℕ × Came)) → Passes lasts from count p xs mid ys
    → RoundOver lasts 0 from mid ys q zs came → from ≤ count → RoundOver lasts 0 count p xs q zs came
round-both lasts from count p mid q xs ys zs None a b within = passes-both lasts from count p mid q xs ys zs a b within
round-both lasts from count p mid q xs ys zs (Some v) a b within = comes-both v.1 lasts from count v.0 p mid q xs ys zs a b
