-- The best of one tag more.
use Rattle.std.proofs.Common.{◌≡◌, ℕ, zero, suc, ◌+◌, ◌<◌, ◌≤◌, List, [], ◌∷◌, length, slice_index_or, refl, sym, ap, ◌∙◌, subst, arith, Option, None, Some, ◌⊎◌, inl, inr}
use Rattle.std.specs.Option.{option_map}
use Rattle.std.specs.List.{slice_get}
use Rattle.std.proofs.lemmas.Option.{slice_get_within}
use Rattle.plain.specs.Machine.{Plain}
use Rattle.dispatch_core.specs.Running.{Running, plain_of, IsFor}
use Rattle.plain.specs.declared.answer.Work.{Work}
use Rattle.plain.specs.Device.{work_of}
use Rattle.host_core.specs.Takes.{IsOthers, IsFree, IsBest, IsBestOf}
use Rattle.host_rings.specs.Nearer.{IsNearer}

-- a tag below the next is below this, or this
below-next : (t n : ℕ) → t < n + 1 → (t < n) ⊎ (t ≡ n)
below-next zero zero h = inr refl
below-next zero (suc n) h = inl (omega arith)
below-next (suc t) zero h = absurd (omega (arith, h))
below-next (suc t) (suc n) h = elim (below-next t n (omega (arith, h))) [ inl lt ↦ inl (omega (arith, lt)) | inr e ↦ inr (ap suc e) ]

-- below the number of tags, or past it
below-or-past : (t n : ℕ) → (t < n) ⊎ (n ≤ t)
below-or-past t zero = inr (omega arith)
below-or-past zero (suc n) = inl (omega arith)
below-or-past (suc t) (suc n) = elim (below-or-past t n) [ inl lt ↦ inl (omega (arith, lt)) | inr le ↦ inr (omega (arith, le)) ]

-- nothing free under this tag
pub best-skips : (n : ℕ) (m : Plain) (lasts : List (Option ℕ)) (own : ℕ) (best : Option Work)
    → ((v : Work) → IsFree m lasts own n v → ⊥) → IsBestOf (λ t. t < n) m lasts own best → IsBestOf (λ t. t < n + 1) m lasts own best
best-skips n m lasts own None skips h = λ t v lt free. elim (below-next t n lt) [
  | inl below ↦ h t v below free
  | inr e ↦ skips v (subst (λ k. IsFree m lasts own k v) e free)
]
best-skips n m lasts own (Some w) skips h = record {
  tag = h.tag;
  among = omega (arith, h.among);
  free = h.free;
  least = λ t v lt free. elim (below-next t n lt) [
    | inl below ↦ h.least t v below free
    | inr e ↦ absurd (skips v (subst (λ k. IsFree m lasts own k v) e free))
  ];
}

issue_or : Option Work → ℕ
issue_or None = 0
issue_or (Some w) = w.issue

same-issue : (w v : Work) → Some w ≡ Some v → w.issue ≡ v.issue
unfolding issue_or
same-issue w v e = ap issue_or e

le-same : (w v : Work) → Some w ≡ Some v → w.issue ≤ v.issue
le-same w v e = omega (arith, same-issue w v e)

none-some : (v : Work) → None ≡ Some v → ⊥
none-some v e = grind (arith, e)

-- one tag bears one request
same-least : (n : ℕ) (m : Plain) (lasts : List (Option ℕ)) (own : ℕ) (w v : Work) → IsFree m lasts own n w → IsFree m lasts own n v → w.issue ≤ v.issue
same-least n m lasts own w v a b = le-same w v (sym a.flies ∙ b.flies)

-- the nearer of the best and what is free under this tag
pub best-nearer : (n : ℕ) (m : Plain) (lasts : List (Option ℕ)) (own : ℕ) (best result : Option Work) (w : Work)
    → IsFree m lasts own n w → IsNearer best w result → IsBestOf (λ t. t < n) m lasts own best → IsBestOf (λ t. t < n + 1) m lasts own result
best-nearer n m lasts own None result w free near h = subst (λ r. IsBestOf (λ t. t < n + 1) m lasts own r) (sym near) (record {
  tag = n;
  among = omega arith;
  free = free;
  least = λ t v lt other. elim (below-next t n lt) [
    | inl below ↦ absurd (h t v below other)
    | inr e ↦ same-least n m lasts own w v free (subst (λ k. IsFree m lasts own k v) e other)
  ];
})
best-nearer n m lasts own (Some b) result w free (inl near) h = subst (λ r. IsBestOf (λ t. t < n + 1) m lasts own r) (sym near.1) (record {
  tag = h.tag;
  among = omega (arith, h.among);
  free = h.free;
  least = λ t v lt other. elim (below-next t n lt) [
    | inl below ↦ h.least t v below other
    | inr e ↦ omega (arith, near.0, same-least n m lasts own w v free (subst (λ k. IsFree m lasts own k v) e other))
  ];
})
best-nearer n m lasts own (Some b) result w free (inr near) h = subst (λ r. IsBestOf (λ t. t < n + 1) m lasts own r) (sym near.1) (record {
  tag = n;
  among = omega arith;
  free = free;
  least = λ t v lt other. elim (below-next t n lt) [
    | inl below ↦ omega (arith, near.0, h.least t v below other)
    | inr e ↦ same-least n m lasts own w v free (subst (λ k. IsFree m lasts own k v) e other)
  ];
})

-- a tag that bears nothing, or what another device took
pub none-free : (n : ℕ) (m : Plain) (lasts : List (Option ℕ)) (own : ℕ) (found : Option Work) → found ≡ None → found ≡ option_map (work_of n) (m.flight n)
    → (v : Work) → IsFree m lasts own n v → ⊥
none-free n m lasts own found none e v free = none-some v (sym none ∙ e ∙ free.flies)

pub taken-skips : (n : ℕ) (m : Plain) (lasts : List (Option ℕ)) (own : ℕ) (found : Option Work) (w : Work) → found ≡ Some w → found ≡ option_map (work_of n) (m.flight n)
    → IsOthers lasts own w.issue → (v : Work) → IsFree m lasts own n v → ⊥
taken-skips n m lasts own found w some e taken v free = free.free (subst (λ k. IsOthers lasts own k) (same-issue w v (sym some ∙ e ∙ free.flies)) taken)

pub found-free : (n : ℕ) (m : Plain) (lasts : List (Option ℕ)) (own : ℕ) (found : Option Work) (w : Work) → found ≡ Some w → found ≡ option_map (work_of n) (m.flight n)
    → (IsOthers lasts own w.issue → ⊥) → IsFree m lasts own n w
found-free n m lasts own found w some e free = record { flies = sym e ∙ some; free = free }

-- where the tags end
pub best-upto : (n tags : ℕ) (m : Plain) (lasts : List (Option ℕ)) (own : ℕ) (best : Option Work) → n ≡ tags → IsBestOf (λ t. t < n) m lasts own best → IsBestOf (λ t. t < tags) m lasts own best
best-upto n tags m lasts own best e h = subst (λ k. IsBestOf (λ t. t < k) m lasts own best) e h

at-beyond : {A : Type 0} (xs : List (Option A)) (k : ℕ) → length xs ≤ k → slice_index_or xs k None ≡ None
at-beyond [] k past = refl
at-beyond (x ∷ xs) zero past = absurd (omega (arith, past))
at-beyond (x ∷ xs) (suc k) past = at-beyond xs k (omega (arith, past))

-- past the last tag nothing is in flight
pub none-beyond : (n : ℕ) (m : Running) → IsFor n m → (tag : ℕ) → m.sizes.tags ≤ tag → (plain_of m).flight tag ≡ None
none-beyond n m ok tag past = rw (at-beyond m.tables.tags tag (omega (arith, past, ok.0.sized.tags))) refl

pub best-of-all : (tags : ℕ) (m : Plain) (lasts : List (Option ℕ)) (own : ℕ) (best : Option Work) → ((tag : ℕ) → tags ≤ tag → m.flight tag ≡ None)
    → IsBestOf (λ t. t < tags) m lasts own best → IsBest m lasts own best
best-of-all tags m lasts own None beyond h = λ t other all free. elim (below-or-past t tags) [
  | inl lt ↦ h t other lt free
  | inr past ↦ none-some other (ap (option_map (work_of t)) (sym (beyond t past)) ∙ free.flies)
]
best-of-all tags m lasts own (Some work) beyond h = record {
  tag = h.tag;
  among = tt;
  free = h.free;
  least = λ t other all free. elim (below-or-past t tags) [
    | inl lt ↦ h.least t other lt free
    | inr past ↦ absurd (none-some other (ap (option_map (work_of t)) (sym (beyond t past)) ∙ free.flies))
  ];
}

-- before the first tag
pub none-before : (m : Plain) (lasts : List (Option ℕ)) (own : ℕ) → IsBestOf (λ t. t < 0) m lasts own None
none-before m lasts own = λ t other lt free. absurd (omega (arith, lt))

-- past the last device, no other one took it
pub not-others : (lasts : List (Option ℕ)) (own issue device : ℕ) → length lasts ≤ device
    → ((k : ℕ) → k < device → (k ≡ own → ⊥) → slice_get lasts k ≡ Some (Some issue) → ⊥) → IsOthers lasts own issue → ⊥
not-others lasts own issue device past before others =
    let within : others.0 < length lasts = slice_get_within lasts others.0 (Some issue) others.2 in
    before others.0 (omega (arith, within, past)) others.1 others.2
