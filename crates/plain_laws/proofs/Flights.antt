-- What is in flight: a sum over the tags, and what one tag's change does to it.
use Rattle.std.proofs.Common.{true, false, Bool, ◌≡◌, ◌≢◌, inl, inr, ℕ, zero, suc, ◌+◌, ◌<◌, ◌≤◌, List, [], ◌∷◌, Option, Some, None, cond, sum_by, refl, sym, ap, ◌∙◌, arith}
use Rattle.std.specs.List.{find, filter_map, cons_option}
use Rattle.std.specs.Option.{option_map}
use Rattle.std.proofs.lemmas.Bool.{cases_eq}
use Rattle.std.proofs.lemmas.List.Sums.{sum_by-cons}
use Rattle.plain.specs.Lists.{numbers}
use Rattle.plain.specs.Machine.{WholeRequest, Flight, put}
use Rattle.plain_laws.specs.Owed.{bios_in, bios_of}
use Rattle.plain_laws.proofs.Puts.{put_here, put_other}

-- what is found in a run of numbers is one of them, and passes the test
pub find-numbers : (p : ℕ → Bool) (from count k : ℕ) → find p (numbers from count) ≡ Some k → (from ≤ k) × (k < from + count) × (p k ≡ true)
find-numbers p from zero k e = cc
find-numbers p from (suc count) k e =
    elim (p from) as (λ b. p from ≡ b → cond b (Some from) (find p (numbers (from + 1) count)) ≡ Some k → (from ≤ k) × (k < from + suc count) × (p k ≡ true)) [
      | true ↦ λ q r. let same : from ≡ k = cc in (omega arith, omega arith, sym (ap p same) ∙ q)
      | false ↦ λ q r. let h = find-numbers p (from + 1) count k r in (omega (arith, h.0), omega (arith, h.1), h.2)
    ] refl e

-- two sums over a run of numbers, whose terms agree
pub sum_agree : (f g : ℕ → ℕ) (from count : ℕ) → ((k : ℕ) → from ≤ k → f k ≡ g k) → sum_by f (numbers from count) ≡ sum_by g (numbers from count)
sum_agree f g from zero h = refl
sum_agree f g from (suc count) h =
    omega (
      arith,
      sum_by-cons f from (numbers (from + 1) count),
      sum_by-cons g from (numbers (from + 1) count),
      h from (omega arith),
      sum_agree f g (from + 1) count (λ k le. h k (omega (arith, le))),
    )

-- two sums over a run of numbers, whose terms agree but for one
pub sum_but_one : (f g : ℕ → ℕ) (tag from count : ℕ) → from ≤ tag → tag < from + count → ((k : ℕ) → k ≢ tag → f k ≡ g k)
    → sum_by f (numbers from count) + g tag ≡ sum_by g (numbers from count) + f tag
sum_but_one f g tag from zero lo hi h = absurd (omega arith)
sum_but_one f g tag from (suc count) lo hi h =
    let a = sum_by-cons f from (numbers (from + 1) count) in
    let b = sum_by-cons g from (numbers (from + 1) count) in
    elim (cases_eq from tag) [
      | inl e ↦
          let rest = sum_agree f g (from + 1) count (λ k le. h k (λ same. omega (arith, le, same, e))) in
          let ff : f from ≡ f tag = ap f e in
          let gg : g from ≡ g tag = ap g e in
          omega (arith, a, b, rest, ff, gg)
      | inr ne ↦
          let rest = sum_but_one f g tag (from + 1) count (omega arith) (omega arith) h in
          omega (arith, a, b, rest, h from ne)
    ]

-- of the flight under a tag
abbrev pub of_flight : (WholeRequest → ℕ) → Option Flight → ℕ
of_flight weight None = 0
of_flight weight (Some flight) = weight flight.request

-- the requests under some tags
abbrev pub flown_in : (ℕ → Option Flight) → List ℕ → List WholeRequest
flown_in flights tags = filter_map (λ tag. option_map (λ flight. flight.request) (flights tag)) tags

flight-cons : (weight : WholeRequest → ℕ) (o : Option Flight) (requests : List WholeRequest)
    → sum_by weight (cons_option (option_map (λ flight. flight.request) o) requests) ≡ of_flight weight o + sum_by weight requests
flight-cons weight None requests = omega arith
flight-cons weight (Some flight) requests = sum_by-cons weight flight.request requests

-- a sum over the requests in flight is one over the tags
pub flown-sum : (weight : WholeRequest → ℕ) (flights : ℕ → Option Flight) (tags : List ℕ) → sum_by weight (flown_in flights tags) ≡ sum_by (λ tag. of_flight weight (flights tag)) tags
flown-sum weight flights [] = refl
flown-sum weight flights (tag ∷ tags) =
    let a = flight-cons weight (flights tag) (flown_in flights tags) in
    let rest = flown-sum weight flights tags in
    let b = sum_by-cons (λ k. of_flight weight (flights k)) tag tags in
    omega (arith, a, rest, b)

-- one tag changes: the sum changes by its own
pub flown-put : (weight : WholeRequest → ℕ) (flights : ℕ → Option Flight) (tags tag : ℕ) (v : Option Flight) → tag < tags
    → sum_by weight (flown_in (put flights tag v) (numbers 0 tags)) + of_flight weight (flights tag) ≡ sum_by weight (flown_in flights (numbers 0 tags)) + of_flight weight v
flown-put weight flights tags tag v lt =
    let f : ℕ → ℕ = λ k. of_flight weight (put flights tag v k) in
    let g : ℕ → ℕ = λ k. of_flight weight (flights k) in
    let here : f tag ≡ of_flight weight v = ap (of_flight weight) (put_here flights tag v tag refl) in
    let a = flown-sum weight (put flights tag v) (numbers 0 tags) in
    let b = flown-sum weight flights (numbers 0 tags) in
    let all = sum_but_one f g tag 0 tags (omega arith) (omega (arith, lt)) (λ k ne. ap (of_flight weight) (put_other flights tag v k ne)) in
    omega (arith, a, b, here, all)

-- how many bios of a session the flight under a tag has
abbrev pub bios_flown : ℕ → Option Flight → ℕ
bios_flown session o = of_flight (bios_in session) o

pub bios_of-put : (session : ℕ) (flights : ℕ → Option Flight) (tags tag : ℕ) (v : Option Flight) → tag < tags
    → bios_of session (flown_in (put flights tag v) (numbers 0 tags)) + bios_flown session (flights tag)
    ≡ bios_of session (flown_in flights (numbers 0 tags)) + bios_flown session v
bios_of-put session flights tags tag v lt = flown-put (bios_in session) flights tags tag v lt

-- a sum of noughts is nought
pub sum_none : (f : ℕ → ℕ) (xs : List ℕ) → ((k : ℕ) → f k ≡ 0) → sum_by f xs ≡ 0
sum_none f [] h = refl
sum_none f (x ∷ xs) h = omega (arith, sum_by-cons f x xs, h x, sum_none f xs h)

-- where no flight has a bio of a session, it has none in flight
pub bios_of-none : (session : ℕ) (flights : ℕ → Option Flight) (tags : List ℕ) → ((k : ℕ) → bios_flown session (flights k) ≡ 0) → bios_of session (flown_in flights tags) ≡ 0
bios_of-none session flights tags h = flown-sum (bios_in session) flights tags ∙ sum_none (λ k. bios_flown session (flights k)) tags h
