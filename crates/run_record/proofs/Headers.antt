-- The first line of a record is read in one way.
use Rattle.std.proofs.Common.{◌≡◌, ℕ, ◌+◌, ◌<◌, ◌≤◌, ◌^◌, ◌%◌, List, [], ◌∷◌, ◌++◌, length, codes, get_or, refl, sym, ap, ◌∙◌, arith, lit<, append_assoc, append-nil}
use Rattle.std.specs.Bool.{⊤}
use Rattle.std.specs.Fmt.{decimal}
use Rattle.std.proofs.lemmas.Fmt.{decimal_injective, decimal_by_steps}
use Rattle.sector_core.specs.declared.config.Config.{Config}
use Rattle.sector_core.specs.declared.config.Scheduler.{Scheduler}
use Rattle.sector_core.specs.declared.config.Scheduler.TheVariants.{Plain, Bfq}
use Rattle.run_record.specs.Header.{scheduler_name, first_half, second_half, header_text, IsSameConfig}

-- a word of digits and letters
abbrev IsWord : List ℕ → Type 0
IsWord [] = ⊤
IsWord (c ∷ cs) = (48 ≤ c) × IsWord cs

-- what a word ends before: a space or the end of the line
abbrev IsTail : List ℕ → Type 0
IsTail [] = ⊥
IsTail (c ∷ cs) = c < 48

one_cut : (a b x y : List ℕ) → IsWord a → IsWord b → IsTail x → IsTail y → a ++ x ≡ b ++ y → (a ≡ b) × (x ≡ y)
one_cut [] [] x y _ _ _ _ e = (refl, e)
one_cut a b [] y _ _ hx _ e = absurd hx
one_cut a b x [] _ _ _ hy e = absurd hy
one_cut [] (d ∷ ds) (c ∷ cs) y _ hb hx _ e = let s : c ≡ d = cc in absurd (omega (arith, s, hx, hb.0))
one_cut (c ∷ cs) [] x (d ∷ ds) ha _ _ hy e = let s : c ≡ d = cc in absurd (omega (arith, s, hy, ha.0))
one_cut (c ∷ cs) (d ∷ ds) x y ha hb hx hy e =
    let h : c ≡ d = cc in
    let t : cs ++ x ≡ ds ++ y = cc in
    let r = one_cut cs ds x y ha.1 hb.1 hx hy t in
    let r0 = r.0 in
    (cc, r.1)

IsWord-push : (c : ℕ) (cs : List ℕ) → IsWord cs → 48 ≤ c → IsWord (cs ++ (c ∷ []))
IsWord-push c [] h k = (k, tt)
IsWord-push c (x ∷ xs) h k = (h.0, IsWord-push c xs h.1 k)

IsWord-decimal : (n : ℕ) → n < 2 ^ 64 → IsWord (decimal n)
IsWord-decimal n fits = decimal_by_steps (λ _ ds. IsWord ds)
    (λ m small. (omega arith, tt))
    (λ m ds big h. IsWord-push (48 + m % 10) ds h (omega arith))
    n fits

one_number : (m n : ℕ) (x y : List ℕ) → m < 2 ^ 64 → n < 2 ^ 64 → IsTail x → IsTail y → decimal m ++ x ≡ decimal n ++ y → (m ≡ n) × (x ≡ y)
one_number m n x y hm hn hx hy e =
    let r = one_cut (decimal m) (decimal n) x y (IsWord-decimal m hm) (IsWord-decimal n hn) hx hy e in
    (decimal_injective m n hm hn r.0, r.1)

one_scheduler : (a b : Scheduler) (x y : List ℕ) → scheduler_name a ++ 32 ∷ x ≡ scheduler_name b ++ 32 ∷ y → (a ≡ b) × (x ≡ y)
one_scheduler Plain Plain x y e = (refl, cc)
one_scheduler Plain Bfq x y e = let first : 110 ≡ 98 = ap (λ (l : List ℕ). get_or l 0 0) e in absurd (omega (arith, first))
one_scheduler Bfq Plain x y e = let first : 98 ≡ 110 = ap (λ (l : List ℕ). get_or l 0 0) e in absurd (omega (arith, first))
one_scheduler Bfq Bfq x y e = (refl, cc)

-- numbers, each behind a space, and a rest
abbrev words : List ℕ → List ℕ → List ℕ
words [] rest = rest
words (n ∷ ns) rest = 32 ∷ (decimal n ++ words ns rest)

words-append : (ns x y : List ℕ) → words ns x ++ y ≡ words ns (x ++ y)
words-append [] x y = refl
words-append (n ∷ ns) x y = ap (λ (z : List ℕ). 32 ∷ z) (append_assoc (decimal n) (words ns x) y ∙ ap (λ (z : List ℕ). decimal n ++ z) (words-append ns x y))

abbrev AreSmall : List ℕ → Type 0
AreSmall [] = ⊤
AreSmall (n ∷ ns) = (n < 2 ^ 64) × AreSmall ns

IsTail-words : (ns x : List ℕ) → IsTail x → IsTail (words ns x)
IsTail-words [] x h = h
IsTail-words (n ∷ ns) x h = lit< tt

-- as many numbers of each
one_words : (ms ns x y : List ℕ) → length ms ≡ length ns → AreSmall ms → AreSmall ns → IsTail x → IsTail y → words ms x ≡ words ns y → (ms ≡ ns) × (x ≡ y)
one_words [] [] x y same _ _ _ _ e = (refl, e)
one_words [] (n ∷ ns) x y same _ _ _ _ e = absurd (omega (arith, same))
one_words (m ∷ ms) [] x y same _ _ _ _ e = absurd (omega (arith, same))
one_words (m ∷ ms) (n ∷ ns) x y same hm hn hx hy e =
    let cut : decimal m ++ words ms x ≡ decimal n ++ words ns y = cc in
    let first = one_number m n (words ms x) (words ns y) hm.0 hn.0 (IsTail-words ms x hx) (IsTail-words ns y hy) cut in
    let rest = one_words ms ns x y (omega (arith, same)) hm.1 hn.1 hx hy first.1 in
    let m_is = first.0 in
    let ms_is = rest.0 in
    (cc, rest.1)

-- the numbers of a first line
abbrev firsts : Config → List ℕ
firsts c = c.nr_requests ∷ c.tags ∷ c.first_budget ∷ c.max_budget ∷ []

abbrev seconds : Config → ℕ → List ℕ
seconds c sectors = c.timeout ∷ c.history_max ∷ c.first_vtime ∷ sectors ∷ []

first_spelled : (c : Config) (rest : List ℕ) → first_half c ++ rest ≡ codes "bfqhost record 1 " ++ (scheduler_name c.scheduler ++ words (firsts c) rest)
first_spelled c rest =
    let front : List ℕ = codes "bfqhost record 1 " in
    let name : List ℕ = scheduler_name c.scheduler in
    let last : 32 ∷ (decimal c.nr_requests ++ 32 ∷ (decimal c.tags ++ 32 ∷ (decimal c.first_budget ++ 32 ∷ decimal c.max_budget))) ≡ words (firsts c) [] =
    ap (λ (z : List ℕ). 32 ∷ (decimal c.nr_requests ++ 32 ∷ (decimal c.tags ++ 32 ∷ (decimal c.first_budget ++ 32 ∷ z)))) (sym (append-nil (decimal c.max_budget))) in
    append_assoc front (name ++ 32 ∷ (decimal c.nr_requests ++ 32 ∷ (decimal c.tags ++ 32 ∷ (decimal c.first_budget ++ 32 ∷ decimal c.max_budget)))) rest
    ∙ ap (λ (z : List ℕ). front ++ z)
    (append_assoc name (32 ∷ (decimal c.nr_requests ++ 32 ∷ (decimal c.tags ++ 32 ∷ (decimal c.first_budget ++ 32 ∷ decimal c.max_budget)))) rest
    ∙ ap (λ (z : List ℕ). name ++ z) (ap (λ (z : List ℕ). z ++ rest) last ∙ words-append (firsts c) [] rest))

spelled : (c : Config) (sectors : ℕ) (x : List ℕ)
    → header_text c sectors ++ x ≡ codes "bfqhost record 1 " ++ (scheduler_name c.scheduler ++ words (firsts c) (words (seconds c sectors) (10 ∷ x)))
spelled c sectors x =
    append_assoc (first_half c) (second_half c sectors) x ∙ ap (λ (z : List ℕ). first_half c ++ z) (words-append (seconds c sectors) (10 ∷ []) x)
    ∙ first_spelled c (words (seconds c sectors) (10 ∷ x))

firsts-small : (c : Config) → AreSmall (firsts c)
firsts-small c =
    (omega (arith, c.few_requests), (omega (arith, c.few_tags), (omega (arith, c.small_max_budget, c.first_budget_at_most), (omega (arith, c.small_max_budget), tt))))

seconds-small : (c : Config) (sectors : ℕ) → sectors < 2 ^ 64 → AreSmall (seconds c sectors)
seconds-small c sectors small = (omega (arith, c.small_timeout), (omega (arith, c.small_history), (omega (arith, c.small_vtime), (small, tt))))

same_front : (front x y : List ℕ) → front ++ x ≡ front ++ y → x ≡ y
same_front [] x y e = e
same_front (c ∷ cs) x y e = same_front cs x y cc

pub one_line : (c d : Config) (m n : ℕ) (x y : List ℕ) → m < 2 ^ 64 → n < 2 ^ 64 → header_text c m ++ x ≡ header_text d n ++ y
    → IsSameConfig c d × (m ≡ n) × (x ≡ y)
one_line c d m n x y hm hn e =
    let both = sym (spelled c m x) ∙ e ∙ spelled d n y in
    let named = same_front (codes "bfqhost record 1 ") _ _ both in
    let named_too : scheduler_name c.scheduler ++ 32 ∷ (decimal c.nr_requests ++ words (c.tags ∷ c.first_budget ∷ c.max_budget ∷ []) (words (seconds c m) (10 ∷ x)))
    ≡ scheduler_name d.scheduler ++ 32 ∷ (decimal d.nr_requests ++ words (d.tags ∷ d.first_budget ∷ d.max_budget ∷ []) (words (seconds d n) (10 ∷ y))) = named in
    let scheduler = one_scheduler c.scheduler d.scheduler _ _ named_too in
    let numbers : words (firsts c) (words (seconds c m) (10 ∷ x)) ≡ words (firsts d) (words (seconds d n) (10 ∷ y)) = ap (λ (z : List ℕ). 32 ∷ z) scheduler.1 in
    let first = one_words (firsts c) (firsts d) _ _ refl (firsts-small c) (firsts-small d) (IsTail-words (seconds c m) (10 ∷ x) (lit< tt)) (IsTail-words (seconds d n) (10 ∷ y) (lit< tt)) numbers in
    let second = one_words (seconds c m) (seconds d n) (10 ∷ x) (10 ∷ y) refl (seconds-small c m hm) (seconds-small d n hn) (lit< tt) (lit< tt) first.1 in
    let firsts_are : c.nr_requests ∷ c.tags ∷ c.first_budget ∷ c.max_budget ∷ [] ≡ d.nr_requests ∷ d.tags ∷ d.first_budget ∷ d.max_budget ∷ [] = first.0 in
    let seconds_are : c.timeout ∷ c.history_max ∷ c.first_vtime ∷ m ∷ [] ≡ d.timeout ∷ d.history_max ∷ d.first_vtime ∷ n ∷ [] = second.0 in
    let rest : 10 ∷ x ≡ 10 ∷ y = second.1 in
    (record { scheduler = scheduler.0; nr_requests = cc; tags = cc; first_budget = cc; max_budget = cc; timeout = cc; history_max = cc; first_vtime = cc }, cc, cc)
