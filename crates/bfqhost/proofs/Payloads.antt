-- A payload is all of its reader.
use Rattle.std.proofs.Common.{◌≡◌, ℕ, ◌+◌, ◌<◌, ◌≤◌, min, List, [], ◌++◌, length, take, sym, ap, ◌∙◌, arith}
use Rattle.std.specs.Prelude.{Option, None, Some, IfSome}
use Rattle.std.specs.Option.{option_map}
use Rattle.std.proofs.lemmas.List.{take_all, length-take}

-- a front that is shorter than it may be is all
front_is_all : (most : ℕ) (all : List ℕ) → length (take (most + 1) all) ≤ most → take (most + 1) all ≡ all
front_is_all most all few = take_all (most + 1) all (omega (arith, few, length-take (most + 1) all))

pub read_all : (known : Option (List ℕ)) (most limit : ℕ) (old bytes : List ℕ) → old ≡ [] → limit ≡ most + 1
    → IfSome (option_map (take limit) known) (λ xs. bytes ≡ old ++ xs) → length bytes ≤ most → IfSome known (λ all. bytes ≡ all)
read_all None most limit old bytes empty is read few = tt
read_all (Some all) most limit old bytes empty is read few =
    let front : bytes ≡ take (most + 1) all = read ∙ ap (λ xs. xs ++ take limit all) empty ∙ ap (λ n. take n all) is in
    let short : length (take (most + 1) all) ≤ most = omega (arith, few, ap length front) in
    front ∙ front_is_all most all short
