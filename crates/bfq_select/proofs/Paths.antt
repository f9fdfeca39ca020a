-- A rule at each entity of a path: one entity more, and a refusal.
use Rattle.std.proofs.Common.{◌≡◌, ℕ, ◌+◌, ◌<◌, List, ◌∷◌, Option, Some, None, true, get_or, drop, length, if◌then◌else◌, sym, ap, ◌∙◌, add-one, drop-cons}
use Rattle.std.specs.Option.{option_and_then}
use Rattle.plain.specs.Machine.{Bfq}
use Rattle.plain.specs.Rules.{along, activate_path, is_idle, member_of, start_from, stamp}

-- what is left of a list is its next element, and what is left after it
dropped : (path : List ℕ) (n d : ℕ) → n < length path → drop n path ≡ get_or path n d ∷ drop (n + 1) path
dropped path n d h = drop-cons path n d h ∙ ap (λ k. get_or path n d ∷ drop k path) (sym (add-one n))

pub along_more : (rule : ℕ → Bfq → Option Bfq) (path : List ℕ) (n d : ℕ) (b c : Bfq) → n < length path → rule (get_or path n d) b ≡ Some c
    → along rule (drop (n + 1) path) c ≡ along rule (drop n path) b
along_more rule path n d b c h made =
    sym (ap (λ l. along rule l b) (dropped path n d h) ∙ ap (option_and_then (along rule (drop (n + 1) path))) made)

pub activate_more : (path : List ℕ) (n d : ℕ) (b c : Bfq) → n < length path → is_idle (member_of b (get_or path n d)).state ≡ true
    → stamp (start_from b (get_or path n d)) (get_or path n d) b ≡ Some c → activate_path (drop (n + 1) path) c ≡ activate_path (drop n path) b
activate_more path n d b c h idle made =
    let e : ℕ = get_or path n d in
    let rest : List ℕ = drop (n + 1) path in
    sym (ap (λ l. activate_path l b) (dropped path n d h)
    ∙ ap (λ t. if t then option_and_then (activate_path rest) (stamp (start_from b e) e b) else Some b) idle
    ∙ ap (option_and_then (activate_path rest)) made)
