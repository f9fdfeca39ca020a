-- What is left in the rings of a seat and its desk.
use Rattle.std.proofs.Common.{◌≡◌, ℕ, List, ◌++◌, map, sym, ap, ◌∙◌}
use Rattle.std.proofs.lemmas.List.{map-append}

-- what one end has sent is what the other has received, and then what it finds
pub found : {X : Type 0} (sent sent-then received received-then ahead : List X) → sent-then ≡ sent → received-then ≡ received → received-then ++ ahead ≡ sent-then
    → sent ≡ received ++ ahead
found sent sent-then received received-then ahead s r h = sym (ap (λ xs. xs ++ ahead) (sym r) ∙ h ∙ s)

-- and so with a number put in
pub found-asked : {X Y : Type 0} (asked : ℕ → X → Y) (n m : ℕ) (sent received ahead : List X) → m ≡ n → sent ≡ received ++ ahead
    → map (asked n) sent ≡ map (asked m) received ++ map (asked m) ahead
found-asked asked n m sent received ahead e h = ap (λ k. map (asked k) sent) (sym e) ∙ ap (map (asked m)) h ∙ map-append (asked m) received ahead
