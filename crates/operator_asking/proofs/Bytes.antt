-- Bytes that are taken and appended one after another.
use Rattle.std.proofs.Common.{ℕ, List, [], ◌++◌, Some, None, refl, sym, ap, ◌∙◌, append_assoc, append-nil}
use Rattle.std.specs.Io.KnownBytes.{Appends, Consumes}
use Rattle.operator_asking.specs.Asked.{Known}

pub Appends-none : (w : Known) → Appends w w []
Appends-none None = tt
Appends-none (Some xs) = sym (append-nil xs)

pub Appends-more : (a b c : Known) (x y : List ℕ) → Appends a b x → Appends b c y → Appends a c (x ++ y)
Appends-more None b c x y h k = tt
Appends-more (Some xs) None c x y h k = absurd h
Appends-more (Some xs) (Some ys) None x y h k = absurd k
Appends-more (Some xs) (Some ys) (Some zs) x y h k = k ∙ ap (λ l. l ++ y) h ∙ append_assoc xs x y

pub Consumes-none : (r : Known) → Consumes r r []
Consumes-none None = tt
Consumes-none (Some xs) = refl

pub Consumes-more : (a b c : Known) (x y : List ℕ) → Consumes a b x → Consumes b c y → Consumes a c (x ++ y)
Consumes-more None b c x y h k = tt
Consumes-more (Some xs) None c x y h k = absurd h
Consumes-more (Some xs) (Some ys) None x y h k = absurd k
Consumes-more (Some xs) (Some ys) (Some zs) x y h k = h ∙ ap (λ l. x ++ l) k ∙ sym (append_assoc x y zs)
