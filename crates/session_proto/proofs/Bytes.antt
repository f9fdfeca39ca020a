-- Bytes that are read and written one piece after another.
use Rattle.std.proofs.Common.{ℕ, ◌+◌, List, [], ◌++◌, Some, None, refl, sym, ap, ◌∙◌, append_assoc, append-nil}
use Rattle.std.specs.Io.KnownBytes.{Appends, Consumes, Keeps}
use Rattle.session_proto.specs.Asked.{Known}

pub Appends-none : (w : Known) → Appends w w []
Appends-none None = tt
Appends-none (Some xs) = sym (append-nil xs)

pub Appends-kept : (a b c : Known) (x : List ℕ) → Appends a b x → Keeps b c → Appends a c x
Appends-kept None b c x h k = tt
Appends-kept (Some xs) None c x h k = absurd h
Appends-kept (Some xs) (Some ys) None x h k = absurd k
Appends-kept (Some xs) (Some ys) (Some zs) x h k = k ∙ h

pub Appends-more : (a b c : Known) (x y : List ℕ) → Appends a b x → Appends b c y → Appends a c (x ++ y)
Appends-more None b c x y h k = tt
Appends-more (Some xs) None c x y h k = absurd h
Appends-more (Some xs) (Some ys) None x y h k = absurd k
Appends-more (Some xs) (Some ys) (Some zs) x y h k = k ∙ ap (λ l. l ++ y) h ∙ append_assoc xs x y

pub Consumes-none : (r : Known) → Consumes r r []
Consumes-none None = tt
Consumes-none (Some xs) = refl

pub Consumes-kept : (a b c : Known) (x : List ℕ) → Consumes a b x → Keeps b c → Consumes a c x
Consumes-kept None b c x h k = tt
Consumes-kept (Some xs) None c x h k = absurd h
Consumes-kept (Some xs) (Some ys) None x h k = absurd k
Consumes-kept (Some xs) (Some ys) (Some zs) x h k = h ∙ ap (λ l. x ++ l) (sym k)

pub Consumes-more : (a b c : Known) (x y : List ℕ) → Consumes a b x → Consumes b c y → Consumes a c (x ++ y)
Consumes-more None b c x y h k = tt
Consumes-more (Some xs) None c x y h k = absurd h
Consumes-more (Some xs) (Some ys) None x y h k = absurd k
Consumes-more (Some xs) (Some ys) (Some zs) x y h k = h ∙ ap (λ l. x ++ l) k ∙ sym (append_assoc x y zs)
