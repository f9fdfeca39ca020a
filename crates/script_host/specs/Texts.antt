-- Texts that are told later.
use Rattle.std.specs.Prelude.{ℕ, List, [], ◌∷◌, Vec}
use Rattle.std.specs.declared.alloc.Global.{Global}

-- the bytes of texts
abbrev pub texts_of : List (Vec ℕ Global) → List (List ℕ)
texts_of [] = []
texts_of (text ∷ texts) = text.items ∷ texts_of texts
