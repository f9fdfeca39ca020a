-- Kinds of the common forms: their values are read again, and nothing else is read.
use Rattle.std.proofs.Common.{◌≡◌, ℕ, ◌^◌, ◌<◌, Bool, true, false, cond, eqb, ◌⊎◌, inl, inr, List, [], ◌∷◌, ◌++◌, Option, Some, Result, Ok, Err, refl, sym, ap, subst, ◌∙◌}
use Rattle.std.specs.Int.{Width, w8}
use Rattle.std.proofs.lemmas.Bool.{eqb-true, ne_eqb}
use Rattle.std.proofs.lemmas.List.{append-nil}
use Rattle.session_proto.specs.Frame.{IsBytes}
use Rattle.session_proto.specs.declared.fault.Fault.{Fault}
use Rattle.session_proto.specs.declared.fault.Fault.TheVariants.{BadKind}
use Rattle.session_proto.specs.Fields.{◌>>=◌, big_endian, number_at, ended, named}
use Rattle.session_proto.specs.FieldLaws.{IsWide, wide8, IsBytes-rest, bind_ok, ok_value, number_is, number_again, last_again, ended_is, ended_again, named_is}
use Rattle.session_proto.specs.Kinds.{said_by, read_by}

-- ---- the table of kinds

-- what is read behind the kind is a value that fits, and the bytes are its body
abbrev pub Spells : {T : Type 0} → (T → List ℕ) → (T → Type 0) → ℕ → (List ℕ → Result T Fault) → Type 0
Spells {T} body fits kind at = (fields : List ℕ) (v : T) → IsBytes fields → at fields ≡ Ok v → fits v × (kind ∷ fields ≡ body v)

-- so it is with each kind of the table
abbrev pub AllSpell : {T : Type 0} → (T → List ℕ) → (T → Type 0) → List (ℕ × (List ℕ → Result T Fault)) → Type 0
AllSpell body fits [] = Unit {0}
AllSpell body fits (k ∷ ks) = Spells body fits k.0 k.1 × AllSpell body fits ks

-- this kind, and the others of the table
infixr 10 ◌&◌
abbrev pub ◌&◌ : {A B : Type 0} → A → B → A × B
a & b = (a, b)

chosen : {T : Type 0} (b : Bool) (r s : Result T Fault) (v : T) → cond b r s ≡ Ok v → ((b ≡ true) × (r ≡ Ok v)) ⊎ (s ≡ Ok v)
chosen true r s v e = inl (refl, e)
chosen false r s v e = inr e

said_spells : {T : Type 0} (body : T → List ℕ) (fits : T → Type 0) (ks : List (ℕ × (List ℕ → Result T Fault))) → AllSpell body fits ks
    → (kind : ℕ) (fields : List ℕ) (v : T) → IsBytes fields → said_by ks kind fields ≡ Ok v → fits v × (kind ∷ fields ≡ body v)
said_spells body fits [] all kind fields v are e = absurd cc
said_spells body fits (k ∷ ks) all kind fields v are e =
    elim (chosen (eqb kind k.0) (k.1 fields) (said_by ks kind fields) v e) [
      | inl h ↦
          let found = all.0 fields v are h.1 in
          (found.0, ap (λ (n : ℕ). n ∷ fields) (eqb-true kind k.0 h.0) ∙ found.1)
      | inr h ↦ said_spells body fits ks all.1 kind fields v are h
    ]

-- what a side reads is a value that fits, and the bytes are its body
pub read_spells : {T : Type 0} (body : T → List ℕ) (fits : T → Type 0) (ks : List (ℕ × (List ℕ → Result T Fault))) → AllSpell body fits ks
    → (bytes : List ℕ) (v : T) → IsBytes bytes → read_by ks bytes ≡ Ok v → fits v × (bytes ≡ body v)
read_spells body fits ks all [] v are e = absurd cc
read_spells body fits ks all (kind ∷ fields) v are e = said_spells body fits ks all kind fields v (IsBytes-rest kind fields are) e

-- so it is for a side that is a struct around such a value
pub side_spells : {X T : Type 0} (body : X → List ℕ) (fits : X → Type 0) (ks : List (ℕ × (List ℕ → Result X Fault))) → AllSpell body fits ks
    → (wrap : X → T) (inner : T → X) → ((x : X) → inner (wrap x) ≡ x)
    → (bytes : List ℕ) (v : T) → IsBytes bytes → (read_by ks bytes >>= λ x. Ok (wrap x)) ≡ Ok v → fits (inner v) × (bytes ≡ body (inner v))
side_spells body fits ks all wrap inner is bytes v are e =
    let b = bind_ok (read_by ks bytes) (λ x. Ok (wrap x)) v e in
    let found = read_spells body fits ks all bytes b.0 are b.1 in
    let same : b.0 ≡ inner v = sym (is b.0) ∙ ap inner (ok_value (wrap b.0) v b.2) in
    subst (λ x. fits x × (bytes ≡ body x)) same found

-- the kind is none of the table's
abbrev pub IsNone : {T : Type 0} → List (ℕ × (List ℕ → Result T Fault)) → ℕ → Type 0
IsNone [] kind = Unit {0}
IsNone (k ∷ ks) kind = (kind ≡ k.0 → ⊥) × IsNone ks kind

-- behind a kind that the table does not have nothing is said
pub no_kind : {T : Type 0} (ks : List (ℕ × (List ℕ → Result T Fault))) (kind : ℕ) (fields : List ℕ) → IsNone ks kind → said_by ks kind fields ≡ Err BadKind
no_kind [] kind fields none = refl
no_kind (k ∷ ks) kind fields none = rw (ne_eqb kind k.0 none.0) (no_kind ks kind fields none.1)

-- ---- kinds with no field

pub none_spells : {T : Type 0} (body : T → List ℕ) (fits : T → Type 0) (kind : ℕ) (v : T) → fits v → body v ≡ kind ∷ [] → Spells body fits kind (ended v)
none_spells body fits kind v does is fields w are e =
    let end = ended_is v w fields e in
    subst (λ x. fits x × (kind ∷ fields ≡ body x)) end.0 (does, ap (λ (x : List ℕ). kind ∷ x) end.1 ∙ sym is)

-- ---- kinds with one number

-- one number, and then the end
abbrev pub one_at : {T : Type 0} → Width → (ℕ → T) → List ℕ → Result T Fault
one_at w make fields = number_at w fields >>= λ n. ended (make n.0) n.1

pub one_spells : {T : Type 0} (body : T → List ℕ) (fits : T → Type 0) (kind : ℕ) (w : Width) (limit : ℕ) → IsWide w limit → (make : ℕ → T)
    → ((n : ℕ) → n < limit → fits (make n)) → ((n : ℕ) → body (make n) ≡ kind ∷ big_endian w n) → Spells body fits kind (one_at w make)
one_spells body fits kind w limit wide make does is fields v are e =
    let b = bind_ok (number_at w fields) (λ n. ended (make n.0) n.1) v e in
    let n = number_is w limit wide fields b.0 are b.1 in
    let end = ended_is (make b.0.0) v b.0.1 b.2 in
    let whole : fields ≡ big_endian w b.0.0 = n.parts ∙ ap (λ (x : List ℕ). big_endian w b.0.0 ++ x) end.1 ∙ append-nil (big_endian w b.0.0) in
    subst (λ x. fits x × (kind ∷ fields ≡ body x)) end.0 (does b.0.0 n.below, ap (λ (x : List ℕ). kind ∷ x) whole ∙ sym (is b.0.0))

pub one_again : {T : Type 0} (w : Width) (limit : ℕ) → IsWide w limit → (make : ℕ → T) (n : ℕ) → n < limit → one_at w make (big_endian w n) ≡ Ok (make n)
one_again w limit wide make n lt = rw (last_again w limit wide n lt) (ended_again (make n))

-- ---- kinds with two numbers

-- two numbers, and then the end
abbrev pub two_at : {T : Type 0} → Width → Width → (ℕ → ℕ → T) → List ℕ → Result T Fault
two_at w u make fields = number_at w fields >>= λ m. number_at u m.1 >>= λ n. ended (make m.0 n.0) n.1

pub two_spells : {T : Type 0} (body : T → List ℕ) (fits : T → Type 0) (kind : ℕ) (w : Width) (most : ℕ) → IsWide w most → (u : Width) (limit : ℕ) → IsWide u limit
    → (make : ℕ → ℕ → T) → ((m n : ℕ) → m < most → n < limit → fits (make m n)) → ((m n : ℕ) → body (make m n) ≡ kind ∷ (big_endian w m ++ big_endian u n))
    → Spells body fits kind (two_at w u make)
two_spells body fits kind w most first u limit second make does is fields v are e =
    let b = bind_ok (number_at w fields) (λ m. number_at u m.1 >>= λ n. ended (make m.0 n.0) n.1) v e in
    let m = number_is w most first fields b.0 are b.1 in
    let c = bind_ok (number_at u b.0.1) (λ n. ended (make b.0.0 n.0) n.1) v b.2 in
    let n = number_is u limit second b.0.1 c.0 m.are c.1 in
    let end = ended_is (make b.0.0 c.0.0) v c.0.1 c.2 in
    let last : b.0.1 ≡ big_endian u c.0.0 = n.parts ∙ ap (λ (x : List ℕ). big_endian u c.0.0 ++ x) end.1 ∙ append-nil (big_endian u c.0.0) in
    let whole : fields ≡ big_endian w b.0.0 ++ big_endian u c.0.0 = m.parts ∙ ap (λ (x : List ℕ). big_endian w b.0.0 ++ x) last in
    subst (λ x. fits x × (kind ∷ fields ≡ body x)) end.0 (does b.0.0 c.0.0 m.below n.below, ap (λ (x : List ℕ). kind ∷ x) whole ∙ sym (is b.0.0 c.0.0))

pub two_again : {T : Type 0} (w : Width) (most : ℕ) → IsWide w most → (u : Width) (limit : ℕ) → IsWide u limit → (make : ℕ → ℕ → T) (m n : ℕ) → m < most → n < limit
    → two_at w u make (big_endian w m ++ big_endian u n) ≡ Ok (make m n)
two_again w most first u limit second make m n low lt =
    rw (number_again w most first m (big_endian u n) low, last_again u limit second n lt) (ended_again (make m n))

-- ---- kinds with one named value

-- one named value, and then the end
abbrev pub named_at : {T X : Type 0} → (ℕ → Option X) → (X → T) → List ℕ → Result T Fault
named_at of_number make fields = number_at w8 fields >>= λ n. named (of_number n.0) >>= λ x. ended (make x) n.1

pub named_spells : {T X : Type 0} (body : T → List ℕ) (fits : T → Type 0) (kind : ℕ) (number : X → ℕ) (of_number : ℕ → Option X)
    → ((n : ℕ) (x : X) → of_number n ≡ Some x → number x ≡ n) → (make : X → T) → ((x : X) → fits (make x))
    → ((x : X) → body (make x) ≡ kind ∷ big_endian w8 (number x)) → Spells body fits kind (named_at of_number make)
named_spells body fits kind number of_number tells make does is fields v are e =
    let b = bind_ok (number_at w8 fields) (λ n. named (of_number n.0) >>= λ x. ended (make x) n.1) v e in
    let n = number_is w8 (2 ^ 8) wide8 fields b.0 are b.1 in
    let c = bind_ok (named (of_number b.0.0)) (λ x. ended (make x) b.0.1) v b.2 in
    let told = tells b.0.0 c.0 (named_is (of_number b.0.0) c.0 c.1) in
    let end = ended_is (make c.0) v b.0.1 c.2 in
    let whole : fields ≡ big_endian w8 (number c.0) =
    n.parts ∙ ap (λ (x : List ℕ). big_endian w8 b.0.0 ++ x) end.1 ∙ append-nil (big_endian w8 b.0.0) ∙ ap (big_endian w8) (sym told) in
    subst (λ x. fits x × (kind ∷ fields ≡ body x)) end.0 (does c.0, ap (λ (x : List ℕ). kind ∷ x) whole ∙ sym (is c.0))

pub named_again : {T X : Type 0} (number : X → ℕ) (of_number : ℕ → Option X) → ((x : X) → of_number (number x) ≡ Some x) → (make : X → T) (x : X)
    → number x < 2 ^ 8 → named_at of_number make (big_endian w8 (number x)) ≡ Ok (make x)
named_again number of_number back make x low = rw (last_again w8 (2 ^ 8) wide8 (number x) low, back x) (ended_again (make x))
