-- The words of a line, one by one.
use Rattle.std.proofs.Common.{◌≡◌, ℕ, ◌<◌, ◌≤◌, List, [], ◌∷◌, map, length, get_or, Bor, true, false, sym, ◌∙◌, arith}
use Rattle.std.specs.Prelude.{codes}
use Rattle.std.specs.Str.{bytes_eq}
use Rattle.std.proofs.lemmas.Slice.Eq.{bytes_eq-Decides}
use Rattle.host_calls.specs.declared.operator.OperatorCall.{OperatorCall}
use Rattle.host_calls.specs.declared.operator.OperatorCall.TheVariants.{GroupMake, GroupDrop, SetWeight, Freeze, Thaw, Switch, Tick, Hold, Release, Undo, Redo, Stop}
use Rattle.operator_words.specs.Words.{words_of, Fits}

-- a line of three words
pub three_words : (words : List (Bor (List ℕ))) (none : Bor (List ℕ)) (name first second : List ℕ) → 3 ≤ length words → length words < 4
    → name ≡ (get_or words 0 none).now → first ≡ (get_or words 1 none).now → second ≡ (get_or words 2 none).now
    → map (λ word. word.now) words ≡ name ∷ first ∷ second ∷ []
three_words (x ∷ y ∷ z ∷ []) none name first second least most a b c = cc
three_words [] none name first second least most a b c = absurd (omega arith)
three_words (x ∷ []) none name first second least most a b c = absurd (omega arith)
three_words (x ∷ y ∷ []) none name first second least most a b c = absurd (omega arith)
three_words (x ∷ y ∷ z ∷ w ∷ ws) none name first second least most a b c = absurd (omega arith)

pub is_word : (name word known : List ℕ) → true ≡ bytes_eq name word → word ≡ known → name ≡ known
is_word name word known t same = (bytes_eq-Decides name word).0 (sym t) ∙ same

pub is_other : (name word known : List ℕ) → false ≡ bytes_eq name word → word ≡ known → name ≡ known → ⊥
is_other name word known f same is = let k : false ≡ true = f ∙ (bytes_eq-Decides name word).1 (is ∙ sym same) in cc

-- a word that is none of the six names that stand alone
pub no_name : (name : List ℕ) → (name ≡ codes "freeze" → ⊥) → (name ≡ codes "thaw" → ⊥) → (name ≡ codes "tick" → ⊥) → (name ≡ codes "hold" → ⊥)
    → (name ≡ codes "release" → ⊥) → (name ≡ codes "stop" → ⊥) → (call : OperatorCall) → Fits call → name ∷ [] ≡ words_of call → ⊥
no_name name freeze thaw tick hold release stop Freeze fits e = freeze cc
no_name name freeze thaw tick hold release stop Thaw fits e = thaw cc
no_name name freeze thaw tick hold release stop Tick fits e = tick cc
no_name name freeze thaw tick hold release stop Hold fits e = hold cc
no_name name freeze thaw tick hold release stop Release fits e = release cc
no_name name freeze thaw tick hold release stop Stop fits e = stop cc
no_name name freeze thaw tick hold release stop (GroupMake parent weight) fits e = cc
no_name name freeze thaw tick hold release stop (GroupDrop group) fits e = cc
no_name name freeze thaw tick hold release stop (SetWeight group weight) fits e = cc
no_name name freeze thaw tick hold release stop (Switch scheduler) fits e = cc
no_name name freeze thaw tick hold release stop (Undo k) fits e = cc
no_name name freeze thaw tick hold release stop (Redo k) fits e = cc
