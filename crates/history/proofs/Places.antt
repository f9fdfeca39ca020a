-- A call more at the end of the journal leaves the steps of the line as they are.
use Rattle.std.proofs.Common.{◌≡◌, ℕ, suc, ◌<◌, List, [], ◌∷◌, ◌++◌, take, length, get_or, refl, sym, ap, ◌∙◌, subst, arith, length-append}
use Rattle.std.proofs.Math.ListN.{get_or-append}
use Rattle.std.proofs.Math.Seq.{get_or-append_seam}
use Rattle.std.specs.List.{All}
use Rattle.std.proofs.lemmas.List.{map-append, take-map}
use Rattle.std.proofs.lemmas.List.Elements.{All-push, All-take}
use Rattle.plain.specs.declared.step.Step.{Step}
use Rattle.plain.specs.declared.call.Call.{Call}
use Rattle.plain.specs.declared.call.Call.TheVariants.{Do, Hold}
use Rattle.plain.specs.declared.call.Stamped.{Stamped}
use Rattle.history.specs.declared.place.Place.{Place}
use Rattle.history.specs.Places.{IsStep, call_in, step_of, stamped_in, steps_in, IsPlaced}

placed-after : (journal : List Call) (call : Call) (p : Place) → IsPlaced journal p → IsPlaced (journal ++ call ∷ []) p
placed-after journal call p h =
    let within : p.entry < length journal = h.0 in
    let longer = length-append journal (call ∷ []) in
    (omega (arith, within, longer), subst IsStep (sym (get_or-append journal (call ∷ []) Hold p.entry within)) h.1)

pub placed-more : (journal : List Call) (call : Call) (places : List Place) → All (IsPlaced journal) places → All (IsPlaced (journal ++ call ∷ [])) places
placed-more journal call places h = λ k d lt. placed-after journal call (get_or places k d) (h k d lt)

pub steps-more : (journal : List Call) (call : Call) (places : List Place) → All (IsPlaced journal) places → steps_in (journal ++ call ∷ []) places ≡ steps_in journal places
steps-more journal call [] h = refl
steps-more journal call (p ∷ places) h =
    let here : IsPlaced journal p = h 0 p (omega arith) in
    let same : call_in (journal ++ call ∷ []) p.entry ≡ call_in journal p.entry = get_or-append journal (call ∷ []) Hold p.entry here.0 in
    let rest : steps_in (journal ++ call ∷ []) places ≡ steps_in journal places = steps-more journal call places (λ k d lt. h (suc k) d (omega (arith, lt))) in
    λ i. record { serial = p.serial; step = step_of (same i) } ∷ rest i

pub still-placed : (journal now : List Call) (places line : List Place) → now ≡ journal → line ≡ places → All (IsPlaced journal) places → All (IsPlaced now) line
still-placed journal now places line e d h =
    let P : List Call → Type 0 = λ j. All (IsPlaced j) line in
    let Q : List Place → Type 0 = λ l. All (IsPlaced journal) l in
    subst P (sym e) (subst Q (sym d) h)

-- a step that is entered: its place is the last of the line

pub placed-entered : (journal : List Call) (places : List Place) (k serial : ℕ) (s : Step) → All (IsPlaced journal) places
    → All (IsPlaced (journal ++ Do s ∷ [])) (take k places ++ record { serial = serial; entry = length journal } ∷ [])
placed-entered journal places k serial s h =
    let longer = length-append journal (Do s ∷ []) in
    let last : Place = record { serial = serial; entry = length journal } in
    let here : IsPlaced (journal ++ Do s ∷ []) last = (omega (arith, longer), subst IsStep (sym (get_or-append_seam journal (Do s) [] Hold)) tt) in
    All-push (IsPlaced (journal ++ Do s ∷ [])) (take k places) last (placed-more journal (Do s) (take k places) (All-take (IsPlaced journal) k places h)) here

pub steps-entered : (journal : List Call) (places : List Place) (k serial : ℕ) (s : Step) → All (IsPlaced journal) places
    → steps_in (journal ++ Do s ∷ []) (take k places ++ record { serial = serial; entry = length journal } ∷ [])
    ≡ take k (steps_in journal places) ++ record { serial = serial; step = s } ∷ []
steps-entered journal places k serial s h =
    let now : List Call = journal ++ Do s ∷ [] in
    map-append (stamped_in now) (take k places) (record { serial = serial; entry = length journal } ∷ [])
    ∙ ap (λ (l : List Stamped). l ++ stamped_in now (record { serial = serial; entry = length journal }) ∷ [])
    (steps-more journal (Do s) (take k places) (All-take (IsPlaced journal) k places h) ∙ sym (take-map (stamped_in journal) k places))
    ∙ ap (λ (c : Call). take k (steps_in journal places) ++ record { serial = serial; step = step_of c } ∷ []) (get_or-append_seam journal (Do s) [] Hold)
