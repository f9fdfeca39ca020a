-- The laws of Undo and Redo.
use Rattle.std.proofs.Common.{true, false, Bool, not, ◌≡◌, ℕ, ◌+◌, ◌-◌, ◌<◌, ◌≤◌, ◌==◌, nat_lt, List, [], ◌∷◌, take, length, None, Some, refl, sym, ap, subst, arith, rules}
use Rattle.plain.specs.Lists.{first_of}
use Rattle.plain.specs.declared.call.Call.TheVariants.{Undo}
use Rattle.plain.specs.declared.answer.Answer.{Answer}
use Rattle.plain.specs.declared.answer.Answer.TheVariants.{Refused}
use Rattle.plain.specs.declared.answer.Code.TheVariants.{NotHeld, ZeroCount, NothingToUndo, NothingToRedo, HistoryFull}
use Rattle.plain.specs.Step.{IsAccepted}
use Rattle.plain.specs.Keeper.{State, has_room, called, fold}
use Rattle.plain_laws.specs.Undone.{Agrees, TwoUndosAreOne, RedoGivesBack}

-- tests whose answers accept nothing, and tests none of which holds
abbrev Refuse : List (Bool × Answer) → Type 0
Refuse [] = Unit {0}
Refuse (test ∷ tests) = (IsAccepted test.1 → ⊥) × Refuse tests

abbrev Passed : List (Bool × Answer) → Type 0
Passed [] = Unit {0}
Passed (test ∷ tests) = (test.0 ≡ false) × Passed tests

-- what a call comes to: `done` where none of its tests holds
abbrev outcome : List (Bool × Answer) → State → State × Answer → State × Answer
outcome tests k done = elim (first_of tests) [ None ↦ done | Some answer ↦ (k, answer) ]

done-is : (tests : List (Bool × Answer)) (k : State) (done : State × Answer) → Passed tests → outcome tests k done ≡ done
done-is [] k done p = refl
done-is ((true, answer) ∷ tests) k done p = let no : true ≡ false = p.0 in cc
done-is ((false, answer) ∷ tests) k done p = done-is tests k done p.1

-- an accepted call passed its tests
passes : (tests : List (Bool × Answer)) (k : State) (done : State × Answer) → Refuse tests → IsAccepted (outcome tests k done).1 → Passed tests
passes [] k done none h = tt
passes ((true, answer) ∷ tests) k done none h = absurd (none.0 h)
passes ((false, answer) ∷ tests) k done none h = (refl, passes tests k done none.1 h)

accepted-is : (tests : List (Bool × Answer)) (k : State) (done : State × Answer) → Refuse tests → IsAccepted (outcome tests k done).1
    → Passed tests × (outcome tests k done ≡ done)
accepted-is tests k done none h = let p = passes tests k done none h in (p, done-is tests k done p)

-- the tests of Undo and Redo
abbrev undo-tests : State → ℕ → List (Bool × Answer)
undo-tests k n = (not k.held, Refused NotHeld) ∷ (n == 0, Refused ZeroCount) ∷ (nat_lt k.cursor n, Refused NothingToUndo) ∷ (not (has_room k), Refused HistoryFull) ∷ []

abbrev redo-tests : State → ℕ → List (Bool × Answer)
redo-tests k n = (not k.held, Refused NotHeld) ∷ (n == 0, Refused ZeroCount) ∷ (nat_lt (length k.line) (k.cursor + n), Refused NothingToRedo) ∷ (not (has_room k), Refused HistoryFull) ∷ []

-- two outcomes that are known, of keepers that agree
agree : (o p : State × Answer) (k j : State × Answer) → o ≡ k → p ≡ j → Agrees k.0 j.0 → Agrees o.0 p.0
agree o p k j e f h =
    let P : State × Answer → Type 0 = λ s. Agrees s.0 p.0 in
    let Q : State × Answer → Type 0 = λ s. Agrees k.0 s.0 in
    subst P (sym e) (subst Q (sym f) h)

not-less : (a b : ℕ) → nat_lt a b ≡ false → b ≤ a
not-less a b h = search (rules, h)

not-zero : (a : ℕ) → (a == 0) ≡ false → 0 < a
not-zero a h = search (rules, h)

is-not-less : (a b : ℕ) → b ≤ a → nat_lt a b ≡ false
is-not-less a b h = search (rules, h)

is-not-zero : (a : ℕ) → 0 < a → (a == 0) ≡ false
is-not-zero a h = search (rules, h)

pub two_undos : (k : State) (a b : ℕ) → TwoUndosAreOne k a b
two_undos k a b h g =
    let no : ⊥ → ⊥ = λ x. x in
    let mid : State = (called k (Undo a)).0 in
    let one = accepted-is (undo-tests k a) k _ (no, (no, (no, (no, tt)))) h in
    let two = accepted-is (undo-tests mid b) mid _ (no, (no, (no, (no, tt)))) g in
    let some = not-zero a one.0.1.0 in
    let less = not-less k.cursor a one.0.1.1.0 in
    let less1 = not-less mid.cursor b two.0.1.1.0 in
    let limits = sym (ap (λ (o : State × Answer). o.0.limits) one.1) in
    let line = sym (ap (λ (o : State × Answer). o.0.line) one.1) in
    let at = ap (λ (o : State × Answer). o.0.cursor) one.1 in
    let same : k.cursor - (a + b) ≡ mid.cursor - b = omega (arith, less, less1, at) in
    let positive = is-not-zero (a + b) (omega (arith, some)) in
    let stand = is-not-less k.cursor (a + b) (omega (arith, less, less1, at)) in
    let all : called k (Undo (a + b)) ≡ _ = done-is (undo-tests k (a + b)) k _ (one.0.0, (positive, (stand, (one.0.1.1.1.0, tt)))) in (
      subst (λ (o : State × Answer). IsAccepted o.1) (sym all) tt,
      agree _ _ _ _ all two.1 (record {
        line = line;
        cursor = same;
        held = sym (ap (λ (o : State × Answer). o.0.held) one.1);
        last = sym (ap (λ (o : State × Answer). o.0.last) one.1);
        machine = λ i. fold (limits i) (take (same i) (line i));
      }),
    )

pub gives_back : (k : State) (n : ℕ) → RedoGivesBack k n
gives_back k n h g =
    let no : ⊥ → ⊥ = λ x. x in
    let mid : State = (called k (Undo n)).0 in
    let one = accepted-is (undo-tests k n) k _ (no, (no, (no, (no, tt)))) h in
    let two = accepted-is (redo-tests mid n) mid _ (no, (no, (no, (no, tt)))) g in
    let less = not-less k.cursor n one.0.1.1.0 in
    let limits = ap (λ (o : State × Answer). o.0.limits) one.1 in
    let line = ap (λ (o : State × Answer). o.0.line) one.1 in
    let at = ap (λ (o : State × Answer). o.0.cursor) one.1 in
    let same : mid.cursor + n ≡ k.cursor = omega (arith, less, at) in
    agree _ (k, Refused NotHeld) _ _ two.1 refl (record {
      line = line;
      cursor = same;
      held = ap (λ (o : State × Answer). o.0.held) one.1;
      last = ap (λ (o : State × Answer). o.0.last) one.1;
      machine = λ i. fold (limits i) (take (same i) (line i));
    })
