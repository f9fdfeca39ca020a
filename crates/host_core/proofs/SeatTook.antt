-- A visit at which a call was taken.
use Rattle.std.proofs.Common.{false, ◌≡◌, [], ◌∷◌, ◌++◌, refl, sym, ap, ◌∙◌, subst, Option, None, Some, ◌&&◌, is_some, true, option_to_list}
use Rattle.std.proofs.lemmas.Bool.{true≢false}
use Rattle.std.proofs.lemmas.List.{append-nil}
use Rattle.host_calls.specs.declared.seat.SeatName.{SeatName}
use Rattle.host_core.specs.Kinds.{IsOfKind, AreOfKind}
use Rattle.host_core.specs.Rows.{Row, Took}
use Rattle.host_core.specs.declared.asked.Asked.{Asked}

-- where no call is, none waits
pub none-waits : (o : Option Asked) → is_some o ≡ false → option_to_list o ≡ []
none-waits None h = refl
none-waits (Some call) h = absurd (true≢false h)

-- a call that waits alone is of its kind
alone : (name : SeatName) (call : Asked) → IsOfKind name call → AreOfKind name (call ∷ [])
alone name call h = subst (λ b. (b && true) ≡ true) (sym h) refl

-- it waits where none did
pub took-one : (r s : Row) (call : Asked) → s.name ≡ r.name → s.replied ≡ r.replied → s.closed ≡ r.closed → r.waiting ≡ [] → IsOfKind s.name call
    → s.taken ≡ r.taken ++ call ∷ [] → s.waiting ≡ call ∷ [] → Took r s
took-one r s call name replied closed none kind taken waits = record {
  name = name;
  replied = replied;
  closed = closed;
  kind = λ _. subst (AreOfKind s.name) (sym waits) (alone s.name call kind);
  taken_is = λ done h. taken ∙ ap (λ t. t ++ call ∷ []) (h ∙ ap (λ w. done ++ w) none ∙ append-nil done) ∙ ap (λ w. done ++ w) (sym waits);
}
