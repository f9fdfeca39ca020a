-- What waits at the seats of a core, and how many devices it has.
use Rattle.std.proofs.Common.{◌≡◌, ℕ, zero, suc, ◌≤◌, List, [], ◌∷◌, ◌++◌, length, map, Option, None, Some, slice_get, option_to_list, refl, sym, ap, ◌∙◌, subst, arith}
use Rattle.std.specs.List.{filter}
use Rattle.std.proofs.lemmas.List.{length-map, append-nil}
use Rattle.std.proofs.lemmas.List.Elements.{filter-append}
use Rattle.std.proofs.lemmas.Option.{same_Some}
use Rattle.host_calls.specs.declared.seat.SeatName.TheVariants.{Client, Device, Operator}
use Rattle.host_core.specs.Asked.{client_asked, device_asked, operator_asked}
use Rattle.host_core.specs.Rows.{Row, last_taken}
use Rattle.host_core.specs.Seats.{row_of}
use Rattle.host_core.specs.Desks.{rows, lasts, caller_rows, device_rows, operator_row}
use Rattle.host_core.specs.Keeping.{is_device, devices_among}
use Rattle.host_core.specs.declared.asked.Asked.{Asked}
use Rattle.host_core.specs.declared.desk.Desk.{Desk}
use Rattle.host_core.specs.declared.desks.Desks.{Desks}

module _ {X : Type 0} (Q : X → Type 0) where
  all-joined : (xs ys : List X) → ((i : ℕ) (x : X) → slice_get xs i ≡ Some x → Q x) → ((i : ℕ) (x : X) → slice_get ys i ≡ Some x → Q x)
      → (i : ℕ) (x : X) → slice_get (xs ++ ys) i ≡ Some x → Q x
  all-joined [] ys first second i x at = second i x at
  all-joined (y ∷ xs) ys first second zero x at = first zero x at
  all-joined (y ∷ xs) ys first second (suc i) x at = all-joined xs ys (λ j z there. first (suc j) z there) second i x at

  all-mapped : {D : Type 0} (f : D → X) (each : (d : D) → Q (f d)) (ds : List D) (i : ℕ) (x : X) → slice_get (map f ds) i ≡ Some x → Q x
  all-mapped f each [] i x at = grind (arith, at)
  all-mapped f each (d ∷ ds) zero x at = subst Q (same_Some (f d) x at) (each d)
  all-mapped f each (d ∷ ds) (suc i) x at = all-mapped f each ds i x at

at-most-one : {X : Type 0} (o : Option X) → length (option_to_list o) ≤ 1
at-most-one None = omega arith
at-most-one (Some x) = omega arith

-- at most one call waits at each seat
pub one-waits : (d : Desks) (i : ℕ) (r : Row) → slice_get (rows d) i ≡ Some r → length r.waiting ≤ 1
one-waits d = all-joined (λ r. length r.waiting ≤ 1) (caller_rows d) (device_rows d ++ operator_row d ∷ [])
    (all-mapped (λ r. length r.waiting ≤ 1) (row_of client_asked Client) (λ e. at-most-one e.waiting) d.callers.items)
    (all-joined (λ r. length r.waiting ≤ 1) (device_rows d) (operator_row d ∷ [])
    (all-mapped (λ r. length r.waiting ≤ 1) (row_of device_asked Device) (λ e. at-most-one e.waiting) d.devices.items)
    (all-mapped (λ r. length r.waiting ≤ 1) (row_of operator_asked (λ _. Operator)) (λ e. at-most-one e.waiting) (d.operator ∷ [])))

-- no caller is a device, and each device is one
module _ {C P : Type 0} (asked_by : ℕ → C → Asked) where
  no-callers : (ds : List (Desk C P)) → filter (λ r. is_device r.name) (map (row_of asked_by Client) ds) ≡ []
  no-callers [] = refl
  no-callers (d ∷ ds) = no-callers ds

  all-devices : (ds : List (Desk C P)) → filter (λ r. is_device r.name) (map (row_of asked_by Device) ds) ≡ map (row_of asked_by Device) ds
  all-devices [] = refl
  all-devices (d ∷ ds) = ap (λ rs. row_of asked_by Device d ∷ rs) (all-devices ds)

-- as many devices are told of as are among the seats
pub devices-told : (d : Desks) → length (lasts d) ≡ devices_among (rows d)
devices-told d =
    length-map (device_rows d) (λ r. last_taken r.replied)
    ∙ ap length (sym (append-nil (device_rows d)))
    ∙ sym (ap length (
    filter-append (λ r. is_device r.name) (caller_rows d) (device_rows d ++ operator_row d ∷ [])
    ∙ ap (λ rs. rs ++ filter (λ r. is_device r.name) (device_rows d ++ operator_row d ∷ [])) (no-callers client_asked d.callers.items)
    ∙ filter-append (λ r. is_device r.name) (device_rows d) (operator_row d ∷ [])
    ∙ ap (λ rs. rs ++ []) (all-devices device_asked d.devices.items)
    ))
