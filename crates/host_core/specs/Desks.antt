-- All desks as one list of rows: the clients, the devices, the operator.
use Rattle.std.specs.Prelude.{ℕ, List, [], ◌∷◌, ◌++◌, map, Option}
use Rattle.host_calls.specs.declared.seat.SeatName.TheVariants.{Client, Device, Operator}
use Rattle.host_core.specs.Asked.{client_asked, device_asked, operator_asked}
use Rattle.host_core.specs.Rows.{Row, last_taken}
use Rattle.host_core.specs.Seats.{row_of}
use Rattle.host_core.specs.declared.desks.Desks.{Desks}

abbrev pub caller_rows : Desks → List Row
caller_rows d = map (row_of client_asked Client) d.callers.items

abbrev pub device_rows : Desks → List Row
device_rows d = map (row_of device_asked Device) d.devices.items

abbrev pub operator_row : Desks → Row
operator_row d = row_of operator_asked (λ _. Operator) d.operator

abbrev pub rows : Desks → List Row
rows d = caller_rows d ++ (device_rows d ++ operator_row d ∷ [])

-- the issue that each device took last, by its number
abbrev pub lasts_in : List Row → List (Option ℕ)
lasts_in devices = map (λ r. last_taken r.replied) devices

abbrev pub lasts : Desks → List (Option ℕ)
lasts d = lasts_in (device_rows d)
