use Rattle.std.proofs.Common.{map}
use Rattle.host_calls.specs.declared.seat.SeatName.TheVariants.{Client, Device, Operator}
use Rattle.host_core.specs.Asked.{client_asked, device_asked, operator_asked}
use Rattle.host_core.specs.Seats.{row_of}
use Rattle.host_core.proofs.FreshRows.{fresh-row, fresh-rows, rows-long, opened-rows}
use Rattle.host_core.proofs.desks.Desks.open.Goals as goal

pub returns-clause-rows : goal.returns-clause-rows
returns-clause-rows c =
    let callers = c.in_ok-caller_seats in
    let devices = c.in_ok-device_seats in
    let operator = c.in_ok-operator_seat in
    opened-rows c.args.callers c.args.devices (map (row_of client_asked Client) callers.caller_desks.items) (map (row_of device_asked Device) devices.device_desks.items)
    (row_of operator_asked (λ _. Operator) operator.operator_desk)
    (rows-long client_asked Client c.args.callers callers.caller_seats.items callers.caller_desks.items callers.ensures)
    (rows-long device_asked Device c.args.devices devices.device_seats.items devices.device_desks.items devices.ensures)
    (fresh-rows client_asked Client c.args.callers callers.caller_seats.items callers.caller_desks.items callers.ensures)
    (fresh-rows device_asked Device c.args.devices devices.device_seats.items devices.device_desks.items devices.ensures)
    (fresh-row operator_asked (λ _. Operator) operator.operator_seat operator.operator_desk 0 operator.ensures)

pub returns-clause-pairs : goal.returns-clause-pairs
returns-clause-pairs c = record { callers = c.in_ok-caller_seats.ensures; devices = c.in_ok-device_seats.ensures; operator = c.in_ok-operator_seat.ensures }
