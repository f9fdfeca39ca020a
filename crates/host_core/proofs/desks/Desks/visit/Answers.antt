use Rattle.std.proofs.Common.{arith, refl, ◌-◌, ◌++◌, [], ◌∷◌, length}
use Rattle.std.proofs.lemmas.List.{length-map, length-append}
use Rattle.host_calls.specs.declared.seat.SeatName.TheVariants.{Client, Device}
use Rattle.host_core.specs.Asked.{client_asked, device_asked}
use Rattle.host_core.specs.Seats.{row_of}
use Rattle.host_core.specs.Desks.{caller_rows, device_rows, operator_row}
use Rattle.host_core.proofs.Rows.{changes-left, changes-right, changes-one, ready-left, ready-right}
use Rattle.host_core.proofs.Rules.{client-told, operator-told}
use Rattle.host_core.proofs.Same.{same-none, each-none}
use Rattle.host_core.proofs.desks.Desks.visit.Goals as goal

pub visit_row-requires-clause-ready : goal.visit_row-requires-clause-ready
visit_row-requires-clause-ready g c = let d = c.args.self.now in
    ready-left (caller_rows d) (device_rows d ++ operator_row d ∷ []) c.requires.ready

pub visit_row-requires-clause-rule : goal.visit_row-requires-clause-rule
visit_row-requires-clause-rule g c = client-told c.clients_are_answered.ensures

pub visit_row-requires-then-number-len-clause-ready : goal.visit_row-requires-then-number-len-clause-ready
visit_row-requires-then-number-len-clause-ready g c = let d = c.args.self.now in
    ready-left (device_rows d) (operator_row d ∷ []) (ready-right (caller_rows d) (device_rows d ++ operator_row d ∷ []) c.requires.ready)

pub visit_seat-requires-clause-ready : goal.visit_seat-requires-clause-ready
visit_seat-requires-clause-ready g c = let d = c.args.self.now in
    ready-right (device_rows d) (operator_row d ∷ []) (ready-right (caller_rows d) (device_rows d ++ operator_row d ∷ []) c.requires.ready) 0 (operator_row d) refl

pub visit_seat-requires-clause-rule : goal.visit_seat-requires-clause-rule
visit_seat-requires-clause-rule g c = operator-told c.operator_is_answered.ensures

pub returns-then-place-callers-clause-visited : goal.returns-then-place-callers-clause-visited
returns-then-place-callers-clause-visited g c = let d = c.args.self.now in
    changes-left _ (caller_rows d) _ (device_rows d ++ operator_row d ∷ []) c.args.place c.visit_row.ensures.visited

pub returns-then-number-len-clause-visited : goal.returns-then-number-len-clause-visited
returns-then-number-len-clause-visited g c = let d = c.args.self.now in let number = c.args.place - c.len-callers.result in
    changes-right _ (caller_rows d) (device_rows d ++ operator_row d ∷ []) _ number c.args.place
    (omega (arith, c.if-place-callers.false, c.len-callers.ensures, d.callers.ok.0, length-map d.callers.items (row_of client_asked Client)))
    (changes-left _ (device_rows d) _ (operator_row d ∷ []) number c.visit_row-then-number-len.ensures.visited)

pub returns-clause-visited : goal.returns-clause-visited
returns-clause-visited g c = let d = c.args.self.now in let n = length (device_rows d) in
    changes-right _ (caller_rows d) (device_rows d ++ operator_row d ∷ []) _ n c.args.place
    (omega (
      arith,
      c.requires.within,
      c.if-place-callers.false,
      c.if-number-len.false,
      c.len-callers.ensures,
      c.len.ensures,
      d.callers.ok.0,
      d.devices.ok.0,
      length-append (caller_rows d) (device_rows d ++ operator_row d ∷ []),
      length-append (device_rows d) (operator_row d ∷ []),
      length-map d.callers.items (row_of client_asked Client),
      length-map d.devices.items (row_of device_asked Device),
    ))
    (changes-right _ (device_rows d) (operator_row d ∷ []) _ 0 n (omega arith)
    (changes-one _ (operator_row d) _ c.visit_seat.ensures.visited))

pub returns-then-place-callers-clause-desks : goal.returns-then-place-callers-clause-desks
returns-then-place-callers-clause-desks g c = let d = c.args.self.now in (c.visit_row.ensures.desks, each-none d.devices.items, same-none d.operator)

pub returns-then-number-len-clause-desks : goal.returns-then-number-len-clause-desks
returns-then-number-len-clause-desks g c = let d = c.args.self.now in (each-none d.callers.items, c.visit_row-then-number-len.ensures.desks, same-none d.operator)

pub returns-clause-desks : goal.returns-clause-desks
returns-clause-desks g c = let d = c.args.self.now in (each-none d.callers.items, each-none d.devices.items, c.visit_seat.ensures.desk)
