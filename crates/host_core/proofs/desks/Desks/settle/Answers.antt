use Rattle.std.proofs.Common.{refl, ◌++◌, [], ◌∷◌}
use Rattle.host_core.specs.Desks.{caller_rows, device_rows, operator_row}
use Rattle.host_core.proofs.SettledRows.{settled-left, settled-right}
use Rattle.host_core.proofs.desks.Desks.settle.Goals as goal

pub returns-in-Caller-clause-settled : goal.returns-in-Caller-clause-settled
returns-in-Caller-clause-settled c = let d = c.args.self.now in rw c.in-Caller.is
    (settled-left (caller_rows d) (device_rows d ++ operator_row d ∷ []) _ _ _ _ _ c.settle_row.ensures.settled)

pub returns-in-Device-clause-settled : goal.returns-in-Device-clause-settled
returns-in-Device-clause-settled c = let d = c.args.self.now in rw c.in-Device.is
    (settled-right (caller_rows d) (device_rows d ++ operator_row d ∷ []) _ _ _ _ _
    (settled-left (device_rows d) (operator_row d ∷ []) _ _ _ _ _ c.settle_row-in-Device.ensures.settled))

pub returns-in-Operator-clause-settled : goal.returns-in-Operator-clause-settled
returns-in-Operator-clause-settled c = let d = c.args.self.now in rw c.in-Operator.is
    (settled-right (caller_rows d) (device_rows d ++ operator_row d ∷ []) _ _ _ _ _
    (settled-right (device_rows d) (operator_row d ∷ []) _ _ _ _ _
    (record { row = operator_row d; place = 0; stands = refl; named = refl; settled = c.settle.ensures.settled })))
