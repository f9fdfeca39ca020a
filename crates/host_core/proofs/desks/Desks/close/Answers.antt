use Rattle.std.proofs.Common.{refl, ◌++◌, [], ◌∷◌}
use Rattle.host_core.specs.Desks.{caller_rows, device_rows, operator_row}
use Rattle.host_core.proofs.Ends.{close-both, close-one, open-left, open-right}
use Rattle.host_core.proofs.desks.Desks.close.Goals as goal

pub close_row-requires-clause-open : goal.close_row-requires-clause-open
close_row-requires-clause-open c = let d = c.args.self.now in open-left (caller_rows d) (device_rows d ++ operator_row d ∷ []) c.requires.open

pub close_row-requires-2-clause-open : goal.close_row-requires-2-clause-open
close_row-requires-2-clause-open c = let d = c.args.self.now in
    open-left (device_rows d) (operator_row d ∷ []) (open-right (caller_rows d) (device_rows d ++ operator_row d ∷ []) c.requires.open)

pub close-requires-clause-open : goal.close-requires-clause-open
close-requires-clause-open c = let d = c.args.self.now in
    open-right (device_rows d) (operator_row d ∷ []) (open-right (caller_rows d) (device_rows d ++ operator_row d ∷ []) c.requires.open) 0 (operator_row d) refl

pub returns-clause-closes : goal.returns-clause-closes
returns-clause-closes c = let d = c.args.self.now in
    close-both (caller_rows d) _ (device_rows d ++ operator_row d ∷ []) _ c.close_row.ensures.closes
    (close-both (device_rows d) _ (operator_row d ∷ []) _ c.close_row-2.ensures.closes
    (close-one (operator_row d) _ (
      open-right (device_rows d) (operator_row d ∷ []) (open-right (caller_rows d) (device_rows d ++ operator_row d ∷ []) c.requires.open) 0 (operator_row d) refl,
      c.close.ensures.row,
    )))
