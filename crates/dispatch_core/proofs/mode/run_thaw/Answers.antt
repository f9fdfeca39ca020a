use Rattle.std.proofs.Common.{◌+◌, length, false, subst, sym, ap, arith}
use Rattle.dispatch_core.proofs.Words.{Tables, WellFormed}
use Rattle.plain.specs.Step.{of_sizes}
use Rattle.dispatch_core.proofs.Modes.{frozen-well}
use Rattle.dispatch_core.proofs.mode.run_thaw.Goals as goal

pub returns-clause-leaves : goal.returns-clause-leaves
returns-clause-leaves c =
    let P : Tables → Type 0 = λ u. WellFormed (of_sizes c.args.sizes) (c.args.serial + 1) u in
    let kept = ap length c.reserve.ensures.current in (
      subst P (sym c.set_frozen.ensures.tables) (frozen-well (of_sizes c.args.sizes) c.args.serial c.args.parts.now.tables false c.requires),
      omega (arith, c.set_frozen.ensures.spare, c.in_ok-reserve.ensures.spare),
      omega (arith, c.set_frozen.ensures.count, kept),
      omega (arith, c.set_frozen.ensures.count, kept),
    )
