use Rattle.std.proofs.Common.{◌≡◌, ◌+◌, length, Some, subst, sym, ap, arith, rules}
use Rattle.dispatch_core.proofs.Words.{Tables, WellFormed}
use Rattle.plain.specs.Step.{of_sizes}
use Rattle.dispatch_core.proofs.Recorded.{one_more}
use Rattle.dispatch_core.proofs.Modes.{ticked-well}
use Rattle.dispatch_core.proofs.mode.run_tick.Goals as goal

pub returns-clause-leaves : goal.returns-clause-leaves
returns-clause-leaves c =
    let t = c.args.parts.now.tables in
    let slot = c.in-Some.slot in
    let here : t.in_service ≡ Some slot = search rules in
    let now : c.exchange.new.parts.tables ≡ record t { in_service = Some (record { seat = slot.seat; service = slot.service; age = slot.age + 1 }) } = search rules in
    let P : Tables → Type 0 = λ u. WellFormed (of_sizes c.args.sizes) (c.args.serial + 1) u in
    let left = one_more c.reserve.new.self.current c.exchange.new.self.current _ c.exchange.ensures.recorded in
    let kept = ap length c.reserve.ensures.current in (
      subst P (sym now) (ticked-well (of_sizes c.args.sizes) c.args.serial t slot c.requires here),
      omega (arith, c.exchange.ensures.spare, c.in_ok-reserve.ensures.spare),
      omega (arith, left, kept),
      omega (arith, left, kept),
    )
