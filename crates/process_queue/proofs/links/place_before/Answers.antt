use Rattle.std.proofs.Common.{◌-◌, length, ℕ, ◌+◌, Some, ap, sym, ◌∙◌, arith}
use Rattle.linked_rows.specs.declared.Sides.{Sides}
use Rattle.process_queue.specs.Queue.{is_after}
use Rattle.process_queue.specs.Links.{walk_back}
use Rattle.process_queue.proofs.Back.{back_none, back_on, back_stops, back_zero}
use Rattle.process_queue.proofs.links.place_before.Goals as goal

pub returns-in_default : goal.returns-in_default
returns-in_default c =
    sym (c.loop-passed.invariant
    ∙ ap (walk_back c.args.links.now c.args.sides.now c.args.entry (length c.args.links.now - c.loop-passed._passed)) c.in_default.is
    ∙ back_none c.args.links.now c.args.sides.now c.args.entry (length c.args.links.now - c.loop-passed._passed))

pub returns-then-not-is_after : goal.returns-then-not-is_after
returns-then-not-is_after c =
    sym (c.loop-passed.invariant
    ∙ ap (walk_back c.args.links.now c.args.sides.now c.args.entry (length c.args.links.now - c.loop-passed._passed)) c.in-Some.is
    ∙ back_stops c.args.links.now c.args.sides.now c.args.entry (length c.args.links.now) c.loop-passed._passed c.in-Some.slot (omega arith)
    (sym (c.if-not-is_after.ensures ∙ ap (λ (n : ℕ). is_after (Some c.args.entry) (n, c.in-Some.slot)) c.serial_at.ensures)))

pub loop-passed-preserved : goal.loop-passed-preserved
loop-passed-preserved c =
    c.loop-passed.invariant
    ∙ ap (walk_back c.args.links.now c.args.sides.now c.args.entry (length c.args.links.now - c.loop-passed._passed)) c.in-Some.is
    ∙ back_on c.args.links.now c.args.sides.now c.args.entry (length c.args.links.now) c.loop-passed._passed c.in-Some.slot (omega arith)
    (sym (c.if-not-is_after.ensures ∙ ap (λ (n : ℕ). is_after (Some c.args.entry) (n, c.in-Some.slot)) c.serial_at.ensures))
    ∙ ap (λ (s : Sides). walk_back c.args.links.now c.args.sides.now c.args.entry (length c.args.links.now - (c.loop-passed._passed + 1)) s.before) (sym c.side_at-at.ensures)

pub returns : goal.returns
returns c = sym (c.loop-passed.invariant ∙ back_zero c.args.links.now c.args.sides.now c.args.entry (length c.args.links.now - c.loop-passed._passed) c.loop-passed.at (omega arith))
