use Rattle.std.proofs.Common.{◌≡◌, ◌+◌, [], length, Some, None, set, subst, sym, ap, ◌∙◌, arith, rules}
use Rattle.dispatch_core.proofs.Words.{Tables, meaning, outbox_at, at, WellFormed, left_tables, fewer_tables}
use Rattle.plain.specs.declared.answer.Answer.TheVariants.{Accepted}
use Rattle.plain.specs.declared.answer.Reply.TheVariants.{Left}
use Rattle.plain.specs.Step.{of_sizes}
use Rattle.dispatch_core.proofs.Leaves.{left-well, left-meaning, length-outbox}
use Rattle.dispatch_core.proofs.LeaveSteps.{leave_seat, leave_nobody, leave_again, leave_late, leave_does}
use Rattle.dispatch_core.proofs.leave.run_leave.Goals as goal

pub returns-then-seat-ge-SEATS-clause-answers : goal.returns-then-seat-ge-SEATS-clause-answers
returns-then-seat-ge-SEATS-clause-answers c =
    sym (leave_seat (of_sizes c.args.sizes) (meaning c.args.parts.now.tables) c.args.room c.args.seat c.if-seat-ge-SEATS.true)

pub returns-in_default-clause-answers : goal.returns-in_default-clause-answers
returns-in_default-clause-answers c =
    let t = c.args.parts.now.tables in
    let none : at t.seats c.args.seat ≡ None = search rules in
    sym (leave_nobody (of_sizes c.args.sizes) (meaning t) c.args.room c.args.seat c.if-seat-ge-SEATS.false none)

pub returns-then-entry-clause-answers : goal.returns-then-entry-clause-answers
returns-then-entry-clause-answers c =
    let t = c.args.parts.now.tables in
    let sits : at t.seats c.args.seat ≡ Some c.in-Some.entry = sym c.seat.ensures ∙ c.in-Some.is in
    sym (leave_again (of_sizes c.args.sizes) (meaning t) c.args.room c.args.seat c.if-seat-ge-SEATS.false c.in-Some.entry sits c.if-entry.true)

pub returns-then-not-room-clause-answers : goal.returns-then-not-room-clause-answers
returns-then-not-room-clause-answers c =
    let t = c.args.parts.now.tables in
    let sits : at t.seats c.args.seat ≡ Some c.in-Some.entry = sym c.seat.ensures ∙ c.in-Some.is in
    sym (leave_late (of_sizes c.args.sizes) (meaning t) c.args.room c.args.seat c.if-seat-ge-SEATS.false c.in-Some.entry sits c.if-entry.false c.if-not-room.true)

pub returns-clause-answers : goal.returns-clause-answers
returns-clause-answers c =
    let l = of_sizes c.args.sizes in
    let t = c.args.parts.now.tables in
    let entry = c.in-Some.entry in
    let sits : at t.seats c.args.seat ≡ Some entry = sym c.seat.ensures ∙ c.in-Some.is in
    let slots : c.as_slice-slots.result.now ≡ outbox_at t.outboxes c.args.seat = search rules in
    let now : c.owe_fewer.new.parts.tables ≡ left_tables t c.args.seat entry (outbox_at t.outboxes c.args.seat) =
    c.owe_fewer.ensures.tables ∙ ap (λ u. fewer_tables u c.args.seat entry (length c.as_slice-slots.result.now)) (c.clear_outbox.ensures.tables
    ∙ ap (λ (u : Tables). record u { outboxes = set u.outboxes c.args.seat (record { items = [] }) }) c.drop_bios.ensures.tables)
    ∙ ap (left_tables t c.args.seat entry) slots in
    let next = ap meaning now ∙ left-meaning l c.args.serial t c.args.seat entry c.requires c.if-seat-ge-SEATS.false sits in
    let does = leave_does l (meaning t) c.args.room c.args.seat c.if-seat-ge-SEATS.false entry sits c.if-entry.false c.if-not-room.false in
    sym (does ∙ ap (λ m. (m, Accepted Left)) (sym next))

pub returns-clause-leaves : goal.returns-clause-leaves
returns-clause-leaves c =
    let l = of_sizes c.args.sizes in
    let t = c.args.parts.now.tables in
    let entry = c.in-Some.entry in
    let sits : at t.seats c.args.seat ≡ Some entry = sym c.seat.ensures ∙ c.in-Some.is in
    let slots : c.as_slice-slots.result.now ≡ outbox_at t.outboxes c.args.seat = search rules in
    let now : c.owe_fewer.new.parts.tables ≡ left_tables t c.args.seat entry (outbox_at t.outboxes c.args.seat) =
    c.owe_fewer.ensures.tables ∙ ap (λ u. fewer_tables u c.args.seat entry (length c.as_slice-slots.result.now)) (c.clear_outbox.ensures.tables
    ∙ ap (λ (u : Tables). record u { outboxes = set u.outboxes c.args.seat (record { items = [] }) }) c.drop_bios.ensures.tables)
    ∙ ap (left_tables t c.args.seat entry) slots in
    let bios = length-outbox l c.args.serial t c.args.seat entry c.requires c.if-seat-ge-SEATS.false sits in
    let long = ap length slots in
    let was = ap length c.reserve.ensures.current in
    let P : Tables → Type 0 = λ u. WellFormed l (c.args.serial + 1) u in (
      subst P (sym now) (left-well l c.args.serial t c.args.seat entry c.requires c.if-seat-ge-SEATS.false sits),
      omega (arith, c.owe_fewer.ensures.spare, c.clear_outbox.ensures.spare, c.drop_bios.ensures.spare, c.in_ok-reserve.ensures.spare),
      omega (arith, bios, long, was, c.clear_outbox.ensures.count, c.drop_bios.ensures.count, c.owe_fewer.ensures.least),
      omega (arith, bios, long, was, c.clear_outbox.ensures.count, c.drop_bios.ensures.count, c.owe_fewer.ensures.most),
    )
