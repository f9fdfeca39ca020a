use Rattle.std.proofs.Common.{◌≡◌, ◌+◌, length, true, subst, sym, ap, ◌∙◌, arith, rules}
use Rattle.dispatch_core.proofs.Words.{Tables, bfq_of, meaning, stands, WellFormed, attached_tables}
use Rattle.plain.specs.Step.{of_sizes}
use Rattle.plain.specs.declared.answer.Answer.TheVariants.{Accepted}
use Rattle.plain.specs.declared.answer.Reply.TheVariants.{Attached}
use Rattle.dispatch_core.proofs.Sides.{CanAttach}
use Rattle.dispatch_core.proofs.Laws.{attached-well, attached-meaning}
use Rattle.dispatch_core.proofs.Decided.{attach_does, stands_below}
use Rattle.dispatch_core.proofs.attach.run_attach.Goals as goal

pub returns-clause-answers : goal.returns-clause-answers
returns-clause-answers c =
    let l = of_sizes c.args.sizes in
    let t = c.args.parts.now.tables in
    let can : CanAttach t c.args.seat = record { within = c.if-seat-ge-SEATS.false; free = search rules } in
    let there : stands (bfq_of t) c.args.group ≡ true = search rules in
    let now : c.sit.new.parts.tables ≡ attached_tables l t c.args.serial c.args.seat c.args.group c.args.prio c.args.class = search rules in
    sym (attach_does l (meaning t) c.args.serial c.args.room c.args.seat c.args.group c.args.prio c.args.class can.within can.free there (search rules) c.if-not-room.false
    ∙ ap (λ m. (m, Accepted (Attached c.args.serial))) (sym (ap meaning now ∙ attached-meaning l c.args.serial t c.args.seat c.args.group c.args.prio c.args.class c.requires can (stands_below (bfq_of t) c.args.group there))))

pub returns-clause-leaves : goal.returns-clause-leaves
returns-clause-leaves c =
    let l = of_sizes c.args.sizes in
    let t = c.args.parts.now.tables in
    let can : CanAttach t c.args.seat = record { within = c.if-seat-ge-SEATS.false; free = search rules } in
    let there : stands (bfq_of t) c.args.group ≡ true = search rules in
    let now : c.sit.new.parts.tables ≡ attached_tables l t c.args.serial c.args.seat c.args.group c.args.prio c.args.class = search rules in
    let P : Tables → Type 0 = λ t. WellFormed l (c.args.serial + 1) t in (
      subst P (sym now) (attached-well l c.args.serial t c.args.seat c.args.group c.args.prio c.args.class c.requires can (stands_below (bfq_of t) c.args.group there)),
      omega (arith, c.sit.ensures.spare, c.enter.ensures.spare, c.in_ok-reserve.ensures.spare),
      omega (arith, c.sit.ensures.count, c.enter.ensures.count, ap length c.reserve.ensures.current),
      omega (arith, c.sit.ensures.count, c.enter.ensures.count, ap length c.reserve.ensures.current),
    )
