use Rattle.std.proofs.Common.{◌-◌, inl, inr, ap, sym, ◌∙◌, rules}
use Rattle.std.specs.List.{find}
use Rattle.std.specs.Option.{option_or}
use Rattle.plain.specs.Lists.{numbers}
use Rattle.soft_queue.specs.Turn.{is_waiting}
use Rattle.soft_queue.proofs.Numbers.{IsAfter, next_seat_is, none_next}
use Rattle.soft_queue.proofs.pick.Goals as goal
use Rattle.soft_queue.proofs.pick.Goals.{then-last_seat-lt16, else-last_seat-lt16}

pub returns-then-are_empty : goal.returns-then-are_empty
returns-then-are_empty c = none_next c.args.last_seat c.args.queues.now (c.are_empty.ensures.none (search rules))

pub returns-in-Some : goal.returns-in-Some
returns-in-Some c =
    let after = c.if-last_seat-lt16.after in
    let side : IsAfter c.args.last_seat after = elim c.if-last_seat-lt16.branch [
      | then-last_seat-lt16 w ↦ inl (w.if-last_seat-lt16.true, w.after-is)
      | else-last_seat-lt16 w ↦ inr (w.if-last_seat-lt16.false, w.after-is)
    ] in
    sym (next_seat_is c.args.last_seat after c.args.queues.now side
    ∙ ap (λ r. option_or r (find (is_waiting c.args.queues.now) (numbers 0 (after - 0)))) (sym c.in-Some.ensures))

pub returns-in-None : goal.returns-in-None
returns-in-None c =
    let after = c.if-last_seat-lt16.after in
    let side : IsAfter c.args.last_seat after = elim c.if-last_seat-lt16.branch [
      | then-last_seat-lt16 w ↦ inl (w.if-last_seat-lt16.true, w.after-is)
      | else-last_seat-lt16 w ↦ inr (w.if-last_seat-lt16.false, w.after-is)
    ] in
    c.first_waiting-in-None.ensures ∙ sym (next_seat_is c.args.last_seat after c.args.queues.now side
    ∙ ap (λ r. option_or r (find (is_waiting c.args.queues.now) (numbers 0 (after - 0)))) (sym c.in-None.ensures))
