use Rattle.std.proofs.Common.{true, false, ◌≡◌, ℕ, ◌-◌, ◌==◌, nat_lt, [], ◌∷◌, ◌++◌, length, sym, ap, ◌∙◌, arith, rules}
use Rattle.plain.specs.declared.call.Call.TheVariants.{Undo}
use Rattle.plain.specs.declared.answer.Reply.TheVariants.{Moved}
use Rattle.history.specs.Keeping.{state_of}
use Rattle.history.proofs.Calls.{Noted, keeper-noted, undo-done}
use Rattle.history.proofs.keeper.Keeper.undo.Goals as goal

pub invariant_of-self : goal.invariant_of-self
invariant_of-self c =
    let i = c.self.inside in
    let n : ℕ = c.args.k in
    let room : nat_lt (length i.roll.journal) i.most ≡ true = sym c.has_room.ensures ∙ c.if-not-has_room.false in
    let at = c.cursor.ensures.cursor in
    let few = c.if-cursor-k.false in
    let positive = c.if-k-eq0.false in
    let enough : nat_lt i.roll.cursor n ≡ false = search (rules, at, few) in
    let some : (n == 0) ≡ false = search (rules, positive) in
    let undone = c.undo_steps.ensures in
    let e = c.note.ensures in
    let noted : Noted i.roll (i.roll.cursor - n) (Undo n) c.note.new.self = record {
      sizes = e.sizes ∙ undone.sizes;
      steps = e.steps ∙ undone.steps;
      cursor = e.cursor ∙ undone.cursor;
      last = e.last ∙ undone.last;
      journal = e.journal ∙ ap (λ l. l ++ Undo n ∷ []) undone.journal;
    } in
    let reserved = c.self.invariant.reserved in
    let cursor = noted.cursor in
    let kept = undone.spare in
    let spare = e.spare in
    keeper-noted i.roll c.note.new.self i.held i.held i.most (i.roll.cursor - n) (Undo n) (Moved (i.roll.cursor - n) (length i.roll.steps)) c.self.invariant noted room
    (omega (arith, at, few, positive, cursor, reserved, kept, spare)) (undo-done (state_of i.roll i.held i.most) n c.if-not-self.false some enough room)
