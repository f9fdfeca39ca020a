use Rattle.std.proofs.Common.{◌≡◌, ℕ, ◌+◌, ◌-◌, get_or, ap, ◌∙◌, arith}
use Rattle.history.specs.Turns.{changes_of}
use Rattle.history.proofs.Counts.{changes-within}
use Rattle.history.proofs.moves.redo_steps.Goals as goal

-- those before the refused one were made and are undone, and of the refused one some were made and turned back
pub returns-in-Err-clause-turned_back : goal.returns-in-Err-clause-turned_back
returns-in-Err-clause-turned_back c =
    let inv = c.loop-done.invariant in
    let old = c.args.roll.now in
    let done : ℕ = c.loop-done.done in
    let e = c.in-Err.ensures in
    let stood = e.err in
    let was = inv.2 in
    let back = c.redo.new.self in
    let from : back.cursor - done ≡ old.cursor = omega (arith, stood, was) in
    let undone : changes_of back.lengths (back.cursor - done) done ≡ changes_of old.lengths old.cursor done =
    ap (λ l. changes_of l (back.cursor - done) done) (c.redo.ensures.lengths ∙ inv.4) ∙ ap (λ n. changes_of old.lengths n done) from in
    let part : get_or c.loop-done.roll.lengths c.loop-done.roll.cursor 0 ≡ get_or old.lengths (old.cursor + done) 0 =
    ap (λ l. get_or l c.loop-done.roll.cursor 0) inv.4 ∙ ap (λ n. get_or old.lengths n 0) was in
    let within = changes-within old.lengths old.cursor done c.args.count c.loop-done-test.true in
    let before = inv.5 in
    let made = e.turned_back in
    let few = made.1 in
    let turned = made.2 in
    let again = c.undo_steps.ensures.turns in
    (changes_of old.lengths old.cursor done + made.0, omega (arith, few, part, within), omega (arith, before, turned, again, undone))
