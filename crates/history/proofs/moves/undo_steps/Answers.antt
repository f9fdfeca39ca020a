use Rattle.std.proofs.Common.{◌≡◌, ℕ, suc, ◌+◌, ◌-◌, get_or, ap, ◌∙◌, arith}
use Rattle.history.specs.Turns.{changes_of}
use Rattle.history.proofs.Counts.{changes-more}
use Rattle.history.proofs.moves.undo_steps.Goals as goal

pub loop-preserved : goal.loop-preserved
loop-preserved c =
    let inv = c.loop.invariant in
    let e = c.undo.ensures in
    let i : ℕ = c.loop.counter in
    let old = c.args.roll.now in
    let j : ℕ = old.cursor - (i + 1) in
    let few = c.loop-test.true in
    let all = c.requires in
    let was = inv.2 in
    let now = e.cursor in
    let here : c.loop.roll.cursor - 1 ≡ j = omega (arith, was) in
    let one : i + 1 ≡ suc i = omega arith in
    let next : suc j ≡ old.cursor - i = omega (arith, few, all) in
    let at : get_or c.loop.roll.lengths (c.loop.roll.cursor - 1) 0 ≡ get_or old.lengths j 0 =
    ap (λ l. get_or l (c.loop.roll.cursor - 1) 0) inv.4 ∙ ap (λ n. get_or old.lengths n 0) here in
    let more : changes_of old.lengths j (i + 1) ≡ get_or old.lengths j 0 + changes_of old.lengths (old.cursor - i) i =
    ap (changes_of old.lengths j) one ∙ changes-more old.lengths j i
    ∙ ap (λ n. get_or old.lengths j 0 + changes_of old.lengths n i) next in
    let made = e.turns in
    let before = inv.5 in (
      e.sizes ∙ inv.0,
      e.steps ∙ inv.1,
      omega (arith, was, now),
      e.last ∙ inv.3,
      e.lengths ∙ inv.4,
      omega (arith, at, more, made, before),
      e.journal ∙ inv.6,
      e.spare ∙ inv.7,
    )
