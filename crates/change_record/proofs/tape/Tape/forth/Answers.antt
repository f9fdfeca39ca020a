use Rattle.std.proofs.Common.{◌≡◌, ℕ, ◌+◌, ◌-◌, ◌%◌, ◌^◌, ◌<◌, List, length, set, get_or, slice_range, subst, sym, ap, ◌∙◌, arith, rules}
use Rattle.change_record.specs.declared.change.Change.{Change}
use Rattle.change_record.specs.Exchange.{FitForth, ArePuts, forth_tables, forth_left}
use Rattle.change_record.specs.Tape.{step_at, begin_of, pieces, rest_of, TakesBack}
use Rattle.change_record.proofs.Exchanges.{length-forth_left}
use Rattle.change_record.proofs.Pieces.{length-pieces, length-piece, span_piece, span_put, restored}
use Rattle.change_record.proofs.tape.Tape.forth.Goals as goal

pub span_at-start-requires-clause-there : goal.span_at-start-requires-clause-there
span_at-start-requires-clause-there c =
    omega (arith, c.requires.there, ap length c.as_slice.ensures.value, length-pieces 0 c.self.inside.ends.items c.self.inside.changes.items, ap (λ r. length r.steps) c.self.view_is)

pub span_forth-requires-clause-puts : goal.span_forth-requires-clause-puts
span_forth-requires-clause-puts c =
    let es = c.self.inside.ends.items in
    let xs = c.self.inside.changes.items in
    let lt : c.args.at < length es = omega (arith, c.requires.there, length-pieces 0 es xs, ap (λ r. length r.steps) c.self.view_is) in
    let here : step_at (pieces 0 es xs) c.args.at ≡ step_at c.args.self.now.steps c.args.at = ap (λ r. step_at r.steps c.args.at) c.self.view_is in
    let piece : slice_range c.as_mut_slice.result.now c.span_at-start.result.0 c.span_at-start.result.1 ≡ step_at c.args.self.now.steps c.args.at =
    span_piece es c.as_slice.result.now xs c.as_mut_slice.result.now c.args.at _ _ c.as_slice.ensures.value c.as_mut_slice.ensures.value c.self.invariant lt
    c.span_at-start.ensures.start c.span_at-start.ensures.end ∙ here in
    let P : List Change → Type 0 = λ l. ArePuts l in
    subst P (sym piece) c.requires.puts

pub returns-in-Err-clause-fits : goal.returns-in-Err-clause-fits
returns-in-Err-clause-fits c = λ fits.
    let es = c.self.inside.ends.items in
    let xs = c.self.inside.changes.items in
    let lt : c.args.at < length es = omega (arith, c.requires.there, length-pieces 0 es xs, ap (λ r. length r.steps) c.self.view_is) in
    let here : step_at (pieces 0 es xs) c.args.at ≡ step_at c.args.self.now.steps c.args.at = ap (λ r. step_at r.steps c.args.at) c.self.view_is in
    let piece : slice_range c.as_mut_slice.result.now c.span_at-start.result.0 c.span_at-start.result.1 ≡ step_at c.args.self.now.steps c.args.at =
    span_piece es c.as_slice.result.now xs c.as_mut_slice.result.now c.args.at _ _ c.as_slice.ensures.value c.as_mut_slice.ensures.value c.self.invariant lt
    c.span_at-start.ensures.start c.span_at-start.ensures.end ∙ here in
    let P : List Change → Type 0 = λ l. FitForth l c.args.parts.now.tables in
    c.in-Err.ensures.fits (subst P (sym piece) fits)

pub returns-in-Ok-clause-tables : goal.returns-in-Ok-clause-tables
returns-in-Ok-clause-tables c =
    let es = c.self.inside.ends.items in
    let xs = c.self.inside.changes.items in
    let lt : c.args.at < length es = omega (arith, c.requires.there, length-pieces 0 es xs, ap (λ r. length r.steps) c.self.view_is) in
    let here : step_at (pieces 0 es xs) c.args.at ≡ step_at c.args.self.now.steps c.args.at = ap (λ r. step_at r.steps c.args.at) c.self.view_is in
    let piece : slice_range c.as_mut_slice.result.now c.span_at-start.result.0 c.span_at-start.result.1 ≡ step_at c.args.self.now.steps c.args.at =
    span_piece es c.as_slice.result.now xs c.as_mut_slice.result.now c.args.at _ _ c.as_slice.ensures.value c.as_mut_slice.ensures.value c.self.invariant lt
    c.span_at-start.ensures.start c.span_at-start.ensures.end ∙ here in
    c.in-Ok.ensures.tables ∙ ap (λ l. forth_tables l c.args.parts.now.tables) piece

pub returns-in-Ok-clause-turns : goal.returns-in-Ok-clause-turns
returns-in-Ok-clause-turns c =
    let es = c.self.inside.ends.items in
    let xs = c.self.inside.changes.items in
    let lt : c.args.at < length es = omega (arith, c.requires.there, length-pieces 0 es xs, ap (λ r. length r.steps) c.self.view_is) in
    let here : step_at (pieces 0 es xs) c.args.at ≡ step_at c.args.self.now.steps c.args.at = ap (λ r. step_at r.steps c.args.at) c.self.view_is in
    let piece : slice_range c.as_mut_slice.result.now c.span_at-start.result.0 c.span_at-start.result.1 ≡ step_at c.args.self.now.steps c.args.at =
    span_piece es c.as_slice.result.now xs c.as_mut_slice.result.now c.args.at _ _ c.as_slice.ensures.value c.as_mut_slice.ensures.value c.self.invariant lt
    c.span_at-start.ensures.start c.span_at-start.ensures.end ∙ here in
    let turned : c.span_at-start.result.1 - c.span_at-start.result.0 ≡ length (step_at c.args.self.now.steps c.args.at) =
    ap (λ n. n - c.span_at-start.result.0) (c.span_at-start.ensures.end ∙ ap (λ l. get_or l c.args.at 0) c.as_slice.ensures.value)
    ∙ ap (λ n. get_or es c.args.at 0 - n) (c.span_at-start.ensures.start ∙ ap (λ l. begin_of 0 l c.args.at) c.as_slice.ensures.value)
    ∙ sym (length-piece es xs c.self.invariant c.args.at lt) ∙ ap length here in
    c.in-Ok.ensures.turns ∙ ap (λ n. (c.args.parts.now.turns + n) % 2 ^ 64) turned

pub returns-in-Ok-clause-steps : goal.returns-in-Ok-clause-steps
returns-in-Ok-clause-steps c =
    let es = c.self.inside.ends.items in
    let xs = c.self.inside.changes.items in
    let lt : c.args.at < length es = omega (arith, c.requires.there, length-pieces 0 es xs, ap (λ r. length r.steps) c.self.view_is) in
    let here : step_at (pieces 0 es xs) c.args.at ≡ step_at c.args.self.now.steps c.args.at = ap (λ r. step_at r.steps c.args.at) c.self.view_is in
    let piece : slice_range c.as_mut_slice.result.now c.span_at-start.result.0 c.span_at-start.result.1 ≡ step_at c.args.self.now.steps c.args.at =
    span_piece es c.as_slice.result.now xs c.as_mut_slice.result.now c.args.at _ _ c.as_slice.ensures.value c.as_mut_slice.ensures.value c.self.invariant lt
    c.span_at-start.ensures.start c.span_at-start.ensures.end ∙ here in
    let left = forth_left (slice_range c.as_mut_slice.result.now c.span_at-start.result.0 c.span_at-start.result.1) c.args.parts.now.tables in
    let long : length left ≡ length (step_at (pieces 0 es xs) c.args.at) = length-forth_left _ _ ∙ ap length (piece ∙ sym here) in
    let put = span_put es c.as_slice.result.now xs c.as_mut_slice.result.now c.span_forth.new.changes left c.args.at _ _ c.as_slice.ensures.value c.as_mut_slice.ensures.value
    c.self.invariant lt c.span_at-start.ensures.start c.span_at-start.ensures.end c.in-Ok.ensures.changes long in
    let kept = restored xs c.span_forth.new.changes c.self.inside.changes.len (search rules) in
    ap (pieces 0 es) kept ∙ put.0 ∙ ap (λ l. set (pieces 0 es xs) c.args.at l) (ap (λ l. forth_left l c.args.parts.now.tables) piece)
    ∙ ap (λ r. set r.steps c.args.at (forth_left (step_at c.args.self.now.steps c.args.at) c.args.parts.now.tables)) c.self.view_is

pub returns-in-Ok-clause-current : goal.returns-in-Ok-clause-current
returns-in-Ok-clause-current c =
    let es = c.self.inside.ends.items in
    let xs = c.self.inside.changes.items in
    let lt : c.args.at < length es = omega (arith, c.requires.there, length-pieces 0 es xs, ap (λ r. length r.steps) c.self.view_is) in
    let here : step_at (pieces 0 es xs) c.args.at ≡ step_at c.args.self.now.steps c.args.at = ap (λ r. step_at r.steps c.args.at) c.self.view_is in
    let piece : slice_range c.as_mut_slice.result.now c.span_at-start.result.0 c.span_at-start.result.1 ≡ step_at c.args.self.now.steps c.args.at =
    span_piece es c.as_slice.result.now xs c.as_mut_slice.result.now c.args.at _ _ c.as_slice.ensures.value c.as_mut_slice.ensures.value c.self.invariant lt
    c.span_at-start.ensures.start c.span_at-start.ensures.end ∙ here in
    let left = forth_left (slice_range c.as_mut_slice.result.now c.span_at-start.result.0 c.span_at-start.result.1) c.args.parts.now.tables in
    let long : length left ≡ length (step_at (pieces 0 es xs) c.args.at) = length-forth_left _ _ ∙ ap length (piece ∙ sym here) in
    let put = span_put es c.as_slice.result.now xs c.as_mut_slice.result.now c.span_forth.new.changes left c.args.at _ _ c.as_slice.ensures.value c.as_mut_slice.ensures.value
    c.self.invariant lt c.span_at-start.ensures.start c.span_at-start.ensures.end c.in-Ok.ensures.changes long in
    let kept = restored xs c.span_forth.new.changes c.self.inside.changes.len (search rules) in
    ap (rest_of 0 es) kept ∙ put.1 ∙ ap (λ r. r.current) c.self.view_is

pub returns-in-Err-clause-turned_back : goal.returns-in-Err-clause-turned_back
returns-in-Err-clause-turned_back c =
    let es = c.self.inside.ends.items in
    let xs = c.self.inside.changes.items in
    let lt : c.args.at < length es = omega (arith, c.requires.there, length-pieces 0 es xs, ap (λ r. length r.steps) c.self.view_is) in
    let here : step_at (pieces 0 es xs) c.args.at ≡ step_at c.args.self.now.steps c.args.at = ap (λ r. step_at r.steps c.args.at) c.self.view_is in
    let turned : c.span_at-start.result.1 - c.span_at-start.result.0 ≡ length (step_at c.args.self.now.steps c.args.at) =
    ap (λ n. n - c.span_at-start.result.0) (c.span_at-start.ensures.end ∙ ap (λ l. get_or l c.args.at 0) c.as_slice.ensures.value)
    ∙ ap (λ n. get_or es c.args.at 0 - n) (c.span_at-start.ensures.start ∙ ap (λ l. begin_of 0 l c.args.at) c.as_slice.ensures.value)
    ∙ sym (length-piece es xs c.self.invariant c.args.at lt) ∙ ap length here in
    let P : ℕ → Type 0 = λ n. TakesBack c.args.parts.now.turns n c.span_forth.new.parts.turns in
    subst P turned c.in-Err.ensures.turned_back
