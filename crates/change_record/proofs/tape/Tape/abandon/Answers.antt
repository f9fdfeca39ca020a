use Rattle.std.proofs.Common.{◌≡◌, ◌+◌, ◌-◌, ◌%◌, ◌^◌, List, [], length, length-drop, take, drop, slice_range, subst, sym, ap, ◌∙◌, refl, arith, rules}
use Rattle.std.proofs.lemmas.List.{length-take-le}
use Rattle.change_record.specs.declared.change.Change.{Change}
use Rattle.change_record.specs.Exchange.{FitBack, back_tables, back_left}
use Rattle.change_record.specs.Tape.{begin_of, pieces, rest_of, AreEnds, spliced}
use Rattle.change_record.proofs.Pieces.{rest_cut, restored, AreEnds-cut, pieces-cut, rest_of-cut}
use Rattle.change_record.proofs.tape.Tape.abandon.Goals as goal

pub span_back-requires-clause-fits : goal.span_back-requires-clause-fits
span_back-requires-clause-fits c =
    let es = c.self.inside.ends.items in
    let xs = c.self.inside.changes.items in
    let part = rest_cut es c.as_slice.result.now xs c.as_mut_slice.result.now (spliced c.last_end-start.result c.len-end.result c.as_mut_slice.result.now []) [] c.last_end-start.result c.len-end.result
    c.as_slice.ensures.value c.as_mut_slice.ensures.value c.self.invariant c.last_end-start.ensures.start (search rules) refl in
    let P : List Change → Type 0 = λ l. FitBack l c.args.parts.now.tables in
    subst P (sym (part.0 ∙ ap (λ r. r.current) c.self.view_is)) c.requires

pub invariant_of-self : goal.invariant_of-self
invariant_of-self c =
    let es = c.self.inside.ends.items in
    let xs = c.self.inside.changes.items in
    let now = c.span_back.new.changes in
    let left = back_left (slice_range c.as_mut_slice.result.now c.last_end-start.result c.len-end.result) c.args.parts.now.tables in
    let part = rest_cut es c.as_slice.result.now xs c.as_mut_slice.result.now now left c.last_end-start.result c.len-end.result
    c.as_slice.ensures.value c.as_mut_slice.ensures.value c.self.invariant c.last_end-start.ensures.start (search rules) c.span_back.ensures.changes in
    let cut : c.truncate.new.self.items ≡ take (begin_of 0 es (length es)) xs =
    c.truncate.ensures.items ∙ ap (take c.last_end-start.result) (restored xs now c.self.inside.changes.len (search rules)) ∙ part.1 in
    let P : List Change → Type 0 = λ l. AreEnds 0 es (length l) in
    subst P (sym cut) (AreEnds-cut es xs (begin_of 0 es (length es)) refl c.self.invariant)

pub returns-clause-steps : goal.returns-clause-steps
returns-clause-steps c =
    let es = c.self.inside.ends.items in
    let xs = c.self.inside.changes.items in
    let now = c.span_back.new.changes in
    let left = back_left (slice_range c.as_mut_slice.result.now c.last_end-start.result c.len-end.result) c.args.parts.now.tables in
    let part = rest_cut es c.as_slice.result.now xs c.as_mut_slice.result.now now left c.last_end-start.result c.len-end.result
    c.as_slice.ensures.value c.as_mut_slice.ensures.value c.self.invariant c.last_end-start.ensures.start (search rules) c.span_back.ensures.changes in
    let cut : c.truncate.new.self.items ≡ take (begin_of 0 es (length es)) xs =
    c.truncate.ensures.items ∙ ap (take c.last_end-start.result) (restored xs now c.self.inside.changes.len (search rules)) ∙ part.1 in
    ap (pieces 0 es) cut ∙ pieces-cut es xs (begin_of 0 es (length es)) refl c.self.invariant ∙ ap (λ r. r.steps) c.self.view_is

pub returns-clause-current : goal.returns-clause-current
returns-clause-current c =
    let es = c.self.inside.ends.items in
    let xs = c.self.inside.changes.items in
    let now = c.span_back.new.changes in
    let left = back_left (slice_range c.as_mut_slice.result.now c.last_end-start.result c.len-end.result) c.args.parts.now.tables in
    let part = rest_cut es c.as_slice.result.now xs c.as_mut_slice.result.now now left c.last_end-start.result c.len-end.result
    c.as_slice.ensures.value c.as_mut_slice.ensures.value c.self.invariant c.last_end-start.ensures.start (search rules) c.span_back.ensures.changes in
    let cut : c.truncate.new.self.items ≡ take (begin_of 0 es (length es)) xs =
    c.truncate.ensures.items ∙ ap (take c.last_end-start.result) (restored xs now c.self.inside.changes.len (search rules)) ∙ part.1 in
    ap (rest_of 0 es) cut ∙ rest_of-cut es xs (begin_of 0 es (length es)) refl c.self.invariant

pub returns-clause-tables : goal.returns-clause-tables
returns-clause-tables c =
    let es = c.self.inside.ends.items in
    let xs = c.self.inside.changes.items in
    let part = rest_cut es c.as_slice.result.now xs c.as_mut_slice.result.now (spliced c.last_end-start.result c.len-end.result c.as_mut_slice.result.now []) [] c.last_end-start.result c.len-end.result
    c.as_slice.ensures.value c.as_mut_slice.ensures.value c.self.invariant c.last_end-start.ensures.start (search rules) refl in
    c.span_back.ensures.tables ∙ ap (λ l. back_tables l c.args.parts.now.tables) (part.0 ∙ ap (λ r. r.current) c.self.view_is)

pub returns-clause-turns : goal.returns-clause-turns
returns-clause-turns c =
    let es = c.self.inside.ends.items in
    let xs = c.self.inside.changes.items in
    let start = c.last_end-start.result in
    let end = c.len-end.result in
    let now = c.as_mut_slice.result.now in
    let part = rest_cut es c.as_slice.result.now xs now (spliced start end now []) [] start end
    c.as_slice.ensures.value c.as_mut_slice.ensures.value c.self.invariant c.last_end-start.ensures.start (search rules) refl in
    let last : end ≡ length xs = search rules in
    let whole : end ≡ length now = omega (arith, ap length c.as_mut_slice.ensures.value, last) in
    let cut : length (slice_range now start end) ≡ end - start = length-take-le (end - start) (drop start now) (omega (arith, whole, length-drop start now)) in
    let turned : end - start ≡ length c.args.self.now.current = sym cut ∙ ap length (part.0 ∙ ap (λ r. r.current) c.self.view_is) in
    c.span_back.ensures.turns ∙ ap (λ n. (c.args.parts.now.turns + n) % 2 ^ 64) turned
