use Rattle.std.proofs.Common.{◌≡◌, ◌-◌, ◌<◌, ℕ, List, [], length, take, ap, sym, subst, ◌∙◌, arith, rules}
use Rattle.change_record.specs.declared.change.Change.{Change}
use Rattle.change_record.specs.Tape.{begin_of, pieces, rest_of, AreEnds}
use Rattle.change_record.proofs.Pieces.{length-pieces, first_cut, first_pieces, first_rest}
use Rattle.change_record.proofs.tape.Tape.drop_last.Goals as goal

pub invariant_of-self : goal.invariant_of-self
invariant_of-self c =
    let es = c.self.inside.ends.items in
    let xs = c.self.inside.changes.items in
    let idle : rest_of 0 es xs ≡ [] = ap (λ r. r.current) c.self.view_is ∙ c.requires.idle in
    let some : 0 < length es = omega (arith, c.requires.there, length-pieces 0 es xs, ap (λ r. length r.steps) c.self.view_is) in
    let counted : c.len-count.result ≡ length es = search rules in
    let lt : length es - 1 < length es = omega arith in
    let from : c.span_at-from.result.0 ≡ begin_of 0 es (length es - 1) =
    c.span_at-from.ensures.start ∙ ap (λ l. begin_of 0 l (c.len-count.result - 1)) c.as_slice.ensures.value ∙ ap (λ m. begin_of 0 es (m - 1)) counted in
    let cut : c.truncate.new.self.items ≡ take (begin_of 0 es (length es - 1)) xs = c.truncate.ensures.items ∙ ap (λ n. take n xs) from in
    let ends : c.truncate-2.new.self.items ≡ take (length es - 1) es = c.truncate-2.ensures.items ∙ ap (λ n. take (n - 1) es) counted in
    let P : List ℕ → Type 0 = λ l. AreEnds 0 l (length c.truncate.new.self.items) in
    let Q : List Change → Type 0 = λ l. AreEnds 0 (take (length es - 1) es) (length l) in
    subst P (sym ends) (subst Q (sym cut) (first_cut es xs c.self.invariant idle (length es - 1) lt))

pub returns-clause-steps : goal.returns-clause-steps
returns-clause-steps c =
    let es = c.self.inside.ends.items in
    let xs = c.self.inside.changes.items in
    let idle : rest_of 0 es xs ≡ [] = ap (λ r. r.current) c.self.view_is ∙ c.requires.idle in
    let some : 0 < length es = omega (arith, c.requires.there, length-pieces 0 es xs, ap (λ r. length r.steps) c.self.view_is) in
    let counted : c.len-count.result ≡ length es = search rules in
    let lt : length es - 1 < length es = omega arith in
    let from : c.span_at-from.result.0 ≡ begin_of 0 es (length es - 1) =
    c.span_at-from.ensures.start ∙ ap (λ l. begin_of 0 l (c.len-count.result - 1)) c.as_slice.ensures.value ∙ ap (λ m. begin_of 0 es (m - 1)) counted in
    let cut : c.truncate.new.self.items ≡ take (begin_of 0 es (length es - 1)) xs = c.truncate.ensures.items ∙ ap (λ n. take n xs) from in
    let ends : c.truncate-2.new.self.items ≡ take (length es - 1) es = c.truncate-2.ensures.items ∙ ap (λ n. take (n - 1) es) counted in
    ap (λ l. pieces 0 l c.truncate.new.self.items) ends ∙ ap (pieces 0 (take (length es - 1) es)) cut
    ∙ first_pieces es xs c.self.invariant idle (length es - 1) lt
    ∙ ap (λ n. take (n - 1) (pieces 0 es xs)) (sym (length-pieces 0 es xs)) ∙ ap (λ r. take (length r.steps - 1) r.steps) c.self.view_is

pub returns-clause-current : goal.returns-clause-current
returns-clause-current c =
    let es = c.self.inside.ends.items in
    let xs = c.self.inside.changes.items in
    let idle : rest_of 0 es xs ≡ [] = ap (λ r. r.current) c.self.view_is ∙ c.requires.idle in
    let some : 0 < length es = omega (arith, c.requires.there, length-pieces 0 es xs, ap (λ r. length r.steps) c.self.view_is) in
    let counted : c.len-count.result ≡ length es = search rules in
    let lt : length es - 1 < length es = omega arith in
    let from : c.span_at-from.result.0 ≡ begin_of 0 es (length es - 1) =
    c.span_at-from.ensures.start ∙ ap (λ l. begin_of 0 l (c.len-count.result - 1)) c.as_slice.ensures.value ∙ ap (λ m. begin_of 0 es (m - 1)) counted in
    let cut : c.truncate.new.self.items ≡ take (begin_of 0 es (length es - 1)) xs = c.truncate.ensures.items ∙ ap (λ n. take n xs) from in
    let ends : c.truncate-2.new.self.items ≡ take (length es - 1) es = c.truncate-2.ensures.items ∙ ap (λ n. take (n - 1) es) counted in
    ap (λ l. rest_of 0 l c.truncate.new.self.items) ends ∙ ap (rest_of 0 (take (length es - 1) es)) cut
    ∙ first_rest es xs c.self.invariant idle (length es - 1) lt
