use Rattle.std.proofs.Common.{vec_len, ◌≡◌, ◌-◌, ◌<◌, ℕ, List, [], ◌∷◌, ◌++◌, length, take, drop, ap, sym, subst, ◌∙◌, arith, rules}
use Rattle.std.proofs.lemmas.List.{take_more_set}
use Rattle.change_record.specs.declared.change.Change.{Change}
use Rattle.change_record.specs.Tape.{step_at, begin_of, pieces, rest_of, AreEnds}
use Rattle.change_record.proofs.Pieces.{length-pieces, ordered_begins, pieces_kept, rest_kept, ends_kept}
use Rattle.change_record.proofs.tape.Tape.keep_last.Goals as goal

pub span_at-start-requires-clause-there : goal.span_at-start-requires-clause-there
span_at-start-requires-clause-there c =
    omega (arith, c.requires.there, ap length c.as_slice.ensures.value, length-pieces 0 c.self.inside.ends.items c.self.inside.changes.items, ap (λ r. length r.steps) c.self.view_is)

pub drop_between-requires-clause-ordered : goal.drop_between-requires-clause-ordered
drop_between-requires-clause-ordered c =
    let es = c.self.inside.ends.items in
    let xs = c.self.inside.changes.items in
    let idle : rest_of 0 es xs ≡ [] = ap (λ r. r.current) c.self.view_is ∙ c.requires.idle in
    let lt : c.args.at < length es = omega (arith, c.requires.there, length-pieces 0 es xs, ap (λ r. length r.steps) c.self.view_is) in
    let start : c.span_at-start.result.0 ≡ begin_of 0 es c.args.at = c.span_at-start.ensures.start ∙ ap (λ l. begin_of 0 l c.args.at) c.as_slice.ensures.value in
    let counted : c.len-count.result ≡ length es = search rules in
    let from : c.span_at-from.result.0 ≡ begin_of 0 es (length es - 1) =
    c.span_at-from.ensures.start ∙ ap (λ l. begin_of 0 l (c.len-count.result - 1)) c.as_slice-2.ensures.value ∙ ap (λ m. begin_of 0 es (m - 1)) counted in
    omega (arith, start, from, (ordered_begins es xs c.self.invariant idle c.args.at lt).0)

pub invariant_of-self : goal.invariant_of-self
invariant_of-self c =
    let es = c.self.inside.ends.items in
    let xs = c.self.inside.changes.items in
    let idle : rest_of 0 es xs ≡ [] = ap (λ r. r.current) c.self.view_is ∙ c.requires.idle in
    let lt : c.args.at < length es = omega (arith, c.requires.there, length-pieces 0 es xs, ap (λ r. length r.steps) c.self.view_is) in
    let start : c.span_at-start.result.0 ≡ begin_of 0 es c.args.at = c.span_at-start.ensures.start ∙ ap (λ l. begin_of 0 l c.args.at) c.as_slice.ensures.value in
    let counted : c.len-count.result ≡ length es = search rules in
    let from : c.span_at-from.result.0 ≡ begin_of 0 es (length es - 1) =
    c.span_at-from.ensures.start ∙ ap (λ l. begin_of 0 l (c.len-count.result - 1)) c.as_slice-2.ensures.value ∙ ap (λ m. begin_of 0 es (m - 1)) counted in
    let kept : c.drop_between.new.changes.items ≡ take (begin_of 0 es c.args.at) xs ++ drop (begin_of 0 es (length es - 1)) xs =
    c.drop_between.ensures ∙ ap (λ n. take n xs ++ drop c.span_at-from.result.0 xs) start ∙ ap (λ n. take (begin_of 0 es c.args.at) xs ++ drop n xs) from in
    let long : c.len-end.result ≡ length c.drop_between.new.changes.items = search rules in
    let ends : c.truncate.new.self.items ≡ take c.args.at es ++ length (take (begin_of 0 es c.args.at) xs ++ drop (begin_of 0 es (length es - 1)) xs) ∷ [] =
    c.truncate.ensures.items ∙ take_more_set es c.args.at c.len-end.result lt ∙ ap (λ n. take c.args.at es ++ n ∷ []) (long ∙ ap length kept) in
    let P : List ℕ → Type 0 = λ l. AreEnds 0 l (length c.drop_between.new.changes.items) in
    let Q : List Change → Type 0 = λ l. AreEnds 0 (take c.args.at es ++ length (take (begin_of 0 es c.args.at) xs ++ drop (begin_of 0 es (length es - 1)) xs) ∷ []) (length l) in
    subst P (sym ends) (subst Q (sym kept) (ends_kept es xs c.self.invariant idle c.args.at lt))

pub returns-clause-steps : goal.returns-clause-steps
returns-clause-steps c =
    let es = c.self.inside.ends.items in
    let xs = c.self.inside.changes.items in
    let idle : rest_of 0 es xs ≡ [] = ap (λ r. r.current) c.self.view_is ∙ c.requires.idle in
    let lt : c.args.at < length es = omega (arith, c.requires.there, length-pieces 0 es xs, ap (λ r. length r.steps) c.self.view_is) in
    let start : c.span_at-start.result.0 ≡ begin_of 0 es c.args.at = c.span_at-start.ensures.start ∙ ap (λ l. begin_of 0 l c.args.at) c.as_slice.ensures.value in
    let counted : c.len-count.result ≡ length es = search rules in
    let from : c.span_at-from.result.0 ≡ begin_of 0 es (length es - 1) =
    c.span_at-from.ensures.start ∙ ap (λ l. begin_of 0 l (c.len-count.result - 1)) c.as_slice-2.ensures.value ∙ ap (λ m. begin_of 0 es (m - 1)) counted in
    let kept : c.drop_between.new.changes.items ≡ take (begin_of 0 es c.args.at) xs ++ drop (begin_of 0 es (length es - 1)) xs =
    c.drop_between.ensures ∙ ap (λ n. take n xs ++ drop c.span_at-from.result.0 xs) start ∙ ap (λ n. take (begin_of 0 es c.args.at) xs ++ drop n xs) from in
    let long : c.len-end.result ≡ length c.drop_between.new.changes.items = search rules in
    let ends : c.truncate.new.self.items ≡ take c.args.at es ++ length (take (begin_of 0 es c.args.at) xs ++ drop (begin_of 0 es (length es - 1)) xs) ∷ [] =
    c.truncate.ensures.items ∙ take_more_set es c.args.at c.len-end.result lt ∙ ap (λ n. take c.args.at es ++ n ∷ []) (long ∙ ap length kept) in
    ap (λ l. pieces 0 l c.drop_between.new.changes.items) ends
    ∙ ap (pieces 0 (take c.args.at es ++ length (take (begin_of 0 es c.args.at) xs ++ drop (begin_of 0 es (length es - 1)) xs) ∷ [])) kept
    ∙ pieces_kept es xs c.self.invariant idle c.args.at lt
    ∙ ap (λ r. take c.args.at r.steps ++ step_at r.steps (length r.steps - 1) ∷ []) c.self.view_is

pub returns-clause-current : goal.returns-clause-current
returns-clause-current c =
    let es = c.self.inside.ends.items in
    let xs = c.self.inside.changes.items in
    let idle : rest_of 0 es xs ≡ [] = ap (λ r. r.current) c.self.view_is ∙ c.requires.idle in
    let lt : c.args.at < length es = omega (arith, c.requires.there, length-pieces 0 es xs, ap (λ r. length r.steps) c.self.view_is) in
    let start : c.span_at-start.result.0 ≡ begin_of 0 es c.args.at = c.span_at-start.ensures.start ∙ ap (λ l. begin_of 0 l c.args.at) c.as_slice.ensures.value in
    let counted : c.len-count.result ≡ length es = search rules in
    let from : c.span_at-from.result.0 ≡ begin_of 0 es (length es - 1) =
    c.span_at-from.ensures.start ∙ ap (λ l. begin_of 0 l (c.len-count.result - 1)) c.as_slice-2.ensures.value ∙ ap (λ m. begin_of 0 es (m - 1)) counted in
    let kept : c.drop_between.new.changes.items ≡ take (begin_of 0 es c.args.at) xs ++ drop (begin_of 0 es (length es - 1)) xs =
    c.drop_between.ensures ∙ ap (λ n. take n xs ++ drop c.span_at-from.result.0 xs) start ∙ ap (λ n. take (begin_of 0 es c.args.at) xs ++ drop n xs) from in
    let long : c.len-end.result ≡ length c.drop_between.new.changes.items = search rules in
    let ends : c.truncate.new.self.items ≡ take c.args.at es ++ length (take (begin_of 0 es c.args.at) xs ++ drop (begin_of 0 es (length es - 1)) xs) ∷ [] =
    c.truncate.ensures.items ∙ take_more_set es c.args.at c.len-end.result lt ∙ ap (λ n. take c.args.at es ++ n ∷ []) (long ∙ ap length kept) in
    ap (λ l. rest_of 0 l c.drop_between.new.changes.items) ends
    ∙ ap (rest_of 0 (take c.args.at es ++ length (take (begin_of 0 es c.args.at) xs ++ drop (begin_of 0 es (length es - 1)) xs) ∷ [])) kept
    ∙ rest_kept es xs c.self.invariant idle c.args.at lt

pub index_mut-requires : goal.index_mut-requires
index_mut-requires c =
    let counted : vec_len c.self.inside.ends ≡ length c.self.inside.ends.items = search rules in
    omega (arith, c.requires.there, counted, length-pieces 0 c.self.inside.ends.items c.self.inside.changes.items, ap (λ r. length r.steps) c.self.view_is)

pub overflow_add-at : goal.overflow_add-at
overflow_add-at c =
    let counted : c.len-count.result ≡ length c.self.inside.ends.items = search rules in
    omega (arith, c.requires.there, counted, c.len-count.type_inv, length-pieces 0 c.self.inside.ends.items c.self.inside.changes.items, ap (λ r. length r.steps) c.self.view_is)
