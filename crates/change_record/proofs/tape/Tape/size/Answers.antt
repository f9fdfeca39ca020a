use Rattle.std.proofs.Common.{◌-◌, ◌<◌, length, get_or, sym, ap, ◌∙◌, arith}
use Rattle.change_record.specs.Tape.{step_at, begin_of}
use Rattle.change_record.proofs.Pieces.{length-pieces, length-piece}
use Rattle.change_record.proofs.tape.Tape.size.Goals as goal

pub span_at-start-requires-clause-there : goal.span_at-start-requires-clause-there
span_at-start-requires-clause-there c =
    omega (arith, c.requires, ap length c.as_slice.ensures.value, length-pieces 0 c.self.inside.ends.items c.self.inside.changes.items, ap (λ r. length r.steps) c.self.view_is)

pub returns : goal.returns
returns c =
    let es = c.self.inside.ends.items in
    let xs = c.self.inside.changes.items in
    let lt : c.args.at < length es = omega (arith, c.requires, length-pieces 0 es xs, ap (λ r. length r.steps) c.self.view_is) in
    ap (λ n. n - c.span_at-start.result.0) (c.span_at-start.ensures.end ∙ ap (λ l. get_or l c.args.at 0) c.as_slice.ensures.value)
    ∙ ap (λ n. get_or es c.args.at 0 - n) (c.span_at-start.ensures.start ∙ ap (λ l. begin_of 0 l c.args.at) c.as_slice.ensures.value)
    ∙ sym (length-piece es xs c.self.invariant c.args.at lt) ∙ ap (λ r. length (step_at r.steps c.args.at)) c.self.view_is
