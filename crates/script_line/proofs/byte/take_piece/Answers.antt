use Rattle.std.proofs.Common.{◌≡◌, ◌<◌, ◌+◌, ◌∷◌, ◌++◌, length, refl, sym, ap, ◌∙◌, inl, arith, length-append}
use Rattle.std.proofs.lemmas.Grind.{common_steps}
use Rattle.script_line.proofs.Bytes.{cut_rest, where_ok, where_err}
use Rattle.script_line.proofs.Ends.{stops_many, stops_long, begun_more, next_line}
use Rattle.script_line.proofs.byte.take_piece.Goals as goal

pub returns-then-held-eq-MOST_LINES-clause-taken : goal.returns-then-held-eq-MOST_LINES-clause-taken
returns-then-held-eq-MOST_LINES-clause-taken g c =
    let some : 0 < length c.loop-rest.rest.now = grind (arith, common_steps) in
    λ r0 r1 w0 c0 s.
    stops_many g.C.Console.prints r0 r1 w0 _ _ c0 _ c.loop-rest.held.count c.loop-rest.held.begun.items c.loop-rest.rest.now
    (c.loop-rest.invariant.taken r0 r1 w0 c0 s) some c.if-held-eq-MOST_LINES.true c.bad_line.result c.bad_line.ensures

pub returns-then-is_err-clause-taken : goal.returns-then-is_err-clause-taken
returns-then-is_err-clause-taken g c =
    let rest = cut_rest (λ x. x.now) c.cut_line.result.1 c.loop-rest.rest.now c.cut_line.result.0.now c.cut_line.ensures.whole in
    let long : 256 < length c.loop-rest.held.begun.items + length c.cut_line.result.0.now =
    where_err c.try_extend_from_slice.result _ 256 (sym c.is_err.ensures.value ∙ c.if-is_err.true) c.try_extend_from_slice.ensures.variant.1 in
    λ r0 r1 w0 c0 s.
    stops_long g.C.Console.prints r0 r1 w0 _ _ c0 _ c.loop-rest.held.count c.loop-rest.held.begun.items c.loop-rest.rest.now
    c.cut_line.result.0.now rest.0 (c.loop-rest.invariant.taken r0 r1 w0 c0 s) rest.1 c.cut_line.ensures.front long
    c.bad_line-then-is_err.result c.bad_line-then-is_err.ensures

pub returns-in-Some-end_line-clause-taken : goal.returns-in-Some-end_line-clause-taken
returns-in-Some-end_line-clause-taken g c =
    let whole : c.loop-rest.rest.now ≡ c.cut_line.result.0.now ++ (10 ∷ c.in-Some.after.now) = rw c.in-Some.is at c.cut_line.ensures.whole in
    let is : c.try_extend_from_slice.new.self.items ≡ c.loop-rest.held.begun.items ++ c.cut_line.result.0.now =
    where_ok c.try_extend_from_slice.result _ (sym c.is_err.ensures.value ∙ c.if-is_err.false) c.try_extend_from_slice.ensures.ok in
    λ r0 r1 w0 c0 s.
    c.in-Some-end_line.ensures.ran r0 r1 w0 c0 (10 ∷ c.in-Some.after.now)
    (begun_more g.C.Console.prints r0 r1 w0 _ c0 _ c.loop-rest.held.count c.loop-rest.held.begun.items c.loop-rest.rest.now
    c.cut_line.result.0.now (10 ∷ c.in-Some.after.now) c.try_extend_from_slice.new.self.items (c.loop-rest.invariant.taken r0 r1 w0 c0 s)
    whole c.cut_line.ensures.front is c.end_line.ensures.short c.if-held-eq-MOST_LINES.false)
    (inl (c.in-Some.after.now, refl))

pub loop-rest-preserved : goal.loop-rest-preserved
loop-rest-preserved g c =
    let whole : c.loop-rest.rest.now ≡ c.cut_line.result.0.now ++ (10 ∷ c.in-Some.after.now) = rw c.in-Some.is at c.cut_line.ensures.whole in
    let is : c.try_extend_from_slice.new.self.items ≡ c.loop-rest.held.begun.items ++ c.cut_line.result.0.now =
    where_ok c.try_extend_from_slice.result _ (sym c.is_err.ensures.value ∙ c.if-is_err.false) c.try_extend_from_slice.ensures.ok in
    record {
      few = omega (arith, c.in_default-end_line.ensures.count, c.if-held-eq-MOST_LINES.false);
      grows =
          (let count = c.in_default-end_line.ensures.count in
          omega (
            arith,
            count,
            c.end_line.ensures.short,
            ap length is,
            ap length whole,
            length-append c.loop-rest.held.begun.items c.cut_line.result.0.now,
            length-append c.cut_line.result.0.now (10 ∷ c.in-Some.after.now),
          ));
      taken = λ r0 r1 w0 c0 s.
          next_line g.C.Console.prints r0 r1 w0 _ c0 _ _ c.try_extend_from_slice.new.self.items _ c.in-Some.after.now c.in_default-end_line.ensures.begun
          (c.in_default-end_line.ensures.ran r0 r1 w0 c0 (10 ∷ c.in-Some.after.now)
          (begun_more g.C.Console.prints r0 r1 w0 _ c0 _ c.loop-rest.held.count c.loop-rest.held.begun.items c.loop-rest.rest.now
          c.cut_line.result.0.now (10 ∷ c.in-Some.after.now) c.try_extend_from_slice.new.self.items (c.loop-rest.invariant.taken r0 r1 w0 c0 s)
          whole c.cut_line.ensures.front is c.end_line.ensures.short c.if-held-eq-MOST_LINES.false)
          (inl (c.in-Some.after.now, refl)));
    }
