use Rattle.std.proofs.Common.{rules, sym, ◌∙◌, ap, ◌++◌, arith, subst}
use Rattle.std.proofs.lemmas.Grind.{common_steps}
use Rattle.script_line.specs.Words.{numbers, AreNumbers}
use Rattle.script_line.proofs.Cuts.{no_more, too_many, numbers-push, AreNumbers-push}
use Rattle.script_line.proofs.fields.number_fields.Goals as goal

pub returns-then-is_full-clause-none : goal.returns-then-is_full-clause-none
returns-then-is_full-clause-none c = λ ns fits few e.
    let loop = c.loop-rest.invariant in
    too_many c.args.text.now c.loop-rest.found.items c.loop-rest.rest.now ns loop.whole loop.fits fits loop.tail (λ z. grind (arith, common_steps)) (grind (arith, common_steps)) few e

pub returns-in-None-clause-none : goal.returns-in-None-clause-none
returns-in-None-clause-none c = λ ns fits few e.
    let loop = c.loop-rest.invariant in
    no_more c.args.text.now c.loop-rest.found.items c.loop-rest.rest.now ns loop.whole loop.fits fits loop.tail (λ z. grind (arith, common_steps)) c.in-None.ensures.none e

pub loop-rest-preserved : goal.loop-rest-preserved
loop-rest-preserved c =
    let loop = c.loop-rest.invariant in
    record {
      fits = subst AreNumbers (sym c.push.ensures.items) (AreNumbers-push c.loop-rest.found.items _ loop.fits c.in-Some.ensures.fits);
      tail = search rules;
      whole = loop.whole ∙ ap (λ ys. numbers c.loop-rest.found.items ++ ys) c.in-Some.ensures.found ∙ numbers-push c.loop-rest.found.items c.in-Some.field.0 c.in-Some.field.1.now ∙ ap (λ ys. numbers ys ++ c.in-Some.field.1.now) (sym c.push.ensures.items);
    }
