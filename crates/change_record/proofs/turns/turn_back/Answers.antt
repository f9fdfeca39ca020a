use Rattle.std.proofs.Common.{◌+◌, ◌-◌, ◌%◌, ◌^◌, List, take, ◌∙◌, ap, sym, arith, length-set, subst}
use Rattle.std.proofs.lemmas.List.{take-set}
use Rattle.change_record.specs.declared.change.Change.{Change}
use Rattle.change_record.specs.Tables.{Tables}
use Rattle.change_record.specs.Exchange.{FitBack}
use Rattle.change_record.proofs.Walk.{FitBack-at, tables_left, left_left, turns_left}
use Rattle.change_record.proofs.turns.turn_back.Goals as goal

pub turn_fitting-requires : goal.turn_fitting-requires
turn_fitting-requires c =
    (FitBack-at c.loop-i.changes c.loop-i.i c.index-changes-i.result c.loop-i.parts.tables c.loop-i-test.true c.loop-i.invariant.within c.loop-i.invariant.fits).0

pub loop-i-preserved : goal.loop-i-preserved
loop-i-preserved c =
    let cs = c.loop-i.changes in
    let i = c.loop-i.i in
    let x = c.index-changes-i.result in
    let d = c.turn_fitting.new.change in
    let t = c.loop-i.parts.tables in
    let u = c.turn_fitting.new.parts.tables in
    let e = c.turn_fitting.ensures.tables in
    let within = c.loop-i.invariant.within in
    let P : List Change → Type 0 = λ l. FitBack l u in
    let Q : Tables → Type 0 = λ v. FitBack (take (i - 1) cs) v in
    record {
      within = omega (arith, length-set cs (i - 1) d);
      tables = tables_left cs i x d t u c.loop-i-test.true within e ∙ c.loop-i.invariant.tables;
      left = left_left cs i x d t u c.loop-i-test.true within e c.turn_fitting.ensures.left ∙ c.loop-i.invariant.left;
      fits = subst P (sym (take-set cs (i - 1) d)) (subst Q (sym e) (FitBack-at cs i x t c.loop-i-test.true within c.loop-i.invariant.fits).1);
      turns = ap (λ n. (n + (i - 1)) % 2 ^ 64) c.turn_fitting.ensures.turns ∙ turns_left c.loop-i.parts.turns i c.loop-i-test.true ∙ c.loop-i.invariant.turns;
    }
