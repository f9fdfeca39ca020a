use Rattle.std.proofs.Common.{◌≡◌, ℕ, suc, ◌-◌, ◌<◌, List, [], length, sym, ap, ◌∙◌, subst, arith, map}
use Rattle.std.proofs.Math.Seq.{map-set_same}
use Rattle.change_record.specs.Tape.{step_at}
use Rattle.change_record.specs.Exchange.{back_left}
use Rattle.change_record.proofs.Exchanges.{length-back_left}
use Rattle.history.proofs.Ways.{same-line, undo-line}
use Rattle.plain.specs.declared.call.Stamped.{Stamped}
use Rattle.history.specs.Places.{steps_in}
use Rattle.history.specs.Line.{IsLine}
use Rattle.history.proofs.roll.Roll.undo.Goals as goal

pub invariant_of-self : goal.invariant_of-self
invariant_of-self c =
    let i = c.self.inside in
    let line : List Stamped = steps_in i.journal.items i.line.items in
    let k : ℕ = i.cursor - 1 in
    let count : i.cursor ≡ suc k = let h : 0 < i.cursor = subst (λ v. 0 < v.cursor) (sym c.self.view_is) c.requires in omega (arith, h) in
    let P : ℕ → Type 0 = λ n. IsLine line n i.last i.machine.sizes i.machine.tables i.tape.steps i.tape.current in
    record {
      placed = c.self.invariant.placed;
      line = same-line line k i.last _ _ _ _ _ _ _ _ c.back.ensures.sizes c.back.ensures.tables c.back.ensures.steps c.back.ensures.current
          (undo-line line k i.last i.machine.sizes i.machine.tables i.tape.steps i.tape.current (subst P count c.self.invariant.line));
    }

pub returns-clause-lengths : goal.returns-clause-lengths
returns-clause-lengths c =
    let i = c.self.inside in
    let k : ℕ = i.cursor - 1 in
    ap (map length) c.back.ensures.steps
    ∙ map-set_same length i.tape.steps k (back_left (step_at i.tape.steps k) i.machine.tables) [] (length-back_left (step_at i.tape.steps k) i.machine.tables)
    ∙ ap (λ v. v.lengths) c.self.view_is
