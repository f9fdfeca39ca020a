use Rattle.std.proofs.Common.{◌≡◌, ℕ, suc, ◌+◌, ◌<◌, ◌%◌, ◌^◌, List, [], length, get_or, sym, ap, ◌∙◌, subst, arith, map}
use Rattle.std.proofs.Math.Seq.{map-set_same}
use Rattle.std.proofs.lemmas.List.{get_or-map}
use Rattle.change_record.specs.Tape.{step_at, TakesBack}
use Rattle.history.specs.Roll.{Line}
use Rattle.change_record.specs.Exchange.{forth_left}
use Rattle.change_record.proofs.Exchanges.{length-forth_left}
use Rattle.history.proofs.Ways.{same-line, redo-line, next-waits}
use Rattle.plain.specs.declared.call.Stamped.{Stamped}
use Rattle.history.specs.Places.{steps_in}
use Rattle.history.specs.Line.{IsLine}
use Rattle.history.proofs.roll.Roll.redo.Goals as goal

pub forth-requires-clause-there : goal.forth-requires-clause-there
forth-requires-clause-there c =
    let i = c.self.inside in
    let line : List Stamped = steps_in i.journal.items i.line.items in
    let lt : i.cursor < length line = subst (λ v. v.cursor < length v.steps) (sym c.self.view_is) c.requires in
    let even = c.self.invariant.line.even in
    omega (arith, lt, even)

pub forth-requires-clause-puts : goal.forth-requires-clause-puts
forth-requires-clause-puts c =
    let i = c.self.inside in
    let line : List Stamped = steps_in i.journal.items i.line.items in
    let lt : i.cursor < length line = subst (λ v. v.cursor < length v.steps) (sym c.self.view_is) c.requires in
    (next-waits line i.cursor i.last i.machine.sizes i.machine.tables i.tape.steps i.tape.current lt c.self.invariant.line).puts

pub invariant_of-self : goal.invariant_of-self
invariant_of-self c =
    let i = c.self.inside in
    let line : List Stamped = steps_in i.journal.items i.line.items in
    let lt : i.cursor < length line = subst (λ v. v.cursor < length v.steps) (sym c.self.view_is) c.requires in
    let P : ℕ → Type 0 = λ n. IsLine line n i.last c.forth.new.self.sizes c.forth.new.self.tables c.forth.new.tape.steps c.forth.new.tape.current in
    let e = c.in-Ok.ensures in
    record {
      placed = c.self.invariant.placed;
      line = subst P (omega arith) (same-line line (suc i.cursor) i.last _ _ _ _ _ _ _ _ e.sizes e.tables e.steps e.current
          (redo-line line i.cursor i.last i.machine.sizes i.machine.tables i.tape.steps i.tape.current lt c.self.invariant.line));
    }

pub returns-in-Ok-clause-lengths : goal.returns-in-Ok-clause-lengths
returns-in-Ok-clause-lengths c =
    let i = c.self.inside in
    let k : ℕ = i.cursor in
    ap (map length) c.in-Ok.ensures.steps
    ∙ map-set_same length i.tape.steps k (forth_left (step_at i.tape.steps k) i.machine.tables) [] (length-forth_left (step_at i.tape.steps k) i.machine.tables)
    ∙ ap (λ v. v.lengths) c.self.view_is

pub invariant_of-self-in-Err : goal.invariant_of-self-in-Err
invariant_of-self-in-Err c =
    let i = c.self.inside in
    let e = c.in-Err.ensures in
    record {
      placed = c.self.invariant.placed;
      line = same-line (steps_in i.journal.items i.line.items) i.cursor i.last _ _ _ _ _ _ _ _ e.sizes e.err e.kept e.current c.self.invariant.line;
    }

pub returns-in-Err-clause-lengths : goal.returns-in-Err-clause-lengths
returns-in-Err-clause-lengths c = ap (map length) c.in-Err.ensures.kept ∙ ap (λ v. v.lengths) c.self.view_is

pub returns-in-Ok-clause-turns : goal.returns-in-Ok-clause-turns
returns-in-Ok-clause-turns c =
    let i = c.self.inside in
    let line : List Stamped = steps_in i.journal.items i.line.items in
    let lt : i.cursor < length line = subst (λ v. v.cursor < length v.steps) (sym c.self.view_is) c.requires in
    let even = c.self.invariant.line.even in
    c.in-Ok.ensures.turns
    ∙ ap (λ n. (i.machine.turns + n) % 2 ^ 64) (sym (get_or-map length i.tape.steps i.cursor [] 0 (omega (arith, lt, even))))
    ∙ ap (λ v. (v.turns + get_or v.lengths v.cursor 0) % 2 ^ 64) c.self.view_is

pub returns-in-Err-clause-turned_back : goal.returns-in-Err-clause-turned_back
returns-in-Err-clause-turned_back c =
    let i = c.self.inside in
    let line : List Stamped = steps_in i.journal.items i.line.items in
    let lt : i.cursor < length line = subst (λ v. v.cursor < length v.steps) (sym c.self.view_is) c.requires in
    let even = c.self.invariant.line.even in
    let here : length (step_at i.tape.steps i.cursor) ≡ get_or (map length i.tape.steps) i.cursor 0 =
    sym (get_or-map length i.tape.steps i.cursor [] 0 (omega (arith, lt, even))) in
    let P : ℕ → Type 0 = λ n. TakesBack i.machine.turns n c.forth.new.self.turns in
    let Q : Line → Type 0 = λ v. TakesBack v.turns (get_or v.lengths v.cursor 0) c.forth.new.self.turns in
    subst Q c.self.view_is (subst P here c.in-Err.ensures.turned_back)
