use Rattle.std.proofs.Common.{◌≡◌, ◌+◌, ◌++◌, length, take, drop, set, sym, ◌∙◌, ap, arith, length-append, length-take-le, length-set}
use Rattle.std.proofs.lemmas.List.{take-append-drop}
use Rattle.change_record.specs.Exchange.{forth_left}
use Rattle.change_record.proofs.Exchanges.{length-forth_left}
use Rattle.change_record.proofs.Walk.{forth_tables-at, forth_left-at, fits_next, fits_before, tables_before, changes_before}
use Rattle.change_record.proofs.turns.turn_forth.Goals as goal

pub turn_back-requires : goal.turn_back-requires
turn_back-requires c =
    fits_before c.args.changes.now c.loop-i.changes c.loop-i.i c.index-changes-i.result c.turn.new.change c.args.parts.now.tables c.turn.new.self.tables
    c.loop-i-test.true c.requires c.loop-i.invariant.changes c.in-Err.ensures.handed_back (ap (λ p. p.tables) c.in-Err.ensures.err ∙ c.loop-i.invariant.tables)

pub returns-in-Err-clause-err : goal.returns-in-Err-clause-err
returns-in-Err-clause-err c =
    c.turn_back.ensures.tables
    ∙ tables_before c.args.changes.now c.loop-i.changes c.loop-i.i c.index-changes-i.result c.turn.new.change c.args.parts.now.tables c.turn.new.self.tables
    c.loop-i-test.true c.loop-i.invariant.changes c.in-Err.ensures.handed_back (ap (λ p. p.tables) c.in-Err.ensures.err ∙ c.loop-i.invariant.tables)

pub returns-in-Err-clause-handed_back : goal.returns-in-Err-clause-handed_back
returns-in-Err-clause-handed_back c =
    ap (λ l. l ++ drop c.loop-i.i (set c.loop-i.changes c.loop-i.i c.turn.new.change)) c.turn_back.ensures.left
    ∙ changes_before c.args.changes.now c.loop-i.changes c.loop-i.i c.index-changes-i.result c.turn.new.change c.args.parts.now.tables c.turn.new.self.tables
    c.loop-i-test.true c.loop-i.invariant.changes c.in-Err.ensures.handed_back (ap (λ p. p.tables) c.in-Err.ensures.err ∙ c.loop-i.invariant.tables)

pub returns-in-Err-clause-fits : goal.returns-in-Err-clause-fits
returns-in-Err-clause-fits c = λ fits.
    c.in-Err.ensures.fits
    (fits_next c.args.changes.now c.loop-i.changes c.loop-i.i c.index-changes-i.result c.args.parts.now.tables c.loop-i.parts.tables
    c.loop-i-test.true c.loop-i.invariant.changes c.loop-i.invariant.tables fits)

pub loop-i-preserved : goal.loop-i-preserved
loop-i-preserved c = record {
  tables = forth_tables-at c.args.changes.now c.loop-i.changes c.loop-i.i c.index-changes-i.result c.args.parts.now.tables c.loop-i.parts.tables c.turn.new.self.tables
      c.loop-i-test.true c.loop-i.invariant.changes c.loop-i.invariant.tables c.in-Ok.ensures.tables;
  changes = forth_left-at c.args.changes.now c.loop-i.changes c.loop-i.i c.index-changes-i.result c.turn.new.change c.args.parts.now.tables c.loop-i.parts.tables
      c.loop-i-test.true c.loop-i.invariant.changes c.loop-i.invariant.tables c.in-Ok.ensures.left;
  turns = omega (arith, c.in-Ok.ensures.turns, c.loop-i.invariant.turns);
}

pub returns-in-Err-clause-turned_back : goal.returns-in-Err-clause-turned_back
returns-in-Err-clause-turned_back c =
    let cs = c.args.changes.now in
    let i = c.loop-i.i in
    let t = c.args.parts.now.tables in
    let inv = c.loop-i.invariant in
    let long : length c.loop-i.changes ≡ length cs =
    ap length inv.changes ∙ length-append (forth_left (take i cs) t) (drop i cs) ∙ ap (λ n. n + length (drop i cs)) (length-forth_left (take i cs) t)
    ∙ sym (length-append (take i cs) (drop i cs)) ∙ ap length (take-append-drop i cs) in
    let lt = c.loop-i-test.true in
    let set_long = length-set c.loop-i.changes i c.turn.new.change in
    let back : length (take i (set c.loop-i.changes i c.turn.new.change)) ≡ i = length-take-le i (set c.loop-i.changes i c.turn.new.change) (omega (arith, lt, set_long)) in
    let refused = ap (λ p. p.turns) c.in-Err.ensures.err in
    let turned = c.turn_back.ensures.turns in
    let made = inv.turns in
    (i, omega (arith, lt, long), omega (arith, refused, turned, made, back))
