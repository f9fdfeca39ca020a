-- The lemma of each goal by name: a search over so many facts finds it late.
use Rattle.std.proofs.Common.{ℕ, ◌<◌, length, take, subst, arith}
use Rattle.script_line.specs.Steps.{SoFar}
use Rattle.script_line.proofs.Ends.{begun_none, fed, stops_read}
use Rattle.script_line.proofs.run.run_all.Goals as goal

pub loop-count-init : goal.loop-count-init
loop-count-init g c = begun_none g.C.Console.prints _ _ _ _ c.new.ensures

pub returns-in-Err : goal.returns-in-Err
returns-in-Err g c =
    stops_read g.C.Console.prints _ _ _ _ _ _ _ _ _ _ c.loop-count.invariant c.in-Err.ensures.read c.in-Err.ensures.kept _ c.in-Err.ensures.cause

pub last_line-requires : goal.last_line-requires
last_line-requires g c = c.loop-count.invariant.room

pub returns-then-count-eq0 : goal.returns-then-count-eq0
returns-then-count-eq0 g c =
    let P : ℕ → Type 0 = λ n. SoFar g.C.Console.prints (g.R.Read.remaining c.args.reader.now) (g.R.Read.remaining c.read_flushed.new.reader)
    (g.W.Write.contents c.args.writer.now) (g.W.Write.contents c.read_flushed.new.writer) c.args.console.now c.loop-count.console
    c.loop-count.held.count c.loop-count.held.begun.items (take n c.read_flushed.new.piece) in
    let some : 0 < length c.read_flushed.new.piece = omega arith in
    c.last_line.ensures.ended _ _ _ _
    (subst P c.if-count-eq0.true (fed g.C.Console.prints _ _ _ _ _ _ _ _ _ _ _ c.loop-count.invariant c.in-Ok.ensures.kept c.in-Ok.ensures.read.0
    (let within = c.in-Ok.ensures.bound.0 in let taken = c.in-Ok.ensures.bound.1 in omega (arith, within, taken))))
    (c.in-Ok.ensures.read.1 c.if-count-eq0.true some)

pub returns-in-Some : goal.returns-in-Some
returns-in-Some g c =
    c.in-Some.ensures.taken _ _ _ _
    (fed g.C.Console.prints _ _ _ _ _ _ _ _ _ _ _ c.loop-count.invariant c.in-Ok.ensures.kept c.in-Ok.ensures.read.0
    (let within = c.in-Ok.ensures.bound.0 in let taken = c.in-Ok.ensures.bound.1 in omega (arith, within, taken)))

pub loop-count-preserved : goal.loop-count-preserved
loop-count-preserved g c =
    c.in_default.ensures.taken _ _ _ _
    (fed g.C.Console.prints _ _ _ _ _ _ _ _ _ _ _ c.loop-count.invariant c.in-Ok.ensures.kept c.in-Ok.ensures.read.0
    (let within = c.in-Ok.ensures.bound.0 in let taken = c.in-Ok.ensures.bound.1 in omega (arith, within, taken)))
