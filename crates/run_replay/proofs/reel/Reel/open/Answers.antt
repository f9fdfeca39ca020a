use Rattle.std.proofs.Common.{take, subst, sym, refl, ℕ, List}
use Rattle.std.specs.Io.KnownBytes.{Consumes}
use Rattle.run_replay.proofs.Reading.{Consumes-none, Consumes-more, grown, opens}
use Rattle.run_replay.proofs.reel.Reel.open.Goals as goal

pub loop-init : goal.loop-init
loop-init g c = subst (λ (x : List ℕ). Consumes (g.R.Read.remaining c.args.reader.now) (g.R.Read.remaining c.args.reader.now) x) (sym c.new-held.ensures.items) (Consumes-none _)

pub returns-in-Some-clause-opens : goal.returns-in-Some-clause-opens
returns-in-Some-clause-opens g c = opens _ _ c.loop.held.items _ c.behind.result c.loop.invariant c.as_slice-in-Some.ensures.value c.behind.ensures.read c.behind.ensures.bad

pub loop-preserved : goal.loop-preserved
loop-preserved g c =
    let piece : List ℕ = take c.in-Ok.count c.read.new.buf in
    let held = grown c.loop.held.items c.extend_from_slice.new.self.items piece piece _ _ c.extend_from_slice.ensures.items
    c.is_err.ensures.negation c.if-is_err.false refl in
    subst (λ (x : List ℕ). Consumes (g.R.Read.remaining c.args.reader.now) (g.R.Read.remaining c.read.new.self) x) (sym held)
    (Consumes-more _ _ _ c.loop.held.items piece c.loop.invariant c.in-Ok.ensures.bytes.0)
