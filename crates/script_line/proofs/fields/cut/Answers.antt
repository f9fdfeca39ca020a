use Rattle.script_line.proofs.Cuts.{HasNoSpace-more}
use Rattle.script_line.proofs.fields.cut.Goals as goal

pub loop-i-preserved : goal.loop-i-preserved
loop-i-preserved c = HasNoSpace-more c.args.text.now c.loop-i.i c.loop-i-test.true c.loop-i.invariant c.if-byte-eq32.false
