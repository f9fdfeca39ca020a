use Rattle.std.proofs.Common.{take}
use Rattle.plain.specs.Headline.{MayRun}
use Rattle.history.specs.Turns.{KeptRun}
use Rattle.history.proofs.keeper.Keeper.run.Given as goal

abbrev pub invariant-loop-made : goal.invariant-loop-made
invariant-loop-made l = record {
  run : MayRun l.fn.self.state (take l.made l.calls) l.answers.items l.self.state;
  kept : KeptRun l.fn.self (take l.made l.calls) l.answers.items l.self;
}
