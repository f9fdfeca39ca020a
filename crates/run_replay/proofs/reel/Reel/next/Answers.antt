use Rattle.std.proofs.Common.{take, is_some, ap, refl, ◌∙◌}
use Rattle.run_replay.proofs.Reading.{reads_on}
use Rattle.run_replay.proofs.reel.Reel.next.Goals as goal

pub returns-in-Ok-feed-clause-goes : goal.returns-in-Ok-feed-clause-goes
returns-in-Ok-feed-clause-goes g c = (
  (take c.in-Ok.count c.read.new.buf, c.in-Ok.ensures.bytes.0, reads_on _ _ (take c.in-Ok.count c.read.new.buf) _ _ refl refl c.in-Ok-feed.ensures.came),
  c.is_some.ensures ∙ ap is_some c.in-Ok-feed.ensures.fault,
)
