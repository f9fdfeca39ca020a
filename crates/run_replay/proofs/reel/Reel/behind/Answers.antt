use Rattle.run_replay.proofs.Reading.{cut_line}
use Rattle.run_replay.proofs.reel.Reel.behind.Goals as goal

pub returns-clause-read : goal.returns-clause-read
returns-clause-read c =
    record {
      stream = c.split_at.result.1.now;
      whole = cut_line c.args.held.now c.split_at.result.0.now c.split_at.result.1.now _ c.args.size c.split_at.ensures.front c.split_at.ensures.back c.in-Ok.ensures.text;
      come = c.in-Ok-feed.ensures.came _ _ c.new-feeder.ensures.none_came;
    }
