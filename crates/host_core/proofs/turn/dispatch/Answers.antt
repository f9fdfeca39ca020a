use Rattle.host_core.proofs.turn.dispatch.Goals as goal

pub returns-clause-dispatch : goal.returns-clause-dispatch
returns-clause-dispatch g c = let judged = c.judge-answer.ensures in (
  record {
    answer = c.judge-answer.result;
    allows = judged.allows;
    entries = judged.entries;
    limits = judged.limits;
    most = judged.most;
    told = c.was_accepted.ensures;
  },
  c.was_starved.ensures,
)
