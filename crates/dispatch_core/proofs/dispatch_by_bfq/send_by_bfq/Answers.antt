use Rattle.std.proofs.Common.{List, sym, subst}
use Rattle.change_record.specs.declared.change.Change.{Change}
use Rattle.change_record.specs.Trail.{IsTrail}
use Rattle.dispatch_core.proofs.dispatch_by_bfq.send_by_bfq.Goals as goal

pub returns-in-Ok-clause-trail : goal.returns-in-Ok-clause-trail
returns-in-Ok-clause-trail c = λ origin h.
    let R : List Change → Type 0 = λ changes. IsTrail changes c.args.parts.now.tables origin in
    c.serve.ensures.trail origin (subst R (sym c.reserve.ensures.current) h)
