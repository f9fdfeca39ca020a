use Rattle.std.proofs.Common.{None, Some, rules, sym, ◌∙◌, ap}
use Rattle.overlay.specs.Blocks.{exchanged}
use Rattle.overlay.proofs.Seen.{absent, shown, puts_seen}
use Rattle.overlay.proofs.Overlay.exchange.Goals as goal

pub returns-in-None-clause-ok : goal.returns-in-None-clause-ok
returns-in-None-clause-ok c =
    puts_seen _ _ c.args.sector None c.take_at.ensures.new
    ∙ ap (λ m. exchanged m c.args.sector None) c.self.view_is ∙ ap (exchanged c.args.self.now c.args.sector) (sym c.in-None.is)

pub returns-in-None-clause-old : goal.returns-in-None-clause-old
returns-in-None-clause-old c = c.take_at.ensures.old ∙ sym (shown _ _ c.self.view_is c.args.sector)

pub returns-in-Ok-clause-ok : goal.returns-in-Ok-clause-ok
returns-in-Ok-clause-ok c =
    puts_seen _ _ c.args.sector (Some c.in-Some.block) c.in-Ok.ensures.new
    ∙ ap (λ m. exchanged m c.args.sector (Some c.in-Some.block)) c.self.view_is ∙ ap (exchanged c.args.self.now c.args.sector) (sym c.in-Some.is)

pub returns-in-Ok-clause-old : goal.returns-in-Ok-clause-old
returns-in-Ok-clause-old c = c.in-Ok.ensures.old ∙ sym (shown _ _ c.self.view_is c.args.sector)

pub returns-in-Err-clause-adds : goal.returns-in-Err-clause-adds
returns-in-Err-clause-adds c = (
  shown _ _ c.self.view_is c.args.sector ∙ c.in-Err.ensures.adds,
  search rules,
)

pub returns-in-Err-clause-absent : goal.returns-in-Err-clause-absent
returns-in-Err-clause-absent c = absent _ _ _ c.self.view_is c.in-Err.ensures.absent
