use Rattle.std.proofs.Common.{arith, refl}
use Rattle.host_core.proofs.Rows.{changes-set, ready-at}
use Rattle.host_core.proofs.Same.{each-set}
use Rattle.host_core.proofs.row.visit_row.Goals as goal

pub visit_seat-requires-clause-ready : goal.visit_seat-requires-clause-ready
visit_seat-requires-clause-ready g c = ready-at _ c.args.desks.now.items c.args.place c.index_mut.result.now (omega (arith, c.requires.within, c.args.desks.now.ok.0)) c.index_mut.ensures.value c.requires.ready

pub visit_seat-requires-clause-rule : goal.visit_seat-requires-clause-rule
visit_seat-requires-clause-rule g c = c.requires.rule c.index_mut.result.now.number

pub returns-clause-visited : goal.returns-clause-visited
returns-clause-visited g c = changes-set _ _ c.args.desks.now.items _ c.args.place c.index_mut.result.now c.visit_seat.new.desk (omega (arith, c.requires.within, c.args.desks.now.ok.0)) c.index_mut.ensures.value refl c.visit_seat.ensures.visited

pub returns-clause-desks : goal.returns-clause-desks
returns-clause-desks g c = each-set c.args.desks.now.items _ c.args.place c.index_mut.result.now c.visit_seat.new.desk (omega (arith, c.requires.within, c.args.desks.now.ok.0)) c.index_mut.ensures.value refl c.visit_seat.ensures.desk
