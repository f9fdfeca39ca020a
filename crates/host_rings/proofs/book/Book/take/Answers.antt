use Rattle.dispatch_core.specs.Running.{plain_of}
use Rattle.host_rings.proofs.TakeRules.{take-held, take-stranger, take-best}
use Rattle.host_rings.proofs.book.Book.take.Goals as goal

pub returns-then-held : goal.returns-then-held
returns-then-held c = take-held _ c.view-view.result.state c.args.own c.args.worker c.args.lasts.now c.held.result c.view-view.ensures.state c.held.ensures
    (assumption)

pub returns-then-worker-own : goal.returns-then-worker-own
returns-then-worker-own c = take-stranger _ c.view-view.result.state c.args.own c.args.worker c.args.lasts.now c.held.result c.view-view.ensures.state c.held.ensures
    (assumption) c.if-worker-own.true

pub returns : goal.returns
returns c = take-best _ c.view-view.result.state c.args.own c.args.worker c.args.lasts.now c.held.result c.view-view.ensures.state c.held.ensures
    c.from.result (plain_of c.machine.result) c.take_work.result c.answer_of.result (assumption) c.if-worker-own.false c.from.ensures c.machine.ensures.shown
    (c.take_work.ensures _ c.machine.ensures.well) c.answer_of.ensures
