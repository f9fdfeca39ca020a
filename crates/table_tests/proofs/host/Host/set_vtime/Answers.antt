use Rattle.std.proofs.Common.{◌≤◌, ◌^◌, sym, subst}
use Rattle.plain.specs.declared.member.Vtimes.{Vtimes}
use Rattle.plain.specs.Classes.{time_of}
use Rattle.class_laws.proofs.Times.{same_most}
use Rattle.table_tests.proofs.Opening.{sized_timed, bounded_timed}
use Rattle.table_tests.proofs.host.Host.set_vtime.Goals as goal

pub invariant_of-self-2 : goal.invariant_of-self-2
invariant_of-self-2 c =
    let old = c.args.self.now in
    let new = c.exchange.new.parts in
    let times : Vtimes = c.same-vtimes.result in
    record {
      sized = sized_timed old.parts.tables new.tables c.args.group times c.exchange.ensures.tables old.sized;
      bounded = bounded_timed old.parts.tables new.tables c.args.group times c.exchange.ensures.tables old.bounded
          (λ class. subst (λ (x : Vtimes). time_of x class ≤ 2 ^ 62) (sym c.same-vtimes.ensures) (same_most c.args.vtime (2 ^ 62) c.requires.vtime class));
    }
