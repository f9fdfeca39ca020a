use Rattle.std.proofs.Common.{◌≡◌, sym, subst, ap, arith}
use Rattle.sector_core.specs.declared.config.Scheduler.TheVariants.{Bfq as ByBfq}
use Rattle.change_record.specs.declared.change.Making.{Making}
use Rattle.change_record.specs.Tables.{Tables, Loose, empty_tables}
use Rattle.change_record.specs.Machine.{bfq_of}
use Rattle.bfq_select.specs.Service.{IsSized, IsBounded}
use Rattle.table_tests.proofs.Opening.{sized_opening, bounded_opening}
use Rattle.table_tests.proofs.host.Host.new.Goals as goal

pub invariant_of-result : goal.invariant_of-result
invariant_of-result c =
    let making : Making = record { requests = 4; tags = 2; scheduler = ByBfq; first_budget = 1024; max_budget = 4096; first_vtime = 0 } in
    let opened : c.in_ok-parts.parts.tables ≡ empty_tables making = ap (λ (p : Loose). p.tables) c.in_ok-parts.ensures in
    record {
      sized = subst IsSized (sym opened) (sized_opening making);
      bounded = subst (λ (t : Tables). IsBounded (bfq_of t)) (sym opened) (bounded_opening making (omega arith) (omega arith) (omega arith) (omega arith) (omega arith));
    }
