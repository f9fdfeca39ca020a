use Rattle.change_record.proofs.Exchanges.{back_tables-forth, back_left-forth, forth_tables-back, forth_left-back}
use Rattle.change_record.proofs.laws.back_leads_forth.Goals as goal

pub returns : goal.returns
returns c = λ t cs. record {
  tables = forth_tables-back cs t;
  changes = forth_left-back cs t;
  tables_back = back_tables-forth cs t;
  changes_back = back_left-forth cs t;
}
