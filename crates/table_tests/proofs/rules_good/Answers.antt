-- `rules_good` meets its contract. Assumes nothing.
use Rattle.std.proofs.Common.{rules}
use Rattle.table_tests.proofs.Rows.{whole_table}
use Rattle.table_tests.proofs.rules_good.Goals as goal

pub returns : goal.returns
returns c = whole_table _ _ _ _ _ _ c.requires (λ w b l k. search rules) _ c.rows_pass.ensures
