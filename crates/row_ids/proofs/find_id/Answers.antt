-- `row_ids::find_id` meets its contract: one of the two looks finds the id, or the search tells. Assumes nothing.
use native.Mathlib.Omega.{arith}
use Rattle.row_ids.proofs.Laws.{search-found}
use Rattle.row_ids.proofs.find_id.Goals as goal

pub returns-then-ids-row : goal.returns-then-ids-row
returns-then-ids-row c = let b = c.before.before.before.before.before in search-found b.args.ids.now b.args.n b.args.id b.requires.1 (omega (arith, b.well_formed.1.1.0.1)) c.guess-row.result c.guess-row.ensures c.if-ids-row.true

pub returns-then-ids-next : goal.returns-then-ids-next
returns-then-ids-next c = let b = c.before.before.before.before.before.before.before.before in search-found b.args.ids.now b.args.n b.args.id b.requires.1 (omega (arith, b.well_formed.1.1.0.1)) c.beside-next.result c.beside-next.ensures c.if-ids-next.true
