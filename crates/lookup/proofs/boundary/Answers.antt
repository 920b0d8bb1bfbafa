-- `lookup::boundary` meets its contract: the table is sorted. Assumes nothing.
use native.Mathlib.Omega.{arith}
use Rattle.lookup.proofs.Laws.{sorted-search}
use Rattle.lookup.proofs.boundary.Goals as goal

pub row_of-requires : goal.row_of-requires
row_of-requires c = sorted-search 4096 5 c.args.boundaries.now c.requires (omega arith)
