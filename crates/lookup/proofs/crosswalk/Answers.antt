-- `lookup::crosswalk` meets its contract: the table is sorted. Assumes nothing.
use native.Mathlib.Omega.{arith}
use Rattle.lookup.proofs.Laws.{sorted-search}
use Rattle.lookup.proofs.crosswalk.Goals as goal

pub row_of-requires : goal.row_of-requires
row_of-requires c = sorted-search 128 7 c.args.crosswalks.now c.requires (omega arith)
