-- `lookup::stop_line` meets its contract: the table is sorted. Assumes nothing.
use native.Mathlib.Omega.{arith}
use Rattle.lookup.proofs.Laws.{sorted-search}
use Rattle.lookup.proofs.stop_line.Goals as goal

pub row_of-requires : goal.row_of-requires
row_of-requires c = sorted-search 512 4 c.args.stops.now c.requires (omega arith)
