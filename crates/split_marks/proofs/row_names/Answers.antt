-- `split_marks::row_names` meets its contract: the list is lent as its part of the table. Assumes nothing.
use Rattle.split_marks.proofs.Marks.{names-lent}
use Prim.Native.Nat.{◌+◌}
use mathlib.Core.Path.{refl}
use lib.ListN.{get_or}
use Rattle.split_marks.proofs.row_names.Goals as goal

pub returns : goal.returns
returns c = let a = c.args in names-lent a.cut.now a.t.now (a.row + a.k) (get_or a.t.now (a.row + a.k) 0) refl c.names_cut.result c.names_cut.ensures
