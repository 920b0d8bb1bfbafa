-- `split_pieces::mark_cut` meets its contract. The invariant: the boundaries of the marked lanes before row j are marked. Assumes nothing.
use mathlib.Core.Path.{◌≡◌, refl, ap, ◌∙◌}
use mathlib.Core.Logic.{⊎_elim}
use Prim.Native.Nat.{◌-◌, ◌≤◌}
use native.Mathlib.Omega.{arith}
use lib.ListN.{length}
use Rattle.rules.specs.Names.{Left, Right}
use Rattle.tables.specs.View.{word}
use Rattle.lookup.proofs.Laws.{sorted-room, sorted-few}
use Rattle.split_pieces.proofs.Marks.{Marked, mark-begins, mark-none, mark-one, mark-ends, side-length}
use Rattle.split_pieces.proofs.mark_cut.Given as goal

abbrev pub invariant-loop-j : goal.invariant-loop-j
invariant-loop-j l = (l.j ≤ word 0 l.lanes) × ((length l.marks ≡ length l.initial.marks) × Marked l.seen l.lanes l.boundaries l.initial.marks l.marks l.j)
