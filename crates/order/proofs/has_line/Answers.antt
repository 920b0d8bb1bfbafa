-- `order::has_line` meets its contract: of a column whose rows are marked, and of one whose rows all have a line. Assumes nothing.
use native.Mathlib.Omega.{arith}
use lib.ListN.{length}
use lib.Seq.{get_or-drop}
use Prim.Native.Nat.{◌+◌, ◌≤◌}
use Rattle.order.proofs.has_line.Goals as goal

pub bounds-t-row : goal.bounds-t-row
bounds-t-row c =
    let s = c in
    let h : s.args.row + 7 ≤ length s.args.t.now = rw c.if-marked.true at s.requires in
    omega arith

pub returns-then-marked : goal.returns-then-marked
returns-then-marked c = rw (c.if-marked.true, get_or-drop)
