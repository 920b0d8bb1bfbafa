-- `link_tests::ends_met` meets its contract. The invariant: the cursors are the counts where those from j on are. Assumes nothing.
use mathlib.Core.Path.{◌≡◌, refl, sym, ◌∙◌}
use Prim.Native.Nat.{◌+◌, ◌*◌, ◌≤◌, ◌<◌}
use native.Mathlib.Omega.{arith}
use lib.ListN.{length, get_or, drop}
use lib.Dec.{eqb}
use mathlib.Core.Bool.{◌&&◌}
use borrow.Author.Tests.{eq-eqb, ne_eqb}
use Rattle.lists.specs.Select.{same_numbers}
use Rattle.tables.specs.View.{word, rows}
use Rattle.row_tests.proofs.Lanes.{lane_room}
use Rattle.link_tests.proofs.Steps.{same_step, same_end, counts-many, count_at}
use Rattle.link_tests.proofs.ends_met.Goals as goal
use Rattle.link_tests.proofs.ends_met.Lts as lts
use Rattle.link_tests.proofs.ends_met.Reads as reads

abbrev AtInLoopJ : Type 0
AtInLoopJ = lts.In-loop reads.Pre reads.Post goal.the-invariant-loop-j goal.the-decreases-loop-j

below : (c : AtInLoopJ) → c.loop-j.j < word 0 c.args.t.now
below c = omega (arith, c.loop-j-test.true, c.requires.1)

-- the row lies in the table
row_in : (c : AtInLoopJ) → 1 + c.loop-j.j * 52 + 52 ≤ length c.args.t.now
row_in c = lane_room c.args.t.now c.requires.0 c.loop-j.j (below c)

-- one cursor beside its count
turn : (c : AtInLoopJ)
    → let m = c.args.met.now in
    let t = c.args.t.now in
    let j = c.loop-j.j in
    same_numbers (drop j m) (drop j (rows 52 (word 18) t)) ≡ (eqb (get_or m j 0) (get_or t (1 + j * 52 + 18) 0) && same_numbers (drop (j + 1) m) (drop (j + 1) (rows 52 (word 18) t)))
turn c =
    let t = c.args.t.now in
    let j = c.loop-j.j in
    let n : j < length (rows 52 (word 18) t) = rw (counts-many t) (below c) in
    rw (← count_at t j (below c)) (same_step c.args.met.now (rows 52 (word 18) t) j c.loop-j-test.true n)

pub loop-j-init : goal.loop-j-init
loop-j-init c = (omega arith, refl)

pub overflow_cast-met : goal.overflow_cast-met
overflow_cast-met c = omega (arith, c.shared_slice_known-1.given c.loop-j.j)

pub overflow_mul-j : goal.overflow_mul-j
overflow_mul-j c = omega (arith, row_in c.before.before)

pub overflow_add-j : goal.overflow_add-j
overflow_add-j c = omega (arith, row_in c.before.before)

pub overflow_add-j-in-loop-j : goal.overflow_add-j-in-loop-j
overflow_add-j-in-loop-j c = omega (arith, row_in c.before.before)

pub offset_bounds-t-j : goal.offset_bounds-t-j
offset_bounds-t-j c = omega (arith, row_in c.before.before)

pub bounds-t-j : goal.bounds-t-j
bounds-t-j c = omega (arith, row_in c.before.before.before)

pub loop-j-preserved : goal.loop-j-preserved
loop-j-preserved c = (omega arith, c.loop-j.invariant.1 ∙ (turn c.before.before.before.before ∙ rw (eq-eqb _ _ c.if-met-j.false)))

pub returns-then-met-j : goal.returns-then-met-j
returns-then-met-j c = sym (c.loop-j.invariant.1 ∙ (turn c.before.before.before.before ∙ rw (ne_eqb _ _ c.if-met-j.true)))

pub returns : goal.returns
returns c = let b = c.before.before in let v = c.loop-j-test.false in sym (c.loop-j.invariant.1 ∙ same_end b.args.met.now (rows 52 (word 18) b.args.t.now) c.loop-j.j (omega arith) (omega (arith, counts-many b.args.t.now, b.requires.1)))
