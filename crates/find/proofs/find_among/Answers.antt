-- `find::find_among` meets its contract. The invariant: the keys before the rows that are left are smaller than the id, and those behind them larger.
use mathlib.Core.List.{List}
use mathlib.Core.Path.{◌≡◌, refl, sym, ◌∙◌}
use Prim.Native.Nat.{ℕ, ◌+◌, ◌*◌, ◌/◌, ◌<◌}
use native.Mathlib.Omega.{arith}
use lib.ListN.{length, get_or}
use Rattle.lists.specs.Rows.{keys}
use Rattle.lists.proofs.Rows.{row-start, length-keys, key-at, upper-half, lower-half, last_row, no_row}
use Rattle.find.proofs.find_among.Goals as goal
use Rattle.find.proofs.find_among.Lts as lts
use Rattle.find.proofs.find_among.Reads as reads

abbrev AtStart : Type 0
AtStart = lts.Start reads.Pre reads.Post goal.the-invariant-loop-left goal.the-decreases-loop-left

abbrev AtInLoopLeft : Type 0
AtInLoopLeft = lts.In-loop reads.Pre reads.Post goal.the-invariant-loop-left goal.the-decreases-loop-left

abbrev AtAfterLoopLeft : Type 0
AtAfterLoopLeft = lts.After-loop reads.Pre reads.Post goal.the-invariant-loop-left goal.the-decreases-loop-left

abbrev ks : (c : AtStart) → List ℕ
ks c = keys c.args.s c.args.n c.args.rows.now

many : (c : AtStart) → length (ks c) ≡ c.args.n
many c = length-keys c.args.s c.args.n c.args.rows.now

-- a row of the table starts within the slice, and its first word is its key
starts : (c : AtStart) (i : ℕ) → i < c.args.n → i * c.args.s < length c.args.rows.now
starts c i l = row-start i c.args.n c.args.s (length c.args.rows.now) c.requires.0 c.requires.1.0 l

key : (c : AtStart) (i : ℕ) → i < c.args.n → get_or (ks c) i 0 ≡ get_or c.args.rows.now (i * c.args.s) 0
key c i l = key-at c.args.s c.args.n i c.args.rows.now c.requires.0 l

-- in a turn: the first row of the upper half
abbrev middle : (c : AtInLoopLeft) → ℕ
middle c = c.loop-left.low + c.loop-left.left / 2

within : (c : AtInLoopLeft) → middle c < c.args.n
within c = omega (arith, many c.before.before, c.loop-left.invariant.1.0, c.loop-left-test.true)

-- after the loop: the row that is left
last : (c : AtAfterLoopLeft) → c.loop-left.low < c.args.n
last c = omega (arith, many c.before.before, c.loop-left.invariant.0, c.loop-left.invariant.1.0)

pub overflow_add-low : goal.overflow_add-low
overflow_add-low c = omega (arith, starts c.before.before.before (middle c.before) (within c.before), within c.before)

pub overflow_mul-low : goal.overflow_mul-low
overflow_mul-low c = omega (arith, starts c.before.before.before (middle c.before) (within c.before))

pub offset_bounds-rows-low : goal.offset_bounds-rows-low
offset_bounds-rows-low c = omega (arith, starts c.before.before.before (middle c.before) (within c.before))

pub bounds-rows-low : goal.bounds-rows-low
bounds-rows-low c = starts c.before.before.before.before (middle c.before.before) (within c.before.before)

pub overflow_add-low-then-rows-low : goal.overflow_add-low-then-rows-low
overflow_add-low-then-rows-low c = omega (arith, within c.before.before.before)

pub loop-left-preserved : goal.loop-left-preserved
loop-left-preserved c =
    let t = c.before.before.before in
    let b = t.before.before in
    let l = t.loop-left in
    let k = key b (middle t) (within t) in
    elim c.if-rows-low.branch [
      | goal.then-rows-low w ↦ rw w.low-is (upper-half (ks b) b.requires.1.1.0 b.args.id l.low l.left (l.left / 2) l.invariant refl t.loop-left-test.true (rw k w.if-rows-low.true))
      | goal.else-rows-low w ↦ rw w.low-is (lower-half (ks b) b.requires.1.1.0 b.args.id l.low l.left (l.left / 2) l.invariant refl t.loop-left-test.true (rw k (omega (arith, w.if-rows-low.false))))
    ]

pub overflow_mul-low-2 : goal.overflow_mul-low-2
overflow_mul-low-2 c = omega (arith, starts c.before.before.before c.loop-left.low (last c.before))

pub offset_bounds-rows-low-2 : goal.offset_bounds-rows-low-2
offset_bounds-rows-low-2 c = omega (arith, starts c.before.before.before c.loop-left.low (last c.before))

pub bounds-rows-low-2 : goal.bounds-rows-low-2
bounds-rows-low-2 c = starts c.before.before.before.before c.loop-left.low (last c.before.before)

pub returns-then-rows-low-2 : goal.returns-then-rows-low-2
returns-then-rows-low-2 c =
    let t = c.before.before.before in
    let b = t.before.before in
    let l = t.loop-left in
    sym (last_row (ks b) b.requires.1.1.0 b.args.id l.low l.left l.invariant (omega (arith, t.loop-left-test.false)) (key b l.low (last t) ∙ c.if-rows-low-2.true))

pub returns : goal.returns
returns c =
    let t = c.before.before.before in
    let b = t.before.before in
    let l = t.loop-left in
    sym (no_row (ks b) b.args.id l.low l.left l.invariant (omega (arith, t.loop-left-test.false)) (λ e. c.if-rows-low-2.false (sym (key b l.low (last t)) ∙ e)))
