-- `lists::keys_ascend` meets its contract. The invariant is that of `ascends`, of the list of keys.
use mathlib.Core.List.{List}
use mathlib.Core.Path.{◌≡◌, sym, ◌∙◌}
use Prim.Native.Nat.{ℕ, ◌-◌, ◌*◌, ◌≤◌, ◌<◌}
use native.Mathlib.Omega.{arith}
use lib.ListN.{length, get_or}
use Rattle.lists.specs.Rows.{keys}
use Rattle.lists.proofs.Select.{ascending-start, ascending-step, ascending_breaks, above-end}
use Rattle.lists.proofs.Rows.{row-start, length-keys, key-at}
use Rattle.lists.proofs.keys_ascend.Goals as goal
use Rattle.lists.proofs.keys_ascend.Lts as lts
use Rattle.lists.proofs.keys_ascend.Reads as reads

abbrev AtInLoopI : Type 0
AtInLoopI = lts.In-loop reads.Pre reads.Post goal.the-invariant-loop-i goal.the-decreases-loop-i

-- in a turn: the keys, that row i and the row before it start within the slice, and their keys
abbrev ks : (c : AtInLoopI) → List ℕ
ks c = keys c.args.s c.args.n c.args.rows.now

module _ (c : AtInLoopI) (k : ℕ) (h : k < c.args.n) where
  start : k * c.args.s < length c.args.rows.now
  start =
      let a = c.args in
      row-start k a.n a.s (length a.rows.now) c.requires.0 c.requires.1 h

  key : get_or (ks c) k 0 ≡ get_or c.args.rows.now (k * c.args.s) 0
  key = let a = c.args in key-at a.s a.n k a.rows.now c.requires.0 h

  inside : k < length (ks c)
  inside = rw length-keys h

here : (c : AtInLoopI) → c.loop-i.i * c.args.s < length c.args.rows.now
here c = start c c.loop-i.i c.loop-i-test.true

prior : (c : AtInLoopI) → (c.loop-i.i - 1) * c.args.s < length c.args.rows.now
prior c = start c (c.loop-i.i - 1) (omega arith)

pub loop-i-init : goal.loop-i-init
loop-i-init c = (omega arith, ascending-start (keys c.args.s c.args.n c.args.rows.now))

pub overflow_mul-i : goal.overflow_mul-i
overflow_mul-i c = omega (arith, here c.before)

pub offset_bounds-rows-i : goal.offset_bounds-rows-i
offset_bounds-rows-i c = omega (arith, here c.before)

pub bounds-rows-i : goal.bounds-rows-i
bounds-rows-i c = here c.before.before

pub overflow_mul-i-in-loop-i : goal.overflow_mul-i-in-loop-i
overflow_mul-i-in-loop-i c = omega (arith, prior c.before.before)

pub offset_bounds-rows-i-in-loop-i : goal.offset_bounds-rows-i-in-loop-i
offset_bounds-rows-i-in-loop-i c = omega (arith, prior c.before.before)

pub bounds-rows-i-in-loop-i : goal.bounds-rows-i-in-loop-i
bounds-rows-i-in-loop-i c = prior c.before.before.before

pub returns-then-rows-i : goal.returns-then-rows-i
returns-then-rows-i c =
    let t = c.before.before.before.before in
    let i = t.loop-i.i in
    let h = t.loop-i-test.true in
    let p : get_or (ks t) i 0 ≤ get_or (ks t) (i - 1) 0 = rw (key t i h, key t (i - 1) (omega arith)) c.if-rows-i.true in
    sym (t.loop-i.invariant.1 ∙ ascending_breaks (ks t) i (inside t i h) p)

pub loop-i-preserved : goal.loop-i-preserved
loop-i-preserved c =
    let t = c.before.before.before.before in
    let i = t.loop-i.i in
    let h = t.loop-i-test.true in
    let p : get_or (ks t) (i - 1) 0 < get_or (ks t) i 0 = rw (key t i h, key t (i - 1) (omega arith)) c.if-rows-i.false in
    (omega arith, t.loop-i.invariant.1 ∙ ascending-step (ks t) i (inside t i h) p)

pub returns : goal.returns
returns c =
    let rows = c.args.rows.now in
    let s = c.args.s in
    let n = c.args.n in
    let i = c.loop-i.i in
    let l : length (keys s n rows) ≤ i = omega (arith, length-keys s n rows) in
    sym (c.loop-i.invariant.1 ∙ above-end (get_or (keys s n rows) (i - 1) 0) (keys s n rows) i l)
