-- `merge_points::rows_sum` meets its contract. The invariant: what is counted are the counts of the rows before i, whatever they are. Assumes nothing.
use Rattle.std.proofs.Common.{ℕ, ◌≡◌, ◌+◌, ◌*◌, ◌≤◌, ◌<◌, List, length, arith, drop}
use native.Mathlib.Nat.{mul-le-mul}
use lib.ListN.{length-drop}
use lib.Seq.{length-take-le}
use Rattle.std.specs.Fn.{FnReturnsAt}
use Rattle.tables.specs.View.{word}
use Rattle.lookup.specs.Lookup.{row_at}
use Rattle.room.proofs.Sums.{sum-turns, sum-ends, row-lent}
use Rattle.merge_points.proofs.rows_sum.Given as given
use Rattle.merge_points.proofs.rows_sum.Goals as goal

-- row i lies in the table, and has s words
row-length : (s : ℕ) (t : List ℕ) (i : ℕ) → i < word 0 t → 1 + word 0 t * s ≤ length t → length (row_at s t i) ≡ s
row-length s t i k h =
    let m : i + 1 ≤ word 0 t = omega arith in
    let l : s ≤ s = omega arith in
    let e : (i + 1) * s ≤ word 0 t * s = mul-le-mul m l in
    length-take-le s (drop (1 + i * s) t) (rw length-drop (omega (arith, e)))

-- what the call gave for row i
called : (g : given.Over) (c : goal.After-counts-sum g) → FnReturnsAt g.F.Fn c.args.counts (row_at c.args.row c.args.t.now c.loop-i.i) c.counts-sum.result
called g c = record { shown = _; shows = row-lent c.args.row c.args.t.now c.loop-i.i; says = record { met = c.counts-sum.ensures } }

few : (g : given.Over) (c : goal.After-counts-sum g) → c.counts-sum.result ≤ 512
few g c = c.requires.few c.loop-i.i c.loop-i-test.true c.counts-sum.result (called g c)

pub overflow_add-sum : goal.overflow_add-sum
overflow_add-sum g c = omega (arith, few g c)

pub loop-i-preserved : goal.loop-i-preserved
loop-i-preserved g c =
    let a = c.args in
    let l = c.loop-i in
    let k = c.loop-i-test.true in (
      omega arith,
      omega (arith, few g c),
      λ h tells. sum-turns a.row h a.t.now 512 l.i l.sum (l.invariant.2 h tells) c.counts-sum.result k (tells (row_at a.row a.t.now l.i) c.counts-sum.result (row-length a.row a.t.now l.i k c.requires.room.1) (called g c)) (few g c),
    )

pub returns-clause-sum : goal.returns-clause-sum
returns-clause-sum g c h tells = sum-ends c.args.row h c.args.t.now 512 c.loop-i.i c.loop-i.sum (c.loop-i.invariant.2 h tells) c.loop-i-test.false
