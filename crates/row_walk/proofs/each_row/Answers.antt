-- `row_walk::each_row` meets its contract. The invariant: the first i rows are changed, whatever the change, and the others as they were. Assumes nothing.
use Rattle.std.proofs.Common.{◌≡◌, ℕ, ◌+◌, ◌*◌, ◌<◌, ◌≤◌, length, take, arith, refl, sym, ◌∙◌, ap}
use native.Mathlib.Nat.{mul-le-mul}
use Rattle.store.specs.Rows.{map_rows, on_rows}
use Rattle.tables.specs.View.{word}
use Rattle.lookup.specs.Lookup.{row_at}
use Rattle.row_tests.proofs.Tables.{row_of}
use Rattle.mentions.proofs.Turns.{row-there}
use Rattle.row_walk.proofs.Turning.{turned_turn, turned-all}
use Rattle.row_walk.proofs.Behind.{behind_turn, long_turn}
use Rattle.row_walk.proofs.each_row.Goals as goal

-- row i lies in the table
room : (s n i : ℕ) → i < n → 1 + i * s + s ≤ 1 + n * s
room s n i k =
    let m : i + 1 ≤ n = omega arith in
    let l : s ≤ s = omega arith in
    let e : (i + 1) * s ≤ n * s = mul-le-mul m l in
    omega (arith, e)

pub loop-i-preserved : goal.loop-i-preserved
unfolding map_rows
loop-i-preserved g c =
    let l = c.loop-i in
    let s = c.args.row in
    let v = c.change.new.arg2 in
    let there : 1 + l.i * s + s ≤ length l.t = omega (arith, l.invariant.1, c.requires.room, room s (word 0 c.args.t.now) l.i c.loop-i-test.true) in
    let row : row_of s l.t l.i ≡ row_at s c.args.t.now l.i = row-there s l.t l.i ∙ ap (take s) l.invariant.2 in (
      omega (arith, c.loop-i-test.true),
      long_turn s c.args.t.now l.t l.i l.invariant.2 there v c.change.auto.arg2 ∙ l.invariant.1,
      behind_turn s c.args.t.now l.t l.i l.invariant.2 there v c.change.auto.arg2,
      λ h tells.
          let e : v ≡ h (row_at s c.args.t.now l.i) = tells l.i c.loop-i-test.true _ _ row c.change.ensures in
          turned_turn s (λ j n w. map_rows s h n w) c.args.t.now l.t l.i (l.invariant.3 h tells) (λ j w. h w) (λ n w. refl) c.loop-i-test.true there v c.change.auto.arg2 (e ∙ ap h (sym row)),
    )

pub returns : goal.returns
unfolding on_rows map_rows
returns g c h tells =
    turned-all c.args.row (λ j n w. map_rows c.args.row h n w) c.args.t.now c.loop-i.t c.loop-i.i (c.loop-i.invariant.3 h tells) (λ w. refl) c.loop-i-test.false
