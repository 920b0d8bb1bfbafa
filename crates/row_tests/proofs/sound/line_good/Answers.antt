-- `map::sound::line_good` meets its contract. An empty line has no point; of any other the tests are those of the definition, and the part lent is the line's. Assumes nothing.
use mathlib.Core.Path.{◌≡◌}
use mathlib.Core.Bool.{and-false}
use Prim.Native.Nat.{◌+◌, ◌-◌, ◌*◌, ◌/◌, min}
use native.Mathlib.Omega.{arith}
use lib.ListN.{length}
use borrow.Author.Tests.{le-leb, lt-leb, ne_eqb}
use Rattle.lists.specs.Every.{all}
use Rattle.lists.specs.Rows.{reads}
use Rattle.polyline.specs.Polyline.{points}
use Rattle.tables.specs.View.{part}
use Rattle.row_tests.specs.Good.{line_good}
use Rattle.row_tests.proofs.sound.line_good.Goals as goal

pub returns-then-size-eq0 : goal.returns-then-size-eq0
unfolding line_good part points reads all
returns-then-size-eq0 c = rw c.if-size-eq0.true

pub returns-then-size-gt-LINE_POINTS : goal.returns-then-size-gt-LINE_POINTS
unfolding line_good
returns-then-size-gt-LINE_POINTS c = rw (lt-leb c.args.size 256 (omega arith), and-false)

pub returns-then-start-gt-MOST_POINTS : goal.returns-then-start-gt-MOST_POINTS
unfolding line_good
returns-then-start-gt-MOST_POINTS c =
    let a = c.args in
    rw (ne_eqb a.size 0 c.if-size-eq0.false, lt-leb (a.start + a.size) (min 65536 (length a.coordinates.now / 3)) (omega arith))

pub returns-then-start-size-gt-MOST_POINTS : goal.returns-then-start-size-gt-MOST_POINTS
unfolding line_good
returns-then-start-size-gt-MOST_POINTS c =
    let a = c.args in
    rw (ne_eqb a.size 0 c.if-size-eq0.false, lt-leb (a.start + a.size) (min 65536 (length a.coordinates.now / 3)) (omega arith))

pub returns-then-coordinates-end : goal.returns-then-coordinates-end
unfolding line_good
returns-then-coordinates-end c =
    let a = c.args in
    rw (ne_eqb a.size 0 c.if-size-eq0.false, lt-leb (a.start + a.size) (min 65536 (length a.coordinates.now / 3)) (omega arith))

pub returns : goal.returns
unfolding line_good part
returns c =
    let a = c.args in
    let e : (a.start + a.size) * 3 - a.start * 3 ≡ a.size * 3 = omega arith in
    rw (ne_eqb a.size 0 c.if-size-eq0.false, le-leb (a.start + a.size) (min 65536 (length a.coordinates.now / 3)) (omega arith), le-leb a.size 256 (omega arith), c.in_reach.ensures, e)
