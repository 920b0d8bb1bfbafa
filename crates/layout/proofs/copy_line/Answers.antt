-- `layout::copy_line` meets its contract: of a line with no point, of one among the drawn lines, and of one that begins before `reach`. Assumes nothing.
use native.Mathlib.Omega.{arith}
use Prim.Native.Nat.{◌*◌}
use Rattle.layout.specs.Layout.{sourced}
use Rattle.layout.proofs.Laws.{line-none}
use Rattle.layout.proofs.Sourced.{sourced-room, drawn-written, both-written}
use Rattle.layout.proofs.copy_line.Goals as goal

pub returns-then-size-eq0 : goal.returns-then-size-eq0
returns-then-size-eq0 c =
    let a = c.args in
    line-none a.coordinates.now (sourced a.reach a.work.now a.drawn.now) (a.at * 3) a.start a.size c.if-size-eq0.true

pub overflow_mul-from : goal.overflow_mul-from
overflow_mul-from c =
    let a = c.args in
    omega (arith, sourced-room a.reach a.work.now a.drawn.now c.requires.0 (record { start = a.start; size = a.size }) c.requires.1.0 c.if-size-eq0.false, c.if-reach-start.true, c.well_formed)

pub copy-requires : goal.copy-requires
copy-requires c =
    let a = c.args in
    (omega (arith, sourced-room a.reach a.work.now a.drawn.now c.requires.0 (record { start = a.start; size = a.size }) c.requires.1.0 c.if-size-eq0.false, c.if-reach-start.true), omega (arith, c.requires.1.1))

pub returns-then-reach-start : goal.returns-then-reach-start
returns-then-reach-start c =
    let a = c.args in
    drawn-written a.reach a.work.now a.drawn.now c.requires.0 a.coordinates.now c.copy.new.out a.at a.start a.size c.requires.1.1 c.if-reach-start.true c.copy.ensures

pub copy-requires-3 : goal.copy-requires-3
copy-requires-3 c =
    let a = c.args in
    (omega (arith, sourced-room a.reach a.work.now a.drawn.now c.requires.0 (record { start = a.start; size = a.size }) c.requires.1.0 c.if-size-eq0.false, c.if-reach-start.false, c.points_before-n.ensures), omega (arith, c.requires.1.1, c.points_before-n.ensures, c.copy-2.auto))

pub returns : goal.returns
returns c =
    let a = c.args in
    both-written a.reach a.work.now a.drawn.now c.requires.0 a.coordinates.now c.copy-3.new.out a.at a.start a.size c.requires.1.1 c.points_before-n.result c.copy-2.new.out c.if-reach-start.false c.points_before-n.ensures c.copy-2.ensures c.copy-3.ensures
