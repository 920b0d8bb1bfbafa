-- `lines_apart::take_center` meets its contract: of a lane with no explicit centreline, and of one that has one. Assumes nothing.
use lib.ListN.{length}
use Rattle.tables.specs.Formed.{span_at, center_span}
use Rattle.apart.specs.Marks.{within}
use Rattle.apart.proofs.Marks.{take_no, take-one, one-fits, center_none, center_one}
use Rattle.lines_apart.proofs.take_center.Goals as goal

pub returns-then-w-eq0 : goal.returns-then-w-eq0
returns-then-w-eq0 c = let a = c.args in take_no a.marks.now (center_span a.w.now) (center_none a.w.now c.if-w-eq0.true)

pub take_line-requires : goal.take_line-requires
take_line-requires c = let a = c.args in one-fits (within (length a.marks.now)) (span_at 7 a.w.now) (center_span a.w.now) (center_one a.w.now c.if-w-eq0.false) c.requires.1

pub returns : goal.returns
returns c =
    let a = c.args in
    let l = c.take_line in
    take-one a.marks.now l.new.marks (span_at 7 a.w.now) (center_span a.w.now) l.result (center_one a.w.now c.if-w-eq0.false) l.ensures.0 l.ensures.1
