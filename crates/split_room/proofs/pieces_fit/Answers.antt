-- `split_room::pieces_fit` meets its contract. The invariant: all pieces are short where those that are left are. Assumes nothing.
use Rattle.std.proofs.Common.{arith, sym, ◌∙◌, ap, not}
use Rattle.std.specs.Slice.Iter.{chunks_exact_rest}
use Rattle.split_room.proofs.Points.{fit-ends, fit-stops, fit-goes-on}
use Rattle.split_room.proofs.pieces_fit.Goals as goal

pub returns-then-not-both : goal.returns-then-not-both
returns-then-not-both c =
    let s = c.in-Some.ensures.steps in
    let t = c.loop-line.invariant in
    sym (t.3 ∙ fit-stops (chunks_exact_rest c.loop-line.line-iterator) c.in-Some.line.now (chunks_exact_rest c.next.new.self) s.1.0 (s.1.1 ∙ t.2) c.both.result c.both.ensures (ap not c.if-not-both.true))

pub loop-line-preserved : goal.loop-line-preserved
loop-line-preserved c =
    let s = c.in-Some.ensures.steps in
    let t = c.loop-line.invariant in
    let e = s.0 ∙ t.2 in
    (omega (arith, e), tt, e, t.3 ∙ fit-goes-on (chunks_exact_rest c.loop-line.line-iterator) c.in-Some.line.now (chunks_exact_rest c.next.new.self) s.1.0 (s.1.1 ∙ t.2) c.both.result c.both.ensures (ap not c.if-not-both.false))

pub returns : goal.returns
returns c =
    let s = c.in-None.ensures.steps in
    let t = c.loop-line.invariant in
    sym (t.3 ∙ fit-ends (chunks_exact_rest c.loop-line.line-iterator) (omega (arith, s.1.0, t.2)))
