-- `follows::first_place` meets its contract. The invariant: the first i ids are others, so the place is i on from that in the rest. Assumes nothing.
use mathlib.Core.Path.{◌≡◌, sym, ◌∙◌}
use Prim.Native.Nat.{◌+◌, ◌-◌, ◌≤◌}
use native.Mathlib.Omega.{arith}
use lib.ListN.{length, drop}
use Rattle.follows.specs.Following.{first_place}
use Rattle.follows.proofs.Places.{search-here, search-on, search-end}
use Rattle.follows.proofs.first_place.Goals as goal

pub loop-i-init : goal.loop-i-init
loop-i-init c = let e : first_place c.args.id c.args.ids.now ≡ 0 + first_place c.args.id c.args.ids.now = omega arith in (omega arith, e)

pub offset_bounds-ids-i : goal.offset_bounds-ids-i
offset_bounds-ids-i c = omega arith

pub bounds-ids-i : goal.bounds-ids-i
bounds-ids-i c = omega arith

pub returns-then-ids-i : goal.returns-then-ids-i
returns-then-ids-i c =
    let l = c.loop-i in
    let a = c.args in
    (sym (l.invariant.1 ∙ search-here a.id a.ids.now l.i c.loop-i-test.true c.if-ids-i.true), l.invariant.0)

pub loop-i-preserved : goal.loop-i-preserved
loop-i-preserved c =
    let l = c.loop-i in
    let a = c.args in
    (omega arith, l.invariant.1 ∙ search-on a.id a.ids.now l.i c.loop-i-test.true c.if-ids-i.false)

pub returns : goal.returns
returns c =
    let l = c.loop-i in
    let a = c.args in
    let last : length a.ids.now ≡ l.i = omega (arith, l.invariant.0, c.loop-i-test.false) in
    (last ∙ sym (l.invariant.1 ∙ search-end a.id a.ids.now l.i c.loop-i-test.false), omega arith)
