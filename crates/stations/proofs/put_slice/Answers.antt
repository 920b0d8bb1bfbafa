-- `stations::put_slice` meets its contract: three pieces, one behind the other. Assumes nothing.
use Prim.Native.Nat.{◌+◌, ◌*◌, ◌≤◌, ◌<◌}
use mathlib.Core.Path.{◌≡◌, ◌∙◌}
use mathlib.Core.Bool.{true}
use mathlib.Core.List.{List, ◌++◌}
use lib.Ieee.{le}
use Rattle.geometry.specs.declared.Point3.{Point3}
use Rattle.geometry.specs.Float.{clamp, zeroᶠ}
use native.Mathlib.Omega.{arith}
use lib.ListN.{length, length-append}
use Rattle.polyline.specs.Polyline.{points, between, optional, slice}
use Rattle.polyline.proofs.Lines.{slice-short, slice_empty, slice-whole, room-three, writes-three}
use Rattle.stations.proofs.put_slice.Goals as goal
use Rattle.stations.proofs.put_slice.Lts as lts
use Rattle.stations.proofs.put_slice.Reads as reads
use Rattle.stations.proofs.put_slice.Tie as tie

abbrev AtStart : Type 0
AtStart = lts.Start tie.the-claims reads.Pre reads.Post

abbrev AtElseBA : Type 0
AtElseBA = lts.Else2 tie.the-claims reads.Pre reads.Post

-- The slice where the line has no two points, or the interval is empty: the point at its start.
short : (c : AtStart) → length (points c.args.line.now) < 2 → slice (points c.args.line.now) c.args.from c.args.to ≡ optional c.args.start
short c h = rw (c.requires.1.0, c.requires.0) (slice-short (points c.args.line.now) c.args.from c.args.to h)

emptied : (c : AtStart) → 2 ≤ length (points c.args.line.now) → le (clamp c.args.to zeroᶠ c.args.len) (clamp c.args.from zeroᶠ c.args.len) ≡ true
    → slice (points c.args.line.now) c.args.from c.args.to ≡ optional c.args.start
emptied c h t = rw (c.requires.1.0, c.requires.0) (slice_empty (points c.args.line.now) c.args.from c.args.to h (rw c.requires.0 at t))

-- Where it is not: the line's start, the points between the stations and its end, and the room that they take.
abbrev line_of : AtElseBA → List Point3
line_of c = points c.args.line.now

abbrev between-of : AtElseBA → List Point3
between-of c = between c.clamp-a.result c.clamp-b.result (line_of c)

abbrev start_of : AtElseBA → List Point3
start_of c = optional c.args.start

abbrev end_of : AtElseBA → List Point3
end_of c = optional c.args.end

sliced : (c : AtElseBA) → slice (line_of c) c.args.from c.args.to ≡ start_of c ++ (between-of c ++ end_of c)
sliced c =
    let pre = c.requires in
    let from = c.clamp-a.ensures in
    let to = c.clamp-b.ensures in
    let t = rw (to, from, pre.0) at c.if-b-a.false in
    rw (pre.1.0, pre.1.1.0, from, to, pre.0)
    (slice-whole (line_of c) c.args.from c.args.to (omega (arith, c.count.ensures, c.if-count-lt2.false)) t)

room : (c : AtElseBA) → (length (start_of c) + (length (between-of c) + length (end_of c))) * 3 ≤ length c.args.out.now
room c = room-three _ _ (start_of c) (between-of c) (end_of c) (sliced c) c.requires.1.1.1

pub put_optional-requires : goal.put_optional-requires
put_optional-requires c = omega (arith, rw (short c.before.before.before.before.before.before.before.before (omega (arith, c.count.ensures, c.if-count-lt2.true))) at c.requires.1.1.1)

pub returns-then-count-lt2 : goal.returns-then-count-lt2
returns-then-count-lt2 c = rw (short c.before.before.before.before.before.before.before.before.before.before.before (omega (arith, c.count.ensures, c.if-count-lt2.true))) c.put_optional.ensures

pub put_optional-requires-then-b-a : goal.put_optional-requires-then-b-a
put_optional-requires-then-b-a c =
    let t = rw (c.clamp-b.ensures, c.clamp-a.ensures) at c.if-b-a.true in
    omega (arith, rw (emptied c.before.before.before.before.before.before.before.before.before (omega (arith, c.count.ensures, c.if-count-lt2.false)) t) at c.requires.1.1.1)

pub returns-then-b-a : goal.returns-then-b-a
returns-then-b-a c =
    let t = rw (c.clamp-b.ensures, c.clamp-a.ensures) at c.if-b-a.true in
    rw (emptied c.before.before.before.before.before.before.before.before.before.before.before.before (omega (arith, c.count.ensures, c.if-count-lt2.false)) t) c.put_optional-then-b-a.ensures

pub put_optional-head-requires : goal.put_optional-head-requires
put_optional-head-requires c = omega (arith, room c.before.before)

pub put_between-middle-requires : goal.put_between-middle-requires
put_between-middle-requires c = omega (arith, room c.before.before.before.before.before.before, c.put_optional-head.ensures.0, c.put_optional-head.auto.out)

pub overflow_add-head : goal.overflow_add-head
overflow_add-head c = omega (arith, room c.before.before.before.before.before.before.before.before.before.before, c.put_optional-head.ensures.0, c.put_between-middle.ensures.0, c.well_formed.1.1.1.1.1.1.0.0)

pub put_optional-requires-2 : goal.put_optional-requires-2
put_optional-requires-2 c = omega (arith, room c.before.before.before.before.before.before.before.before.before.before, c.put_optional-head.ensures.0, c.put_between-middle.ensures.0, c.put_optional-head.auto.out, c.put_between-middle.auto.out)

pub overflow_add-result : goal.overflow_add-result
overflow_add-result c = omega (arith, room c.before.before.before.before.before.before.before.before.before.before.before.before.before, c.put_between-middle.ensures.0, c.put_optional-2.ensures.0, c.well_formed.1.1.1.1.1.1.0.0)

pub overflow_add-result-2 : goal.overflow_add-result-2
overflow_add-result-2 c = omega (arith, room c.before.before.before.before.before.before.before.before.before.before.before.before.before, c.put_optional-head.ensures.0, c.put_between-middle.ensures.0, c.put_optional-2.ensures.0, c.well_formed.1.1.1.1.1.1.0.0)

pub returns : goal.returns
returns c =
    let head = c.put_optional-head.ensures in
    let middle = c.put_between-middle.ensures in
    let end = c.put_optional-2.ensures in
    let whole = sliced c.before.before.before.before.before.before.before.before.before.before.before.before.before in
    rw whole (
      rw (length-append, length-append) (omega (arith, head.0, middle.0, end.0)),
      end.1 ∙ writes-three c.args.out.now _ _ c.put_optional-head.result c.put_between-middle.result _ _ _
          head.0 middle.0 (rw whole at c.requires.1.1.1) head.1 middle.1,
    )
