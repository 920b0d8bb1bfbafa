-- `lines_apart::take_rest` meets its contract: the stop lines, then the left edges of the crosswalks, then the right ones. Assumes nothing.
use mathlib.Core.Path.{◌≡◌, refl, sym, ◌∙◌}
use mathlib.Core.Bool.{true}
use mathlib.Core.List.{List, ◌++◌}
use Prim.Native.Nat.{ℕ}
use native.Mathlib.Omega.{arith}
use lib.ListN.{length}
use Rattle.lists.specs.Every.{all}
use Rattle.tables.specs.View.{rows}
use Rattle.tables.specs.Formed.{Span, span_at, counted}
use Rattle.apart.specs.Marks.{within, rest_spans}
use Rattle.apart.proofs.Walk.{Left, left-start, left-fits, left-all, left_step, left-stop}
use Rattle.apart.proofs.Stored.{rest-facts}
use Rattle.lines_apart.proofs.take_rest.Goals as goal
use Rattle.lines_apart.proofs.take_rest.Lts as lts
use Rattle.lines_apart.proofs.take_rest.Reads as reads
use Rattle.lines_apart.proofs.take_rest.Tie as tie

abbrev AtStart : Type 0
AtStart = lts.Start tie.the-claims reads.Pre reads.Post

abbrev AtThenTakeColumn : Type 0
AtThenTakeColumn = lts.Then1 tie.the-claims reads.Pre reads.Post

abbrev AtThenTakeColumn2 : Type 0
AtThenTakeColumn2 = lts.Then2 tie.the-claims reads.Pre reads.Post

-- what is left before each column
abbrev stops : AtStart → List Span
stops s = rows 4 (span_at 1) s.args.stop_lines.now

abbrev edges : ℕ → AtStart → List Span
edges k s = rows 7 (span_at k) s.args.crosswalks.now

abbrev whole : AtStart → List Span
whole s = rest_spans s.args.stop_lines.now s.args.crosswalks.now

facts : (s : AtStart) → (counted 4096 4 s.args.stop_lines.now ≡ true) × ((counted 4096 7 s.args.crosswalks.now ≡ true) × (all (within (length s.args.marks.now)) (whole s) ≡ true))
facts s = rest-facts (length s.args.marks.now) s.args.stop_lines.now s.args.crosswalks.now s.requires

first : (s : AtStart) → Left s.args.marks.now (whole s) s.args.marks.now (stops s ++ (edges 1 s ++ edges 3 s))
first s = left-start s.args.marks.now (whole s) (whole s) refl (facts s).1.1

second : (c : AtThenTakeColumn) → Left c.args.marks.now (whole c.before.before.before.before.before.before.before.before) c.take_column.new.marks (edges 1 c.before.before.before.before.before.before.before.before ++ edges 3 c.before.before.before.before.before.before.before.before)
second c =
    let s = c.before.before.before.before.before.before.before.before in
    let l = c.take_column in
    left_step s.args.marks.now (whole s) s.args.marks.now (stops s) (edges 1 c.before.before.before.before.before.before.before.before ++ edges 3 c.before.before.before.before.before.before.before.before) (first s) l.new.marks l.auto.marks (sym l.ensures.0 ∙ c.if-take_column.true) (l.ensures.1 c.if-take_column.true)

third : (c : AtThenTakeColumn2) → Left c.args.marks.now (whole c.before.before.before.before.before.before.before.before.before.before.before.before.before) c.take_column-then-take_column.new.marks (edges 3 c.before.before.before.before.before.before.before.before.before.before.before.before.before)
third c =
    let s = c.before.before.before.before.before.before.before.before.before.before.before.before.before in
    let l = c.take_column-then-take_column in
    left_step s.args.marks.now (whole s) c.take_column.new.marks (edges 1 c.before.before.before.before.before.before.before.before.before.before.before.before.before) (edges 3 c.before.before.before.before.before.before.before.before.before.before.before.before.before) (second c.before.before.before.before.before) l.new.marks l.auto.marks (sym l.ensures.0 ∙ c.if-take_column-2.true) (l.ensures.1 c.if-take_column-2.true)

pub take_column-requires : goal.take_column-requires
take_column-requires c =
    let s = c.before.before.before.before.before in
    (omega arith, (omega arith, ((facts s).0, left-fits s.args.marks.now (whole s) s.args.marks.now (stops s) (edges 1 s ++ edges 3 s) (first s))))

pub take_column-requires-then-take_column : goal.take_column-requires-then-take_column
take_column-requires-then-take_column c =
    let s = c.before.before.before.before.before.before.before.before.before.before in
    (omega arith, (omega arith, ((facts s).1.0, left-fits s.args.marks.now (whole s) c.take_column.new.marks (edges 1 s) (edges 3 s) (second c.before.before))))

pub take_column-requires-then-take_column-2 : goal.take_column-requires-then-take_column-2
take_column-requires-then-take_column-2 c =
    let s = c.before.before.before.before.before.before.before.before.before.before.before.before.before.before.before in
    (omega arith, (omega arith, ((facts s).1.0, left-all s.args.marks.now (whole s) c.take_column-then-take_column.new.marks (edges 3 s) (third c.before.before))))

pub returns-then-take_column-2 : goal.returns-then-take_column-2
returns-then-take_column-2 c = c.take_column-then-take_column-2.ensures.0 ∙ sym (third c.before.before.before.before.before).apart

pub returns-else-take_column-2 : goal.returns-else-take_column-2
returns-else-take_column-2 c =
    let s = c.before.before.before.before.before.before.before.before.before.before.before.before.before.before in
    sym (left-stop s.args.marks.now (whole s) c.take_column.new.marks (edges 1 s) (edges 3 s) (second c.before.before.before.before.before.before) (sym c.take_column-then-take_column.ensures.0 ∙ c.if-take_column-2.false))

pub returns-else-take_column : goal.returns-else-take_column
returns-else-take_column c =
    let s = c.before.before.before.before.before.before.before.before.before in
    sym (left-stop s.args.marks.now (whole s) s.args.marks.now (stops s) (edges 1 s ++ edges 3 s) (first s) (sym c.take_column.ensures.0 ∙ c.if-take_column.false))
