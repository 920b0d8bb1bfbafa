-- `lines_apart::take_all` meets its contract: the boundaries, then the explicit centrelines, then the rest. Assumes nothing.
use mathlib.Core.Path.{◌≡◌, refl, sym, ◌∙◌}
use mathlib.Core.Bool.{true}
use mathlib.Core.List.{List, ◌++◌}
use native.Mathlib.Omega.{arith}
use lib.ListN.{length}
use Rattle.lists.specs.Every.{all}
use Rattle.tables.specs.View.{rows}
use Rattle.tables.specs.Formed.{Span, span_at, center_span, counted}
use Rattle.apart.specs.Marks.{within, rest_spans, rest_takeable}
use Rattle.apart.proofs.Marks.{joined}
use Rattle.apart.proofs.Walk.{Left, left-start, left-fits, left_step, left-stop}
use Rattle.apart.proofs.Stored.{all-facts}
use Rattle.lines_apart.proofs.take_all.Goals as goal
use Rattle.lines_apart.proofs.take_all.Lts as lts
use Rattle.lines_apart.proofs.take_all.Reads as reads
use Rattle.lines_apart.proofs.take_all.Tie as tie

abbrev AtStart : Type 0
AtStart = lts.Start tie.the-claims reads.Pre reads.Post

abbrev AtThenTakeColumn : Type 0
AtThenTakeColumn = lts.Then1 tie.the-claims reads.Pre reads.Post

abbrev AtThenTakeCenters : Type 0
AtThenTakeCenters = lts.Then2 tie.the-claims reads.Pre reads.Post

-- what is left before each part
abbrev edges : AtStart → List Span
edges s = rows 5 (span_at 2) s.args.boundaries.now

abbrev centers : AtStart → List Span
centers s = joined (rows 52 center_span s.args.lanes.now)

abbrev others : AtStart → List Span
others s = rest_spans s.args.stop_lines.now s.args.crosswalks.now

abbrev whole : AtStart → List Span
whole s = edges s ++ (centers s ++ others s)

facts : (s : AtStart) → (counted 1024 52 s.args.lanes.now ≡ true) × ((counted 4096 5 s.args.boundaries.now ≡ true) × ((all (within (length s.args.marks.now)) (whole s) ≡ true) × (rest_takeable (length s.args.marks.now) s.args.stop_lines.now s.args.crosswalks.now ≡ true)))
facts s = all-facts (length s.args.marks.now) s.args.lanes.now s.args.boundaries.now s.args.stop_lines.now s.args.crosswalks.now s.requires

first : (s : AtStart) → Left s.args.marks.now (whole s) s.args.marks.now (whole s)
first s = left-start s.args.marks.now (whole s) (whole s) refl (facts s).1.1.0

second : (c : AtThenTakeColumn) → Left c.args.marks.now (whole c.before.before.before.before.before.before.before.before.before.before) c.take_column.new.marks (centers c.before.before.before.before.before.before.before.before.before.before ++ others c.before.before.before.before.before.before.before.before.before.before)
second c =
    let s = c.before.before.before.before.before.before.before.before.before.before in
    let l = c.take_column in
    left_step s.args.marks.now (whole s) s.args.marks.now (edges s) (centers s ++ others s) (first s) l.new.marks l.auto.marks (sym l.ensures.0 ∙ c.if-take_column.true) (l.ensures.1 c.if-take_column.true)

third : (c : AtThenTakeCenters) → Left c.args.marks.now (whole c.before.before.before.before.before.before.before.before.before.before.before.before.before.before.before) c.take_centers.new.marks (others c.before.before.before.before.before.before.before.before.before.before.before.before.before.before.before)
third c =
    let s = c.before.before.before.before.before.before.before.before.before.before.before.before.before.before.before in
    let l = c.take_centers in
    left_step s.args.marks.now (whole s) c.take_column.new.marks (centers s) (others s) (second c.before.before.before.before.before) l.new.marks l.auto.marks (sym l.ensures.0 ∙ c.if-take_centers.true) (l.ensures.1 c.if-take_centers.true)

pub take_column-requires : goal.take_column-requires
take_column-requires c =
    let s = c.before.before.before.before.before.before.before in
    (omega arith, (omega arith, ((facts s).1.0, left-fits s.args.marks.now (whole s) s.args.marks.now (edges s) (centers s ++ others s) (first s))))

pub take_centers-requires : goal.take_centers-requires
take_centers-requires c =
    let s = c.before.before.before.before.before.before.before.before.before.before.before.before in
    ((facts s).0, left-fits s.args.marks.now (whole s) c.take_column.new.marks (centers s) (others s) (second c.before.before))

pub take_rest-requires : goal.take_rest-requires
take_rest-requires c = let s = c.before.before.before.before.before.before.before.before.before.before.before.before.before.before.before.before.before in rw (third c.before.before).long (facts c.before.before.before.before.before.before.before.before.before.before.before.before.before.before.before.before.before).1.1.1

pub returns-then-take_centers : goal.returns-then-take_centers
returns-then-take_centers c = c.take_rest.ensures ∙ sym (third c.before.before.before.before.before).apart

pub returns-else-take_centers : goal.returns-else-take_centers
returns-else-take_centers c =
    let s = c.before.before.before.before.before.before.before.before.before.before.before.before.before.before.before.before in
    sym (left-stop s.args.marks.now (whole s) c.take_column.new.marks (centers s) (others s) (second c.before.before.before.before.before.before) (sym c.take_centers.ensures.0 ∙ c.if-take_centers.false))

pub returns-else-take_column : goal.returns-else-take_column
returns-else-take_column c =
    let s = c.before.before.before.before.before.before.before.before.before.before.before in
    sym (left-stop s.args.marks.now (whole s) s.args.marks.now (edges s) (centers s ++ others s) (first s) (sym c.take_column.ensures.0 ∙ c.if-take_column.false))
