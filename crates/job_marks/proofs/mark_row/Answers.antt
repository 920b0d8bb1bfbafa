-- `job_marks::mark_row` meets its contract: a search in the rows behind the count, and one store. Assumes nothing.
use Rattle.std.specs.Prelude.{Some}
use mathlib.Core.Path.{◌≡◌, sym, ◌∙◌}
use Prim.Native.Nat.{◌<◌}
use Rattle.tables.specs.View.{word}
use Rattle.lookup.specs.Lookup.{place_of}
use native.Mathlib.Omega.{arith}
use Rattle.lookup.proofs.Laws.{sorted-room, sorted-ascends, lent_rows, lent-place, place-within}
use Rattle.job_marks.proofs.Turns.{mark-found, mark-nothing}
use Rattle.job_marks.proofs.mark_row.Goals as goal
use Rattle.job_marks.proofs.mark_row.Goals.{In-Some}

-- the row that was found, and that it is one of the rows
place : (c : In-Some) → place_of c.args.words c.args.table.now c.args.id ≡ Some c.in-Some.row
place c =
    let a = c.args in
    let h = c.requires.1.0 in
    sym (lent-place a.table.now a.words a.id c.find_row-found.result (sorted-room 4096 a.words a.table.now h) c.find_row-found.ensures) ∙ c.in-Some.is

within : (c : In-Some) → c.in-Some.row < word 0 c.args.table.now
within c = let a = c.args in place-within a.words a.table.now a.id c.in-Some.row (place c)

pub bounds-table-0 : goal.bounds-table-0
bounds-table-0 c = omega (arith, sorted-room 4096 c.args.words c.args.table.now c.requires.1.0)

pub slice_bounds-find_row-count : goal.slice_bounds-find_row-count
slice_bounds-find_row-count c = omega (arith, sorted-room 4096 c.args.words c.args.table.now c.requires.1.0)

pub slice_bounds-find_row-start : goal.slice_bounds-find_row-start
slice_bounds-find_row-start c = omega (arith, sorted-room 4096 c.args.words c.args.table.now c.requires.1.0)

pub find_row-found-requires : goal.find_row-found-requires
find_row-found-requires c =
    let a = c.args in
    let h = c.requires.1.0 in
    (c.requires.0, lent_rows a.table.now a.words (sorted-room 4096 a.words a.table.now h) (sorted-ascends 4096 a.words a.table.now h))

pub overflow_add-marks : goal.overflow_add-marks
overflow_add-marks c = omega (arith, within c)

pub offset_bounds-marks-first : goal.offset_bounds-marks-first
offset_bounds-marks-first c = omega (arith, within c)

pub bounds-marks-first : goal.bounds-marks-first
bounds-marks-first c = omega (arith, within c)

pub returns-in-Some : goal.returns-in-Some
returns-in-Some c =
    let a = c.args in
    mark-found a.words a.first a.id a.table.now a.marks.now c.in-Some.row (place c)

pub returns-in-None : goal.returns-in-None
returns-in-None c =
    let a = c.args in
    mark-nothing a.words a.first a.id a.table.now a.marks.now (sym (lent-place a.table.now a.words a.id c.find_row-found.result (sorted-room 4096 a.words a.table.now c.requires.1.0) c.find_row-found.ensures) ∙ c.in-None.is)
