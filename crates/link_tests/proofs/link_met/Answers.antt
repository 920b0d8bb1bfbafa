-- `link_tests::link_met` meets its contract. By the three ways out: the lane is absent, its list has a place for the link, its list is at its end. Assumes nothing.
use Rattle.std.specs.Prelude.{Some}
use mathlib.Core.Path.{◌≡◌, refl, sym, ap, ◌∙◌}
use mathlib.Core.List.{List}
use mathlib.Core.Bool.{true, true≢false}
use mathlib.Core.Logic.{inl, inr}
use Prim.Native.Nat.{ℕ, ◌+◌, ◌*◌, ◌≤◌, ◌<◌}
use native.Mathlib.Omega.{arith}
use lib.ListN.{length, get_or}
use Rattle.lists.specs.Rows.{row_with}
use Rattle.tables.specs.View.{word, ids_at}
use Rattle.row_tests.specs.Returned.{searchable, lane_at}
use Rattle.row_tests.proofs.Lanes.{lane_room, links-within, lane-found, word_at}
use Rattle.link_tests.specs.Met.{lane_ids}
use Rattle.link_tests.proofs.Steps.{link_at, ids-ready, id-found, cursors-many, link-absent, link-past, link-there, link-moved}
use Rattle.link_tests.proofs.link_met.Goals as goal
use Rattle.link_tests.proofs.link_met.Goals.{In-Some}
use Rattle.link_tests.proofs.link_met.Lts as lts
use Rattle.link_tests.proofs.link_met.Reads as reads
use Rattle.link_tests.proofs.link_met.Tie as tie

abbrev AtStart : Type 0
AtStart = lts.Start tie.the-claims reads.Pre reads.Post

abbrev AtAfterFindIdFound : Type 0
AtAfterFindIdFound = lts.After-find_id tie.the-claims reads.Pre reads.Post

-- the row lies in the table, and its links in the row
abbrev words : (c : AtStart) → List ℕ
words c = c.args.t.now

abbrev lane : (c : AtStart) → ℕ
lane c = get_or (ids_at 35 (lane_at (words c) c.args.i)) c.args.k 0

sorted : (c : AtStart) → searchable (words c) ≡ true
sorted c = c.requires.0.0.sorted

room : (c : AtStart) → 1 + c.args.i * 52 + 52 ≤ length (words c)
room c = lane_room (words c) (sorted c) c.args.i c.requires.1.0

after : (c : AtStart) → 35 + 1 + word 35 (lane_at (words c) c.args.i) ≤ 52
after c = omega (arith, links-within (words c) (sorted c) c.args.i c.requires.1.0 35 (inr refl), word_at (words c) c.args.i 35 (omega arith))

linked : (c : AtStart) → get_or (words c) (1 + c.args.i * 52 + 35 + 1 + c.args.k) 0 ≡ lane c
linked c = link_at (words c) c.args.i 35 c.args.k (after c) c.requires.1.1.0

many : (c : AtStart) → length c.args.met.now ≡ word 0 (words c)
many c = ap length c.requires.1.1.1 ∙ cursors-many (words c) c.args.i c.args.k

-- what the search gives, of the lane as the list has it
sought : (c : AtAfterFindIdFound) → row_with (lane c.before.before.before.before.before.before) (lane_ids (words c.before.before.before.before.before.before)) ≡ c.find_id-found.result
sought c =
    let b = c in
    id-found (words c.before.before.before.before.before.before) b.args.ids.now b.requires.0.0 (lane c.before.before.before.before.before.before) c.find_id-found.result (rw (← linked c.before.before.before.before.before.before) c.find_id-found.ensures)

-- the row that is found is one of the rows, and its list lies in it
abbrev row : (c : In-Some) → ℕ
row c = c.in-Some.j

at : (c : In-Some) → row_with (lane c.before.before.before.before.before.before.before.before) (lane_ids (words c.before.before.before.before.before.before.before.before)) ≡ Some (row c)
at c = sought c.before.before ∙ c.in-Some.is

low : (c : In-Some) → row c < word 0 (words c.before.before.before.before.before.before.before.before)
low c = let b = c in lane-found (words c.before.before.before.before.before.before.before.before) (sorted c.before.before.before.before.before.before.before.before) (lane c.before.before.before.before.before.before.before.before) (row c) (at c)

there : (c : In-Some) → 1 + row c * 52 + 52 ≤ length (words c.before.before.before.before.before.before.before.before)
there c = let b = c in lane_room (words c.before.before.before.before.before.before.before.before) (sorted c.before.before.before.before.before.before.before.before) (row c) (low c)

count : (c : In-Some) → get_or (words c.before.before.before.before.before.before.before.before) (1 + row c * 52 + 18) 0 ≡ word 18 (lane_at (words c.before.before.before.before.before.before.before.before) (row c))
count c = word_at (words c.before.before.before.before.before.before.before.before) (row c) 18 (omega arith)

before : (c : In-Some) → 18 + 1 + word 18 (lane_at (words c.before.before.before.before.before.before.before.before) (row c)) ≤ 52
before c = let b = c in omega (arith, links-within (words c.before.before.before.before.before.before.before.before) (sorted c.before.before.before.before.before.before.before.before) (row c) (low c) 18 (inl refl), count c)

pub overflow_mul-at : goal.overflow_mul-at
overflow_mul-at c = omega (arith, room c.before.before.before.before)

pub overflow_add-at : goal.overflow_add-at
overflow_add-at c = omega (arith, room c.before.before.before.before)

pub bounds-t-0 : goal.bounds-t-0
bounds-t-0 c = omega (arith, room c.before.before.before.before.before)

pub overflow_add-at-2 : goal.overflow_add-at-2
overflow_add-at-2 c = omega (arith, room c.before.before.before.before.before)

pub overflow_add-at-3 : goal.overflow_add-at-3
overflow_add-at-3 c = omega (arith, room c.before.before.before.before.before)

pub overflow_add-at-4 : goal.overflow_add-at-4
overflow_add-at-4 c = omega (arith, room c.before.before.before.before.before, after c.before.before.before.before.before, c.requires.1.1.0)

pub offset_bounds-t-at : goal.offset_bounds-t-at
offset_bounds-t-at c = omega (arith, room c.before.before.before.before.before, after c.before.before.before.before.before, c.requires.1.1.0)

pub bounds-t-at : goal.bounds-t-at
bounds-t-at c = omega (arith, room c.before.before.before.before.before.before, after c.before.before.before.before.before.before, c.requires.1.1.0)

pub find_id-found-requires : goal.find_id-found-requires
find_id-found-requires c = (c.requires.1.0, ids-ready (words c.before.before.before.before.before.before) c.args.ids.now c.requires.0.0)

pub returns-in_default : goal.returns-in_default
returns-in_default c =
    let b = c in
    let e = link-absent (words c.before.before.before.before.before.before.before.before) (sorted c.before.before.before.before.before.before.before.before) b.requires.0.1 b.args.i b.requires.1.0 b.args.k b.requires.1.1.0 (sought c.before.before ∙ c.in_default.is) in
    (e, λ z. absurd (true≢false (sym z)))

pub overflow_mul-before : goal.overflow_mul-before
overflow_mul-before c = omega (arith, there c)

pub overflow_add-before : goal.overflow_add-before
overflow_add-before c = omega (arith, there c)

pub overflow_add-before-2 : goal.overflow_add-before-2
overflow_add-before-2 c = omega (arith, there c)

pub bounds-met-j : goal.bounds-met-j
bounds-met-j c = rw (many c.before.before.before.before.before.before.before.before.before) (low (goal.at.bounds-met-j c).In-Some)

pub overflow_cast-cursor : goal.overflow_cast-cursor
overflow_cast-cursor c = omega (arith, c.slice_known-2-1.given (row (goal.at.overflow_cast-cursor c).In-Some))

pub offset_bounds-t-before : goal.offset_bounds-t-before
offset_bounds-t-before c = omega (arith, there (goal.at.offset_bounds-t-before c).In-Some)

pub bounds-t-before : goal.bounds-t-before
bounds-t-before c = omega (arith, there (goal.at.bounds-t-before c).In-Some)

pub overflow_add-met : goal.overflow_add-met
overflow_add-met c = omega (arith, before (goal.at.overflow_add-met c).In-Some, count (goal.at.overflow_add-met c).In-Some, c.if-cursor-t.true)

pub bounds-met-j-then-cursor-t : goal.bounds-met-j-then-cursor-t
bounds-met-j-then-cursor-t c = rw (many c.before.before.before.before.before.before.before.before.before.before.before) (low (goal.at.bounds-met-j-then-cursor-t c).In-Some)

pub overflow_add-result : goal.overflow_add-result
overflow_add-result c = omega (arith, there (goal.at.overflow_add-result c).In-Some)

pub overflow_cast-result : goal.overflow_cast-result
overflow_cast-result c = omega (arith, before (goal.at.overflow_cast-result c).In-Some, count (goal.at.overflow_cast-result c).In-Some, c.if-cursor-t.true)

pub overflow_add-result-then-cursor-t : goal.overflow_add-result-then-cursor-t
overflow_add-result-then-cursor-t c = omega (arith, there (goal.at.overflow_add-result-then-cursor-t c).In-Some, before (goal.at.overflow_add-result-then-cursor-t c).In-Some, count (goal.at.overflow_add-result-then-cursor-t c).In-Some, c.if-cursor-t.true)

pub offset_bounds-t-before-then-cursor-t : goal.offset_bounds-t-before-then-cursor-t
offset_bounds-t-before-then-cursor-t c = omega (arith, there (goal.at.offset_bounds-t-before-then-cursor-t c).In-Some, before (goal.at.offset_bounds-t-before-then-cursor-t c).In-Some, count (goal.at.offset_bounds-t-before-then-cursor-t c).In-Some, c.if-cursor-t.true)

pub bounds-t-before-then-cursor-t : goal.bounds-t-before-then-cursor-t
bounds-t-before-then-cursor-t c = omega (arith, there (goal.at.bounds-t-before-then-cursor-t c).In-Some, before (goal.at.bounds-t-before-then-cursor-t c).In-Some, count (goal.at.bounds-t-before-then-cursor-t c).In-Some, c.if-cursor-t.true)

pub offset_bounds-t-at-then-cursor-t : goal.offset_bounds-t-at-then-cursor-t
offset_bounds-t-at-then-cursor-t c = omega (arith, room c.before.before.before.before.before.before.before.before.before.before.before.before)

pub bounds-t-at-then-cursor-t : goal.bounds-t-at-then-cursor-t
bounds-t-at-then-cursor-t c = omega (arith, room c.before.before.before.before.before.before.before.before.before.before.before.before.before)

pub returns-then-cursor-t : goal.returns-then-cursor-t
returns-then-cursor-t c =
    let b = c in
    let f = c in (
      link-there (words c.before.before.before.before.before.before.before.before.before.before.before.before.before) (sorted c.before.before.before.before.before.before.before.before.before.before.before.before.before) b.requires.0.1 b.args.i b.requires.1.0 b.args.k b.requires.1.1.0 (row (goal.at.returns-then-cursor-t c).In-Some) (at (goal.at.returns-then-cursor-t c).In-Some) b.args.met.now b.requires.1.1.1 c.if-cursor-t.true,
      λ z. link-moved (words c.before.before.before.before.before.before.before.before.before.before.before.before.before) (sorted c.before.before.before.before.before.before.before.before.before.before.before.before.before) b.requires.0.1 b.args.i b.requires.1.0 b.args.k b.requires.1.1.0 (row (goal.at.returns-then-cursor-t c).In-Some) (at (goal.at.returns-then-cursor-t c).In-Some) b.args.met.now b.requires.1.1.1,
    )

pub returns : goal.returns
returns c =
    let b = c in
    let f = c in (
      link-past (words c.before.before.before.before.before.before.before.before.before.before.before) (sorted c.before.before.before.before.before.before.before.before.before.before.before) b.requires.0.1 b.args.i b.requires.1.0 b.args.k b.requires.1.1.0 (row (goal.at.returns c).In-Some) (at (goal.at.returns c).In-Some) b.args.met.now b.requires.1.1.1 (omega (arith, c.if-cursor-t.false)),
      λ z. absurd (true≢false (sym z)),
    )
