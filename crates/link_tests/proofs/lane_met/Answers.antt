-- `link_tests::lane_met` meets its contract. The invariant: the cursors count the links before k, and the lane's links are met where those from k on are. The measure
use borrow.Author.Tests.{not-true, not-false}
use mathlib.Core.Path.{◌≡◌, refl, sym, ◌∙◌, ap}
use mathlib.Core.List.{List}
use mathlib.Core.Bool.{true, ◌&&◌, true≢false, not}
use Prim.Native.Nat.{ℕ, ◌+◌, ◌*◌, ◌≤◌}
use native.Mathlib.Omega.{arith}
use lib.ListN.{length, get_or, drop}
use Rattle.lists.specs.Every.{all}
use Rattle.lists.proofs.Every.{all-step, all_end}
use Rattle.tables.specs.View.{word, ids_at}
use Rattle.row_tests.specs.Returned.{searchable, lane_at}
use Rattle.row_tests.proofs.Lanes.{lane_room, word_at}
use Rattle.link_tests.specs.Met.{link_met, lane_met}
use Rattle.link_tests.proofs.Followed.{length-after}
use Rattle.link_tests.proofs.Steps.{lane-moved}
use Rattle.link_tests.proofs.lane_met.Goals as goal
use Rattle.link_tests.proofs.lane_met.Lts as lts
use Rattle.link_tests.proofs.lane_met.Reads as reads
use Rattle.link_tests.proofs.lane_met.Tie as tie

abbrev AtStart : Type 0
AtStart = lts.Start tie.the-claims reads.Pre reads.Post goal.the-invariant-loop-k goal.the-decreases-loop-k

abbrev AtInLoopK : Type 0
AtInLoopK = lts.In-loop tie.the-claims reads.Pre reads.Post goal.the-invariant-loop-k goal.the-decreases-loop-k

abbrev words : (c : AtStart) → List ℕ
words c = c.args.t.now

sorted : (c : AtStart) → searchable (words c) ≡ true
sorted c = c.requires.0.0.sorted

-- the row lies in the table, and its links in the row
room : (c : AtStart) → 1 + c.args.i * 52 + 52 ≤ length (words c)
room c = lane_room (words c) (sorted c) c.args.i c.requires.1.0

count-is : (c : AtStart) → get_or (words c) (1 + c.args.i * 52 + 35) 0 ≡ word 35 (lane_at (words c) c.args.i)
count-is c = word_at (words c) c.args.i 35 (omega arith)

-- the links from one on, one after the other
turn : (c : AtInLoopK)
    → let b = c in
    let s = ids_at 35 (lane_at (words c.before.before.before.before.before.before) b.args.i) in
    let k = c.loop-k.k in
    lane_met (words c.before.before.before.before.before.before) b.args.i ≡ (link_met (words c.before.before.before.before.before.before) b.args.i (get_or s k 0) && all (link_met (words c.before.before.before.before.before.before) b.args.i) (drop (k + 1) s))
turn c =
    let b = c in
    let s = ids_at 35 (lane_at (words c.before.before.before.before.before.before) b.args.i) in
    c.loop-k.invariant.1.1.1 ∙ all-step (link_met (words c.before.before.before.before.before.before) b.args.i) s c.loop-k.k 0 (rw (length-after (words c.before.before.before.before.before.before) (sorted c.before.before.before.before.before.before) b.args.i b.requires.1.0, ← count-is c.before.before.before.before.before.before) c.loop-k-test.true)

pub overflow_mul-count : goal.overflow_mul-count
overflow_mul-count c = omega (arith, room c.before.before.before.before)

pub overflow_add-count : goal.overflow_add-count
overflow_add-count c = omega (arith, room c.before.before.before.before)

pub overflow_add-count-2 : goal.overflow_add-count-2
overflow_add-count-2 c = omega (arith, room c.before.before.before.before)

pub offset_bounds-t-i : goal.offset_bounds-t-i
offset_bounds-t-i c = omega (arith, room c.before.before.before.before)

pub bounds-t-i : goal.bounds-t-i
bounds-t-i c = omega (arith, room c.before.before.before.before.before)

pub loop-k-init : goal.loop-k-init
unfolding lane_met
loop-k-init c = (omega arith, (refl, (c.requires.1.1, refl)))

pub link_met-requires : goal.link_met-requires
link_met-requires c = let b = c.before.before.before.before.before.before.before.before in (b.requires.0, (b.requires.1.0, (rw (← count-is c.before.before.before.before.before.before.before.before) c.loop-k-test.true, c.loop-k.invariant.1.1.0)))

pub loop-k-preserved : goal.loop-k-preserved
loop-k-preserved c =
    let l = c.link_met in
    (omega (arith, c.loop-k-test.true), (l.auto.met ∙ c.loop-k.invariant.1.0, (l.ensures.1 (not-false c.link_met.result (ap not c.if-not-link_met.false)), turn c.before.before.before.before.before.before ∙ rw (← l.ensures.0, (not-false c.link_met.result (ap not c.if-not-link_met.false))))))

pub shape_of-met-then-not-link_met : goal.shape_of-met-then-not-link_met
shape_of-met-then-not-link_met c = c.link_met.auto.met ∙ c.loop-k.invariant.1.0

pub returns-then-not-link_met : goal.returns-then-not-link_met
returns-then-not-link_met c =
    let l = c.link_met in
    (sym (turn c.before.before.before.before.before.before ∙ rw (← l.ensures.0, (not-true c.link_met.result (ap not c.if-not-link_met.true)))), λ z. absurd (true≢false (sym z)))

pub returns : goal.returns
returns c =
    let b = c in
    let l = c.loop-k in
    let s = ids_at 35 (lane_at (words c.before.before.before.before.before.before.before) b.args.i) in
    let m : word 35 (lane_at (words c.before.before.before.before.before.before.before) b.args.i) ≤ l.k = omega (arith, c.loop-k-test.false, count-is c.before.before.before.before.before.before.before) in (
      sym (l.invariant.1.1.1 ∙ all_end (link_met (words c.before.before.before.before.before.before.before) b.args.i) s l.k (rw (length-after (words c.before.before.before.before.before.before.before) (sorted c.before.before.before.before.before.before.before) b.args.i b.requires.1.0) m)),
      λ z. l.invariant.1.1.0 ∙ lane-moved (words c.before.before.before.before.before.before.before) (sorted c.before.before.before.before.before.before.before) b.requires.0.1 b.args.i b.requires.1.0 l.k m,
    )
