-- `merge_gone::gone` meets its contract. After each of the four calls those that go so far stand in front. Assumes nothing.
use borrow.Author.Rules.{rules}
use mathlib.Core.Path.{ap}
use mathlib.Core.Bool.{Bool}
use mathlib.Core.List.{List, []}
use Prim.Native.Nat.{ℕ, ◌<◌}
use native.Mathlib.Omega.{arith}
use lib.ListN.{length}
use Rattle.merge_gone.specs.Leaving.{goes, with_gone}
use Rattle.merge_gone.proofs.Going.{Gathered, gathered_none, gathered-room, gathered-more, gathered-gone}
use Rattle.merge_gone.proofs.gone.Goals as goal
use Rattle.merge_gone.proofs.gone.Lts as lts
use Rattle.merge_gone.proofs.gone.Reads as reads
use Rattle.merge_gone.proofs.gone.Tie as tie

abbrev AtAfterBoundaryRefD : Type 0
AtAfterBoundaryRefD = lts.After-boundary_ref4 tie.the-claims reads.Pre reads.Post

abbrev AtStart : Type 0
AtStart = lts.Start tie.the-claims reads.Pre reads.Post

abbrev AtAfterAddGoneOne : Type 0
AtAfterAddGoneOne = lts.After-add_gone tie.the-claims reads.Pre reads.Post

abbrev AtAfterAddGoneTwo : Type 0
AtAfterAddGoneTwo = lts.After-add_gone2 tie.the-claims reads.Pre reads.Post

abbrev AtAfterAddGoneThree : Type 0
AtAfterAddGoneThree = lts.After-add_gone3 tie.the-claims reads.Pre reads.Post

abbrev AtAfterAddGone : Type 0
AtAfterAddGone = lts.After-add_gone4 tie.the-claims reads.Pre reads.Post

-- b: the lanes' four boundaries are read
abbrev start : AtAfterBoundaryRefD → AtStart
start b = b.before.before.before.before.before.before.before

abbrev out : AtAfterBoundaryRefD → List ℕ
out b = (start b).args.out.now

abbrev left : AtAfterBoundaryRefD → ℕ
left b = b.boundary_ref-a.result.boundary

abbrev right : AtAfterBoundaryRefD → ℕ
right b = b.boundary_ref-b.result.boundary

abbrev left2 : AtAfterBoundaryRefD → ℕ
left2 b = b.boundary_ref-c.result.boundary

abbrev right2 : AtAfterBoundaryRefD → ℕ
right2 b = b.boundary_ref-d.result.boundary

abbrev leaves : AtAfterBoundaryRefD → ℕ → Bool
leaves b = let a = (start b).args in goes a.lanes.now a.i a.j a.left a.right a.boundaries.now

abbrev adds : AtAfterBoundaryRefD → ℕ → List ℕ → List ℕ
adds b x ids = with_gone (leaves b x) x ids

room : (b : AtAfterBoundaryRefD) → 3 < length (out b)
room b = omega (arith, (start b).requires.1)

one : (c : AtAfterAddGoneOne) → let b = c in Gathered (out c.before.before) c.add_gone-one.new.out 1 c.add_gone-one.result (adds c.before.before (left c.before.before) [])
one c = let b = c in let r = room c.before.before in gathered-more (gathered_none (out c.before.before)) (omega arith) (leaves c.before.before (left c.before.before)) (left c.before.before) c.add_gone-one.ensures

two : (c : AtAfterAddGoneTwo) → let b = c in Gathered (out c.before.before.before.before.before.before) c.add_gone-two.new.out 2 c.add_gone-two.result (adds c.before.before.before.before.before.before (right c.before.before.before.before.before.before) (adds c.before.before.before.before.before.before (left c.before.before.before.before.before.before) []))
two c = let b = c in let r = room c.before.before.before.before.before.before in gathered-more (one c.before.before.before.before) (omega arith) (leaves c.before.before.before.before.before.before (right c.before.before.before.before.before.before)) (right c.before.before.before.before.before.before) c.add_gone-two.ensures

three : (c : AtAfterAddGoneThree) → let b = c in Gathered (out c.before.before.before.before.before.before.before.before.before.before) c.add_gone-three.new.out 3 c.add_gone-three.result (adds c.before.before.before.before.before.before.before.before.before.before (left2 c.before.before.before.before.before.before.before.before.before.before) (adds c.before.before.before.before.before.before.before.before.before.before (right c.before.before.before.before.before.before.before.before.before.before) (adds c.before.before.before.before.before.before.before.before.before.before (left c.before.before.before.before.before.before.before.before.before.before) [])))
three c = let b = c in let r = room c.before.before.before.before.before.before.before.before.before.before in gathered-more (two c.before.before.before.before) (omega arith) (leaves c.before.before.before.before.before.before.before.before.before.before (left2 c.before.before.before.before.before.before.before.before.before.before)) (left2 c.before.before.before.before.before.before.before.before.before.before) c.add_gone-three.ensures

four : (c : AtAfterAddGone) → let b = c in Gathered (out c.before.before.before.before.before.before.before.before.before.before.before.before.before.before) c.add_gone.new.out 4 c.add_gone.result (adds c.before.before.before.before.before.before.before.before.before.before.before.before.before.before (right2 c.before.before.before.before.before.before.before.before.before.before.before.before.before.before) (adds c.before.before.before.before.before.before.before.before.before.before.before.before.before.before (left2 c.before.before.before.before.before.before.before.before.before.before.before.before.before.before) (adds c.before.before.before.before.before.before.before.before.before.before.before.before.before.before (right c.before.before.before.before.before.before.before.before.before.before.before.before.before.before) (adds c.before.before.before.before.before.before.before.before.before.before.before.before.before.before (left c.before.before.before.before.before.before.before.before.before.before.before.before.before.before) []))))
four c = let b = c in let r = room c.before.before.before.before.before.before.before.before.before.before.before.before.before.before in gathered-more (three c.before.before.before.before) (omega arith) (leaves c.before.before.before.before.before.before.before.before.before.before.before.before.before.before (right2 c.before.before.before.before.before.before.before.before.before.before.before.before.before.before)) (right2 c.before.before.before.before.before.before.before.before.before.before.before.before.before.before) c.add_gone.ensures

pub add_gone-one-requires : goal.add_gone-one-requires
add_gone-one-requires c = let r = room c.before.before in (c.requires.0, gathered-room (gathered_none (out c.before.before)) (omega arith))

pub add_gone-two-requires : goal.add_gone-two-requires
add_gone-two-requires c = let r = room c.before.before.before.before.before.before in (c.requires.0, gathered-room (one c.before.before.before.before) (omega arith))

pub add_gone-three-requires : goal.add_gone-three-requires
add_gone-three-requires c = let r = room c.before.before.before.before.before.before.before.before.before.before in (c.requires.0, gathered-room (two c.before.before.before.before) (omega arith))

pub add_gone-requires : goal.add_gone-requires
add_gone-requires c = let r = room c.before.before.before.before.before.before.before.before.before.before.before.before.before.before in (c.requires.0, gathered-room (three c.before.before.before.before) (omega arith))

pub returns : goal.returns
returns c =
    let b = c in
    let a = (start c.before.before.before.before.before.before.before.before.before.before.before.before.before.before.before.before.before).args in
    gathered-gone a.lanes.now a.i a.j a.left a.right a.boundaries.now (start c.before.before.before.before.before.before.before.before.before.before.before.before.before.before.before.before.before).requires.0.boundaries_are_sorted (left c.before.before.before.before.before.before.before.before.before.before.before.before.before.before.before.before.before) (right c.before.before.before.before.before.before.before.before.before.before.before.before.before.before.before.before.before) (left2 c.before.before.before.before.before.before.before.before.before.before.before.before.before.before.before.before.before) (right2 c.before.before.before.before.before.before.before.before.before.before.before.before.before.before.before.before.before)
    (ap (λ x. x.boundary) b.boundary_ref-a.ensures) (ap (λ x. x.boundary) b.boundary_ref-b.ensures)
    (ap (λ x. x.boundary) b.boundary_ref-c.ensures) (ap (λ x. x.boundary) b.boundary_ref-d.ensures) (four c.before.before.before)
