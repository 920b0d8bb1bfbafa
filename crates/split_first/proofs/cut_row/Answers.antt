-- `split_first::cut_row` meets its contract: a row that is found becomes its first half, and every row's predecessors change. Assumes nothing.
use borrow.Author.Rules.{rules}
use native.Mathlib.Omega.{arith}
use mathlib.Core.Logic.{⊎_elim}
use mathlib.Core.Path.{◌≡◌, ◌∙◌, ap}
use Rattle.lists.proofs.Rows.{one_found, found_within}
use Rattle.split_rows.proofs.Slots.{cut-asks}
use Rattle.split_rows.proofs.Written.{came-asks, half-asks, cut-first, cut-other}
use lib.ListN.{length}
use Rattle.split_first.proofs.cut_row.Goals as goal
use Rattle.split_first.proofs.cut_row.Goals.{in-Some, in-None}

pub find_row-found-requires : goal.find_row-found-requires
find_row-found-requires c = cut-asks c.args.cut.now c.args.next c.requires.0.cuts

pub first_half-requires : goal.first_half-requires
first_half-requires c = let a = c.args in (c.requires.0, (found_within _ a.cut.now c.in-Some.rank (one_found _ a.cut.now c.find_row-found.result c.find_row-found.ensures ∙ c.in-Some.is), (c.requires.1.words, c.requires.1.formed)))

pub come_from-requires : goal.come_from-requires
come_from-requires c = let a = c.args in (
  c.requires.0.cuts,
  elim c.match-found.branch [
    | in-Some w ↦ half-asks a.pieces.now a.m a.cut.now a.next a.centers.now a.row.now c.requires.1 w.in-Some.rank c.match-found.row (w.row-is ∙ w.first_half.ensures)
    | in-None w ↦ rw w.row-is (came-asks a.pieces.now a.m a.cut.now a.next a.centers.now a.row.now c.requires.1)
  ],
)

pub shape_of-row : goal.shape_of-row
shape_of-row c =
    let a = c.args in
    let many : length c.match-found.row ≡ 52 = elim c.match-found.branch [
      | in-Some w ↦ (half-asks a.pieces.now a.m a.cut.now a.next a.centers.now a.row.now c.requires.1 w.in-Some.rank c.match-found.row (w.row-is ∙ w.first_half.ensures)).words
      | in-None w ↦ ap length w.row-is ∙ c.requires.1.words
    ] in
    omega (arith, c.requires.1.words, c.come_from.auto.row, many)

pub returns : goal.returns
returns c = let a = c.args in elim c.match-found.branch [
  | in-Some w ↦ cut-first a.pieces.now a.m a.cut.now a.next a.centers.now a.row.now c.requires.1 c.find_row-found.result c.find_row-found.ensures w.in-Some.rank w.in-Some.is c.match-found.row (w.row-is ∙ w.first_half.ensures) c.come_from.new.row c.come_from.ensures
  | in-None w ↦ cut-other a.pieces.now a.m a.cut.now a.next a.centers.now a.row.now c.requires.1 c.find_row-found.result c.find_row-found.ensures w.in-None.is c.match-found.row w.row-is c.come_from.new.row c.come_from.ensures
]
