-- `split_lists::count_pieces` meets its contract. The invariant: the warnings of the first j pieces are counted. Assumes nothing.
use mathlib.Core.Path.{◌≡◌, ◌∙◌, ap}
use native.Mathlib.Omega.{arith}
use lib.ListN.{length}
use Rattle.report.proofs.Warnings.{few}
use Rattle.split_lists.specs.Changes.{pieces_issues}
use Rattle.split_lists.proofs.Noted.{count-piece, piece-at}
use Rattle.split_lists.proofs.count_pieces.Goals as goal

pub loop-j-init : goal.loop-j-init
unfolding pieces_issues
loop-j-init c = (omega arith, (omega arith, omega arith))

pub piece_notice-requires : goal.piece_notice-requires
piece_notice-requires c = piece-at c.args.m c.loop-j.j c.loop-j-test.true (omega (arith, c.requires.0))

pub notice_count-count-requires : goal.notice_count-count-requires
notice_count-count-requires c = tt

pub overflow_add-count : goal.overflow_add-count
overflow_add-count c = omega (arith, few c.piece_notice.result, c.notice_count-count.ensures, c.loop-j.invariant.1.0, c.requires.1, c.loop-j-test.true)

pub loop-j-preserved : goal.loop-j-preserved
loop-j-preserved c = (omega (arith, c.loop-j-test.true), count-piece c.args.pieces.now c.loop-j.j c.loop-j.count c.loop-j.invariant.1.1 c.loop-j.invariant.1.0 c.piece_notice.result c.piece_notice.ensures c.notice_count-count.result c.notice_count-count.ensures)

pub returns : goal.returns
returns c =
    let e : c.loop-j.j ≡ c.args.m = omega (arith, c.loop-j.invariant.0, c.loop-j-test.false) in
    (c.loop-j.invariant.1.1 ∙ ap (λ n. length (pieces_issues c.args.pieces.now 0 n)) e, omega (arith, c.loop-j.invariant.1.0))
