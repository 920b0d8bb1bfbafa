-- `warnings::put_notice` meets its contract, variant by variant. Assumes nothing.
use borrow.Author.Rules.{rules}
use Rattle.report.specs.declared.Notice.TheVariants.{NoOp, Pair, Unshared, Pieces}
use Rattle.report.proofs.Warnings.{notice_put}
use Rattle.warnings.proofs.put_notice.Goals as goal

pub returns-in-NoOp : goal.returns-in-NoOp
returns-in-NoOp c =
    let a = c.args in
    let g = c.in-NoOp in
    notice_put a.notice (NoOp g.lane) a.at a.warnings.now c.put_single.new.warnings g.is c.put_single.ensures

pub returns-in-Pair : goal.returns-in-Pair
returns-in-Pair c =
    let a = c.args in
    let g = c.in-Pair in
    notice_put a.notice (Pair g.code g.lane g.other) a.at a.warnings.now c.put_pair.new.warnings g.is c.put_pair.ensures

pub returns-in-Unshared : goal.returns-in-Unshared
returns-in-Unshared c =
    let a = c.args in
    let g = c.in-Unshared in
    notice_put a.notice (Unshared g.boundary) a.at a.warnings.now c.put_single-in-Unshared.new.warnings g.is c.put_single-in-Unshared.ensures

pub returns-in-Pieces : goal.returns-in-Pieces
returns-in-Pieces c =
    let a = c.args in
    let g = c.in-Pieces in
    notice_put a.notice (Pieces g.boundary g.first g.second) a.at a.warnings.now c.put_pieces.new.warnings g.is c.put_pieces.ensures
