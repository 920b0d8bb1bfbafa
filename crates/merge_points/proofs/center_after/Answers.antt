-- `merge_points::center_after` meets its contract. Assumes nothing.
use borrow.Author.Tests.{eq-eqb, ne_eqb}
use lib.ListN.{get_or}
use Rattle.merge_points.proofs.center_after.Goals as goal

pub returns-then-id-second : goal.returns-then-id-second
returns-then-id-second c = rw (eq-eqb (get_or c.args.row.now 0 0) c.args.second c.if-id-second.true)

pub returns-then-id-first : goal.returns-then-id-first
returns-then-id-first c = rw (ne_eqb (get_or c.args.row.now 0 0) c.args.second c.if-id-second.false, eq-eqb (get_or c.args.row.now 0 0) c.args.first c.if-id-first.true, c.unwrap_or.ensures)

pub returns-then-row-eq0 : goal.returns-then-row-eq0
returns-then-row-eq0 c = rw (ne_eqb (get_or c.args.row.now 0 0) c.args.second c.if-id-second.false, ne_eqb (get_or c.args.row.now 0 0) c.args.first c.if-id-first.false, eq-eqb (get_or c.args.row.now 6 0) 0 c.if-row-eq0.true)

pub returns : goal.returns
returns c = rw (ne_eqb (get_or c.args.row.now 0 0) c.args.second c.if-id-second.false, ne_eqb (get_or c.args.row.now 0 0) c.args.first c.if-id-first.false, ne_eqb (get_or c.args.row.now 6 0) 0 c.if-row-eq0.false)
