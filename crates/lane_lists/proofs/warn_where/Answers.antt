-- `lane_lists::warn_where` meets its contract: a row of ten words, or none. Assumes nothing.
use borrow.Author.Rules.{rules}
use Rattle.lane_lists.proofs.Warned.{warn_room, warn_on, warn_off}
use Rattle.lane_lists.proofs.warn_where.Goals as goal

pub put_orphan-requires : goal.put_orphan-requires
put_orphan-requires c =
    let a = c.args in
    warn_room a.warnings.now a.at a.rule a.on c.requires c.if-on.true

pub returns-then-on : goal.returns-then-on
returns-then-on c =
    let a = c.args in
    let p = c.put_orphan in
    warn_on a.warnings.now a.at a.rule a.on p.new.warnings c.if-on.true p.ensures

pub returns : goal.returns
returns c =
    let a = c.args in
    warn_off a.warnings.now a.at a.rule a.on c.if-on.false
