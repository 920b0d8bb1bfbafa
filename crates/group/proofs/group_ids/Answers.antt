-- `group::group_ids` meets its contract: the ids whose marks are the group's. Assumes nothing.
use mathlib.Core.Path.{refl, ap, ◌∙◌}
use mathlib.Core.Bool.{Bool, false}
use lib.ListN.{length, replicate, length-replicate}
use Rattle.lists.specs.Rows.{over}
use Rattle.group.proofs.Choose.{chosen-group, told-room, unset}
use Rattle.group.proofs.group_ids.Goals as goal

pub lateral_group-requires : goal.lateral_group-requires
lateral_group-requires c = (c.requires.0, (c.requires.1.0, (refl, unset 1024)))

pub marked_ids-requires : goal.marked_ids-requires
marked_ids-requires c =
    let u = c in
    let g = c.lateral_group in
    (u.requires.0, (told-room u.args.lanes.now u.requires.0 u.args.i (replicate 1024 false) g.new.seen (length-replicate {A = Bool} 1024 false) g.ensures, u.requires.1.1))

pub returns : goal.returns
returns c =
    let u = c in
    let g = c.lateral_group in
    let m = c.marked_ids in
    let e = chosen-group u.args.lanes.now u.requires.0 u.args.i u.requires.1.0 (replicate 1024 false) g.new.seen g.ensures in
    (m.ensures.0 ∙ ap length e, m.ensures.1 ∙ ap (over u.args.out.now 0) e)
