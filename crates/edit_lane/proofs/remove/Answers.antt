-- `edit_lane::remove` meets its contract. Assumes nothing.
use mathlib.Core.Path.{sym, ◌∙◌}
use Prim.Native.Nat.{◌+◌, ◌*◌}
use native.Mathlib.Omega.{arith}
use lib.ListN.{get_or}
use Rattle.lookup.proofs.Laws.{sorted-row}
use Rattle.unused.specs.Parts.{tables, gone_with}
use Rattle.edit_lane.proofs.Ending.{orphans_formed, gone_few, named-room, gone-room, warn_room, refused_removal, done_removal, lane-read}
use Rattle.edit_lane.proofs.remove.Goals as goal

pub overflow_mul-lane : goal.overflow_mul-lane
overflow_mul-lane c = omega (arith, sorted-row 1024 52 c.args.map.now.lanes.now c.requires.lanes_are_sorted c.args.i c.requires.row)

pub overflow_add-lane : goal.overflow_add-lane
overflow_add-lane c = omega (arith, sorted-row 1024 52 c.args.map.now.lanes.now c.requires.lanes_are_sorted c.args.i c.requires.row)

pub offset_bounds-lanes-i : goal.offset_bounds-lanes-i
offset_bounds-lanes-i c = omega (arith, sorted-row 1024 52 c.args.map.now.lanes.now c.requires.lanes_are_sorted c.args.i c.requires.row)

pub bounds-lanes-i : goal.bounds-lanes-i
bounds-lanes-i c = omega (arith, sorted-row 1024 52 c.args.map.now.lanes.now c.requires.lanes_are_sorted c.args.i c.requires.row)

pub overflow_add-n : goal.overflow_add-n
overflow_add-n c = omega (arith, gone_few c.own_boundaries-own.result (gone_with c.args.map.now.lanes.now c.args.i c.args.map.now.boundaries.now) c.own_boundaries-own.ensures)

pub count-orphans-requires : goal.count-orphans-requires
count-orphans-requires c = orphans_formed c.args.map.now.rules.now c.requires.formed.rules

pub list_named-requires : goal.list_named-requires
list_named-requires c =
    let s = c in
    let a = s.args in
    (s.requires.formed, named-room (get_or a.map.now.lanes.now (1 + a.i * 52) 0) (tables a.map.now.lanes.now a.map.now.boundaries.now a.map.now.roads.now a.map.now.junctions.now a.map.now.rules.now) a.lists.now.modified.now a.lists.now.deleted.now a.lists.now.warnings.now c.own_boundaries-own.result (gone_with a.map.now.lanes.now a.i a.map.now.boundaries.now) c.own_boundaries-own.ensures c.count_named-named.result c.count-orphans.result c.count_named-named.ensures c.count-orphans.ensures (sym c.fits.ensures ∙ c.if-fits.true))

pub list_gone-requires : goal.list_gone-requires
list_gone-requires c =
    let s = c in
    let a = s.args in
    gone-room (get_or a.map.now.lanes.now (1 + a.i * 52) 0) (tables a.map.now.lanes.now a.map.now.boundaries.now a.map.now.roads.now a.map.now.junctions.now a.map.now.rules.now) a.lists.now.modified.now a.lists.now.deleted.now a.lists.now.warnings.now c.own_boundaries-own.result (gone_with a.map.now.lanes.now a.i a.map.now.boundaries.now) c.own_boundaries-own.ensures c.count_named-named.result c.count-orphans.result c.count_named-named.ensures c.count-orphans.ensures (sym c.fits.ensures ∙ c.if-fits.true)

pub warn-requires : goal.warn-requires
warn-requires c =
    let s = c in
    let a = s.args in
    (orphans_formed a.map.now.rules.now s.requires.formed.rules, warn_room (get_or a.map.now.lanes.now (1 + a.i * 52) 0) (tables a.map.now.lanes.now a.map.now.boundaries.now a.map.now.roads.now a.map.now.junctions.now a.map.now.rules.now) a.lists.now.modified.now a.lists.now.deleted.now a.lists.now.warnings.now c.own_boundaries-own.result (gone_with a.map.now.lanes.now a.i a.map.now.boundaries.now) c.own_boundaries-own.ensures c.count_named-named.result c.count-orphans.result c.count_named-named.ensures c.count-orphans.ensures (sym c.fits.ensures ∙ c.if-fits.true))

pub write-requires : goal.write-requires
write-requires c = (c.requires.formed, c.requires.boundaries_are_sorted)

pub returns-then-fits-clause-made : goal.returns-then-fits-clause-made
returns-then-fits-clause-made c =
    let a = c.args in
    let t = tables a.map.now.lanes.now a.map.now.boundaries.now a.map.now.roads.now a.map.now.junctions.now a.map.now.rules.now in
    let ids = gone_with a.map.now.lanes.now a.i a.map.now.boundaries.now in
    let w = c.write.new in
    lane-read a.map.now.lanes.now a.i t a.lists.now.modified.now a.lists.now.deleted.now a.lists.now.warnings.now ids _
    (done_removal (get_or a.map.now.lanes.now (1 + a.i * 52) 0) t a.lists.now.modified.now a.lists.now.deleted.now a.lists.now.warnings.now c.own_boundaries-own.result ids c.own_boundaries-own.ensures c.count_named-named.result c.count-orphans.result c.count_named-named.ensures c.count-orphans.ensures (sym c.fits.ensures ∙ c.if-fits.true)
    (tables w.lanes w.boundaries w.roads w.junctions w.rules) c.list_named.new.modified c.list_gone.new.deleted c.warn.new.warnings c.write.ensures c.list_named.ensures c.list_gone.ensures c.warn.ensures)

pub returns-clause-made : goal.returns-clause-made
returns-clause-made c =
    let a = c.args in
    let t = tables a.map.now.lanes.now a.map.now.boundaries.now a.map.now.roads.now a.map.now.junctions.now a.map.now.rules.now in
    let ids = gone_with a.map.now.lanes.now a.i a.map.now.boundaries.now in
    lane-read a.map.now.lanes.now a.i t a.lists.now.modified.now a.lists.now.deleted.now a.lists.now.warnings.now ids _
    (refused_removal (get_or a.map.now.lanes.now (1 + a.i * 52) 0) t a.lists.now.modified.now a.lists.now.deleted.now a.lists.now.warnings.now c.own_boundaries-own.result ids c.own_boundaries-own.ensures c.count_named-named.result c.count-orphans.result c.count_named-named.ensures c.count-orphans.ensures (sym c.fits.ensures ∙ c.if-fits.false))
