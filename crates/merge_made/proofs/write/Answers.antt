-- `merge_made::write` meets its contract. Assumes nothing.
use mathlib.Core.Path.{sym}
use native.Mathlib.Omega.{arith}
use Rattle.lent.specs.Lent.{lines_tables, map_tables}
use Rattle.lookup.proofs.Laws.{sorted-row}
use Rattle.merge_made.proofs.Parts.{relay_asks, all-written}
use Rattle.merge_made.proofs.write.Goals as goal

pub overflow_mul-first : goal.overflow_mul-first
overflow_mul-first c = omega (arith, sorted-row 1024 52 c.args.map.now.lanes.now c.requires.looked.0 c.args.i c.requires.looked.1.0)

pub overflow_add-first : goal.overflow_add-first
overflow_add-first c = omega (arith, sorted-row 1024 52 c.args.map.now.lanes.now c.requires.looked.0 c.args.i c.requires.looked.1.0)

pub offset_bounds-lanes-i : goal.offset_bounds-lanes-i
offset_bounds-lanes-i c = omega (arith, sorted-row 1024 52 c.args.map.now.lanes.now c.requires.looked.0 c.args.i c.requires.looked.1.0)

pub bounds-lanes-i : goal.bounds-lanes-i
bounds-lanes-i c = omega (arith, sorted-row 1024 52 c.args.map.now.lanes.now c.requires.looked.0 c.args.i c.requires.looked.1.0)

pub overflow_mul-second : goal.overflow_mul-second
overflow_mul-second c = omega (arith, sorted-row 1024 52 c.args.map.now.lanes.now c.requires.looked.0 c.args.j c.requires.looked.1.1)

pub overflow_add-second : goal.overflow_add-second
overflow_add-second c = omega (arith, sorted-row 1024 52 c.args.map.now.lanes.now c.requires.looked.0 c.args.j c.requires.looked.1.1)

pub offset_bounds-lanes-j : goal.offset_bounds-lanes-j
offset_bounds-lanes-j c = omega (arith, sorted-row 1024 52 c.args.map.now.lanes.now c.requires.looked.0 c.args.j c.requires.looked.1.1)

pub bounds-lanes-j : goal.bounds-lanes-j
bounds-lanes-j c = omega (arith, sorted-row 1024 52 c.args.map.now.lanes.now c.requires.looked.0 c.args.j c.requires.looked.1.1)

pub relay-requires : goal.relay-requires
relay-requires c = let a = c.args in relay_asks a.join a.plan a.next a.gone.now a.i a.j (map_tables a.map.now) c.requires c.lines_reach-reach.result c.lines_reach-reach.ensures

-- each slice of the lines is still the map's
pub returns-clause-made : goal.returns-clause-made
returns-clause-made c =
    let a = c.args in
    let r = c.lines_reach-reach in
    let n = c.write_named in
    let same = c.relay.ensures.same in
    all-written a.join a.plan a.next a.gone.now a.i a.j (map_tables a.map.now) r.result r.ensures n.new.roads n.new.junctions n.new.rules n.ensures (lines_tables c.relay.new.lines) c.relay.ensures.made
    c.map-5-1.given.0 c.map-4-1.given.0 c.map-3-1.given.0 c.map-2-1.given.0 c.map-1.given.0
    (c.map-5-1.given.1 (sym same.lanes)) (c.map-4-1.given.1 (sym same.boundaries)) (c.map-3-1.given.1 (sym same.stop_lines)) (c.map-2-1.given.1 (sym same.crosswalks)) (c.map-1.given.1 (sym same.coordinates))
