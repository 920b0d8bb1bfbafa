use mathlib.Core.Path.{sym}
use Rattle.lent.specs.Lent.{lines_tables, map_tables}
use Rattle.split_relay.specs.Given.{cutting_by}
use Rattle.split_made.proofs.Parts.{all-written}
use Rattle.split_made.proofs.write.Goals as goal

-- each slice of the lines is still the map's
pub returns-clause-made : goal.returns-clause-made
returns-clause-made c =
    let a = c.args in
    let same = c.relay.ensures.same in
    all-written (cutting_by a.cuts) a.points a.anchored.now a.past.now (map_tables a.map.now) c.grow_rows.new.t c.grow_rows-2.new.t c.follow_rules.new.t c.grow_rows.ensures c.grow_rows-2.ensures c.follow_rules.ensures (lines_tables c.relay.new.lines) c.relay.ensures.made
    c.map-5-1.given.0 c.map-4-1.given.0 c.map-3-1.given.0 c.map-2-1.given.0 c.map-1.given.0
    (c.map-5-1.given.1 (sym same.lanes)) (c.map-4-1.given.1 (sym same.boundaries)) (c.map-3-1.given.1 (sym same.stop_lines)) (c.map-2-1.given.1 (sym same.crosswalks)) (c.map-1.given.1 (sym same.coordinates))
