use Rattle.split_made.specs.Made.{left}
use Rattle.lent.specs.Lent.{map_tables}
use Rattle.split_relay.specs.Given.{cutting_by}
use Rattle.edit_split.proofs.Made.{anchors-ask, anchors-made}
use Rattle.edit_split.proofs.split_measured.Goals as goal

pub split_anchored-requires : goal.split_anchored-requires
split_anchored-requires c = anchors-ask c.args.join c.args.stations.now c.args.drawn (cutting_by c.args.cuts) (map_tables c.args.map.now) c.mark_rules.new.anchored c.mark_rules.new.past c.mark_rules.ensures c.requires

pub returns-clause-made : goal.returns-clause-made
returns-clause-made c = anchors-made c.args.join c.args.stations.now c.args.drawn (cutting_by c.args.cuts) (map_tables c.args.map.now) c.mark_rules.new.anchored c.mark_rules.new.past c.mark_rules.ensures c.args.lists.now.created.now c.args.lists.now.modified.now c.args.lists.now.deleted.now c.args.lists.now.warnings.now (left (map_tables c.split_anchored.new.map) c.split_anchored.new.lists.created.now c.split_anchored.new.lists.modified.now c.split_anchored.new.lists.deleted.now c.split_anchored.new.lists.warnings.now c.split_anchored.result) c.split_anchored.ensures.made
