use Rattle.split_made.proofs.Parts.{counted}
use Rattle.split_relay.specs.Given.{cutting_by}
use Rattle.lent.specs.Lent.{view_tables}
use Rattle.split_made.proofs.count.Goals as goal

pub returns : goal.returns
returns c = counted c.args.drawn.ids (cutting_by c.args.cuts) c.args.anchored.now c.args.past.now (view_tables c.args.map) c.count_modified.result c.count_warnings.result c.count_modified.ensures c.count_warnings.ensures
