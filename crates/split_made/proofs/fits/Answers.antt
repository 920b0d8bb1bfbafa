use mathlib.Core.Path.{◌∙◌}
use lib.ListN.{length}
use Rattle.split_room.proofs.Points.{fit-part}
use Rattle.split_made.proofs.Parts.{all_fit}
use Rattle.split_relay.specs.Given.{cutting_by}
use Rattle.lent.specs.Lent.{view_tables}
use Rattle.split_made.proofs.fits.Goals as goal

pub returns : goal.returns
returns c = all_fit (cutting_by c.args.cuts) c.args.anchored.now (view_tables c.args.map) c.points_after-points.result c.pieces_fit.result c.pieces_fit-2.result c.both-pieces_fit.result c.points_fit.result c.both-lines_fit.result c.lists_fit-roads_fit.result c.lists_fit-junctions_fit.result c.rules_fit-rules_fit.result c.both.result c.both-2.result c.both-3.result c.points_after-points.ensures (c.pieces_fit.ensures ∙ fit-part c.args.cuts.lines.now c.args.cuts.many c.requires.lines) (c.pieces_fit-2.ensures ∙ fit-part c.args.cuts.centers.now (length c.args.cuts.cut.now) c.requires.centers) c.both-pieces_fit.ensures c.points_fit.ensures c.both-lines_fit.ensures c.lists_fit-roads_fit.ensures c.lists_fit-junctions_fit.ensures c.rules_fit-rules_fit.ensures c.both.ensures c.both-2.ensures c.both-3.ensures
