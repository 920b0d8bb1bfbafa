use mathlib.Core.Bool.{not}
use Rattle.split_made.specs.Made.{fits_after, left}
use Rattle.lent.specs.Lent.{map_tables}
use mathlib.Core.Path.{ap, ◌∙◌}
use Rattle.edit_split.proofs.Parts.{off, on}
use Rattle.split_relay.specs.Given.{cutting_by}
use Rattle.edit_split.proofs.Made.{no_room, make-asks, fit-made}
use Rattle.edit_split.proofs.split_anchored.Goals as goal

pub returns-then-not-fits-clause-made : goal.returns-then-not-fits-clause-made
returns-then-not-fits-clause-made c = no_room c.args.drawn (cutting_by c.args.cuts) c.args.anchored.now c.args.past.now (map_tables c.args.map.now) c.fits.result (c.fits.ensures ∙ ap (fits_after (cutting_by c.args.cuts) c.args.anchored.now) c.view.ensures) c.args.lists.now.created.now c.args.lists.now.modified.now c.args.lists.now.deleted.now c.args.lists.now.warnings.now (off c.fits.result (ap not c.if-not-fits.true))

pub make-requires : goal.make-requires
make-requires c = make-asks c.args.drawn (cutting_by c.args.cuts) c.args.anchored.now c.args.past.now (map_tables c.args.map.now) c.fits.result (c.fits.ensures ∙ ap (fits_after (cutting_by c.args.cuts) c.args.anchored.now) c.view.ensures) (on c.fits.result (ap not c.if-not-fits.false)) c.requires

pub returns-clause-made : goal.returns-clause-made
returns-clause-made c = fit-made c.args.drawn (cutting_by c.args.cuts) c.args.anchored.now c.args.past.now (map_tables c.args.map.now) c.fits.result (c.fits.ensures ∙ ap (fits_after (cutting_by c.args.cuts) c.args.anchored.now) c.view.ensures) (on c.fits.result (ap not c.if-not-fits.false)) c.args.lists.now.created.now c.args.lists.now.modified.now c.args.lists.now.deleted.now c.args.lists.now.warnings.now (left (map_tables c.make.new.map) c.make.new.lists.created.now c.make.new.lists.modified.now c.make.new.lists.deleted.now c.make.new.lists.warnings.now c.make.result) c.make.ensures.made
