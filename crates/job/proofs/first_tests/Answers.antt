use mathlib.Core.Bool.{not}
use mathlib.Core.Path.{sym, ◌∙◌, ap}
use borrow.Author.Tests.{le-leb, lt-leb, not-false, not-true}
use Rattle.lent.specs.Lent.{view_tables}
use Rattle.job.proofs.Ends.{many-refused, short-refused, unsound_refused, all-passed}
use Rattle.job.proofs.first_tests.Goals as goal

pub returns-then-edits-gt-MAX_EDITS : goal.returns-then-edits-gt-MAX_EDITS
returns-then-edits-gt-MAX_EDITS c = sym (many-refused c.args.counter (view_tables c.args.map) c.args.edits (view_tables c.args.area) (lt-leb c.args.edits 64 c.if-edits-gt-MAX_EDITS.true))

pub sound-requires : goal.sound-requires
sound-requires c = tt

pub returns-then-not-sound : goal.returns-then-not-sound
returns-then-not-sound c = sym (unsound_refused c.args.counter (view_tables c.args.map) c.args.edits (view_tables c.args.area) (le-leb c.args.edits 64 c.if-edits-gt-MAX_EDITS.false) (sym c.sound.ensures ∙ not-true c.sound.result (ap not c.if-not-sound.true)))

pub fits-requires : goal.fits-requires
fits-requires c = tt

pub returns-then-not-fits : goal.returns-then-not-fits
returns-then-not-fits c = sym (short-refused c.args.counter (view_tables c.args.map) c.args.edits (view_tables c.args.area) (le-leb c.args.edits 64 c.if-edits-gt-MAX_EDITS.false) (sym c.sound.ensures ∙ not-false c.sound.result (ap not c.if-not-sound.false)) (sym c.fits.ensures ∙ not-true c.fits.result (ap not c.if-not-fits.true)))

pub returns : goal.returns
returns c = sym (all-passed c.args.counter (view_tables c.args.map) c.args.edits (view_tables c.args.area) (le-leb c.args.edits 64 c.if-edits-gt-MAX_EDITS.false) (sym c.sound.ensures ∙ not-false c.sound.result (ap not c.if-not-sound.false)) (sym c.fits.ensures ∙ not-false c.fits.result (ap not c.if-not-fits.false)))
