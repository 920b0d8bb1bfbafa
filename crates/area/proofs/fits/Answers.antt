use Rattle.area.specs.Area.{area_fits}
use Rattle.area.proofs.fits.Goals as goal

-- src/lib.rt:11:1
pub returns : goal.returns
unfolding area_fits
returns c = rw (c.both-5.ensures, c.both-4.ensures, c.both-3.ensures, c.both-middle.ensures, c.both-2.ensures, c.both-large.ensures, c.both.ensures)
