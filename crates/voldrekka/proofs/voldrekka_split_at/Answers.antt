-- `voldrekka::voldrekka_split_at` meets its contract: both pieces are written only where they fit. Assumes nothing.
use borrow.Author.Rules.{rules}
use mathlib.Core.Path.{◌≡◌, refl, sym, ◌∙◌}
use borrow.Author.Tests.{leb-true}
use mathlib.Core.Bool.{Bool, true, false, not}
use lib.ListN.{length}
use Prim.Native.Nat.{◌+◌, ◌*◌}
use Rattle.polyline.specs.Polyline.{points, first_piece, second_piece}
use Rattle.voldrekka.specs.Split.{pieces_fit}
use Rattle.voldrekka.proofs.voldrekka_split_at.Goals as goal

pub returns-then-not-fits : goal.returns-then-not-fits
returns-then-not-fits c = rw (sym c.fits.ensures ∙ c.if-not-fits.true) (refl, (refl, refl))

pub split_at-pieces-requires : goal.split_at-pieces-requires
unfolding pieces_fit
split_at-pieces-requires c =
    let ps = points c.args.line.now in
    let s = c.args.station in
    leb-true ((length (first_piece ps s) + length (second_piece ps s)) * 3) (length c.args.out.now) (sym c.fits.ensures ∙ c.if-not-fits.false)

pub returns : goal.returns
returns c = rw (sym c.fits.ensures ∙ c.if-not-fits.false) c.split_at-pieces.ensures
