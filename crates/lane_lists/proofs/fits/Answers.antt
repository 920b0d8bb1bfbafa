-- `lane_lists::fits` meets its contract. Assumes nothing.
use borrow.Author.Rules.{rules}
use mathlib.Core.Path.{ap, ◌∙◌}
use mathlib.Core.Bool.{◌&&◌}
use Prim.Native.Nat.{◌/◌}
use lib.Dec.{leb}
use lib.ListN.{length}
use Rattle.lane_lists.proofs.fits.Goals as goal

pub returns : goal.returns
returns c = c.both-2.ensures ∙ ap (λ z. z && leb c.args.orphans (length c.args.warnings.now / 10)) c.both.ensures
