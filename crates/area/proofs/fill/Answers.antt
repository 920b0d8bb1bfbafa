use native.Mathlib.Omega.{arith}
use mathlib.Core.Path.{◌∙◌, sym}
use lib.Seq.{length-take-le}
use Rattle.area.proofs.Lengths.{over-whole}
use lib.ListN.{length}
use Rattle.area.proofs.fill.Goals as goal

-- src/lib.rt:89:17
pub slice_bounds-copy-end : goal.slice_bounds-copy-end
slice_bounds-copy-end c = sym (length-take-le (length c.args.to.now) c.args.from.now c.requires)

-- src/lib.rt:89:5
pub copy-requires : goal.copy-requires
copy-requires c = let e = length-take-le (length c.args.to.now) c.args.from.now c.requires in omega (arith, e)

-- src/lib.rt:84:1
pub returns : goal.returns
returns c = c.copy.ensures ∙ over-whole _ _ (length-take-le (length c.args.to.now) c.args.from.now c.requires)
