-- `slots::copy` meets its contract: the part that is written is what `over` puts there. Assumes nothing.
use Rattle.std.proofs.Common.{◌++◌, ◌+◌, ◌-◌, length, take, ap, ◌∙◌, arith}
use borrow.Rule.Slice.PartMut.{put_mid, Post-is}
use Rattle.lists.specs.Rows.{over}
use Rattle.slots.proofs.copy.Goals as goal

pub returns : goal.returns
unfolding over
returns c =
    let from = c.args.from.now in
    let to = c.args.to.now in
    let at = c.args.at in
    ap (put_mid at (at + length from - at) to) c.copy_from_slice.ensures.after
    ∙ ap (λ z. take at to ++ (from ++ z)) (Post-is at (at + length from) to (omega arith))
