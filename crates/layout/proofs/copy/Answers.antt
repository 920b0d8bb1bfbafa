-- `layout::copy` meets its contract: the part that is written is what `over` puts there. Assumes nothing.
use Rattle.std.proofs.Common.{◌++◌, ◌+◌, ◌-◌, ◌≤◌, length, take, drop, ap, sym, ◌∙◌, arith}
use lib.ListN.{length-drop}
use lib.Seq.{length-take-le}
use borrow.Rule.Slice.PartMut.{put_mid, Post-is}
use Rattle.lists.specs.Rows.{over}
use Rattle.layout.proofs.copy.Goals as goal

pub returns : goal.returns
unfolding over
returns c =
    let from = c.args.from.now in
    let to = c.args.out.now in
    let at = c.args.at in
    let n = c.args.n in
    let source = take n (drop c.args.start from) in
    let long : n ≤ length (drop c.args.start from) = rw length-drop (omega arith) in
    let size = length-take-le n (drop c.args.start from) long in
    ap (put_mid at (at + n - at) to) (c.copy_from_slice.ensures.after ∙ ap (λ k. take k (drop c.args.start from)) (omega arith))
    ∙ ap (λ z. take at to ++ (source ++ z)) (Post-is at (at + n) to (omega arith))
    ∙ ap (λ k. take at to ++ (source ++ drop (at + k) to)) (sym size)
