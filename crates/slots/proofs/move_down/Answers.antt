-- `slots::move_down` meets its contract: what is copied within is what `over` puts there. Assumes nothing.
use Rattle.std.proofs.Common.{◌≡◌, ◌+◌, ◌-◌, length, take, drop, ◌∙◌, arith, append_assoc, length-take, length-drop}
use Rattle.lists.specs.Rows.{over}
use Rattle.slots.proofs.move_down.Goals as goal

pub returns : goal.returns
unfolding over
returns c =
    let w = c.args.words.now in
    let n = c.args.n in
    let whole : c.args.from + n - c.args.from ≡ n = omega arith in
    let long : length (take n (drop c.args.from w)) ≡ n = omega (arith, length-take n (drop c.args.from w), length-drop c.args.from w) in
    c.copy_within.ensures.after ∙ rw (whole, long) (append_assoc (take c.args.to w) (take n (drop c.args.from w)) (drop (c.args.to + n) w))
