-- `apart::mark_line` meets its contract. The invariant: the line's first i points are marked, and nothing else has changed.
use mathlib.Core.Path.{◌≡◌, refl, sym, ap, ◌∙◌}
use mathlib.Core.Bool.{Bool, true}
use mathlib.Core.List.{List}
use Prim.Native.Nat.{ℕ, ◌+◌}
use native.Mathlib.Omega.{arith}
use lib.ListN.{set, length-set}
use Rattle.lists.specs.Rows.{over}
use Rattle.lists.proofs.Rows.{over-nil}
use Rattle.apart.specs.Marks.{trues, marked}
use Rattle.apart.proofs.Marks.{mark-more}
use Rattle.apart.proofs.mark_line.Goals as goal

pub loop-i-init : goal.loop-i-init
loop-i-init c = (omega arith, (refl, sym (over-nil c.args.marks.now c.args.start)))

pub loop-i-preserved : goal.loop-i-preserved
loop-i-preserved c = (omega arith, (simp length-set c.loop-i.invariant.1.0, ap (λ (v : List Bool). set v (c.args.start + c.loop-i.i) true) c.loop-i.invariant.1.1 ∙ mark-more c.args.marks.now c.args.start c.args.size c.loop-i.i c.requires c.loop-i-test.true))

pub returns : goal.returns
unfolding marked
returns c = let e : c.loop-i.i ≡ c.args.size = omega arith in c.loop-i.invariant.1.1 ∙ ap (λ (k : ℕ). over c.args.marks.now c.args.start (trues k)) e
