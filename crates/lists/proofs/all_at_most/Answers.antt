-- `lists::all_at_most` meets its contract. The invariant: the list passes where what is left does. Assumes nothing.
use mathlib.Core.Path.{sym, ◌∙◌}
use Prim.Native.Nat.{ℕ}
use lib.Dec.{leb}
use lib.ListN.{get_or}
use borrow.Author.Tests.{le-leb, lt-leb}
use Rattle.lists.proofs.Every.{all-step, all_end}
use Rattle.lists.proofs.all_at_most.Goals as goal

pub returns-then-most-id : goal.returns-then-most-id
returns-then-most-id c =
    let ids = c.args.ids.now in
    let most = c.args.most in
    let i = c.loop-id.id-index in
    sym (c.loop-id.invariant ∙ all-step (λ (x : ℕ). leb x most) ids i 0 c.loop-id-test.true ∙ rw (lt-leb (get_or ids i 0) most c.if-most-id.true))

pub loop-id-preserved : goal.loop-id-preserved
loop-id-preserved c =
    let ids = c.args.ids.now in
    let most = c.args.most in
    let i = c.loop-id.id-index in
    c.loop-id.invariant ∙ all-step (λ (x : ℕ). leb x most) ids i 0 c.loop-id-test.true ∙ rw (le-leb (get_or ids i 0) most c.if-most-id.false)

pub returns : goal.returns
returns c = sym (c.loop-id.invariant ∙ all_end (λ (x : ℕ). leb x c.args.most) c.args.ids.now c.loop-id.id-index c.loop-id-test.false)
