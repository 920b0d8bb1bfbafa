-- `report::named` meets its contract: an id that is there changes nothing, and one that is not makes the list one longer. Assumes nothing.
use borrow.Author.Rules.{rules}
use mathlib.Core.Path.{sym, ◌∙◌}
use Prim.Native.Nat.{◌≤◌}
use native.Mathlib.Omega.{arith}
use lib.ListN.{length}
use lib.Seq.{length-take-le}
use Rattle.report.proofs.Laws.{named-old, named_new}
use Rattle.report.proofs.named.Goals as goal

pub slice_bounds-contains-end-2 : goal.slice_bounds-contains-end-2
slice_bounds-contains-end-2 c =
    let a = c.args in
    let j : a.n ≤ length a.ids.now = omega (arith, c.requires.0) in
    sym (length-take-le a.n a.ids.now j)

pub returns-then-contains : goal.returns-then-contains
returns-then-contains c =
    let a = c.args in
    named-old a.ids.now a.n a.id c.requires.0 c.requires.1 (sym c.contains.ensures ∙ c.if-contains.true)

pub insert-requires : goal.insert-requires
insert-requires c =
    (c.requires.0, (c.requires.1, sym c.contains.ensures ∙ c.if-contains.false))

pub returns : goal.returns
returns c =
    let a = c.args in
    named_new a.ids.now a.n a.id c.requires.0 c.insert.new.slots (sym c.contains.ensures ∙ c.if-contains.false) c.insert.ensures
