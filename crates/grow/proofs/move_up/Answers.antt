-- `grow::move_up` meets its contract: by what was found and whether the places meet. Assumes nothing.
use mathlib.Core.Path.{◌∙◌}
use native.Mathlib.Omega.{arith}
use lib.ListN.{get_or, length-set}
use Rattle.lists.proofs.Rows.{keys-one, one_found, found_within}
use Rattle.grow.proofs.Growing.{moved-one, moved-met, moved-two}
use Rattle.grow.proofs.move_up.Goals as goal

pub rank-requires : goal.rank-requires
rank-requires c = rw keys-one c.requires.1.1.0

pub returns-in_default : goal.returns-in_default
returns-in_default c = let a = c.args in let f = c.rank in moved-one a.slots.now a.cut.now a.next a.i a.to c.requires.0 c.requires.1.0 f.result f.ensures c.in_default.is

pub overflow_add-second : goal.overflow_add-second
overflow_add-second c =
    let a = c.args in
    let f = c.rank in
    omega (arith, found_within (get_or a.slots.now a.i 0) a.cut.now c.in-Some.r (one_found (get_or a.slots.now a.i 0) a.cut.now f.result f.ensures ∙ c.in-Some.is))

pub returns-then-i-to : goal.returns-then-i-to
returns-then-i-to c = let a = c.args in let f = c.rank in moved-met a.slots.now a.cut.now a.next a.i a.to c.requires.0 c.requires.1.0 f.result f.ensures c.in-Some.r c.in-Some.is c.if-i-to.true

pub bounds-slots-front : goal.bounds-slots-front
bounds-slots-front c = simp length-set (omega arith)

pub returns : goal.returns
returns c = let a = c.args in let f = c.rank in moved-two a.slots.now a.cut.now a.next a.i a.to c.requires.0 c.requires.1.0 f.result f.ensures c.in-Some.r c.in-Some.is c.if-i-to.false
