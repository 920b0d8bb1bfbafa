-- `room::ids_left` meets its contract: where no id is asked for any counter will do. Assumes nothing.
use borrow.Author.Rules.{rules}
use borrow.Author.Tests.{eq-eqb, ne_eqb, leb-true, le-leb}
use mathlib.Core.Path.{◌≡◌, sym}
use Prim.Native.Nat.{ℕ, ◌+◌, ◌-◌, ◌≤◌, max}
use native.Mathlib.Omega.{arith}
use lib.Dec.{leb}
use Rattle.lists.proofs.Booleans.{same_test}
use Rattle.room.specs.Room.{ids_left}
use Rattle.room.proofs.ids_left.Goals as goal

abbrev last : ℕ
last = 18446744073709551615

left : (counter ids n : ℕ) → n ≡ max counter 1 → n ≤ last → (ids ≡ 0 → ⊥) → leb ids (last - n) ≡ ids_left counter ids
left counter ids n e l h =
    rw (ne_eqb ids 0 h) (same_test (leb ids (last - n)) (leb (max counter 1 + ids) last) (λ t. le-leb (max counter 1 + ids) last (omega (arith, leb-true ids (last - n) t)))
    (λ t. le-leb ids (last - n) (omega (arith, leb-true (max counter 1 + ids) last t))))

pub returns-then-ids-eq0 : goal.returns-then-ids-eq0
returns-then-ids-eq0 c =
    let a = c.args in
    sym (rw (eq-eqb a.ids 0 c.if-ids-eq0.true) (le-leb a.counter last (omega (arith, c.well_formed))))

pub returns : goal.returns
returns c =
    let a = c.args in
    left a.counter a.ids c.next_id.result c.next_id.ensures (omega (arith, c.next_id.ensures, c.well_formed)) c.if-ids-eq0.false
