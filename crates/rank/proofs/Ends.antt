-- What lies before the first id of an ascending list, or behind its last, does not stand in it. Assumes nothing.
use Rattle.std.specs.Prelude.{None}
use mathlib.Core.Path.{◌≡◌, refl, sym, ap, ◌∙◌}
use Prim.Native.Nat.{ℕ, suc, ◌-◌, ◌<◌}
use native.Mathlib.Omega.{arith}
use mathlib.Core.Bool.{true}
use mathlib.Core.List.{List, [], ◌∷◌}
use lib.ListN.{length, get_or}
use borrow.Author.Tests.{ne_eqb}
use Rattle.lists.specs.Rows.{keys, row_with}
use Rattle.lists.specs.Select.{ascending}
use Rattle.lists.proofs.Rows.{keys-one}
use Rattle.lists.proofs.Select.{ascending-from, ascending-upto}

-- an id that stands at no place is not found
missing : (id : ℕ) (ids : List ℕ) → ((k : ℕ) → k < length ids → get_or ids k 0 ≡ id → ⊥) → row_with id ids ≡ None
unfolding row_with
missing id [] h = refl
missing id (x ∷ ids) h = rw (ne_eqb x id (h 0 (omega arith)), missing id ids (λ k l e. h (suc k) (omega arith) e))

module _ (ids : List ℕ) (id : ℕ) where
  pub none-there : length ids ≡ 0 → None ≡ row_with id (keys 1 (length ids) ids)
  none-there e = sym (ap (row_with id) (keys-one ids) ∙ missing id ids (λ k l q. omega arith))

  module _ (up : ascending (keys 1 (length ids) ids) ≡ true) (some : 0 < length ids) where
    ascends : ascending ids ≡ true
    ascends = ap ascending (sym (keys-one ids)) ∙ up

    pub before-first : id < get_or ids 0 0 → None ≡ row_with id (keys 1 (length ids) ids)
    before-first h = sym (ap (row_with id) (keys-one ids) ∙ missing id ids (λ k l q. let g = ascending-from id ids 0 ascends h k (omega arith) l in omega arith))

    pub behind-last : get_or ids (length ids - 1) 0 < id → None ≡ row_with id (keys 1 (length ids) ids)
    behind-last h =
        sym (ap (row_with id) (keys-one ids) ∙ missing id ids (λ k l q. let g = ascending-upto id ids (length ids - 1) ascends (omega arith) h k (omega arith) in omega arith))
