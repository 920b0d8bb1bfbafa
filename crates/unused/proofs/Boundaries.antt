-- The boundaries that go with a lane. Assumes nothing.
use Rattle.std.specs.Prelude.{Option, None, Some}
use mathlib.Core.Path.{◌≡◌, refl, sym, ap, ◌∙◌}
use Prim.Native.Nat.{ℕ, ◌+◌, ◌*◌, ◌≤◌, ◌<◌}
use native.Mathlib.Omega.{arith}
use mathlib.Core.Bool.{Bool, true, false, not, cond, ◌&&◌, ◌||◌, true≢false}
use mathlib.Core.List.{List, [], ◌∷◌}
use lib.Dec.{eqb, ltb}
use lib.ListN.{length, get_or, drop}
use borrow.Author.Tests.{eqb-true, eqb-false, lt-ltb, ltb-false}
use Rattle.lists.specs.Rows.{keys, row_with, later}
use Rattle.lists.specs.Select.{keep, any, has, above, ascending}
use Rattle.lists.proofs.Booleans.{and-snd}
use Rattle.lists.proofs.Select.{has-keep, ascending-keep}
use Rattle.laws.proofs.Links.{eqb_swap}
use Rattle.tables.specs.View.{word}
use Rattle.tables.specs.Formed.{counted}
use Rattle.row_tests.specs.Returned.{lane_at}
use Rattle.row_tests.proofs.Lanes.{word_at, id-at}
use Rattle.lookup.specs.Lookup.{sorted_table, place_of, used_besides}
use Rattle.lists.proofs.Same.{ascending-same}
use Rattle.unused.specs.Parts.{Holds, lonely, ordered, own_alone, gone_with}
use Rattle.unused.specs.declared.Gone.{Gone}

-- ---- a boundary of the table

abbrev there : Option ℕ → Bool
there (Some j) = true
there None = false

found-has : (x : ℕ) (ks : List ℕ) → has x ks ≡ there (row_with x ks)
unfolding has any row_with
found-has x [] = refl
found-has x (k ∷ ks) = go (eqb k x) refl (row_with x ks) (found-has x ks)
  where
    go : (b : Bool) → eqb k x ≡ b → (r : Option ℕ) → has x ks ≡ there r → (eqb x k || has x ks) ≡ there (cond b (Some 0) (later r))
    go true e r h = rw (eqb_swap x k ∙ e)
    go false e (Some j) h = rw (eqb_swap x k ∙ e, h)
    go false e None h = rw (eqb_swap x k ∙ e, h)

module _ (lanes boundaries : List ℕ) (lane b : ℕ) (r : Option ℕ) (found : r ≡ place_of 5 boundaries b) where
  pub lonely-there : (j : ℕ) (u : Bool) → r ≡ Some j → u ≡ used_besides lanes b lane → not u ≡ lonely lanes boundaries lane b
  unfolding place_of
  lonely-there j u e f = ap not f ∙ ap (λ z. z && not (used_besides lanes b lane)) (sym (found-has b (keys 5 (word 0 boundaries) (drop 1 boundaries)) ∙ ap there (sym found ∙ e)))

  pub lonely-missing : r ≡ None → false ≡ lonely lanes boundaries lane b
  unfolding place_of
  lonely-missing e = ap (λ z. z && not (used_besides lanes b lane)) (sym (found-has b (keys 5 (word 0 boundaries) (drop 1 boundaries)) ∙ ap there (sym found ∙ e)))

-- ---- two boundaries, one or none

-- x is the left one or the right one, whichever is chosen: of the tests that x is the left (p), the right (q), that left (a) and right (b) are
-- chosen, that the two are one (c), and that x is chosen (d)
chosen-table : (p q a b c d : Bool) → (p ≡ true → d ≡ a) → (q ≡ true → d ≡ b) → (c ≡ true → p ≡ q) → cond (a && b && not c) (p || q) (cond a p (cond b q false)) ≡ ((p || q) && d)
chosen-table true q true true true d f g h = sym (f refl)
chosen-table true q true true false d f g h = sym (f refl)
chosen-table true q true false c d f g h = sym (f refl)
chosen-table true true false true c d f g h = absurd (true≢false (sym (g refl) ∙ f refl))
chosen-table true false false true c d f g h = sym (f refl)
chosen-table true q false false c d f g h = sym (f refl)
chosen-table false true a b true d f g h = absurd (true≢false (sym (h refl)))
chosen-table false true true true false d f g h = sym (g refl)
chosen-table false true true false false d f g h = sym (g refl)
chosen-table false true false true false d f g h = sym (g refl)
chosen-table false true false false false d f g h = sym (g refl)
chosen-table false false true true true d f g h = refl
chosen-table false false true true false d f g h = refl
chosen-table false false true false c d f g h = refl
chosen-table false false false true c d f g h = refl
chosen-table false false false false c d f g h = refl

module _ (l r : ℕ) where
  ordered-has : (x : ℕ) → has x (ordered l r) ≡ (eqb l x || eqb r x)
  unfolding has
  ordered-has x = go (ltb l r)
    where
      go : (b : Bool) → has x (cond b (l ∷ r ∷ []) (r ∷ l ∷ [])) ≡ (eqb l x || eqb r x)
      go true = rw (eqb_swap x l, eqb_swap x r) (two (eqb l x) (eqb r x))
        where
          two : (p q : Bool) → (p || (q || false)) ≡ (p || q)
          two true q = refl
          two false true = refl
          two false false = refl
      go false = rw (eqb_swap x l, eqb_swap x r) (two (eqb l x) (eqb r x))
        where
          two : (p q : Bool) → (q || (p || false)) ≡ (p || q)
          two true true = refl
          two true false = refl
          two false true = refl
          two false false = refl

  single-has : (x y : ℕ) → has x (y ∷ []) ≡ eqb y x
  unfolding has
  single-has x y = rw (eqb_swap x y) (one (eqb y x))
    where
      one : (p : Bool) → (p || false) ≡ p
      one true = refl
      one false = refl

  choice-has : (x : ℕ) (p a b : Bool) → has x (cond p (ordered l r) (cond a (l ∷ []) (cond b (r ∷ []) []))) ≡ cond p (eqb l x || eqb r x) (cond a (eqb l x) (cond b (eqb r x) false))
  unfolding has
  choice-has x true a b = ordered-has x
  choice-has x false true b = single-has x l
  choice-has x false false true = single-has x r
  choice-has x false false false = refl

  chosen-has : (f : ℕ → Bool) (x : ℕ) → has x (own_alone l r (f l) (f r)) ≡ ((eqb l x || eqb r x) && f x)
  chosen-has f x =
      choice-has x (f l && f r && not (eqb l r)) (f l) (f r)
      ∙ chosen-table (eqb l x) (eqb r x) (f l) (f r) (eqb l r) (f x) (λ e. ap f (sym (eqb-true l x e))) (λ e. ap f (sym (eqb-true r x e))) (λ e. ap (λ z. eqb z x) (eqb-true l r e))

  chosen-up : (a b : Bool) → ascending (own_alone l r a b) ≡ true
  unfolding ascending above
  chosen-up a b = go (a && b) (eqb l r) refl (ltb l r) refl
    where
      single : (a b : Bool) → ascending (cond a (l ∷ []) (cond b (r ∷ []) [])) ≡ true
      single true b = refl
      single false true = refl
      single false false = refl

      go : (p c : Bool) → eqb l r ≡ c → (d : Bool) → ltb l r ≡ d → ascending (cond (p && not c) (cond d (l ∷ r ∷ []) (r ∷ l ∷ [])) (cond a (l ∷ []) (cond b (r ∷ []) []))) ≡ true
      go false c e d f = single a b
      go true true e d f = single a b
      go true false e true f = rw f
      go true false e false f = let n = eqb-false l r e in let g = ltb-false l r f in rw (lt-ltb r l (less n g))
        where
          less : (l ≡ r → ⊥) → r ≤ l → r < l
          less n g = omega arith

pub gone-chosen : (lanes : List ℕ) (i : ℕ) (boundaries : List ℕ) → sorted_table 4096 5 boundaries ≡ true
    → let w = lane_at lanes i in own_alone (word 2 w) (word 4 w) (lonely lanes boundaries (word 0 w) (word 2 w)) (lonely lanes boundaries (word 0 w) (word 4 w)) ≡ gone_with lanes i boundaries
unfolding gone_with sorted_table
gone-chosen lanes i boundaries s =
    let w = lane_at lanes i in
    let ks = keys 5 (word 0 boundaries) (drop 1 boundaries) in
    let f = lonely lanes boundaries (word 0 w) in
    let own : ℕ → Bool = λ b. (eqb (word 2 w) b || eqb (word 4 w) b) && not (used_besides lanes b (word 0 w)) in
    ascending-same (own_alone (word 2 w) (word 4 w) (f (word 2 w)) (f (word 4 w))) (keep own ks) (chosen-up (word 2 w) (word 4 w) (f (word 2 w)) (f (word 4 w)))
    (ascending-keep own ks (and-snd (counted 4096 5 boundaries) (ascending ks) s))
    (λ x. chosen-has (word 2 w) (word 4 w) f x ∙ (swap (eqb (word 2 w) x || eqb (word 4 w) x) (has x ks) (not (used_besides lanes x (word 0 w))) ∙ sym (has-keep x own ks)))
  where
    swap : (p q r : Bool) → (p && (q && r)) ≡ (q && (p && r))
    swap true true r = refl
    swap true false r = refl
    swap false true r = refl
    swap false false r = refl

-- which are chosen, by the tests that were made
module _ (l r : ℕ) (a b x y : Bool) (f : x ≡ (a && b)) (g : y ≡ (x && not (eqb l r))) where
  both-chosen : (a && b && not (eqb l r)) ≡ y
  both-chosen = sym (g ∙ ap (λ z. z && not (eqb l r)) f)

  pub two-chosen : (g : Gone) → y ≡ true → Holds g (ordered l r) → Holds g (own_alone l r a b)
  two-chosen g t e = rw (both-chosen ∙ t) e

  pub left-chosen : (s : ℕ) → y ≡ false → a ≡ true → Holds (record { count = 1; first = l; second = s }) (own_alone l r a b)
  left-chosen s t e = rw (both-chosen ∙ t, e) (refl, refl)

  pub right-chosen : (s : ℕ) → y ≡ false → a ≡ false → b ≡ true → Holds (record { count = 1; first = r; second = s }) (own_alone l r a b)
  right-chosen s t e h = rw (both-chosen ∙ t, e, h) (refl, refl)

  pub none-chosen : (p q : ℕ) → y ≡ false → a ≡ false → b ≡ false → Holds (record { count = 0; first = p; second = q }) (own_alone l r a b)
  none-chosen p q t e h = rw (both-chosen ∙ t, e, h) (refl, refl)

-- the same, as the row's words are read
pub own-gone : (lanes : List ℕ) (i : ℕ) (boundaries : List ℕ) (n : Gone) (a b : Bool) → sorted_table 4096 5 boundaries ≡ true
    → a ≡ lonely lanes boundaries (get_or lanes (1 + i * 52) 0) (get_or lanes (1 + i * 52 + 2) 0)
    → b ≡ lonely lanes boundaries (get_or lanes (1 + i * 52) 0) (get_or lanes (1 + i * 52 + 4) 0)
    → Holds n (own_alone (get_or lanes (1 + i * 52 + 2) 0) (get_or lanes (1 + i * 52 + 4) 0) a b) → Holds n (gone_with lanes i boundaries)
own-gone lanes i boundaries n a b s e f g =
    let l = word_at lanes i 2 (omega arith) in
    let r = word_at lanes i 4 (omega arith) in
    let o = id-at lanes i in
    let x : a ≡ lonely lanes boundaries (word 0 (lane_at lanes i)) (word 2 (lane_at lanes i)) = e ∙ (ap (λ z. lonely lanes boundaries z (get_or lanes (1 + i * 52 + 2) 0)) o ∙ ap (lonely lanes boundaries (word 0 (lane_at lanes i))) l) in
    let y : b ≡ lonely lanes boundaries (word 0 (lane_at lanes i)) (word 4 (lane_at lanes i)) = f ∙ (ap (λ z. lonely lanes boundaries z (get_or lanes (1 + i * 52 + 4) 0)) o ∙ ap (lonely lanes boundaries (word 0 (lane_at lanes i))) r) in
    let same : own_alone (get_or lanes (1 + i * 52 + 2) 0) (get_or lanes (1 + i * 52 + 4) 0) a b ≡ gone_with lanes i boundaries =
    ap (λ z. own_alone z (get_or lanes (1 + i * 52 + 4) 0) a b) l
    ∙ (ap (λ z. own_alone (word 2 (lane_at lanes i)) z a b) r
    ∙ (ap (λ z. own_alone (word 2 (lane_at lanes i)) (word 4 (lane_at lanes i)) z b) x
    ∙ (ap (own_alone (word 2 (lane_at lanes i)) (word 4 (lane_at lanes i)) (lonely lanes boundaries (word 0 (lane_at lanes i)) (word 2 (lane_at lanes i)))) y ∙ gone-chosen lanes i boundaries s))) in
    (g.0 ∙ same, g.1 ∙ ap length same)
