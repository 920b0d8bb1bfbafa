-- The rows of the halves, store by store. Assumes nothing.
use mathlib.Core.Path.{◌≡◌, refl, sym, ap, ◌∙◌}
use Prim.Native.Nat.{ℕ}
use native.Mathlib.Omega.{arith}
use mathlib.Core.Bool.{Bool, true, false, not, cond}
use mathlib.Core.List.{List, [], ◌∷◌}
use lib.ListN.{length, set, length-set}
use borrow.Author.Tests.{eq-eqb, ne_eqb}
use Rattle.lists.specs.Rows.{over}
use Rattle.lists.proofs.Rows.{length_over, store_at, store-behind}
use Rattle.tables.specs.View.{word, mark}
use Rattle.split_rows.specs.Halves.{center_onto, head_row}

-- ---- a centreline

module _ (w : List ℕ) (on : Bool) (start size : ℕ) (h : length w ≡ 52) where
  pub center_put : on ≡ true → set (set w 7 start) 8 size ≡ center_onto on start size w
  center_put t =
      ap (λ v. set v 8 size) (store_at w 7 start (omega arith))
      ∙ (store-behind w 7 8 (start ∷ []) size refl (omega arith) ∙ sym (ap (λ b. cond b (over w 7 (start ∷ size ∷ [])) w) t))

  pub center_long : length (center_onto on start size w) ≡ 52
  center_long = go on
    where
      go : (b : Bool) → length (cond b (over w 7 (start ∷ size ∷ [])) w) ≡ 52
      go true = length_over w 7 (start ∷ size ∷ []) (omega arith) ∙ h
      go false = h

-- ---- the head of a second half's row

module _ (w : List ℕ) (h : length w ≡ 52) where
  head-put : (a b c d e f g : ℕ) → set (set (set (set (set (set (set w 0 a) 1 b) 2 c) 3 d) 4 e) 5 f) 6 g ≡ over w 0 (a ∷ b ∷ c ∷ d ∷ e ∷ f ∷ g ∷ [])
  head-put a b c d e f g =
      ap (λ v. set (set (set (set (set (set v 1 b) 2 c) 3 d) 4 e) 5 f) 6 g) (store_at w 0 a (omega arith))
      ∙ (ap (λ v. set (set (set (set (set v 2 c) 3 d) 4 e) 5 f) 6 g) (store-behind w 0 1 (a ∷ []) b refl (omega arith))
      ∙ (ap (λ v. set (set (set (set v 3 d) 4 e) 5 f) 6 g) (store-behind w 0 2 (a ∷ b ∷ []) c refl (omega arith))
      ∙ (ap (λ v. set (set (set v 4 e) 5 f) 6 g) (store-behind w 0 3 (a ∷ b ∷ c ∷ []) d refl (omega arith))
      ∙ (ap (λ v. set (set v 5 f) 6 g) (store-behind w 0 4 (a ∷ b ∷ c ∷ d ∷ []) e refl (omega arith))
      ∙ (ap (λ v. set v 6 g) (store-behind w 0 5 (a ∷ b ∷ c ∷ d ∷ e ∷ []) f refl (omega arith))
      ∙ store-behind w 0 6 (a ∷ b ∷ c ∷ d ∷ e ∷ f ∷ []) g refl (omega arith))))))

  tail-put : (a b c : ℕ) → set (set (set w 11 a) 12 b) 13 c ≡ over w 11 (a ∷ b ∷ c ∷ [])
  tail-put a b c =
      ap (λ v. set (set v 12 b) 13 c) (store_at w 11 a (omega arith))
      ∙ (ap (λ v. set v 13 c) (store-behind w 11 12 (a ∷ []) b refl (omega arith)) ∙ store-behind w 11 13 (a ∷ b ∷ []) c refl (omega arith))

module _ (w v : List ℕ) (id left right : ℕ) (h : length w ≡ 52) where
  abbrev pub speed : List ℕ
  speed = set (set (set (set (set (set (set (set w 0 id) 1 (word 1 v)) 2 left) 3 (word 3 v)) 4 right) 5 (word 5 v)) 6 (word 6 v)) 9 (word 9 v)

  abbrev pub limit : List ℕ
  limit = cond (mark 9 v) (set speed 10 (word 10 v)) speed

  pub limit-on : (word 9 v ≡ 0 → ⊥) → (x : List ℕ) → x ≡ set speed 10 (word 10 v) → x ≡ limit
  limit-on n x e = e ∙ sym (ap (λ b. cond (not b) (set speed 10 (word 10 v)) speed) (ne_eqb (word 9 v) 0 n))

  pub limit-off : word 9 v ≡ 0 → (x : List ℕ) → x ≡ speed → x ≡ limit
  limit-off n x e = e ∙ sym (ap (λ b. cond (not b) (set speed 10 (word 10 v)) speed) (eq-eqb (word 9 v) 0 n))

  speed_long : length speed ≡ 52
  speed_long = simp length-set h

  module _ (x : List ℕ) (e : x ≡ limit) where
    pub limit-long : length x ≡ 52
    limit-long = ap length e ∙ go (mark 9 v)
      where
        go : (b : Bool) → length (cond b (set speed 10 (word 10 v)) speed) ≡ 52
        go true = length-set speed 10 (word 10 v) ∙ speed_long
        go false = speed_long

    pub head_done : set (set (set x 11 (word 11 v)) 12 (word 12 v)) 13 (word 13 v) ≡ head_row id left right v w
    unfolding head_row
    head_done =
        tail-put x limit-long (word 11 v) (word 12 v) (word 13 v)
        ∙ ap (λ z. over z 11 (word 11 v ∷ word 12 v ∷ word 13 v ∷ []))
        (e ∙ ap (λ z. cond (mark 9 v) (set (set z 9 (word 9 v)) 10 (word 10 v)) (set z 9 (word 9 v))) (head-put w h id (word 1 v) left (word 3 v) right (word 5 v) (word 6 v)))

  pub head-long : length (head_row id left right v w) ≡ 52
  head-long = sym (ap length (head_done limit refl)) ∙ simp length-set (limit-long limit refl)
