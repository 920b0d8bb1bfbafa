-- A table written back with records changed one by one, or with none changed. Assumes nothing.
use mathlib.Core.Path.{◌≡◌, refl, sym, ap, ◌∙◌}
use Prim.Native.Nat.{ℕ, zero, suc, ◌+◌, ◌*◌, ◌≤◌}
use native.Mathlib.Nat.{zero-mul}
use native.Mathlib.Omega.{arith}
use mathlib.Core.Bool.{Bool, true, false, ◌||◌}
use mathlib.Core.List.{List, [], ◌∷◌, map}
use lib.ListN.{length, get_or, take, drop, length-map}
use lib.Seq.{take-add, drop-cons}
use lib.Dec.{eqb}
use borrow.Author.Tests.{eq-eqb}
use Rattle.lists.specs.Rows.{reads}
use Rattle.lists.specs.Select.{each, has}
use Rattle.lists.specs.Every.{all}
use Rattle.lists.proofs.Rows.{length-reads, mapped-reads, over-itself}
use Rattle.lists.proofs.Select.{keep_all, all-weaken}
use Rattle.tables.specs.View.{word, rows}
use Rattle.store.specs.Store.{packed, store_rows}
use Rattle.store.specs.Rows.{map_rows}
use Rattle.store.proofs.Rows.{passing, rows_written, rows_stay}

-- ---- a list of rows, one after the other

pub joined-rows : (s n : ℕ) (w : List ℕ) → each (λ r. r) (reads s (λ r. r) n w) ≡ take (n * s) w
unfolding each reads
joined-rows s zero w = rw zero-mul
joined-rows s (suc n) w =
    let e : s + n * s ≡ suc n * s = omega arith in
    rw (joined-rows s n (drop s w), ← take-add s (n * s) w, e)

-- every element's key is among the keys
pub all-keyed : {A : Type 0} (h : A → ℕ) (xs : List A) → all (λ x. has (h x) (map h xs)) xs ≡ true
unfolding all has
all-keyed h [] = refl
all-keyed h (x ∷ xs) =
    rw (eq-eqb (h x) (h x) refl)
    (all-weaken (λ y. has (h y) (map h xs)) (λ y. eqb (h y) (h x) || has (h y) (map h xs)) xs (λ y e. rw e (either (eqb (h y) (h x)))) (all-keyed h xs))
  where
    either : (b : Bool) → (b || true) ≡ true
    either true = refl
    either false = refl

pub same_reads : {B : Type 0} (s : ℕ) (f g : List ℕ → B) → ((r : List ℕ) → f r ≡ g r) → (n : ℕ) (w : List ℕ) → reads s f n w ≡ reads s g n w
unfolding reads
same_reads s f g e zero w = refl
same_reads s f g e (suc n) w = rw (e (take s w), same_reads s f g e n (drop s w))

-- no row goes
pub packed_all : (s n : ℕ) (w : List ℕ) → n * s ≤ length w → packed s (reads s (λ r. get_or r 0 0) n w) n w ≡ w
unfolding packed
packed_all s n w h =
    let rs = reads s (λ r. r) n w in
    let k : map (λ r. get_or r 0 0) rs ≡ reads s (λ r. get_or r 0 0) n w = mapped-reads s (λ (r : List ℕ). r) (λ (r : List ℕ). get_or r 0 0) n w in
    let a : all (λ (r : List ℕ). has (get_or r 0 0) (reads s (λ r. get_or r 0 0) n w)) rs ≡ true =
    ap (λ ks. all (λ (r : List ℕ). has (get_or r 0 0) ks) rs) (sym k) ∙ all-keyed (λ (r : List ℕ). get_or r 0 0) rs in
    rw (keep_all (λ (r : List ℕ). has (get_or r 0 0) (reads s (λ r. get_or r 0 0) n w)) rs a, joined-rows s n w) (over-itself w (n * s) h)

-- ---- tables

module _ {R : Type 0} (s : ℕ) (onto : List ℕ → R → List ℕ) (key : R → ℕ) (dec : List ℕ → R) (t : List ℕ) (room : word 0 t * s ≤ length (drop 1 t)) where
  -- each record changed, with its id kept
  pub store-changed : (f : R → R) → ((r : List ℕ) → key (f (dec r)) ≡ get_or r 0 0)
      → store_rows s onto key t (map f (rows s dec t)) ≡ word 0 t ∷ map_rows s (λ r. onto r (f (dec r))) (word 0 t) (drop 1 t)
  unfolding store_rows rows
  store-changed f same =
      let n = word 0 t in
      let w = drop 1 t in
      let ks : map key (map f (reads s dec n w)) ≡ reads s (λ r. get_or r 0 0) n w =
      ap (map key) (mapped-reads s dec f n w) ∙ (mapped-reads s (λ r. f (dec r)) key n w ∙ same_reads s (λ r. key (f (dec r))) (λ r. get_or r 0 0) same n w) in
      let l : length (map f (reads s dec n w)) ≡ n = length-map (reads s dec n w) f ∙ length-reads s dec n w in
      rw (l, ks, packed_all s n w room, rows_written s onto dec f n w)

  -- every record as it was read
  pub store_same : (good : List ℕ → Bool) → ((r : List ℕ) → key (dec r) ≡ get_or r 0 0) → ((r : List ℕ) → length r ≡ s → good r ≡ true → onto r (dec r) ≡ r)
      → 1 ≤ length t → passing s good (word 0 t) (drop 1 t) → store_rows s onto key t (rows s dec t) ≡ t
  store_same good keys same some a =
      let i : store_rows s onto key t (rows s dec t) ≡ store_rows s onto key t (map (λ r. r) (rows s dec t)) = ap (store_rows s onto key t) (sym (unmapped (rows s dec t))) in
      let e : drop 0 t ≡ get_or t 0 0 ∷ drop 1 t = drop-cons t 0 0 some in
      i ∙ (store-changed (λ r. r) keys ∙ (ap (λ z. word 0 t ∷ z) (rows_stay s good (λ r. onto r (dec r)) same (word 0 t) (drop 1 t) room a) ∙ sym e))
    where
      unmapped : (xs : List R) → map (λ r. r) xs ≡ xs
      unmapped [] = refl
      unmapped (x ∷ xs) = ap (λ z. x ∷ z) (unmapped xs)
