-- A table written back of which rows went: those whose ids pass move up with all their words, each changed with its id kept. Assumes nothing.
use mathlib.Core.Path.{◌≡◌, refl, sym, ap, ◌∙◌}
use Prim.Native.Nat.{ℕ, zero, suc, ◌+◌, ◌*◌, ◌≤◌}
use native.Mathlib.Nat.{mul-le-mul_right}
use native.Mathlib.Omega.{arith}
use mathlib.Core.Bool.{Bool, true, ◌&&◌}
use mathlib.Core.List.{List, [], ◌∷◌, ◌++◌, map, append_assoc}
use lib.ListN.{length, get_or, take, drop, length-map, length-drop}
use lib.Seq.{length-take-le, take_at, drop_at, drop-cons}
use lib.Dec.{eqb}
use borrow.Author.Tests.{eq-eqb, eqb-true}
use Rattle.lists.specs.Every.{all}
use Rattle.lists.specs.Rows.{reads, over}
use Rattle.lists.specs.Select.{keep, each, has}
use Rattle.lists.proofs.Booleans.{and-fst, and-snd}
use Rattle.lists.proofs.Rows.{length-reads, mapped-reads}
use Rattle.lists.proofs.Select.{all_keep, all_map, has-keep, length-keep, keep-map, keep_same, map-twice, map_same, map-itself}
use Rattle.tables.specs.View.{word, rows}
use Rattle.store.specs.Store.{writes, packed, store_rows}
use Rattle.store.specs.Rows.{map_rows, on_rows, kept_rows}
use Rattle.store.proofs.Rows.{passing, rows_written, rows_stay}
use Rattle.store.proofs.Whole.{all-keyed}
use Rattle.store.proofs.Back.{packed-length}

-- ---- general

-- a test that all pass, and another
pub keep-passing : {A : Type 0} (a b : A → Bool) (xs : List A) → all a xs ≡ true → keep (λ x. a x && b x) xs ≡ keep b xs
unfolding keep all
keep-passing a b [] h = refl
keep-passing a b (x ∷ xs) h = rw (and-fst (a x) (all a xs) h, keep-passing a b xs (and-snd (a x) (all a xs) h))

-- the elements whose keys are among those of the elements that pass are the elements that pass
keep-keyed : {A : Type 0} (h : A → ℕ) (q : ℕ → Bool) (xs : List A) → keep (λ x. has (h x) (map h (keep (λ x. q (h x)) xs))) xs ≡ keep (λ x. q (h x)) xs
keep-keyed h q xs =
    keep_same (λ x. has (h x) (map h (keep (λ x. q (h x)) xs))) (λ x. has (h x) (map h xs) && q (h x)) xs
    (λ x. ap (has (h x)) (sym (keep-map q h xs)) ∙ has-keep (h x) q (map h xs))
    ∙ keep-passing (λ x. has (h x) (map h xs)) (λ x. q (h x)) xs (all-keyed h xs)

-- ---- rows one after the other

-- every row has its length
all-long : (s n : ℕ) (w : List ℕ) → n * s ≤ length w → all (λ r. eqb (length r) s) (reads s (λ r. r) n w) ≡ true
unfolding all reads
all-long s zero w h = refl
all-long s (suc n) w h =
    let i : s ≤ length w = omega arith in
    let j : n * s ≤ length (drop s w) = rw length-drop (omega arith) in
    rw (eq-eqb (length (take s w)) s (length-take-le s w i), all-long s n (drop s w) j)

-- rows laid one after the other are read as they were
joined-read : {B : Type 0} (s : ℕ) (dec : List ℕ → B) (rs : List (List ℕ)) (behind : List ℕ) → all (λ r. eqb (length r) s) rs ≡ true
    → reads s dec (length rs) (each (λ r. r) rs ++ behind) ≡ map dec rs
unfolding reads each all
joined-read s dec [] behind h = refl
joined-read s dec (r ∷ rs) behind h =
    let a : length r ≡ s = eqb-true (length r) s (and-fst (eqb (length r) s) (all (λ r. eqb (length r) s) rs) h) in
    let b = and-snd (eqb (length r) s) (all (λ r. eqb (length r) s) rs) h in
    let e = append_assoc r (each (λ r. r) rs) behind in
    let z = each (λ r. r) rs ++ behind in
    rw (e, take_at r z s a, drop_at r z s a, joined-read s dec rs behind b)

pub every-row : (s n : ℕ) (w : List ℕ) → passing s (λ r. true) n w
unfolding reads all
every-row s zero w = refl
every-row s (suc n) w = every-row s n (drop s w)

-- ---- the rows that stay

module _ (s : ℕ) (q : ℕ → Bool) (t : List ℕ) where
  -- the rows themselves
  abbrev pub kept_ones : List (List ℕ)
  kept_ones = keep (λ r. q (word 0 r)) (rows s (λ r. r) t)

  -- the words behind the count
  abbrev pub kept_words : List ℕ
  kept_words = over (drop 1 t) 0 (each (λ r. r) kept_ones)

  -- rows read one by one
  pub rows-mapped : {B : Type 0} (dec : List ℕ → B) → rows s dec t ≡ map dec (rows s (λ r. r) t)
  unfolding rows
  rows-mapped dec = sym (mapped-reads s (λ (r : List ℕ). r) dec (word 0 t) (drop 1 t))

  -- no more rows than there were
  pub kept-count : word 0 (kept_rows s q t) ≤ word 0 t
  unfolding kept_rows rows
  kept-count =
      let a = length-keep (λ (r : List ℕ). q (word 0 r)) (reads s (λ r. r) (word 0 t) (drop 1 t)) in
      let b = length-reads s (λ (r : List ℕ). r) (word 0 t) (drop 1 t) in
      omega (arith, a, b)

  -- records that are kept are read from rows that are kept
  pub kept-records : {R : Type 0} (key : R → ℕ) (dec : List ℕ → R) → ((r : List ℕ) → key (dec r) ≡ get_or r 0 0)
      → keep (λ x. q (key x)) (rows s dec t) ≡ map dec kept_ones
  kept-records key dec same =
      ap (keep (λ x. q (key x))) (rows-mapped dec)
      ∙ (keep-map (λ x. q (key x)) dec (rows s (λ r. r) t)
      ∙ ap (map dec) (keep_same (λ r. q (key (dec r))) (λ r. q (word 0 r)) (rows s (λ r. r) t) (λ r. ap q (same r))))

  -- the filter of `packed` looks at ids alone
  pub kept-packed : packed s (map (λ r. word 0 r) kept_ones) (word 0 t) (drop 1 t) ≡ kept_words
  unfolding packed rows
  kept-packed = ap (λ z. over (drop 1 t) 0 (each (λ r. r) z)) (keep-keyed (λ (r : List ℕ). word 0 r) q (reads s (λ r. r) (word 0 t) (drop 1 t)))

  module _ (room : word 0 t * s ≤ length (drop 1 t)) where
    pub words-read : {B : Type 0} (dec : List ℕ → B) → reads s dec (length kept_ones) kept_words ≡ map dec kept_ones
    unfolding over rows
    words-read dec =
        let rs = reads s (λ r. r) (word 0 t) (drop 1 t) in
        let k = keep (λ r. q (word 0 r)) rs in
        joined-read s dec k (drop (0 + length (each (λ r. r) k)) (drop 1 t))
        (all_keep (λ (r : List ℕ). eqb (length r) s) (λ (r : List ℕ). q (word 0 r)) rs (all-long s (word 0 t) (drop 1 t) room))

    -- what is read from the rows that stay
    pub kept_read : {B : Type 0} (dec : List ℕ → B) → rows s dec (kept_rows s q t) ≡ map dec kept_ones
    kept_read dec = unfold rows kept_rows in words-read dec

    pub kept-view : {R : Type 0} (key : R → ℕ) (dec : List ℕ → R) → ((r : List ℕ) → key (dec r) ≡ get_or r 0 0)
        → rows s dec (kept_rows s q t) ≡ keep (λ x. q (key x)) (rows s dec t)
    kept-view key dec same = kept_read dec ∙ sym (kept-records key dec same)

    -- what every row passes, every row that stays passes
    pub kept-passing : (good : List ℕ → Bool) → all (λ b. b) (rows s good t) ≡ true → all (λ b. b) (rows s good (kept_rows s q t)) ≡ true
    kept-passing good h =
        let rs = rows s (λ r. r) t in
        let a : all good rs ≡ true = sym (all_map (λ b. b) good rs) ∙ (sym (ap (all (λ b. b)) (rows-mapped good)) ∙ h) in
        ap (all (λ b. b)) (kept_read good) ∙ (all_map (λ b. b) good kept_ones ∙ all_keep good (λ (r : List ℕ). q (word 0 r)) rs a)

    words-length : length kept_words ≡ length (drop 1 t)
    words-length = sym (ap length kept-packed) ∙ packed-length s (map (λ r. word 0 r) kept_ones) (word 0 t) (drop 1 t) room

    -- the table is as long as it was
    pub kept-length : 1 ≤ length t → length (kept_rows s q t) ≡ length t
    unfolding kept_rows
    kept-length some =
        let e : t ≡ get_or t 0 0 ∷ drop 1 t = drop-cons t 0 0 some in
        ap suc words-length ∙ sym (ap length e)

    -- the rows that stay lie behind their count
    pub kept-room : word 0 (kept_rows s q t) * s ≤ length (drop 1 (kept_rows s q t))
    unfolding kept_rows
    kept-room =
        let a = mul-le-mul_right s kept-count in
        let b = words-length in
        omega (arith, a, b)

-- ---- tables

module _ {R : Type 0} (s : ℕ) (onto : List ℕ → R → List ℕ) (key : R → ℕ) (dec : List ℕ → R) (t : List ℕ) (room : word 0 t * s ≤ length (drop 1 t)) where
  -- the rows whose ids pass stay, each changed with its id kept
  pub store_kept : (q : ℕ → Bool) (f : R → R) → ((r : List ℕ) → key (dec r) ≡ get_or r 0 0) → ((x : R) → key (f x) ≡ key x)
      → store_rows s onto key t (map f (keep (λ x. q (key x)) (rows s dec t))) ≡ on_rows s (λ w. onto w (f (dec w))) (kept_rows s q t)
  unfolding store_rows on_rows kept_rows
  store_kept q f keys same =
      let k = kept_ones s q t in
      let v = kept_words s q t in
      let g : List ℕ → List ℕ = λ w. onto w (f (dec w)) in
      let ids : map key (map f (map dec k)) ≡ map (λ r. word 0 r) k =
      ap (map key) (map-twice dec f k) ∙ (map-twice (λ r. f (dec r)) key k ∙ map_same (λ r. key (f (dec r))) (λ r. word 0 r) k (λ r. same (dec r) ∙ keys r)) in
      let n : length (map f (map dec k)) ≡ length k = length-map (map dec k) f ∙ length-map k dec in
      let p : packed s (map key (map f (map dec k))) (word 0 t) (drop 1 t) ≡ v = ap (λ z. packed s z (word 0 t) (drop 1 t)) ids ∙ kept-packed s q t in
      let w : writes s onto v (map f (map dec k)) ≡ map_rows s g (length k) v =
      ap (λ z. writes s onto v (map f z)) (sym (words-read s q t room dec)) ∙ rows_written s onto dec f (length k) v in
      ap (λ z. store_rows s onto key t (map f z)) (kept-records s q t key dec keys)
      ∙ (ap (λ z. z ∷ writes s onto (packed s (map key (map f (map dec k))) (word 0 t) (drop 1 t)) (map f (map dec k))) n
      ∙ (ap (λ z. length k ∷ writes s onto z (map f (map dec k))) p ∙ ap (λ z. length k ∷ z) w))

  -- the rows whose ids pass stay as they are
  pub store-thin : (q : ℕ → Bool) → ((r : List ℕ) → key (dec r) ≡ get_or r 0 0) → ((r : List ℕ) → length r ≡ s → onto r (dec r) ≡ r)
      → store_rows s onto key t (keep (λ x. q (key x)) (rows s dec t)) ≡ kept_rows s q t
  unfolding on_rows kept_rows
  store-thin q keys same =
      let v = kept_words s q t in
      let n = length (kept_ones s q t) in
      ap (store_rows s onto key t) (sym (map-itself (keep (λ x. q (key x)) (rows s dec t))))
      ∙ (store_kept q (λ x. x) keys (λ x. refl)
      ∙ ap (λ z. n ∷ z) (rows_stay s (λ r. true) (λ w. onto w (dec w)) (λ r l _. same r l) n v (kept-room s q t room) (every-row s n v)))
