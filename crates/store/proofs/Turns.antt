-- Rows moved to the front of a table: one turn, and the end. Assumes nothing.
use mathlib.Core.Path.{◌≡◌, refl, sym, ap, ◌∙◌, subst}
use Prim.Native.Nat.{ℕ, zero, suc, ◌+◌, ◌-◌, ◌*◌, ◌≤◌, ◌<◌}
use native.Mathlib.Nat.{zero-mul, mul-le-mul_right}
use native.Mathlib.Omega.{arith}
use mathlib.Core.Bool.{Bool, true, false, not, cond, ◌||◌, ◌&&◌}
use mathlib.Core.List.{List, [], ◌∷◌, ◌++◌, append-nil}
use lib.ListN.{length, get_or, set, take, drop, length-append, length-drop}
use lib.Seq.{get_or-take, get_or-drop, drop-drop, drop-cons, length-take-le}
use Rattle.lists.specs.Rows.{reads, over}
use Rattle.lists.specs.Select.{keep, each}
use Rattle.lists.proofs.Rows.{over-nil, over-over, drop-over, length-reads, length_over, row_within}
use Rattle.lists.proofs.Select.{keep_append, each_append, length-keep}
use Rattle.tables.specs.View.{word, rows}
use Rattle.store.specs.Rows.{kept_rows}

-- the rows up to one, and that one
pub reads_more : (s n : ℕ) (w : List ℕ) → reads s (λ r. r) (n + 1) w ≡ reads s (λ r. r) n w ++ (take s (drop (n * s) w) ∷ [])
unfolding reads
reads_more s zero w = rw zero-mul
reads_more s (suc n) w =
    let e : s + n * s ≡ suc n * s = omega arith in
    let z : suc n + 1 ≡ suc (n + 1) = omega arith in
    rw z (ap (λ z. take s w ∷ z) (reads_more s n (drop s w) ∙ rw (drop-drop, e)))

-- what lies behind a list that was written, further on
pub drop-behind : (w : List ℕ) (a : ℕ) (l : List ℕ) (k : ℕ) → a + length l ≤ k → a + length l ≤ length w → drop k (over w a l) ≡ drop k w
drop-behind w a l k h i =
    let m = a + length l in
    let e : k ≡ m + (k - m) = omega arith in
    rw (e, ← drop-drop (k - m) m (over w a l), ← drop-drop (k - m) m w, drop-over w a l i)

-- a list written behind a table's count
pub over-table : (x : ℕ) (w : List ℕ) (a : ℕ) (l : List ℕ) → over (x ∷ w) (1 + a) l ≡ x ∷ over w a l
unfolding over
over-table x w a l =
    let e : 1 + a ≡ suc a = omega arith in
    let f : suc a + length l ≡ suc (a + length l) = omega arith in
    rw (e, f)

module _ (s : ℕ) (q : ℕ → Bool) (w : List ℕ) where
  -- those that stay of the first n rows, and their words
  abbrev pub stay : ℕ → List (List ℕ)
  stay n = keep (λ r. q (get_or r 0 0)) (reads s (λ r. r) n w)

  abbrev pub stay_words : ℕ → List ℕ
  stay_words n = each (λ r. r) (stay n)

  pub stay-few : (n : ℕ) → length (stay n) ≤ n
  stay-few n = omega (arith, length-keep (λ r. q (get_or r 0 0)) (reads s (λ r. r) n w), length-reads s (λ (r : List ℕ). r) n w)

  stay-more : (n : ℕ) → stay (n + 1) ≡ stay n ++ keep (λ r. q (get_or r 0 0)) (take s (drop (n * s) w) ∷ [])
  stay-more n = ap (keep (λ r. q (get_or r 0 0))) (reads_more s n w) ∙ keep_append (λ r. q (get_or r 0 0)) (reads s (λ r. r) n w) (take s (drop (n * s) w) ∷ [])

  pub stay-on : (n : ℕ) → q (get_or (take s (drop (n * s) w)) 0 0) ≡ true → stay (n + 1) ≡ stay n ++ (take s (drop (n * s) w) ∷ [])
  unfolding keep
  stay-on n e = stay-more n ∙ rw e

  pub stay-off : (n : ℕ) → q (get_or (take s (drop (n * s) w)) 0 0) ≡ false → stay (n + 1) ≡ stay n
  unfolding keep
  stay-off n e = stay-more n ∙ rw (e, append-nil)

  -- the words of one more row that stays
  words-on : (n : ℕ) → q (get_or (take s (drop (n * s) w)) 0 0) ≡ true → stay_words (n + 1) ≡ stay_words n ++ take s (drop (n * s) w)
  words-on n e =
      ap (each (λ r. r)) (stay-on n e)
      ∙ (each_append (λ r. r) (stay n) (take s (drop (n * s) w) ∷ []) ∙ ap (λ z. stay_words n ++ z) (unfold each in append-nil (take s (drop (n * s) w))))

  -- rows of s words each
  pub stay-length : (n : ℕ) → n * s ≤ length w → length (stay_words n) ≡ length (stay n) * s
  unfolding keep each reads
  stay-length zero h = rw zero-mul
  stay-length (suc n) h =
      let z : n + 1 ≡ suc n = omega arith in
      subst (λ k. length (stay_words k) ≡ length (stay k) * s) z (go (q (get_or (take s (drop (n * s) w)) 0 0)) refl (stay-length n (omega arith)))
    where
      go : (b : Bool) → q (get_or (take s (drop (n * s) w)) 0 0) ≡ b → length (stay_words n) ≡ length (stay n) * s → length (stay_words (n + 1)) ≡ length (stay (n + 1)) * s
      go true e ih =
          let row = take s (drop (n * s) w) in
          let l : length row ≡ s = length-take-le s (drop (n * s) w) (rw length-drop (omega arith)) in
          let a : length (stay_words (n + 1)) ≡ length (stay n) * s + s = ap length (words-on n e) ∙ (length-append (stay_words n) row ∙ rw (ih, l)) in
          let b : length (stay (n + 1)) ≡ length (stay n) + 1 = ap length (stay-on n e) ∙ length-append (stay n) (row ∷ []) in
          a ∙ rw b (omega arith)
      go false e ih = ap (λ z. length (each (λ r. r) z)) (stay-off n e) ∙ (ih ∙ ap (λ z. length z * s) (sym (stay-off n e)))

-- ---- one row

-- neither of two
pub neither : (x y b : Bool) → b ≡ (not x && not y) → b ≡ not (x || y)
neither true y b e = e
neither false y b e = e

pub at_least : (i s : ℕ) → 0 < s → i ≤ i * s
at_least zero s h = omega arith
at_least (suc i) s h = let r = at_least i s h in omega arith

-- a row that stays, and one that goes
pub row_kept : {A B : Type 0} (b : Bool) (x y : A) (v w u : B) → b ≡ true → v ≡ w → (x ≡ cond b x y) × (v ≡ cond b w u)
row_kept b x y v w u t f = rw t (refl, f)

pub row-gone : {A B : Type 0} (b : Bool) (x y : A) (w u : B) → b ≡ false → (y ≡ cond b x y) × (u ≡ cond b w u)
row-gone b x y w u t = rw t (refl, refl)

-- ---- the loop

-- `kept` of the first n rows of the table t stand in front of it
pub record Moved (s : ℕ) (q : ℕ → Bool) (t₀ t : List ℕ) (n kept : ℕ) : Type 0 where
  pub upto : n ≤ word 0 t₀
  pub many : kept ≡ length (stay s q (drop 1 t₀) n)
  pub words : t ≡ word 0 t₀ ∷ over (drop 1 t₀) 0 (stay_words s q (drop 1 t₀) n)

module _ (s : ℕ) (q : ℕ → Bool) (t₀ : List ℕ) (room : 1 + word 0 t₀ * s ≤ length t₀) where
  abbrev w : List ℕ
  w = drop 1 t₀

  rows-room : (n : ℕ) → n ≤ word 0 t₀ → n * s ≤ length w
  rows-room n h = let m : n * s ≤ word 0 t₀ * s = mul-le-mul_right s h in rw length-drop (omega arith)

  pub moved_none : Moved s q t₀ t₀ 0 0
  unfolding keep each reads
  moved_none = record { upto = omega arith; many = refl; words = drop-cons t₀ 0 0 (omega arith) ∙ ap (λ z. word 0 t₀ ∷ z) (sym (over-nil w 0)) }

  module _ (t : List ℕ) (n kept : ℕ) (m : Moved s q t₀ t n kept) where
    pub moved-few : kept ≤ n
    moved-few = rw m.many (stay-few s q w n)

    words-few : length (stay_words s q w n) ≡ kept * s
    words-few = stay-length s q w n (rows-room n m.upto) ∙ ap (λ z. z * s) (sym m.many)

    words-room : kept * s ≤ n * s
    words-room = mul-le-mul_right s moved-few

    pub moved_length : length t ≡ length t₀
    moved_length =
        let a = rows-room n m.upto in
        let b : 0 + length (stay_words s q w n) ≤ length w = omega (arith, words-few, words-room) in
        ap length m.words ∙ (ap suc (length_over w 0 (stay_words s q w n) b) ∙ sym (ap length (drop-cons t₀ 0 0 (omega arith))))

    -- the next row lies in the table
    pub next-inside : n < word 0 t₀ → 1 + n * s + s ≤ length t
    next-inside h = omega (arith, moved_length, row_within n (word 0 t₀) s h, room)

    -- the rows that are not looked at yet are where they were
    pub row-there : take s (drop (1 + n * s) t) ≡ take s (drop (n * s) w)
    row-there =
        let e : 1 + n * s ≡ suc (n * s) = omega arith in
        let k : 0 + length (stay_words s q w n) ≤ n * s = omega (arith, words-few, words-room) in
        let l : 0 + length (stay_words s q w n) ≤ length w = omega (arith, words-few, words-room, rows-room n m.upto) in
        ap (λ z. take s (drop (1 + n * s) z)) m.words ∙ rw e (ap (take s) (drop-behind w 0 (stay_words s q w n) (n * s) k l))

    pub moved_on : n < word 0 t₀ → q (get_or (take s (drop (n * s) w)) 0 0) ≡ true
        → Moved s q t₀ (over t (1 + kept * s) (take s (drop (1 + n * s) t))) (n + 1) (kept + 1)
    moved_on h e =
        let row = take s (drop (n * s) w) in
        let l : kept * s ≤ length w = omega (arith, words-room, rows-room n m.upto) in
        let f : 0 + length (stay_words s q w n) ≡ kept * s = omega (arith, words-few) in
        record {
          upto = omega arith;
          many = ap (λ z. z + 1) m.many ∙ sym (ap length (stay-on s q w n e) ∙ length-append (stay s q w n) (row ∷ []));
          words =
              ap (λ z. over t (1 + kept * s) z) row-there
              ∙ (ap (λ z. over z (1 + kept * s) row) m.words
              ∙ (over-table (word 0 t₀) (over w 0 (stay_words s q w n)) (kept * s) row
              ∙ ap (λ z. word 0 t₀ ∷ z) (over-over w 0 (kept * s) (stay_words s q w n) row f l ∙ ap (over w 0) (sym (words-on s q w n e)))));
        }

    pub moved-off : n < word 0 t₀ → q (get_or (take s (drop (n * s) w)) 0 0) ≡ false → Moved s q t₀ t (n + 1) kept
    moved-off h e =
        record {
          upto = omega arith;
          many = m.many ∙ ap length (sym (stay-off s q w n e));
          words = m.words ∙ ap (λ z. word 0 t₀ ∷ over w 0 (each (λ r. r) z)) (sym (stay-off s q w n e));
        }

    key : 0 < s → word (1 + n * s) t ≡ get_or (take s (drop (n * s) w)) 0 0
    key p =
        let z : 1 + n * s + 0 ≡ 1 + n * s = omega arith in
        ap (λ k. get_or t k 0) (sym z)
        ∙ (sym (get_or-drop (1 + n * s) t 0 0) ∙ (sym (get_or-take s (drop (1 + n * s) t) 0 0 p) ∙ ap (λ x. get_or x 0 0) row-there))

    moved : (v : List ℕ) (r : ℕ) (y : List ℕ) (z : ℕ) → v ≡ y → r ≡ z → Moved s q t₀ y (n + 1) z → Moved s q t₀ v (n + 1) r
    moved v r y z a b k = subst (λ x. Moved s q t₀ x (n + 1) r) (sym a) (subst (λ x. Moved s q t₀ y (n + 1) x) (sym b) k)

    -- THE LAW: one turn, whatever tested the row's id
    pub moved-turn : 0 < s → n < word 0 t₀ → (b : Bool) → b ≡ q (word (1 + n * s) t) → (v : List ℕ) (r : ℕ) → r ≡ cond b (kept + 1) kept
        → v ≡ cond b (over t (1 + kept * s) (take s (drop (1 + n * s) t))) t → Moved s q t₀ v (n + 1) r
    moved-turn p h true c v r e f = moved v r _ _ f e (moved_on h (sym (c ∙ ap q (key p))))
    moved-turn p h false c v r e f = moved v r _ _ f e (moved-off h (sym (c ∙ ap q (key p))))

    pub moved_all : word 0 t₀ ≤ n → set t 0 kept ≡ kept_rows s q t₀
    unfolding kept_rows rows
    moved_all h =
        let e : n ≡ word 0 t₀ = omega (arith, m.upto) in
        ap (λ z. set z 0 kept) m.words ∙ (ap (λ z. z ∷ over w 0 (stay_words s q w n)) m.many ∙ ap (λ k. length (stay s q w k) ∷ over w 0 (stay_words s q w k)) e)
