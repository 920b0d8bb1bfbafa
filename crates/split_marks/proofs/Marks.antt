-- Marks by row, one behind the other, and what a row's list names. Assumes nothing.
use Rattle.std.specs.Prelude.{Option, None, Some, is_some}
use mathlib.Core.Path.{◌≡◌, refl, sym, ap, ◌∙◌}
use Prim.Native.Nat.{ℕ, zero, suc, ◌+◌, ◌-◌, ◌*◌, ◌≤◌, ◌<◌}
use native.Mathlib.Numerals.{add-one}
use native.Mathlib.Omega.{arith}
use mathlib.Core.Bool.{Bool, true, false, ◌||◌, cond}
use mathlib.Core.List.{List, [], ◌∷◌, ◌++◌, map, map-append}
use lib.Dec.{eqb, leb}
use lib.ListN.{length, get_or, set, take, drop, length-set, length-map, drop_of_length-le}
use lib.Seq.{take_all, take-suc, take-take, drop-cons, drop-drop, get_or-take, get_or-drop, length-take-le}
use borrow.Author.Tests.{leb-true}
use Rattle.std.specs.List.{count_by}
use Rattle.std.proofs.lemmas.List.Recursion.{is_count_by}
use Rattle.lists.specs.Rows.{over, keys, row_with}
use Rattle.lists.specs.Select.{any, has}
use Rattle.lists.proofs.Every.{all_get_d}
use Rattle.lists.proofs.Rows.{drop-take, length-reads, get_d_reads, over-nil, store-behind, there, one_has}
use Rattle.tables.specs.View.{word, ids_at, rows}
use Rattle.row_tests.specs.Good.{all_rows}
use Rattle.row_tests.proofs.Tables.{table-some, table-few, row_room}
use Rattle.split_marks.specs.Touched.{names_cut, names_at, lane_touched, lane_at, alone_from, marked, Named}

-- ---- a list of ids

there-some : (r : Option ℕ) → there r ≡ is_some r
there-some (Some j) = refl
there-some None = refl

module _ (cut ids : List ℕ) where
  -- those from number i on name a cut lane
  abbrev pub names_from : ℕ → Bool
  names_from i = any (λ k. has k cut) (drop i ids)

  module _ (i : ℕ) (d : i < length ids) (r : Option ℕ) (e : r ≡ row_with (get_or ids i 0) (keys 1 (length cut) cut)) where
    names-turn : names_from i ≡ (is_some r || names_from (i + 1))
    unfolding any
    names-turn = rw (add-one, drop-cons ids i 0 d, one_has (get_or ids i 0) cut r e, there-some r)

    pub names-found : is_some r ≡ true → names_from i ≡ true
    names-found f = names-turn ∙ rw f

    pub names-other : is_some r ≡ false → names_from i ≡ names_from (i + 1)
    names-other f = names-turn ∙ rw f

  pub names-end : (i : ℕ) → length ids ≤ i → names_from i ≡ false
  unfolding any
  names-end i l = rw (drop_of_length-le ids l)

-- the list, as it is lent
pub names-lent : (cut t : List ℕ) (at n : ℕ) → n ≡ get_or t at 0 → (r : Bool) → r ≡ any (λ k. has k cut) (take (at + 1 + n - (at + 1)) (drop (at + 1) t)) → r ≡ names_at cut at t
names-lent cut t at n f r e =
    let m : at + 1 + n - (at + 1) ≡ n = omega arith in
    e ∙ rw (m, add-one at, f)

-- ---- the first n marks

pub marked-none : marked [] ≡ 0
unfolding marked
marked-none = refl

marked_more : (bs : List Bool) (b : Bool) → marked (bs ++ (b ∷ [])) ≡ cond b (marked bs + 1) (marked bs)
unfolding marked
marked_more [] true = refl
marked_more [] false = refl
marked_more (c ∷ bs) b = go c b (marked_more bs b)
  where
    go : (c b : Bool) → marked (bs ++ (b ∷ [])) ≡ cond b (marked bs + 1) (marked bs) → cond c (suc (marked (bs ++ (b ∷ [])))) (marked (bs ++ (b ∷ []))) ≡ cond b (cond c (suc (marked bs)) (marked bs) + 1) (cond c (suc (marked bs)) (marked bs))
    go true true e = omega (arith, e)
    go true false e = omega (arith, e)
    go false true e = e
    go false false e = e

-- as the library counts
marked-step : (b : Bool) (bs : List Bool) → marked (b ∷ bs) ≡ cond b (1 + marked bs) (marked bs)
unfolding marked
marked-step true bs = omega arith
marked-step false bs = refl

pub marked-count : (bs : List Bool) → marked bs ≡ count_by (λ b. b) bs
marked-count bs = is_count_by marked (λ b. b) marked-none marked-step bs

marked-front : (bs : List Bool) (i : ℕ) → marked (take i bs) ≤ marked bs
unfolding marked
marked-front [] zero = omega arith
marked-front [] (suc i) = omega arith
marked-front (b ∷ bs) zero = omega arith
marked-front (true ∷ bs) (suc i) = omega (arith, marked-front bs i)
marked-front (false ∷ bs) (suc i) = marked-front bs i

module _ (bs : List Bool) (i : ℕ) (h : i < length bs) where
  front-more : take (i + 1) bs ≡ take i bs ++ (get_or bs i false ∷ [])
  front-more = rw add-one (take-suc bs i false h)

  pub marked-one : get_or bs i false ≡ true → marked (take (i + 1) bs) ≡ marked (take i bs) + 1
  marked-one q = ap marked front-more ∙ marked_more (take i bs) (get_or bs i false) ∙ rw q

  pub marked-same : get_or bs i false ≡ false → marked (take (i + 1) bs) ≡ marked (take i bs)
  marked-same q = ap marked front-more ∙ marked_more (take i bs) (get_or bs i false) ∙ rw q

  pub marked-there : get_or bs i false ≡ true → marked (take i bs) + 1 ≤ marked bs
  marked-there q = omega (arith, marked-one q, marked-front bs (i + 1))

-- ---- those that keep their ids

alone-length : (pieces : List ℕ) (j : ℕ) (bs : List Bool) → length (alone_from pieces j bs) ≡ length bs
unfolding alone_from
alone-length pieces j [] = refl
alone-length pieces j (true ∷ bs) = ap suc (alone-length pieces (suc j) bs)
alone-length pieces j (false ∷ bs) = ap suc (alone-length pieces j bs)

-- the mark of one more
abbrev alone_mark : List ℕ → ℕ → Bool → Bool
alone_mark pieces j b = cond b (eqb (word (j * 3 + 1) pieces) (word (j * 3) pieces)) false

alone-more : (pieces : List ℕ) (j : ℕ) (bs : List Bool) (b : Bool) → alone_from pieces j (bs ++ (b ∷ [])) ≡ alone_from pieces j bs ++ (alone_mark pieces (j + marked bs) b ∷ [])
unfolding alone_from marked
alone-more pieces j [] true = let e : j + 0 ≡ j = omega arith in rw e
alone-more pieces j [] false = refl
alone-more pieces j (true ∷ bs) b =
    let e : suc j + marked bs ≡ j + suc (marked bs) = omega arith in
    ap (λ (z : List Bool). eqb (word (j * 3 + 1) pieces) (word (j * 3) pieces) ∷ z) (alone-more pieces (suc j) bs b ∙ rw e)
alone-more pieces j (false ∷ bs) b = ap (λ (z : List Bool). false ∷ z) (alone-more pieces j bs b)

-- marked up to row i; j is how many of them are cut
module _ (cut : List Bool) (pieces : List ℕ) (w : List Bool) where
  pub record Alone (j i : ℕ) (v : List Bool) : Type 0 where
    pub few : j ≤ i
    pub same : length v ≡ length w
    pub counted : j ≡ marked (take i cut)
    pub written : v ≡ over w 0 (alone_from pieces 0 (take i cut))

  pub alone-begins : Alone 0 0 w
  alone-begins = record { few = omega arith; same = refl; counted = sym marked-none; written = unfold alone_from in sym (over-nil w 0) }

  module _ (q : length cut ≤ length w) (j i : ℕ) (v : List Bool) (h : Alone j i v) (d : i < length cut) where
    next : (b : Bool) → b ≡ alone_mark pieces j (get_or cut i false) → (length (set v i b) ≡ length w) × (set v i b ≡ over w 0 (alone_from pieces 0 (take (i + 1) cut)))
    next b e =
        let k : 0 + marked (take i cut) ≡ j = omega (arith, h.counted) in
        let a = alone_from pieces 0 (take i cut) in
        let m : 0 + length a ≡ i = omega (arith, alone-length pieces 0 (take i cut), length-take-le i cut (omega arith)) in (
          length-set v i b ∙ h.same,
          ap (λ (z : List Bool). set z i b) h.written ∙ store-behind w 0 i a b m (omega arith)
              ∙ ap (over w 0) (sym (ap (alone_from pieces 0) (front-more cut i d) ∙ alone-more pieces 0 (take i cut) (get_or cut i false) ∙ rw (k, ← e))),
        )

    pub alone-room : marked cut * 3 ≤ length pieces → get_or cut i false ≡ true → j * 3 + 3 ≤ length pieces
    alone-room r g = omega (arith, h.counted, marked-there cut i d g)

    pub alone-cut : get_or cut i false ≡ true → Alone (j + 1) (i + 1) (set v i (eqb (get_or pieces (j * 3 + 1) 0) (get_or pieces (j * 3) 0)))
    alone-cut g =
        let x = next (eqb (get_or pieces (j * 3 + 1) 0) (get_or pieces (j * 3) 0)) (rw g) in
        record { few = omega (arith, h.few); same = x.0; counted = omega (arith, h.counted, marked-one cut i d g); written = x.1 }

    pub alone-left : get_or cut i false ≡ false → Alone j (i + 1) (set v i false)
    alone-left g =
        let x = next false (rw g) in
        record { few = omega (arith, h.few); same = x.0; counted = h.counted ∙ sym (marked-same cut i d g); written = x.1 }

-- ---- a test of every row

module _ (s : ℕ) (f : List ℕ → Bool) (t : List ℕ) (w : List Bool) where
  pub record Tested (i : ℕ) (v : List Bool) : Type 0 where
    pub same : length v ≡ length w
    pub written : v ≡ over w 0 (map f (take i (rows s (λ r. r) t)))

  pub test-begins : Tested 0 w
  test-begins = record { same = refl; written = sym (over-nil w 0) }

  rows-length : length (rows s (λ (r : List ℕ). r) t) ≡ word 0 t
  unfolding rows
  rows-length = length-reads s (λ (r : List ℕ). r) (word 0 t) (drop 1 t)

  module _ (i : ℕ) (v : List Bool) (h : Tested i v) where
    pub test-more : i < word 0 t → word 0 t ≤ length w → (b : Bool) → b ≡ f (take s (drop (1 + i * s) t)) → Tested (i + 1) (set v i b)
    unfolding rows
    test-more d k b e =
        let rs = rows s (λ (r : List ℕ). r) t in
        let l : i < length rs = omega (arith, rows-length) in
        let m : 0 + length (map f (take i rs)) ≡ i = omega (arith, length-map (take i rs) f, length-take-le i rs (omega arith)) in
        let r : get_or rs i [] ≡ take s (drop (1 + i * s) t) = get_d_reads s (λ (r : List ℕ). r) (word 0 t) i (drop 1 t) [] d ∙ rw drop-drop in
        let z : map f (take (i + 1) rs) ≡ map f (take i rs) ++ (b ∷ []) = rw (add-one, take-suc rs i [] l) (map-append f (take i rs) (get_or rs i [] ∷ []) ∙ rw (r, e)) in
        record { same = length-set v i b ∙ h.same; written = ap (λ (z : List Bool). set z i b) h.written ∙ store-behind w 0 i (map f (take i rs)) b m (omega arith) ∙ ap (over w 0) (sym z) }

    pub test-ends : word 0 t ≤ i → v ≡ over w 0 (map f (rows s (λ r. r) t))
    test-ends l = h.written ∙ ap (λ z. over w 0 (map f z)) (take_all i (rows s (λ r. r) t) (omega (arith, rows-length)))

-- ---- the list of a row

module _ (s k most limit : ℕ) (cut t : List ℕ) (w : List Bool) (h : Named s k most limit cut t w) where
  pub table-there : 1 ≤ length t
  table-there = table-some limit s t h.counts

  pub table-small : word 0 t ≤ 4096
  table-small = omega (arith, table-few limit s t h.counts, h.few)

  module _ (i : ℕ) (d : i < word 0 t) where
    abbrev row : List ℕ
    row = take s (drop (1 + i * s) t)

    pub row-there : 1 + i * s + s ≤ length t
    row-there = row_room limit s t h.counts i d

    few : word k row ≤ most
    unfolding all_rows rows
    few =
        let good : List ℕ → Bool = λ r. leb (word k r) most in
        let l : i < length (rows s good t) = rw (length-reads s good (word 0 t) (drop 1 t)) d in
        let e : get_or (rows s good t) i true ≡ good row = get_d_reads s good (word 0 t) i (drop 1 t) true d ∙ rw drop-drop in
        leb-true (word k row) most (sym e ∙ all_get_d (λ (b : Bool). b) (rows s good t) i true l h.rows)

    word-is : (j : ℕ) → j < s → word j row ≡ get_or t (1 + i * s + j) 0
    word-is j l = get_or-take s (drop (1 + i * s) t) j 0 l ∙ get_or-drop (1 + i * s) t j 0

    pub row_list : 1 + i * s + k + 1 + word (1 + i * s + k) t ≤ length t
    row_list = omega (arith, few, word-is k (omega (arith, h.list)), row-there, h.list)

    ids-are : ids_at (1 + i * s + k) t ≡ ids_at k row
    ids-are =
        let l : word k row ≤ s - suc k = omega (arith, few, h.list) in
        let a : 1 + i * s + suc k ≡ suc (1 + i * s + k) = omega arith in
        sym (rw (drop-take (suc k) s (drop (1 + i * s) t), take-take (word k row) (s - suc k) (drop (suc k) (drop (1 + i * s) t)) l, drop-drop, word-is k (omega (arith, h.list)), a))

    pub row_named : names_at cut (1 + i * s + k) t ≡ names_cut cut k row
    row_named = ap (any (λ j. has j cut)) ids-are

-- the same of a lane
pub lane-named : (limit : ℕ) (cut t : List ℕ) (w : List Bool) (h : Named 52 18 16 limit cut t w) (i : ℕ) (d : i < word 0 t) → lane_at cut (1 + i * 52) t ≡ lane_touched cut (take 52 (drop (1 + i * 52) t))
lane-named limit cut t w h i d =
    let e : get_or t (1 + i * 52) 0 ≡ word 0 (take 52 (drop (1 + i * 52) t)) = let a : 1 + i * 52 + 0 ≡ 1 + i * 52 = omega arith in sym (rw a at (word-is 52 18 16 limit cut t w h i d 0 (omega arith))) in
    rw (e, row_named 52 18 16 limit cut t w h i d)

-- a lane that is cut, and one that is not
module _ (cut t : List ℕ) (row : ℕ) (r : Option ℕ) (e : r ≡ row_with (get_or t row 0) (keys 1 (length cut) cut)) where
  pub lane-cut : (j : ℕ) → r ≡ Some j → true ≡ lane_at cut row t
  lane-cut j f = rw (one_has (get_or t row 0) cut r e, f)

  pub lane-other : r ≡ None → (b : Bool) → b ≡ names_at cut (row + 18) t → b ≡ lane_at cut row t
  lane-other f b g = rw (one_has (get_or t row 0) cut r e, f) g
