-- A table written back of which rows went and to which records came: those that come have ids that no row has, and are written onto the words
-- behind the rows that stay. And tables to which records are appended, one after another. Assumes nothing.
use mathlib.Core.Path.{◌≡◌, refl, sym, ap, ◌∙◌}
use Prim.Native.Nat.{ℕ, zero, suc, ◌+◌, ◌*◌, ◌≤◌}
use native.Mathlib.Nat.{add-zero, zero-mul}
use native.Mathlib.Omega.{arith}
use mathlib.Core.Bool.{Bool, true, false, not, ◌&&◌, ◌||◌, true≢false}
use mathlib.Core.List.{List, [], ◌∷◌, ◌++◌, map, map-append, append_assoc}
use lib.ListN.{length, get_or, set, take, drop, length-map, length-append, length-drop, take-append-drop}
use lib.Seq.{length-take-le, take_at, drop_at, drop-drop, drop-cons, take-add}
use borrow.Author.Tests.{le-leb}
use Rattle.lists.specs.Every.{all}
use Rattle.lists.specs.Rows.{reads, over, keys}
use Rattle.lists.specs.Select.{keep, each, has}
use Rattle.lists.proofs.Every.{all_append}
use Rattle.lists.proofs.Rows.{length-reads, mapped-reads, reads-take, over-itself}
use Rattle.lists.proofs.Select.{all_map, all-has, has-append, keep_all, keep_same, map-twice, map_same}
use Rattle.tables.specs.View.{word, rows}
use Rattle.tables.specs.Formed.{counted}
use Rattle.store.specs.Store.{writes, packed, store_rows}
use Rattle.store.specs.Rows.{map_rows, on_rows, kept_rows, appended_rows}
use Rattle.store.proofs.Rows.{passing, rows-length}
use Rattle.store.proofs.Whole.{all-keyed, joined-rows}
use Rattle.store.proofs.Back.{RowsFit}
use Rattle.store.proofs.Turns.{over-table}
use Rattle.store.proofs.Packing.{keep-passing, kept_ones, kept_words, kept-records, kept-packed, words-read, kept-passing, kept-room}
use Rattle.store.proofs.LaidTables.{writes-read, writes-length}

-- ---- rows and what lies behind them

-- rows changed, then the rest
rows-front : (s : ℕ) (g : List ℕ → List ℕ) (n : ℕ) (w : List ℕ) → map_rows s g n w ≡ each g (reads s (λ r. r) n w) ++ drop (n * s) w
unfolding map_rows each reads
rows-front s g zero w = rw zero-mul
rows-front s g (suc n) w =
    let e : s + n * s ≡ suc n * s = omega arith in
    ap (λ z. g (take s w) ++ z) (rows-front s g n (drop s w)) ∙ rw (append_assoc, drop-drop, e)

-- records changed and written where they were read, others behind them
written-front : {R : Type 0} (s : ℕ) (onto : List ℕ → R → List ℕ) (dec : List ℕ → R) (f : R → R) (new : List R) (n : ℕ) (w : List ℕ)
    → writes s onto w (map f (reads s dec n w) ++ new) ≡ each (λ r. onto r (f (dec r))) (reads s (λ r. r) n w) ++ writes s onto (drop (n * s) w) new
unfolding writes each reads
written-front s onto dec f new zero w = rw zero-mul
written-front s onto dec f new (suc n) w =
    let e : s + n * s ≡ suc n * s = omega arith in
    ap (λ z. onto (take s w) (f (dec (take s w))) ++ z) (written-front s onto dec f new n (drop s w)) ∙ rw (append_assoc, drop-drop, e)

-- rows that keep their length: the front, and what lies behind it
module _ (s : ℕ) (good : List ℕ → Bool) (g : List ℕ → List ℕ) (long : (r : List ℕ) → length r ≡ s → good r ≡ true → length (g r) ≡ s) (n : ℕ) (w : List ℕ) (h : n * s ≤ length w) (a : passing s good n w) where
  front_length : length (each g (reads s (λ r. r) n w)) ≡ n * s
  front_length =
      let x = rows-length s good g long n w h a in
      let y = ap length (rows-front s g n w) ∙ length-append (each g (reads s (λ r. r) n w)) (drop (n * s) w) in
      let z = length-drop (n * s) w in
      omega (arith, x, y, z)

  front-taken : take (n * s) (map_rows s g n w) ≡ each g (reads s (λ r. r) n w)
  front-taken = ap (take (n * s)) (rows-front s g n w) ∙ take_at (each g (reads s (λ r. r) n w)) (drop (n * s) w) (n * s) front_length

  front-left : drop (n * s) (map_rows s g n w) ≡ drop (n * s) w
  front-left = ap (drop (n * s)) (rows-front s g n w) ∙ drop_at (each g (reads s (λ r. r) n w)) (drop (n * s) w) (n * s) front_length

-- ---- ids that no row has

-- the elements whose keys are among some keys, or among others that no element has
keep-fresh : {A : Type 0} (h : A → ℕ) (ids new : List ℕ) (xs : List A) → all (λ i. not (has i (map h xs))) new ≡ true
    → keep (λ x. has (h x) (ids ++ new)) xs ≡ keep (λ x. has (h x) ids) xs
keep-fresh {A} h ids new xs fresh =
    sym (keep-passing known (λ x. has (h x) (ids ++ new)) xs (all-keyed h xs))
    ∙ (keep_same (λ x. known x && has (h x) (ids ++ new)) (λ x. known x && has (h x) ids) xs same ∙ keep-passing known (λ x. has (h x) ids) xs (all-keyed h xs))
  where
    known : A → Bool
    known x = has (h x) (map h xs)

    here : (a b c : Bool) → (c ≡ true → not a ≡ true) → (a && (b || c)) ≡ (a && b)
    here false b c e = refl
    here true true c e = refl
    here true false false e = refl
    here true false true e = absurd (true≢false (sym (e refl)))

    same : (x : A) → (known x && has (h x) (ids ++ new)) ≡ (known x && has (h x) ids)
    same x = ap (λ z. known x && z) (has-append (h x) ids new) ∙ here (known x) (has (h x) ids) (has (h x) new) (all-has (λ i. not (has i (map h xs))) (h x) new fresh)

-- ---- a table of which rows went and to which records came

module _ {R : Type 0} (s : ℕ) (onto : List ℕ → R → List ℕ) (key : R → ℕ) (dec : List ℕ → R) (t : List ℕ) (room : word 0 t * s ≤ length (drop 1 t)) where
  -- THE LAW: the rows whose ids pass stay, each changed with its id kept, and records with new ids come behind them
  pub store-grown : (good : List ℕ → Bool) (q : ℕ → Bool) (f : R → R) (new : List R) → ((r : List ℕ) → key (dec r) ≡ get_or r 0 0) → ((x : R) → key (f x) ≡ key x)
      → ((r : List ℕ) → length r ≡ s → good r ≡ true → length (onto r (f (dec r))) ≡ s) → all (λ b. b) (rows s good t) ≡ true
      → all (λ x. not (has (key x) (keys s (word 0 t) (drop 1 t)))) new ≡ true
      → store_rows s onto key t (map f (keep (λ x. q (key x)) (rows s dec t)) ++ new) ≡ appended_rows s onto new (on_rows s (λ w. onto w (f (dec w))) (kept_rows s q t))
  store-grown good q f new own same long fine fresh =
      ap (λ z. store_rows s onto key t (map f z ++ new)) (kept-records s q t key dec own) ∙ whole
    where
      k : List (List ℕ)
      k = kept_ones s q t

      v : List ℕ
      v = kept_words s q t

      n : ℕ
      n = length k

      g : List ℕ → List ℕ
      g w = onto w (f (dec w))

      ids : map key (map f (map dec k)) ≡ map (λ r. word 0 r) k
      ids = ap (map key) (map-twice dec f k) ∙ (map-twice (λ r. f (dec r)) key k ∙ map_same (λ r. key (f (dec r))) (λ r. word 0 r) k (λ r. same (dec r) ∙ own r))

      others : all (λ i. not (has i (map (λ r. word 0 r) (reads s (λ r. r) (word 0 t) (drop 1 t))))) (map key new) ≡ true
      others = unfold keys in
          ap (λ ks. all (λ i. not (has i ks)) (map key new)) (mapped-reads s (λ (r : List ℕ). r) (λ r. word 0 r) (word 0 t) (drop 1 t))
          ∙ (all_map (λ i. not (has i (reads s (λ r. get_or r 0 0) (word 0 t) (drop 1 t)))) key new ∙ fresh)

      alike : packed s (map (λ r. word 0 r) k ++ map key new) (word 0 t) (drop 1 t) ≡ packed s (map (λ r. word 0 r) k) (word 0 t) (drop 1 t)
      alike = unfold packed in
          ap (λ z. over (drop 1 t) 0 (each (λ r. r) z)) (keep-fresh (λ r. word 0 r) (map (λ r. word 0 r) k) (map key new) (reads s (λ r. r) (word 0 t) (drop 1 t)) others)

      under : packed s (map key (map f (map dec k) ++ new)) (word 0 t) (drop 1 t) ≡ v
      under =
          ap (λ z. packed s z (word 0 t) (drop 1 t)) (map-append key (map f (map dec k)) new ∙ ap (λ z. z ++ map key new) ids) ∙ (alike ∙ kept-packed s q t)

      many : length (map f (map dec k) ++ new) ≡ n + length new
      many = length-append (map f (map dec k)) new ∙ ap (λ z. z + length new) (length-map (map dec k) f ∙ length-map k dec)

      enough : n * s ≤ length v
      enough = unfold kept_rows in kept-room s q t room

      pass : passing s good n v
      pass = unfold kept_rows rows in kept-passing s q t room good fine

      words : writes s onto v (map f (map dec k) ++ new) ≡ take (n * s) (map_rows s g n v) ++ writes s onto (drop (n * s) (map_rows s g n v)) new
      words =
          ap (λ z. writes s onto v (map f z ++ new)) (sym (words-read s q t room dec))
          ∙ (written-front s onto dec f new n v
          ∙ (ap (λ z. z ++ writes s onto (drop (n * s) v) new) (sym (front-taken s good g long n v enough pass))
          ∙ ap (λ z. take (n * s) (map_rows s g n v) ++ writes s onto z new) (sym (front-left s good g long n v enough pass))))

      whole : store_rows s onto key t (map f (map dec k) ++ new) ≡ appended_rows s onto new (on_rows s g (kept_rows s q t))
      whole = unfold store_rows appended_rows on_rows kept_rows in
          ap (λ z. length (map f (map dec k) ++ new) ∷ writes s onto z (map f (map dec k) ++ new)) under
          ∙ (ap (λ z. z ∷ writes s onto v (map f (map dec k) ++ new)) many ∙ ap (λ z. (n + length new) ∷ z) words)

-- where every row stays
all_yes : {A : Type 0} (xs : List A) → all (λ x. true) xs ≡ true
unfolding all
all_yes [] = refl
all_yes (x ∷ xs) = all_yes xs

pub kept-every : (s : ℕ) (t : List ℕ) → 1 + word 0 t * s ≤ length t → kept_rows s (λ i. true) t ≡ t
unfolding kept_rows rows
kept-every s t h =
    let n = word 0 t in
    let w = drop 1 t in
    let rs = reads s (λ (r : List ℕ). r) n w in
    let k : keep (λ (r : List ℕ). true) rs ≡ rs = keep_all (λ (r : List ℕ). true) rs (all_yes rs) in
    let l : n * s ≤ length w = rw length-drop (omega arith) in
    let e : drop 0 t ≡ n ∷ w = drop-cons t 0 0 (omega arith) in
    ap (λ z. length z ∷ over w 0 (each (λ r. r) z)) k
    ∙ (ap (λ z. z ∷ over w 0 (each (λ r. r) rs)) (length-reads s (λ (r : List ℕ). r) n w)
    ∙ (ap (λ z. n ∷ over w 0 z) (joined-rows s n w) ∙ (ap (λ z. n ∷ z) (over-itself w (n * s) l) ∙ sym e)))

pub store-more : {R : Type 0} (s : ℕ) (onto : List ℕ → R → List ℕ) (key : R → ℕ) (dec : List ℕ → R) (t : List ℕ) → 1 + word 0 t * s ≤ length t
    → (good : List ℕ → Bool) (f : R → R) (new : List R) → ((r : List ℕ) → key (dec r) ≡ get_or r 0 0) → ((x : R) → key (f x) ≡ key x)
    → ((r : List ℕ) → length r ≡ s → good r ≡ true → length (onto r (f (dec r))) ≡ s) → all (λ b. b) (rows s good t) ≡ true
    → all (λ x. not (has (key x) (keys s (word 0 t) (drop 1 t)))) new ≡ true
    → store_rows s onto key t (map f (rows s dec t) ++ new) ≡ appended_rows s onto new (on_rows s (λ w. onto w (f (dec w))) t)
store-more {R} s onto key dec t room good f new own same long fine fresh =
    let l : word 0 t * s ≤ length (drop 1 t) = rw length-drop (omega arith) in
    ap (λ z. store_rows s onto key t (map f z ++ new)) (sym (keep_all (λ (x : R). true) (rows s dec t) (all_yes (rows s dec t))))
    ∙ (store-grown s onto key dec t l good (λ i. true) f new own same long fine fresh ∙ ap (λ z. appended_rows s onto new (on_rows s (λ w. onto w (f (dec w))) z)) (kept-every s t room))

-- ---- records appended

-- rows, and rows behind them
reads-split : {B : Type 0} (s : ℕ) (dec : List ℕ → B) (n m : ℕ) (w : List ℕ) → reads s dec (n + m) w ≡ reads s dec n w ++ reads s dec m (drop (n * s) w)
unfolding reads
reads-split s dec zero m w = let e : 0 + m ≡ m = omega arith in rw (zero-mul, e)
reads-split s dec (suc n) m w =
    let e : suc n + m ≡ suc (n + m) = omega arith in
    let d : s + n * s ≡ suc n * s = omega arith in
    rw e (ap (λ z. dec (take s w) ∷ z) (reads-split s dec n m (drop s w) ∙ rw (drop-drop, d)))

-- records written, what lies behind them, and others written there
module _ {R : Type 0} (s : ℕ) (onto : List ℕ → R → List ℕ) (ok : List ℕ → R → Type 0) (long : (w : List ℕ) → length w ≡ s → (r : R) → ok w r → length (onto w r) ≡ s) where
  row-long : (n : ℕ) (w : List ℕ) (r : R) (rs : List R) → suc n * s ≤ length w → RowsFit s ok w (r ∷ rs) → length (onto (take s w) r) ≡ s
  unfolding RowsFit
  row-long n w r rs h f = let i : s ≤ length w = omega arith in long (take s w) (length-take-le s w i) r f.0

  rest-fits : (w : List ℕ) (r : R) (rs : List R) → RowsFit s ok w (r ∷ rs) → RowsFit s ok (drop s w) rs
  unfolding RowsFit
  rest-fits w r rs f = f.1

  writes-behind : (w : List ℕ) (rs : List R) → length rs * s ≤ length w → RowsFit s ok w rs → drop (length rs * s) (writes s onto w rs) ≡ drop (length rs * s) w
  unfolding writes
  writes-behind w [] h f = refl
  writes-behind w (r ∷ rs) h f =
      let m = length rs in
      let x = onto (take s w) r in
      let v = writes s onto (drop s w) rs in
      let e : suc m * s ≡ s + m * s = omega arith in
      let j : m * s ≤ length (drop s w) = rw length-drop (omega arith) in
      rw (e, ← drop-drop (m * s) s (x ++ v), ← drop-drop (m * s) s w, drop_at x v s (row-long m w r rs h f)) (writes-behind (drop s w) rs j (rest-fits w r rs f))

  writes-split : (w : List ℕ) (rs qs : List R) → length rs * s ≤ length w → RowsFit s ok w rs
      → writes s onto w (rs ++ qs) ≡ take (length rs * s) (writes s onto w rs) ++ writes s onto (drop (length rs * s) w) qs
  unfolding writes
  writes-split w [] qs h f = rw zero-mul
  writes-split w (r ∷ rs) qs h f =
      let m = length rs in
      let x = onto (take s w) r in
      let v = writes s onto (drop s w) rs in
      let l = row-long m w r rs h f in
      let e : suc m * s ≡ s + m * s = omega arith in
      let j : m * s ≤ length (drop s w) = rw length-drop (omega arith) in
      rw (e, take-add s (m * s) (x ++ v), take_at x v s l, drop_at x v s l, append_assoc, ← drop-drop (m * s) s w)
      (ap (λ z. x ++ z) (writes-split (drop s w) rs qs j (rest-fits w r rs f)))

pub appended-count : {R : Type 0} (s : ℕ) (onto : List ℕ → R → List ℕ) (rs : List R) (t : List ℕ) → word 0 (appended_rows s onto rs t) ≡ word 0 t + length rs
unfolding appended_rows
appended-count s onto rs t = refl

pub appended-none : {R : Type 0} (s : ℕ) (onto : List ℕ → R → List ℕ) (t : List ℕ) → 1 ≤ length t → appended_rows s onto [] t ≡ t
unfolding appended_rows writes
appended-none s onto t some =
    let e : drop 0 t ≡ word 0 t ∷ drop 1 t = drop-cons t 0 0 some in
    rw (add-zero, take-append-drop) (sym e)

-- there is room for the records, and each keeps the length of a row
module _ {R : Type 0} (s : ℕ) (onto : List ℕ → R → List ℕ) (ok : List ℕ → R → Type 0) (long : (w : List ℕ) → length w ≡ s → (r : R) → ok w r → length (onto w r) ≡ s)
    (t : List ℕ) (rs : List R) (room : (word 0 t + length rs) * s ≤ length (drop 1 t)) (fits : RowsFit s ok (drop (word 0 t * s) (drop 1 t)) rs) where
  abbrev n : ℕ
  n = word 0 t

  abbrev w : List ℕ
  w = drop 1 t

  abbrev behind : List ℕ
  behind = drop (n * s) w

  abbrev front : List ℕ
  front = take (n * s) w

  new-room : length rs * s ≤ length behind
  new-room = rw length-drop (omega arith)

  front_long : length front ≡ n * s
  front_long = length-take-le (n * s) w (omega arith)

  -- as long as it was
  pub appended-length : 1 ≤ length t → length (appended_rows s onto rs t) ≡ length t
  unfolding appended_rows
  appended-length some =
      let e : drop 0 t ≡ n ∷ w = drop-cons t 0 0 some in
      let a = writes-length s onto ok long behind rs new-room fits in
      let b = length-append front (writes s onto behind rs) in
      let c = length-drop (n * s) w in
      ap suc (omega (arith, a, b, c, front_long)) ∙ sym (ap length e)

  -- the rows that were there, and the new ones
  pub appended-read : {B : Type 0} (dec : List ℕ → B) (f : R → B) → ((w : List ℕ) → length w ≡ s → (r : R) → ok w r → dec (onto w r) ≡ f r)
      → rows s dec (appended_rows s onto rs t) ≡ rows s dec t ++ map f rs
  unfolding appended_rows rows
  appended-read dec f back =
      let new = writes s onto behind rs in
      let v = front ++ new in
      let a : reads s dec n v ≡ reads s dec n w =
      sym (reads-take s dec n (n * s) v (omega arith)) ∙ (ap (reads s dec n) (take_at front new (n * s) front_long) ∙ reads-take s dec n (n * s) w (omega arith)) in
      let b : reads s dec (length rs) (drop (n * s) v) ≡ map f rs =
      ap (reads s dec (length rs)) (drop_at front new (n * s) front_long) ∙ writes-read s onto ok long dec f back behind rs new-room fits in
      reads-split s dec n (length rs) v ∙ (ap (λ z. z ++ reads s dec (length rs) (drop (n * s) v)) a ∙ ap (λ z. reads s dec n w ++ z) b)

  -- what every row passes
  pub appended-passing : (good : List ℕ → Bool) → ((w : List ℕ) → length w ≡ s → (r : R) → ok w r → good (onto w r) ≡ true)
      → all (λ b. b) (rows s good t) ≡ true → all (λ b. b) (rows s good (appended_rows s onto rs t)) ≡ true
  appended-passing good h a =
      ap (all (λ b. b)) (appended-read good (λ r. true) h) ∙ all_append (λ b. b) (rows s good t) (map (λ r. true) rs) a (all_map (λ b. b) (λ r. true) rs ∙ all_yes rs)

  pub appended-counted : (limit : ℕ) → 1 ≤ length t → word 0 t + length rs ≤ limit → counted limit s (appended_rows s onto rs t) ≡ true
  appended-counted limit some few =
      let v = appended_rows s onto rs t in
      let l = appended-length some in
      let m = appended-count s onto rs t in
      let d = length-drop 1 t in
      let i : 1 ≤ length v = omega (arith, l) in
      let j : word 0 v ≤ limit = omega (arith, m) in
      let k : 1 + word 0 v * s ≤ length v = rw m (omega (arith, l, d)) in
      rw (le-leb 1 (length v) i, le-leb (word 0 v) limit j, le-leb (1 + word 0 v * s) (length v) k)

  -- others behind them
  pub appended_then : (qs : List R) → appended_rows s onto (rs ++ qs) t ≡ appended_rows s onto qs (appended_rows s onto rs t)
  unfolding appended_rows
  appended_then qs =
      let m = length rs in
      let new = writes s onto behind rs in
      let e : (n + m) * s ≡ n * s + m * s = omega arith in
      let c : n + length (rs ++ qs) ≡ n + m + length qs = omega (arith, length-append rs qs) in
      let x : take ((n + m) * s) (front ++ new) ≡ front ++ take (m * s) new =
      ap (λ z. take z (front ++ new)) e ∙ (take-add (n * s) (m * s) (front ++ new) ∙ rw (take_at front new (n * s) front_long, drop_at front new (n * s) front_long)) in
      let y : drop ((n + m) * s) (front ++ new) ≡ drop (m * s) behind =
      ap (λ z. drop z (front ++ new)) e
      ∙ (sym (drop-drop (m * s) (n * s) (front ++ new)) ∙ (ap (drop (m * s)) (drop_at front new (n * s) front_long) ∙ writes-behind s onto ok long behind rs new-room fits)) in
      ap (λ z. (n + length (rs ++ qs)) ∷ front ++ z) (writes-split s onto ok long behind rs qs new-room fits)
      ∙ (ap (λ z. z ∷ front ++ (take (m * s) new ++ writes s onto (drop (m * s) behind) qs)) c
      ∙ ap (λ z. (n + m + length qs) ∷ z)
      (sym (append_assoc front (take (m * s) new) (writes s onto (drop (m * s) behind) qs))
      ∙ (ap (λ z. z ++ writes s onto (drop (m * s) behind) qs) (sym x) ∙ ap (λ z. take ((n + m) * s) (front ++ new) ++ writes s onto z qs) (sym y))))

-- one record, then the others
pub appended-more : {R : Type 0} (s : ℕ) (onto : List ℕ → R → List ℕ) (t : List ℕ) (r : R) (rs : List R) → (word 0 t + 1) * s ≤ length (drop 1 t)
    → length (onto (take s (drop (word 0 t * s) (drop 1 t))) r) ≡ s → appended_rows s onto (r ∷ rs) t ≡ appended_rows s onto rs (appended_rows s onto (r ∷ []) t)
appended-more s onto t r rs room long = appended_then s onto (λ w r. length (onto w r) ≡ s) (λ w l r h. h) t (r ∷ []) room (unfold RowsFit in (long, refl)) rs

-- one record, as it is written: a row's words, and the count
pub appended_one : {R : Type 0} (s : ℕ) (onto : List ℕ → R → List ℕ) (t : List ℕ) (r : R) → 1 + (word 0 t + 1) * s ≤ length t
    → length (onto (take s (drop (1 + word 0 t * s) t)) r) ≡ s
    → appended_rows s onto (r ∷ []) t ≡ set (over t (1 + word 0 t * s) (onto (take s (drop (1 + word 0 t * s) t)) r)) 0 (word 0 t + 1)
unfolding appended_rows writes
appended_one s onto t r room long =
    let n = word 0 t in
    let w = drop 1 t in
    let d : drop (1 + n * s) t ≡ drop (n * s) w = sym (drop-drop (n * s) 1 t) in
    let x = onto (take s (drop (1 + n * s) t)) r in
    let e : t ≡ n ∷ w = drop-cons t 0 0 (omega arith) in
    let k : drop s (drop (n * s) w) ≡ drop (n * s + length x) w = drop-drop s (n * s) w ∙ rw long in
    let o : over t (1 + n * s) x ≡ n ∷ (take (n * s) w ++ (x ++ drop (n * s + length x) w)) =
    ap (λ z. over z (1 + n * s) x) e ∙ (over-table n w (n * s) x ∙ (unfold over in refl)) in
    ap (λ z. (n + 1) ∷ take (n * s) w ++ (onto (take s z) r ++ drop s (drop (n * s) w))) (sym d)
    ∙ (ap (λ z. (n + 1) ∷ take (n * s) w ++ (x ++ z)) k ∙ ap (λ z. set z 0 (n + 1)) (sym o))
