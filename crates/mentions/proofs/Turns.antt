-- The rows that name a lane, row by row: how many there are, and their list. Assumes nothing.
use mathlib.Core.Path.{◌≡◌, refl, sym, ap, ◌∙◌}
use Prim.Native.Nat.{ℕ, zero, suc, ◌+◌, ◌-◌, ◌*◌, ◌≤◌, ◌<◌}
use native.Mathlib.Nat.{add-zero}
use native.Mathlib.Omega.{arith}
use mathlib.Core.Bool.{Bool, true, false}
use mathlib.Core.List.{List, [], ◌∷◌, ◌++◌, map, map-append}
use lib.ListN.{length, get_or, set, take, drop, length-append, length-map}
use lib.Seq.{get_or-take, get_or-drop, drop-drop}
use Rattle.lists.specs.Rows.{reads, over}
use Rattle.lists.specs.Select.{keep, each}
use Rattle.lists.proofs.Every.{all_get_d}
use Rattle.lists.proofs.Rows.{length-reads, get_d_reads, over-nil, over-over, length_over, store-behind}
use Rattle.lists.proofs.Select.{keep_append, length-keep}
use Rattle.lists.proofs.Booleans.{and-fst, and-snd}
use Rattle.store.proofs.Turns.{reads_more}
use Rattle.entities.specs.Types.{kind_number}
use Rattle.rules.specs.Edit.{when}
use Rattle.tables.specs.View.{word, rows}
use Rattle.tables.specs.Formed.{counted}
use Rattle.report.proofs.Laws.{pairs, pairs-are, length_pairs, pairs-append}
use Rattle.row_tests.specs.Good.{all_rows}
use Rattle.row_tests.proofs.Tables.{row_of, table-some, table-few, table-room, row_room, row-length}
use Rattle.mentions.specs.declared.Rows.{Rows}
use Rattle.mentions.specs.declared.Rows.TheVariants.{Lanes, Roads, Junctions, Rules, Orphans}
use Rattle.mentions.specs.Naming.{row_words, row_limit, row_formed, row_kind, table_formed, names_lane, naming}

-- ---- general

-- ---- a formed table

limit-small : (k : Rows) → row_limit k ≤ 1024
limit-small Lanes = omega arith
limit-small Roads = omega arith
limit-small Junctions = omega arith
limit-small Rules = omega arith
limit-small Orphans = omega arith

pub words-some : (k : Rows) → 0 < row_words k
words-some Lanes = omega arith
words-some Roads = omega arith
words-some Junctions = omega arith
words-some Rules = omega arith
words-some Orphans = omega arith

-- row i, as it is lent
pub row-there : (s : ℕ) (t : List ℕ) (i : ℕ) → row_of s t i ≡ take s (drop (1 + i * s) t)
row-there s t i = let e : 1 + i * s + s - (1 + i * s) ≡ s = omega arith in ap (λ n. take n (drop (1 + i * s) t)) e

-- s words a row
module _ (k : Rows) (t : List ℕ) (h : table_formed k t ≡ true) where
  pub counts : counted (row_limit k) (row_words k) t ≡ true
  unfolding table_formed
  counts = and-fst (counted (row_limit k) (row_words k) t) (all_rows (row_words k) (row_formed k) t) h

  pub holds : all_rows (row_words k) (row_formed k) t ≡ true
  unfolding table_formed
  holds = and-snd (counted (row_limit k) (row_words k) t) (all_rows (row_words k) (row_formed k) t) h

  pub formed-some : 1 ≤ length t
  formed-some = table-some (row_limit k) (row_words k) t counts

  pub formed-few : word 0 t ≤ 1024
  formed-few = omega (arith, table-few (row_limit k) (row_words k) t counts, limit-small k)

  module _ (s : ℕ) (e : s ≡ row_words k) where
    pub formed-room : 1 + word 0 t * s ≤ length t
    formed-room = rw e (table-room (row_limit k) (row_words k) t counts)

    module _ (i : ℕ) (l : i < word 0 t) where
      pub lent-room : 1 + i * s + s ≤ length t
      lent-room = rw e (row_room (row_limit k) (row_words k) t counts i l)

      pub lent-formed : (length (row_of s t i) ≡ row_words k) × (row_formed k (row_of s t i) ≡ true)
      unfolding all_rows rows
      lent-formed =
          let g : List ℕ → Bool = row_formed k in
          let m : i < length (rows (row_words k) g t) = rw (length-reads (row_words k) g (word 0 t) (drop 1 t)) l in
          let f : get_or (rows (row_words k) g t) i true ≡ g (row_of (row_words k) t i) =
          get_d_reads (row_words k) g (word 0 t) i (drop 1 t) true l ∙ ap g (ap (take (row_words k)) (drop-drop (i * row_words k) 1 t) ∙ sym (row-there (row_words k) t i)) in
          rw e (row-length (row_limit k) (row_words k) t counts i l, sym f ∙ all_get_d (λ (b : Bool). b) (rows (row_words k) g t) i true m holds)

-- ---- the ids of such rows among the first i

abbrev pub named_of : Rows → ℕ → List ℕ → ℕ → List ℕ
named_of k a t i = map (word 0) (keep (names_lane k a) (reads (row_words k) (λ w. w) i (drop 1 t)))

module _ (k : Rows) (a : ℕ) (t : List ℕ) where
  pub named_none : named_of k a t 0 ≡ []
  unfolding reads keep
  named_none = refl

  pub named-all : (i : ℕ) → i ≡ word 0 t → named_of k a t i ≡ naming k a t
  unfolding naming rows
  named-all i e = rw e

  pub named-few : (i : ℕ) → length (named_of k a t i) ≤ i
  named-few i =
      let r = reads (row_words k) (λ w. w) i (drop 1 t) in
      omega (arith, length-map (keep (names_lane k a) r) (word 0), length-keep (names_lane k a) r, length-reads (row_words k) (λ (w : List ℕ). w) i (drop 1 t))

  pub named-row : (i : ℕ) → named_of k a t (i + 1) ≡ named_of k a t i ++ when (names_lane k a (take (row_words k) (drop (1 + i * row_words k) t))) (word 0 (take (row_words k) (drop (1 + i * row_words k) t)))
  named-row i =
      let s = row_words k in
      let row = take s (drop (1 + i * s) t) in
      let r = reads s (λ w. w) i (drop 1 t) in
      let e : take s (drop (i * s) (drop 1 t)) ≡ row = ap (take s) (drop-drop (i * s) 1 t) in
      ap (λ z. map (word 0) (keep (names_lane k a) z)) (reads_more s i (drop 1 t))
      ∙ (ap (λ z. map (word 0) (keep (names_lane k a) (r ++ (z ∷ [])))) e
      ∙ (ap (map (word 0)) (keep_append (names_lane k a) r (row ∷ []))
      ∙ (map-append (word 0) (keep (names_lane k a) r) (keep (names_lane k a) (row ∷ [])) ∙ ap (λ z. named_of k a t i ++ z) (one row (names_lane k a row) refl))))
    where
      one : (row : List ℕ) (b : Bool) → names_lane k a row ≡ b → map (word 0) (keep (names_lane k a) (row ∷ [])) ≡ when b (word 0 row)
      one row true e = unfold keep in rw e
      one row false e = unfold keep in rw e

  -- one more row, as the code reads it
  module _ (s : ℕ) (e : s ≡ row_words k) (i : ℕ) (b : Bool) (be : b ≡ names_lane k a (row_of s t i)) where
    pub named_more : named_of k a t (i + 1) ≡ named_of k a t i ++ when b (word (1 + i * s) t)
    named_more =
        let f : row_of s t i ≡ take (row_words k) (drop (1 + i * row_words k) t) = row-there s t i ∙ rw e in
        let row = take (row_words k) (drop (1 + i * row_words k) t) in
        let g : names_lane k a row ≡ b = sym (be ∙ ap (names_lane k a) f) in
        let z : 1 + i * s + 0 ≡ 1 + i * s = omega arith in
        let key : word 0 row ≡ word (1 + i * s) t =
        get_or-take (row_words k) (drop (1 + i * row_words k) t) 0 0 (words-some k) ∙ (ap (λ n. word 0 (drop (1 + i * n) t)) (sym e) ∙ (get_or-drop (1 + i * s) t 0 0 ∙ ap (λ n. word n t) z)) in
        named-row i ∙ rw (g, key)

    pub named_count : length (named_of k a t (i + 1)) ≡ length (named_of k a t i) + length (when b (word (1 + i * s) t))
    named_count = ap length named_more ∙ length-append (named_of k a t i) (when b (word (1 + i * s) t))

    -- one turn of the count
    pub count-on : (m r : ℕ) → m ≡ length (named_of k a t i) → b ≡ true → r ≡ m + 1 → r ≡ length (named_of k a t (i + 1))
    count-on m r q x y = let z : length (when b (word (1 + i * s) t)) ≡ 1 = rw x in omega (arith, named_count)

    pub count-off : (m r : ℕ) → m ≡ length (named_of k a t i) → b ≡ false → r ≡ m → r ≡ length (named_of k a t (i + 1))
    count-off m r q x y = let z : length (when b (word (1 + i * s) t)) ≡ 0 = rw x in omega (arith, named_count)

  -- the more rows, the more ids
  pub named-grows : (i d : ℕ) → length (named_of k a t i) ≤ length (named_of k a t (i + d))
  named-grows i zero = rw add-zero (omega arith)
  named-grows i (suc d) =
      let e : i + suc d ≡ i + d + 1 = omega arith in
      let q = named_count (row_words k) refl (i + d) (names_lane k a (row_of (row_words k) t (i + d))) refl in
      rw e (omega (arith, named-grows i d, q))

  pub named-within : (i : ℕ) → i ≤ word 0 t → length (named_of k a t i) ≤ length (naming k a t)
  named-within i l =
      let d = word 0 t - i in
      let e : i + d ≡ word 0 t = omega arith in
      omega (arith, named-grows i d, ap length (named-all (i + d) e))

-- ---- an entity put in its place

-- two stores in a row
store_two : (w : List ℕ) (n x y : ℕ) → n + 2 ≤ length w → set (set w n x) (n + 1) y ≡ over w n (x ∷ y ∷ [])
store_two w n x y h =
    let e : n + length {A = ℕ} [] ≡ n = omega arith in
    let f : n + length (x ∷ []) ≡ n + 1 = refl in
    ap (λ z. set (set z n x) (n + 1) y) (sym (over-nil w n))
    ∙ (ap (λ z. set z (n + 1) y) (store-behind w n n [] x e (omega arith)) ∙ store-behind w n (n + 1) (x ∷ []) y f (omega arith))

module _ (w : List ℕ) (at x id : ℕ) (b : Bool) (room : (at + length (when b id)) * 2 ≤ length w) where
  pub put-room : b ≡ true → at * 2 + 2 ≤ length w
  put-room t = let z : length (when b id) ≡ 1 = rw t in omega arith

  pub put_on : b ≡ true → (at + 1 ≡ at + length (when b id)) × (set (set w (at * 2) x) (at * 2 + 1) id ≡ over w (at * 2) (each (λ i. x ∷ i ∷ []) (when b id)))
  unfolding each
  put_on t = rw t (refl, store_two w (at * 2) x id (put-room t))

  pub put-off : b ≡ false → (at ≡ at + length (when b id)) × (w ≡ over w (at * 2) (each (λ i. x ∷ i ∷ []) (when b id)))
  unfolding each
  put-off t = rw t (omega arith, sym (over-nil w (at * 2)))

-- ---- the list

-- the ids of the first i rows stand in `out`, from place `at` on
pub record Listed (k : Rows) (a : ℕ) (t out₀ : List ℕ) (at : ℕ) (out : List ℕ) (i behind : ℕ) : Type 0 where
  pub upto : i ≤ word 0 t
  pub many : behind ≡ at + length (named_of k a t i)
  pub words : out ≡ over out₀ (at * 2) (pairs (row_kind k) (named_of k a t i))

module _ (k : Rows) (a : ℕ) (t out₀ : List ℕ) (at : ℕ) (room : (at + length (naming k a t)) * 2 ≤ length out₀) where
  pub list-none : Listed k a t out₀ at out₀ 0 at
  unfolding each
  list-none =
      record {
        upto = omega arith;
        many = let e = ap length (named_none k a t) in omega arith;
        words = sym (ap (λ z. over out₀ (at * 2) (pairs (row_kind k) z)) (named_none k a t) ∙ over-nil out₀ (at * 2));
      }

  module _ (out : List ℕ) (i behind : ℕ) (m : Listed k a t out₀ at out i behind) where
    filled : at * 2 + length (pairs (row_kind k) (named_of k a t i)) ≤ length out₀
    filled = omega (arith, length_pairs (row_kind k) (named_of k a t i), named-within k a t i m.upto)

    pub list_length : length out ≡ length out₀
    list_length = ap length m.words ∙ length_over out₀ (at * 2) (pairs (row_kind k) (named_of k a t i)) filled

    module _ (s : ℕ) (e : s ≡ row_words k) (l : i < word 0 t) (b : Bool) (be : b ≡ names_lane k a (row_of s t i)) where
      pub list-room : (behind + length (when b (word (1 + i * s) t))) * 2 ≤ length out
      list-room = omega (arith, list_length, m.many, named_count k a t s e i b be, named-within k a t (i + 1) (omega arith))

      pub list-turn : (x : ℕ) → x ≡ kind_number (row_kind k) → (v : List ℕ) (r : ℕ) → r ≡ behind + length (when b (word (1 + i * s) t))
          → v ≡ over out (behind * 2) (each (λ j. x ∷ j ∷ []) (when b (word (1 + i * s) t))) → Listed k a t out₀ at v (i + 1) r
      list-turn x xe v r re ve =
          let q = row_kind k in
          let ids = named_of k a t i in
          let new = when b (word (1 + i * s) t) in
          let f : at * 2 + length (pairs q ids) ≡ behind * 2 = omega (arith, length_pairs q ids, m.many) in
          let g : behind * 2 ≤ length out₀ = omega (arith, filled) in
          record {
            upto = omega arith;
            many = omega (arith, m.many, named_count k a t s e i b be);
            words =
                ve
                ∙ (ap (over out (behind * 2)) (pairs-are q x new xe)
                ∙ (ap (λ z. over z (behind * 2) (pairs q new)) m.words
                ∙ (over-over out₀ (at * 2) (behind * 2) (pairs q ids) (pairs q new) f g
                ∙ ap (over out₀ (at * 2)) (sym (pairs-append q ids new) ∙ ap (pairs q) (sym (named_more k a t s e i b be))))));
          }

    pub list_all : word 0 t ≤ i → (behind ≡ at + length (naming k a t)) × (out ≡ over out₀ (at * 2) (pairs (row_kind k) (naming k a t)))
    list_all h =
        let e = named-all k a t i (omega (arith, m.upto)) in
        (m.many ∙ ap (λ z. at + length z) e, m.words ∙ ap (λ z. over out₀ (at * 2) (pairs (row_kind k) z)) e)
