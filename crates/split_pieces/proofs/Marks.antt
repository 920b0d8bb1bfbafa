-- Marks by row: those of the boundaries that a lane of the group uses, as they are written. Assumes nothing.
use Rattle.std.specs.Prelude.{Option, None, Some}
use mathlib.Core.Path.{◌≡◌, refl, sym, ap, ◌∙◌}
use Prim.Native.Nat.{ℕ, ◌+◌, ◌≤◌, ◌<◌}
use native.Mathlib.Nat.{le_of_suc-le-suc, not-suc-le-zero}
use native.Mathlib.Omega.{arith}
use mathlib.Core.Bool.{Bool, true, false, not, ◌||◌, cond}
use mathlib.Core.List.{List, [], ◌∷◌, ◌++◌, map}
use lib.Dec.{eqb, ltb}
use lib.ListN.{length, get_or, set, drop, length-map, length-set}
use borrow.Author.Tests.{eq-eqb, ne_eqb, eqb-true, eqb-false, ltb-true}
use Rattle.lists.specs.Every.{all}
use Rattle.lists.specs.Rows.{over, later, row_with}
use Rattle.lists.specs.Select.{any, ascending}
use Rattle.lists.proofs.Booleans.{or-false, or_right, not-not}
use Rattle.lists.proofs.Every.{all_head, all_tail}
use Rattle.lists.proofs.Rows.{length-keys}
use Rattle.lists.proofs.Select.{any_append, above-all, ascending-tail, map_same}
use Rattle.rules.specs.Names.{Side, Left, Right, BoundaryRef}
use Rattle.tables.specs.View.{word, ref_at}
use Rattle.lookup.specs.Lookup.{row_at, place_of, side_word, sorted_table, row_uses}
use Rattle.lookup.proofs.Laws.{place-within, sorted-ascends}
use Rattle.split_plan.proofs.Turns.{first_rows, no_rows, every_row, row_more, row-none}
use Rattle.split_pieces.specs.Pieces.{boundary_keys, cut_marks, mark_found, side_marked}

-- ---- one side of a lane

module _ (t : List ℕ) (j : ℕ) (side : Side) (b : List ℕ) (m : List Bool) (r : BoundaryRef) (e : r ≡ ref_at (side_word side) (row_at 52 t j)) (f : Option ℕ) (g : f ≡ place_of 5 b r.boundary) where
  told : (q : Option ℕ) → f ≡ q → mark_found q m ≡ side_marked t j side b m
  told q h = ap (λ x. mark_found x m) (sym h ∙ g ∙ ap (λ (x : BoundaryRef). place_of 5 b x.boundary) e)

  pub side-found : (x : ℕ) → f ≡ Some x → set m x true ≡ side_marked t j side b m
  side-found x h = told (Some x) h

  pub side-none : f ≡ None → m ≡ side_marked t j side b m
  side-none h = told None h

  pub side-room : word 0 b ≤ length m → (x : ℕ) → f ≡ Some x → x < length m
  side-room l x h = omega (arith, place-within 5 b r.boundary x (sym g ∙ h))

length_found : (f : Option ℕ) (m : List Bool) → length (mark_found f m) ≡ length m
length_found (Some x) m = length-set m x true
length_found None m = refl

pub side-length : (t : List ℕ) (j : ℕ) (side : Side) (b : List ℕ) (m v : List Bool) → v ≡ side_marked t j side b m → length v ≡ length m
side-length t j side b m v e = ap length e ∙ length_found (place_of 5 b (word (side_word side) (row_at 52 t j))) m

-- ---- marks told by a test of keys

found-later : (f : Option ℕ) (b : Bool) (m : List Bool) → mark_found (later f) (b ∷ m) ≡ b ∷ mark_found f m
found-later (Some x) b m = refl
found-later None b m = refl

module _ (i : ℕ) (f : ℕ → Bool) where
  abbrev also : ℕ → Bool
  also k = f k || eqb i k

  -- no larger key is i
  larger-same : (ks : List ℕ) → all (ltb i) ks ≡ true → map f ks ≡ map also ks
  larger-same [] h = refl
  larger-same (k ∷ ks) h =
      let l : i < k = ltb-true i k (all_head (ltb i) k ks h) in
      let n : i ≡ k → ⊥ = (λ q. omega arith) in
      let o : f k ≡ also k = sym (ap (λ x. f k || x) (ne_eqb i k n) ∙ or-false (f k)) in
      ap (λ x. x ∷ map f ks) o ∙ ap (λ (l : List Bool). also k ∷ l) (larger-same ks (all_tail (ltb i) k ks h))

  marked-keys : (ks : List ℕ) (rest : List Bool) → ascending ks ≡ true → mark_found (row_with i ks) (map f ks ++ rest) ≡ map also ks ++ rest
  unfolding row_with ascending
  marked-keys [] rest a = refl
  marked-keys (k ∷ ks) rest a = go (eqb k i) refl (marked-keys ks rest (ascending-tail k ks a))
    where
      go : (b : Bool) → eqb k i ≡ b → mark_found (row_with i ks) (map f ks ++ rest) ≡ map also ks ++ rest → mark_found (cond b (Some 0) (later (row_with i ks))) (f k ∷ (map f ks ++ rest)) ≡ also k ∷ (map also ks ++ rest)
      go true e r =
          let q : k ≡ i = eqb-true k i e in
          let o : true ≡ also k = sym (or_right (f k) (eqb i k) (eq-eqb i k (sym q))) in
          let s : map f ks ≡ map also ks = larger-same ks (rw q at (above-all k ks a)) in
          ap (λ x. x ∷ (map f ks ++ rest)) o ∙ ap (λ (l : List Bool). also k ∷ (l ++ rest)) s
      go false e r =
          let n : i ≡ k → ⊥ = (λ q. eqb-false k i e (sym q)) in
          let o : f k ≡ also k = sym (ap (λ x. f k || x) (ne_eqb i k n) ∙ or-false (f k)) in
          found-later (row_with i ks) (f k) (map f ks ++ rest) ∙ ap (λ x. x ∷ mark_found (row_with i ks) (map f ks ++ rest)) o
          ∙ ap (λ (l : List Bool). also k ∷ l) r

over-keys : (m : List Bool) (f : ℕ → Bool) (ks : List ℕ) → over m 0 (map f ks) ≡ map f ks ++ drop (length ks) m
unfolding over
over-keys m f ks = let e : 0 + length (map f ks) ≡ length ks = omega (arith, length-map ks f) in ap (λ n. map f ks ++ drop n m) e

marked_more : (m : List Bool) (i : ℕ) (f : ℕ → Bool) (ks : List ℕ) → ascending ks ≡ true → mark_found (row_with i ks) (over m 0 (map f ks)) ≡ over m 0 (map (λ k. f k || eqb i k) ks)
marked_more m i f ks a =
    ap (mark_found (row_with i ks)) (over-keys m f ks) ∙ marked-keys i f ks (drop (length ks) m) a ∙ sym (over-keys m (λ k. f k || eqb i k) ks)

-- a test that no key passes
none-marked : (f : ℕ → Bool) → ((k : ℕ) → f k ≡ false) → (ks : List ℕ) (m : List Bool) → all not m ≡ true → length ks ≤ length m → m ≡ map f ks ++ drop (length ks) m
none-marked f h [] m a l = refl
none-marked f h (k ∷ ks) [] a l = absurd (not-suc-le-zero l)
none-marked f h (k ∷ ks) (b ∷ m) a l =
    let e : b ≡ f k = sym (not-not b) ∙ ap not (all_head not b m a) ∙ sym (h k) in
    ap (λ x. x ∷ m) e ∙ ap (λ (l : List Bool). f k ∷ l) (none-marked f h ks m (all_tail not b m a) (le_of_suc-le-suc l))

-- ---- the turns

or-both : (a b c : Bool) → (a || b || c) ≡ (a || (b || c || false))
or-both true b c = refl
or-both false b c = sym (or-false (b || c))

module _ (s : List Bool) (t b : List ℕ) (m : List Bool) where
  -- boundary k is used by a marked lane before row j
  abbrev used_before : ℕ → ℕ → Bool
  used_before j k = any (row_uses k) (first_rows s t j)

  -- the marks then
  abbrev pub Marked : List Bool → ℕ → Type 0
  Marked v j = v ≡ over m 0 (map (used_before j) (boundary_keys b))

  pub mark-begins : all not m ≡ true → word 0 b ≤ length m → Marked m 0
  mark-begins a l =
      none-marked (used_before 0) none (boundary_keys b) m a (omega (arith, length-keys 5 (word 0 b) (drop 1 b)))
      ∙ sym (over-keys m (used_before 0) (boundary_keys b))
    where
      none : (k : ℕ) → used_before 0 k ≡ false
      none k = rw (no_rows s t) (unfold any in refl)

  module _ (j : ℕ) (v : List Bool) (h : Marked v j) where
    module _ (d : j < word 0 t) (c : word 0 t ≤ length s) where
      pub mark-none : get_or s j false ≡ false → Marked v (j + 1)
      mark-none q = h ∙ ap (λ (l : List (List ℕ)). over m 0 (map (λ k. any (row_uses k) l) (boundary_keys b))) (sym (row-none s t j d c q))

      module _ (o : sorted_table 4096 5 b ≡ true) (q : get_or s j false ≡ true) (x y : List Bool) (e : x ≡ side_marked t j Left b v) (f : y ≡ side_marked t j Right b x) where
        abbrev row : List ℕ
        row = row_at 52 t j

        one : x ≡ over m 0 (map (λ k. used_before j k || eqb (word 2 row) k) (boundary_keys b))
        unfolding place_of
        one = e ∙ ap (mark_found (place_of 5 b (word 2 row))) h ∙ marked_more m (word 2 row) (used_before j) (boundary_keys b) (sorted-ascends 4096 5 b o)

        two : y ≡ over m 0 (map (λ k. used_before j k || eqb (word 2 row) k || eqb (word 4 row) k) (boundary_keys b))
        unfolding place_of
        two = f ∙ ap (mark_found (place_of 5 b (word 4 row))) one ∙ marked_more m (word 4 row) (λ k. used_before j k || eqb (word 2 row) k) (boundary_keys b) (sorted-ascends 4096 5 b o)

        more : (k : ℕ) → (used_before j k || eqb (word 2 row) k || eqb (word 4 row) k) ≡ used_before (j + 1) k
        unfolding any
        more k =
            or-both (used_before j k) (eqb (word 2 row) k) (eqb (word 4 row) k)
            ∙ sym (ap (any (row_uses k)) (row_more s t j d c q) ∙ any_append (row_uses k) (first_rows s t j) (row ∷ []))

        pub mark-one : Marked y (j + 1)
        mark-one = two ∙ ap (over m 0) (map_same (λ k. used_before j k || eqb (word 2 row) k || eqb (word 4 row) k) (used_before (j + 1)) (boundary_keys b) more)

    pub mark-ends : word 0 t ≤ j → v ≡ over m 0 (cut_marks s t b)
    mark-ends l = h ∙ ap (λ (l : List (List ℕ)). over m 0 (map (λ k. any (row_uses k) l) (boundary_keys b))) (every_row s t j l)
