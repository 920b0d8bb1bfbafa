-- The ids and rows of pieces, one marked boundary behind the other. Assumes nothing.
use mathlib.Core.Path.{◌≡◌, refl, sym, ap, ◌∙◌}
use Prim.Native.Nat.{ℕ, zero, suc, ◌+◌, ◌*◌, ◌^◌, ◌≤◌, ◌<◌}
use native.Mathlib.Omega.{arith}
use mathlib.Core.Bool.{Bool, true, false}
use mathlib.Core.List.{List, [], ◌∷◌, ◌++◌}
use lib.ListN.{length, get_or, set, take, drop, length-append}
use lib.Seq.{take_all, get_or-drop}
use Rattle.lists.specs.Rows.{over}
use Rattle.lists.specs.Select.{each}
use Rattle.lists.proofs.Rows.{length-keys, key-at, over-nil, over-over, over-three, length_over}
use Rattle.lists.proofs.Select.{each_append}
use Rattle.tables.specs.View.{word}
use Rattle.split_plan.specs.Placing.{picked}
use Rattle.split_plan.proofs.Marked.{picked_none, pick-one, pick-none, pick-rest}
use Rattle.split_pieces.specs.Pieces.{boundary_keys, cut_keys, used_beyond, ids_if, ids_for, ids_of, piece_row, piece_rows, piece_words}

-- ---- one boundary

module _ (w : List ℕ) (m id next : ℕ) (beyond : Bool) (room : m * 3 + 3 ≤ length w) where
  pub put-shared : beyond ≡ true → (next + 2 ≡ next + ids_if beyond) × (set (set (set w (m * 3) id) (m * 3 + 1) next) (m * 3 + 2) (next + 1) ≡ over w (m * 3) (piece_row beyond next id))
  put-shared e =
      let o : next + 1 ≡ suc next = omega arith in
      rw e (refl, over-three w (m * 3) id next (next + 1) room ∙ ap (λ z. over w (m * 3) (id ∷ next ∷ z ∷ [])) o)

  pub put-own : beyond ≡ false → (next + 1 ≡ next + ids_if beyond) × (set (set (set w (m * 3) id) (m * 3 + 1) id) (m * 3 + 2) next ≡ over w (m * 3) (piece_row beyond next id))
  put-own e = rw e (refl, over-three w (m * 3) id id next room)

pub few-ids : (beyond : Bool) → ids_if beyond ≤ 2
few-ids true = omega arith
few-ids false = omega arith

-- ---- all of them

-- those of a list's front are no more than all
picked-front : {A : Type 0} (bs : List Bool) (n : ℕ) (xs : List A) → length (picked bs (take n xs)) ≤ length (picked bs xs)
unfolding picked
picked-front [] n xs = omega arith
picked-front (b ∷ bs) zero xs = omega arith
picked-front (b ∷ bs) (suc n) [] = omega arith
picked-front (true ∷ bs) (suc n) (x ∷ xs) = omega (arith, picked-front bs n xs)
picked-front (false ∷ bs) (suc n) (x ∷ xs) = picked-front bs n xs

module _ (s : List Bool) (t : List ℕ) where
  ids-append : (ks ls : List ℕ) → ids_of s t (ks ++ ls) ≡ ids_of s t ks + ids_of s t ls
  unfolding ids_of
  ids-append [] ls = let e : ids_of s t ls ≡ 0 + ids_of s t ls = omega arith in e
  ids-append (k ∷ ks) ls = let e = ids-append ks ls in omega (arith, e)

  ids-one : (k : ℕ) → ids_of s t (k ∷ []) ≡ ids_for s t k
  unfolding ids_of
  ids-one k = let e : ids_for s t k + 0 ≡ ids_for s t k = omega arith in e

  ids-first : (k : ℕ) (ks : List ℕ) → ids_for s t k ≤ ids_of s t (k ∷ ks)
  unfolding ids_of
  ids-first k ks = omega arith

  rows_more : (next : ℕ) (ks : List ℕ) (k : ℕ) → piece_rows s t next (ks ++ (k ∷ [])) ≡ piece_rows s t next ks ++ (piece_row (used_beyond s t k) (next + ids_of s t ks) k ∷ [])
  unfolding piece_rows ids_of
  rows_more next [] k = let e : next + 0 ≡ next = omega arith in rw e
  rows_more next (l ∷ ks) k =
      let e : next + ids_for s t l + ids_of s t ks ≡ next + (ids_for s t l + ids_of s t ks) = omega arith in
      ap (λ (r : List (List ℕ)). piece_row (used_beyond s t l) next l ∷ r) (rows_more (next + ids_for s t l) ks k ∙ rw e)

  words_more : (next : ℕ) (ks : List ℕ) (k : ℕ) → piece_words s t next (ks ++ (k ∷ [])) ≡ piece_words s t next ks ++ piece_row (used_beyond s t k) (next + ids_of s t ks) k
  unfolding each
  words_more next ks k =
      let row = piece_row (used_beyond s t k) (next + ids_of s t ks) k in
      ap (each (λ (r : List ℕ). r)) (rows_more next ks k) ∙ each_append (λ (r : List ℕ). r) (piece_rows s t next ks) (row ∷ [])

  words-length : (next : ℕ) (ks : List ℕ) → length (piece_words s t next ks) ≡ length ks * 3
  unfolding piece_rows each
  words-length next [] = refl
  words-length next (k ∷ ks) = let e = words-length (next + ids_for s t k) ks in omega (arith, e)

  module _ (b : List ℕ) (marks : List Bool) where
    -- the marked boundaries before row x
    abbrev pub first_keys : ℕ → List ℕ
    first_keys x = picked marks (take x (boundary_keys b))

    pub no_keys : first_keys 0 ≡ []
    no_keys = picked_none marks

    pub all-keys : (x : ℕ) → word 0 b ≤ x → first_keys x ≡ cut_keys marks b
    all-keys x h = ap (picked marks) (take_all x (boundary_keys b) (omega (arith, length-keys 5 (word 0 b) (drop 1 b))))

    pub few-keys : (x : ℕ) → length (first_keys x) ≤ length (cut_keys marks b)
    few-keys x = picked-front marks x (boundary_keys b)

    module _ (x : ℕ) (d : x < word 0 b) (c : word 0 b ≤ length marks) where
      key-is : get_or (boundary_keys b) x 0 ≡ get_or b (1 + x * 5) 0
      key-is = key-at 5 (word 0 b) x (drop 1 b) (omega arith) d ∙ get_or-drop 1 b (x * 5) 0

      within : x < length (boundary_keys b)
      within = omega (arith, length-keys 5 (word 0 b) (drop 1 b))

      key_more : get_or marks x false ≡ true → first_keys (x + 1) ≡ first_keys x ++ (get_or b (1 + x * 5) 0 ∷ [])
      key_more q = pick-one marks (boundary_keys b) x 0 within (omega arith) q ∙ rw key-is

      key-none : get_or marks x false ≡ false → first_keys (x + 1) ≡ first_keys x
      key-none q = pick-none marks (boundary_keys b) x 0 within (omega arith) q

      -- the next one is one of all
      key-there : get_or marks x false ≡ true → length (first_keys x) + 1 ≤ length (cut_keys marks b)
      key-there q = omega (arith, few-keys (x + 1), ap length (key_more q), length-append (first_keys x) (get_or b (1 + x * 5) 0 ∷ []))

      -- the next one takes ids of all
      key-ids : get_or marks x false ≡ true → ids_of s t (first_keys x) + ids_for s t (get_or b (1 + x * 5) 0) ≤ ids_of s t (cut_keys marks b)
      key-ids q =
          let rest = picked (drop (x + 1) marks) (drop (x + 1) (boundary_keys b)) in
          let e : cut_keys marks b ≡ first_keys x ++ (get_or b (1 + x * 5) 0 ∷ rest) = pick-rest marks (boundary_keys b) x 0 within (omega arith) q ∙ rw key-is in
          rw e (omega (arith, ids-append (first_keys x) (get_or b (1 + x * 5) 0 ∷ rest), ids-first (get_or b (1 + x * 5) 0) rest))

    -- ---- counted

    pub record Counted (x ids : ℕ) : Type 0 where
      pub few : ids ≤ x * 2
      pub counted : ids ≡ ids_of s t (first_keys x)

    pub count-begins : Counted 0 0
    count-begins = record { few = omega arith; counted = rw no_keys (unfold ids_of in refl) }

    module _ (x ids : ℕ) (h : Counted x ids) where
      module _ (d : x < word 0 b) (c : word 0 b ≤ length marks) where
        pub count_none : get_or marks x false ≡ false → Counted (x + 1) ids
        count_none q = record { few = omega (arith, h.few); counted = h.counted ∙ ap (ids_of s t) (sym (key-none x d c q)) }

        pub count-one : get_or marks x false ≡ true → (r : ℕ) → r ≡ ids_for s t (get_or b (1 + x * 5) 0) → Counted (x + 1) (ids + r)
        count-one q r e =
            let k = get_or b (1 + x * 5) 0 in
            record {
              few = omega (arith, h.few, e, few-ids (used_beyond s t k));
              counted = rw (key_more x d c q) (omega (arith, h.counted, e, ids-append (first_keys x) (k ∷ []), ids-one k));
            }

      pub count-ends : word 0 b ≤ x → ids ≡ ids_of s t (cut_keys marks b)
      count-ends l = h.counted ∙ ap (ids_of s t) (all-keys x l)

    -- ---- listed

    module _ (next : ℕ) (w : List ℕ) where
      pub record Listed (x m id : ℕ) (v : List ℕ) : Type 0 where
        pub few : m ≤ x
        pub counted : m ≡ length (first_keys x)
        pub taken : id ≡ next + ids_of s t (first_keys x)
        pub written : v ≡ over w 0 (piece_words s t next (first_keys x))

      pub list-begins : Listed 0 0 next w
      list-begins =
          record {
            few = omega arith;
            counted = rw no_keys;
            taken = rw no_keys (unfold ids_of in omega arith);
            written = rw no_keys (unfold piece_rows each in sym (over-nil w 0));
          }

      module _ (x m id : ℕ) (v : List ℕ) (h : Listed x m id v) where
        words_are : length (piece_words s t next (first_keys x)) ≡ m * 3
        words_are = let e = words-length next (first_keys x) in omega (arith, e, h.counted)

        pub list_length : length (cut_keys marks b) * 3 ≤ length w → length v ≡ length w
        list_length r = ap length h.written ∙ length_over w 0 (piece_words s t next (first_keys x)) (omega (arith, words_are, h.counted, few-keys x))

        module _ (d : x < word 0 b) (c : word 0 b ≤ length marks) where
          pub list-none : get_or marks x false ≡ false → Listed (x + 1) m id v
          list-none q =
              let e : first_keys x ≡ first_keys (x + 1) = sym (key-none x d c q) in
              record {
                few = omega (arith, h.few);
                counted = h.counted ∙ ap length e;
                taken = h.taken ∙ ap (λ (l : List ℕ). next + ids_of s t l) e;
                written = h.written ∙ ap (λ (l : List ℕ). over w 0 (piece_words s t next l)) e;
              }

          module _ (q : get_or marks x false ≡ true) (beyond : Bool) (e : beyond ≡ used_beyond s t (get_or b (1 + x * 5) 0)) where
            pub list-may : next + ids_of s t (cut_keys marks b) < 2 ^ 64 → id + ids_if beyond < 2 ^ 64
            list-may l = rw e (omega (arith, h.taken, key-ids x d c q))

            pub list-room : length (cut_keys marks b) * 3 ≤ length w → m * 3 + 3 ≤ length v
            list-room r = let l = list_length r in omega (arith, l, h.counted, key-there x d c q)

            pub list-one : length (cut_keys marks b) * 3 ≤ length w → (z : ℕ) (y : List ℕ) → (z ≡ id + ids_if beyond) × (y ≡ over v (m * 3) (piece_row beyond id (get_or b (1 + x * 5) 0))) → Listed (x + 1) (m + 1) z y
            list-one r z y g =
                let k = get_or b (1 + x * 5) 0 in
                let row : piece_row beyond id k ≡ piece_row (used_beyond s t k) (next + ids_of s t (first_keys x)) k = rw (e, h.taken) in
                record {
                  few = omega (arith, h.few);
                  counted = rw (key_more x d c q, length-append) (omega (arith, h.counted));
                  taken = rw (key_more x d c q) (omega (arith, g.0, ap ids_if e, h.taken, ids-append (first_keys x) (k ∷ []), ids-one k));
                  written =
                      g.1 ∙ ap (λ (l : List ℕ). over l (m * 3) (piece_row beyond id k)) h.written
                      ∙ over-over w 0 (m * 3) (piece_words s t next (first_keys x)) (piece_row beyond id k) (omega (arith, words_are)) (omega (arith, h.counted, key-there x d c q))
                      ∙ ap (over w 0) (ap (λ (l : List ℕ). piece_words s t next (first_keys x) ++ l) row ∙ sym (ap (piece_words s t next) (key_more x d c q) ∙ words_more next (first_keys x) k));
                }

        pub list-ends : word 0 b ≤ x → (m ≡ length (cut_keys marks b)) × (v ≡ over w 0 (piece_words s t next (cut_keys marks b)))
        list-ends l =
            let e = all-keys x l in
            (h.counted ∙ ap length e, h.written ∙ ap (λ (l : List ℕ). over w 0 (piece_words s t next l)) e)
