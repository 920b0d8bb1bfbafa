-- The pass over the links, step by step: what a search finds, one link, one lane, the end. Assumes nothing.
use Rattle.std.specs.Prelude.{Option, None, Some}
use mathlib.Core.Path.{◌≡◌, refl, sym, ap, ◌∙◌}
use Prim.Native.Nat.{ℕ, suc, ◌+◌, ◌-◌, ◌*◌, ◌≤◌, ◌<◌}
use native.Mathlib.Numerals.{add-one}
use native.Mathlib.Omega.{arith}
use mathlib.Core.Bool.{Bool, true, false, ◌&&◌, true≢false}
use mathlib.Core.List.{List, [], ◌∷◌, ◌++◌, append-nil, append_assoc}
use mathlib.Core.Logic.{inl}
use lib.Dec.{eqb}
use lib.ListN.{length, get_or, set, take, drop, replicate, drop_of_length-le, length-replicate, get_or-replicate}
use lib.Seq.{drop-cons, get_or-take, get_or-drop, take-suc, take_all, length-take-le, ext_get_or}
use borrow.Author.Tests.{eq-eqb, eqb-true, lt-ltb, le-ltb}
use Rattle.lists.specs.Every.{all}
use Rattle.lists.specs.Rows.{keys, row_with}
use Rattle.lists.specs.Select.{each, same_numbers}
use Rattle.lists.proofs.Booleans.{and-fst, and-snd, same_test}
use Rattle.lists.proofs.Rows.{length-keys, length-reads, get_d_reads, found-key, found_within}
use Rattle.tables.specs.View.{word, ids_at, rows}
use Rattle.row_tests.specs.Returned.{searchable, lane_at, row_test, lane_returned}
use Rattle.row_tests.proofs.Lanes.{id-at, word_at, rows-lent, lanes-some, lanes-few, lanes-ascend, links-within}
use Rattle.row_ids.specs.Listed.{Listed, Ready}
use Rattle.link_tests.specs.Met.{links_ascend, lane_ids, Indexed, times, tally, named_before, cursors, stands_at, link_met, lane_met}
use Rattle.link_tests.proofs.Tallies.{times-append, times-before, length-tally, get_d_tally, tally-none, tally-more}
use Rattle.link_tests.proofs.Followed.{key_row, length_before, length-after, named_more, after-up, met-returned, returned-met, returned-counted}

-- a word of a list that lies in its row
pub link_at : (t : List ℕ) (j p c : ℕ) → p + 1 + word p (lane_at t j) ≤ 52 → c < word p (lane_at t j) → get_or t (1 + j * 52 + p + 1 + c) 0 ≡ get_or (ids_at p (lane_at t j)) c 0
link_at t j p c h l =
    let w = lane_at t j in
    let e : 1 + j * 52 + p + 1 + c ≡ 1 + j * 52 + (suc p + c) = omega arith in
    rw e (word_at t j (suc p + c) (omega arith) ∙ sym (get_or-take (word p w) (drop (suc p) w) c 0 l ∙ get_or-drop (suc p) w c 0))

-- ---- two lists of numbers, side by side

pub same_step : (l m : List ℕ) (j : ℕ) → j < length l → j < length m → same_numbers (drop j l) (drop j m) ≡ (eqb (get_or l j 0) (get_or m j 0) && same_numbers (drop (j + 1) l) (drop (j + 1) m))
unfolding same_numbers
same_step l m j a b = rw (add-one, drop-cons l j 0 a, drop-cons m j 0 b)

pub same_end : (l m : List ℕ) (j : ℕ) → length l ≤ j → length m ≤ j → same_numbers (drop j l) (drop j m) ≡ true
unfolding same_numbers
same_end l m j a b = rw (drop_of_length-le l a, drop_of_length-le m b)

same_lists : (l m : List ℕ) → same_numbers l m ≡ true → l ≡ m
unfolding same_numbers
same_lists [] [] h = refl
same_lists [] (y ∷ m) h = absurd (true≢false (sym h))
same_lists (x ∷ l) [] h = absurd (true≢false (sym h))
same_lists (x ∷ l) (y ∷ m) h =
    let e : x ≡ y = eqb-true x y (and-fst (eqb x y) (same_numbers l m) h) in
    let f : l ≡ m = same_lists l m (and-snd (eqb x y) (same_numbers l m) h) in
    rw (e, f)

same-itself : (l : List ℕ) → same_numbers l l ≡ true
unfolding same_numbers
same-itself [] = refl
same-itself (x ∷ l) = rw (eq-eqb x x refl) (same-itself l)

-- the counts of predecessors
pub counts-many : (t : List ℕ) → length (rows 52 (word 18) t) ≡ word 0 t
unfolding rows
counts-many t = length-reads 52 (word 18) (word 0 t) (drop 1 t)

pub count_at : (t : List ℕ) (j : ℕ) → j < word 0 t → get_or (rows 52 (word 18) t) j 0 ≡ get_or t (1 + j * 52 + 18) 0
unfolding rows
count_at t j l = get_d_reads 52 (word 18) (word 0 t) j (drop 1 t) 0 l ∙ (get_or-take 52 (drop (j * 52) (drop 1 t)) 18 0 (omega arith) ∙ (get_or-drop (j * 52) (drop 1 t) 18 0 ∙ (get_or-drop 1 t (j * 52 + 18) 0 ∙ ap (λ (k : ℕ). get_or t k 0) (same_place j))))
  where
    same_place : (j : ℕ) → 1 + (j * 52 + 18) ≡ 1 + j * 52 + 18
    same_place j = omega arith

-- ---- the ids as they are listed

module _ (t ids : List ℕ) (x : Indexed t ids) where
  pub ids-front : take (word 0 t) ids ≡ lane_ids t
  ids-front = rw (length-keys 52 (word 0 t) (drop 1 t)) at x.listed.front

  pub ids-ready : Ready (word 0 t) ids
  ids-ready =
      record {
        long = x.long;
        few = lanes-few t x.sorted;
        up = rw ids-front (lanes-ascend t x.sorted);
        spare = rw (length-keys 52 (word 0 t) (drop 1 t)) at x.listed.behind;
      }

  pub id-found : (b : ℕ) (r : Option ℕ) → r ≡ row_with b (take (word 0 t) ids) → row_with b (lane_ids t) ≡ r
  id-found b r e = sym (rw ids-front at e)

-- the ids as they were just written
pub indexed : (t ids : List ℕ) → searchable t ≡ true → length ids ≡ 1024 → Listed (keys 52 (word 0 t) (take (length t - 1) (drop 1 t))) ids → Indexed t ids
indexed t ids h e l = record { sorted = h; long = e; listed = rw (rows-lent t (lanes-some t h)) at l }

-- ---- one link

pub cursors-many : (t : List ℕ) (i k : ℕ) → length (cursors t i k) ≡ word 0 t
unfolding cursors
cursors-many t i k = length-tally (lane_ids t) (named_before t i ++ take k (ids_at 35 (lane_at t i))) ∙ length-keys 52 (word 0 t) (drop 1 t)

module _ (t : List ℕ) (h : searchable t ≡ true) (g : links_ascend t ≡ true) (i : ℕ) (l : i < word 0 t) where
  module _ (k : ℕ) (q : k < word 35 (lane_at t i)) where
    abbrev lane : ℕ
    lane = get_or (ids_at 35 (lane_at t i)) k 0

    within : k < length (ids_at 35 (lane_at t i))
    within = rw (length-after t h i l) q

    pub link-absent : row_with lane (lane_ids t) ≡ None → false ≡ link_met t i lane
    unfolding link_met row_test
    link-absent e = rw e

    module _ (j : ℕ) (e : row_with lane (lane_ids t) ≡ Some j) where
      found-low : j < word 0 t
      found-low = omega (arith, found_within lane (lane_ids t) j e, length-keys 52 (word 0 t) (drop 1 t))

      -- the cursor counts the lanes before
      cursor : get_or (cursors t i k) j 0 ≡ times lane (named_before t i)
      unfolding cursors
      cursor =
          let s = ids_at 35 (lane_at t i) in
          get_d_tally (lane_ids t) (named_before t i ++ take k s) j (found_within lane (lane_ids t) j e)
          ∙ (ap (λ (b : ℕ). times b (named_before t i ++ take k s)) (found-key lane (lane_ids t) j e)
          ∙ (times-append lane (named_before t i) (take k s) ∙ omega (arith, times-before s k (after-up t h g i l) within)))

      tests : link_met t i lane ≡ stands_at (get_or (cursors t i k) j 0) (word 0 (lane_at t i)) (ids_at 18 (lane_at t j))
      unfolding link_met row_test
      tests = rw (e, cursor)

      -- the words of the row that is found
      count : get_or t (1 + j * 52 + 18) 0 ≡ length (ids_at 18 (lane_at t j))
      count = word_at t j 18 (omega arith) ∙ sym (length_before t h j found-low)

      -- the cursors as they are lent
      module _ (m : List ℕ) (v : m ≡ cursors t i k) where
        pub link-past : get_or t (1 + j * 52 + 18) 0 ≤ get_or m j 0 → false ≡ link_met t i lane
        unfolding stands_at
        link-past f =
            let n : length (ids_at 18 (lane_at t j)) ≤ get_or (cursors t i k) j 0 = rw (count, v) at f in
            sym (tests ∙ rw (le-ltb (get_or (cursors t i k) j 0) (length (ids_at 18 (lane_at t j))) n))

        pub link-there : get_or m j 0 < get_or t (1 + j * 52 + 18) 0 → eqb (get_or t (1 + j * 52 + 18 + 1 + get_or m j 0) 0) (get_or t (1 + i * 52) 0) ≡ link_met t i lane
        unfolding stands_at
        link-there f =
            let n : get_or (cursors t i k) j 0 < length (ids_at 18 (lane_at t j)) = rw (count, v) at f in
            let r : 18 + 1 + word 18 (lane_at t j) ≤ 52 = omega (arith, links-within t h j found-low 18 (inl refl), word_at t j 18 (omega arith)) in
            let u : get_or (cursors t i k) j 0 < word 18 (lane_at t j) = omega (arith, length_before t h j found-low) in
            rw (v, link_at t j 18 (get_or (cursors t i k) j 0) r u, id-at t i) (sym (tests ∙ rw (lt-ltb (get_or (cursors t i k) j 0) (length (ids_at 18 (lane_at t j))) n)))

        pub link-moved : set m j (get_or m j 0 + 1) ≡ cursors t i (k + 1)
        unfolding cursors
        link-moved =
            let s = ids_at 35 (lane_at t i) in
            rw v (tally-more (lane_ids t) (named_before t i ++ take k s) lane j (lanes-ascend t h) e
            ∙ ap (tally (lane_ids t)) (append_assoc (named_before t i) (take k s) (lane ∷ []) ∙ rw (add-one, take-suc s k 0 within)))

  -- ---- one lane

  pub lane-moved : (k : ℕ) → word 35 (lane_at t i) ≤ k → cursors t i k ≡ cursors t (i + 1) 0
  unfolding cursors
  lane-moved k m =
      let s = ids_at 35 (lane_at t i) in
      let n : length s ≤ k = rw (length-after t h i l) m in
      rw (take_all k s n, named_more t h i l, append-nil)

  pub lane-stops : lane_met t i ≡ false → false ≡ all (λ b. b) (rows 52 (lane_returned t) t)
  lane-stops e = sym (go (all (λ b. b) (rows 52 (lane_returned t) t)) refl)
    where
      go : (r : Bool) → all (λ b. b) (rows 52 (lane_returned t) t) ≡ r → r ≡ false
      go true f = sym (returned-met t h g f i l) ∙ e
      go false f = refl

-- ---- the front and the end

-- zeros, as many as there are lanes
pub zeros-many : (n m : ℕ) → n ≤ m → n ≡ length (take n (replicate {A = ℕ} m 0))
zeros-many n m h = sym (length-take-le n (replicate {A = ℕ} m 0) (rw (length-replicate {A = ℕ} m 0) h))

pub cursors-first : (t : List ℕ) (m : ℕ) → word 0 t ≤ m → take (word 0 t) (replicate {A = ℕ} m 0) ≡ cursors t 0 0
unfolding cursors named_before each
cursors-first t m h =
    let n = word 0 t in
    let z = zeros-many n m h in
    tally-none (lane_ids t) (take n (replicate {A = ℕ} m 0)) (sym z ∙ sym (length-keys 52 n (drop 1 t)))
    (λ j l. let l : j < n = rw (← z) at l in get_or-take n (replicate {A = ℕ} m 0) j 0 l ∙ get_or-replicate {A = ℕ} m j 0 0 (omega arith))

pub met-ends : (t : List ℕ) → searchable t ≡ true → links_ascend t ≡ true → ((i : ℕ) → i < word 0 t → lane_met t i ≡ true)
    → same_numbers (cursors t (word 0 t) 0) (rows 52 (word 18) t) ≡ all (λ b. b) (rows 52 (lane_returned t) t)
met-ends t h g m =
    same_test (same_numbers (cursors t (word 0 t) 0) (rows 52 (word 18) t)) (all (λ b. b) (rows 52 (lane_returned t) t)) (λ e. forth (same_lists (cursors t (word 0 t) 0) (rows 52 (word 18) t) e)) back
  where
    last : (j : ℕ) → j < word 0 t → get_or (cursors t (word 0 t) 0) j 0 ≡ times (word 0 (lane_at t j)) (named_before t (word 0 t))
    last j l = unfold cursors in
        let n : j < length (lane_ids t) = rw (length-keys 52 (word 0 t) (drop 1 t)) l in
        rw append-nil (get_d_tally (lane_ids t) (named_before t (word 0 t)) j n ∙ ap (λ (b : ℕ). times b (named_before t (word 0 t))) (key_row t h j l))

    count : (j : ℕ) → j < word 0 t → get_or (rows 52 (word 18) t) j 0 ≡ word 18 (lane_at t j)
    count j l = count_at t j l ∙ word_at t j 18 (omega arith)

    forth : cursors t (word 0 t) 0 ≡ rows 52 (word 18) t → all (λ b. b) (rows 52 (lane_returned t) t) ≡ true
    forth e = met-returned t h g m (λ j l. sym (last j l) ∙ (ap (λ (v : List ℕ). get_or v j 0) e ∙ count j l))

    back : all (λ b. b) (rows 52 (lane_returned t) t) ≡ true → same_numbers (cursors t (word 0 t) 0) (rows 52 (word 18) t) ≡ true
    back r =
        let e : cursors t (word 0 t) 0 ≡ rows 52 (word 18) t =
        ext_get_or 0 (cursors t (word 0 t) 0) (rows 52 (word 18) t) (cursors-many t (word 0 t) 0 ∙ sym (counts-many t))
        (λ j l. let l : j < word 0 t = rw (cursors-many t (word 0 t) 0) at l in last j l ∙ (returned-counted t h g r j l ∙ sym (count j l))) in
        rw e (same-itself (rows 52 (word 18) t))
