-- Links that are met in one pass, lanes ascending, are those that are returned both ways. Assumes nothing.
use Rattle.std.specs.Prelude.{Option, None, Some}
use mathlib.Core.Path.{◌≡◌, refl, sym, ap, ◌∙◌}
use Prim.Native.Nat.{ℕ, zero, suc, ◌+◌, ◌*◌, ◌≤◌, ◌<◌}
use native.Mathlib.Numerals.{add-one}
use native.Mathlib.Omega.{arith}
use mathlib.Core.Bool.{Bool, true, false, ◌&&◌, cond, true≢false}
use mathlib.Core.List.{List, [], ◌∷◌, ◌++◌, append-nil}
use lib.ListN.{length, get_or, take, drop, length-append, length-drop}
use lib.Seq.{drop-drop, get_or-drop, take-suc, take_all, take-length, length-take-le, split_at}
use Rattle.lists.specs.Every.{all}
use Rattle.lists.specs.Rows.{row_with}
use Rattle.lists.specs.Select.{keep, each, has, ascending}
use Rattle.lists.proofs.Booleans.{and-fst, and-snd, and_both, same_test}
use Rattle.lists.proofs.Every.{all_get_d, all-places}
use Rattle.lists.proofs.Rows.{length-reads, get_d_reads, length-keys, key-at, row-at, found-key, found-has, there}
use Rattle.lists.proofs.Same.{ascending-same}
use Rattle.lists.proofs.Select.{keep_append, keep-more, kept-pass, has-keep, all-has, all-weaken, all-numbers, ascending-keep, each_more}
use Rattle.tables.specs.View.{word, ids_at, rows}
use Rattle.row_tests.specs.Returned.{searchable, lane_at, on_row, row_test, names_back, lane_returned}
use Rattle.row_tests.proofs.Tables.{row-length}
use Rattle.row_tests.proofs.Formed.{lane-before, lane-after}
use Rattle.row_tests.proofs.Lanes.{id-at, lane_row, lanes-ascend, lanes-counted, lane-found, row-formed}
use Rattle.link_tests.specs.Met.{links_ascend, lane_ids, times, named_before, stands_at, link_met, lane_met}
use Rattle.link_tests.proofs.Tallies.{times-append, times-once, stands-less, stands-is, stands-has, stands-behind}

-- the row with id x, which passes q
record Tested (t : List ℕ) (q : List ℕ → Bool) (x : ℕ) : Type 0 where
  at : ℕ
  low : at < word 0 t
  own : word 0 (lane_at t at) ≡ x
  holds : q (lane_at t at) ≡ true

-- a test of every row, and of each
module _ (t : List ℕ) (f : List ℕ → Bool) where
  row_read : (i : ℕ) → i < word 0 t → get_or (rows 52 f t) i true ≡ f (lane_at t i)
  unfolding rows
  row_read i l = get_d_reads 52 f (word 0 t) i (drop 1 t) true l ∙ rw drop-drop

  many-rows : length (rows 52 f t) ≡ word 0 t
  unfolding rows
  many-rows = length-reads 52 f (word 0 t) (drop 1 t)

  pub rows-each : all (λ b. b) (rows 52 f t) ≡ true → (i : ℕ) → i < word 0 t → f (lane_at t i) ≡ true
  rows-each a i l = sym (row_read i l) ∙ all_get_d (λ (b : Bool). b) (rows 52 f t) i true (rw many-rows l) a

  pub rows_all : ((i : ℕ) → i < word 0 t → f (lane_at t i) ≡ true) → all (λ b. b) (rows 52 f t) ≡ true
  rows_all h = all-places (λ (b : Bool). b) (rows 52 f t) true (λ k l. let l : k < word 0 t = rw many-rows at l in row_read k l ∙ h k l)

module _ (t : List ℕ) (h : searchable t ≡ true) where
  many-ids : length (lane_ids t) ≡ word 0 t
  many-ids = length-keys 52 (word 0 t) (drop 1 t)

  -- a lane's id, and its row by its id
  pub key_row : (i : ℕ) → i < word 0 t → get_or (lane_ids t) i 0 ≡ word 0 (lane_at t i)
  key_row i l = key-at 52 (word 0 t) i (drop 1 t) (omega arith) l ∙ (get_or-drop 1 t (i * 52) 0 ∙ id-at t i)

  own_row : (i : ℕ) → i < word 0 t → row_with (word 0 (lane_at t i)) (lane_ids t) ≡ Some i
  own_row i l = row-at (word 0 (lane_at t i)) i (lane_ids t) (lanes-ascend t h) (rw many-ids l) (key_row i l)

  test-own : (q : List ℕ → Bool) (i : ℕ) → i < word 0 t → row_test q t (word 0 (lane_at t i)) ≡ q (lane_at t i)
  unfolding row_test
  test-own q i l = rw (own_row i l)

  tested : (q : List ℕ → Bool) (x : ℕ) → row_test q t x ≡ true → Tested t q x
  unfolding row_test
  tested q x e = go (row_with x (lane_ids t)) refl e
    where
      go : (r : Option ℕ) → row_with x (lane_ids t) ≡ r → on_row q t r ≡ true → Tested t q x
      go None f e = absurd (true≢false (sym e))
      go (Some j) f e =
          let l = lane-found t h x j f in
          record { at = j; low = l; own = sym (key_row j l) ∙ found-key x (lane_ids t) j f; holds = e }

  test-weaken : (p q : List ℕ → Bool) → ((w : List ℕ) → p w ≡ true → q w ≡ true) → (x : ℕ) → row_test p t x ≡ true → row_test q t x ≡ true
  unfolding row_test
  test-weaken p q f x e = go (row_with x (lane_ids t)) e
    where
      go : (r : Option ℕ) → on_row p t r ≡ true → on_row q t r ≡ true
      go None e = e
      go (Some j) e = f (lane_at t j) e

  test_has : (q : List ℕ → Bool) (x : ℕ) → row_test q t x ≡ true → has x (lane_ids t) ≡ true
  unfolding row_test
  test_has q x e = found-has x (lane_ids t) ∙ go (row_with x (lane_ids t)) e
    where
      go : (r : Option ℕ) → on_row q t r ≡ true → there r ≡ true
      go None e = e
      go (Some j) e = refl

  -- a list of links is as long as its count says
  whole_row : (i : ℕ) → i < word 0 t → length (lane_at t i) ≡ 52
  whole_row i l = rw (lane_row t i) at (row-length 1024 52 t (lanes-counted t h) i l)

  pub length_before : (i : ℕ) → i < word 0 t → length (ids_at 18 (lane_at t i)) ≡ word 18 (lane_at t i)
  length_before i l =
      length-take-le (word 18 (lane_at t i)) (drop 19 (lane_at t i)) (rw length-drop (omega (arith, whole_row i l, lane-before (lane_at t i) (row-formed t h i l))))

  pub length-after : (i : ℕ) → i < word 0 t → length (ids_at 35 (lane_at t i)) ≡ word 35 (lane_at t i)
  length-after i l =
      length-take-le (word 35 (lane_at t i)) (drop 36 (lane_at t i)) (rw length-drop (omega (arith, whole_row i l, lane-after (lane_at t i) (row-formed t h i l))))

  -- one lane more
  pub named_more : (i : ℕ) → i < word 0 t → named_before t (i + 1) ≡ named_before t i ++ ids_at 35 (lane_at t i)
  unfolding named_before rows
  named_more i l =
      let m : i < length (rows 52 (λ w. w) t) = rw (length-reads 52 (λ (w : List ℕ). w) (word 0 t) (drop 1 t)) l in
      each_more (ids_at 35) (rows 52 (λ w. w) t) i [] m ∙ rw (get_d_reads 52 (λ (w : List ℕ). w) (word 0 t) i (drop 1 t) [] l, drop-drop)

  -- the lanes before row i that have b as a successor
  abbrev came : ℕ → ℕ → List ℕ
  came b i = keep (names_back t 35 b) (take i (lane_ids t))

  came-more : (b i : ℕ) → i < word 0 t → came b (i + 1) ≡ came b i ++ cond (has b (ids_at 35 (lane_at t i))) (word 0 (lane_at t i) ∷ []) []
  came-more b i l =
      let m : i < length (lane_ids t) = rw many-ids l in
      keep-more (names_back t 35 b) (lane_ids t) i 0 m ∙ rw (key_row i l, test-own (λ w. has b (ids_at 35 w)) i l)

  module _ (g : links_ascend t ≡ true) where
    both-up : (i : ℕ) → i < word 0 t → (ascending (ids_at 18 (lane_at t i)) && ascending (ids_at 35 (lane_at t i))) ≡ true
    unfolding links_ascend
    both-up i l = rows-each t (λ w. ascending (ids_at 18 w) && ascending (ids_at 35 w)) g i l

    before-up : (i : ℕ) → i < word 0 t → ascending (ids_at 18 (lane_at t i)) ≡ true
    before-up i l = and-fst (ascending (ids_at 18 (lane_at t i))) (ascending (ids_at 35 (lane_at t i))) (both-up i l)

    pub after-up : (i : ℕ) → i < word 0 t → ascending (ids_at 35 (lane_at t i)) ≡ true
    after-up i l = and-snd (ascending (ids_at 18 (lane_at t i))) (ascending (ids_at 35 (lane_at t i))) (both-up i l)

    -- a lane is named as often as lanes have it as a successor
    times-came : (b i : ℕ) → i ≤ word 0 t → times b (named_before t i) ≡ length (came b i)
    times-came b zero l = unfold named_before each keep in refl
    times-came b (suc i) l =
        let m : i < word 0 t = omega arith in
        rw (← add-one i) (rw (named_more i m, came-more b i m, times-append b (named_before t i) (ids_at 35 (lane_at t i)), times-once b (ids_at 35 (lane_at t i)) (after-up i m), length-append)
        (go (has b (ids_at 35 (lane_at t i))) (times-came b i (omega arith))))
      where
        go : (q : Bool) → times b (named_before t i) ≡ length (came b i)
            → times b (named_before t i) + cond q 1 0 ≡ length (came b i) + length (cond q (word 0 (lane_at t i) ∷ []) [])
        go true r = omega arith
        go false r = omega arith

    -- ---- links that are met are returned

    module _ (m : (i : ℕ) → i < word 0 t → lane_met t i ≡ true) where
      met : (i b : ℕ) → i < word 0 t → has b (ids_at 35 (lane_at t i)) ≡ true → link_met t i b ≡ true
      unfolding lane_met
      met i b l e = all-has (link_met t i) b (ids_at 35 (lane_at t i)) (m i l) e

      -- a lane's predecessors begin with those that have it as a successor
      begins : (j : ℕ) → j < word 0 t → (i : ℕ) → i ≤ word 0 t
          → (length (came (word 0 (lane_at t j)) i) ≤ length (ids_at 18 (lane_at t j)))
          × (take (length (came (word 0 (lane_at t j)) i)) (ids_at 18 (lane_at t j)) ≡ came (word 0 (lane_at t j)) i)
      begins j k zero l = unfold keep in (omega arith, refl)
      begins j k (suc i) l =
          let n : i < word 0 t = omega arith in
          rw (← add-one i, came-more b i n) (go (has b (ids_at 35 (lane_at t i))) refl (begins j k i (omega arith)))
        where
          b : ℕ
          b = word 0 (lane_at t j)

          go : (q : Bool) → has b (ids_at 35 (lane_at t i)) ≡ q
              → (length (came b i) ≤ length (ids_at 18 (lane_at t j))) × (take (length (came b i)) (ids_at 18 (lane_at t j)) ≡ came b i)
              → (length (came b i ++ cond q (word 0 (lane_at t i) ∷ []) []) ≤ length (ids_at 18 (lane_at t j)))
              × (take (length (came b i ++ cond q (word 0 (lane_at t i) ∷ []) [])) (ids_at 18 (lane_at t j)) ≡ came b i ++ cond q (word 0 (lane_at t i) ∷ []) [])
          go false e r = rw append-nil r
          go true e r =
              let n : i < word 0 t = omega arith in
              let c = length (came b i) in
              let p = ids_at 18 (lane_at t j) in
              let x = word 0 (lane_at t i) in
              let s : stands_at (times b (named_before t i)) x p ≡ true = unfold link_met in sym (test-own (λ w. stands_at (times b (named_before t i)) x (ids_at 18 w)) j k) ∙ met i b n e in
              let u : stands_at c x p ≡ true = rw (times-came b i (omega arith)) at s in
              let f = stands-less c x p u in
              let w : length (came b i ++ (x ∷ [])) ≡ suc c = rw length-append (omega arith) in
              (rw w f, rw (w, take-suc p c 0 f, r.1, stands-is c x p u))

      -- at the end each lane's predecessors are counted
      module _ (z : (j : ℕ) → j < word 0 t → times (word 0 (lane_at t j)) (named_before t (word 0 t)) ≡ word 18 (lane_at t j)) where
        whole : (j : ℕ) → j < word 0 t → ids_at 18 (lane_at t j) ≡ came (word 0 (lane_at t j)) (word 0 t)
        whole j l =
            let p = ids_at 18 (lane_at t j) in
            let e : length (came (word 0 (lane_at t j)) (word 0 t)) ≡ length p = sym (times-came (word 0 (lane_at t j)) (word 0 t) (omega arith)) ∙ (z j l ∙ sym (length_before j l)) in
            sym (take-length p) ∙ (rw e at (begins j l (word 0 t) (omega arith)).1)

        lane-forth : (i : ℕ) → i < word 0 t → all (names_back t 18 (word 0 (lane_at t i))) (ids_at 35 (lane_at t i)) ≡ true
        unfolding lane_met link_met
        lane-forth i l =
            let x = word 0 (lane_at t i) in
            all-weaken (link_met t i) (names_back t 18 x) (ids_at 35 (lane_at t i))
            (λ b e. test-weaken (λ w. stands_at (times b (named_before t i)) x (ids_at 18 w)) (λ w. has x (ids_at 18 w)) (λ w. stands-has (times b (named_before t i)) x (ids_at 18 w)) b e) (m i l)

        lane : (i : ℕ) → i < word 0 t → lane_returned t (lane_at t i) ≡ true
        unfolding lane_returned
        lane i l =
            let x = word 0 (lane_at t i) in
            let p : all (names_back t 35 x) (ids_at 18 (lane_at t i)) ≡ true = rw (whole i l) (kept-pass (names_back t 35 x) (take (word 0 t) (lane_ids t))) in
            and_both (all (names_back t 18 x) (ids_at 35 (lane_at t i))) (all (names_back t 35 x) (ids_at 18 (lane_at t i))) (lane-forth i l) p

        pub met-returned : all (λ b. b) (rows 52 (lane_returned t) t) ≡ true
        met-returned = rows_all t (lane_returned t) lane

    -- ---- links that are returned are met

    module _ (r : all (λ b. b) (rows 52 (lane_returned t) t) ≡ true) where
      lane-back : (i : ℕ) → i < word 0 t → lane_returned t (lane_at t i) ≡ true
      lane-back i l = rows-each t (lane_returned t) r i l

      forth : (i b : ℕ) → i < word 0 t → has b (ids_at 35 (lane_at t i)) ≡ true → names_back t 18 (word 0 (lane_at t i)) b ≡ true
      unfolding lane_returned
      forth i b l e =
          let x = word 0 (lane_at t i) in
          all-has (names_back t 18 x) b (ids_at 35 (lane_at t i)) (and-fst (all (names_back t 18 x) (ids_at 35 (lane_at t i))) (all (names_back t 35 x) (ids_at 18 (lane_at t i))) (lane-back i l)) e

      back : (i b : ℕ) → i < word 0 t → has b (ids_at 18 (lane_at t i)) ≡ true → names_back t 35 (word 0 (lane_at t i)) b ≡ true
      unfolding lane_returned
      back i b l e =
          let x = word 0 (lane_at t i) in
          all-has (names_back t 35 x) b (ids_at 18 (lane_at t i)) (and-snd (all (names_back t 18 x) (ids_at 35 (lane_at t i))) (all (names_back t 35 x) (ids_at 18 (lane_at t i))) (lane-back i l)) e

      all_ids : take (word 0 t) (lane_ids t) ≡ lane_ids t
      all_ids = take_all (word 0 t) (lane_ids t) (omega (arith, many-ids))

      -- a lane's predecessors are those that have it as a successor
      same : (j : ℕ) → j < word 0 t → ids_at 18 (lane_at t j) ≡ came (word 0 (lane_at t j)) (word 0 t)
      same j l =
          ascending-same p (came b (word 0 t)) (before-up j l) (ascending-keep (names_back t 35 b) (take (word 0 t) (lane_ids t)) (rw all_ids (lanes-ascend t h)))
          (λ a. same_test (has a p) (has a (came b (word 0 t))) (λ e. into a e) (λ e. out a e))
        where
          b : ℕ
          b = word 0 (lane_at t j)

          p : List ℕ
          p = ids_at 18 (lane_at t j)

          had : (a : ℕ) → has a (came b (word 0 t)) ≡ (has a (lane_ids t) && names_back t 35 b a)
          had a = has-keep a (names_back t 35 b) (take (word 0 t) (lane_ids t)) ∙ ap (λ (ks : List ℕ). has a ks && names_back t 35 b a) all_ids

          into : (a : ℕ) → has a p ≡ true → has a (came b (word 0 t)) ≡ true
          into a e =
              let n : names_back t 35 b a ≡ true = back j a l e in
              had a ∙ and_both (has a (lane_ids t)) (names_back t 35 b a) (test_has (λ w. has b (ids_at 35 w)) a n) n

          out : (a : ℕ) → has a (came b (word 0 t)) ≡ true → has a p ≡ true
          out a e =
              let n : names_back t 35 b a ≡ true = and-snd (has a (lane_ids t)) (names_back t 35 b a) (sym (had a) ∙ e) in
              let f = tested (λ w. has b (ids_at 35 w)) a n in
              let u = forth f.at b f.low f.holds in
              sym (test-own (λ w. has a (ids_at 18 w)) j l) ∙ rw f.own at u

      pub returned-counted : (j : ℕ) → j < word 0 t → times (word 0 (lane_at t j)) (named_before t (word 0 t)) ≡ word 18 (lane_at t j)
      returned-counted j l = times-came (word 0 (lane_at t j)) (word 0 t) (omega arith) ∙ (ap length (sym (same j l)) ∙ length_before j l)

      -- the lane follows those before it
      next : (b i : ℕ) → i < word 0 t → has b (ids_at 35 (lane_at t i)) ≡ true
          → came b (word 0 t) ≡ came b i ++ (word 0 (lane_at t i) ∷ keep (names_back t 35 b) (drop (suc i) (lane_ids t)))
      unfolding keep
      next b i l e =
          let k : i < length (lane_ids t) = rw many-ids l in
          let s : lane_ids t ≡ take i (lane_ids t) ++ (get_or (lane_ids t) i 0 ∷ drop (suc i) (lane_ids t)) = split_at (lane_ids t) i 0 k in
          let v : names_back t 35 b (word 0 (lane_at t i)) ≡ true = test-own (λ w. has b (ids_at 35 w)) i l ∙ e in
          ap (keep (names_back t 35 b)) (all_ids ∙ s) ∙ (keep_append (names_back t 35 b) (take i (lane_ids t)) (get_or (lane_ids t) i 0 ∷ drop (suc i) (lane_ids t))
          ∙ rw (key_row i l, v))

      link : (i b : ℕ) → i < word 0 t → has b (ids_at 35 (lane_at t i)) ≡ true → link_met t i b ≡ true
      unfolding link_met
      link i b l e =
          let x = word 0 (lane_at t i) in
          let f = tested (λ w. has x (ids_at 18 w)) b (forth i b l e) in
          let d = word 0 (lane_at t f.at) in
          let e : has d (ids_at 35 (lane_at t i)) ≡ true = rw f.own e in
          let p : ids_at 18 (lane_at t f.at) ≡ came d i ++ (x ∷ keep (names_back t 35 d) (drop (suc i) (lane_ids t))) = same f.at f.low ∙ next d i l e in
          let s : stands_at (times d (named_before t i)) x (ids_at 18 (lane_at t f.at)) ≡ true =
          rw (p, times-came d i (omega arith)) (stands-behind x (came d i) (keep (names_back t 35 d) (drop (suc i) (lane_ids t)))) in
          rw f.own at (test-own (λ w. stands_at (times d (named_before t i)) x (ids_at 18 w)) f.at f.low ∙ s)

      pub returned-met : (i : ℕ) → i < word 0 t → lane_met t i ≡ true
      unfolding lane_met
      returned-met i l = all-numbers (link_met t i) (ids_at 35 (lane_at t i)) (λ b e. link i b l e)
