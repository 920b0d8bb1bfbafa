-- How many links lanes have after an edit: at most 16 each way, where the lists that grow have room. Assumes nothing.
use mathlib.Core.Path.{◌≡◌, refl, sym, ap, ◌∙◌}
use mathlib.Core.Logic.{◌⊎◌, inl, inr}
use Prim.Native.Nat.{ℕ, ◌≤◌, ◌<◌}
use native.Mathlib.Omega.{arith}
use mathlib.Core.Bool.{Bool, true, false, not, cond, ◌&&◌, ◌||◌}
use mathlib.Core.List.{List, []}
use lib.Dec.{eqb, leb, ltb}
use lib.Ieee.{Float}
use lib.ListN.{length, get_or, drop}
use lib.Seq.{drop-drop}
use borrow.Author.Tests.{eq-eqb, eqb-true, leb-true, le-leb, ltb-true, lt-ltb}
use Rattle.lists.specs.Every.{all}
use Rattle.lists.specs.Select.{place, without}
use Rattle.lists.proofs.Booleans.{and_both, and-fst, and-snd, same_test}
use Rattle.lists.proofs.Every.{all-places, all_get_d}
use Rattle.lists.proofs.Rows.{length-reads, get_d_reads}
use Rattle.lists.proofs.Place.{place-present, length-place}
use Rattle.lists.proofs.Select.{length-keep}
use Rattle.entities.specs.Records.{Lane}
use Rattle.rules.specs.Edit as E
use Rattle.tables.specs.View.{word, lane_of, rows}
use Rattle.row_tests.specs.Returned.{searchable, lane_at}
use Rattle.topology.specs.Topology.{id_at, links_at}
use Rattle.topology.proofs.Table.{unique}
use Rattle.topology.proofs.Links.{list_count}
use Rattle.relink.specs.Parts.{Linkable, link_room}

-- a lane's lists within the limit
abbrev pub within : Lane → Bool
within l = leb (length l.predecessors) 16 && leb (length l.successors) 16

-- ---- every lane of a table, row by row

module _ (c : List Float) (t : List ℕ) (q : Lane → Bool) where
  row-at : (k : ℕ) → k < word 0 t → get_or (rows 52 (lane_of c) t) k (lane_of c []) ≡ lane_of c (lane_at t k)
  unfolding rows
  row-at k l = get_d_reads 52 (lane_of c) (word 0 t) k (drop 1 t) (lane_of c []) l ∙ rw drop-drop

  many : length (rows 52 (lane_of c) t) ≡ word 0 t
  unfolding rows
  many = length-reads 52 (lane_of c) (word 0 t) (drop 1 t)

  pub every-row : ((k : ℕ) → k < word 0 t → q (lane_of c (lane_at t k)) ≡ true) → all q (rows 52 (lane_of c) t) ≡ true
  every-row h =
      all-places q (rows 52 (lane_of c) t) (lane_of c []) (λ k l.
      let m : k < word 0 t = rw (sym many) l in
      ap q (row-at k m) ∙ h k m)

  pub each_row : all q (rows 52 (lane_of c) t) ≡ true → (k : ℕ) → k < word 0 t → q (lane_of c (lane_at t k)) ≡ true
  each_row h k l =
      let m : k < length (rows 52 (lane_of c) t) = rw many l in
      ap q (sym (row-at k l)) ∙ all_get_d q (rows 52 (lane_of c) t) k (lane_of c []) m h

-- ---- after connect and disconnect

module _ (c : List Float) (t : List ℕ) (i j : ℕ) (linked : Bool) (p : Linkable t i j linked) where
  abbrev h : searchable t ≡ true
  h = p.0

  abbrev a : ℕ
  a = id_at t i

  abbrev b : ℕ
  b = id_at t j

  few : (k n : ℕ) → k < word 0 t → (n ≡ 18) ⊎ (n ≡ 35) → length (links_at t k n) ≤ 16
  few k n l e = (list_count t h k n l e).1

  -- a row's lists after connect
  abbrev prior : ℕ → List ℕ
  prior k = cond (eqb (id_at t k) b) (place a (links_at t k 18)) (links_at t k 18)

  abbrev after : ℕ → List ℕ
  after k = cond (eqb (id_at t k) a) (place b (links_at t k 35)) (links_at t k 35)

  lane-lists : (k : ℕ) → within (E.link_in a b (lane_of c (lane_at t k))) ≡ (leb (length (prior k)) 16 && leb (length (after k)) 16)
  unfolding lane_of
  lane-lists k = refl

  -- the list that grows, by whether the link is there
  grown-after : (linked || link_room t i j) ≡ true → length (place b (links_at t i 35)) ≤ 16
  grown-after r = go linked refl
    where
      go : (x : Bool) → linked ≡ x → length (place b (links_at t i 35)) ≤ 16
      go true e = rw (place-present b (links_at t i 35) p.1.1.1.1.1.0 (sym p.1.1.1.0 ∙ e)) (few i 35 p.1.0 (inr refl))
      go false e =
          let q : link_room t i j ≡ true = rw e at r in
          let u = ltb-true (length (links_at t i 35)) 16 (and-fst (ltb (length (links_at t i 35)) 16) (ltb (length (links_at t j 18)) 16) q) in
          omega (arith, length-place b (links_at t i 35) (sym p.1.1.1.0 ∙ e))

  grown_prior : (linked || link_room t i j) ≡ true → length (place a (links_at t j 18)) ≤ 16
  grown_prior r = go linked refl
    where
      go : (x : Bool) → linked ≡ x → length (place a (links_at t j 18)) ≤ 16
      go true e = rw (place-present a (links_at t j 18) p.1.1.1.1.1.1 (sym p.1.1.1.1.0 ∙ e)) (few j 18 p.1.1.0 (inl refl))
      go false e =
          let q : link_room t i j ≡ true = rw e at r in
          let u = ltb-true (length (links_at t j 18)) 16 (and-snd (ltb (length (links_at t i 35)) 16) (ltb (length (links_at t j 18)) 16) q) in
          omega (arith, length-place a (links_at t j 18) (sym p.1.1.1.1.0 ∙ e))

  rooms : (linked || link_room t i j) ≡ true → all (λ l. within (E.link_in a b l)) (rows 52 (lane_of c) t) ≡ true
  rooms r = every-row c t (λ l. within (E.link_in a b l)) (λ k l. lane-lists k ∙ and_both (leb (length (prior k)) 16) (leb (length (after k)) 16) (le-leb (length (prior k)) 16 (small_prior k l (eqb (id_at t k) b) refl)) (le-leb (length (after k)) 16 (small-after k l (eqb (id_at t k) a) refl)))
    where
      small_prior : (k : ℕ) → k < word 0 t → (x : Bool) → eqb (id_at t k) b ≡ x → length (cond x (place a (links_at t k 18)) (links_at t k 18)) ≤ 16
      small_prior k l true e = let s : k ≡ j = unique t h j k p.1.1.0 l (eqb-true (id_at t k) b e) in rw s (grown_prior r)
      small_prior k l false e = few k 18 l (inl refl)

      small-after : (k : ℕ) → k < word 0 t → (x : Bool) → eqb (id_at t k) a ≡ x → length (cond x (place b (links_at t k 35)) (links_at t k 35)) ≤ 16
      small-after k l true e = let s : k ≡ i = unique t h i k p.1.0 l (eqb-true (id_at t k) a e) in rw s (grown-after r)
      small-after k l false e = few k 35 l (inr refl)

  needs-room : all (λ l. within (E.link_in a b l)) (rows 52 (lane_of c) t) ≡ true → (linked || link_room t i j) ≡ true
  needs-room g = go linked refl
    where
      at_i : length (place b (links_at t i 35)) ≤ 16
      at_i =
          let u = sym (lane-lists i) ∙ each_row c t (λ l. within (E.link_in a b l)) g i p.1.0 in
          let v : leb (length (after i)) 16 ≡ true = and-snd (leb (length (prior i)) 16) (leb (length (after i)) 16) u in
          let w : after i ≡ place b (links_at t i 35) = rw (eq-eqb a a refl) in
          rw (sym w) (leb-true (length (after i)) 16 v)

      at_j : length (place a (links_at t j 18)) ≤ 16
      at_j =
          let u = sym (lane-lists j) ∙ each_row c t (λ l. within (E.link_in a b l)) g j p.1.1.0 in
          let v : leb (length (prior j)) 16 ≡ true = and-fst (leb (length (prior j)) 16) (leb (length (after j)) 16) u in
          let w : prior j ≡ place a (links_at t j 18) = rw (eq-eqb b b refl) in
          rw (sym w) (leb-true (length (prior j)) 16 v)

      go : (x : Bool) → linked ≡ x → (linked || link_room t i j) ≡ true
      go true e = rw e
      go false e =
          let x = length-place b (links_at t i 35) (sym p.1.1.1.0 ∙ e) in
          let y = length-place a (links_at t j 18) (sym p.1.1.1.1.0 ∙ e) in
          rw (e, lt-ltb (length (links_at t i 35)) 16 (omega (arith, at_i)), lt-ltb (length (links_at t j 18)) 16 (omega (arith, at_j)))

  -- connect has room exactly where the link is there or both lists have a place
  pub connect-room : all (λ l. within (E.link_in a b l)) (rows 52 (lane_of c) t) ≡ (linked || link_room t i j)
  connect-room = same_test (all (λ l. within (E.link_in a b l)) (rows 52 (lane_of c) t)) (linked || link_room t i j) needs-room rooms

  -- disconnect always has room
  pub disconnect-room : all (λ l. within (E.link_out a b l)) (rows 52 (lane_of c) t) ≡ true
  unfolding lane_of without
  disconnect-room =
      every-row c t (λ l. within (E.link_out a b l)) (λ k l.
      and_both (leb (length (cond (eqb (id_at t k) b) (without a (links_at t k 18)) (links_at t k 18))) 16) (leb (length (cond (eqb (id_at t k) a) (without b (links_at t k 35)) (links_at t k 35))) 16)
      (le-leb (length (cond (eqb (id_at t k) b) (without a (links_at t k 18)) (links_at t k 18))) 16 (fewer a (links_at t k 18) (eqb (id_at t k) b) (few k 18 l (inl refl))))
      (le-leb (length (cond (eqb (id_at t k) a) (without b (links_at t k 35)) (links_at t k 35))) 16 (fewer b (links_at t k 35) (eqb (id_at t k) a) (few k 35 l (inr refl)))))
    where
      fewer : (x : ℕ) (ids : List ℕ) (on : Bool) → length ids ≤ 16 → length (cond on (without x ids) ids) ≤ 16
      fewer x ids true n = omega (arith, length-keep (λ y. not (eqb x y)) ids)
      fewer x ids false n = n

-- lists that an edit leaves are within the limit
pub own_room : (c : List Float) (t : List ℕ) → searchable t ≡ true → all within (rows 52 (lane_of c) t) ≡ true
unfolding lane_of
own_room c t h =
    every-row c t within (λ k l.
    and_both (leb (length (links_at t k 18)) 16) (leb (length (links_at t k 35)) 16) (le-leb (length (links_at t k 18)) 16 (list_count t h k 18 l (inl refl)).1)
    (le-leb (length (links_at t k 35)) 16 (list_count t h k 35 l (inr refl)).1))
