-- The rows of both halves, as the code writes them one store after the other. Assumes nothing.
use Rattle.std.specs.Prelude.{Option, None, Some}
use mathlib.Core.Path.{◌≡◌, refl, sym, ap, ◌∙◌}
use Prim.Native.Nat.{ℕ, suc, ◌+◌, ◌-◌, ◌≤◌, ◌<◌}
use native.Mathlib.Omega.{arith}
use mathlib.Core.Bool.{Bool, true, false, not, cond}
use mathlib.Core.List.{List, [], ◌∷◌}
use lib.Dec.{eqb, leb}
use lib.ListN.{length, get_or, set, take, drop, length-set}
use lib.Seq.{get_or-drop, drop-drop, get_or-take, take-take, drop-set-lt, get_or-set_other}
use borrow.Author.Tests.{leb-true}
use Rattle.lists.specs.Rows.{keys, row_with}
use Rattle.lists.specs.Select.{ascending, numbered}
use Rattle.lists.proofs.Every.{all_get_d}
use Rattle.lists.proofs.Rows.{drop-take, length_over, take-before-over, one_found}
use Rattle.entities.specs.declared.Neighbor.{Neighbor}
use Rattle.entities.specs.Types.{same, opposing}
use Rattle.rules.specs.Split.{first_slot, second_slot}
use Rattle.tables.specs.View.{word, mark, ids_at, slot_at}
use Rattle.tables.specs.Formed.{lane_formed}
use Rattle.store.specs.Rows.{slot_words, set_slot, set_list}
use Rattle.store.proofs.Lists.{ids-many}
use Rattle.store.proofs.Turns.{drop-behind}
use Rattle.store.proofs.Marks.{lane-marks}
use Rattle.split_rows.specs.Halves.{half_ref, center_onto, first_start, first_size, second_size, first_row, head_row, second_row, Halved, RowCuts, RowCame, row_cut, lane_cut, came_row, Cuts}
use Rattle.split_rows.proofs.Rows.{center_long, head-long}
use Rattle.split_rows.proofs.Coming.{came-long}

-- ---- rows that agree from a place on

module _ (k : ℕ) (u w : List ℕ) (d : drop k u ≡ drop k w) where
  same_word : (j : ℕ) → k ≤ j → word j u ≡ word j w
  same_word j l =
      let e : k + (j - k) ≡ j = omega arith in
      ap (λ n. get_or u n 0) (sym e) ∙ (sym (get_or-drop k u (j - k) 0) ∙ (ap (λ v. get_or v (j - k) 0) d ∙ (get_or-drop k w (j - k) 0 ∙ ap (λ n. get_or w n 0) e)))

  same_drop : (j : ℕ) → k ≤ j → drop j u ≡ drop j w
  same_drop j l =
      let e : k + (j - k) ≡ j = omega arith in
      ap (λ n. drop n u) (sym e) ∙ (sym (drop-drop (j - k) k u) ∙ (ap (drop (j - k)) d ∙ (drop-drop (j - k) k w ∙ ap (λ n. drop n w) e)))

  same-slot : (j : ℕ) → k ≤ j → slot_at j u ≡ slot_at j w
  same-slot j l = go (word j u) (word j w) (same_word j l) (word (suc j) u) (word (suc j) w) (same_word (suc j) (omega arith))
    where
      go : (a b : ℕ) → a ≡ b → (x y : ℕ) → x ≡ y
          → cond (eqb a 0) None (cond (eqb a 1) (Some (same x)) (Some (opposing x))) ≡ cond (eqb b 0) None (cond (eqb b 1) (Some (same y)) (Some (opposing y)))
      go a b e x y f = rw (e, f)

  same-ids : (j : ℕ) → k ≤ j → ids_at j u ≡ ids_at j w
  same-ids j l = ap (λ n. take n (drop (suc j) u)) (same_word j l) ∙ ap (take (word j w)) (same_drop (suc j) (omega arith))

-- rows that agree up to the successors
module _ (u w : List ℕ) (d : take 35 u ≡ take 35 w) where
  front-word : word 18 u ≡ word 18 w
  front-word = sym (get_or-take 35 u 18 0 (omega arith)) ∙ (ap (λ v. get_or v 18 0) d ∙ get_or-take 35 w 18 0 (omega arith))

  front-ids : word 18 w ≤ 16 → ids_at 18 u ≡ ids_at 18 w
  front-ids few =
      let e : take 16 (drop 19 u) ≡ take 16 (drop 19 w) = sym (drop-take 19 35 u) ∙ (ap (drop 19) d ∙ drop-take 19 35 w) in
      ap (λ n. take n (drop 19 u)) front-word
      ∙ (sym (take-take (word 18 w) 16 (drop 19 u) few) ∙ (ap (take (word 18 w)) e ∙ take-take (word 18 w) 16 (drop 19 w) few))

-- ---- a slot and a list written

slot-short : (o : Option Neighbor) → length (slot_words o) ≤ 2
slot-short None = omega arith
slot-short (Some n) = omega arith

module _ (w : List ℕ) (k : ℕ) (o : Option Neighbor) (h : k + 2 ≤ length w) where
  slot-long : length (set_slot k o w) ≡ length w
  unfolding set_slot
  slot-long = length_over w k (slot_words o) (omega (arith, slot-short o))

  slot-behind : drop (k + 2) (set_slot k o w) ≡ drop (k + 2) w
  unfolding set_slot
  slot-behind = drop-behind w k (slot_words o) (k + 2) (omega (arith, slot-short o)) (omega (arith, slot-short o))

list-long : (w ids : List ℕ) (k : ℕ) → k + 1 + length ids ≤ length w → length (set_list k ids w) ≡ length w
unfolding set_list
list-long w ids k h = length_over w k (length ids ∷ ids) (omega arith)

-- ---- measures

module _ (pieces : List ℕ) (m : ℕ) (cut : List ℕ) (next : ℕ) (centers : List ℕ) (f : Halved pieces m cut next centers) where
  pub measure-near : (i : ℕ) → i < length centers → word i centers ≤ 4194304
  measure-near i l = leb-true (word i centers) 4194304 (all_get_d (λ n. leb n 4194304) centers i 0 l f.centers_near)

-- ---- a first half

module _ (pieces : List ℕ) (m : ℕ) (cut : List ℕ) (next : ℕ) (centers : List ℕ) (rank : ℕ) (w : List ℕ) (h : length w ≡ 52) (g : lane_formed w ≡ true) where
  abbrev hs : List (ℕ × ℕ)
  hs = numbered next cut

  abbrev left_piece : ℕ
  left_piece = half_ref pieces m false (word 2 w) (mark 3 w)

  abbrev right_piece : ℕ
  right_piece = half_ref pieces m false (word 4 w) (mark 5 w)

  module _ (x : ℕ) (xe : x ≡ left_piece) (y : ℕ) (ye : y ≡ half_ref pieces m false (word 4 (set w 2 x)) (mark 5 (set w 2 x))) where
    abbrev b : List ℕ
    b = set (set w 2 x) 4 y

    refs : b ≡ set (set w 2 left_piece) 4 right_piece
    refs =
        let p : word 4 (set w 2 x) ≡ word 4 w = get_or-set_other w 2 4 x 0 (λ e. omega arith) in
        let q : word 5 (set w 2 x) ≡ word 5 w = get_or-set_other w 2 5 x 0 (λ e. omega arith) in
        let z : y ≡ right_piece = ye ∙ (ap (λ n. half_ref pieces m false n (mark 5 (set w 2 x))) p ∙ ap (λ n. half_ref pieces m false (word 4 w) (not (eqb n 0))) q) in
        ap (λ n. set (set w 2 n) 4 y) xe ∙ ap (set (set w 2 left_piece) 4) z

    refs-long : length b ≡ 52
    refs-long = simp length-set h

    refs-behind : drop 6 b ≡ drop 6 w
    refs-behind = drop-set-lt 6 (set w 2 x) 4 y (omega arith) ∙ drop-set-lt 6 w 2 x (omega arith)

    module _ (p : List ℕ) (pe : p ≡ center_onto (mark 6 b) (first_start centers rank) (first_size centers rank) b) where
      pub centered-long : length p ≡ 52
      centered-long = ap length pe ∙ center_long b (mark 6 b) (first_start centers rank) (first_size centers rank) refs-long

      centered-behind : drop 9 p ≡ drop 9 w
      centered-behind = ap (drop 9) pe ∙ (go (mark 6 b) ∙ same_drop 6 b w refs-behind 9 (omega arith))
        where
          go : (on : Bool) → drop 9 (center_onto on (first_start centers rank) (first_size centers rank) b) ≡ drop 9 b
          go true = drop-behind b 7 (first_start centers rank ∷ first_size centers rank ∷ []) 9 (omega arith) (omega (arith, refs-long))
          go false = refl

      pub left-asks : (14 + 2 ≤ length p) × (word 14 p ≤ 2)
      left-asks = (omega (arith, centered-long), omega (arith, same_word 9 p w centered-behind 14 (omega arith), (lane-marks w g).left))

      module _ (q : List ℕ) (qe : q ≡ set_slot 14 (first_slot hs (slot_at 14 p)) p) where
        left-long : length q ≡ 52
        left-long = ap length qe ∙ (slot-long p 14 (first_slot hs (slot_at 14 p)) (omega (arith, centered-long)) ∙ centered-long)

        left_behind : drop 16 q ≡ drop 16 w
        left_behind =
            ap (drop 16) qe
            ∙ (slot-behind p 14 (first_slot hs (slot_at 14 p)) (omega (arith, centered-long)) ∙ same_drop 9 p w centered-behind 16 (omega arith))

        pub right-asks : (16 + 2 ≤ length q) × (word 16 q ≤ 2)
        right-asks = (omega (arith, left-long), omega (arith, same_word 16 q w left_behind 16 (omega arith), (lane-marks w g).right))

        module _ (u : List ℕ) (ue : u ≡ set_slot 16 (first_slot hs (slot_at 16 q)) q) where
          right-long : length u ≡ 52
          right-long = ap length ue ∙ (slot-long q 16 (first_slot hs (slot_at 16 q)) (omega (arith, left-long)) ∙ left-long)

          right-behind : drop 18 u ≡ drop 18 w
          right-behind =
              ap (drop 18) ue
              ∙ (slot-behind q 16 (first_slot hs (slot_at 16 q)) (omega (arith, left-long)) ∙ same_drop 16 q w left_behind 18 (omega arith))

          pub list-asks : 36 + 1 ≤ length u
          list-asks = omega (arith, right-long)

          module _ (z : List ℕ) (ze : z ≡ set_list 35 ((next + rank) ∷ []) u) where
            pub first-written : z ≡ first_row pieces m cut next centers rank w
            unfolding first_row
            first-written =
                let s : mark 6 b ≡ mark 6 w = ap (λ n. not (eqb n 0)) (same_word 6 b w refs-behind 6 (omega arith)) in
                let l : slot_at 14 p ≡ slot_at 14 w = same-slot 9 p w centered-behind 14 (omega arith) in
                let r : slot_at 16 q ≡ slot_at 16 w = same-slot 16 q w left_behind 16 (omega arith) in
                ze
                ∙ ap (set_list 35 ((next + rank) ∷ []))
                (ue
                ∙ (ap (λ n. set_slot 16 (first_slot hs n) q) r
                ∙ ap (set_slot 16 (first_slot hs (slot_at 16 w)))
                (qe
                ∙ (ap (λ n. set_slot 14 (first_slot hs n) p) l
                ∙ ap (set_slot 14 (first_slot hs (slot_at 14 w)))
                (pe
                ∙ (ap (λ n. center_onto n (first_start centers rank) (first_size centers rank) b) s ∙ ap (center_onto (mark 6 w) (first_start centers rank) (first_size centers rank)) refs))))))

            -- its predecessors are those of the lane
            pub first-links : (length z ≡ 52) × ((word 18 z ≡ word 18 w) × (ids_at 18 z ≡ ids_at 18 w))
            unfolding set_list
            first-links =
                let d : take 35 z ≡ take 35 u = ap (take 35) ze ∙ take-before-over u 35 (1 ∷ (next + rank) ∷ []) (omega (arith, right-long)) in
                let n : word 18 u ≡ word 18 w = same_word 18 u w right-behind 18 (omega arith) in (
                  ap length ze ∙ (list-long u ((next + rank) ∷ []) 35 (omega (arith, right-long)) ∙ right-long),
                  (front-word z u d ∙ n, front-ids z u d (omega (arith, (lane-marks w g).before)) ∙ same-ids 18 u w right-behind 18 (omega arith)),
                )

-- ---- a second half

-- the successors as a part of the row
pub successors-part : (v : List ℕ) → take (36 + word 35 v - 36) (drop 36 v) ≡ ids_at 35 v
successors-part v = let e : 36 + word 35 v - 36 ≡ word 35 v = omega arith in ap (λ n. take n (drop 36 v)) e

module _ (pieces : List ℕ) (m : ℕ) (cut : List ℕ) (next : ℕ) (centers : List ℕ) (rank : ℕ) (v w : List ℕ) (h : length w ≡ 52) (k : length v ≡ 52) (g : lane_formed v ≡ true) where
  abbrev ss : List (ℕ × ℕ)
  ss = numbered next cut

  module _ (x : ℕ) (xe : x ≡ half_ref pieces m true (word 2 v) (mark 3 v)) (y : ℕ) (ye : y ≡ half_ref pieces m true (word 4 v) (mark 5 v)) (a : List ℕ) (ae : a ≡ head_row (next + rank) x y v w) where
    pub headed-long : length a ≡ 52
    headed-long = ap length ae ∙ head-long w v (next + rank) x y h

    module _ (p : List ℕ) (pe : p ≡ center_onto (mark 6 v) (first_start centers rank + first_size centers rank) (second_size centers rank) a) where
      placed-long : length p ≡ 52
      placed-long = ap length pe ∙ center_long a (mark 6 v) (first_start centers rank + first_size centers rank) (second_size centers rank) headed-long

      pub beside-left : (14 + 2 ≤ length p) × ((14 + 2 ≤ length v) × (word 14 v ≤ 2))
      beside-left = (omega (arith, placed-long), (omega (arith, k), (lane-marks v g).left))

      module _ (q : List ℕ) (qe : q ≡ set_slot 14 (second_slot ss (slot_at 14 v)) p) where
        beside_long : length q ≡ 52
        beside_long = ap length qe ∙ (slot-long p 14 (second_slot ss (slot_at 14 v)) (omega (arith, placed-long)) ∙ placed-long)

        pub beside-right : (16 + 2 ≤ length q) × ((16 + 2 ≤ length v) × (word 16 v ≤ 2))
        beside-right = (omega (arith, beside_long), (omega (arith, k), (lane-marks v g).right))

        module _ (u : List ℕ) (ue : u ≡ set_slot 16 (second_slot ss (slot_at 16 v)) q) where
          slots-long : length u ≡ 52
          slots-long = ap length ue ∙ (slot-long q 16 (second_slot ss (slot_at 16 v)) (omega (arith, beside_long)) ∙ beside_long)

          pub before-asks : 18 + 1 + 1 ≤ length u
          before-asks = omega (arith, slots-long)

          module _ (z : List ℕ) (ze : z ≡ set_list 18 (word 0 v ∷ []) u) where
            before-long : length z ≡ 52
            before-long = ap length ze ∙ (list-long u (word 0 v ∷ []) 18 (omega (arith, slots-long)) ∙ slots-long)

            module _ (ids : List ℕ) (ie : ids ≡ ids_at 35 v) where
              pub after-asks : 35 + 1 + length ids ≤ length z
              after-asks = omega (arith, before-long, ap length ie, ids-many v 35 (omega (arith, k, (lane-marks v g).after)), (lane-marks v g).after)

              pub second-written : (t : List ℕ) → t ≡ set_list 35 ids z → t ≡ second_row pieces m cut next centers rank v w
              unfolding second_row
              second-written t te =
                  te
                  ∙ (ap (λ n. set_list 35 n z) ie
                  ∙ ap (set_list 35 (ids_at 35 v))
                  (ze
                  ∙ ap (set_list 18 (word 0 v ∷ []))
                  (ue
                  ∙ ap (set_slot 16 (second_slot ss (slot_at 16 v)))
                  (qe
                  ∙ ap (set_slot 14 (second_slot ss (slot_at 14 v)))
                  (pe
                  ∙ ap (center_onto (mark 6 v) (first_start centers rank + first_size centers rank) (second_size centers rank))
                  (ae ∙ (ap (λ n. head_row (next + rank) n y v w) xe ∙ ap (λ n. head_row (next + rank) (half_ref pieces m true (word 2 v) (mark 3 v)) n v w) ye)))))))

  pub second-long : length (second_row pieces m cut next centers rank v w) ≡ 52
  second-long =
      let x = half_ref pieces m true (word 2 v) (mark 3 v) in
      let y = half_ref pieces m true (word 4 v) (mark 5 v) in
      let a = head_row (next + rank) x y v w in
      let p = center_onto (mark 6 v) (first_start centers rank + first_size centers rank) (second_size centers rank) a in
      let q = set_slot 14 (second_slot ss (slot_at 14 v)) p in
      let u = set_slot 16 (second_slot ss (slot_at 16 v)) q in
      let z = set_list 18 (word 0 v ∷ []) u in
      let ids = ids_at 35 v in
      ap length (sym (second-written x refl y refl a refl p refl q refl u refl z refl ids refl (set_list 35 ids z) refl))
      ∙ (list-long z ids 35 (after-asks x refl y refl a refl p refl q refl u refl z refl ids refl) ∙ before-long x refl y refl a refl p refl q refl u refl z refl)

-- ---- any lane's row

module _ (pieces : List ℕ) (m : ℕ) (cut : List ℕ) (next : ℕ) (centers : List ℕ) (w : List ℕ) (f : RowCuts next w) where
  -- a lane that is not cut
  pub came-asks : RowCame w
  came-asks = record { words = f.words; few = (lane-marks w f.formed).before; ascend = f.ascend }

  -- a first half
  module _ (rank : ℕ) where
    first-refl : (length (first_row pieces m cut next centers rank w) ≡ 52) × ((word 18 (first_row pieces m cut next centers rank w) ≡ word 18 w) × (ids_at 18 (first_row pieces m cut next centers rank w) ≡ ids_at 18 w))
    first-refl =
        let x = half_ref pieces m false (word 2 w) (mark 3 w) in
        let y = half_ref pieces m false (word 4 (set w 2 x)) (mark 5 (set w 2 x)) in
        let b = set (set w 2 x) 4 y in
        let p = center_onto (mark 6 b) (first_start centers rank) (first_size centers rank) b in
        let q = set_slot 14 (first_slot (numbered next cut) (slot_at 14 p)) p in
        let u = set_slot 16 (first_slot (numbered next cut) (slot_at 16 q)) q in
        let z = set_list 35 ((next + rank) ∷ []) u in
        rw (← first-written pieces m cut next centers rank w f.words f.formed x refl y refl p refl q refl u refl z refl)
        (first-links pieces m cut next centers rank w f.words f.formed x refl y refl p refl q refl u refl z refl)

    module _ (v : List ℕ) (e : v ≡ first_row pieces m cut next centers rank w) where
      pub half-asks : RowCame v
      half-asks =
          rw e
          (record {
            words = first-refl.0;
            few = omega (arith, first-refl.1.0, (lane-marks w f.formed).before);
            ascend = ap ascending first-refl.1.1 ∙ f.ascend;
          })

  module _ (r : Option ℕ) (e : r ≡ row_with (word 0 w) (keys 1 (length cut) cut)) where
    pub cut-first : (rank : ℕ) → r ≡ Some rank → (v : List ℕ) → v ≡ first_row pieces m cut next centers rank w → (z : List ℕ) → z ≡ came_row cut next v → z ≡ lane_cut pieces m cut next centers w
    cut-first rank t v d z q =
        q ∙ (ap (came_row cut next) d ∙ sym (ap (λ n. row_cut pieces m cut next centers n w) (one_found (word 0 w) cut r e ∙ t)))

    pub cut-other : r ≡ None → (v : List ℕ) → v ≡ w → (z : List ℕ) → z ≡ came_row cut next v → z ≡ lane_cut pieces m cut next centers w
    cut-other t v d z q = q ∙ (ap (came_row cut next) d ∙ sym (ap (λ n. row_cut pieces m cut next centers n w) (one_found (word 0 w) cut r e ∙ t)))

  pub lane-long : Cuts next cut → length (lane_cut pieces m cut next centers w) ≡ 52
  lane-long a = go (row_with (word 0 w) cut)
    where
      go : (r : Option ℕ) → length (row_cut pieces m cut next centers r w) ≡ 52
      go (Some rank) = came-long cut next (first_row pieces m cut next centers rank w) a (half-asks rank (first_row pieces m cut next centers rank w) refl)
      go None = came-long cut next w a came-asks
