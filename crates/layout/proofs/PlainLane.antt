-- A lane's row as plain words: what a lane written over it leaves, word by word, and every law of plain rows a law of rows of 52 words. Assumes nothing.
use Rattle.std.specs.Prelude.{Option, None, Some}
use mathlib.Core.Path.{◌≡◌, refl, sym, ap, ◌∙◌, subst}
use Prim.Native.Nat.{ℕ, zero, suc, ◌+◌, ◌≤◌, ◌<◌}
use native.Mathlib.Nat.{add-zero}
use native.Mathlib.Omega.{arith}
use mathlib.Core.Bool.{Bool, true, false, not, cond}
use mathlib.Core.List.{List, [], ◌∷◌, ◌++◌, append-nil}
use lib.Dec.{eqb}
use lib.Ieee.{Float}
use lib.ListN.{length, get_or, take, drop, length-append, length-drop, take-append-drop}
use lib.Seq.{drop-drop, length-take-le, take_at, drop_at, drop-cons, take_all}
use Rattle.lists.specs.Every.{all}
use Rattle.lists.specs.Rows.{over}
use Rattle.lists.proofs.Every.{all_head}
use Rattle.entities.specs.Records.{Line, Lane}
use Rattle.tables.specs.View.{slot_at, line_at, lane_of}
use Rattle.tables.specs.Formed.{span_at, stored, lane_formed}
use Rattle.store.specs.Store.{lane_onto, flag, present, number_or, slot_mark, slot_lane, ids_onto}
use Rattle.store.specs.Rows.{set_list}
use Rattle.store.specs.Laid.{lane_laid, center_onto as laidCenter}
use Rattle.store.proofs.Marks.{LaneMarks, lane-marks}
use Rattle.store.proofs.LaneRow.{list_written}
use Rattle.store.proofs.OtherRows.{lane-same}
use Rattle.layout.proofs.Standing.{line-long}

-- ---- a row of plain words

-- a lane's words up to its links
abbrev pub lane18 : ℕ → ℕ → ℕ → ℕ → ℕ → ℕ → ℕ → ℕ → ℕ → ℕ → ℕ → ℕ → ℕ → ℕ → ℕ → ℕ → ℕ → ℕ → List ℕ → List ℕ
lane18 x0 x1 x2 x3 x4 x5 x6 x7 x8 x9 x10 x11 x12 x13 x14 x15 x16 x17 rest =
    x0 ∷ x1 ∷ x2 ∷ x3 ∷ x4 ∷ x5 ∷ x6 ∷ x7 ∷ x8 ∷ x9 ∷ x10 ∷ x11 ∷ x12 ∷ x13 ∷ x14 ∷ x15 ∷ x16 ∷ x17 ∷ rest

-- where a centreline starts and its length, or the words that are there
abbrev pub start_or : ℕ → ℕ → Option Line → ℕ
start_or old at None = old
start_or old at (Some l) = at

abbrev pub size_or : ℕ → Option Line → ℕ
size_or old None = old
size_or old (Some l) = length l

-- a centreline's words, where there is one
pub center_laid : (y0 y1 y2 y3 y4 y5 y6 y7 y8 y9 y10 y11 y12 y13 y14 y15 y16 y17 : ℕ) (rest : List ℕ) (at : ℕ) (o : Option Line) → laidCenter (lane18 y0 y1 y2 y3 y4 y5 y6 y7 y8 y9 y10 y11 y12 y13 y14 y15 y16 y17 rest) at o ≡ lane18 y0 y1 y2 y3 y4 y5 y6 (start_or y7 at o) (size_or y8 o) y9 y10 y11 y12 y13 y14 y15 y16 y17 rest
unfolding over
center_laid y0 y1 y2 y3 y4 y5 y6 y7 y8 y9 y10 y11 y12 y13 y14 y15 y16 y17 rest at None = refl
center_laid y0 y1 y2 y3 y4 y5 y6 y7 y8 y9 y10 y11 y12 y13 y14 y15 y16 y17 rest at (Some l) = refl

-- a list of successors, over any
pub after-set : (y0 y1 y2 y3 y4 y5 y6 y7 y8 y9 y10 y11 y12 y13 y14 y15 y16 y17 : ℕ) (v ss ids : List ℕ) (x : ℕ) → length v ≡ 17 → length ss ≡ 16 → length ids ≤ 16
    → set_list 35 ids (lane18 y0 y1 y2 y3 y4 y5 y6 y7 y8 y9 y10 y11 y12 y13 y14 y15 y16 y17 (v ++ (x ∷ ss))) ≡ lane18 y0 y1 y2 y3 y4 y5 y6 y7 y8 y9 y10 y11 y12 y13 y14 y15 y16 y17 (v ++ ids_onto ss ids)
after-set y0 y1 y2 y3 y4 y5 y6 y7 y8 y9 y10 y11 y12 y13 y14 y15 y16 y17 v ss ids x lv ls few =
    let l : length (lane18 y0 y1 y2 y3 y4 y5 y6 y7 y8 y9 y10 y11 y12 y13 y14 y15 y16 y17 v) ≡ 35 = rw lv in
    let h : length ids ≤ length ss = rw ls few in
    ap (λ z. set_list 35 ids (lane18 y0 y1 y2 y3 y4 y5 y6 y7 y8 y9 y10 y11 y12 y13 y14 y15 y16 y17 (v ++ (x ∷ z)))) (sym (append-nil ss))
    ∙ (list_written (lane18 y0 y1 y2 y3 y4 y5 y6 y7 y8 y9 y10 y11 y12 y13 y14 y15 y16 y17 v) ss [] ids x 35 l h ∙ ap (λ z. lane18 y0 y1 y2 y3 y4 y5 y6 y7 y8 y9 y10 y11 y12 y13 y14 y15 y16 y17 (v ++ (length ids ∷ z))) (append-nil (over ss 0 ids)))

module _ (x0 x1 x2 x3 x4 x5 x6 x7 x8 x9 x10 x11 x12 x13 x14 x15 x16 x17 n m : ℕ) (ps ss : List ℕ) (lp : length ps ≡ 16) (ls : length ss ≡ 16) where
  abbrev pub row : List ℕ
  row = lane18 x0 x1 x2 x3 x4 x5 x6 x7 x8 x9 x10 x11 x12 x13 x14 x15 x16 x17 (n ∷ ps ++ (m ∷ ss))

  pub take-ps : take 16 (ps ++ (m ∷ ss)) ≡ ps
  take-ps = take_at ps (m ∷ ss) 16 lp

  pub take-ss : take 16 (drop 17 (ps ++ (m ∷ ss))) ≡ ss
  take-ss =
      let h : length ss ≤ 16 = omega arith in
      ap (take 16) (sym (drop-drop 1 16 (ps ++ (m ∷ ss))) ∙ ap (drop 1) (drop_at ps (m ∷ ss) 16 lp)) ∙ take_all 16 ss h

  -- a lane written over it
  pub onto-row : (l : Lane) → lane_onto row l
      ≡ lane18 l.id l.kind l.left.boundary (flag l.left.reversed) l.right.boundary (flag l.right.reversed) (present l.centerline) x7 x8 (present l.speed_limit)
      (number_or x10 l.speed_limit) (flag l.one_way) l.turn_direction l.attributes (slot_mark l.left_neighbor) (slot_lane x15 l.left_neighbor) (slot_mark l.right_neighbor) (slot_lane x17 l.right_neighbor)
      (ids_onto ps l.predecessors ++ ids_onto ss l.successors)
  unfolding lane_onto
  onto-row l = rw (take-ps, take-ss)

  -- and with where its centreline starts
  pub laid-row : (at : ℕ) (l : Lane) → lane_laid row (at, l)
      ≡ lane18 l.id l.kind l.left.boundary (flag l.left.reversed) l.right.boundary (flag l.right.reversed) (present l.centerline) (start_or x7 at l.centerline) (size_or x8 l.centerline)
      (present l.speed_limit) (number_or x10 l.speed_limit) (flag l.one_way) l.turn_direction l.attributes (slot_mark l.left_neighbor) (slot_lane x15 l.left_neighbor) (slot_mark l.right_neighbor)
      (slot_lane x17 l.right_neighbor) (ids_onto ps l.predecessors ++ ids_onto ss l.successors)
  unfolding lane_laid
  laid-row at l = ap (λ z. laidCenter z at l.centerline) (onto-row l) ∙ center_laid _ _ _ _ _ _ _ _ _ _ _ _ _ _ _ _ _ _ _ at l.centerline

  module _ (c : List Float) (f : lane_formed row ≡ true) where
    pub long : length row ≡ 52
    long = omega (arith, length-append ps (m ∷ ss))

    pub marks : LaneMarks row
    marks = lane-marks row f

    -- its marks, read and written
    pub own : lane_onto row (lane_of c row) ≡ row
    own = lane-same c row long f

    pub own3 : flag (not (eqb x3 0)) ≡ x3
    unfolding lane_onto lane_of
    own3 = ap (λ z. get_or z 3 0) own

    pub own5 : flag (not (eqb x5 0)) ≡ x5
    unfolding lane_onto lane_of
    own5 = ap (λ z. get_or z 5 0) own

    pub own6 : present (cond (not (eqb x6 0)) (Some (line_at c 7 row)) None) ≡ x6
    unfolding lane_onto lane_of
    own6 = ap (λ z. get_or z 6 0) own

    pub own9 : present (cond (not (eqb x9 0)) (Some x10) None) ≡ x9
    unfolding lane_onto lane_of
    own9 = ap (λ z. get_or z 9 0) own

    pub own10 : number_or x10 (cond (not (eqb x9 0)) (Some x10) None) ≡ x10
    unfolding lane_onto lane_of
    own10 = ap (λ z. get_or z 10 0) own

    pub own11 : flag (not (eqb x11 0)) ≡ x11
    unfolding lane_onto lane_of
    own11 = ap (λ z. get_or z 11 0) own

    pub own14 : slot_mark (slot_at 14 row) ≡ x14
    unfolding lane_onto lane_of
    own14 = ap (λ z. get_or z 14 0) own

    pub own15 : slot_lane x15 (slot_at 14 row) ≡ x15
    unfolding lane_onto lane_of
    own15 = ap (λ z. get_or z 15 0) own

    pub own16 : slot_mark (slot_at 16 row) ≡ x16
    unfolding lane_onto lane_of
    own16 = ap (λ z. get_or z 16 0) own

    pub own17 : slot_lane x17 (slot_at 16 row) ≡ x17
    unfolding lane_onto lane_of
    own17 = ap (λ z. get_or z 17 0) own

    -- the centreline's words stand
    pub own_line : (z : Bool) → all (stored c) (cond z (span_at 7 row ∷ []) []) ≡ true → (start_or x7 x7 (cond z (Some (line_at c 7 row)) None) ≡ x7) × (size_or x8 (cond z (Some (line_at c 7 row)) None) ≡ x8)
    own_line true h = (refl, line-long c (span_at 7 row) (all_head (stored c) (span_at 7 row) [] h))
    own_line false h = (refl, refl)

-- a list of predecessors, over any
pub before-set : (y0 y1 y2 y3 y4 y5 y6 y7 y8 y9 y10 y11 y12 y13 y14 y15 y16 y17 : ℕ) (ps rest ids : List ℕ) (x : ℕ) → length ids ≤ length ps
    → set_list 18 ids (lane18 y0 y1 y2 y3 y4 y5 y6 y7 y8 y9 y10 y11 y12 y13 y14 y15 y16 y17 (x ∷ ps ++ rest)) ≡ lane18 y0 y1 y2 y3 y4 y5 y6 y7 y8 y9 y10 y11 y12 y13 y14 y15 y16 y17 (ids_onto ps ids ++ rest)
before-set y0 y1 y2 y3 y4 y5 y6 y7 y8 y9 y10 y11 y12 y13 y14 y15 y16 y17 ps rest ids x few =
    list_written (lane18 y0 y1 y2 y3 y4 y5 y6 y7 y8 y9 y10 y11 y12 y13 y14 y15 y16 y17 []) ps rest ids x 18 refl few

-- ---- every row of 52 words

-- the first n words from place k on
unfoldable tab : ℕ → ℕ → List ℕ → List ℕ
tab k zero w = []
tab k (suc n) w = get_or w k 0 ∷ tab (suc k) n w

tab-drop : (n k : ℕ) (w : List ℕ) → k + n ≤ length w → drop k w ≡ tab k n w ++ drop (k + n) w
unfolding tab
tab-drop zero k w h = rw add-zero
tab-drop (suc n) k w h =
    let i : k < length w = omega arith in
    let j : suc k + n ≤ length w = omega arith in
    let e : suc k + n ≡ k + suc n = omega arith in
    drop-cons w k 0 i ∙ ap (λ z. get_or w k 0 ∷ z) (tab-drop n (suc k) w j ∙ rw e)

-- what holds of every plain row holds of every row
pub plain_of : (P : List ℕ → Type 0)
    → ((x0 x1 x2 x3 x4 x5 x6 x7 x8 x9 x10 x11 x12 x13 x14 x15 x16 x17 n m : ℕ) (ps ss : List ℕ) → length ps ≡ 16 → length ss ≡ 16
    → P (lane18 x0 x1 x2 x3 x4 x5 x6 x7 x8 x9 x10 x11 x12 x13 x14 x15 x16 x17 (n ∷ ps ++ (m ∷ ss)))) → (w : List ℕ) → length w ≡ 52 → P w
unfolding tab
plain_of P f w h =
    let p = take 16 (drop 19 w) in
    let r = drop 36 w in
    let x : ℕ → ℕ = λ k. get_or w k 0 in
    let lp : length p ≡ 16 = length-take-le 16 (drop 19 w) (rw (length-drop, h) (omega arith)) in
    let lr : length r ≡ 16 = rw (length-drop, h) in
    let front : w ≡ tab 0 19 w ++ drop 19 w = tab-drop 19 0 w (rw h (omega arith)) in
    let middle : drop 19 w ≡ p ++ drop 35 w = sym (take-append-drop 16 (drop 19 w)) ∙ ap (λ z. p ++ z) (drop-drop 16 19 w) in
    let back : drop 35 w ≡ x 35 ∷ r = drop-cons w 35 0 (rw h (omega arith)) in
    let whole : w ≡ tab 0 19 w ++ (p ++ (x 35 ∷ r)) = front ∙ ap (λ z. tab 0 19 w ++ z) (middle ∙ ap (λ z. p ++ z) back) in
    subst P (sym whole) (f (x 0) (x 1) (x 2) (x 3) (x 4) (x 5) (x 6) (x 7) (x 8) (x 9) (x 10) (x 11) (x 12) (x 13) (x 14) (x 15) (x 16) (x 17) (x 18) (x 35) p r lp lr)
