-- The rows of lanes that a split leaves: halves and lanes that are not cut, written over a row with where the centreline starts. Assumes nothing.
use Rattle.std.specs.Prelude.{Option, None, Some}
use mathlib.Core.Path.{◌≡◌, refl, sym, ap, ◌∙◌}
use Prim.Native.Nat.{ℕ, suc, ◌+◌, ◌≤◌}
use native.Mathlib.Omega.{arith}
use mathlib.Core.Bool.{Bool, true, false, cond}
use mathlib.Core.List.{List, [], ◌∷◌, ◌++◌}
use lib.Ieee.{Float}
use lib.ListN.{length, get_or, set, drop, length-append, length-take}
use lib.Seq.{drop_at}
use Rattle.lists.specs.Every.{all}
use Rattle.lists.specs.Rows.{over}
use Rattle.lists.specs.Select.{numbered}
use Rattle.lists.proofs.Rows.{take-front}
use Rattle.entities.specs.declared.BoundaryRef.{BoundaryRef}
use Rattle.entities.specs.declared.Neighbor.{Neighbor}
use Rattle.entities.specs.Records.{Line, Lane}
use Rattle.rules.specs.Edit.{lane_with}
use Rattle.rules.specs.Split.{Piece, piece_for, first_ref, second_ref, first_slot, second_slot, came_from, uncut}
use Rattle.tables.specs.View.{word, mark, ids_at, ref_at, slot_at, option_at, lane_of}
use Rattle.tables.specs.Formed.{center_span, stored, lane_formed}
use Rattle.store.specs.Store.{lane_onto, flag, present, number_or, slot_mark, slot_lane, ids_onto}
use Rattle.store.specs.Rows.{set_slot, set_list}
use Rattle.store.specs.Laid.{lane_laid}
use Rattle.store.proofs.Back.{onto-length}
use Rattle.store.proofs.OtherRows.{lane-same}
use Rattle.store.proofs.Marks.{LaneMarks, lane-marks}
use Rattle.store.proofs.LaneRow.{lane_row}
use Rattle.layout.proofs.PlainLane.{lane18, start_or, size_or, laid-row, after-set, before-set, own3, own5, own6, own9, own10, own11, own14, own15, own16, own17, own_line, plain_of}
use Rattle.split_rows.specs.Halves.{half_ref, center_onto, first_start, first_size, second_size, first_row, head_row, second_row, came_row}

-- ---- slots of a plain row

left-slot : (y0 y1 y2 y3 y4 y5 y6 y7 y8 y9 y10 y11 y12 y13 y14 y15 y16 y17 : ℕ) (rest : List ℕ) (o : Option Neighbor)
    → set_slot 14 o (lane18 y0 y1 y2 y3 y4 y5 y6 y7 y8 y9 y10 y11 y12 y13 y14 y15 y16 y17 rest) ≡ lane18 y0 y1 y2 y3 y4 y5 y6 y7 y8 y9 y10 y11 y12 y13 (slot_mark o) (slot_lane y15 o) y16 y17 rest
unfolding set_slot over
left-slot y0 y1 y2 y3 y4 y5 y6 y7 y8 y9 y10 y11 y12 y13 y14 y15 y16 y17 rest None = refl
left-slot y0 y1 y2 y3 y4 y5 y6 y7 y8 y9 y10 y11 y12 y13 y14 y15 y16 y17 rest (Some n) = refl

right-slot : (y0 y1 y2 y3 y4 y5 y6 y7 y8 y9 y10 y11 y12 y13 y14 y15 y16 y17 : ℕ) (rest : List ℕ) (o : Option Neighbor)
    → set_slot 16 o (lane18 y0 y1 y2 y3 y4 y5 y6 y7 y8 y9 y10 y11 y12 y13 y14 y15 y16 y17 rest) ≡ lane18 y0 y1 y2 y3 y4 y5 y6 y7 y8 y9 y10 y11 y12 y13 y14 y15 (slot_mark o) (slot_lane y17 o) rest
unfolding set_slot over
right-slot y0 y1 y2 y3 y4 y5 y6 y7 y8 y9 y10 y11 y12 y13 y14 y15 y16 y17 rest None = refl
right-slot y0 y1 y2 y3 y4 y5 y6 y7 y8 y9 y10 y11 y12 y13 y14 y15 y16 y17 rest (Some n) = refl

-- a centreline is there where a mark says so, and has so many points
abbrev pub CenterIs : Bool → ℕ → Option Line → Type 0
CenterIs true size (Some l) = size ≡ length l
CenterIs true size None = ⊥
CenterIs false size (Some l) = ⊥
CenterIs false size None = ◌≡◌ {A = ℕ} 0 0

-- a centreline's words, where there is one of so many points
center_put : (y0 y1 y2 y3 y4 y5 y6 y7 y8 y9 y10 y11 y12 y13 y14 y15 y16 y17 : ℕ) (rest : List ℕ) (at size : ℕ) (b : Bool) (o : Option Line) → CenterIs b size o
    → center_onto b at size (lane18 y0 y1 y2 y3 y4 y5 y6 y7 y8 y9 y10 y11 y12 y13 y14 y15 y16 y17 rest) ≡ lane18 y0 y1 y2 y3 y4 y5 y6 (start_or y7 at o) (size_or y8 o) y9 y10 y11 y12 y13 y14 y15 y16 y17 rest
unfolding over
center_put y0 y1 y2 y3 y4 y5 y6 y7 y8 y9 y10 y11 y12 y13 y14 y15 y16 y17 rest at size true (Some l) h = ap (λ z. lane18 y0 y1 y2 y3 y4 y5 y6 at z y9 y10 y11 y12 y13 y14 y15 y16 y17 rest) h
center_put y0 y1 y2 y3 y4 y5 y6 y7 y8 y9 y10 y11 y12 y13 y14 y15 y16 y17 rest at size true None h = absurd h
center_put y0 y1 y2 y3 y4 y5 y6 y7 y8 y9 y10 y11 y12 y13 y14 y15 y16 y17 rest at size false (Some l) h = absurd h
center_put y0 y1 y2 y3 y4 y5 y6 y7 y8 y9 y10 y11 y12 y13 y14 y15 y16 y17 rest at size false None h = refl

-- ---- a second half

-- the head of a second half's row
head-put : (y0 y1 y2 y3 y4 y5 y6 y7 y8 y9 y10 y11 y12 y13 y14 y15 y16 y17 : ℕ) (rest : List ℕ) (id left right : ℕ) (v : List ℕ)
    → head_row id left right v (lane18 y0 y1 y2 y3 y4 y5 y6 y7 y8 y9 y10 y11 y12 y13 y14 y15 y16 y17 rest)
    ≡ lane18 id (word 1 v) left (word 3 v) right (word 5 v) (word 6 v) y7 y8 (word 9 v) (number_or y10 (option_at 9 v)) (word 11 v) (word 12 v) (word 13 v) y14 y15 y16 y17 rest
unfolding head_row over set
head-put y0 y1 y2 y3 y4 y5 y6 y7 y8 y9 y10 y11 y12 y13 y14 y15 y16 y17 rest id left right v = go (mark 9 v)
  where
    go : (b : Bool) → over (cond b (set (set (over (lane18 y0 y1 y2 y3 y4 y5 y6 y7 y8 y9 y10 y11 y12 y13 y14 y15 y16 y17 rest) 0 (id ∷ word 1 v ∷ left ∷ word 3 v ∷ right ∷ word 5 v ∷ word 6 v ∷ [])) 9 (word 9 v)) 10 (word 10 v))
        (set (over (lane18 y0 y1 y2 y3 y4 y5 y6 y7 y8 y9 y10 y11 y12 y13 y14 y15 y16 y17 rest) 0 (id ∷ word 1 v ∷ left ∷ word 3 v ∷ right ∷ word 5 v ∷ word 6 v ∷ [])) 9 (word 9 v))) 11 (word 11 v ∷ word 12 v ∷ word 13 v ∷ [])
        ≡ lane18 id (word 1 v) left (word 3 v) right (word 5 v) (word 6 v) y7 y8 (word 9 v) (number_or y10 (cond b (Some (word 10 v)) None)) (word 11 v) (word 12 v) (word 13 v) y14 y15 y16 y17 rest
    go true = refl
    go false = refl

-- the fields of a lane as its row has them
module _ (c : List Float) (v : List ℕ) (long : length v ≡ 52) (formed : lane_formed v ≡ true) where
  again : lane_onto v (lane_of c v) ≡ v
  again = lane-same c v long formed

  flag3 : flag (mark 3 v) ≡ word 3 v
  unfolding lane_onto lane_of
  flag3 = ap (λ z. get_or z 3 0) again

  flag5 : flag (mark 5 v) ≡ word 5 v
  unfolding lane_onto lane_of
  flag5 = ap (λ z. get_or z 5 0) again

  limit9 : present (option_at 9 v) ≡ word 9 v
  unfolding lane_onto lane_of
  limit9 = ap (λ z. get_or z 9 0) again

  flag11 : flag (mark 11 v) ≡ word 11 v
  unfolding lane_onto lane_of
  flag11 = ap (λ z. get_or z 11 0) again

abbrev way : BoundaryRef → Bool
way r = r.reversed

-- a reference keeps its direction
first_way : (xs : List Piece) (r : BoundaryRef) → (first_ref xs r).reversed ≡ r.reversed
first_way xs r = go (piece_for xs r.boundary)
  where
    go : (o : Option Piece) → way (elim o [ None ↦ r | Some x ↦ record { boundary = cond r.reversed x.second x.first; reversed = r.reversed } ]) ≡ r.reversed
    go None = refl
    go (Some x) = refl

second_way : (xs : List Piece) (r : BoundaryRef) → (second_ref xs r).reversed ≡ r.reversed
second_way xs r = go (piece_for xs r.boundary)
  where
    go : (o : Option Piece) → way (elim o [ None ↦ r | Some x ↦ record { boundary = cond r.reversed x.first x.second; reversed = r.reversed } ]) ≡ r.reversed
    go None = refl
    go (Some x) = refl

-- what the words say of a half: its boundaries, and its centreline's points
pub record HalfWords (pieces : List ℕ) (m : ℕ) (second : Bool) (xs : List Piece) (size : ℕ) (o : Option Line) (v : List ℕ) : Type 0 where
  pub left : half_ref pieces m second (word 2 v) (mark 3 v) ≡ (cond second (second_ref xs (ref_at 2 v)) (first_ref xs (ref_at 2 v))).boundary
  pub right : half_ref pieces m second (word 4 v) (mark 5 v) ≡ (cond second (second_ref xs (ref_at 4 v)) (first_ref xs (ref_at 4 v))).boundary
  pub center : CenterIs (mark 6 v) size o
  pub marked : present o ≡ word 6 v

module _ (pieces : List ℕ) (m : ℕ) (cut : List ℕ) (next : ℕ) (centers : List ℕ) (rank : ℕ) (c : List Float) (xs : List Piece) (o : Option Line) (v : List ℕ) (long : length v ≡ 52) (formed : lane_formed v ≡ true)
    (few : length (ids_at 35 v) ≤ 16) (h : HalfWords pieces m true xs (second_size centers rank) o v) where
  abbrev hs : List (ℕ × ℕ)
  hs = numbered next cut

  abbrev old : Lane
  old = lane_of c v

  -- the second half of the lane in row v
  abbrev pub later_half : Lane
  later_half = lane_with old (next + rank) (second_ref xs old.left) (second_ref xs old.right) o (second_slot hs old.left_neighbor) (second_slot hs old.right_neighbor) (old.id ∷ []) old.successors

  abbrev at : ℕ
  at = first_start centers rank + first_size centers rank

  abbrev ln : Option Neighbor
  ln = second_slot hs (slot_at 14 v)

  abbrev rn : Option Neighbor
  rn = second_slot hs (slot_at 16 v)

  module _ (x0 x1 x2 x3 x4 x5 x6 x7 x8 x9 x10 x11 x12 x13 x14 x15 x16 x17 n k : ℕ) (ps ss : List ℕ) (lp : length ps ≡ 16) (ls : length ss ≡ 16) where
    abbrev row : List ℕ
    row = lane18 x0 x1 x2 x3 x4 x5 x6 x7 x8 x9 x10 x11 x12 x13 x14 x15 x16 x17 (n ∷ ps ++ (k ∷ ss))

    abbrev left : ℕ
    left = half_ref pieces m true (word 2 v) (mark 3 v)

    abbrev right : ℕ
    right = half_ref pieces m true (word 4 v) (mark 5 v)

    puts : second_row pieces m cut next centers rank v row
        ≡ lane18 (next + rank) (word 1 v) left (word 3 v) right (word 5 v) (word 6 v) (start_or x7 at o) (size_or x8 o) (word 9 v) (number_or x10 (option_at 9 v)) (word 11 v) (word 12 v) (word 13 v)
        (slot_mark ln) (slot_lane x15 ln) (slot_mark rn) (slot_lane x17 rn) (ids_onto ps (word 0 v ∷ []) ++ ids_onto ss (ids_at 35 v))
    unfolding second_row
    puts =
        ap (λ z. set_list 35 (ids_at 35 v) (set_list 18 (word 0 v ∷ []) (set_slot 16 rn (set_slot 14 ln (center_onto (mark 6 v) at (second_size centers rank) z))))) (head-put _ _ _ _ _ _ _ _ _ _ _ _ _ _ _ _ _ _ _ (next + rank) left right v)
        ∙ (ap (λ z. set_list 35 (ids_at 35 v) (set_list 18 (word 0 v ∷ []) (set_slot 16 rn (set_slot 14 ln z)))) (center_put _ _ _ _ _ _ _ _ _ _ _ _ _ _ _ _ _ _ _ at (second_size centers rank) (mark 6 v) o h.center)
        ∙ (ap (λ z. set_list 35 (ids_at 35 v) (set_list 18 (word 0 v ∷ []) (set_slot 16 rn z))) (left-slot _ _ _ _ _ _ _ _ _ _ _ _ _ _ _ _ _ _ _ ln)
        ∙ (ap (λ z. set_list 35 (ids_at 35 v) (set_list 18 (word 0 v ∷ []) z)) (right-slot _ _ _ _ _ _ _ _ _ _ _ _ _ _ _ _ _ _ _ rn)
        ∙ (ap (set_list 35 (ids_at 35 v)) (before-set _ _ _ _ _ _ _ _ _ _ _ _ _ _ _ _ _ _ ps (k ∷ ss) (word 0 v ∷ []) n (omega arith))
        ∙ after-set _ _ _ _ _ _ _ _ _ _ _ _ _ _ _ _ _ _ (ids_onto ps (word 0 v ∷ [])) ss (ids_at 35 v) k (onto-length ps (word 0 v ∷ []) 16 lp (omega arith)) ls few))))

    plain_second : lane_laid row (at, later_half) ≡ second_row pieces m cut next centers rank v row
    unfolding lane_of
    plain_second =
        laid-row x0 x1 x2 x3 x4 x5 x6 x7 x8 x9 x10 x11 x12 x13 x14 x15 x16 x17 n k ps ss lp ls at later_half
        ∙ rw (second_way xs (ref_at 2 v), second_way xs (ref_at 4 v), flag3 c v long formed, flag5 c v long formed, limit9 c v long formed, flag11 c v long formed, h.marked, ← h.left, ← h.right) (sym puts)

  -- onto any words
  pub second-laid : (w : List ℕ) → length w ≡ 52 → lane_laid w (at, later_half) ≡ second_row pieces m cut next centers rank v w
  second-laid = plain_of (λ w. lane_laid w (at, later_half) ≡ second_row pieces m cut next centers rank v w) plain_second

-- ---- lanes that are there

pub ids_few : (k : ℕ) (w : List ℕ) → word k w ≤ 16 → length (ids_at k w) ≤ 16
ids_few k w h = omega (arith, length-take (word k w) (drop (suc k) w))

-- what a row asks: it is formed, its centreline is stored, and its predecessors fit
pub record Cuttable (c : List Float) (hs : List (ℕ × ℕ)) (w : List ℕ) : Type 0 where
  pub formed : lane_formed w ≡ true
  pub center : all (stored c) (center_span w) ≡ true
  pub few : length (came_from hs (ids_at 18 w)) ≤ 16

module _ (pieces : List ℕ) (m : ℕ) (cut : List ℕ) (next : ℕ) (centers : List ℕ) (c : List Float) (xs : List Piece) where
  abbrev pairs : List (ℕ × ℕ)
  pairs = numbered next cut

  -- the first half of a lane
  abbrev pub earlier_half : ℕ → Option Line → Lane → Lane
  earlier_half rank o l =
      lane_with l l.id (first_ref xs l.left) (first_ref xs l.right) o (first_slot pairs l.left_neighbor) (first_slot pairs l.right_neighbor) (came_from pairs l.predecessors) ((next + rank) ∷ [])

  module _ (x0 x1 x2 x3 x4 x5 x6 x7 x8 x9 x10 x11 x12 x13 x14 x15 x16 x17 n k : ℕ) (ps ss : List ℕ) (lp : length ps ≡ 16) (ls : length ss ≡ 16) where
    abbrev lane : List ℕ
    lane = lane18 x0 x1 x2 x3 x4 x5 x6 x7 x8 x9 x10 x11 x12 x13 x14 x15 x16 x17 (n ∷ ps ++ (k ∷ ss))

    module _ (q : Cuttable c pairs lane) where
      came-few : length (came_from pairs (ids_at 18 lane)) ≤ length ps
      came-few = omega (arith, q.few)

      marks : LaneMarks lane
      marks = lane-marks lane q.formed

      own-after : ids_onto ss (ids_at 35 lane) ≡ k ∷ ss
      own-after =
          let e : set_list 35 (ids_at 35 lane) lane ≡ lane18 x0 x1 x2 x3 x4 x5 x6 x7 x8 x9 x10 x11 x12 x13 x14 x15 x16 x17 ((n ∷ ps) ++ ids_onto ss (ids_at 35 lane)) =
          after-set x0 x1 x2 x3 x4 x5 x6 x7 x8 x9 x10 x11 x12 x13 x14 x15 x16 x17 (n ∷ ps) ss (ids_at 35 lane) k (omega arith) ls (ids_few 35 lane marks.after) in
          sym (drop_at ps (ids_onto ss (ids_at 35 lane)) 16 lp) ∙ (ap (drop 35) (sym e ∙ (lane_row lane (omega (arith, length-append ps (k ∷ ss)))).own-after marks) ∙ drop_at ps (k ∷ ss) 16 lp)

      came-put : (y2 y4 y7 y8 y14 y15 y16 y17 : ℕ) (rest : List ℕ) → set_list 18 (came_from pairs (ids_at 18 lane)) (lane18 x0 x1 y2 x3 y4 x5 x6 y7 y8 x9 x10 x11 x12 x13 y14 y15 y16 y17 (n ∷ ps ++ rest))
          ≡ lane18 x0 x1 y2 x3 y4 x5 x6 y7 y8 x9 x10 x11 x12 x13 y14 y15 y16 y17 (ids_onto ps (came_from pairs (ids_at 18 lane)) ++ rest)
      came-put y2 y4 y7 y8 y14 y15 y16 y17 rest = before-set x0 x1 y2 x3 y4 x5 x6 y7 y8 x9 x10 x11 x12 x13 y14 y15 y16 y17 ps rest (came_from pairs (ids_at 18 lane)) n came-few

      plain-uncut : lane_laid lane (x7, uncut pairs (lane_of c lane)) ≡ came_row cut next lane
      unfolding lane_of
      plain-uncut =
          let f = q.formed in
          let l = own_line x0 x1 x2 x3 x4 x5 x6 x7 x8 x9 x10 x11 x12 x13 x14 x15 x16 x17 n k ps ss lp ls c f (mark 6 lane) q.center in
          laid-row x0 x1 x2 x3 x4 x5 x6 x7 x8 x9 x10 x11 x12 x13 x14 x15 x16 x17 n k ps ss lp ls x7 (uncut pairs (lane_of c lane))
          ∙ rw (
            own3 x0 x1 x2 x3 x4 x5 x6 x7 x8 x9 x10 x11 x12 x13 x14 x15 x16 x17 n k ps ss lp ls c f,
            own5 x0 x1 x2 x3 x4 x5 x6 x7 x8 x9 x10 x11 x12 x13 x14 x15 x16 x17 n k ps ss lp ls c f,
            own6 x0 x1 x2 x3 x4 x5 x6 x7 x8 x9 x10 x11 x12 x13 x14 x15 x16 x17 n k ps ss lp ls c f,
            own9 x0 x1 x2 x3 x4 x5 x6 x7 x8 x9 x10 x11 x12 x13 x14 x15 x16 x17 n k ps ss lp ls c f,
            own10 x0 x1 x2 x3 x4 x5 x6 x7 x8 x9 x10 x11 x12 x13 x14 x15 x16 x17 n k ps ss lp ls c f,
            own11 x0 x1 x2 x3 x4 x5 x6 x7 x8 x9 x10 x11 x12 x13 x14 x15 x16 x17 n k ps ss lp ls c f,
            own14 x0 x1 x2 x3 x4 x5 x6 x7 x8 x9 x10 x11 x12 x13 x14 x15 x16 x17 n k ps ss lp ls c f,
            own15 x0 x1 x2 x3 x4 x5 x6 x7 x8 x9 x10 x11 x12 x13 x14 x15 x16 x17 n k ps ss lp ls c f,
            own16 x0 x1 x2 x3 x4 x5 x6 x7 x8 x9 x10 x11 x12 x13 x14 x15 x16 x17 n k ps ss lp ls c f,
            own17 x0 x1 x2 x3 x4 x5 x6 x7 x8 x9 x10 x11 x12 x13 x14 x15 x16 x17 n k ps ss lp ls c f,
            l.0,
            l.1,
            own-after,
          ) (sym (came-put x2 x4 x7 x8 x14 x15 x16 x17 (k ∷ ss)))

      module _ (rank : ℕ) (o : Option Line) (h : HalfWords pieces m false xs (first_size centers rank) o lane) where
        abbrev former_half : Lane
        former_half = earlier_half rank o (lane_of c lane)

        abbrev fl : Option Neighbor
        fl = first_slot pairs (slot_at 14 lane)

        abbrev fr : Option Neighbor
        fr = first_slot pairs (slot_at 16 lane)

        abbrev lb : ℕ
        lb = half_ref pieces m false x2 (mark 3 lane)

        abbrev rb : ℕ
        rb = half_ref pieces m false x4 (mark 5 lane)

        abbrev start : ℕ
        start = first_start centers rank

        abbrev behind : List ℕ
        behind = ids_onto ss ((next + rank) ∷ [])

        abbrev halved : List ℕ
        halved = lane18 x0 x1 lb x3 rb x5 x6 (start_or x7 start o) (size_or x8 o) x9 x10 x11 x12 x13 (slot_mark fl) (slot_lane x15 fl) (slot_mark fr) (slot_lane x17 fr) (n ∷ ps ++ behind)

        first-is : first_row pieces m cut next centers rank lane ≡ halved
        unfolding first_row set
        first-is =
            ap (λ z. set_list 35 ((next + rank) ∷ []) (set_slot 16 fr (set_slot 14 fl z))) (center_put x0 x1 lb x3 rb x5 x6 x7 x8 x9 x10 x11 x12 x13 x14 x15 x16 x17 (n ∷ ps ++ (k ∷ ss)) start (first_size centers rank) (mark 6 lane) o h.center)
            ∙ (ap (λ z. set_list 35 ((next + rank) ∷ []) (set_slot 16 fr z)) (left-slot _ _ _ _ _ _ _ _ _ _ _ _ _ _ _ _ _ _ _ fl)
            ∙ (ap (set_list 35 ((next + rank) ∷ [])) (right-slot _ _ _ _ _ _ _ _ _ _ _ _ _ _ _ _ _ _ _ fr)
            ∙ after-set _ _ _ _ _ _ _ _ _ _ _ _ _ _ _ _ _ _ (n ∷ ps) ss ((next + rank) ∷ []) k (omega arith) ls (omega arith)))

        -- the predecessors are those of the lane
        before-kept : ids_at 18 halved ≡ ids_at 18 lane
        before-kept = let l : n ≤ length ps = omega (arith, marks.before) in take-front n ps behind l ∙ sym (take-front n ps (k ∷ ss) l)

        came-is : came_row cut next (first_row pieces m cut next centers rank lane)
            ≡ lane18 x0 x1 lb x3 rb x5 x6 (start_or x7 start o) (size_or x8 o) x9 x10 x11 x12 x13 (slot_mark fl) (slot_lane x15 fl) (slot_mark fr) (slot_lane x17 fr) (ids_onto ps (came_from pairs (ids_at 18 lane)) ++ behind)
        came-is =
            ap (came_row cut next) first-is
            ∙ (ap (λ ids. set_list 18 (came_from pairs ids) halved) before-kept ∙ came-put lb rb (start_or x7 start o) (size_or x8 o) (slot_mark fl) (slot_lane x15 fl) (slot_mark fr) (slot_lane x17 fr) behind)

        plain-first : lane_laid lane (start, former_half) ≡ came_row cut next (first_row pieces m cut next centers rank lane)
        unfolding lane_of
        plain-first =
            let f = q.formed in
            laid-row x0 x1 x2 x3 x4 x5 x6 x7 x8 x9 x10 x11 x12 x13 x14 x15 x16 x17 n k ps ss lp ls start former_half
            ∙ rw (first_way xs (ref_at 2 lane), first_way xs (ref_at 4 lane), own3 x0 x1 x2 x3 x4 x5 x6 x7 x8 x9 x10 x11 x12 x13 x14 x15 x16 x17 n k ps ss lp ls c f, own5 x0 x1 x2 x3 x4 x5 x6 x7 x8 x9 x10 x11 x12 x13 x14 x15 x16 x17 n k ps ss lp ls c f, own9 x0 x1 x2 x3 x4 x5 x6 x7 x8 x9 x10 x11 x12 x13 x14 x15 x16 x17 n k ps ss lp ls c f, own10 x0 x1 x2 x3 x4 x5 x6 x7 x8 x9 x10 x11 x12 x13 x14 x15 x16 x17 n k ps ss lp ls c f, own11 x0 x1 x2 x3 x4 x5 x6 x7 x8 x9 x10 x11 x12 x13 x14 x15 x16 x17 n k ps ss lp ls c f, h.marked, ← h.left, ← h.right) (sym came-is)

  -- a lane that is not cut
  pub uncut-laid : (w : List ℕ) → length w ≡ 52 → Cuttable c (numbered next cut) w → lane_laid w (word 7 w, uncut (numbered next cut) (lane_of c w)) ≡ came_row cut next w
  uncut-laid = plain_of (λ w. Cuttable c (numbered next cut) w → lane_laid w (word 7 w, uncut (numbered next cut) (lane_of c w)) ≡ came_row cut next w) plain-uncut

  -- a first half
  pub first-laid : (rank : ℕ) (o : Option Line) (w : List ℕ) → length w ≡ 52 → Cuttable c (numbered next cut) w → HalfWords pieces m false xs (first_size centers rank) o w
      → lane_laid w (first_start centers rank, earlier_half rank o (lane_of c w)) ≡ came_row cut next (first_row pieces m cut next centers rank w)
  first-laid rank o =
      plain_of (λ w. Cuttable c (numbered next cut) w → HalfWords pieces m false xs (first_size centers rank) o w → lane_laid w (first_start centers rank, earlier_half rank o (lane_of c w)) ≡ came_row cut next (first_row pieces m cut next centers rank w))
      (λ x0 x1 x2 x3 x4 x5 x6 x7 x8 x9 x10 x11 x12 x13 x14 x15 x16 x17 n k ps ss lp ls q h. plain-first x0 x1 x2 x3 x4 x5 x6 x7 x8 x9 x10 x11 x12 x13 x14 x15 x16 x17 n k ps ss lp ls q rank o h)
