-- A lane's row in a merge: the merged lane, written over the row with where its centreline starts, is the row that the code leaves. Assumes nothing.
use Rattle.std.specs.Prelude.{Option, None, Some}
use mathlib.Core.Path.{◌≡◌, refl, sym, ap, ◌∙◌}
use Prim.Native.Nat.{ℕ, suc, ◌+◌, ◌≤◌, ◌<◌}
use native.Mathlib.Omega.{arith}
use mathlib.Core.Bool.{Bool, true, false, not, cond, ◌||◌, true≢false}
use mathlib.Core.List.{List, [], ◌∷◌, ◌++◌}
use lib.Dec.{eqb}
use lib.Ieee.{Float}
use lib.ListN.{length, length-append}
use lib.Seq.{length-take-le}
use borrow.Author.Tests.{eqb-true, eq-eqb}
use Rattle.lists.specs.Every.{all}
use Rattle.lists.specs.Rows.{over}
use Rattle.lists.specs.Select.{keep, has, without, place, ascending}
use Rattle.lists.proofs.Place.{place-present, length-place}
use Rattle.lists.proofs.Rows.{over-nil, length_over}
use Rattle.lists.proofs.Select.{length-keep, length_without, ascending-keep}
use Rattle.entities.specs.declared.Neighbor.{Neighbor}
use Rattle.entities.specs.Records.{Line, Lane}
use Rattle.rules.specs.Names.{Tolerance}
use Rattle.rules.specs.Edit.{relinked}
use Rattle.rules.specs.Lane.{freed, forgetting}
use Rattle.rules.specs.Merge.{SidePlan, kept, in_place, fresh, plan_ids, plan_ref, joined_center, merged_lane, after_merge}
use Rattle.tables.specs.View.{word, mark, ids_at, ref_at, slot_at, lane_of}
use Rattle.tables.specs.Formed.{center_span, stored, lane_formed}
use Rattle.store.specs.Store.{flag, present, slot_mark, slot_lane, ids_onto}
use Rattle.store.specs.Rows.{set_list}
use Rattle.store.specs.Laid.{lane_laid}
use Rattle.store.proofs.LaneRow.{list_written}
use Rattle.store.proofs.Back.{onto-length, ids-back}
use Rattle.store.proofs.Turns.{drop-behind}
use Rattle.layout.proofs.PlainLane.{lane18, start_or, size_or, after-set, onto-row, laid-row, long, marks, own3, own5, own6, own9, own10, own11, own_line, plain_of}
use Rattle.lookup.specs.Lookup.{count_of}
use Rattle.mentions.specs.Naming.{lane_forgets}
use Rattle.mentions.proofs.Records.{lane-forgets}
use Rattle.merge_plan.specs.Deciding.{counted}
use Rattle.merge_plan.specs.declared.Plan.{Plan}
use Rattle.merge_draw.specs.declared.Taken.{Taken}
use Rattle.merge_draw.specs.Redrawing.{comes_from, ref_onto, center_onto, takes_over, row_merged}
use Rattle.merge_draw.proofs.Lanes.{merged-long}
use Rattle.merge_redraw.specs.Relaying.{fresh_id, center_line, side_ids, center_at, taken_of}

-- the plan of a merge, with counts in place of lines
abbrev pub plan_of : Tolerance → Lane → Lane → SidePlan → SidePlan → Plan
plan_of tol a b pl pr = record { left = counted pl; right = counted pr; center = count_of (joined_center tol.join a.centerline b.centerline) }

-- as many ids with counts as with lines
pub side-ids : (p : SidePlan) → side_ids (counted p) ≡ plan_ids p
side-ids kept = refl
side-ids (in_place l) = refl
side-ids (fresh l) = refl

-- ---- lists

-- a list written over one that is no longer
over-again : (b p q : List ℕ) → length p ≤ length q → length q ≤ length b → over (over b 0 p) 0 q ≡ over b 0 q
unfolding over
over-again b p q h k = ap (λ z. q ++ z) (drop-behind b 0 p (0 + length q) (omega arith) (omega arith))

-- a list that has a number loses it
pub without-shorter : (x : ℕ) (ys : List ℕ) → has x ys ≡ true → length (without x ys) < length ys
unfolding has without keep
without-shorter x [] h = absurd (true≢false (sym h))
without-shorter x (y ∷ ys) h = go (eqb x y) h (without-shorter x ys)
  where
    go : (b : Bool) → (b || has x ys) ≡ true → (has x ys ≡ true → length (keep (λ z. not (eqb x z)) ys) < length ys)
        → length (cond (not b) (y ∷ keep (λ z. not (eqb x z)) ys) (keep (λ z. not (eqb x z)) ys)) < suc (length ys)
    go true t r = let k : length (keep (λ z. not (eqb x z)) ys) ≤ length ys = length-keep (λ z. not (eqb x z)) ys in omega arith
    go false t r = omega (arith, r t)

-- a number put in its place
pub place-longer : (x : ℕ) (ys : List ℕ) → ascending ys ≡ true → (length ys ≤ length (place x ys)) × (length (place x ys) ≤ length ys + 1)
place-longer x ys up = go (has x ys) refl
  where
    go : (b : Bool) → has x ys ≡ b → (length ys ≤ length (place x ys)) × (length (place x ys) ≤ length ys + 1)
    go true e = let k = ap length (place-present x ys up e) in (omega arith, omega arith)
    go false e = let k = length-place x ys e in (omega arith, omega arith)

-- ---- a row of plain words

-- a joined centreline, or none
center_taken : (y0 y1 y2 y3 y4 y5 y6 y7 y8 y9 y10 y11 y12 y13 y14 y15 y16 y17 : ℕ) (rest : List ℕ) (at : ℕ) (o : Option Line)
    → center_onto (center_line (count_of o) at) (lane18 y0 y1 y2 y3 y4 y5 y6 y7 y8 y9 y10 y11 y12 y13 y14 y15 y16 y17 rest) ≡ lane18 y0 y1 y2 y3 y4 y5 (present o) (start_or y7 at o) (size_or y8 o) y9 y10 y11 y12 y13 y14 y15 y16 y17 rest
unfolding over
center_taken y0 y1 y2 y3 y4 y5 y6 y7 y8 y9 y10 y11 y12 y13 y14 y15 y16 y17 rest at None = refl
center_taken y0 y1 y2 y3 y4 y5 y6 y7 y8 y9 y10 y11 y12 y13 y14 y15 y16 y17 rest at (Some l) = refl

-- a side's reference: the lane's own, or a new boundary's
left-taken : (y0 y1 y2 y3 y4 y5 y6 y7 y8 y9 y10 y11 y12 y13 y14 y15 y16 y17 : ℕ) (rest : List ℕ) (id : ℕ) (p : SidePlan) → flag (not (eqb y3 0)) ≡ y3
    → ref_onto (fresh_id (counted p) id) 2 (lane18 y0 y1 y2 y3 y4 y5 y6 y7 y8 y9 y10 y11 y12 y13 y14 y15 y16 y17 rest)
    ≡ lane18 y0 y1 (plan_ref p id (record { boundary = y2; reversed = not (eqb y3 0) })).boundary (flag (plan_ref p id (record { boundary = y2; reversed = not (eqb y3 0) })).reversed) y4 y5 y6 y7 y8 y9 y10 y11 y12 y13 y14 y15 y16 y17 rest
unfolding over
left-taken y0 y1 y2 y3 y4 y5 y6 y7 y8 y9 y10 y11 y12 y13 y14 y15 y16 y17 rest id kept h = ap (λ z. lane18 y0 y1 y2 z y4 y5 y6 y7 y8 y9 y10 y11 y12 y13 y14 y15 y16 y17 rest) (sym h)
left-taken y0 y1 y2 y3 y4 y5 y6 y7 y8 y9 y10 y11 y12 y13 y14 y15 y16 y17 rest id (in_place l) h = ap (λ z. lane18 y0 y1 y2 z y4 y5 y6 y7 y8 y9 y10 y11 y12 y13 y14 y15 y16 y17 rest) (sym h)
left-taken y0 y1 y2 y3 y4 y5 y6 y7 y8 y9 y10 y11 y12 y13 y14 y15 y16 y17 rest id (fresh l) h = refl

right-taken : (y0 y1 y2 y3 y4 y5 y6 y7 y8 y9 y10 y11 y12 y13 y14 y15 y16 y17 : ℕ) (rest : List ℕ) (id : ℕ) (p : SidePlan) → flag (not (eqb y5 0)) ≡ y5
    → ref_onto (fresh_id (counted p) id) 4 (lane18 y0 y1 y2 y3 y4 y5 y6 y7 y8 y9 y10 y11 y12 y13 y14 y15 y16 y17 rest)
    ≡ lane18 y0 y1 y2 y3 (plan_ref p id (record { boundary = y4; reversed = not (eqb y5 0) })).boundary (flag (plan_ref p id (record { boundary = y4; reversed = not (eqb y5 0) })).reversed) y6 y7 y8 y9 y10 y11 y12 y13 y14 y15 y16 y17 rest
unfolding over
right-taken y0 y1 y2 y3 y4 y5 y6 y7 y8 y9 y10 y11 y12 y13 y14 y15 y16 y17 rest id kept h = ap (λ z. lane18 y0 y1 y2 y3 y4 z y6 y7 y8 y9 y10 y11 y12 y13 y14 y15 y16 y17 rest) (sym h)
right-taken y0 y1 y2 y3 y4 y5 y6 y7 y8 y9 y10 y11 y12 y13 y14 y15 y16 y17 rest id (in_place l) h = ap (λ z. lane18 y0 y1 y2 y3 y4 z y6 y7 y8 y9 y10 y11 y12 y13 y14 y15 y16 y17 rest) (sym h)
right-taken y0 y1 y2 y3 y4 y5 y6 y7 y8 y9 y10 y11 y12 y13 y14 y15 y16 y17 rest id (fresh l) h = refl

module _ (x0 x1 x2 x3 x4 x5 x6 x7 x8 x9 x10 x11 x12 x13 x14 x15 x16 x17 n m : ℕ) (ps ss : List ℕ) (lp : length ps ≡ 16) (ls : length ss ≡ 16) where
  abbrev row : List ℕ
  row = lane18 x0 x1 x2 x3 x4 x5 x6 x7 x8 x9 x10 x11 x12 x13 x14 x15 x16 x17 (n ∷ ps ++ (m ∷ ss))

  module _ (c : List Float) (f : lane_formed row ≡ true) where
    -- ---- the links

    module _ (first second : ℕ) (up : ascending (ids_at 18 row) ≡ true) where
      abbrev lf : Option Neighbor
      lf = freed second (slot_at 14 row)

      abbrev rf : Option Neighbor
      rf = freed second (slot_at 16 row)

      abbrev p : List ℕ
      p = without second (ids_at 18 row)

      abbrev r : List ℕ
      r = without second (ids_at 35 row)

      abbrev came : Bool
      came = has second (ids_at 18 row)

      abbrev q : List ℕ
      q = cond came (place first p) p

      -- the row with other slots and links
      abbrev relinks : List ℕ → List ℕ
      relinks rest = lane18 x0 x1 x2 x3 x4 x5 x6 x7 x8 x9 x10 x11 x12 x13 (slot_mark lf) (slot_lane x15 lf) (slot_mark rf) (slot_lane x17 rf) rest

      forgot : lane_forgets second row ≡ relinks (ids_onto ps p ++ ids_onto ss r)
      unfolding lane_of
      forgot = sym (lane-forgets second c row (long x0 x1 x2 x3 x4 x5 x6 x7 x8 x9 x10 x11 x12 x13 x14 x15 x16 x17 n m ps ss lp ls c f) f) ∙ (onto-row x0 x1 x2 x3 x4 x5 x6 x7 x8 x9 x10 x11 x12 x13 x14 x15 x16 x17 n m ps ss lp ls (forgetting second (lane_of c row)) ∙ rw (own3 x0 x1 x2 x3 x4 x5 x6 x7 x8 x9 x10 x11 x12 x13 x14 x15 x16 x17 n m ps ss lp ls c f, own5 x0 x1 x2 x3 x4 x5 x6 x7 x8 x9 x10 x11 x12 x13 x14 x15 x16 x17 n m ps ss lp ls c f, own6 x0 x1 x2 x3 x4 x5 x6 x7 x8 x9 x10 x11 x12 x13 x14 x15 x16 x17 n m ps ss lp ls c f, own9 x0 x1 x2 x3 x4 x5 x6 x7 x8 x9 x10 x11 x12 x13 x14 x15 x16 x17 n m ps ss lp ls c f, own10 x0 x1 x2 x3 x4 x5 x6 x7 x8 x9 x10 x11 x12 x13 x14 x15 x16 x17 n m ps ss lp ls c f, own11 x0 x1 x2 x3 x4 x5 x6 x7 x8 x9 x10 x11 x12 x13 x14 x15 x16 x17 n m ps ss lp ls c f))

      few-before : length (ids_at 18 row) ≤ 16
      few-before = let k = (marks x0 x1 x2 x3 x4 x5 x6 x7 x8 x9 x10 x11 x12 x13 x14 x15 x16 x17 n m ps ss lp ls c f).before in omega (arith, length-take-le n (ps ++ (m ∷ ss)) (omega (arith, length-append ps (m ∷ ss))))

      links : comes_from first second row ≡ relinks (ids_onto ps q ++ ids_onto ss r)
      links = ap (λ z. cond came (set_list 18 (place first (ids_at 18 z)) z) z) forgot ∙ go came refl
        where
          read : ids_at 18 (relinks (ids_onto ps p ++ ids_onto ss r)) ≡ p
          read = ids-back 18 (relinks (ids_onto ps p ++ ids_onto ss r)) ps p (ids_onto ss r) refl

          go : (b : Bool) → has second (ids_at 18 row) ≡ b
              → cond b (set_list 18 (place first (ids_at 18 (relinks (ids_onto ps p ++ ids_onto ss r)))) (relinks (ids_onto ps p ++ ids_onto ss r))) (relinks (ids_onto ps p ++ ids_onto ss r))
              ≡ relinks (ids_onto ps (cond b (place first p) p) ++ ids_onto ss r)
          go true e =
              let a : length p < length (ids_at 18 row) = without-shorter second (ids_at 18 row) e in
              let b = place-longer first p (unfold without in ascending-keep (λ y. not (eqb second y)) (ids_at 18 row) up) in
              let v = over ps 0 p in
              let l : length v ≡ 16 = length_over ps 0 p (omega (arith, few-before)) ∙ lp in
              let d : length (place first p) ≤ length v = omega (arith, few-before, a, b.1) in
              ap (λ ids. set_list 18 (place first ids) (relinks (ids_onto ps p ++ ids_onto ss r))) read
              ∙ (list_written (relinks []) v (ids_onto ss r) (place first p) (length p) 18 refl d
              ∙ ap (λ z. relinks (length (place first p) ∷ z ++ ids_onto ss r)) (over-again ps p (place first p) b.0 (omega (arith, few-before, a, b.1))))
          go false e = refl

      links-few : length q ≤ 16
      links-few = go came refl
        where
          go : (b : Bool) → has second (ids_at 18 row) ≡ b → length (cond b (place first p) p) ≤ 16
          go true e =
              let a : length p < length (ids_at 18 row) = without-shorter second (ids_at 18 row) e in
              let b = place-longer first p (unfold without in ascending-keep (λ y. not (eqb second y)) (ids_at 18 row) up) in
              omega (arith, few-before, a, b.1)
          go false e = omega (arith, few-before, length_without second (ids_at 18 row))

    -- ---- the whole row

    module _ (tol : Tolerance) (next reach : ℕ) (a b : Lane) (pl pr : SidePlan) (few : length b.successors ≤ 16) (up : ascending (ids_at 18 row) ≡ true) (o : all (stored c) (center_span row) ≡ true)
        (out : x0 ≡ a.id → ids_at 35 row ≡ b.id ∷ []) where
      abbrev center : Option Line
      center = joined_center tol.join a.centerline b.centerline

      abbrev taken : Taken
      taken = taken_of (plan_of tol a b pl pr) next reach

      abbrev start : ℕ
      start = center_at (plan_of tol a b pl pr) reach

      -- the lane after a merge; `z` says whether it takes over
      abbrev linked : Bool → Lane
      linked z =
          let l = forgetting b.id (lane_of c row) in
          relinked l l.left_neighbor l.right_neighbor (cond (has b.id (lane_of c row).predecessors) (place a.id l.predecessors) l.predecessors) (cond z b.successors l.successors)

      abbrev after : Bool → Lane
      after z = cond z (merged_lane tol.join pl pr next a b (linked z)) (linked z)

      other : lane_laid row (x7, after false) ≡ comes_from a.id b.id row
      unfolding lane_of
      other =
          let h = own_line x0 x1 x2 x3 x4 x5 x6 x7 x8 x9 x10 x11 x12 x13 x14 x15 x16 x17 n m ps ss lp ls c f (mark 6 row) o in
          laid-row x0 x1 x2 x3 x4 x5 x6 x7 x8 x9 x10 x11 x12 x13 x14 x15 x16 x17 n m ps ss lp ls x7 (after false) ∙ (rw (own3 x0 x1 x2 x3 x4 x5 x6 x7 x8 x9 x10 x11 x12 x13 x14 x15 x16 x17 n m ps ss lp ls c f, own5 x0 x1 x2 x3 x4 x5 x6 x7 x8 x9 x10 x11 x12 x13 x14 x15 x16 x17 n m ps ss lp ls c f, own6 x0 x1 x2 x3 x4 x5 x6 x7 x8 x9 x10 x11 x12 x13 x14 x15 x16 x17 n m ps ss lp ls c f, own9 x0 x1 x2 x3 x4 x5 x6 x7 x8 x9 x10 x11 x12 x13 x14 x15 x16 x17 n m ps ss lp ls c f, own10 x0 x1 x2 x3 x4 x5 x6 x7 x8 x9 x10 x11 x12 x13 x14 x15 x16 x17 n m ps ss lp ls c f, own11 x0 x1 x2 x3 x4 x5 x6 x7 x8 x9 x10 x11 x12 x13 x14 x15 x16 x17 n m ps ss lp ls c f, h.0, h.1) (sym (links a.id b.id up)))

      taker : x0 ≡ a.id → lane_laid row (start, after true) ≡ takes_over taken b.successors (comes_from a.id b.id row)
      unfolding lane_of
      taker e =
          laid-row x0 x1 x2 x3 x4 x5 x6 x7 x8 x9 x10 x11 x12 x13 x14 x15 x16 x17 n m ps ss lp ls start (after true) ∙ (rw (own9 x0 x1 x2 x3 x4 x5 x6 x7 x8 x9 x10 x11 x12 x13 x14 x15 x16 x17 n m ps ss lp ls c f, own10 x0 x1 x2 x3 x4 x5 x6 x7 x8 x9 x10 x11 x12 x13 x14 x15 x16 x17 n m ps ss lp ls c f, own11 x0 x1 x2 x3 x4 x5 x6 x7 x8 x9 x10 x11 x12 x13 x14 x15 x16 x17 n m ps ss lp ls c f) (sym takes))
        where
          qs : List ℕ
          qs = q a.id b.id up

          empty : ids_onto ss (without b.id (ids_at 35 row)) ≡ 0 ∷ ss
          empty = ap (λ ids. ids_onto ss (without b.id ids)) (out e) ∙ (unfold without keep in rw (eq-eqb b.id b.id refl) (ap (λ z. 0 ∷ z) (over-nil ss 0)))

          few_before' : length qs ≤ 16
          few_before' = links-few a.id b.id up

          takes : takes_over taken b.successors (comes_from a.id b.id row)
              ≡ lane18 x0 x1 (plan_ref pl next (ref_at 2 row)).boundary (flag (plan_ref pl next (ref_at 2 row)).reversed) (plan_ref pr (next + plan_ids pl) (ref_at 4 row)).boundary
              (flag (plan_ref pr (next + plan_ids pl) (ref_at 4 row)).reversed) (present center) (start_or x7 start center) (size_or x8 center) x9 x10 x11 x12 x13
              (slot_mark (freed b.id (slot_at 14 row))) (slot_lane x15 (freed b.id (slot_at 14 row))) (slot_mark (freed b.id (slot_at 16 row))) (slot_lane x17 (freed b.id (slot_at 16 row)))
              (ids_onto ps qs ++ ids_onto ss b.successors)
          takes =
              ap (takes_over taken b.successors) (links a.id b.id up ∙ ap (λ z. relinks a.id b.id up (ids_onto ps qs ++ z)) empty)
              ∙ (ap (λ z. set_list 35 b.successors (center_onto taken.center (ref_onto taken.right 4 z))) (left-taken _ _ _ _ _ _ _ _ _ _ _ _ _ _ _ _ _ _ _ next pl (own3 x0 x1 x2 x3 x4 x5 x6 x7 x8 x9 x10 x11 x12 x13 x14 x15 x16 x17 n m ps ss lp ls c f))
              ∙ (ap (λ z. set_list 35 b.successors (center_onto taken.center z)) (right-taken _ _ _ _ _ _ _ _ _ _ _ _ _ _ _ _ _ _ _ (next + side_ids (counted pl)) pr (own5 x0 x1 x2 x3 x4 x5 x6 x7 x8 x9 x10 x11 x12 x13 x14 x15 x16 x17 n m ps ss lp ls c f))
              ∙ (ap (set_list 35 b.successors) (center_taken _ _ _ _ _ _ _ _ _ _ _ _ _ _ _ _ _ _ _ start center)
              ∙ rw (side-ids pl) (after-set _ _ _ _ _ _ _ _ _ _ _ _ _ _ _ _ _ _ (ids_onto ps qs) ss b.successors 0 (onto-length ps qs 16 lp few_before') ls few))))

      pub plain-merged : lane_laid row (cond (eqb x0 a.id) start x7, after_merge tol next a b pl pr (lane_of c row)) ≡ row_merged a.id b.id taken b.successors row
      unfolding lane_of
      plain-merged = go (eqb x0 a.id) refl
        where
          go : (z : Bool) → eqb x0 a.id ≡ z → lane_laid row (cond z start x7, after z) ≡ cond z (takes_over taken b.successors (comes_from a.id b.id row)) (comes_from a.id b.id row)
          go true e = taker (eqb-true x0 a.id e)
          go false e = other

-- ---- every row of 52 words

-- what a row asks: it is formed, its predecessors ascend, its centreline is stored, and the second lane alone comes after the first
pub record Takes (c : List Float) (a b : Lane) (w : List ℕ) : Type 0 where
  pub formed : lane_formed w ≡ true
  pub before : ascending (ids_at 18 w) ≡ true
  pub center : all (stored c) (center_span w) ≡ true
  pub out : word 0 w ≡ a.id → ids_at 35 w ≡ b.id ∷ []

-- where the centreline of a row's lane starts: the first lane's behind the lines of both sides
abbrev pub center_start : ℕ → Plan → Lane → ℕ × Lane → ℕ
center_start reach p a r = cond (eqb r.1.id a.id) (center_at p reach) r.0

-- a lane after a merge, with where its centreline starts
abbrev pub lane_after : Tolerance → ℕ → ℕ → Lane → Lane → SidePlan → SidePlan → ℕ × Lane → ℕ × Lane
lane_after tol next reach a b pl pr r = (center_start reach (plan_of tol a b pl pr) a r, after_merge tol next a b pl pr r.1)

module _ (tol : Tolerance) (next reach : ℕ) (c : List Float) (a b : Lane) (pl pr : SidePlan) (few : length b.successors ≤ 16) where
  -- THE ROW LAW
  pub row-merged : (w : List ℕ) → length w ≡ 52 → Takes c a b w
      → lane_laid w (lane_after tol next reach a b pl pr (word 7 w, lane_of c w)) ≡ row_merged a.id b.id (taken_of (plan_of tol a b pl pr) next reach) b.successors w
  unfolding lane_of
  row-merged =
      plain_of (λ u. Takes c a b u → lane_laid u (lane_after tol next reach a b pl pr (word 7 u, lane_of c u)) ≡ row_merged a.id b.id (taken_of (plan_of tol a b pl pr) next reach) b.successors u)
      (λ x0 x1 x2 x3 x4 x5 x6 x7 x8 x9 x10 x11 x12 x13 x14 x15 x16 x17 n m ps ss lp ls t. plain-merged x0 x1 x2 x3 x4 x5 x6 x7 x8 x9 x10 x11 x12 x13 x14 x15 x16 x17 n m ps ss lp ls c t.formed tol next reach a b pl pr few t.before t.center t.out)

  -- it keeps its length
  pub row-long : (w : List ℕ) → length w ≡ 52 → Takes c a b w → length (lane_laid w (lane_after tol next reach a b pl pr (word 7 w, lane_of c w))) ≡ 52
  row-long w h k = ap length (row-merged w h k) ∙ merged-long w a.id b.id (taken_of (plan_of tol a b pl pr) next reach) b.successors (h, (k.formed, k.before)) few
