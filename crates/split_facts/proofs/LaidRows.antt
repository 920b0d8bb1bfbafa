-- What the words of pieces and measures say of the halves of cut lanes, how many points the pieces have, and where the drawn lines lie. Assumes nothing.
use Rattle.std.specs.Prelude.{Option, None, Some, Ok}
use mathlib.Core.Path.{◌≡◌, refl, sym, ap, ◌∙◌, subst}
use Prim.Native.Nat.{ℕ, zero, suc, ◌+◌, ◌*◌, ◌≤◌, ◌<◌}
use native.Mathlib.Omega.{arith}
use mathlib.Core.Bool.{Bool, true, false, not, ◌&&◌, cond}
use mathlib.Core.List.{List, [], ◌∷◌, ◌++◌, map, append_assoc}
use lib.Dec.{eqb, leb, ltb}
use lib.Ieee.{Float}
use lib.ListN.{length, get_or, take, drop, length-append, length-drop}
use lib.Seq.{length-take-le, drop-drop, take_at, drop_at}
use borrow.Author.Tests.{eqb-true, eqb-false, eq-eqb, ltb-true, le-leb}
use Rattle.lists.specs.Every.{all}
use Rattle.lists.specs.Rows.{reads, over, keys, row_with, later}
use Rattle.lists.specs.Select.{find, each, has}
use Rattle.lists.proofs.Booleans.{and_both, and-fst, and-snd}
use Rattle.lists.proofs.Every.{all_head, all_tail}
use Rattle.lists.proofs.Rows.{length-keys, get_d_reads, row-at, over-over}
use Rattle.lists.proofs.Select.{all-has}
use Rattle.entities.specs.Records.{Line, Lane, Map}
use Rattle.entities.specs.declared.Refusal.TheVariants as R
use Rattle.polyline.specs.Polyline.{flat, first_piece, second_piece}
use Rattle.polyline.proofs.Points.{length-flat}
use Rattle.rules.specs.Names.{Tolerance, BoundaryRef, Point2, Left, Right}
use Rattle.rules.specs.Map.{station, centerline, explicit_or, derived, oriented_boundary}
use Rattle.rules.specs.Sound.{total}
use Rattle.rules.specs.Edit.{Res, ◌>>=◌, check, require}
use Rattle.rules.specs.Split.{Piece, LanePlan, center_piece, cuttable, lane_plan, lane_plans, piece_for, plan_for, first_ref, second_ref, pieces_ids, second_halves}
use Rattle.laws.proofs.Lawful.{yields, no-yield}
use Rattle.laws.proofs.SplitPlans.{bound}
use Rattle.tables.specs.View.{word, mark, part, ref_at, line_at, rows, lane_of}
use Rattle.tables.specs.Formed.{counted, lane_formed}
use Rattle.store.specs.Store.{present}
use Rattle.store.specs.Laid.{points_of}
use Rattle.store.proofs.Marks.{lane-marks}
use Rattle.layout.specs.Layout.{sourced}
use Rattle.lookup.specs.Lookup.{sorted_table, place_of, row_at, points_or}
use Rattle.lookup.proofs.Laws.{sorted-ascends}
use Rattle.split_named.proofs.Grown.{rows-room}
use Rattle.split_rows.specs.Halves.{half_ref, piece_found, piece_word, first_size, second_size}
use Rattle.split_plan.specs.Placing.{picked}
use Rattle.split_room.specs.Fitting.{boundary_points, lane_points}
use Rattle.split_tables.specs.Cut.{new_rows, first_piece_row, second_piece_row}
use Rattle.split_limits.proofs.Boundaries.{AllTold}
use Rattle.split_limits.proofs.Centers.{PlanTold, AllPlans}
use Rattle.split_laid.proofs.Boundaries.{AllWords, piece_size}
use Rattle.split_laid.proofs.Rows.{CenterIs, HalfWords}
use Rattle.split_laid.proofs.Lanes.{PlanRows, PlanFound}
use Rattle.split_laid.proofs.Lies.{piece_lines, center_lines_of, Runs, runs-held}

-- ---- general

-- rows have all their words
reads-long : (s n : ℕ) (w : List ℕ) → n * s ≤ length w → all (λ b. b) (reads s (λ v. eqb (length v) s) n w) ≡ true
unfolding reads all
reads-long s zero w h = refl
reads-long s (suc n) w h =
    let i : s ≤ length w = omega arith in
    let k : n * s ≤ length (drop s w) = rw length-drop (omega arith) in
    and_both (eqb (length (take s w)) s) (all (λ b. b) (reads s (λ v. eqb (length v) s) n (drop s w))) (eq-eqb (length (take s w)) s (length-take-le s w i)) (reads-long s n (drop s w) k)

pub rows_long : (limit s : ℕ) (t : List ℕ) → counted limit s t ≡ true → all (λ b. b) (rows s (λ v. eqb (length v) s) t) ≡ true
unfolding rows
rows_long limit s t h = reads-long s (word 0 t) (drop 1 t) (rows-room limit s t h)

-- row i is where its own id is found
pub own-place : (limit s : ℕ) (t : List ℕ) → sorted_table limit s t ≡ true → (i : ℕ) → i < word 0 t → place_of s t (word 0 (row_at s t i)) ≡ Some i
unfolding place_of keys
own-place limit s t h i l =
    let k : i < length (keys s (word 0 t) (drop 1 t)) = rw (length-keys s (word 0 t) (drop 1 t)) l in
    let e : get_or (keys s (word 0 t) (drop 1 t)) i 0 ≡ word 0 (row_at s t i) =
    get_d_reads s (λ (r : List ℕ). get_or r 0 0) (word 0 t) i (drop 1 t) 0 l ∙ rw drop-drop in
    row-at (word 0 (row_at s t i)) i (keys s (word 0 t) (drop 1 t)) (sorted-ascends limit s t h) k e

-- numbers below n lack one that is not
pub lacks-above : (n i : ℕ) (ks : List ℕ) → all (λ j. ltb j n) ks ≡ true → n ≤ i → not (has i ks) ≡ true
lacks-above n i ks h l = go (has i ks) refl
  where
    go : (b : Bool) → has i ks ≡ b → not b ≡ true
    go true e = absurd (omega (arith, ltb-true i n (all-has (λ j. ltb j n) i ks h e)))
    go false e = refl

-- ids of second halves count up from the first
pub halves-from : (xs : List Piece) (hs : List (ℕ × ℕ)) (m n : ℕ) (ps : List LanePlan) → m ≤ n → all (λ l. leb m l.id) (second_halves xs hs n ps) ≡ true
unfolding second_halves all
halves-from xs hs m n [] l = refl
halves-from xs hs m n (x ∷ ps) l = and_both (leb m n) (all (λ l. leb m l.id) (second_halves xs hs (suc n) ps)) (le-leb m n l) (halves-from xs hs m (suc n) ps (omega arith))

-- ---- centrelines of halves

-- both are there, or none is
abbrev pub Both : Option Line → Option Line → Type 0
Both None None = ◌≡◌ {A = ℕ} 0 0
Both None (Some l) = ⊥
Both (Some c) None = ⊥
Both (Some c) (Some l) = ◌≡◌ {A = ℕ} 0 0

-- each half of a planned lane has a centreline where the lane has one
abbrev pub Lined : LanePlan → Type 0
Lined x = Both x.of.centerline x.first_center × Both x.of.centerline x.second_center

module _ (tol : Tolerance) (m : Map) (own : ℕ) (at : Float) (p : Point2) where
  abbrev plan_at : Lane → Float → LanePlan
  plan_at l s = record { of = l; station = s; first_center = center_piece first_piece l.centerline p; second_center = center_piece second_piece l.centerline p }

  abbrev checked_at : Lane → Line → Float → Res LanePlan
  checked_at l c s = check (cuttable tol.piece c s) (R.PositionOutside l.id) >>= (λ ok. Ok (plan_at l s))

  abbrev near_at : Lane → Line → Res LanePlan
  near_at l c = require (station c p) (R.NoUsableLine l.id) >>= (λ near. checked_at l c (cond (eqb l.id own) at near))

  plan-lined : (l : Lane) (x : LanePlan) → lane_plan tol m own at p l ≡ Ok x → Lined x
  unfolding lane_plan
  plan-lined l x h =
      let (c, e1, h1) = bound (require (centerline m l) (R.NoUsableLine l.id)) (near_at l) x h in
      let (near, e2, h2) = bound (require (station c p) (R.NoUsableLine l.id)) (λ near. checked_at l c (cond (eqb l.id own) at near)) x h1 in
      let s = cond (eqb l.id own) at near in
      let (ok, e3, h3) = bound (check (cuttable tol.piece c s) (R.PositionOutside l.id)) (λ ok. Ok (plan_at l s)) x h2 in
      let z : plan_at l s ≡ x = yields h3 in
      subst Lined z (go c near l.centerline (derived (oriented_boundary m Left l) (oriented_boundary m Right l)) (unfold centerline in e1) e2)
    where
      there : (piece : Line → Float → Line) (c : Line) (o : Option Float) (near : Float) → require o (R.NoUsableLine l.id) ≡ Ok near
          → Both (Some c) (elim o [ None ↦ None | Some s ↦ Some (piece c s) ])
      there piece c None near e = absurd (no-yield (R.NoUsableLine l.id) near e)
      there piece c (Some s) near e = refl

      go : (c : Line) (near : Float) (o d : Option Line) → require (explicit_or o d) (R.NoUsableLine l.id) ≡ Ok c → require (station c p) (R.NoUsableLine l.id) ≡ Ok near
          → Both o (center_piece first_piece o p) × Both o (center_piece second_piece o p)
      go c near None d e f = (refl, refl)
      go c near (Some b) d e f =
          let z : c ≡ b = sym (yields e) in
          let g : require (station b p) (R.NoUsableLine l.id) ≡ Ok near = rw z at f in
          (there first_piece b (station b p) near g, there second_piece b (station b p) near g)

-- of every plan
unfoldable pub AllLined : List LanePlan → Type 0
AllLined [] = ◌≡◌ {A = ℕ} 0 0
AllLined (x ∷ ps) = Lined x × AllLined ps

pub plans-lined : (tol : Tolerance) (m : Map) (own : ℕ) (at : Float) (p : Point2) (ls : List Lane) (ps : List LanePlan) → lane_plans tol m own at p ls ≡ Ok ps → AllLined ps
unfolding lane_plans AllLined
plans-lined tol m own at p [] ps h = subst AllLined (yields h) refl
plans-lined tol m own at p (l ∷ ls) ps h =
    let (y, e1, h1) = bound (lane_plan tol m own at p l) (λ x. lane_plans tol m own at p ls >>= (λ xs. Ok (x ∷ xs))) ps h in
    let (ys, e2, h2) = bound (lane_plans tol m own at p ls) (λ xs. Ok (y ∷ xs)) ps h1 in
    subst AllLined (yields h2) (plan-lined tol m own at p l y e1, plans-lined tol m own at p ls ys e2)

-- ---- boundaries of halves

module _ (pieces lines : List ℕ) where
  -- what a search among the ids of pieces finds
  abbrev PieceAt : ℕ → List Piece → ℕ → Option ℕ → Type 0
  PieceAt j xs k (Some r) = (x : Piece) × (piece_for xs k ≡ Some x) × (word ((j + r) * 3 + 1) pieces ≡ x.first) × (word ((j + r) * 3 + 2) pieces ≡ x.second)
  PieceAt j xs k None = piece_for xs k ≡ None

  piece-at : (j at : ℕ) (xs : List Piece) → AllWords pieces lines j at xs → (k : ℕ) → PieceAt j xs k (row_with k (map (λ x. x.of.id) xs))
  unfolding AllWords find row_with
  piece-at j at [] h k = refl
  piece-at j at (x ∷ xs) h k = go (eqb x.of.id k) refl (row_with k (map (λ x. x.of.id) xs)) (piece-at (suc j) (at + piece_size x) xs h.1 k)
    where
      go : (b : Bool) → eqb x.of.id k ≡ b → (r : Option ℕ) → PieceAt (suc j) xs k r → PieceAt j (x ∷ xs) k (cond b (Some 0) (later r))
      go true e r f = let n : j + 0 ≡ j = omega arith in (x, rw e, rw n h.0.first, rw n h.0.second)
      go false e (Some r) f = let n : suc j + r ≡ j + suc r = omega arith in (f.0, rw e f.1, rw (← n) f.2, rw (← n) f.3)
      go false e None f = rw e f

  module _ (m at : ℕ) (xs : List Piece) (h : AllWords pieces lines 0 at xs) (ks : keys 3 m pieces ≡ map (λ x. x.of.id) xs) where
    -- a half's boundary is the map's
    pub half-ref : (second : Bool) (r : BoundaryRef) → half_ref pieces m second r.boundary r.reversed ≡ (cond second (second_ref xs r) (first_ref xs r)).boundary
    half-ref second r = rw ks (go (row_with r.boundary (map (λ x. x.of.id) xs)) (piece-at 0 at xs h r.boundary) second)
      where
        found : (j : ℕ) (x : Piece) → piece_for xs r.boundary ≡ Some x → word (j * 3 + 1) pieces ≡ x.first → word (j * 3 + 2) pieces ≡ x.second → (second back : Bool)
            → word (j * 3 + piece_word second back) pieces ≡ cond second (cond back x.first x.second) (cond back x.second x.first)
        found j x e f g true true = f
        found j x e f g true false = g
        found j x e f g false true = g
        found j x e f g false false = f

        both : (x : Piece) (second : Bool) → piece_for xs r.boundary ≡ Some x
            → (cond second (second_ref xs r) (first_ref xs r)).boundary ≡ cond second (cond r.reversed x.first x.second) (cond r.reversed x.second x.first)
        both x true e = rw (e, second_ref)
        both x false e = rw (e, first_ref)

        none-cut : (second : Bool) → piece_for xs r.boundary ≡ None → r.boundary ≡ (cond second (second_ref xs r) (first_ref xs r)).boundary
        none-cut true e = rw (e, second_ref)
        none-cut false e = rw (e, first_ref)

        go : (f : Option ℕ) → PieceAt 0 xs r.boundary f → (second : Bool) → piece_found pieces (piece_word second r.reversed) r.boundary f ≡ (cond second (second_ref xs r) (first_ref xs r)).boundary
        go None q second = none-cut second q
        go (Some j) q second =
            let n : 0 + j ≡ j = omega arith in
            found j q.0 q.1 (rw n at q.2) (rw n at q.3) second r.reversed ∙ sym (both q.0 second q.1)

    -- ---- words of a half

    module _ (c : List Float) (v : List ℕ) (formed : lane_formed v ≡ true) where
      center_told : (b : Bool) (size : ℕ) (o : Option Line) → Both (cond b (Some (line_at c 7 v)) None) o → size ≡ length (points_or o) → CenterIs b size o
      center_told true size None s e = absurd s
      center_told true size (Some l) s e = e
      center_told false size None s e = refl
      center_told false size (Some l) s e = absurd s

      marked-told : (o : Option Line) → Both (cond (mark 6 v) (Some (line_at c 7 v)) None) o → present o ≡ word 6 v
      marked-told o s = go (eqb (word 6 v) 0) refl o s
        where
          go : (b : Bool) → eqb (word 6 v) 0 ≡ b → (o : Option Line) → Both (cond (not b) (Some (line_at c 7 v)) None) o → present o ≡ word 6 v
          go true e None s = sym (eqb-true (word 6 v) 0 e)
          go true e (Some l) s = absurd s
          go false e None s = absurd s
          go false e (Some l) s = let n = eqb-false (word 6 v) 0 e in omega (arith, (lane-marks v formed).center)

      pub half-words : (second : Bool) (l : Lane) → l ≡ lane_of c v → (size : ℕ) (o : Option Line) → Both l.centerline o → size ≡ length (points_or o) → HalfWords pieces m second xs size o v
      unfolding lane_of
      half-words second l e size o s z =
          let q : Both (cond (mark 6 v) (Some (line_at c 7 v)) None) o = subst (λ (l : Lane). Both l.centerline o) e s in
          record { left = half-ref second (ref_at 2 v); right = half-ref second (ref_at 4 v); center = center_told (mark 6 v) size o q z; marked = marked-told o q }

    -- ---- plans and rows

    module _ (c : List Float) (centers : List ℕ) (next : ℕ) (ps : List LanePlan) where
      -- a row of a lane
      abbrev pub good : List ℕ → Bool
      good w = eqb (length w) 52 && lane_formed w

      -- the plans from place `rank` on are of the rows in turn
      pub plans-rows : (rank : ℕ) (qs : List LanePlan) (vs : List (List ℕ)) → map (λ x. x.of) qs ≡ map (lane_of c) vs → AllPlans centers rank qs → AllLined qs → all (λ w. eqb (length w) 52 && lane_formed w) vs ≡ true
          → PlanRows pieces m centers next ps xs c rank qs vs
      unfolding AllPlans AllLined PlanRows
      plans-rows rank [] [] e t l g = refl
      plans-rows rank [] (v ∷ vs) e t l g = let z : ◌≡◌ {A = ℕ} 0 1 = cc in absurd (omega arith)
      plans-rows rank (x ∷ qs) [] e t l g = let z : ◌≡◌ {A = ℕ} 0 1 = cc in absurd (omega arith)
      plans-rows rank (x ∷ qs) (v ∷ vs) e t l g =
          let o : x.of ≡ lane_of c v = cc in
          let r : map (λ x. x.of) qs ≡ map (lane_of c) vs = cc in
          let k = all_head good v vs g in
          let f = and-snd (eqb (length v) 52) (lane_formed v) k in (
            record {
              of = o;
              words = eqb-true (length v) 52 (and-fst (eqb (length v) 52) (lane_formed v) k);
              formed = f;
              first = half-words c v f false x.of o (first_size centers rank) x.first_center l.0.0 t.0.first-size;
              second = half-words c v f true x.of o (second_size centers rank) x.second_center l.0.1 t.0.second-size;
            },
            plans-rows (suc rank) qs vs r t.1 l.1 (all_tail good v vs g),
          )

      -- what a search among the ids of planned lanes finds
      abbrev PlanAt : ℕ → List LanePlan → ℕ → Option ℕ → Type 0
      PlanAt rank qs k (Some r) = (x : LanePlan) × (plan_for qs k ≡ Some x) × PlanTold centers (rank + r) x × Lined x
      PlanAt rank qs k None = plan_for qs k ≡ None

      plan-at : (rank : ℕ) (qs : List LanePlan) → AllPlans centers rank qs → AllLined qs → (k : ℕ) → PlanAt rank qs k (row_with k (map (λ x. x.of.id) qs))
      unfolding AllPlans AllLined find row_with
      plan-at rank [] t l k = refl
      plan-at rank (x ∷ qs) t l k = go (eqb x.of.id k) refl (row_with k (map (λ x. x.of.id) qs)) (plan-at (suc rank) qs t.1 l.1 k)
        where
          go : (b : Bool) → eqb x.of.id k ≡ b → (r : Option ℕ) → PlanAt (suc rank) qs k r → PlanAt rank (x ∷ qs) k (cond b (Some 0) (later r))
          go true e r f = let n : rank + 0 ≡ rank = omega arith in (x, rw e, rw n t.0, l.0)
          go false e (Some r) f = let n : suc rank + r ≡ rank + suc r = omega arith in (f.0, rw e f.1, rw (← n) f.2, f.3)
          go false e None f = rw e f

      -- the plan of the lane in a row
      pub plan-found : AllPlans centers 0 ps → AllLined ps → (w : List ℕ) → lane_formed w ≡ true → ((x : LanePlan) → plan_for ps (word 0 w) ≡ Some x → x.of ≡ lane_of c w)
          → PlanFound pieces m centers next ps xs c w (row_with (word 0 w) (map (λ x. x.of.id) ps))
      plan-found t l w f own = go (row_with (word 0 w) (map (λ x. x.of.id) ps)) (plan-at 0 ps t l (word 0 w))
        where
          go : (r : Option ℕ) → PlanAt 0 ps (word 0 w) r → PlanFound pieces m centers next ps xs c w r
          go None q = q
          go (Some r) q =
              let n : 0 + r ≡ r = omega arith in
              let z : PlanTold centers r q.0 = rw n at q.2 in
              let o = own q.0 q.1 in
              (q.0, q.1, o, half-words c w f false q.0.of o (first_size centers r) q.0.first_center q.3.0 z.first-size)

-- ---- how many points and rows

module _ (pieces lines : List ℕ) where
  -- the measures tell of the pieces
  pub pieces-told : (j at : ℕ) (xs : List Piece) → AllWords pieces lines j at xs → AllTold pieces lines j xs
  unfolding AllWords AllTold
  pieces-told j at [] h = refl
  pieces-told j at (x ∷ xs) h =
      let q = h.0 in (
        record { kept = rw (q.first, q.id) q.alone; first-size = q.first-size; second-size = q.second-size },
        pieces-told (suc j) (at + piece_size x) xs h.1,
      )

  -- the pieces' points are among those of the boundaries after the cut
  pub piece-points : (j : ℕ) (bs : List Bool) (ws : List (List ℕ)) (xs : List Piece) → AllTold pieces lines j xs → length (picked bs ws) ≡ length xs → length (each (λ l. l) (piece_lines xs)) ≤ boundary_points pieces lines j bs ws
  unfolding AllTold picked each piece_lines boundary_points
  piece-points j bs ws [] h e = omega arith
  piece-points j [] ws (x ∷ xs) h e = absurd (omega (arith, e))
  piece-points j (b ∷ bs) [] (x ∷ xs) h e = absurd (omega (arith, e))
  piece-points j (false ∷ bs) (w ∷ ws) (x ∷ xs) h e = let i = piece-points j bs ws (x ∷ xs) h e in omega (arith, i)
  piece-points j (true ∷ bs) (w ∷ ws) (x ∷ xs) h e =
      let q : length (picked bs ws) ≡ length xs = omega (arith, e) in
      let i = piece-points (suc j) bs ws xs h.1 q in
      omega (arith, i, h.0.first-size, h.0.second-size, length-append x.first_line (x.second_line ++ each (λ l. l) (piece_lines xs)), length-append x.second_line (each (λ l. l) (piece_lines xs)))

  -- as many new rows as ids
  pub rows-many : (j : ℕ) (ws : List (List ℕ)) (xs : List Piece) → AllTold pieces lines j xs → length ws ≡ length xs → length (new_rows pieces lines j ws) ≡ pieces_ids xs
  unfolding AllTold new_rows pieces_ids
  rows-many j [] [] h e = refl
  rows-many j [] (x ∷ xs) h e = absurd (omega (arith, e))
  rows-many j (w ∷ ws) [] h e = absurd (omega (arith, e))
  rows-many j (w ∷ ws) (x ∷ xs) h e =
      let q : length ws ≡ length xs = omega (arith, e) in
      rw h.0.kept (go x.alone (rows-many (suc j) ws xs h.1 q))
    where
      go : (b : Bool) → length (new_rows pieces lines (suc j) ws) ≡ pieces_ids xs
          → length ((cond b [] (first_piece_row pieces lines j w ∷ []) ++ (second_piece_row pieces lines j w ∷ [])) ++ new_rows pieces lines (suc j) ws) ≡ cond b 1 2 + pieces_ids xs
      go true i = omega (arith, i)
      go false i = omega (arith, i)

-- and those of centrelines among those of the lanes
pub center_points : (centers : List ℕ) (r : ℕ) (bs : List Bool) (ws : List (List ℕ)) (ps : List LanePlan) → AllPlans centers r ps → length (picked bs ws) ≡ length ps → length (each (λ l. l) (center_lines_of ps)) ≤ lane_points centers r bs ws
unfolding AllPlans picked each center_lines_of lane_points
center_points centers r bs ws [] h e = omega arith
center_points centers r [] ws (x ∷ ps) h e = absurd (omega (arith, e))
center_points centers r (b ∷ bs) [] (x ∷ ps) h e = absurd (omega (arith, e))
center_points centers r (false ∷ bs) (w ∷ ws) (x ∷ ps) h e = let i = center_points centers r bs ws (x ∷ ps) h e in omega (arith, i)
center_points centers r (true ∷ bs) (w ∷ ws) (x ∷ ps) h e =
    let q : length (picked bs ws) ≡ length ps = omega (arith, e) in
    let i = center_points centers (suc r) bs ws ps h.1 q in
    omega (arith, i, h.0.first-size, h.0.second-size, length-append (points_or x.first_center) (points_or x.second_center ++ each (λ l. l) (center_lines_of ps)), length-append (points_or x.second_center) (each (λ l. l) (center_lines_of ps)))

-- ---- the drawn lines

points-each : (ls : List Line) → points_of ls ≡ length (each (λ l. l) ls)
unfolding total each
points-each [] = refl
points-each (l ∷ ls) = let i = points-each ls in omega (arith, i, length-append l (each (λ l. l) ls))

-- two lists of lines drawn one behind the other, behind a copy of the coordinates
module _ (reach : ℕ) (c work : List Float) (a b : Line) (copied : reach * 3 ≤ length c) (space : (length a + length b) * 3 ≤ length work) where
  abbrev pub drawn : List Float
  drawn = sourced reach c (over (over work 0 (flat a)) (length a * 3) (flat b))

  abbrev rest : List Float
  rest = drop (0 + length (flat a ++ flat b)) work

  drawn-is : drawn ≡ take (reach * 3) c ++ (flat a ++ (flat b ++ rest))
  unfolding over
  drawn-is = ap (λ z. take (reach * 3) c ++ z) (over-over work 0 (length a * 3) (flat a) (flat b) (omega (arith, length-flat a)) (omega arith) ∙ append_assoc (flat a) (flat b) rest)

  front : length (take (reach * 3) c) ≡ reach * 3
  front = length-take-le (reach * 3) c copied

  pub drawn-begins : take (reach * 3) drawn ≡ take (reach * 3) c
  drawn-begins = ap (take (reach * 3)) drawn-is ∙ take_at (take (reach * 3) c) (flat a ++ (flat b ++ rest)) (reach * 3) front

  behind : drop (reach * 3) drawn ≡ flat a ++ (flat b ++ rest)
  behind = ap (drop (reach * 3)) drawn-is ∙ drop_at (take (reach * 3) c) (flat a ++ (flat b ++ rest)) (reach * 3) front

  first_part : part drawn reach (length a) ≡ flat a
  unfolding part
  first_part = ap (take (length a * 3)) behind ∙ take_at (flat a) (flat b ++ rest) (length a * 3) (length-flat a)

  second-part : part drawn (reach + length a) (length b) ≡ flat b
  unfolding part
  second-part =
      let e : (reach + length a) * 3 ≡ reach * 3 + length a * 3 = omega arith in
      ap (λ n. take (length b * 3) (drop n drawn)) e
      ∙ (ap (take (length b * 3)) (sym (drop-drop (length a * 3) (reach * 3) drawn) ∙ (ap (drop (length a * 3)) behind ∙ drop_at (flat a) (flat b ++ rest) (length a * 3) (length-flat a)))
      ∙ take_at (flat b) rest (length b * 3) (length-flat b))

  pub first_runs : (ls : List Line) → each (λ l. l) ls ≡ a → Runs drawn reach ls
  first_runs ls e =
      runs-held drawn reach ls (ap (part drawn reach) (points-each ls ∙ ap length e) ∙ (first_part ∙ ap flat (sym e)))

  pub second_runs : (ls : List Line) → each (λ l. l) ls ≡ b → Runs drawn (reach + length a) ls
  second_runs ls e =
      runs-held drawn (reach + length a) ls (ap (part drawn (reach + length a)) (points-each ls ∙ ap length e) ∙ (second-part ∙ ap flat (sym e)))
