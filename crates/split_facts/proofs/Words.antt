-- The words that are measured and listed of a split are those of document 01's pieces and plans. Assumes nothing.
use Rattle.std.specs.Prelude.{Option, None, Some}
use mathlib.Core.Path.{◌≡◌, refl, sym, ap, ◌∙◌}
use Prim.Native.Nat.{ℕ, zero, suc, ◌+◌, ◌*◌, ◌≤◌, ◌<◌}
use native.Mathlib.Omega.{arith}
use mathlib.Core.Bool.{Bool, true, false, not, ◌||◌, cond}
use mathlib.Core.List.{List, [], ◌∷◌, ◌++◌, map, append_assoc}
use lib.Dec.{eqb, leb, ltb}
use lib.Ieee.{Float}
use lib.ListN.{length, get_or, drop, replicate, length-append, length-map, length-replicate}
use lib.Seq.{get_or-drop, drop-drop}
use borrow.Author.Tests.{eq-eqb, ne_eqb, le-leb, ltb-true, lt-ltb}
use Rattle.lists.specs.Every.{all}
use Rattle.lists.specs.Rows.{over, keys, reads}
use Rattle.lists.specs.Select.{keep, any, each, has, ascending}
use Rattle.lists.proofs.Every.{all_head, all_tail, all_append, all_drop}
use Rattle.lists.proofs.Rows.{length_over, mapped-reads}
use Rattle.lists.proofs.Select.{all_map, all_keep, all-weaken, any-map, map-twice, keep-map, keep_same, ascending-keep}
use Rattle.polyline.specs.Polyline.{first_piece, second_piece, nearest_point}
use Rattle.entities.specs.declared.Tolerance.{Tolerance}
use Rattle.entities.specs.Records.{Line, Lane, Boundary}
use Rattle.rules.specs.Names.{Point2}
use Rattle.rules.specs.Map.{station, uses}
use Rattle.rules.specs.Sound.{next_id}
use Rattle.rules.specs.Split.{LanePlan, Piece, center_piece, piece_of, piece_ids, pieces}
use Rattle.tables.specs.View.{Tables, word, mark, line_at, rows, lane_of, boundary_of, view}
use Rattle.order.specs.Order.{column_of}
use Rattle.lookup.specs.Lookup.{points_or}
use Rattle.split_plan.specs.Placing.{picked, marked_rows, plan_of, plans_of}
use Rattle.split_pieces.specs.Pieces as Q
use Rattle.split_lines.specs.Cut.{piece_at, first_line_of, second_line_of, both_lines, line_in, measured, drawn_pieces}
use Rattle.split_lines.proofs.Pieces.{first-none, second_none}
use Rattle.split_relay.specs.Relaying.{Cutting, boundary_lines_of, center_lines_of}
use Rattle.split_laws.proofs.Chosen.{picked-told}
use Rattle.split_laws.proofs.Pieces.{ids_in, pieces-rows}
use Rattle.split_anchors.proofs.Sides as S
use Rattle.split_laid.proofs.Boundaries.{piece_size, AllWords}
use Rattle.split_laid.proofs.Lies.{piece_lines, StartsAt}
use Rattle.split_laid.proofs.Lies as L
use Rattle.split_limits.proofs.Centers.{AllPlans}
use Rattle.split_facts.specs.Splitting.{lanes_in, plans_in, pieces_in, Planned, Measured}
use Rattle.split_facts.proofs.Facts.{pieces-same, accepted}
use Rattle.split_facts.proofs.Asks as A

-- ---- rows of three words

-- row j of those that lie from there on
module _ (w : List ℕ) (j x y z : ℕ) (r : List ℕ) (e : drop (j * 3) w ≡ x ∷ y ∷ z ∷ r) where
  at_row : (i : ℕ) → word (j * 3 + i) w ≡ get_or (x ∷ y ∷ z ∷ r) i 0
  at_row i = sym (get_or-drop (j * 3) w i 0) ∙ ap (λ l. get_or l i 0) e

  row_first : word (j * 3) w ≡ x
  row_first = let q : j * 3 + 0 ≡ j * 3 = omega arith in rw q at (at_row 0)

  row-second : word (j * 3 + 1) w ≡ y
  row-second = at_row 1

  row-third : word (j * 3 + 2) w ≡ z
  row-third = at_row 2

  row-rest : drop (suc j * 3) w ≡ r
  row-rest =
      let q : suc j * 3 ≡ j * 3 + 3 = omega arith in
      ap (λ n. drop n w) q ∙ (sym (drop-drop 3 (j * 3) w) ∙ ap (drop 3) e)

-- ---- pieces

-- what is known of one
record Made (p : Point2) (x : Piece) : Type 0 where
  first : x.first_line ≡ first_line_of p x.of.geometry
  second : x.second_line ≡ second_line_of p x.of.geometry
  alone : eqb x.first x.of.id ≡ x.alone

unfoldable AllMade : Point2 → List Piece → Type 0
AllMade p [] = ◌≡◌ {A = ℕ} 0 0
AllMade p (x ∷ xs) = Made p x × AllMade p xs

module _ (group : List ℕ) (ls : List Lane) (p : Point2) where
  one-made : (next : ℕ) (b : Boundary) → b.id < next → Made p (piece_of group ls p next b)
  one-made next b h = rw (S.piece_is group ls p next b) (go (all (λ l. not (uses b.id l) || has l.id group) ls))
    where
      go : (a : Bool) → Made p (record { of = b; alone = a; first = cond a b.id next; second = cond a next (suc next); first_line = first_line_of p b.geometry; second_line = second_line_of p b.geometry })
      go true = record { first = refl; second = refl; alone = eq-eqb b.id b.id refl }
      go false = record { first = refl; second = refl; alone = ne_eqb next b.id (λ q. omega arith) }

  all_made : (next : ℕ) (bs : List Boundary) → all (λ b. ltb b.id next) bs ≡ true → AllMade p (pieces group ls p next bs)
  unfolding AllMade pieces
  all_made next [] h = refl
  all_made next (b ∷ bs) h =
      let f : Boundary → Bool = λ b. ltb b.id next in
      let more = next + piece_ids (piece_of group ls p next b) in (
        one-made next b (ltb-true b.id next (all_head f b bs h)),
        all_made more bs (all-weaken f (λ b. ltb b.id more) bs (λ c g. let l = ltb-true c.id next g in lt-ltb c.id more (omega arith)) (all_tail f b bs h)),
      )

module _ (p : Point2) (ids lines : List ℕ) where
  words_of : (j at : ℕ) (xs : List Piece) (r s : List ℕ) → AllMade p xs → drop (j * 3) ids ≡ each (λ r. r) (map ids_in xs) ++ r
      → drop (j * 3) lines ≡ measured p at (map (λ x. x.of.geometry) xs) ++ s → AllWords ids lines j at xs
  unfolding AllMade AllWords measured each
  words_of j at [] r s m e f = refl
  words_of j at (x ∷ xs) r s m e f =
      let l = x.of.geometry in
      let q : at + length (both_lines p l) ≡ at + piece_size x = omega (arith, length-append (first_line_of p l) (second_line_of p l), ap length m.0.first, ap length m.0.second) in
      let ri = each (λ r. r) (map ids_in xs) ++ r in
      let rl = measured p (at + length (both_lines p l)) (map (λ x. x.of.geometry) xs) ++ s in (
        record {
          id = row_first ids j x.of.id x.first x.second ri e;
          first = row-second ids j x.of.id x.first x.second ri e;
          second = row-third ids j x.of.id x.first x.second ri e;
          start = row_first lines j at (length (first_line_of p l)) (length (second_line_of p l)) rl f;
          first-size = row-second lines j at (length (first_line_of p l)) (length (second_line_of p l)) rl f ∙ ap length (sym m.0.first);
          second-size = row-third lines j at (length (first_line_of p l)) (length (second_line_of p l)) rl f ∙ ap length (sym m.0.second);
          alone = m.0.alone;
        },
        words_of (suc j) (at + piece_size x) xs r s m.1 (row-rest ids j x.of.id x.first x.second ri e)
            (row-rest lines j at (length (first_line_of p l)) (length (second_line_of p l)) rl f ∙ ap (λ n. measured p n (map (λ x. x.of.geometry) xs) ++ s) q),
      )

keys_of : (xs : List Piece) (r : List ℕ) → keys 3 (length xs) (each (λ r. r) (map ids_in xs) ++ r) ≡ map (λ x. x.of.id) xs
unfolding keys reads each
keys_of [] r = refl
keys_of (x ∷ xs) r = ap (λ l. x.of.id ∷ l) (keys_of xs r)

lines_of : (p : Point2) (xs : List Piece) → AllMade p xs → each (λ l. l) (piece_lines xs) ≡ drawn_pieces p (map (λ x. x.of.geometry) xs)
unfolding AllMade piece_lines drawn_pieces each
lines_of p [] m = refl
lines_of p (x ∷ xs) m = rw (lines_of p xs m.1, m.0.first, m.0.second) (sym (append_assoc (first_line_of p x.of.geometry) (second_line_of p x.of.geometry) (each (both_lines p) (map (λ x. x.of.geometry) xs))))

-- ---- centrelines

empty-first : (p : Point2) → first_line_of p [] ≡ []
empty-first p = first-none p [] None (unfold nearest_point in refl) refl

empty-second : (p : Point2) → second_line_of p [] ≡ []
empty-second p = second_none p [] None (unfold nearest_point in refl) refl

-- a lane's, cut as its row's line is
center_first : (p : Point2) (b : Bool) (l : Line) → points_or (center_piece first_piece (cond b (Some l) None) p) ≡ first_line_of p (cond b l [])
center_first p false l = sym (empty-first p)
center_first p true l = go (station l p)
  where
    go : (o : Option Float) → points_or (elim o [ None ↦ None | Some s ↦ Some (first_piece l s) ]) ≡ piece_at first_piece l o
    go None = refl
    go (Some s) = refl

center_second : (p : Point2) (b : Bool) (l : Line) → points_or (center_piece second_piece (cond b (Some l) None) p) ≡ second_line_of p (cond b l [])
center_second p false l = sym (empty-second p)
center_second p true l = go (station l p)
  where
    go : (o : Option Float) → points_or (elim o [ None ↦ None | Some s ↦ Some (second_piece l s) ]) ≡ piece_at second_piece l o
    go None = refl
    go (Some s) = refl

module _ (c : List Float) (p : Point2) where
  abbrev line : List ℕ → Line
  line w = line_in c (column_of 52 7 true) w

  plan-first : (w : List ℕ) (s : Float) → points_or (plan_of p (lane_of c w) s).first_center ≡ first_line_of p (line w)
  unfolding lane_of
  plan-first w s = center_first p (mark 6 w) (line_at c 7 w)

  plan-second : (w : List ℕ) (s : Float) → points_or (plan_of p (lane_of c w) s).second_center ≡ second_line_of p (line w)
  unfolding lane_of
  plan-second w s = center_second p (mark 6 w) (line_at c 7 w)

  module _ (centers : List ℕ) where
    plans-of : (r at : ℕ) (ws : List (List ℕ)) (ss : List Float) (rest : List ℕ) → drop (r * 3) centers ≡ measured p at (map line ws) ++ rest
        → AllPlans centers r (plans_of c p ws ss) × StartsAt centers r at (plans_of c p ws ss)
    unfolding plans_of measured AllPlans StartsAt
    plans-of r at [] ss rest e = (refl, refl)
    plans-of r at (w ∷ ws) [] rest e = (refl, refl)
    plans-of r at (w ∷ ws) (s ∷ ss) rest e =
        let l = line w in
        let x = plan_of p (lane_of c w) s in
        let m = measured p (at + length (both_lines p l)) (map line ws) ++ rest in
        let q : at + length (both_lines p l) ≡ at + length (points_or x.first_center) + length (points_or x.second_center) =
        omega (arith, length-append (first_line_of p l) (second_line_of p l), ap length (plan-first w s), ap length (plan-second w s)) in
        let f : word (r * 3 + 1) centers ≡ length (points_or x.first_center) = row-second centers r at (length (first_line_of p l)) (length (second_line_of p l)) m e ∙ ap length (sym (plan-first w s)) in
        let more = plans-of (suc r) (at + length (points_or x.first_center) + length (points_or x.second_center)) ws ss rest
        (row-rest centers r at (length (first_line_of p l)) (length (second_line_of p l)) m e ∙ ap (λ n. measured p n (map line ws) ++ rest) q) in (
          (
            record { first-size = f; second-size = row-third centers r at (length (first_line_of p l)) (length (second_line_of p l)) m e ∙ ap length (sym (plan-second w s)) },
            more.0,
          ),
          (row_first centers r at (length (first_line_of p l)) (length (second_line_of p l)) m e, (f, more.1)),
        )

  centers-of : (ws : List (List ℕ)) (ss : List Float) → length ws ≡ length ss → each (λ l. l) (L.center_lines_of (plans_of c p ws ss)) ≡ drawn_pieces p (map line ws)
  unfolding plans_of L.center_lines_of drawn_pieces each
  centers-of [] ss h = refl
  centers-of (w ∷ ws) [] h = absurd (omega arith)
  centers-of (w ∷ ws) (s ∷ ss) h =
      rw (centers-of ws ss (omega arith), plan-first w s, plan-second w s) (sym (append_assoc (first_line_of p (line w)) (second_line_of p (line w)) (each (both_lines p) (map line ws))))

-- ---- numbers that are near

zeros-near : (n : ℕ) → all (λ i. leb i 4194304) (replicate n 0) ≡ true
unfolding all
zeros-near zero = refl
zeros-near (suc n) = zeros-near n

measured-near : (p : Point2) (at : ℕ) (ls : List Line) → at + length (drawn_pieces p ls) ≤ 4194304 → all (λ i. leb i 4194304) (measured p at ls) ≡ true
unfolding measured drawn_pieces each all
measured-near p at [] h = refl
measured-near p at (l ∷ ls) h =
    let e = length-append (first_line_of p l) (second_line_of p l) in
    let f = length-append (both_lines p l) (each (both_lines p) ls) in
    rw (le-leb at 4194304 (omega arith), le-leb (length (first_line_of p l)) 4194304 (omega arith), le-leb (length (second_line_of p l)) 4194304 (omega arith)) (measured-near p (at + length (both_lines p l)) ls (omega arith))

over-near : (n : ℕ) (l : List ℕ) → all (λ i. leb i 4194304) l ≡ true → all (λ i. leb i 4194304) (over (replicate n 0) 0 l) ≡ true
unfolding over
over-near n l h = all_append (λ i. leb i 4194304) l (drop (0 + length l) (replicate n 0)) h (all_drop (λ i. leb i 4194304) (0 + length l) (replicate n 0) (zeros-near n))

measured-many : (p : Point2) (at : ℕ) (ls : List Line) → length (measured p at ls) ≡ length ls * 3
unfolding measured
measured-many p at [] = refl
measured-many p at (l ∷ ls) = let e = measured-many p (at + length (both_lines p l)) ls in omega (arith, e)

filled : {w : List ℕ} (n : ℕ) (l : List ℕ) → w ≡ over (replicate n 0) 0 l → length l ≤ n → length w ≡ n
filled n l e q =
    let z : length (replicate {A = ℕ} n 0) ≡ n = length-replicate {A = ℕ} n 0 in
    ap length e ∙ (length_over (replicate n 0) 0 l (omega arith) ∙ z)

ids-many : (xs : List Piece) → length (each (λ r. r) (map ids_in xs)) ≡ length xs * 3
unfolding each
ids-many [] = refl
ids-many (x ∷ xs) = let e = ids-many xs in omega (arith, e)

-- ---- a split

module _ {tol : Tolerance} {counter : ℕ} {t : Tables} {own : ℕ} {stations : List Float} {ids : ℕ} {k : Cutting} (h : Measured tol counter t own stations ids k) where
  abbrev plan : Planned tol counter t own k.point k.seen k.cut stations
  plan = h.number.plan

  abbrev xs : List Piece
  xs = pieces_in counter t k.point k.seen k.cut

  abbrev ps : List LanePlan
  ps = plans_in t k.point k.seen stations

  abbrev marked : List (List ℕ)
  marked = picked k.marks (rows 5 (λ w. w) t.boundaries)

  -- ---- boundaries

  -- those of document 01
  abbrev cutting : List Boundary
  cutting = keep (λ b. any (uses b.id) (lanes_in t k.seen)) (view t).boundaries

  cut_by_lem : (i : ℕ) → Q.cut_by k.seen t.lanes i ≡ any (uses i) (lanes_in t k.seen)
  unfolding lane_of
  cut_by_lem i = sym (any-map (uses i) (lane_of t.coordinates) (marked_rows k.seen t.lanes))

  rows-kept : picked k.marks (rows 5 (λ w. w) t.boundaries) ≡ keep (λ w. Q.cut_by k.seen t.lanes (word 0 w)) (rows 5 (λ w. w) t.boundaries)
  unfolding over
  rows-kept =
      let q : List ℕ → Bool = λ w. Q.cut_by k.seen t.lanes (word 0 w) in
      let ws = rows 5 (λ w. w) t.boundaries in
      let e : Q.cut_marks k.seen t.lanes t.boundaries ≡ map q ws = ap (map (Q.cut_by k.seen t.lanes)) (A.keys-rows t.boundaries) ∙ map-twice (word 0) (Q.cut_by k.seen t.lanes) ws in
      ap (λ s. picked s ws) (h.number.marked ∙ ap (over (replicate 4096 false) 0) e) ∙ picked-told q ws (drop (0 + length (map q ws)) (replicate 4096 false))

  own-boundaries : map (boundary_of t.coordinates) (rows 5 (λ w. w) t.boundaries) ≡ (view t).boundaries
  unfolding view rows
  own-boundaries = mapped-reads 5 (λ (w : List ℕ). w) (boundary_of t.coordinates) (word 0 t.boundaries) (drop 1 t.boundaries)

  kept-boundaries : map (boundary_of t.coordinates) (picked k.marks (rows 5 (λ w. w) t.boundaries)) ≡ cutting
  unfolding boundary_of
  kept-boundaries =
      let f = boundary_of t.coordinates in
      let ws = rows 5 (λ w. w) t.boundaries in
      ap (map f) rows-kept
      ∙ (sym (keep-map (λ (b : Boundary). Q.cut_by k.seen t.lanes b.id) f ws)
      ∙ (ap (keep (λ (b : Boundary). Q.cut_by k.seen t.lanes b.id)) own-boundaries
      ∙ keep_same (λ (b : Boundary). Q.cut_by k.seen t.lanes b.id) (λ b. any (uses b.id) (lanes_in t k.seen)) (view t).boundaries (λ b. cut_by_lem b.id)))

  pieces-all : map (λ x. x.of) (pieces_in counter t k.point k.seen k.cut) ≡ cutting
  pieces-all = S.pieces_of k.cut (view t).lanes k.point (next_id counter) cutting

  pub pieces_of : map (boundary_of t.coordinates) (picked k.marks (rows 5 (λ w. w) t.boundaries)) ≡ map (λ x. x.of) (pieces_in counter t k.point k.seen k.cut)
  pieces_of = kept-boundaries ∙ sym pieces-all

  -- their ids, as they are listed
  pub keys-are : Q.cut_keys k.marks t.boundaries ≡ map (λ x. x.of.id) (pieces_in counter t k.point k.seen k.cut)
  unfolding boundary_of
  keys-are =
      ap (picked k.marks) (A.keys-rows t.boundaries)
      ∙ (sym (A.picked-map (word 0) k.marks (rows 5 (λ w. w) t.boundaries))
      ∙ (sym (map-twice (boundary_of t.coordinates) (λ (b : Boundary). b.id) marked)
      ∙ (ap (map (λ (b : Boundary). b.id)) pieces_of ∙ map-twice (λ (x : Piece). x.of) (λ (b : Boundary). b.id) xs)))

  pub many_is : k.many ≡ length (pieces_in counter t k.point k.seen k.cut)
  many_is = h.many ∙ (ap length keys-are ∙ length-map xs (λ (x : Piece). x.of.id))

  pub pieces-few : length (pieces_in counter t k.point k.seen k.cut) ≤ 1024
  pieces-few = omega (arith, many_is, h.many, A.keys-few h.number)

  -- their lines
  pub lines_are : boundary_lines_of k t ≡ map (λ x. x.of.geometry) (pieces_in counter t k.point k.seen k.cut)
  unfolding boundary_of
  lines_are =
      sym (map-twice (boundary_of t.coordinates) (λ (b : Boundary). b.geometry) marked)
      ∙ (ap (map (λ (b : Boundary). b.geometry)) pieces_of ∙ map-twice (λ (x : Piece). x.of) (λ (b : Boundary). b.geometry) xs)

  made : AllMade k.point (pieces_in counter t k.point k.seen k.cut)
  made =
      all_made k.cut (view t).lanes k.point (next_id counter) cutting
      (all_keep (λ b. ltb b.id (next_id counter)) (λ b. any (uses b.id) (lanes_in t k.seen)) (view t).boundaries
      (sym (all_map (λ i. ltb i (next_id counter)) (λ (b : Boundary). b.id) (view t).boundaries) ∙ (accepted h.number).lines.fresh))

  -- ---- their words

  rows_are : map ids_in (pieces_in counter t k.point k.seen k.cut) ≡ Q.piece_rows k.seen t.lanes (next_id counter) (Q.cut_keys k.marks t.boundaries)
  rows_are =
      ap (map ids_in) (pieces-same plan)
      ∙ pieces-rows t own plan.row plan.there plan.neighbors (replicate 1024 false) k.seen plan.marked (replicate 4096 false) k.marks h.number.marked k.point (next_id counter)

  pieces_are : k.pieces ≡ over (replicate 3072 0) 0 (each (λ r. r) (map ids_in (pieces_in counter t k.point k.seen k.cut)))
  pieces_are = h.pieces ∙ ap (λ rs. over (replicate 3072 0) 0 (each (λ r. r) rs)) (sym rows_are)

  pieces-rest : k.pieces ≡ each (λ r. r) (map ids_in (pieces_in counter t k.point k.seen k.cut)) ++ drop (length (each (λ r. r) (map ids_in xs))) (replicate 3072 0)
  unfolding over
  pieces-rest = let z : 0 + length (each (λ r. r) (map ids_in xs)) ≡ length (each (λ r. r) (map ids_in xs)) = omega arith in pieces_are ∙ rw z

  lines_rest : k.lines ≡ measured k.point k.reach (map (λ x. x.of.geometry) xs) ++ drop (0 + length (measured k.point k.reach (map (λ x. x.of.geometry) xs))) (replicate 3072 0)
  unfolding over
  lines_rest = h.lines ∙ ap (λ ls. over (replicate 3072 0) 0 (measured k.point k.reach ls)) lines_are

  pub piece-words : AllWords k.pieces k.lines 0 k.reach (pieces_in counter t k.point k.seen k.cut)
  piece-words = words_of k.point k.pieces k.lines 0 k.reach xs _ _ made pieces-rest lines_rest

  pub piece-keys : keys 3 k.many k.pieces ≡ map (λ x. x.of.id) (pieces_in counter t k.point k.seen k.cut)
  piece-keys = both (drop (length (each (λ r. r) (map ids_in xs))) (replicate 3072 0)) many_is pieces-rest
    where
      both : (r : List ℕ) {m : ℕ} {w : List ℕ} → m ≡ length xs → w ≡ each (λ r. r) (map ids_in xs) ++ r → keys 3 m w ≡ map (λ x. x.of.id) xs
      both r e f = rw (e, f) (keys_of xs r)

  pub keys-up : ascending (keys 3 k.many k.pieces) ≡ true
  keys-up =
      ap ascending (piece-keys ∙ (sym keys-are ∙ A.keys_kept h.number))
      ∙ ascending-keep (Q.cut_by k.seen t.lanes) (Q.boundary_keys t.boundaries) (A.boundaries-up h.number)

  pub piece-lines : each (λ l. l) (piece_lines (pieces_in counter t k.point k.seen k.cut)) ≡ drawn_pieces k.point (boundary_lines_of k t)
  piece-lines = lines_of k.point xs made ∙ ap (drawn_pieces k.point) (sym lines_are)

  -- ---- centrelines

  abbrev begin : ℕ
  begin = k.reach + length (drawn_pieces k.point (boundary_lines_of k t))

  centers-rest : k.centers ≡ measured k.point begin (center_lines_of k t) ++ drop (0 + length (measured k.point begin (center_lines_of k t))) (replicate 1536 0)
  unfolding over
  centers-rest = h.centers

  both_told : AllPlans k.centers 0 (plans_in t k.point k.seen stations) × StartsAt k.centers 0 begin (plans_in t k.point k.seen stations)
  both_told = plans-of t.coordinates k.point k.centers 0 begin (marked_rows k.seen t.lanes) stations _ centers-rest

  pub plans-told : AllPlans k.centers 0 (plans_in t k.point k.seen stations)
  plans-told = both_told.0

  pub starts-at : StartsAt k.centers 0 (k.reach + length (drawn_pieces k.point (boundary_lines_of k t))) (plans_in t k.point k.seen stations)
  starts-at = both_told.1

  pub center_lines : each (λ l. l) (L.center_lines_of (plans_in t k.point k.seen stations)) ≡ drawn_pieces k.point (center_lines_of k t)
  center_lines = centers-of t.coordinates k.point (marked_rows k.seen t.lanes) stations (plan.many ∙ sym (A.stations_many h.number))

  -- ---- near, and room

  pub reach_few : k.reach ≤ 65536
  reach_few = rw h.reach (A.reach_near h.number)

  pub lines_near : all (λ i. leb i 4194304) k.lines ≡ true
  lines_near =
      let m = measured k.point k.reach (boundary_lines_of k t) in
      ap (all (λ i. leb i 4194304)) h.lines ∙ over-near 3072 m (measured-near k.point k.reach (boundary_lines_of k t) (omega (arith, reach_few, A.pieces-near h.number)))

  pub centers_near : all (λ i. leb i 4194304) k.centers ≡ true
  centers_near =
      let m = measured k.point begin (center_lines_of k t) in
      ap (all (λ i. leb i 4194304)) h.centers
      ∙ over-near 1536 m (measured-near k.point begin (center_lines_of k t) (omega (arith, reach_few, A.pieces-near h.number, A.centers-near-points h.number)))

  pub pieces-long : length k.pieces ≡ 3072
  pieces-long = filled 3072 (each (λ r. r) (map ids_in xs)) pieces_are (omega (arith, ids-many xs, pieces-few))

  pub lines_long : length k.lines ≡ 3072
  lines_long =
      filled 3072 (measured k.point k.reach (boundary_lines_of k t)) h.lines (omega (arith, measured-many k.point k.reach (boundary_lines_of k t), A.lines-few h.number))

  pub centers-long : length k.centers ≡ 1536
  centers-long =
      filled 1536 (measured k.point begin (center_lines_of k t)) h.centers (omega (arith, measured-many k.point begin (center_lines_of k t), A.centers-few h.number, A.cut_few h.number))

  pub pieces_room : k.many * 3 ≤ length k.pieces
  pieces_room = omega (arith, pieces-long, many_is, pieces-few)

  pub lines_room : k.many * 3 ≤ length k.lines
  lines_room = omega (arith, lines_long, many_is, pieces-few)

  pub centers_room : length k.cut * 3 ≤ length k.centers
  centers_room = omega (arith, centers-long, A.cut_few h.number)
