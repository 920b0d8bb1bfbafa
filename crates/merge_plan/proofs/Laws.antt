-- Rows that are read for a merge: a row's own place, how many points its line has, and document 01's plan of a side by the rows. Assumes nothing.
use Rattle.std.specs.Prelude.{Option, None, Some, Err, Ok}
use Rattle.rules.specs.Names.{Point3}
use mathlib.Core.Path.{◌≡◌, refl, sym, ap, ◌∙◌}
use Prim.Native.Nat.{ℕ, suc, ◌+◌, ◌-◌, ◌*◌, ◌≤◌, ◌<◌}
use native.Mathlib.Omega.{arith}
use mathlib.Core.Bool.{Bool, true, false, not, ◌&&◌, cond}
use mathlib.Core.List.{List, [], ◌∷◌, reverse}
use lib.Dec.{eqb}
use lib.ListN.{length, get_or, drop, length-drop, length-take}
use lib.Seq.{drop-drop}
use lib.Ieee.{Float}
use borrow.Author.Tests.{eqb-true, eqb-false, eq-eqb, ne_eqb}
use Rattle.lists.specs.Rows.{keys}
use Rattle.lists.specs.Select.{same_numbers}
use Rattle.lists.proofs.Booleans.{or_right}
use Rattle.lists.proofs.Rows.{length-keys, get_d_reads, row-at}
use Rattle.polyline.specs.Polyline.{points, first, last, meeting, skipped, concat}
use Rattle.polyline.proofs.Points.{length-points}
use Rattle.polyline.proofs.Lines.{skipped-few, length-concat}
use Rattle.entities.specs.Records.{Line}
use Rattle.rules.specs.Names.{Side, Left, Right, BoundaryRef, BoundaryAbsent}
use Rattle.rules.specs.Map.{boundary, oriented_boundary, first_of, last_of, uses, lanes_using_boundary}
use Rattle.rules.specs.Edit.{Res}
use Rattle.rules.specs.Merge.{SidePlan, kept, joined, joined_lines, side_plan}
use Rattle.tables.specs.View.{word, mark, ref_at, part, rows, lane_of}
use Rattle.tables.specs.Formed.{span_at, stored}
use Rattle.lookup.specs.Lookup.{Drawable, row_at, sorted_table, place_of, all_stored, points_or, side_word, side_line, used_besides}
use Rattle.lookup.proofs.Laws.{sorted-ascends, sorted-row, stored-room, part-few, place-within, word_in, row-passes, length-turned, side-ref, oriented-absent, oriented-there, alone-using}
use Rattle.lookup.proofs.Center.{oriented-few}
use Rattle.merge_plan.specs.Deciding.{SideRows, lane_in, drawn_lanes, side_told, side_plan_in, joined_length, both_alone}
use Rattle.merge_plan.specs.declared.Joined.TheVariants.{Kept, InPlace, Fresh}

-- ---- rows

-- row i is where its own id is found
pub own-place : (limit s : ℕ) (t : List ℕ) → sorted_table limit s t ≡ true → (i : ℕ) → i < word 0 t → place_of s t (word 0 (row_at s t i)) ≡ Some i
unfolding place_of keys
own-place limit s t h i l =
    let k : i < length (keys s (word 0 t) (drop 1 t)) = rw (length-keys s (word 0 t) (drop 1 t)) l in
    let e : get_or (keys s (word 0 t) (drop 1 t)) i 0 ≡ word 0 (row_at s t i) =
    get_d_reads s (λ (r : List ℕ). get_or r 0 0) (word 0 t) i (drop 1 t) 0 l ∙ rw drop-drop in
    row-at (word 0 (row_at s t i)) i (keys s (word 0 t) (drop 1 t)) (sorted-ascends limit s t h) k e

-- its id, as it is read
pub id-read : (s : ℕ) (t : List ℕ) (i : ℕ) → 0 < s → get_or t (1 + i * s) 0 ≡ word 0 (row_at s t i)
id-read s t i h = let e : 1 + i * s ≡ 1 + i * s + 0 = omega arith in ap (λ (n : ℕ). get_or t n 0) e ∙ word_in s t i 0 h

-- boundaries that are each their lane's alone, as it is asked of the lanes' ids
module _ (lanes : List ℕ) (i one j two : ℕ) where
  alone-read : both_alone lanes i one j two ≡ (not (used_besides lanes one (get_or lanes (1 + i * 52) 0)) && not (used_besides lanes two (get_or lanes (1 + j * 52) 0)))
  alone-read =
      let p : 0 < 52 = omega arith in
      rw (id-read 52 lanes i p, id-read 52 lanes j p)

  module _ (r : Bool) (e : r ≡ used_besides lanes one (get_or lanes (1 + i * 52) 0)) where
    pub first-shared : r ≡ true → false ≡ both_alone lanes i one j two
    first-shared t = sym (alone-read ∙ rw (← e, t))

    pub first_alone : r ≡ false → (s : Bool) → s ≡ used_besides lanes two (get_or lanes (1 + j * 52) 0) → not s ≡ both_alone lanes i one j two
    first_alone t s f = sym (alone-read ∙ rw (← e, ← f, t))

-- ---- lines

-- a stored line has the points that its row says
pub stored-long : (c : List Float) (start n : ℕ) → stored c (record { start = start; size = n }) ≡ true → length (points (part c start n)) ≡ n
stored-long c start n h = go (eqb n 0) refl
  where
    go : (b : Bool) → eqb n 0 ≡ b → length (points (part c start n)) ≡ n
    go true e = omega (arith, part-few c start n, eqb-true n 0 e)
    go false e = let r = stored-room c start n h (eqb-false n 0 e) in unfold part in rw (length-points, length-take, length-drop) (omega arith)

module _ (c : List Float) (lanes boundaries : List ℕ) (i : ℕ) (side : Side) (s : all_stored 5 2 c boundaries ≡ true) (x : ℕ)
    (q : place_of 5 boundaries (ref_at (side_word side) (row_at 52 lanes i)).boundary ≡ Some x) where
  abbrev stands : Line
  stands = points (part c (word 2 (row_at 5 boundaries x)) (word 3 (row_at 5 boundaries x)))

  abbrev turned : Bool
  turned = mark (suc (side_word side)) (row_at 52 lanes i)

  side-there : side_line c lanes boundaries i side ≡ Some (cond turned (reverse stands) stands)
  side-there =
      oriented-there c boundaries (row_at 52 lanes i) side (ref_at (side_word side) (row_at 52 lanes i)) refl x q (part c (word 2 (row_at 5 boundaries x)) (word 3 (row_at 5 boundaries x))) refl

  -- a boundary that is present has a line
  pub side-some : side_line c lanes boundaries i side ≡ Some (points_or (side_line c lanes boundaries i side))
  side-some = rw side-there

  -- along the lane it has as many points as its row says
  pub side-long : length (points_or (side_line c lanes boundaries i side)) ≡ get_or boundaries (1 + x * 5 + 3) 0
  unfolding all_stored
  side-long =
      let l : 3 < 5 = omega arith in
      let p = row-passes 5 (λ w. stored c (span_at 2 w)) boundaries s x (place-within 5 boundaries (ref_at (side_word side) (row_at 52 lanes i)).boundary x q) in
      ap (λ o. length (points_or o)) side-there
      ∙ (sym (length-turned turned stands) ∙ (stored-long c (word 2 (row_at 5 boundaries x)) (word 3 (row_at 5 boundaries x)) p ∙ sym (word_in 5 boundaries x 3 l)))

-- ---- joined lines

last-of : (o : Option Line) → last_of o ≡ last (points_or o)
unfolding last
last-of None = refl
last-of (Some l) = refl

first-of : (o : Option Line) → first_of o ≡ first (points_or o)
unfolding first
first-of None = refl
first-of (Some l) = refl

-- two lines of `one` and `two` points that are joined, and the points where they meet
module _ (join : Float) (o p : Option Line) (one two : ℕ) (eo : length (points_or o) ≡ one) (ep : length (points_or p) ≡ two)
    (end start : Option Point3) (ee : end ≡ last_of o) (es : start ≡ first_of p) (m : ℕ) (em : m ≡ meeting join end start) where
  met : m ≡ skipped join (points_or o) (points_or p)
  unfolding skipped
  met = rw (em, ee, es, last-of o, first-of p)

  -- of the second line no more points are dropped than it has
  pub met-few : m ≤ two
  met-few = omega (arith, met, skipped-few join (points_or o) (points_or p))

  pub joined-long : one + two - m ≡ joined_length join o p
  joined-long = omega (arith, met, skipped-few join (points_or o) (points_or p), length-concat join (points_or o) (points_or p))

-- the lines of two boundaries along their lanes
module _ (lanes : List ℕ) (i j : ℕ) (side : Side) (boundaries : List ℕ) (x y : ℕ) (c : List Float) (h : SideRows lanes i j side boundaries x y c) where
  pub first-long : length (points_or (side_line c lanes boundaries i side)) ≡ get_or boundaries (1 + x * 5 + 3) 0
  first-long = side-long c lanes boundaries i side h.drawable.boundaries_stored x h.first_boundary

  pub second-long : length (points_or (side_line c lanes boundaries j side)) ≡ get_or boundaries (1 + y * 5 + 3) 0
  second-long = side-long c lanes boundaries j side h.drawable.boundaries_stored y h.second_boundary

  pub both-few : get_or boundaries (1 + x * 5 + 3) 0 + get_or boundaries (1 + y * 5 + 3) 0 ≤ 512
  both-few =
      omega (
        arith,
        first-long,
        second-long,
        oriented-few c boundaries (row_at 52 lanes i) side h.drawable.boundaries_short,
        oriented-few c boundaries (row_at 52 lanes j) side h.drawable.boundaries_short,
      )

  -- their rows lie within the table
  pub first-row : 1 + x * 5 + 5 ≤ length boundaries
  first-row = sorted-row 4096 5 boundaries h.drawable.boundaries_are_sorted x (place-within 5 boundaries (ref_at (side_word side) (row_at 52 lanes i)).boundary x h.first_boundary)

  pub second-row : 1 + y * 5 + 5 ≤ length boundaries
  second-row = sorted-row 4096 5 boundaries h.drawable.boundaries_are_sorted y (place-within 5 boundaries (ref_at (side_word side) (row_at 52 lanes j)).boundary y h.second_boundary)

-- ---- the plan of a side

module _ (c : List Float) (lanes : List ℕ) (h : sorted_table 1024 52 lanes ≡ true) (i : ℕ) (l : i < word 0 lanes) (side : Side) where
  own-boundary : uses (ref_at (side_word side) (row_at 52 lanes i)).boundary (lane_of c (row_at 52 lanes i)) ≡ true
  own-boundary = go side
    where
      go : (s : Side) → uses (ref_at (side_word s) (row_at 52 lanes i)).boundary (lane_of c (row_at 52 lanes i)) ≡ true
      go Left = unfold lane_of in rw (eq-eqb (word 2 (row_at 52 lanes i)) (word 2 (row_at 52 lanes i)) refl)
      go Right =
          unfold lane_of in
          or_right (eqb (word 2 (row_at 52 lanes i)) (word 4 (row_at 52 lanes i))) (eqb (word 4 (row_at 52 lanes i)) (word 4 (row_at 52 lanes i)))
          (eq-eqb (word 4 (row_at 52 lanes i)) (word 4 (row_at 52 lanes i)) refl)

  -- the rules' test that the lane alone uses its boundary
  pub own_alone : same_numbers (lanes_using_boundary (rows 52 (lane_of c) lanes) (ref_at (side_word side) (row_at 52 lanes i)).boundary) ((lane_in c lanes i).id ∷ [])
      ≡ not (used_besides lanes (ref_at (side_word side) (row_at 52 lanes i)).boundary (word 0 (row_at 52 lanes i)))
  unfolding lane_of
  own_alone = alone-using c lanes h (word 0 (row_at 52 lanes i)) (ref_at (side_word side) (row_at 52 lanes i)).boundary i (own-place 1024 52 lanes h i l) own-boundary

-- the lanes in rows i and j, whose references on a side are ra and rb
module _ (join : Float) (c : List Float) (lanes boundaries : List ℕ) (d : Drawable lanes boundaries c) (i j : ℕ) (l : i < word 0 lanes) (k : j < word 0 lanes) (side : Side)
    (ra rb : BoundaryRef) (ea : ra ≡ ref_at (side_word side) (row_at 52 lanes i)) (eb : rb ≡ ref_at (side_word side) (row_at 52 lanes j)) where
  abbrev one : ℕ
  one = ra.boundary

  abbrev two : ℕ
  two = rb.boundary

  abbrev plan : Res SidePlan
  plan = side_plan_in join c lanes boundaries i j side

  drawn-same : (n : ℕ) → oriented_boundary (drawn_lanes c lanes boundaries) side (lane_in c lanes n) ≡ side_line c lanes boundaries n side
  unfolding oriented_boundary boundary
  drawn-same n = refl

  planned-side : plan ≡ cond (eqb one two) (Ok kept) (joined_lines join (both_alone lanes i one j two) one two (side_line c lanes boundaries i side) (side_line c lanes boundaries j side))
  unfolding side_plan
  planned-side =
      rw (ea, eb, side-ref c (row_at 52 lanes i) side, side-ref c (row_at 52 lanes j) side, drawn-same i, drawn-same j, own_alone c lanes d.lanes_are_sorted i l side, own_alone c lanes d.lanes_are_sorted j k side)

  -- a boundary that both lanes name
  pub side-kept : one ≡ two → Ok Kept ≡ side_told plan
  side-kept e = sym (ap side_told planned-side ∙ rw (eq-eqb one two e))

  module _ (n : one ≡ two → ⊥) where
    pub first_absent : place_of 5 boundaries one ≡ None → Err (BoundaryAbsent one) ≡ side_told plan
    first_absent q = sym (ap side_told planned-side ∙ rw (ne_eqb one two n, oriented-absent c boundaries (row_at 52 lanes i) side ra ea q))

    module _ (x : ℕ) (q : place_of 5 boundaries one ≡ Some x) where
      first_some : side_line c lanes boundaries i side ≡ Some (points_or (side_line c lanes boundaries i side))
      first_some = side-some c lanes boundaries i side d.boundaries_stored x (rw ea at q)

      pub second-absent : place_of 5 boundaries two ≡ None → Err (BoundaryAbsent two) ≡ side_told plan
      second-absent r = sym (ap side_told planned-side ∙ rw (ne_eqb one two n, first_some, oriented-absent c boundaries (row_at 52 lanes j) side rb eb r))

      module _ (y : ℕ) (r : place_of 5 boundaries two ≡ Some y) where
        -- both boundaries are present
        pub side-rows : SideRows lanes i j side boundaries x y c
        side-rows = record { drawable = d; first = l; second = k; first_boundary = rw ea at q; second_boundary = rw eb at r }

        side-joined : plan ≡ Ok (joined (both_alone lanes i one j two) (concat join (points_or (side_line c lanes boundaries i side)) (points_or (side_line c lanes boundaries j side))))
        side-joined = planned-side ∙ rw (ne_eqb one two n, first_some, side-some c lanes boundaries j side d.boundaries_stored y (rw eb at r))

        module _ (m : ℕ) (em : m ≡ joined_length join (side_line c lanes boundaries i side) (side_line c lanes boundaries j side)) (b : Bool) (f : b ≡ both_alone lanes i one j two) where
          pub side_in_place : b ≡ true → Ok (InPlace m) ≡ side_told plan
          side_in_place t = sym (ap side_told side-joined ∙ rw (← f, t, em))

          pub side-fresh : b ≡ false → Ok (Fresh m) ≡ side_told plan
          side-fresh t = sym (ap side_told side-joined ∙ rw (← f, t, em))
