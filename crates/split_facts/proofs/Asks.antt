-- What the functions that measure a split ask, of a split whose boundaries are marked. Assumes nothing.
use Rattle.std.specs.Prelude.{Option, None, Some}
use Rattle.polyline.specs.declared.NearestPoint.{NearestPoint}
use mathlib.Core.Path.{◌≡◌, refl, sym, ap, ◌∙◌}
use Prim.Native.Nat.{ℕ, suc, ◌+◌, ◌-◌, ◌*◌, ◌/◌, ◌^◌, ◌≤◌, ◌<◌, min}
use native.Mathlib.Omega.{arith}
use mathlib.Core.Bool.{Bool, true, false, not, ◌&&◌, ◌||◌, cond}
use mathlib.Core.List.{List, [], ◌∷◌, map}
use lib.Dec.{leb}
use lib.Ieee.{Float}
use lib.ListN.{length, length-append, length-map, length-replicate, drop, replicate}
use borrow.Author.Tests.{leb-true, le-leb}
use Rattle.lists.specs.Every.{all}
use Rattle.lists.specs.Rows.{over, keys}
use Rattle.lists.specs.Select.{keep, each, ascending}
use Rattle.lists.proofs.Booleans.{and_both, and-fst, and-snd}
use Rattle.lists.proofs.Every.{all_head, all_tail}
use Rattle.lists.proofs.Rows.{length-keys, length_over, length-reads, mapped-reads}
use Rattle.lists.proofs.Select.{all_map, all-weaken}
use Rattle.polyline.specs.Polyline.{points, first_piece, second_piece, nearest_point, line_length}
use Rattle.polyline.proofs.Counts.{length-slice-le}
use Rattle.geometry.specs.Float.{zeroᶠ}
use Rattle.entities.specs.declared.Tolerance.{Tolerance}
use Rattle.entities.specs.Records.{Line}
use Rattle.rules.specs.Names.{Point2}
use Rattle.rules.specs.Sound.{next_id}
use Rattle.tables.specs.View.{Tables, word, part, rows}
use Rattle.tables.specs.Formed.{spans, span_at, stored, counted}
use Rattle.apart.proofs.Marks.{counted-more}
use Rattle.row_tests.specs.Good.{all_rows}
use Rattle.row_tests.proofs.Tables.{table-few}
use Rattle.soundness.proofs.Rows.{rows-and}
use Rattle.lookup.specs.Lookup.{all_stored, all_short, centers_stored}
use Rattle.lookup.proofs.Laws.{part-few, sorted-ascends}
use Rattle.layout.proofs.Reach.{reach-least}
use Rattle.order.specs.Order.{column_of}
use Rattle.group.specs.Walk.{ids_of}
use Rattle.split_plan.specs.Placing.{picked, group_marks, marked_rows}
use Rattle.split_pieces.specs.Pieces as Q
use Rattle.split_lines.specs.Cut.{first_line_of, second_line_of, both_lines, line_in, chosen_lines, drawn_pieces, line_stored, Chosen, Measurable}
use Rattle.split_lines.proofs.Pieces.{first-none, second_none, first_some, second-some}
use Rattle.split_laws.proofs.Chosen.{picked-told, all-picked}
use Rattle.split_laws.proofs.Few.{used-few}
use Rattle.split_rules.specs.Past.{Marking}
use Rattle.split_facts.specs.Splitting.{plans_in, reach_of, Numbered}
use Rattle.split_facts.proofs.Facts.{known, counts, cut_up, many-plans, ids-small}

-- ---- general

pub picked-few : {A : Type 0} (bs : List Bool) (xs : List A) → length (picked bs xs) ≤ length xs
unfolding picked
picked-few [] xs = omega arith
picked-few (b ∷ bs) [] = omega arith
picked-few (true ∷ bs) (x ∷ xs) = omega (arith, picked-few bs xs)
picked-few (false ∷ bs) (x ∷ xs) = omega (arith, picked-few bs xs)

pub picked-map : {A B : Type 0} (f : A → B) (bs : List Bool) (xs : List A) → map f (picked bs xs) ≡ picked bs (map f xs)
unfolding picked
picked-map f [] xs = refl
picked-map f (b ∷ bs) [] = refl
picked-map f (true ∷ bs) (x ∷ xs) = ap (λ z. f x ∷ z) (picked-map f bs xs)
picked-map f (false ∷ bs) (x ∷ xs) = picked-map f bs xs

pub rows-many : (s : ℕ) (t : List ℕ) → length (rows s (λ (w : List ℕ). w) t) ≡ word 0 t
unfolding rows
rows-many s t = length-reads s (λ (w : List ℕ). w) (word 0 t) (drop 1 t)

pub keys-rows : (t : List ℕ) → Q.boundary_keys t ≡ map (word 0) (rows 5 (λ w. w) t)
unfolding keys rows
keys-rows t = sym (mapped-reads 5 (λ (w : List ℕ). w) (word 0) (word 0 t) (drop 1 t))

-- ---- the pieces of a line

-- a piece has at most two points more than its line
pub both-near : (p : Point2) (l : Line) → length l ≤ 256 → (length (first_line_of p l) ≤ 258) × (length (second_line_of p l) ≤ 258)
both-near p l h = go (nearest_point l p) refl
  where
    go : (o : Option NearestPoint) → o ≡ nearest_point l p → (length (first_line_of p l) ≤ 258) × (length (second_line_of p l) ≤ 258)
    go None e = rw (first-none p l None e refl, second_none p l None e refl) (omega arith, omega arith)
    go (Some n) e =
        rw (first_some p l (Some n) e n refl, second-some p l (Some n) e n refl)
        (unfold first_piece second_piece in (omega (arith, length-slice-le l zeroᶠ n.station), omega (arith, length-slice-le l n.station (line_length l))))

pub drawn-near : (p : Point2) (ls : List Line) → all (λ l. leb (length l) 256) ls ≡ true → length (drawn_pieces p ls) ≤ length ls * 516
unfolding drawn_pieces each
drawn-near p [] h = omega arith
drawn-near p (l ∷ ls) h =
    let g = both-near p l (leb-true (length l) 256 (all_head (λ l. leb (length l) 256) l ls h)) in
    let r = drawn-near p ls (all_tail (λ l. leb (length l) 256) l ls h) in
    omega (arith, length-append (both_lines p l) (each (both_lines p) ls), length-append (first_line_of p l) (second_line_of p l), g.0, g.1)

-- the line of a row that is stored has at most 256 points
line-short : (c : List Float) (stride offset : ℕ) (marked : Bool) (w : List ℕ) → line_stored c (column_of stride offset marked) w ≡ true → leb (length (line_in c (column_of stride offset marked) w)) 256 ≡ true
line-short c stride offset marked w h = go ((column_of stride offset marked).has w) h
  where
    go : (b : Bool) → (not b || (stored c (span_at offset w) && leb (word (suc offset) w) 256)) ≡ true → leb (length (cond b (points (part c (word offset w) (word (suc offset) w))) [])) 256 ≡ true
    go true g =
        let l = leb-true (word (suc offset) w) 256 (and-snd (stored c (span_at offset w)) (leb (word (suc offset) w) 256) g) in
        le-leb (length (points (part c (word offset w) (word (suc offset) w)))) 256 (omega (arith, part-few c (word offset w) (word (suc offset) w)))
    go false g = refl

pub lines-short : (c : List Float) (stride offset : ℕ) (marked : Bool) (chosen : List Bool) (t : List ℕ) → all_rows stride (line_stored c (column_of stride offset marked)) t ≡ true
    → all (λ l. leb (length l) 256) (chosen_lines c (column_of stride offset marked) chosen t) ≡ true
unfolding all_rows rows
lines-short c stride offset marked chosen t h =
    let k = column_of stride offset marked in
    let ws = rows stride (λ w. w) t in
    let a : all (line_stored c k) ws ≡ true = sym (all_map (λ b. b) (line_stored c k) ws) ∙ (ap (all (λ b. b)) (mapped-reads stride (λ (w : List ℕ). w) (line_stored c k) (word 0 t) (drop 1 t)) ∙ h) in
    all_map (λ l. leb (length l) 256) (line_in c k) (picked chosen ws)
    ∙ all-weaken (line_stored c k) (λ w. leb (length (line_in c k w)) 256) (picked chosen ws) (λ w g. line-short c stride offset marked w g) (all-picked (line_stored c k) chosen ws a)

-- ---- a split

module _ {tol : Tolerance} {counter : ℕ} {t : Tables} {own : ℕ} {p : Point2} {seen : List Bool} {cut : List ℕ} {stations : List Float} {ids : ℕ} {marks : List Bool}
    (n : Numbered tol counter t own p seen cut stations ids marks) where
  pub rows-room : word 0 t.lanes + length cut ≤ 1024
  rows-room =
      leb-true (word 0 t.lanes + length cut) 1024
      (and-fst (leb (word 0 t.lanes + length cut) 1024) (leb (word 0 t.lanes + length cut) ((length t.lanes - 1) / 52)) n.lanes_fit)

  pub cut_few : length cut ≤ 512
  cut_few = omega (arith, rows-room, n.plan.many, picked-few seen (rows 52 (λ (w : List ℕ). w) t.lanes), rows-many 52 t.lanes)

  -- the marked boundaries pass a test
  pub keys_kept : Q.cut_keys marks t.boundaries ≡ keep (Q.cut_by seen t.lanes) (Q.boundary_keys t.boundaries)
  unfolding over
  keys_kept =
      ap (λ s. picked s (Q.boundary_keys t.boundaries)) n.marked
      ∙ picked-told (Q.cut_by seen t.lanes) (Q.boundary_keys t.boundaries) (drop (0 + length (Q.cut_marks seen t.lanes t.boundaries)) (replicate 4096 false))

  pub boundaries-up : ascending (keys 5 (word 0 t.boundaries) (drop 1 t.boundaries)) ≡ true
  boundaries-up = sorted-ascends 4096 5 t.boundaries (known n.plan).boundaries

  pub keys-few : length (Q.cut_keys marks t.boundaries) ≤ 1024
  keys-few = omega (arith, ap length keys_kept, used-few (marked_rows seen t.lanes) (Q.boundary_keys t.boundaries) boundaries-up, n.plan.many, cut_few)

  -- ---- marks

  pub lanes-few : word 0 t.lanes ≤ 1024
  lanes-few = table-few 1024 52 t.lanes (counts n.plan).lanes

  pub boundaries-few : word 0 t.boundaries ≤ 4096
  boundaries-few = table-few 4096 5 t.boundaries (counts n.plan).boundaries

  pub marks-many : length marks ≡ 4096
  marks-many =
      let l : length (Q.cut_marks seen t.lanes t.boundaries) ≡ word 0 t.boundaries = length-map (Q.boundary_keys t.boundaries) (Q.cut_by seen t.lanes) ∙ length-keys 5 (word 0 t.boundaries) (drop 1 t.boundaries) in
      ap length n.marked ∙ (length_over (replicate 4096 false) 0 (Q.cut_marks seen t.lanes t.boundaries) (omega (arith, boundaries-few, length-replicate 4096 false)) ∙ length-replicate 4096 false)

  pub seen-many : length seen ≡ 1024
  seen-many =
      let g = group_marks t.lanes n.plan.row n.plan.neighbors in
      let l : length g ≡ word 0 t.lanes = length-map (ids_of t.lanes) _ ∙ length-keys 52 (word 0 t.lanes) (drop 1 t.lanes) in
      ap length n.plan.marked ∙ (length_over (replicate 1024 false) 0 g (omega (arith, lanes-few, length-replicate 1024 false)) ∙ length-replicate 1024 false)

  pub countable : Q.Countable t.lanes seen t.boundaries marks
  countable = (((known n.plan).drawable.lanes_are_sorted, ((known n.plan).drawable.boundaries_are_sorted, omega (arith, boundaries-few, marks-many))), omega (arith, lanes-few, seen-many))

  pub ids-fit : next_id counter + Q.ids_of seen t.lanes (Q.cut_keys marks t.boundaries) < 2 ^ 64
  ids-fit = omega (arith, n.counted, ids-small n)

  -- ---- how far lines reach

  reach-all : reach_of t ≤ min 65536 (length t.coordinates / 3)
  unfolding spans
  reach-all = reach-least (min 65536 (length t.coordinates / 3)) (spans t) (known n.plan).parts.store

  pub reach_near : reach_of t ≤ 65536
  reach_near = omega (arith, reach-all)

  pub reach-stored : reach_of t * 3 ≤ length t.coordinates
  reach-stored = omega (arith, reach-all)

  -- ---- lines

  boundary_rows : all_rows 5 (line_stored t.coordinates (column_of 5 2 false)) t.boundaries ≡ true
  unfolding all_stored all_short all_rows
  boundary_rows =
      let q : List ℕ → Bool = λ w. stored t.coordinates (span_at 2 w) in
      let r : List ℕ → Bool = λ w. leb (word 3 w) 256 in
      rows-and 5 q r t.boundaries ∙ and_both (all_rows 5 q t.boundaries) (all_rows 5 r t.boundaries) (known n.plan).boundary_lines (known n.plan).boundary-short

  lane_rows : all_rows 52 (line_stored t.coordinates (column_of 52 7 true)) t.lanes ≡ true
  unfolding centers_stored all_rows
  lane_rows = (known n.plan).drawable.centers_are_stored

  lanes-counted : counted 4096 52 t.lanes ≡ true
  lanes-counted = counted-more 1024 4096 52 t.lanes (omega arith) (counts n.plan).lanes

  pub boundaries-chosen : Chosen t.coordinates 5 2 false marks t.boundaries
  boundaries-chosen =
      record { line = omega arith; row = omega arith; narrow = omega arith; counts = (counts n.plan).boundaries; lines = boundary_rows; marks = omega (arith, boundaries-few, marks-many) }

  pub lanes-chosen : Chosen t.coordinates 52 7 true seen t.lanes
  lanes-chosen = record { line = omega arith; row = omega arith; narrow = omega arith; counts = lanes-counted; lines = lane_rows; marks = omega (arith, lanes-few, seen-many) }

  -- as many as keys
  pub lines-many : length (chosen_lines t.coordinates (column_of 5 2 false) marks t.boundaries) ≡ length (Q.cut_keys marks t.boundaries)
  lines-many =
      let ws = picked marks (rows 5 (λ w. w) t.boundaries) in
      length-map ws (line_in t.coordinates (column_of 5 2 false))
      ∙ sym (ap length (ap (picked marks) (keys-rows t.boundaries) ∙ sym (picked-map (word 0) marks (rows 5 (λ w. w) t.boundaries))) ∙ length-map ws (word 0))

  pub lines-few : length (chosen_lines t.coordinates (column_of 5 2 false) marks t.boundaries) ≤ 1024
  lines-few = omega (arith, lines-many, keys-few)

  pub centers-few : length (chosen_lines t.coordinates (column_of 52 7 true) seen t.lanes) ≡ length cut
  centers-few = length-map (marked_rows seen t.lanes) (line_in t.coordinates (column_of 52 7 true)) ∙ n.plan.many

  -- ---- points

  pub pieces-near : length (drawn_pieces p (chosen_lines t.coordinates (column_of 5 2 false) marks t.boundaries)) ≤ 1024 * 516
  pieces-near = omega (arith, drawn-near p (chosen_lines t.coordinates (column_of 5 2 false) marks t.boundaries) (lines-short t.coordinates 5 2 false marks t.boundaries boundary_rows), lines-few)

  pub centers-near-points : length (drawn_pieces p (chosen_lines t.coordinates (column_of 52 7 true) seen t.lanes)) ≤ 512 * 516
  centers-near-points =
      omega (arith, drawn-near p (chosen_lines t.coordinates (column_of 52 7 true) seen t.lanes) (lines-short t.coordinates 52 7 true seen t.lanes lane_rows), centers-few, cut_few)

  pub pieces_measurable : (out : List ℕ) → length out ≡ 3072 → Measurable t.coordinates 5 2 false marks t.boundaries (reach_of t) out
  pieces_measurable out e = record { table = boundaries-chosen; near = omega (arith, reach_near); room = omega (arith, lines-few) }

  pub centers_measurable : (out : List ℕ) → length out ≡ 1536
      → Measurable t.coordinates 52 7 true seen t.lanes (reach_of t + length (drawn_pieces p (chosen_lines t.coordinates (column_of 5 2 false) marks t.boundaries))) out
  centers_measurable out e = record { table = lanes-chosen; near = omega (arith, reach_near, pieces-near); room = omega (arith, centers-few, cut_few) }

  -- ---- rules

  pub stations_many : length stations ≡ length cut
  stations_many = sym (ap length n.plan.stationed) ∙ (length-map (plans_in t p seen stations) (λ x. x.station) ∙ many-plans n.plan)

  pub rules-marking : (anchored past : List Bool) → length anchored ≡ 512 → length past ≡ 32768
      → Marking t.coordinates t.lanes t.boundaries cut stations t.rules t.stop_lines t.crosswalks anchored past
  rules-marking anchored past e f =
      let l = table-few 512 330 t.rules (counts n.plan).rules in
      record {
        drawable = (known n.plan).drawable;
        crossable = (known n.plan).crossable;
        ascend = cut_up n.plan;
        stationed = omega (arith, stations_many);
        counts = (counts n.plan).rules;
        formed = (known n.plan).parts.rules;
        anchors = omega (arith, l);
        marks = omega (arith, l);
      }
