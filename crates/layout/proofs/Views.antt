-- The law that nothing but lines moves: a map laid out anew is the map that it was. Assumes nothing.
use Rattle.std.specs.Prelude.{Option, None, Some}
use mathlib.Core.Path.{◌≡◌, refl, sym, ap, ◌∙◌}
use mathlib.Core.Bool.{Bool, true, false, not, ◌&&◌, cond}
use mathlib.Core.List.{List, [], ◌∷◌, ◌++◌, append-nil}
use Prim.Native.Nat.{ℕ, ◌+◌, ◌-◌, ◌*◌, ◌/◌, ◌≤◌}
use native.Mathlib.Nat.{add-zero, zero-add}
use native.Mathlib.Omega.{arith}
use lib.Dec.{eqb}
use lib.ListN.{length, get_or, set, take, drop}
use lib.Seq.{take_at, drop_at, take-take, drop-drop}
use lib.Ieee.{Float}
use Rattle.lists.specs.Every.{all}
use Rattle.lists.specs.Rows.{over}
use Rattle.lists.specs.Select.{each}
use Rattle.lists.proofs.Every.{all_split}
use Rattle.lists.proofs.Booleans.{and-fst, and-snd}
use Rattle.lists.proofs.Rows.{drop-take}
use Rattle.polyline.specs.Polyline.{points}
use Rattle.entities.specs.Records.{Line, Lane, Boundary, Road, Junction, Rule, StopLine, Crosswalk, Map}
use Rattle.tables.specs.View.{Tables, word, mark, ref_at, option_at, slot_at, ids_at, part, line_at, option_line_at, lane_of, boundary_of, stop_line_of, crosswalk_of, road_of, junction_of, rule_of, rows, view}
use Rattle.tables.specs.Formed.{Span, span_at, spans}
use Rattle.apart.specs.Marks.{within}
use Rattle.layout.specs.Layout.{line_floats, points_in, centerlines, line_of, column_lines, moved, laid_from, gathered, laid_out, pointing, Gatherable, boundary_lines_of, stop_lines_of, left_edges_of, right_edges_of}
use Rattle.layout.proofs.Column.{total-append, laid-append, length-laid}
use Rattle.layout.proofs.Moves.{rows-laid, rights-kept, counted-laid}
use Rattle.layout.proofs.Stages.{spans-columns, counts}

-- ---- lines that lie one after another in c, from `at` on, and are those of w

pub record Held (c w : List Float) (at : ℕ) (ss : List Span) : Type 0 where
  pub fits : all (within (length w / 3)) ss ≡ true
  pub same : part c at (points_in ss) ≡ line_floats w ss

module _ (c w : List Float) where
  -- part by part
  pub held_cut : (at : ℕ) (a b : List Span) → Held c w at (a ++ b) → Held c w at a × Held c w (at + points_in a) b
  unfolding part
  held_cut at a b h =
      let f = within (length w / 3) in
      let g : (all f a && all f b) ≡ true = sym (all_split f a b) ∙ h.fits in
      let fa = and-fst (all f a) (all f b) g in
      let l : length (line_floats w a) ≡ points_in a * 3 = length-laid w a fa in
      let e : take (points_in (a ++ b) * 3) (drop (at * 3) c) ≡ line_floats w a ++ line_floats w b = h.same ∙ laid-append w a b in
      let n : points_in a * 3 ≤ points_in (a ++ b) * 3 = omega (arith, total-append a b) in
      let m : points_in (a ++ b) * 3 - points_in a * 3 ≡ points_in b * 3 = omega (arith, total-append a b) in
      let k : at * 3 + points_in a * 3 ≡ (at + points_in a) * 3 = omega arith in
      let p : take (points_in a * 3) (drop (at * 3) c) ≡ line_floats w a =
      sym (take-take (points_in a * 3) (points_in (a ++ b) * 3) (drop (at * 3) c) n) ∙ ap (take (points_in a * 3)) e ∙ take_at (line_floats w a) (line_floats w b) (points_in a * 3) l in
      let d : drop (points_in a * 3) (take (points_in (a ++ b) * 3) (drop (at * 3) c)) ≡ take (points_in b * 3) (drop ((at + points_in a) * 3) c) =
      drop-take (points_in a * 3) (points_in (a ++ b) * 3) (drop (at * 3) c) ∙ rw (m, drop-drop, k) in
      let q : take (points_in b * 3) (drop ((at + points_in a) * 3) c) ≡ line_floats w b = sym d ∙ ap (drop (points_in a * 3)) e ∙ drop_at (line_floats w a) (line_floats w b) (points_in a * 3) l in
      (record { fits = fa; same = p }, record { fits = and-snd (all f a) (all f b) g; same = q })

  held_one : (at : ℕ) (s : Span) → Held c w at (s ∷ []) → part c at s.size ≡ part w s.start s.size
  unfolding points_in line_floats each
  held_one at s h = rw (add-zero, append-nil) at h.same

  -- ---- rows read from c and from w

  boundary-same : (at : ℕ) (r : List ℕ) → length r ≡ 5 → Held c w at (line_of boundary_lines_of r) → boundary_of c (set r 2 at) ≡ boundary_of w r
  boundary-same at [] l h = absurd (omega arith)
  boundary-same at (x ∷ []) l h = absurd (omega arith)
  boundary-same at (x ∷ y ∷ []) l h = absurd (omega arith)
  boundary-same at (x ∷ y ∷ z ∷ r) l h =
      unfold boundary_of in ap (λ (p : List Float). record { id = x; kind = y; geometry = points p; attributes = get_or r 1 0 }) (held_one at (span_at 2 (x ∷ y ∷ z ∷ r)) h)

  stop-same : (at : ℕ) (r : List ℕ) → length r ≡ 4 → Held c w at (line_of stop_lines_of r) → stop_line_of c (set r 1 at) ≡ stop_line_of w r
  stop-same at [] l h = absurd (omega arith)
  stop-same at (x ∷ []) l h = absurd (omega arith)
  stop-same at (x ∷ y ∷ r) l h =
      unfold stop_line_of in ap (λ (p : List Float). record { id = x; geometry = points p; attributes = get_or r 1 0 }) (held_one at (span_at 1 (x ∷ y ∷ r)) h)

  -- a crosswalk's edges, each from its own coordinates
  abbrev crosswalk_from : List Float → List Float → List ℕ → Crosswalk
  crosswalk_from l r v = record { id = word 0 v; left_edge = line_at l 1 v; right_edge = line_at r 3 v; outline = word 5 v; attributes = word 6 v }

  left-same : (at : ℕ) (r : List ℕ) → length r ≡ 7 → Held c w at (line_of left_edges_of r) → crosswalk_from c w (set r 1 at) ≡ crosswalk_from w w r
  left-same at [] l h = absurd (omega arith)
  left-same at (x ∷ []) l h = absurd (omega arith)
  left-same at (x ∷ y ∷ r) l h =
      ap (λ (p : List Float). record { id = x; left_edge = points p; right_edge = line_at w 1 r; outline = get_or r 3 0; attributes = get_or r 4 0 }) (held_one at (span_at 1 (x ∷ y ∷ r)) h)

  right-same : (at : ℕ) (r : List ℕ) → length r ≡ 7 → Held c w at (line_of right_edges_of r) → crosswalk_from c c (set r 3 at) ≡ crosswalk_from c w r
  right-same at [] l h = absurd (omega arith)
  right-same at (x ∷ []) l h = absurd (omega arith)
  right-same at (x ∷ y ∷ []) l h = absurd (omega arith)
  right-same at (x ∷ y ∷ z ∷ []) l h = absurd (omega arith)
  right-same at (x ∷ y ∷ z ∷ u ∷ r) l h =
      ap (λ (p : List Float). record { id = x; left_edge = points (part c y z); right_edge = points p; outline = get_or r 1 0; attributes = get_or r 2 0 }) (held_one at (span_at 3 (x ∷ y ∷ z ∷ u ∷ r)) h)

  -- a lane with another centreline
  abbrev lane_with : Option Line → List ℕ → Lane
  lane_with o v =
      record {
        id = word 0 v;
        kind = word 1 v;
        left = ref_at 2 v;
        right = ref_at 4 v;
        centerline = o;
        speed_limit = option_at 9 v;
        one_way = mark 11 v;
        turn_direction = word 12 v;
        attributes = word 13 v;
        left_neighbor = slot_at 14 v;
        right_neighbor = slot_at 16 v;
        predecessors = ids_at 18 v;
        successors = ids_at 35 v;
      }

  no_line : (v : List ℕ) → mark 6 v ≡ false → option_line_at c 6 v ≡ option_line_at w 6 v
  no_line v q = rw q

  lane-stays : (v : List ℕ) → mark 6 v ≡ false → lane_of c v ≡ lane_of w v
  unfolding lane_of
  lane-stays v q = ap (λ (o : Option Line). lane_with o v) (no_line v q)

  lane-same : (at : ℕ) (r : List ℕ) → length r ≡ 52 → Held c w at (line_of centerlines r) → lane_of c (moved centerlines at r) ≡ lane_of w r
  lane-same at [] l h = absurd (omega arith)
  lane-same at (a ∷ []) l h = absurd (omega arith)
  lane-same at (a ∷ b ∷ []) l h = absurd (omega arith)
  lane-same at (a ∷ b ∷ d ∷ []) l h = absurd (omega arith)
  lane-same at (a ∷ b ∷ d ∷ e ∷ []) l h = absurd (omega arith)
  lane-same at (a ∷ b ∷ d ∷ e ∷ f ∷ []) l h = absurd (omega arith)
  lane-same at (a ∷ b ∷ d ∷ e ∷ f ∷ g ∷ []) l h = absurd (omega arith)
  lane-same at (a ∷ b ∷ d ∷ e ∷ f ∷ g ∷ m ∷ []) l h = absurd (omega arith)
  lane-same at (a ∷ b ∷ d ∷ e ∷ f ∷ g ∷ m ∷ s ∷ r) l h = go (not (eqb m 0)) refl h
    where
      v : List ℕ
      v = a ∷ b ∷ d ∷ e ∷ f ∷ g ∷ m ∷ s ∷ r

      go : (t : Bool) → not (eqb m 0) ≡ t → Held c w at (cond t (span_at 7 v ∷ []) []) → lane_of c (cond t (set v 7 at) v) ≡ lane_of w v
      go true q k =
          unfold lane_of in ap (λ (p : List Float). lane_with (cond (not (eqb m 0)) (Some (points p)) None) v) (held_one at (span_at 7 v) k)
      go false q k = lane-stays v q

-- ---- the theorem

-- lines laid out are held from point 0 on
pub held-laid : (w c : List Float) (ss : List Span) → all (within (length w / 3)) ss ≡ true → Held (over c 0 (line_floats w ss)) w 0 ss
unfolding part over
held-laid w c ss f = record { fits = f; same = take_at (line_floats w ss) (drop (0 + length (line_floats w ss)) c) (points_in ss * 3) (length-laid w ss f) }

held_as : (c w : List Float) (at : ℕ) (ss us : List Span) → ss ≡ us → Held c w at ss → Held c w at us
held_as c w at ss us e h = rw e at h

same_map : (l l₁ : List Lane) (b b₁ : List Boundary) (d : List Road) (j : List Junction) (r : List Rule) (s s₁ : List StopLine) (x x₁ : List Crosswalk) → l ≡ l₁ → b ≡ b₁ → s ≡ s₁ → x ≡ x₁
    → ◌≡◌ {A = Map} (record { lanes = l; boundaries = b; roads = d; junctions = j; rules = r; stop_lines = s; crosswalks = x })
    (record { lanes = l₁; boundaries = b₁; roads = d; junctions = j; rules = r; stop_lines = s₁; crosswalks = x₁ })
same_map l l₁ b b₁ d j r s s₁ x x₁ p q u v = cc

-- THE THEOREM: nothing but where lines lie changes
pub gathered-view : (w : List Float) (t : Tables) → Gatherable w t → view (gathered w t) ≡ view (pointing w t)
unfolding gathered view crosswalk_of
gathered-view w t g =
    let c = over t.coordinates 0 (line_floats w (spans t)) in
    let n = counts t g.counts in
    let bs = column_lines boundary_lines_of t.boundaries in
    let cs = column_lines centerlines t.lanes in
    let ss = column_lines stop_lines_of t.stop_lines in
    let ls = column_lines left_edges_of t.crosswalks in
    let rs = column_lines right_edges_of t.crosswalks in
    let h0 = held_cut c w 0 bs (cs ++ (ss ++ (ls ++ rs))) (held_as c w 0 (spans t) (bs ++ (cs ++ (ss ++ (ls ++ rs)))) (spans-columns t) (held-laid w t.coordinates (spans t) g.fits)) in
    let b0 : Held c w (points_in bs) (cs ++ (ss ++ (ls ++ rs))) = rw (← zero-add (points_in bs)) h0.1 in
    let h1 = held_cut c w (points_in bs) cs (ss ++ (ls ++ rs)) b0 in
    let h2 = held_cut c w (points_in bs + points_in cs) ss (ls ++ rs) h1.1 in
    let h3 = held_cut c w (points_in bs + points_in cs + points_in ss) ls rs h2.1 in
    let x = laid_from (points_in bs + points_in cs + points_in ss) left_edges_of t.crosswalks in
    let k : Held c w (points_in bs + points_in cs + points_in ss + points_in ls) (column_lines right_edges_of x) = rw (rights-kept 4096 (points_in bs + points_in cs + points_in ss) t.crosswalks n.1.1.1) h3.1 in
    let nx = counted-laid left_edges_of t.crosswalks (points_in bs + points_in cs + points_in ss) 4096 n.1.1.1 in
    let eb = rows-laid boundary_lines_of (Held c w) (held_cut c w) (boundary_of c) (boundary_of w) (boundary-same c w) 4096 0 t.boundaries n.1.0 h0.0 in
    let el = rows-laid centerlines (Held c w) (held_cut c w) (lane_of c) (lane_of w) (lane-same c w) 1024 (points_in bs) t.lanes n.0 h1.0 in
    let es = rows-laid stop_lines_of (Held c w) (held_cut c w) (stop_line_of c) (stop_line_of w) (stop-same c w) 4096 (points_in bs + points_in cs) t.stop_lines n.1.1.0 h2.0 in
    let er = rows-laid right_edges_of (Held c w) (held_cut c w) (crosswalk_from c w c c) (crosswalk_from c w c w) (right-same c w) 4096 (points_in bs + points_in cs + points_in ss + points_in ls) x nx k in
    let ex = rows-laid left_edges_of (Held c w) (held_cut c w) (crosswalk_from c w c w) (crosswalk_from c w w w) (left-same c w) 4096 (points_in bs + points_in cs + points_in ss) t.crosswalks n.1.1.1 h3.0 in
    same_map (rows 52 (lane_of c) (laid_from (points_in bs) centerlines t.lanes)) (rows 52 (lane_of w) t.lanes) (rows 5 (boundary_of c) (laid_from 0 boundary_lines_of t.boundaries)) (rows 5 (boundary_of w) t.boundaries)
    (rows 68 road_of t.roads) (rows 69 junction_of t.junctions) (rows 330 rule_of t.rules)
    (rows 4 (stop_line_of c) (laid_from (points_in bs + points_in cs) stop_lines_of t.stop_lines)) (rows 4 (stop_line_of w) t.stop_lines)
    (rows 7 (crosswalk_of c) (laid_from (points_in bs + points_in cs + points_in ss + points_in ls) right_edges_of x)) (rows 7 (crosswalk_of w) t.crosswalks)
    el eb es (er ∙ ex)

-- and of lines laid out from where they lie
pub laid-out-view : (t : Tables) → Gatherable t.coordinates t → view (laid_out t) ≡ view t
unfolding laid_out
laid-out-view t g = gathered-view t.coordinates t g ∙ pointing-self t
  where
    pointing-self : (u : Tables) → view (pointing u.coordinates u) ≡ view u
    pointing-self u = unfold view in refl
