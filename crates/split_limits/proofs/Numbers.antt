-- The room test of a split in numbers is the room test of the map after it. Assumes nothing.
use mathlib.Core.Path.{◌≡◌, refl, ap, ◌∙◌}
use Prim.Native.Nat.{ℕ, ◌+◌, ◌≤◌, ◌<◌}
use mathlib.Core.Bool.{Bool, true, false, ◌&&◌}
use mathlib.Core.List.{List, map}
use lib.Dec.{leb}
use lib.Ieee.{Float}
use lib.ListN.{length, get_or, drop}
use Rattle.lists.specs.Every.{all}
use Rattle.lists.specs.Rows.{keys}
use Rattle.lists.specs.Select.{each, ascending}
use Rattle.lists.proofs.Rows.{length-reads}
use Rattle.lists.proofs.Select.{all_map}
use Rattle.entities.specs.Records.{Line, Boundary, Map}
use Rattle.rules.specs.Names.{Tolerance}
use Rattle.rules.specs.Map.{rule_anchor}
use Rattle.rules.specs.Sound as S
use Rattle.rules.specs.Sound.{fits_room, within_limits, point_count, optional_line, id_lists}
use Rattle.rules.specs.Split.{LanePlan, Piece, halves, pieces_ids, cut_map, cut}
use Rattle.laws.proofs.TurnsRows.{calm, rules_in_turns}
use Rattle.tables.specs.View.{Tables, word, rows, view, lane_of, boundary_of, rule_of}
use Rattle.tables.specs.Formed.{span_at, stored, counted, rule_formed}
use Rattle.store.specs.Store.{room_of}
use Rattle.row_tests.specs.Good.{all_rows}
use Rattle.lookup.specs.Lookup.{row_at, centers_stored}
use Rattle.room.specs.Room.{rows_fit, points_fit}
use Rattle.split_plan.specs.Placing.{picked}
use Rattle.split_room.specs.Fitting.{pieces_fit, points_after, list_fits, rules_fit}
use Rattle.split_named.proofs.Words.{is_some, cut_ids, below}
use Rattle.split_limits.proofs.Links.{few, up}
use Rattle.split_limits.proofs.Lists.{roads-fit, junctions-fit, rules-fit}
use Rattle.split_limits.proofs.Boundaries.{AllTold, points-cut, lines_cut}
use Rattle.split_limits.proofs.Centers.{AllPlans, centers-cut, center_lines-cut}
use Rattle.split_limits.proofs.Points.{points-all, lines-all}
use Rattle.split_limits.proofs.Whole.{fits-split}

-- the map after the cut, but for roads, junctions and rules
abbrev pub cut_of : Tables → ℕ → List LanePlan → List Piece → Map
cut_of t start ps xs = cut_map (view t) ps xs (halves (start + pieces_ids xs) ps) (start + pieces_ids xs)

-- what is known of sound tables and of the words in which a split is planned
pub record Told (t : Tables) (start : ℕ) (ps : List LanePlan) (xs : List Piece) (pieces lines centers : List ℕ) (marks seen anchored : List Bool) : Type 0 where
  pub limits : within_limits (view t) ≡ true
  pub linked : all (λ l. few l && up l) (view t).lanes ≡ true
  pub planned : all (λ x. few x.of && up x.of) ps ≡ true
  pub cuts : ascending (cut_ids ps) ≡ true
  pub new : below (start + pieces_ids xs) (cut_ids ps)
  pub boundaries-up : ascending (keys 5 (word 0 t.boundaries) (drop 1 t.boundaries)) ≡ true
  pub marked : word 0 t.boundaries ≤ length marks
  pub boundaries_are_cut : map (boundary_of t.coordinates) (picked marks (rows 5 (λ w. w) t.boundaries)) ≡ map (λ x. x.of) xs
  pub boundaries-told : AllTold pieces lines 0 xs
  pub boundaries_stored : all (λ b. b) (rows 5 (λ w. stored t.coordinates (span_at 2 w)) t.boundaries) ≡ true
  pub boundaries_short : all (λ b. leb (length b.geometry) 256) (view t).boundaries ≡ true
  pub lanes-up : ascending (keys 52 (word 0 t.lanes) (drop 1 t.lanes)) ≡ true
  pub lanes-seen : word 0 t.lanes ≤ length seen
  pub lanes_are_cut : map (lane_of t.coordinates) (picked seen (rows 52 (λ w. w) t.lanes)) ≡ map (λ x. x.of) ps
  pub lanes-told : AllPlans centers 0 ps
  pub centers_are_stored : centers_stored t.coordinates t.lanes ≡ true
  pub stops_stored : all (λ b. b) (rows 4 (λ w. stored t.coordinates (span_at 1 w)) t.stop_lines) ≡ true
  pub lefts_stored : all (λ b. b) (rows 7 (λ w. stored t.coordinates (span_at 1 w)) t.crosswalks) ≡ true
  pub rights_stored : all (λ b. b) (rows 7 (λ w. stored t.coordinates (span_at 3 w)) t.crosswalks) ≡ true
  pub stops_short : all (λ c. leb (length c) 256) (map (λ s. s.geometry) (view t).stop_lines) ≡ true
  pub lefts_short : all (λ c. leb (length c) 256) (map (λ x. x.left_edge) (view t).crosswalks) ≡ true
  pub rights_short : all (λ c. leb (length c) 256) (map (λ x. x.right_edge) (view t).crosswalks) ≡ true
  pub roads-counted : counted 256 68 t.roads ≡ true
  pub road_lists : all_rows 68 (λ w. leb (word 3 w) 64) t.roads ≡ true
  pub junctions-counted : counted 256 69 t.junctions ≡ true
  pub junction_lists : all_rows 69 (λ w. leb (word 4 w) 64) t.junctions ≡ true
  pub rules-counted : counted 512 330 t.rules ≡ true
  pub rules-formed : all_rows 330 rule_formed t.rules ≡ true
  pub rules-calm : all (calm (start + pieces_ids xs)) (view t).rules ≡ true
  pub anchors : (j : ℕ) → j < word 0 t.rules → get_or anchored j false ≡ is_some (rule_anchor (cut_of t start ps xs) (rule_of (row_at 330 t.rules j)))

-- the parts put together
together : (x y z : ℕ) {l l' b b' p p' : ℕ} {s s' r r' j j' u u' : Bool} → l ≡ l' → b ≡ b' → s ≡ s' → p ≡ p' → r ≡ r' → j ≡ j' → u ≡ u'
    → ((leb l 1024 && leb l x) && ((leb b 4096 && leb b y) && (s && ((leb p 65536 && leb p z) && (r && (j && u))))))
    ≡ ((leb l' 1024 && leb l' x) && ((leb b' 4096 && leb b' y) && (s' && ((leb p' 65536 && leb p' z) && (r' && (j' && u'))))))
together x y z e1 e2 e3 e4 e5 e6 e7 = rw (e1, e2, e3, e4, e5, e6, e7)

module _ (t : Tables) (tol : Tolerance) (start own : ℕ) (group : List ℕ) (ps : List LanePlan) (xs : List Piece) (pieces lines centers : List ℕ) (marks seen anchored : List Bool)
    (h : Told t start ps xs pieces lines centers marks seen anchored) where
  abbrev c : List Float
  c = t.coordinates

  abbrev next : ℕ
  next = start + pieces_ids xs

  abbrev hs : List (ℕ × ℕ)
  hs = halves (start + pieces_ids xs) ps

  abbrev after : Map
  after = (cut tol start (view t) own group ps xs).result

  lanes-many : length (view t).lanes + length ps ≡ word 0 t.lanes + length ps
  unfolding view rows
  lanes-many = ap (λ n. n + length ps) (length-reads 52 (lane_of c) (word 0 t.lanes) (drop 1 t.lanes))

  boundaries-many : length (view t).boundaries + pieces_ids xs ≡ word 0 t.boundaries + pieces_ids xs
  unfolding view rows
  boundaries-many = ap (λ n. n + pieces_ids xs) (length-reads 5 (boundary_of c) (word 0 t.boundaries) (drop 1 t.boundaries))

  own-lanes : (view t).lanes ≡ rows 52 (lane_of c) t.lanes
  unfolding view
  own-lanes = refl

  own-boundaries : (view t).boundaries ≡ rows 5 (boundary_of c) t.boundaries
  unfolding view
  own-boundaries = refl

  points-are : point_count after ≡ points_after pieces lines centers marks seen t.lanes t.boundaries t.stop_lines t.crosswalks
  unfolding cut view points_after
  points-are =
      points-all after c t.stop_lines t.crosswalks _ _
      (points-cut c pieces lines (view t) ps xs hs next t.boundaries marks own-boundaries h.boundaries-up h.marked h.boundaries_are_cut h.boundaries-told h.boundaries_stored)
      (centers-cut c centers (view t) ps xs next t.lanes seen own-lanes h.lanes-up h.lanes-seen h.lanes_are_cut h.lanes-told h.centers_are_stored)
      refl refl h.stops_stored h.lefts_stored h.rights_stored

  lines_are : all (λ c. leb (length c) 256) (S.lines after) ≡ (pieces_fit lines 0 (length xs) && pieces_fit centers 0 (length ps))
  unfolding cut
  lines_are =
      let f : Line → Bool = λ c. leb (length c) 256 in
      lines-all after h.stops_short h.lefts_short h.rights_short
      ∙ (ap (λ z. z && all f (each (λ l. optional_line l.centerline) after.lanes)) (all_map f (λ (b : Boundary). b.geometry) after.boundaries
      ∙ lines_cut c pieces lines (view t) ps xs hs next t.boundaries marks own-boundaries h.boundaries-up h.marked h.boundaries_are_cut h.boundaries-told h.boundaries_short)
      ∙ ap (λ z. pieces_fit lines 0 (length xs) && z) (center_lines-cut c centers (view t) ps xs next t.lanes seen own-lanes h.lanes-up h.lanes-seen h.lanes_are_cut h.lanes-told h.centers_are_stored))

  pub room_split : fits_room (room_of t) (cut tol start (view t) own group ps xs).result
      ≡ (rows_fit 1024 52 (word 0 t.lanes + length ps) t.lanes
      && (rows_fit 4096 5 (word 0 t.boundaries + pieces_ids xs) t.boundaries
      && ((pieces_fit lines 0 (length xs) && pieces_fit centers 0 (length ps))
      && (points_fit (points_after pieces lines centers marks seen t.lanes t.boundaries t.stop_lines t.crosswalks) t.coordinates
      && (all_rows 68 (list_fits (cut_ids ps) 3) t.roads && (all_rows 69 (list_fits (cut_ids ps) 4) t.junctions && rules_fit anchored (cut_ids ps) 0 (rows 330 (λ w. w) t.rules)))))))
  room_split =
      fits-split tol start (view t) own group ps xs (room_of t) h.limits h.cuts h.linked h.planned
      ∙ together (room_of t).lanes (room_of t).boundaries (room_of t).points lanes-many boundaries-many lines_are points-are roads-are junctions-are rules-are
    where
      roads-are : all (λ r. leb (length r.lanes) 64) after.roads ≡ all_rows 68 (list_fits (cut_ids ps) 3) t.roads
      roads-are = unfold cut view in roads-fit next ps 256 t.roads h.roads-counted h.road_lists

      junctions-are : all (λ j. leb (length j.lanes) 64) after.junctions ≡ all_rows 69 (list_fits (cut_ids ps) 4) t.junctions
      junctions-are = unfold cut view in junctions-fit next ps 256 t.junctions h.junctions-counted h.junction_lists

      rules-are : all (λ r. all (λ ids. leb (length ids) 64) (id_lists r)) after.rules ≡ rules_fit anchored (cut_ids ps) 0 (rows 330 (λ w. w) t.rules)
      rules-are =
          unfold cut view in
          ap (all (λ r. all (λ ids. leb (length ids) 64) (id_lists r))) (rules_in_turns tol.join (cut_of t start ps xs) next ps h.cuts h.new (rows 330 rule_of t.rules) h.rules-calm)
          ∙ rules-fit tol.join (cut_of t start ps xs) next ps h.new 512 anchored t.rules h.rules-counted h.rules-formed h.anchors
