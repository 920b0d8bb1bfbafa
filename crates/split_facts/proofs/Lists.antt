-- The change set of a split whose lanes are planned, from marks, pieces and rows; and what listing it asks. Assumes nothing.
use Rattle.std.specs.Prelude.{Option, None, Some}
use mathlib.Core.Path.{◌≡◌, refl, sym, ap, ◌∙◌}
use Prim.Native.Nat.{ℕ, suc, ◌+◌, ◌*◌, ◌≤◌, ◌<◌}
use native.Mathlib.Omega.{arith}
use mathlib.Core.Bool.{Bool, true, false}
use mathlib.Core.List.{List, [], ◌∷◌, ◌++◌, map}
use lib.Dec.{leb}
use lib.Ieee.{Float}
use lib.ListN.{length, get_or, take, drop, replicate, length-map, length-append, length-take, length-replicate}
use lib.Seq.{take_all, length-take-le}
use borrow.Author.Tests.{le-leb, leb-true}
use Rattle.lists.specs.Every.{all}
use Rattle.lists.specs.Rows.{keys, over, row_with}
use Rattle.lists.specs.Select.{any, has, keep, each, numbered, second_of, ascending}
use Rattle.lists.proofs.Every.{all_head, all_tail}
use Rattle.lists.proofs.Rows.{mapped-reads, length_over, length-keys, found_within, found-has, there}
use Rattle.lists.proofs.Select.{map-twice}
use Rattle.entities.specs.declared.Tolerance.{Tolerance}
use Rattle.entities.specs.Records.{Boundary, Issue, Map}
use Rattle.rules.specs.Names.{Point2}
use Rattle.rules.specs.Map.{uses}
use Rattle.rules.specs.Sound.{next_id}
use Rattle.rules.specs.Split.{LanePlan, Piece, pieces_ids, halves, dropped_all, unshared_piece, rule_differs, group_of}
use Rattle.rules.specs.Split as R
use Rattle.laws.proofs.SplitGroup.{group-has}
use Rattle.laws.proofs.TurnsRows.{cut_in_turns, calm, rule_in_turns, rules_in_turns}
use Rattle.tables.specs.View.{Tables, word, ids_at, rows, lane_of, boundary_of, rule_of, view}
use Rattle.tables.specs.Formed.{lane_formed, rule_formed}
use Rattle.row_tests.specs.Good.{all_rows}
use Rattle.row_tests.proofs.Formed.{lane-before, rule-lanes}
use Rattle.apart.proofs.Marks.{counted-facts, counted-more}
use Rattle.soundness.proofs.Rows.{every_row}
use Rattle.soundness.proofs.Whole.{rows-count}
use Rattle.lookup.specs.Lookup.{row_at}
use Rattle.lookup.proofs.Laws.{row-passes, sorted-ascends}
use Rattle.lookup.proofs.Good.{rows-weaker}
use Rattle.group.specs.Walk.{ids_of, lane_map}
use Rattle.grow.proofs.Growing.{number_at, second-numbered}
use Rattle.follows.specs.Following.{Marking, marks_of, rule_marks, row_differs}
use Rattle.split_plan.specs.Placing.{picked, marked_rows, group_marks}
use Rattle.split_plan.proofs.Marked.{picked_none}
use Rattle.split_pieces.specs.Pieces.{boundary_keys, cut_by, cut_marks}
use Rattle.split_marks.specs.Touched.{marked, lane_marks, row_marks, alone_from, Named}
use Rattle.split_lists.specs.Changes.{marked_ids, modified_by, created_by, warnings_by, rows_dropped, pieces_issues, Beside, AllListed}
use Rattle.split_rules.specs.Past.{anchor_of, is_there, marks_by, anchored_by, past_from, past_by}
use Rattle.split_rules.specs.Past as P
use Rattle.split_relay.specs.Relaying.{Cutting}
use Rattle.split_laid.proofs.Boundaries.{AllWords}
use Rattle.split_named.proofs.Words.{cut_ids, below}
use Rattle.split_named.proofs.Grown.{halves-numbered}
use Rattle.split_anchors.proofs.Accepted.{cuts-below}
use Rattle.split_anchors.proofs.Told.{rule_told}
use Rattle.split_anchors.proofs.Followed.{Told, told-differs}
use Rattle.split_changes.proofs.Modified.{Marked, rule_after, modified-told}
use Rattle.split_changes.proofs.Kept.{words-kept}
use Rattle.split_changes.proofs.Created as C
use Rattle.split_changes.proofs.Warned.{pieces-warned, dropped-warned}
use Rattle.split_facts.specs.Splitting.{lanes_in, plans_in, pieces_in, split_of, Planned, Measured, Anchored}
use Rattle.split_facts.proofs.Facts as F

-- ---- general

-- what stays behind marks written in front
abbrev behind : List Bool → List Bool → List Bool
behind w l = drop (0 + length l) w

-- as many are chosen as are marked
pub picked-marked : {A : Type 0} (bs : List Bool) (xs : List A) → length (picked bs xs) ≡ marked (take (length xs) bs)
unfolding picked marked
picked-marked bs [] = ap length (picked_none bs)
picked-marked [] (x ∷ xs) = refl
picked-marked (true ∷ bs) (x ∷ xs) = ap suc (picked-marked bs xs)
picked-marked (false ∷ bs) (x ∷ xs) = picked-marked bs xs

-- marks behind the last have no part in it
picked-front : {A : Type 0} (bs : List Bool) (xs : List A) → picked (take (length xs) bs) xs ≡ picked bs xs
unfolding picked
picked-front bs [] = sym (picked_none bs)
picked-front [] (x ∷ xs) = refl
picked-front (true ∷ bs) (x ∷ xs) = ap (λ zs. x ∷ zs) (picked-front bs xs)
picked-front (false ∷ bs) (x ∷ xs) = picked-front bs xs

rows-marked : (s : ℕ) (marks : List Bool) (t : List ℕ) → length (picked marks (rows s (λ w. w) t)) ≡ marked (take (word 0 t) marks)
rows-marked s marks t = picked-marked marks (rows s (λ (w : List ℕ). w) t) ∙ ap (λ n. marked (take n marks)) (rows-count s (λ (w : List ℕ). w) t)

row-keys : (s : ℕ) (t : List ℕ) → map (word 0) (rows s (λ w. w) t) ≡ keys s (word 0 t) (drop 1 t)
unfolding rows keys
row-keys s t = mapped-reads s (λ (w : List ℕ). w) (word 0) (word 0 t) (drop 1 t)

-- as many ids are listed as rows are marked
pub marked-many : (s : ℕ) (marks : List Bool) (t : List ℕ) → length (marked_ids s marks t) ≡ marked (take (word 0 t) marks)
marked-many s marks t = length-map (picked marks (rows s (λ (w : List ℕ). w) t)) (word 0) ∙ rows-marked s marks t

pub modified-count : (lm bm rm jm um : List Bool) (lanes boundaries roads junctions rules : List ℕ)
    → length (modified_by lm lanes bm boundaries rm roads jm junctions um rules)
    ≡ marked (take (word 0 lanes) lm) + marked (take (word 0 boundaries) bm) + marked (take (word 0 roads) rm) + marked (take (word 0 junctions) jm) + marked (take (word 0 rules) um)
unfolding modified_by
modified-count lm bm rm jm um lanes boundaries roads junctions rules =
    simp (length-append, length-map)
    (omega (arith, rows-marked 52 lm lanes, rows-marked 5 bm boundaries, rows-marked 68 rm roads, rows-marked 69 jm junctions, rows-marked 330 um rules))

-- the first second half's id, and the map after the cut but for roads, junctions and rules
abbrev pub cut_from : ℕ → Tables → Cutting → ℕ
cut_from counter t k = next_id counter + pieces_ids (pieces_in counter t k.point k.seen k.cut)

abbrev pub cut_after : ℕ → Tables → Cutting → List Float → Map
cut_after counter t k stations =
    R.cut_map (view t) (plans_in t k.point k.seen stations) (pieces_in counter t k.point k.seen k.cut) (halves (cut_from counter t k) (plans_in t k.point k.seen stations)) (cut_from counter t k)

-- the rows of each table are within its marks
pub record Few (t : Tables) : Type 0 where
  pub lanes : word 0 t.lanes ≤ 1024
  pub boundaries : word 0 t.boundaries ≤ 4096
  pub roads : word 0 t.roads ≤ 256
  pub junctions : word 0 t.junctions ≤ 256
  pub rules : word 0 t.rules ≤ 512

module _ {tol : Tolerance} {counter : ℕ} {t : Tables} {own : ℕ} {stations : List Float} {ids : ℕ} {k : Cutting} (h : Measured tol counter t own stations ids k) where
  abbrev p : Planned tol counter t own k.point k.seen k.cut stations
  p = h.number.plan

  abbrev ps : List LanePlan
  ps = plans_in t k.point k.seen stations

  abbrev xs : List Piece
  xs = pieces_in counter t k.point k.seen k.cut

  -- ---- ids

  pub next-is : cut_from counter t k ≡ k.next
  next-is = ap (λ n. next_id counter + n) (F.pieces-many h.number) ∙ sym h.next

  pub ids-is : (split_of tol counter t own k.point k.seen k.cut stations).ids ≡ ids + length k.cut
  unfolding split_of R.cut
  ids-is = ap (λ n. n + length ps) (F.pieces-many h.number) ∙ ap (λ n. ids + n) (F.many-plans p)

  -- the second halves, by the cut lanes' places
  pub halves_are : halves (cut_from counter t k) (plans_in t k.point k.seen stations) ≡ numbered k.next k.cut
  halves_are =
      halves-numbered (cut_from counter t k) ps
      ∙ (ap (λ n. numbered n (map (λ (x : LanePlan). x.of.id) ps)) next-is ∙ ap (numbered k.next) p.ids)

  -- the cut lanes are below them
  pub lanes-below : below (cut_from counter t k) (cut_ids (plans_in t k.point k.seen stations))
  lanes-below = cuts-below (view t) ps k.cut (lanes_in t k.seen) k.point (next_id counter) (F.accepted h.number)

  -- ---- rules follow in turns

  pub all_in_turns : map (R.cut_rule tol.join (cut_after counter t k stations) (plans_in t k.point k.seen stations) (halves (cut_from counter t k) (plans_in t k.point k.seen stations))) (rows 330 rule_of t.rules)
      ≡ map (cut_in_turns tol.join (cut_after counter t k stations) (cut_from counter t k) (plans_in t k.point k.seen stations) (halves (cut_from counter t k) (plans_in t k.point k.seen stations))) (rows 330 rule_of t.rules)
  unfolding view
  all_in_turns = rules_in_turns tol.join (cut_after counter t k stations) (cut_from counter t k) ps (F.cuts-up p) lanes-below (rows 330 rule_of t.rules) (F.rules-calm h.number)

  pub each_in_turns : (i : ℕ) → i < word 0 t.rules
      → R.cut_rule tol.join (cut_after counter t k stations) (plans_in t k.point k.seen stations) (halves (cut_from counter t k) (plans_in t k.point k.seen stations)) (rule_of (row_at 330 t.rules i))
      ≡ cut_in_turns tol.join (cut_after counter t k stations) (cut_from counter t k) (plans_in t k.point k.seen stations) (halves (cut_from counter t k) (plans_in t k.point k.seen stations)) (rule_of (row_at 330 t.rules i))
  unfolding view all_rows
  each_in_turns i l =
      let good = calm (cut_from counter t k) in
      rule_in_turns tol.join (cut_after counter t k stations) (cut_from counter t k) ps (F.cuts-up p) lanes-below (rule_of (row_at 330 t.rules i))
      (row-passes 330 (λ w. good (rule_of w)) t.rules (sym (every_row 330 rule_of good t.rules) ∙ F.rules-calm h.number) i l)

  -- ---- created, deleted

  pub created_is : (split_of tol counter t own k.point k.seen k.cut stations).changes.created ≡ created_by (next_id counter) ids (length k.cut)
  unfolding split_of R.cut
  created_is =
      C.created_is k.cut (view t).lanes k.point (next_id counter) (keep (λ b. any (uses b.id) (lanes_in t k.seen)) (view t).boundaries) ps
      ∙ (ap (λ n. created_by (next_id counter) n (length ps)) (F.pieces-many h.number) ∙ ap (created_by (next_id counter) ids) (F.many-plans p))

  pub deleted_is : (split_of tol counter t own k.point k.seen k.cut stations).changes.deleted ≡ []
  unfolding split_of R.cut
  deleted_is = refl

  -- ---- the lane itself is in its group

  pub own-place : (r : ℕ) × ((row_with own k.cut ≡ Some r) × (r < length k.cut))
  own-place = go (row_with own k.cut) refl (sym (found-has own k.cut) ∙ held)
    where
      held : has own k.cut ≡ true
      held = ap (has own) (sym (F.group-is p)) ∙ group-has (view t) own (lane_of t.coordinates (row_at 52 t.lanes p.row)) (F.found p) (F.lane-ids-up p) p.neighbors

      go : (f : Option ℕ) → row_with own k.cut ≡ f → there f ≡ true → (r : ℕ) × ((row_with own k.cut ≡ Some r) × (r < length k.cut))
      go (Some r) e u = (r, (e, found_within own k.cut r e))
      go None e u = let z : ◌≡◌ {A = ℕ} 0 1 = cc in absurd (omega arith)

  pub second_is : (r : ℕ) → row_with own k.cut ≡ Some r → (split_of tol counter t own k.point k.seen k.cut stations).second ≡ Some (k.next + r)
  unfolding split_of R.cut
  second_is r e = ap (λ hs. second_of hs own) halves_are ∙ (second-numbered k.next own k.cut ∙ ap (number_at k.next) e)

  -- ---- warnings

  pub warnings_is : AllWords k.pieces k.lines 0 k.reach (pieces_in counter t k.point k.seen k.cut) → k.many ≡ length (pieces_in counter t k.point k.seen k.cut)
      → (split_of tol counter t own k.point k.seen k.cut stations).changes.warnings ≡ warnings_by k.pieces k.many k.cut k.next k.seen t.lanes
  unfolding split_of R.cut
  warnings_is words many_is =
      let a : each unshared_piece xs ≡ pieces_issues k.pieces 0 k.many = sym (pieces-warned k.pieces k.lines 0 k.reach xs words) ∙ ap (pieces_issues k.pieces 0) (sym many_is) in
      let b : dropped_all (halves (cut_from counter t k) ps) (cut_from counter t k) ps ≡ rows_dropped k.cut k.next k.next (marked_rows k.seen t.lanes) =
      ap (λ hs. dropped_all hs (cut_from counter t k) ps) halves_are
      ∙ (ap (λ n. dropped_all (numbered k.next k.cut) n ps) next-is
      ∙ sym (dropped-warned t.coordinates k.cut k.next k.next ps (marked_rows k.seen t.lanes) (F.of_lanes p))) in
      ap (λ (zs : List Issue). zs ++ dropped_all (halves (cut_from counter t k) ps) (cut_from counter t k) ps) a
      ∙ ap (λ (zs : List Issue). pieces_issues k.pieces 0 k.many ++ zs) b

  -- ---- what listing asks

  pub counts-few : Few t
  counts-few =
      let c = F.counts p in
      record {
        lanes = (counted-facts 1024 52 t.lanes c.lanes).1.0;
        boundaries = (counted-facts 4096 5 t.boundaries c.boundaries).1.0;
        roads = (counted-facts 256 68 t.roads c.roads).1.0;
        junctions = (counted-facts 256 69 t.junctions c.junctions).1.0;
        rules = (counted-facts 512 330 t.rules c.rules).1.0;
      }

  pub modified-many : (lm bm rm jm um : List Bool) → word 0 t.lanes ≤ length lm → word 0 t.boundaries ≤ length bm → word 0 t.roads ≤ length rm → word 0 t.junctions ≤ length jm → word 0 t.rules ≤ length um
      → length (modified_by lm t.lanes bm t.boundaries rm t.roads jm t.junctions um t.rules)
      ≡ marked (take (word 0 t.lanes) lm) + marked (take (word 0 t.boundaries) bm) + marked (take (word 0 t.roads) rm) + marked (take (word 0 t.junctions) jm) + marked (take (word 0 t.rules) um)
  modified-many lm bm rm jm um l1 l2 l3 l4 l5 = modified-count lm bm rm jm um t.lanes t.boundaries t.roads t.junctions t.rules

  pub lanes_named : (w : List Bool) → length w ≡ 1024 → Named 52 18 16 1024 k.cut t.lanes w
  unfolding all_rows
  lanes_named w l =
      let f = counts-few in
      record {
        ascend = F.cut_up p;
        list = omega arith;
        narrow = omega arith;
        few = omega arith;
        counts = (F.counts p).lanes;
        rows = rows-weaker 52 lane_formed (λ v. leb (word 18 v) 16) (λ v g. le-leb (word 18 v) 16 (lane-before v g)) t.lanes (F.known p).parts.lanes;
        room = omega (arith, f.lanes);
      }

  pub roads_named : (w : List Bool) → length w ≡ 256 → Named 68 3 64 4096 k.cut t.roads w
  roads_named w l =
      let f = counts-few in
      record {
        ascend = F.cut_up p;
        list = omega arith;
        narrow = omega arith;
        few = omega arith;
        counts = counted-more 256 4096 68 t.roads (omega arith) (F.counts p).roads;
        rows = (F.known p).parts.roads;
        room = omega (arith, f.roads);
      }

  pub junctions_named : (w : List Bool) → length w ≡ 256 → Named 69 4 64 4096 k.cut t.junctions w
  junctions_named w l =
      let f = counts-few in
      record {
        ascend = F.cut_up p;
        list = omega arith;
        narrow = omega arith;
        few = omega arith;
        counts = counted-more 256 4096 69 t.junctions (omega arith) (F.counts p).junctions;
        rows = (F.known p).parts.junctions;
        room = omega (arith, f.junctions);
      }

  pub all_listed : (lm bm rm jm um : List Bool) → length lm ≡ 1024 → length bm ≡ 4096 → length rm ≡ 256 → length jm ≡ 256 → length um ≡ 512
      → AllListed lm bm rm jm um t.lanes t.boundaries t.roads t.junctions t.rules
  all_listed lm bm rm jm um l1 l2 l3 l4 l5 =
      let f = counts-few in
      let c = F.counts p in
      record {
        lanes_listed = record { some_words = omega arith; narrow = omega arith; few = omega arith; counts = c.lanes; marks_there = omega (arith, f.lanes) };
        boundaries_listed = record { some_words = omega arith; narrow = omega arith; few = omega arith; counts = c.boundaries; marks_there = omega (arith, f.boundaries) };
        roads_listed = record { some_words = omega arith; narrow = omega arith; few = omega arith; counts = c.roads; marks_there = omega (arith, f.roads) };
        junctions_listed = record { some_words = omega arith; narrow = omega arith; few = omega arith; counts = c.junctions; marks_there = omega (arith, f.junctions) };
        rules_listed = record { some_words = omega arith; narrow = omega arith; few = omega arith; counts = c.rules; marks_there = omega (arith, f.rules) };
      }

  pub seen-long : length k.seen ≡ 1024
  seen-long =
      let n : length (group_marks t.lanes p.row p.neighbors) ≡ word 0 t.lanes =
      length-map (ids_of t.lanes) (λ i. has i (group_of (lane_map t.lanes) (word 0 (row_at 52 t.lanes p.row)) p.neighbors)) ∙ length-keys 52 (word 0 t.lanes) (drop 1 t.lanes) in
      ap length p.marked
      ∙ (length_over (replicate 1024 false) 0 (group_marks t.lanes p.row p.neighbors) (omega (arith, n, counts-few.lanes, length-replicate 1024 false)) ∙ length-replicate 1024 false)

  pub marks-long : length k.marks ≡ 4096
  marks-long =
      let n : length (cut_marks k.seen t.lanes t.boundaries) ≡ word 0 t.boundaries =
      length-map (boundary_keys t.boundaries) (cut_by k.seen t.lanes) ∙ length-keys 5 (word 0 t.boundaries) (drop 1 t.boundaries) in
      ap length h.number.marked
      ∙ (length_over (replicate 4096 false) 0 (cut_marks k.seen t.lanes t.boundaries) (omega (arith, n, counts-few.boundaries, length-replicate 4096 false)) ∙ length-replicate 4096 false)

  pub beside : Beside k.cut k.next k.seen t.lanes
  beside =
      record {
        ascend = F.cut_up p;
        ids = omega (arith, F.ids-small h.number, h.next);
        counts = (F.counts p).lanes;
        marks_there = omega (arith, seen-long, counts-few.lanes);
        many = p.many;
      }

  pub alone-asks : map (boundary_of t.coordinates) (picked k.marks (rows 5 (λ w. w) t.boundaries)) ≡ map (λ x. x.of) (pieces_in counter t k.point k.seen k.cut)
      → k.many ≡ length (pieces_in counter t k.point k.seen k.cut) → k.many * 3 ≤ length k.pieces
      → (word 0 t.boundaries ≤ length k.marks) × (marked (take (word 0 t.boundaries) k.marks) * 3 ≤ length k.pieces)
  alone-asks pieces_of many_is Pieces-room =
      let ws = picked k.marks (rows 5 (λ (w : List ℕ). w) t.boundaries) in
      let n : length ws ≡ length xs = sym (length-map ws (boundary_of t.coordinates)) ∙ (ap length pieces_of ∙ length-map xs (λ (x : Piece). x.of)) in
      (omega (arith, marks-long, counts-few.boundaries), omega (arith, n, many_is, rows-marked 5 k.marks t.boundaries))

-- ---- rules

-- the marks of all rules stay as many
past-long : (join : Float) (c : List Float) (lanes boundaries : List ℕ) (q : Point2) (cut : List ℕ) (stations : List Float) (stops crosswalks : List ℕ) (i : ℕ) (ws : List (List ℕ)) (past : List Bool)
    → all (λ w. leb (word 5 w) 64) ws ≡ true → (i + length ws) * 64 ≤ length past → length (past_from join c lanes boundaries q cut stations stops crosswalks i ws past) ≡ length past
unfolding past_from
past-long join c lanes boundaries q cut stations stops crosswalks i [] past a l = refl
past-long join c lanes boundaries q cut stations stops crosswalks i (w ∷ ws) past a l =
    let f = leb-true (word 5 w) 64 (all_head (λ w. leb (word 5 w) 64) w ws a) in
    let n = few (anchor_of c stops crosswalks cut w) in
    let e = length_over past (i * 64) (marks_by join c lanes boundaries q cut stations (anchor_of c stops crosswalks cut w) (ids_at 5 w)) (omega (arith, n, f)) in
    past-long join c lanes boundaries q cut stations stops crosswalks (suc i) ws (over past (i * 64) (marks_by join c lanes boundaries q cut stations (anchor_of c stops crosswalks cut w) (ids_at 5 w)))
    (all_tail (λ w. leb (word 5 w) 64) w ws a) (omega (arith, e))
    ∙ e
  where
    few : (o : Option Point2) → length (marks_by join c lanes boundaries q cut stations o (ids_at 5 w)) ≤ word 5 w
    few None = omega arith
    few (Some z) = rw (length-map, length-take) (omega arith)

module _ {tol : Tolerance} {counter : ℕ} {t : Tables} {own : ℕ} {stations : List Float} {ids : ℕ} {k : Cutting} {anchored past : List Bool} (h : Measured tol counter t own stations ids k)
    (a : Anchored tol t stations k anchored past) where
  abbrev plan : Planned tol counter t own k.point k.seen k.cut stations
  plan = h.number.plan

  pub anchored-long : length anchored ≡ 512
  anchored-long =
      let ws = rows 330 (λ (w : List ℕ). w) t.rules in
      let f : List ℕ → Bool = λ w. is_there (anchor_of t.coordinates t.stop_lines t.crosswalks k.cut w) in
      let n : length (map f ws) ≡ word 0 t.rules = length-map ws f ∙ rows-count 330 (λ (w : List ℕ). w) t.rules in
      ap length a.anchors ∙ (length_over (replicate 512 false) 0 (map f ws) (omega (arith, n, (counts-few h).rules, length-replicate 512 false)) ∙ length-replicate 512 false)

  own-few : all (λ w. leb (word 5 w) 64) (rows 330 (λ w. w) t.rules) ≡ true
  unfolding all_rows
  own-few =
      every_row 330 (λ (w : List ℕ). w) (λ w. leb (word 5 w) 64) t.rules
      ∙ rows-weaker 330 rule_formed (λ v. leb (word 5 v) 64) (λ v g. le-leb (word 5 v) 64 (rule-lanes v g)) t.rules (F.known plan).parts.rules

  pub sides-long : length past ≡ 32768
  sides-long =
      let ws = rows 330 (λ (w : List ℕ). w) t.rules in
      ap length a.sides
      ∙ (past-long tol.join t.coordinates t.lanes t.boundaries k.point k.cut stations t.stop_lines t.crosswalks 0 ws (replicate 32768 false) own-few
      (omega (arith, rows-count 330 (λ (w : List ℕ). w) t.rules, (counts-few h).rules, length-replicate 32768 false))
      ∙ length-replicate 32768 false)

  pub rules-asks : (w : List Bool) → length w ≡ 512 → Marking anchored past k.cut t.rules w
  rules-asks w l =
      let f = (counts-few h).rules in
      record {
        ascend = F.cut_up plan;
        counts = (F.counts plan).rules;
        formed = (F.known plan).parts.rules;
        anchors = omega (arith, anchored-long);
        places = omega (arith, sides-long);
        room = omega arith;
      }

  -- ---- modified

  abbrev plans : List LanePlan
  plans = plans_in t k.point k.seen stations

  abbrev parts : List Piece
  parts = pieces_in counter t k.point k.seen k.cut

  -- what the marks of rules were made from
  pub marked_from : P.Marking t.coordinates t.lanes t.boundaries (cut_ids (plans_in t k.point k.seen stations)) stations t.rules t.stop_lines t.crosswalks (replicate 512 false) (replicate 32768 false)
  marked_from =
      let f = (counts-few h).rules in
      let n : length (cut_ids plans) ≡ length stations = length-map plans (λ (x : LanePlan). x.of.id) ∙ (sym (length-map plans (λ (x : LanePlan). x.station)) ∙ ap length plan.stationed) in
      record {
        drawable = (F.known plan).drawable;
        crossable = (F.known plan).crossable;
        ascend = F.cuts-up plan;
        stationed = omega (arith, n);
        counts = (F.counts plan).rules;
        formed = (F.known plan).parts.rules;
        anchors = omega (arith, length-replicate 512 false);
        marks = omega (arith, length-replicate 32768 false);
      }

  pub all_stations : take (length (plans_in t k.point k.seen stations)) stations ≡ map (λ x. x.station) (plans_in t k.point k.seen stations)
  all_stations =
      let n : length plans ≡ length stations = sym (length-map plans (λ (x : LanePlan). x.station)) ∙ ap length plan.stationed in
      ap (λ m. take m stations) n ∙ (take_all (length stations) stations (omega arith) ∙ sym plan.stationed)

  abbrev anchored_of : List ℕ → List Bool
  anchored_of cut = over (replicate 512 false) 0 (anchored_by t.coordinates t.stop_lines t.crosswalks cut t.rules)

  abbrev past_of : List ℕ → List Bool
  past_of cut = past_by tol.join t.coordinates t.lanes t.boundaries k.point cut stations t.stop_lines t.crosswalks t.rules (replicate 32768 false)

  -- the marks say of every rule what document 01 says of it in the map after the cut
  pub rules-told : (i : ℕ) → i < word 0 t.rules
      → Told tol.join (cut_after counter t k stations) (cut_from counter t k) (plans_in t k.point k.seen stations) (lanes-below h) (get_or (anchored_of (cut_ids plans)) i false) (marks_of (past_of (cut_ids plans)) i) (row_at 330 t.rules i)
  unfolding view
  rules-told i l =
      rule_told (view t) plans k.cut (lanes_in t k.seen) k.point (next_id counter) (F.accepted h.number) t.coordinates t.lanes t.boundaries refl refl stations all_stations tol.join
      t.stop_lines t.crosswalks refl refl t.rules (replicate 512 false) (replicate 32768 false) marked_from i l

  -- a rule differs where its row does
  rules-differ : (i : ℕ) → i < word 0 t.rules
      → rule_differs (rule_of (row_at 330 t.rules i)) (rule_after tol (next_id counter) t (plans_in t k.point k.seen stations) (pieces_in counter t k.point k.seen k.cut) (rule_of (row_at 330 t.rules i)))
      ≡ row_differs (get_or anchored i false) (marks_of past i) k.cut (row_at 330 t.rules i)
  rules-differ i l =
      let first = cut_from counter t k in
      let m = cut_after counter t k stations in
      let w = row_at 330 t.rules i in
      ap (rule_differs (rule_of w)) (each_in_turns h i l)
      ∙ (ap (λ hs. rule_differs (rule_of w) (cut_in_turns tol.join m first plans hs (rule_of w))) (halves-numbered first plans)
      ∙ (told-differs tol.join m first plans (lanes-below h) (get_or (anchored_of (cut_ids plans)) i false) (marks_of (past_of (cut_ids plans)) i) w (rules-told i l)
      ∙ (ap (λ cut. row_differs (get_or (anchored_of cut) i false) (marks_of (past_of cut) i) cut w) plan.ids
      ∙ (ap (λ z. row_differs (get_or z i false) (marks_of (past_of k.cut) i) k.cut w) (sym a.anchors) ∙ ap (λ z. row_differs (get_or anchored i false) (marks_of z i) k.cut w) (sym a.sides)))))

  marked_all : AllWords k.pieces k.lines 0 k.reach (pieces_in counter t k.point k.seen k.cut)
      → map (boundary_of t.coordinates) (picked k.marks (rows 5 (λ w. w) t.boundaries)) ≡ map (λ x. x.of) (pieces_in counter t k.point k.seen k.cut)
      → Marked tol (next_id counter) t k.cut (plans_in t k.point k.seen stations) (pieces_in counter t k.point k.seen k.cut) k.pieces (take (word 0 t.boundaries) k.marks) anchored past
  unfolding boundary_of
  marked_all words pieces_of =
      let ws = rows 5 (λ (w : List ℕ). w) t.boundaries in
      let n : length ws ≡ word 0 t.boundaries = rows-count 5 (λ (w : List ℕ). w) t.boundaries in
      let front : picked (take (word 0 t.boundaries) k.marks) ws ≡ picked k.marks ws = ap (λ z. picked (take z k.marks) ws) (sym n) ∙ picked-front k.marks ws in
      record {
        up = F.lane-ids-up plan;
        links = (F.known plan).clauses.links;
        boundaries-up = ap ascending (row-keys 5 t.boundaries) ∙ sorted-ascends 4096 5 t.boundaries (F.known plan).boundaries;
        many = length-take-le (word 0 t.boundaries) k.marks (omega (arith, marks-long h, (counts-few h).boundaries)) ∙ sym n;
        whose = ap (map (word 0)) front
            ∙ (sym (map-twice (boundary_of t.coordinates) (λ (b : Boundary). b.id) (picked k.marks ws)) ∙ (ap (map (λ (b : Boundary). b.id)) pieces_of ∙ map-twice (λ (x : Piece). x.of) (λ (b : Boundary). b.id) parts));
        kept = words-kept k.pieces k.lines 0 k.reach parts words;
        differ = rules-differ;
      }

  pub modified_is : AllWords k.pieces k.lines 0 k.reach (pieces_in counter t k.point k.seen k.cut)
      → map (boundary_of t.coordinates) (picked k.marks (rows 5 (λ w. w) t.boundaries)) ≡ map (λ x. x.of) (pieces_in counter t k.point k.seen k.cut)
      → (w1 w2 w3 w4 w5 : List Bool) → (split_of tol counter t own k.point k.seen k.cut stations).changes.modified
      ≡ modified_by (over w1 0 (lane_marks k.cut t.lanes)) t.lanes (over w2 0 (alone_from k.pieces 0 (take (word 0 t.boundaries) k.marks))) t.boundaries
      (over w3 0 (row_marks k.cut 68 3 t.roads)) t.roads (over w4 0 (row_marks k.cut 69 4 t.junctions)) t.junctions (over w5 0 (rule_marks anchored past k.cut t.rules)) t.rules
  unfolding split_of over
  modified_is words pieces_of w1 w2 w3 w4 w5 =
      sym (modified-told tol (next_id counter) own t k.cut plans parts k.pieces (take (word 0 t.boundaries) k.marks) anchored past (marked_all words pieces_of)
      (behind w1 (lane_marks k.cut t.lanes)) (behind w2 (alone_from k.pieces 0 (take (word 0 t.boundaries) k.marks))) (behind w3 (row_marks k.cut 68 3 t.roads))
      (behind w4 (row_marks k.cut 69 4 t.junctions)) (behind w5 (rule_marks anchored past k.cut t.rules)))
