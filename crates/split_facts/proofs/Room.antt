-- The map after a split fits its room where the tests of numbers, found before anything is written, say so. Assumes nothing.
use Rattle.std.specs.Prelude.{Option, None, Some}
use mathlib.Core.Path.{◌≡◌, refl, sym, ap, ◌∙◌}
use Prim.Native.Nat.{ℕ, suc, ◌+◌, ◌≤◌, ◌<◌}
use native.Mathlib.Omega.{arith}
use mathlib.Core.Bool.{Bool, true, false, not, ◌&&◌, ◌||◌, cond, true≢false}
use mathlib.Core.List.{List, [], ◌∷◌, ◌++◌, map, append-nil}
use lib.Dec.{eqb, leb}
use lib.Ieee.{Float}
use lib.ListN.{length, get_or, drop, replicate, length-map, length-replicate}
use lib.Seq.{get_or-drop, drop-drop}
use borrow.Author.Tests.{le-leb}
use Rattle.lists.specs.Every.{all}
use Rattle.lists.specs.Rows.{over}
use Rattle.lists.specs.Select.{any, has}
use Rattle.lists.proofs.Booleans.{and_both, and-snd, neither}
use Rattle.lists.proofs.Every.{all-and, all_head, all_tail}
use Rattle.lists.proofs.Rows.{length_over, length-reads, get_d_reads, mapped-reads}
use Rattle.lists.proofs.Select.{all_map, all_keep, keep-none, any-or, any_same, has-any}
use Rattle.entities.specs.declared.Tolerance.{Tolerance}
use Rattle.entities.specs.Records.{Line, Lane}
use Rattle.laws.proofs.Links.{eqb_swap}
use Rattle.rules.specs.Names.{Point2}
use Rattle.rules.specs.Map.{rule_anchor}
use Rattle.rules.specs.Sound as S
use Rattle.rules.specs.Sound.{fits_room, within_limits, next_id}
use Rattle.rules.specs.Split.{LanePlan, Piece, pieces_ids, group_of}
use Rattle.tables.specs.View.{Tables, word, mark, ids_at, rows, view, lane_of, boundary_of, rule_of}
use Rattle.tables.specs.Formed.{span_at, stored, rule_formed}
use Rattle.store.specs.Store.{room_of}
use Rattle.apart.proofs.Marks.{counted-more}
use Rattle.row_tests.specs.Good.{all_rows}
use Rattle.row_tests.proofs.Formed.{rule-lanes}
use Rattle.row_tests.proofs.Tables.{table-few}
use Rattle.soundness.proofs.Back.{five-of}
use Rattle.soundness.proofs.Rows.{every_row}
use Rattle.soundness.proofs.Whole.{all_lines}
use Rattle.lookup.specs.Lookup.{row_at, crossed, all_stored, centers_stored}
use Rattle.lookup.proofs.Good.{rows-weaker}
use Rattle.lookup.proofs.Laws.{sorted-ascends}
use Rattle.room.specs.Room.{rows_fit, points_fit}
use Rattle.sound_facts.proofs.Room.{limits}
use Rattle.split_plan.specs.Placing.{picked}
use Rattle.split_relay.specs.Relaying.{Cutting}
use Rattle.split_rules.specs.Past.{is_there, anchor_of, anchored_by}
use Rattle.split_room.specs.Fitting.{pieces_fit, center_points, points_after, list_fits, named_of, own_fits, rule_fits, rules_fit, Counting, ListsOf, RulesOf}
use Rattle.split_named.proofs.Words.{is_some}
use Rattle.split_anchors.proofs.Accepted.{cuts-below}
use Rattle.split_anchors.proofs.Told.{anchor_after}
use Rattle.split_limits.proofs.Links.{few, up}
use Rattle.split_limits.proofs.Numbers.{Told, cut_of, room_split}
use Rattle.split_limits.proofs.Whole.{fits-split}
use Rattle.split_limits.proofs.Words.{words-told}
use Rattle.split_facts.specs.Splitting.{lanes_in, plans_in, pieces_in, split_of, Planned, Measured, Anchored}
use Rattle.split_facts.proofs.Facts.{known, counts, chosen-lanes, of_lanes, cut_up, cuts-up, many-plans, pieces-many, rules-calm, accepted}
use Rattle.split_facts.proofs.Asks as A
use Rattle.split_facts.proofs.Words as W

-- ---- general

view-lanes-many : (t : Tables) → length (view t).lanes ≡ word 0 t.lanes
unfolding view rows
view-lanes-many t = length-reads 52 (lane_of t.coordinates) (word 0 t.lanes) (drop 1 t.lanes)

view-boundaries-many : (t : Tables) → length (view t).boundaries ≡ word 0 t.boundaries
unfolding view rows
view-boundaries-many t = length-reads 5 (boundary_of t.coordinates) (word 0 t.boundaries) (drop 1 t.boundaries)

-- where rows do not fit, nothing does
fails : (a b r : Bool) → (a && b) ≡ false → (a && (b && r)) ≡ false
fails false b r h = refl
fails true false r h = refl
fails true true r h = absurd (true≢false h)

-- ---- a split that is planned

module _ {tol : Tolerance} {counter : ℕ} {t : Tables} {own : ℕ} {p : Point2} {seen : List Bool} {cut : List ℕ} {stations : List Float} (k : Planned tol counter t own p seen cut stations) where
  pub limits-kept : within_limits (view t) ≡ true
  limits-kept = (known k).clauses.limits

  -- links: few, and in order
  pub linked : all (λ l. few l && up l) (view t).lanes ≡ true
  unfolding S.links_ascend
  linked = all-and few up (view t).lanes ∙ and_both (all few (view t).lanes) (all up (view t).lanes) (limits (view t) limits-kept).links (known k).clauses.links-ascend

  pub planned : all (λ x. few x.of && up x.of) (plans_in t p seen stations) ≡ true
  planned =
      sym (all_map (λ (l : Lane). few l && up l) (λ (x : LanePlan). x.of) (plans_in t p seen stations))
      ∙ (ap (all (λ (l : Lane). few l && up l)) (of_lanes k ∙ chosen-lanes k)
      ∙ all_keep (λ (l : Lane). few l && up l) (λ x. has x.id (group_of (view t) own k.neighbors)) (view t).lanes linked)

  pub rows-full : (ids : ℕ) → pieces_ids (pieces_in counter t p seen cut) ≡ ids
      → (rows_fit 1024 52 (word 0 t.lanes + length cut) t.lanes && rows_fit 4096 5 (word 0 t.boundaries + ids) t.boundaries) ≡ false
      → fits_room (room_of t) (split_of tol counter t own p seen cut stations).result ≡ false
  unfolding split_of
  rows-full ids e f =
      let l : length (view t).lanes + length (plans_in t p seen stations) ≡ word 0 t.lanes + length cut = omega (arith, view-lanes-many t, many-plans k) in
      let b : length (view t).boundaries + pieces_ids (pieces_in counter t p seen cut) ≡ word 0 t.boundaries + ids = omega (arith, view-boundaries-many t) in
      fits-split tol (next_id counter) (view t) own cut (plans_in t p seen stations) (pieces_in counter t p seen cut) (room_of t) limits-kept (cuts-up k) linked planned
      ∙ both l b _
    where
      both : {l b : ℕ} → l ≡ word 0 t.lanes + length cut → b ≡ word 0 t.boundaries + ids → (r : Bool) → (rows_fit 1024 52 l t.lanes && (rows_fit 4096 5 b t.boundaries && r)) ≡ false
      both g h r = rw (g, h) (fails (rows_fit 1024 52 (word 0 t.lanes + length cut) t.lanes) (rows_fit 4096 5 (word 0 t.boundaries + ids) t.boundaries) r f)

-- ---- rules that name no cut lane fit with either mark

lacks : (ids cut : List ℕ) → any (λ k. has k cut) ids ≡ false → all (λ i. not (has i ids)) cut ≡ true
unfolding has all
lacks ids [] h = refl
lacks ids (i ∷ cut) h =
    let n = neither (any (λ k. eqb k i) ids) (any (λ k. has k cut) ids) (sym (any-or (λ k. eqb k i) (λ k. has k cut) ids) ∙ h) in
    let e : has i ids ≡ false = has-any i ids ∙ (any_same (eqb i) (λ k. eqb k i) ids (λ k. eqb_swap i k) ∙ n.0) in
    and_both (not (has i ids)) (all (λ i. not (has i ids)) cut) (ap not e) (lacks ids cut n.1)

module _ (cut : List ℕ) where
  own-fits : (w : List ℕ) → rule_formed w ≡ true → any (λ k. has k cut) (ids_at 5 w) ≡ false → (b : Bool) → own_fits b cut w ≡ true
  own-fits w f q true = refl
  own-fits w f q false =
      let e : named_of cut (ids_at 5 w) ≡ 0 = ap length (keep-none (λ i. has i (ids_at 5 w)) cut (lacks (ids_at 5 w) cut q)) in
      le-leb (word 5 w + named_of cut (ids_at 5 w)) 64 (omega (arith, rule-lanes w f))

  rule-either : (w : List ℕ) → rule_formed w ≡ true → any (λ k. has k cut) (ids_at 5 w) ≡ false → (a b : Bool) → rule_fits a cut w ≡ rule_fits b cut w
  rule-either w f q a b = rw (own-fits w f q a, own-fits w f q b)

  -- marks of two kinds that say the same of every rule
  marks-alike : (f g : List ℕ → Bool) → ((w : List ℕ) → rule_formed w ≡ true → rule_fits (f w) cut w ≡ rule_fits (g w) cut w) → (x y : List Bool) (i : ℕ) (ws : List (List ℕ)) (r s : List Bool)
      → all rule_formed ws ≡ true → drop i x ≡ map f ws ++ r → drop i y ≡ map g ws ++ s → rules_fit x cut i ws ≡ rules_fit y cut i ws
  unfolding rules_fit
  marks-alike f g h x y i [] r s k d e = refl
  marks-alike f g h x y i (w ∷ ws) r s k d e =
      rw (first x (f w) (map f ws ++ r) d, first y (g w) (map g ws ++ s) e, h w (all_head rule_formed w ws k))
      (ap (λ z. rule_fits (g w) cut w && z) (marks-alike f g h x y (suc i) ws r s (all_tail rule_formed w ws k) (next x (f w) (map f ws ++ r) d) (next y (g w) (map g ws ++ s) e)))
    where
      first : (x : List Bool) (b : Bool) (l : List Bool) → drop i x ≡ b ∷ l → get_or x i false ≡ b
      first x b l d = let z : i + 0 ≡ i = omega arith in rw z at (sym (get_or-drop i x 0 false)) ∙ ap (λ z. get_or z 0 false) d

      next : (x : List Bool) (b : Bool) (l : List Bool) → drop i x ≡ b ∷ l → drop (suc i) x ≡ l
      next x b l d = let z : suc i ≡ i + 1 = omega arith in ap (λ n. drop n x) z ∙ (sym (drop-drop 1 i x) ∙ ap (drop 1) d)

-- ---- a split that is measured

module _ {tol : Tolerance} {counter : ℕ} {t : Tables} {own : ℕ} {stations : List Float} {ids : ℕ} {k : Cutting} {anchored past : List Bool}
    (h : Measured tol counter t own stations ids k) (a : Anchored tol t stations k anchored past) where
  abbrev plan : Planned tol counter t own k.point k.seen k.cut stations
  plan = h.number.plan

  abbrev xs : List Piece
  xs = pieces_in counter t k.point k.seen k.cut

  abbrev ps : List LanePlan
  ps = plans_in t k.point k.seen stations

  -- ---- what counting asks

  picked-many : length (picked k.marks (rows 5 (λ w. w) t.boundaries)) ≡ k.many
  picked-many =
      sym (length-map (picked k.marks (rows 5 (λ w. w) t.boundaries)) (boundary_of t.coordinates)) ∙ (ap length (W.pieces_of h) ∙ (length-map xs (λ (x : Piece). x.of) ∙ sym (W.many_is h)))

  centers_are_short : all_rows 52 (λ w. leb (center_points w) 256) t.lanes ≡ true
  unfolding centers_stored all_rows
  centers_are_short =
      rows-weaker 52 (λ w. not (mark 6 w) || (stored t.coordinates (span_at 7 w) && leb (word 8 w) 256)) (λ w. leb (center_points w) 256) (λ w g. go w (mark 6 w) g) t.lanes
      (known plan).drawable.centers_are_stored
    where
      go : (w : List ℕ) (b : Bool) → (not b || (stored t.coordinates (span_at 7 w) && leb (word 8 w) 256)) ≡ true → leb (cond b (word 8 w) 0) 256 ≡ true
      go w true g = and-snd (stored t.coordinates (span_at 7 w)) (leb (word 8 w) 256) g
      go w false g = refl

  pub counting : Counting k.pieces k.lines k.centers k.marks k.seen t.lanes t.boundaries t.stop_lines t.crosswalks
  counting =
      record {
        of_boundaries =
            record {
              counts = (counts plan).boundaries;
              short = (known plan).boundary-short;
              marks_there = omega (arith, A.boundaries-few h.number, A.marks-many h.number);
              pieces_room = omega (arith, picked-many, W.pieces_room h);
              lines_room = omega (arith, picked-many, W.lines_room h);
              near = W.lines_near h;
            };
        of_lanes =
            record {
              counts = (counts plan).lanes;
              short = centers_are_short;
              marks_there = omega (arith, A.lanes-few h.number, A.seen-many h.number);
              centers_room = omega (arith, plan.many, W.centers_room h);
              near = W.centers_near h;
            };
        stops_counted = (counts plan).stop_lines;
        crosswalks_counted = (counts plan).crosswalks;
        stops_short = (known plan).stop-short;
        lefts_short = (known plan).left-short;
        rights_short = (known plan).right-short;
      }

  pub roads-of : ListsOf 68 3 k.cut t.roads
  roads-of =
      record { ascend = cut_up plan; list = omega arith; narrow = omega arith; counts = counted-more 256 4096 68 t.roads (omega arith) (counts plan).roads; rows = (known plan).parts.roads }

  pub junctions-of : ListsOf 69 4 k.cut t.junctions
  junctions-of =
      record { ascend = cut_up plan; list = omega arith; narrow = omega arith; counts = counted-more 256 4096 69 t.junctions (omega arith) (counts plan).junctions; rows = (known plan).parts.junctions }

  rules-few : word 0 t.rules ≤ 512
  rules-few = table-few 512 330 t.rules (counts plan).rules

  pub anchored-many : length anchored ≡ 512
  anchored-many =
      let l = anchored_by t.coordinates t.stop_lines t.crosswalks k.cut t.rules in
      let m : length l ≡ word 0 t.rules = length-map (rows 330 (λ w. w) t.rules) (λ w. is_there (anchor_of t.coordinates t.stop_lines t.crosswalks k.cut w)) ∙ A.rows-many 330 t.rules in
      ap length a.anchors ∙ (length_over (replicate 512 false) 0 l (omega (arith, rules-few, length-replicate 512 false)) ∙ length-replicate 512 false)

  pub rules-of : RulesOf anchored k.cut t.rules
  rules-of =
      record {
        ascend = cut_up plan;
        few = omega (arith, A.cut_few h.number);
        counts = (counts plan).rules;
        formed = (known plan).parts.rules;
        anchors = omega (arith, rules-few, anchored-many);
      }

  -- ---- anchors

  -- whether a rule has an anchor after the cut
  abbrev pub real_of : List ℕ → Bool
  real_of w = is_some (rule_anchor (cut_of t (next_id counter) (plans_in t k.point k.seen stations) (pieces_in counter t k.point k.seen k.cut)) (rule_of w))

  -- of all rules; `anchored` says so only of those that name a cut lane
  abbrev pub real : List Bool
  real = rows 330 real_of t.rules

  real-at : (j : ℕ) → j < word 0 t.rules → get_or real j false ≡ real_of (row_at 330 t.rules j)
  unfolding rows
  real-at j l = get_d_reads 330 real_of (word 0 t.rules) j (drop 1 t.rules) false l ∙ rw drop-drop

  abbrev told_of : List ℕ → Bool
  told_of w = is_there (anchor_of t.coordinates t.stop_lines t.crosswalks k.cut w)

  anchor_same : (w : List ℕ) → rule_anchor (cut_of t (next_id counter) ps xs) (rule_of w) ≡ rule_anchor (crossed t.coordinates t.stop_lines t.crosswalks) (rule_of w)
  unfolding view
  anchor_same w = anchor_after (view t) ps k.cut (lanes_in t k.seen) k.point (next_id counter) (accepted h.number) t.coordinates t.stop_lines t.crosswalks refl refl (rule_of w)

  rule-alike : (w : List ℕ) → rule_formed w ≡ true → rule_fits (told_of w) k.cut w ≡ rule_fits (real_of w) k.cut w
  rule-alike w f = go (any (λ i. has i k.cut) (ids_at 5 w)) refl
    where
      there-some : (o : Option Point2) → is_there o ≡ is_some o
      there-some None = refl
      there-some (Some a) = refl

      go : (b : Bool) → any (λ i. has i k.cut) (ids_at 5 w) ≡ b → rule_fits (told_of w) k.cut w ≡ rule_fits (real_of w) k.cut w
      go true q =
          let o = rule_anchor (crossed t.coordinates t.stop_lines t.crosswalks) (rule_of w) in
          let e : told_of w ≡ is_some o = ap (λ b. is_there (cond b o None)) q ∙ there-some o in
          ap (λ b. rule_fits b k.cut w) (e ∙ ap is_some (sym (anchor_same w)))
      go false q = rule-either k.cut w f q (told_of w) (real_of w)

  rules-passing : all rule_formed (rows 330 (λ w. w) t.rules) ≡ true
  rules-passing = every_row 330 (λ w. w) rule_formed t.rules ∙ (known plan).parts.rules

  -- a rule that names no cut lane fits with either mark
  pub rules-same : rules_fit anchored k.cut 0 (rows 330 (λ w. w) t.rules) ≡ rules_fit real k.cut 0 (rows 330 (λ w. w) t.rules)
  unfolding over rows
  rules-same =
      let ws = rows 330 (λ w. w) t.rules in
      let e : real ≡ map real_of ws ++ [] = sym (append-nil (map real_of ws) ∙ mapped-reads 330 (λ (w : List ℕ). w) real_of (word 0 t.rules) (drop 1 t.rules)) in
      marks-alike k.cut told_of real_of rule-alike anchored real 0 ws (drop (0 + length (map told_of ws)) (replicate 512 false)) [] rules-passing a.anchors e

  -- ---- room

  abbrev short : Line → Bool
  short l = leb (length l) 256

  lines-short : (all (λ b. short b.geometry) (view t).boundaries ≡ true) × (all (λ l. all short (S.optional_line l.centerline)) (view t).lanes ≡ true)
      × (all (λ s. short s.geometry) (view t).stop_lines ≡ true) × (all (λ c. short c.left_edge) (view t).crosswalks ≡ true) × (all (λ c. short c.right_edge) (view t).crosswalks ≡ true)
  lines-short =
      five-of (all (λ b. short b.geometry) (view t).boundaries) (all (λ l. all short (S.optional_line l.centerline)) (view t).lanes) (all (λ s. short s.geometry) (view t).stop_lines)
      (all (λ c. short c.left_edge) (view t).crosswalks) (all (λ c. short c.right_edge) (view t).crosswalks) (sym (all_lines short (view t)) ∙ (limits (view t) (limits-kept plan)).short)

  pub told : Told t (next_id counter) (plans_in t k.point k.seen stations) (pieces_in counter t k.point k.seen k.cut) k.pieces k.lines k.centers k.marks k.seen real
  unfolding all_stored
  told =
      let (bs, cs, ss, ls, rs) = lines-short in
      record {
        limits = limits-kept plan;
        linked = linked plan;
        planned = planned plan;
        cuts = cuts-up plan;
        new = cuts-below (view t) ps k.cut (lanes_in t k.seen) k.point (next_id counter) (accepted h.number);
        boundaries-up = A.boundaries-up h.number;
        marked = omega (arith, A.boundaries-few h.number, A.marks-many h.number);
        boundaries_are_cut = W.pieces_of h;
        boundaries-told = words-told k.pieces k.lines 0 k.reach xs (W.piece-words h);
        boundaries_stored = (known plan).boundary_lines;
        boundaries_short = bs;
        lanes-up = sorted-ascends 1024 52 t.lanes (known plan).drawable.lanes_are_sorted;
        lanes-seen = omega (arith, A.lanes-few h.number, A.seen-many h.number);
        lanes_are_cut = sym (of_lanes plan);
        lanes-told = W.plans-told h;
        centers_are_stored = (known plan).drawable.centers_are_stored;
        stops_stored = (known plan).crossable.stops_stored;
        lefts_stored = (known plan).crossable.lefts_stored;
        rights_stored = (known plan).crossable.rights_stored;
        stops_short = all_map short (λ s. s.geometry) (view t).stop_lines ∙ ss;
        lefts_short = all_map short (λ x. x.left_edge) (view t).crosswalks ∙ ls;
        rights_short = all_map short (λ x. x.right_edge) (view t).crosswalks ∙ rs;
        roads-counted = (counts plan).roads;
        road_lists = (known plan).parts.roads;
        junctions-counted = (counts plan).junctions;
        junction_lists = (known plan).parts.junctions;
        rules-counted = (counts plan).rules;
        rules-formed = (known plan).parts.rules;
        rules-calm = rules-calm h.number;
        anchors = real-at;
      }

  pub room-is : fits_room (room_of t) (split_of tol counter t own k.point k.seen k.cut stations).result
      ≡ (((pieces_fit k.lines 0 k.many && pieces_fit k.centers 0 (length k.cut))
      && points_fit (points_after k.pieces k.lines k.centers k.marks k.seen t.lanes t.boundaries t.stop_lines t.crosswalks) t.coordinates)
      && ((all_rows 68 (list_fits k.cut 3) t.roads && all_rows 69 (list_fits k.cut 4) t.junctions) && rules_fit anchored k.cut 0 (rows 330 (λ w. w) t.rules)))
  unfolding split_of
  room-is =
      room_split t tol (next_id counter) own k.cut ps xs k.pieces k.lines k.centers k.marks k.seen real told
      ∙ put (many-plans plan) (pieces-many h.number) (sym (W.many_is h)) plan.ids
    where
      n : ℕ
      n = points_after k.pieces k.lines k.centers k.marks k.seen t.lanes t.boundaries t.stop_lines t.crosswalks

      sorted : (s p r j u : Bool) → (s && (p && (r && (j && u)))) ≡ ((s && p) && ((r && j) && u))
      sorted false p r j u = refl
      sorted true false r j u = refl
      sorted true true false j u = refl
      sorted true true true j u = refl

      put : {l i m : ℕ} {c : List ℕ} → l ≡ length k.cut → i ≡ ids → m ≡ k.many → c ≡ k.cut
          → (rows_fit 1024 52 (word 0 t.lanes + l) t.lanes
          && (rows_fit 4096 5 (word 0 t.boundaries + i) t.boundaries
          && ((pieces_fit k.lines 0 m && pieces_fit k.centers 0 l)
          && (points_fit n t.coordinates && (all_rows 68 (list_fits c 3) t.roads && (all_rows 69 (list_fits c 4) t.junctions && rules_fit real c 0 (rows 330 (λ w. w) t.rules)))))))
          ≡ (((pieces_fit k.lines 0 k.many && pieces_fit k.centers 0 (length k.cut)) && points_fit n t.coordinates)
          && ((all_rows 68 (list_fits k.cut 3) t.roads && all_rows 69 (list_fits k.cut 4) t.junctions) && rules_fit anchored k.cut 0 (rows 330 (λ w. w) t.rules)))
      put e1 e2 e3 e4 =
          rw (e1, e2, e3, e4, h.number.lanes_fit, h.number.boundaries_fit, rules-same)
          (sorted (pieces_fit k.lines 0 k.many && pieces_fit k.centers 0 (length k.cut)) (points_fit n t.coordinates) (all_rows 68 (list_fits k.cut 3) t.roads) (all_rows 69 (list_fits k.cut 4) t.junctions)
          (rules_fit real k.cut 0 (rows 330 (λ w. w) t.rules)))
