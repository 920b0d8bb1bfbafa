-- A split that is planned, from ids and rows to its end: what its steps ask, and that it ends as document 01 says. Assumes nothing.
use Rattle.std.specs.Prelude.{Option, None, Some, Err}
use mathlib.Core.Path.{◌≡◌, refl, sym, ap, ◌∙◌, subst}
use Prim.Native.Nat.{ℕ, ◌+◌, ◌*◌, ◌/◌, ◌^◌, ◌≤◌, ◌<◌, min}
use native.Mathlib.Omega.{arith}
use mathlib.Core.Bool.{Bool, true, false, not, cond, ◌&&◌}
use mathlib.Core.List.{List, [], ◌∷◌}
use lib.Dec.{leb}
use lib.Ieee.{Float}
use lib.ListN.{length, replicate, drop, length-append, length-map, length-replicate}
use Rattle.lists.specs.Every.{all}
use Rattle.lists.specs.Rows.{over, row_with}
use Rattle.lists.specs.Select.{each, has}
use Rattle.lists.proofs.Booleans.{and-fst, and-snd}
use Rattle.lists.proofs.Rows.{length-keys, length_over}
use Rattle.rules.specs.Names.{Tolerance, Point2, EntityKind, EntityRef, LaneKind, BoundaryKind, NoRoom, NoIds}
use Rattle.rules.specs.Sound.{fits_room, last_counter, next_id}
use Rattle.rules.specs.Edit.{Edited, refs, up_from}
use Rattle.rules.specs.Split as R
use Rattle.rules.specs.Split.{group_of}
use Rattle.rules.specs.Ops as O
use Rattle.tables.specs.View.{Tables, word, rows}
use Rattle.tables.specs.Formed.{spans}
use Rattle.apart.specs.Marks.{within}
use Rattle.apart.proofs.Marks.{counted-facts}
use Rattle.store.specs.Store.{room_of}
use Rattle.store.specs.Laid.{laid}
use Rattle.report.specs.Report.{listed, warned, accepting, counts, counter_behind, Answer, divided}
use Rattle.report.specs.declared.Counts.{Counts}
use Rattle.report.proofs.Laws.{length_up}
use Rattle.room.specs.Room.{ids_left, rows_fit, lists_fit}
use Rattle.step.specs.Step.{Lent, Ended, ended, lists_of, refusing}
use Rattle.layout.specs.Layout.{line_tables, counted_lines, last_point}
use Rattle.layout.proofs.Room.{all_within_more}
use Rattle.lookup.specs.Lookup.{row_at}
use Rattle.group.specs.Walk.{lane_map, ids_of}
use Rattle.group.proofs.Choose.{unset}
use Rattle.split_plan.specs.Placing.{group_marks}
use Rattle.split_pieces.specs.Pieces as Q
use Rattle.split_lists.specs.Changes.{created_by}
use Rattle.split_relay.specs.Relaying.{Cutting, drawn_points}
use Rattle.split_touched.specs.Modified.{modified_of, blank, Touchable, Modifiable}
use Rattle.split_made.specs.declared.Drawn.{Drawn}
use Rattle.split_made.specs.Made.{Fittable, Left, Makeable, Notable, answer_of, counts_of, fits_after, left, lined, modified_in, rows_in, split_made, tables_cut, told_by, warnings_in}
use Rattle.split_facts.specs.Splitting.{Anchored, Measured, Numbered, Planned, pieces_in, reach_of, split_ends, split_of, written}
use Rattle.split_facts.proofs.Facts as F
use Rattle.split_facts.proofs.Asks as A
use Rattle.split_facts.proofs.Words as W
use Rattle.split_facts.proofs.Room as M
use Rattle.split_facts.proofs.Lists as L
use Rattle.split_facts.proofs.Named as N
use Rattle.split_facts.proofs.Laid as D
use Rattle.edit_split.specs.Parts.{MayAnchor, Pieced, anchored_in, past_in, split_anchored, split_fits}

-- ---- ids and rows

-- as many ids as two a boundary
ids_few : (seen : List Bool) (lanes ks : List ℕ) → Q.ids_of seen lanes ks ≤ length ks * 2
unfolding Q.ids_of
ids_few seen lanes [] = omega arith
ids_few seen lanes (k ∷ ks) = let r = ids_few seen lanes ks in let f = few (Q.used_beyond seen lanes k) in omega arith
  where
    few : (b : Bool) → Q.ids_if b ≤ 2
    few true = omega arith
    few false = omega arith

module _ {tol : Tolerance} {own : ℕ} {p : Point2} {seen : List Bool} {cut : List ℕ} {stations : List Float} (l : Lent) (k : Planned tol l.counter l.tables own p seen cut stations)
    (marks : List Bool) (em : marks ≡ over (replicate 4096 false) 0 (Q.cut_marks seen l.tables.lanes l.tables.boundaries)) (ids : ℕ)
    (ei : ids ≡ Q.ids_of seen l.tables.lanes (Q.cut_keys marks l.tables.boundaries)) where
  pieces-many : R.pieces_ids (pieces_in l.counter l.tables p seen cut) ≡ ids
  pieces-many = F.piece-ids k (replicate 4096 false) marks em ∙ sym ei

  ids-told : (split_of tol l.counter l.tables own p seen cut stations).ids ≡ ids + length cut
  unfolding split_of R.cut
  ids-told = both pieces-many (F.many-plans k)
    where
      both : {a b c d : ℕ} → a ≡ b → c ≡ d → a + c ≡ b + d
      both e f = rw (e, f)

  pub no-ids : ids_left l.counter (ids + length cut) ≡ false → ended l (Err NoIds) ≡ split_ends tol own p seen cut stations l
  unfolding split_ends
  no-ids f = rw (ids-told, f)

  module _ (left : ids_left l.counter (ids + length cut) ≡ true) where
    pub no_rows : (rows_fit 1024 52 (word 0 l.tables.lanes + length cut) l.tables.lanes && rows_fit 4096 5 (word 0 l.tables.boundaries + ids) l.tables.boundaries) ≡ false
        → ended l (Err NoRoom) ≡ split_ends tol own p seen cut stations l
    unfolding split_ends
    no_rows f = rw (ids-told, left, M.rows-full k ids pieces-many f)

    pub numbered : (rows_fit 1024 52 (word 0 l.tables.lanes + length cut) l.tables.lanes && rows_fit 4096 5 (word 0 l.tables.boundaries + ids) l.tables.boundaries) ≡ true
        → Numbered tol l.counter l.tables own p seen cut stations ids marks
    numbered f =
        let a = rows_fit 1024 52 (word 0 l.tables.lanes + length cut) l.tables.lanes in
        let b = rows_fit 4096 5 (word 0 l.tables.boundaries + ids) l.tables.boundaries in
        record { plan = k; marked = em; counted = ei; left = left; lanes_fit = and-fst a b f; boundaries_fit = and-snd a b f }

-- ---- what the first steps ask

-- a test that is negated
pub off : (b : Bool) → not b ≡ true → b ≡ false
off true e = sym e
off false e = refl

pub on : (b : Bool) → not b ≡ false → b ≡ true
on true e = refl
on false e = sym e

-- two tests as they were made
pub both_told : (a b x y r : Bool) → a ≡ x → b ≡ y → r ≡ (a && b) → r ≡ (x && y)
both_told a b x y r e f g = rw (← e, ← f) g

module _ {tol : Tolerance} {counter : ℕ} {t : Tables} {own : ℕ} {p : Point2} {seen : List Bool} {cut : List ℕ} {stations : List Float} (k : Planned tol counter t own p seen cut stations) where
  lanes-few : word 0 t.lanes ≤ 1024
  lanes-few = (counted-facts 1024 52 t.lanes (F.counts k).lanes).1.0

  boundaries-few : word 0 t.boundaries ≤ 4096
  boundaries-few = (counted-facts 4096 5 t.boundaries (F.counts k).boundaries).1.0

  pub lanes-there : 1 ≤ length t.lanes
  lanes-there = (counted-facts 1024 52 t.lanes (F.counts k).lanes).0

  pub boundaries-there : 1 ≤ length t.boundaries
  boundaries-there = (counted-facts 4096 5 t.boundaries (F.counts k).boundaries).0

  pub cut_small : (length cut ≤ 1024) × ((word 0 t.lanes ≤ 1024) × (word 0 t.boundaries ≤ 4096))
  cut_small = (omega (arith, k.many, A.picked-few seen (rows 52 (λ (w : List ℕ). w) t.lanes), A.rows-many 52 t.lanes, lanes-few), (lanes-few, boundaries-few))

  seen-many : length seen ≡ 1024
  seen-many =
      ap length k.marked
      ∙ (length_over (replicate 1024 false) 0 (group_marks t.lanes k.row k.neighbors) (omega (arith, length-replicate {A = Bool} 1024 false, length-map (ids_of t.lanes) (λ i. has i (group_of (lane_map t.lanes) (word 0 (row_at 52 t.lanes k.row)) k.neighbors)), length-keys 52 (word 0 t.lanes) (drop 1 t.lanes), lanes-few))
      ∙ length-replicate 1024 false)

  markable : (marks : List Bool) → length marks ≡ 4096 → Q.Markable t.lanes t.boundaries marks
  markable marks l = ((F.known k).drawable.lanes_are_sorted, ((F.known k).boundaries, omega (arith, boundaries-few)))

  pub mark-asks : Q.Markable t.lanes t.boundaries (replicate 4096 false) × ((word 0 t.lanes ≤ length seen) × (all not (replicate 4096 false) ≡ true))
  mark-asks = (markable (replicate 4096 false) (length-replicate 4096 false), (omega (arith, seen-many, lanes-few), unset 4096))

  pub count-asks : (marks : List Bool) → length marks ≡ length (replicate 4096 false) → Q.Countable t.lanes seen t.boundaries marks
  count-asks marks l = (markable marks (omega (arith, length-replicate {A = Bool} 4096 false)), omega (arith, seen-many, lanes-few))

  -- how far the lines reach
  lines-spans : (c : List Float) → spans (line_tables t.lanes t.boundaries t.stop_lines t.crosswalks c) ≡ spans t
  unfolding spans
  lines-spans c = refl

  pub reach-asks : (counted_lines (line_tables t.lanes t.boundaries t.stop_lines t.crosswalks []) ≡ true) × (all (within 65536) (spans (line_tables t.lanes t.boundaries t.stop_lines t.crosswalks [])) ≡ true)
  unfolding counted_lines
  reach-asks = (
    let n = F.counts k in rw (n.lanes, n.boundaries, n.stop_lines, n.crosswalks),
    ap (all (within 65536)) (lines-spans []) ∙ all_within_more (min 65536 (length t.coordinates / 3)) 65536 (spans t) (omega arith) (F.known k).parts.store,
  )

  reach-told : (reach : ℕ) → reach ≡ last_point (spans (line_tables t.lanes t.boundaries t.stop_lines t.crosswalks [])) → reach ≡ reach_of t
  reach-told reach e = e ∙ ap last_point (lines-spans [] ∙ sym (lines-spans t.coordinates))

module _ {tol : Tolerance} {counter : ℕ} {t : Tables} {own : ℕ} {p : Point2} {seen : List Bool} {cut : List ℕ} {stations : List Float} {ids : ℕ} {marks : List Bool}
    (n : Numbered tol counter t own p seen cut stations ids marks) (first : ℕ) (ef : first ≡ next_id counter) where
  pub pieces-ask : Q.Countable t.lanes seen t.boundaries marks
      × ((first + Q.ids_of seen t.lanes (Q.cut_keys marks t.boundaries) < 2 ^ 64) × (length (Q.cut_keys marks t.boundaries) * 3 ≤ length {A = ℕ} (replicate 3072 0)))
  pieces-ask = (A.countable n, (omega (arith, A.ids-fit n), omega (arith, A.keys-few n, length-replicate {A = ℕ} 3072 0)))

  pub pieced : (pieces : List ℕ) (many reach : ℕ)
      → (many ≡ length (Q.cut_keys marks t.boundaries)) × (pieces ≡ over (replicate 3072 0) 0 (Q.piece_words seen t.lanes first (Q.cut_keys marks t.boundaries)))
      → reach ≡ last_point (spans (line_tables t.lanes t.boundaries t.stop_lines t.crosswalks [])) → Pieced tol counter t own p seen cut stations ids marks pieces many reach
  pieced pieces many reach e r =
      record {
        number = n;
        listed = e.1 ∙ ap (λ f. over (replicate 3072 0) 0 (Q.piece_words seen t.lanes f (Q.cut_keys marks t.boundaries))) ef;
        count = e.0;
        reaches = reach-told n.plan reach r;
      }

-- ---- measured

module _ {tol : Tolerance} {counter : ℕ} {t : Tables} {own : ℕ} {stations : List Float} {ids : ℕ} {k : Cutting} (h : Measured tol counter t own stations ids k) where
  abbrev E : Edited
  E = split_of tol counter t own k.point k.seen k.cut stations

  abbrev anchored : List Bool
  anchored = anchored_in k t

  abbrev past : List Bool
  past = past_in tol.join stations k t

  known : Anchored tol t stations k (anchored_in k t) (past_in tol.join stations k t)
  known = record { anchors = refl; sides = refl }

  read : D.Read h
  read =
      record {
        pieces_of = W.pieces_of h;
        many_is = W.many_is h;
        piece-words = W.piece-words h;
        piece-keys = W.piece-keys h;
        keys-up = W.keys-up h;
        piece-lines = W.piece-lines h;
        plans-told = W.plans-told h;
        starts-at = W.starts-at h;
        center_lines = W.center_lines h;
        lines_near = W.lines_near h;
        centers_near = W.centers_near h;
        pieces_room = W.pieces_room h;
        lines_room = W.lines_room h;
        centers_room = W.centers_room h;
        boundaries-chosen = A.boundaries-chosen h.number;
        lanes-chosen = A.lanes-chosen h.number;
        reach_near = W.reach_few h;
        reach-stored = subst (λ n. n * 3 ≤ length t.coordinates) (sym h.reach) (A.reach-stored h.number);
      }

  fittable : Fittable k (anchored_in k t) t
  fittable =
      record {
        lines = W.lines_room h;
        centers = W.centers_room h;
        counting = M.counting h known;
        roads = M.roads-of h known;
        junctions = M.junctions-of h known;
        rules = M.rules-of h known;
      }

  fits-is : fits_room (room_of t) (split_of tol counter t own k.point k.seen k.cut stations).result ≡ fits_after k (anchored_in k t) t
  fits-is = M.room-is h known

  touchable : Touchable (told_by k (anchored_in k t) (past_in tol.join stations k t)) (rows_in t) blank
  touchable =
      let few = L.counts-few h in
      let alone = L.alone-asks h (W.pieces_of h) (W.many_is h) (W.pieces_room h) in
      record {
        lanes_named = L.lanes_named h (replicate 1024 false) (length-replicate 1024 false);
        boundaries_counted = (F.counts h.number.plan).boundaries;
        boundaries_are_cut = alone.0;
        boundaries_marked = omega (arith, few.boundaries, length-replicate {A = Bool} 4096 false);
        pieces = alone.1;
        roads_named = L.roads_named h (replicate 256 false) (length-replicate 256 false);
        junctions_named = L.junctions_named h (replicate 256 false) (length-replicate 256 false);
        rules_marked = L.rules-asks h known (replicate 512 false) (length-replicate 512 false);
      }

  modifiable : Modifiable (told_by k (anchored_in k t) (past_in tol.join stations k t)) (rows_in t)
  modifiable =
      record {
        touchable = touchable;
        every_row =
            L.all_listed h (replicate 1024 false) (replicate 4096 false) (replicate 256 false) (replicate 256 false) (replicate 512 false) (length-replicate 1024 false) (length-replicate 4096 false)
            (length-replicate 256 false) (length-replicate 256 false) (length-replicate 512 false);
      }

  notable : Notable (next_id counter) ids k (anchored_in k t) (past_in tol.join stations k t) t
  notable =
      record {
        modifiable = modifiable;
        pieces = W.pieces_room h;
        few = omega (arith, W.many_is h, W.pieces-few h);
        beside = L.beside h;
        ids_are_left = F.ids-small h.number;
        ids_few = omega (arith, h.number.counted, ids_few k.seen t.lanes (Q.cut_keys k.marks t.boundaries), A.keys-few h.number);
        cut_few = omega (arith, A.cut_few h.number);
      }

  -- what is decided of it
  module _ (d : Drawn) (own_is : d.own ≡ own) (ids-is : d.ids ≡ ids) (first-is : d.first ≡ next_id counter) (points-are : d.points ≡ drawn_points k (lined t)) where
    module _ (fit : fits_after k (anchored_in k t) t ≡ true) where
      room : fits_room (room_of t) (split_of tol counter t own k.point k.seen k.cut stations).result ≡ true
      room = fits-is ∙ fit

      makeable : Makeable d k (anchored_in k t) (past_in tol.join stations k t) t
      makeable =
          record {
            writable =
                record {
                  roads = N.roads-grow h room;
                  junctions = N.junctions-grow h room;
                  rules = N.rules-follow h known room;
                  lines = D.relayable h read room;
                  drawn = points-are;
                };
            notable = rw (ids-is, first-is) notable;
          }

      tables-fields : {l l₁ o o₁ r r₁ u u₁ v v₁ s s₁ x x₁ : List ℕ} {c c₁ : List Float} → l ≡ l₁ → o ≡ o₁ → r ≡ r₁ → u ≡ u₁ → v ≡ v₁ → s ≡ s₁ → x ≡ x₁ → c ≡ c₁
          → ◌≡◌ {A = Tables} (record { lanes = l; boundaries = o; roads = r; junctions = u; rules = v; stop_lines = s; crosswalks = x; coordinates = c })
          (record { lanes = l₁; boundaries = o₁; roads = r₁; junctions = u₁; rules = v₁; stop_lines = s₁; crosswalks = x₁; coordinates = c₁ })
      tables-fields p q r u v w x y = cc

      -- the tables
      tables-are : tables_cut k (drawn_points k (lined t)) (anchored_in k t) (past_in tol.join stations k t) t ≡ laid t (split_of tol counter t own k.point k.seen k.cut stations).result
      unfolding tables_cut laid
      tables-are =
          let q = D.relay_laid h read room in
          tables-fields (ap (λ z. z.lanes) q) (ap (λ z. z.boundaries) q) (N.roads-are h room) (N.junctions-are h room) (N.rules-are h known room) (ap (λ z. z.stop_lines) q)
          (ap (λ z. z.crosswalks) q) (ap (λ z. z.coordinates) q)

    -- the lists
    modified-are : modified_in k (anchored_in k t) (past_in tol.join stations k t) t ≡ (split_of tol counter t own k.point k.seen k.cut stations).changes.modified
    unfolding modified_of
    modified-are =
        sym (L.modified_is h known (W.piece-words h) (W.pieces_of h) (replicate 1024 false) (replicate 4096 false) (replicate 256 false) (replicate 256 false) (replicate 512 false))

    warnings-are : warnings_in k t ≡ (split_of tol counter t own k.point k.seen k.cut stations).changes.warnings
    warnings-are = sym (L.warnings_is h (W.piece-words h) (W.many_is h))

    created-many : length (split_of tol counter t own k.point k.seen k.cut stations).changes.created ≡ ids + length k.cut
    created-many =
        let ls = refs LaneKind (up_from (next_id counter + ids) (length k.cut)) in
        let bs = refs BoundaryKind (up_from (next_id counter) ids) in
        omega (
          arith,
          ap length (L.created_is h),
          length-append ls bs,
          as_many LaneKind (up_from (next_id counter + ids) (length k.cut)),
          as_many BoundaryKind (up_from (next_id counter) ids),
          length_up (next_id counter + ids) (length k.cut),
          length_up (next_id counter) ids,
        )
      where
        as_many : (kind : EntityKind) (is : List ℕ) → length (refs kind is) ≡ length is
        as_many kind is = length-map {B = EntityRef} is (λ i. record { kind = kind; id = i })

    counts-are : counts_of ids k (anchored_in k t) (past_in tol.join stations k t) t ≡ counts (split_of tol counter t own k.point k.seen k.cut stations).changes
    counts-are = four (sym created-many) (ap length modified-are) (sym (ap length (L.deleted_is h))) (ap length warnings-are)
      where
        four : {x y z w x' y' z' w' : ℕ} → x ≡ x' → y ≡ y' → z ≡ z' → w ≡ w'
            → ◌≡◌ {A = Counts} (record { created = x; modified = y; deleted = z; warnings = w }) (record { created = x'; modified = y'; deleted = z'; warnings = w' })
        four p q r s = rw (p, q, r, s)

    answer_is : answer_of (counts_of ids k (anchored_in k t) (past_in tol.join stations k t) t) k.next (row_with own k.cut)
        ≡ accepting (split_of tol counter t own k.point k.seen k.cut stations).changes (split_of tol counter t own k.point k.seen k.cut stations).second
    answer_is =
        let (r, (e, s)) = L.own-place h in
        ap (answer_of (counts_of ids k (anchored_in k t) (past_in tol.join stations k t) t) k.next) e
        ∙ (ap (λ n. divided n (k.next + r)) counts-are ∙ sym (ap (accepting (split_of tol counter t own k.point k.seen k.cut stations).changes) (L.second_is h r e)))

    -- ---- how it ends

    module _ (created modified deleted warnings : List ℕ) where
      abbrev l : Lent
      l = record { counter = counter; tables = t; created = created; modified = modified; deleted = deleted; warnings = warnings }

      -- what is left, with the counter that follows from the answer
      abbrev pub closed : Left → Ended
      closed x =
          ended
          (record { counter = counter_behind counter x.answer; tables = x.tables; created = x.created; modified = x.modified; deleted = x.deleted; warnings = x.warnings })
          x.answer

      lists_told : O.fits_lists (lists_of l) E.changes ≡ lists_fit (counts_of ids k anchored past t) created modified deleted warnings
      lists_told = ap (λ (n : Counts). lists_fit n created modified deleted warnings) (sym counts-are)

      made-fields : {a a₁ : ℕ} {u u₁ : Tables} {c c₁ m m₁ x x₁ w w₁ : List ℕ} {r r₁ : Answer} → a ≡ a₁ → u ≡ u₁ → c ≡ c₁ → m ≡ m₁ → x ≡ x₁ → w ≡ w₁ → r ≡ r₁
          → ◌≡◌ {A = Ended} (ended (record { counter = a; tables = u; created = c; modified = m; deleted = x; warnings = w }) r)
          (ended (record { counter = a₁; tables = u₁; created = c₁; modified = m₁; deleted = x₁; warnings = w₁ }) r₁)
      made-fields p q r s u v w = rw (p, q, r, s, u, v, w)

      -- an accepted call, part by part
      counter-is : counter_behind counter (answer_of (counts_of ids k anchored past t) k.next (row_with own k.cut)) ≡ O.counter_after counter E.ids
      counter-is = go (row_with own k.cut) ∙ ap (O.counter_after counter) (sym (L.ids-is h))
        where
          go : (f : Option ℕ) → counter_behind counter (answer_of (counts_of ids k anchored past t) k.next f) ≡ O.counter_after counter (ids + length k.cut)
          go (Some r) = refl
          go None = refl

      none-deleted : deleted ≡ listed deleted E.changes.deleted
      none-deleted = nothing deleted ∙ ap (listed deleted) (sym (L.deleted_is h))
        where
          nothing : (w : List ℕ) → w ≡ listed w []
          nothing w = unfold listed over each in refl

      all_made : fits_after k (anchored_in k t) t ≡ true
          → closed (left (tables_cut k d.points anchored past t) (listed created (created_by d.first d.ids (length k.cut))) (listed modified (modified_in k anchored past t)) deleted (warned warnings (warnings_in k t))
          (answer_of (counts_of ids k anchored past t) k.next (row_with own k.cut))) ≡ written l E
      all_made fit =
          made-fields counter-is (ap (λ n. tables_cut k n anchored past t) points-are ∙ tables-are fit) (ap (listed created) (created-same first-is ids-is ∙ sym (L.created_is h))) (ap (listed modified) modified-are) none-deleted
          (ap (warned warnings) warnings-are) answer_is
        where
          created-same : {a b c e : ℕ} → a ≡ b → c ≡ e → created_by a c (length k.cut) ≡ created_by b e (length k.cut)
          created-same p q = rw (p, q)

      by-lists : fits_after k (anchored_in k t) t ≡ true → (q : Bool) → lists_fit (counts_of ids k anchored past t) created modified deleted warnings ≡ q
          → closed (split_made d k anchored past t created modified deleted warnings) ≡ cond q (written l E) (refusing l NoRoom)
      unfolding split_made
      by-lists fit q f = rw (ids-is, own_is, f) (last q)
        where
          last : (q : Bool)
              → closed (cond q (left (tables_cut k d.points anchored past t) (listed created (created_by d.first ids (length k.cut))) (listed modified (modified_in k anchored past t)) deleted (warned warnings (warnings_in k t))
              (answer_of (counts_of ids k anchored past t) k.next (row_with own k.cut))) (left t created modified deleted warnings (Err NoRoom))) ≡ cond q (written l E) (refusing l NoRoom)
          last true = rw ids-is at (all_made fit)
          last false = refl

      pub ends : closed (split_anchored tol.join stations d k t created modified deleted warnings) ≡ split_ends tol own k.point k.seen k.cut stations l
      unfolding split_anchored split_fits split_ends
      ends = rw enough (go (fits_after k anchored t) refl)
        where
          enough : leb (O.counter_after counter E.ids) last_counter ≡ true
          enough = ap (λ n. leb (O.counter_after counter n) last_counter) (L.ids-is h) ∙ h.number.left

          go : (b : Bool) → fits_after k anchored t ≡ b
              → closed (cond b (split_made d k anchored past t created modified deleted warnings) (left t created modified deleted warnings (Err NoRoom)))
              ≡ cond (fits_room (room_of t) E.result && O.fits_lists (lists_of l) E.changes) (written l E) (refusing l NoRoom)
          go false e = rw (fits-is ∙ e)
          go true e = rw (fits-is ∙ e, lists_told) (by-lists e (lists_fit (counts_of ids k anchored past t) created modified deleted warnings) refl)

      pub may_anchor : MayAnchor tol.join stations d k t
      may_anchor =
          record {
            marking = A.rules-marking h.number (replicate 512 false) (replicate 32768 false) (length-replicate 512 false) (length-replicate 32768 false);
            may_make = record { fittable = fittable; makeable = λ fit. makeable fit };
          }
