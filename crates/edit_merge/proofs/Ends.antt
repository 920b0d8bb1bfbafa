-- A call of merge_lanes, by how it ends, as the one equation with `step`. Assumes nothing.
use Rattle.std.specs.Prelude.{None, Some, Err, Ok}
use mathlib.Core.Path.{◌≡◌, refl, sym, ap, ◌∙◌}
use Prim.Native.Nat.{ℕ, ◌+◌, ◌/◌, ◌^◌, ◌≤◌, ◌<◌, min}
use native.Mathlib.Omega.{arith}
use mathlib.Core.Bool.{Bool, true, false, cond, ◌&&◌}
use mathlib.Core.List.{List, [], ◌∷◌}
use lib.Dec.{leb}
use lib.Ieee.{Float}
use lib.ListN.{length, length-append}
use Rattle.entities.specs.Records.{Lane, Map, Issue, ChangeSet}
use Rattle.rules.specs.Names.{Tolerance, EntityRef, LaneKind, BoundaryKind, Refusal, LaneAbsent, NotMergeable, NoRoom, NoIds}
use Rattle.rules.specs.Sound.{fits_room, last_counter, next_id}
use Rattle.rules.specs.Edit as E
use Rattle.rules.specs.Edit.{refs, up_from}
use Rattle.rules.specs.Merge.{plan_ids, merged, merge_lanes}
use Rattle.rules.specs.Ops as O
use Rattle.tables.specs.View.{Tables, word, view, lane_of}
use Rattle.tables.specs.Formed.{sound_tables, spans}
use Rattle.store.specs.Store.{room_of}
use Rattle.store.specs.Laid.{laid}
use Rattle.layout.specs.Layout.{last_point}
use Rattle.lookup.specs.Lookup.{place_of, row_at}
use Rattle.report.specs.Report.{listed, warned, counts, changed}
use Rattle.report.specs.declared.Counts.{Counts}
use Rattle.report.proofs.Laws.{length_up}
use Rattle.step.specs.Step.{Lent, Ended, ended, step, state_of, lists_of, refusing, changing}
use Rattle.step.proofs.Steps.{step-refused, step_exhausted, step-decided}
use Rattle.sound_facts.proofs.Found.{sound-formed, lane-there, lane-missing}
use Rattle.room.specs.Room.{ids_left, lists_fit}
use Rattle.merge_plan.specs.Deciding.{lane_in, follows, planned}
use Rattle.merge_plan.specs.Sides.{side_ids}
use Rattle.merge_plan.specs.declared.Plan.{Plan}
use Rattle.merge_decide.proofs.Whole.{Plans, merge-unfit, merge-refused, merge-planned}
use Rattle.merge_gone.specs.Leaving.{fits_after}
use Rattle.merge_lists.specs.Changes.{touched, leaving, warnings_of}
use Rattle.merge_lists.proofs.Standing.{length-refs}
use Rattle.merge_laid.proofs.Planning.{Planning}
use Rattle.merge_laid.proofs.Merging.{Merging}
use Rattle.merge_laid.proofs.Whole.{lines-spans, relay_laid}
use Rattle.merge_changes.proofs.Lists.{plan-ids, created-read, modified-read, deleted-read, warnings-read}
use Rattle.merge_changes.proofs.Tables.{roads-forget, junctions-forget, rules-replace}
use Rattle.merge_limits.proofs.Asked as M
use Rattle.merge_limits.proofs.Gone.{gone-is}
use Rattle.merge_limits.proofs.Whole.{gone_few, fits-is, ids_are_left, ids-below, merging}
use Rattle.lists.specs.Every.{all}
use Rattle.lists.specs.Select.{ascending}
use Rattle.lists.proofs.Booleans.{and_both}
use Rattle.rules.specs.Names.{Left, Right}
use Rattle.tables.specs.Formed.{counted, lane_formed, rule_formed}
use Rattle.row_tests.specs.Good.{all_rows}
use Rattle.apart.specs.Marks.{within}
use Rattle.soundness.proofs.Counts as S
use Rattle.soundness.proofs.Back.{formed-parts}
use Rattle.layout.specs.Layout.{line_tables, counted_lines}
use Rattle.layout.proofs.Room.{all_within_more}
use Rattle.lookup.proofs.Laws.{place-within}
use Rattle.sound_facts.proofs.Stored.{formed-counts}
use Rattle.sound_facts.proofs.Facts.{facts}
use Rattle.mentions.specs.Naming.{table_formed}
use Rattle.merge_plan.specs.Sides.{side_id}
use Rattle.merge_lists.specs.Changes.{Formed, Looked, with_joined}
use Rattle.merge_lists.proofs.Listed.{joined-more}
use Rattle.merge_laid.proofs.Whole.{relayable}
use Rattle.merge_made.specs.Parts.{MayMerge, counts_of, reach_of, written, merge_made, merge_found, gone_in, joined_in}

-- ---- refused by what is named

module _ (tol : Tolerance) (l : Lent) (h : sound_tables l.counter l.tables ≡ true) (one two : ℕ) where
  abbrev ls : List ℕ
  ls = l.tables.lanes

  pub first_absent : place_of 52 ls one ≡ None → refusing l (LaneAbsent one) ≡ step tol (O.MergeLanes one two) l
  first_absent e = step-refused tol (O.MergeLanes one two) l h (LaneAbsent one) (unfold O.edit merge_lanes in rw (lane-missing l.tables one e))

  module _ (i : ℕ) (ei : place_of 52 ls one ≡ Some i) where
    pub second-absent : place_of 52 ls two ≡ None → refusing l (LaneAbsent two) ≡ step tol (O.MergeLanes one two) l
    second-absent e =
        step-refused tol (O.MergeLanes one two) l h (LaneAbsent two) (unfold O.edit merge_lanes in rw (lane-there l.tables one i ei, lane-missing l.tables two e))

    module _ (j : ℕ) (ej : place_of 52 ls two ≡ Some j) where
      abbrev fit : Bool
      fit = follows (lane_in [] ls i) (lane_in [] ls j)

      pub unfit : fit ≡ false → refusing l (NotMergeable one) ≡ step tol (O.MergeLanes one two) l
      unfit f = step-refused tol (O.MergeLanes one two) l h (NotMergeable one) (unfold O.edit in merge-unfit tol (next_id l.counter) one two l.tables i j ei ej f)

      module _ (f : fit ≡ true) where
        pub side-refused : (r : Refusal) → planned tol.join l.tables.coordinates ls l.tables.boundaries i j ≡ Err r → refusing l r ≡ step tol (O.MergeLanes one two) l
        side-refused r e = step-refused tol (O.MergeLanes one two) l h r (unfold O.edit in merge-refused tol (next_id l.counter) one two l.tables i j ei ej f r e)

-- ---- the tables

module _ {tol : Tolerance} {counter : ℕ} {t : Tables} {one two i j : ℕ} {p : Plan} {gone : List ℕ} (k : Merging tol counter t one two i j p (reach_of t) gone) where
  abbrev a : Lane
  a = lane_in t.coordinates t.lanes i

  abbrev b : Lane
  b = lane_in t.coordinates t.lanes j

  abbrev result : Map
  result = (merged tol (next_id counter) (view t) a b k.plans.left k.plans.right).result

  tables-fields : {l l₁ o o₁ r r₁ u u₁ v v₁ s s₁ x x₁ : List ℕ} {c c₁ : List Float} → l ≡ l₁ → o ≡ o₁ → r ≡ r₁ → u ≡ u₁ → v ≡ v₁ → s ≡ s₁ → x ≡ x₁ → c ≡ c₁
      → ◌≡◌ {A = Tables} (record { lanes = l; boundaries = o; roads = r; junctions = u; rules = v; stop_lines = s; crosswalks = x; coordinates = c })
      (record { lanes = l₁; boundaries = o₁; roads = r₁; junctions = u₁; rules = v₁; stop_lines = s₁; crosswalks = x₁; coordinates = c₁ })
  tables-fields p q r u v w x y = cc

  pub tables-written : written tol.join p (next_id counter) gone i j t ≡ laid t result
  unfolding written laid merged lane_of
  tables-written =
      let q = relay_laid k in
      let fm = sound-formed counter t k.sane in
      tables-fields (ap (λ z. z.lanes) q) (ap (λ z. z.boundaries) q) (sym (roads-forget t fm a.id b.id)) (sym (junctions-forget t fm a.id b.id)) (sym (rules-replace t fm a.id b.id))
      (ap (λ z. z.stop_lines) q) (ap (λ z. z.crosswalks) q) (ap (λ z. z.coordinates) q)

-- ---- once both sides are planned

module _ (tol : Tolerance) (l : Lent) (h : sound_tables l.counter l.tables ≡ true) (small : l.counter < 2 ^ 64) (one two i j : ℕ) (ei : place_of 52 l.tables.lanes one ≡ Some i)
    (ej : place_of 52 l.tables.lanes two ≡ Some j) (f : follows (lane_in [] l.tables.lanes i) (lane_in [] l.tables.lanes j) ≡ true) (p : Plan)
    (e : planned tol.join l.tables.coordinates l.tables.lanes l.tables.boundaries i j ≡ Ok p) where
  abbrev t : Tables
  t = l.tables

  abbrev next : ℕ
  next = next_id l.counter

  abbrev first : Lane
  first = lane_in t.coordinates t.lanes i

  abbrev second : Lane
  second = lane_in t.coordinates t.lanes j

  pub plans : Plans tol next one two (view t) first second p
  plans = merge-planned tol next one two t i j ei ej f p e

  abbrev pub planning : Planning tol l.counter t one two i j p
  planning = record { sane = h; small = small; first = ei; second = ej; follow = f; plans = plans }

  abbrev done : E.Edited
  done = merged tol next (view t) first second plans.left plans.right

  yields : O.edit tol (O.MergeLanes one two) (state_of l) ≡ Ok done
  yields = unfold O.edit in plans.made

  ids-told : done.ids ≡ side_ids p.left + side_ids p.right
  unfolding merged
  ids-told = both (plan-ids plans.left ∙ ap (λ (q : Plan). side_ids q.left) (sym plans.told)) (plan-ids plans.right ∙ ap (λ (q : Plan). side_ids q.right) (sym plans.told))
    where
      both : {x y u v : ℕ} → x ≡ u → y ≡ v → x + y ≡ u + v
      both p q = rw (p, q)

  abbrev gone : List ℕ
  gone = gone_in t i j p

  -- the ids are there: the map and the lists
  module _ (left : ids_left l.counter (side_ids p.left + side_ids p.right) ≡ true) where
    ids : leb (O.counter_after l.counter done.ids) last_counter ≡ true
    ids = ap (λ n. leb (O.counter_after l.counter n) last_counter) ids-told ∙ left

    planned-ids : leb (O.counter_after l.counter (plan_ids plans.left + plan_ids plans.right)) last_counter ≡ true
    planned-ids = sym (ids_are_left planning) ∙ left

    same : fits_after t.lanes i j t.boundaries t.stop_lines t.crosswalks t.coordinates p gone ≡ fits_room (room_of t) done.result
    same = fits-is planning planned-ids

    module _ (room : fits_room (room_of t) done.result ≡ true) where
      abbrev known : Merging tol l.counter t one two i j p (reach_of t) gone
      known =
          record {
            sane = h;
            small = small;
            first = ei;
            second = ej;
            follow = f;
            plans = plans;
            ids = planned-ids;
            reaches = ap last_point (lines-spans t []);
            goes = gone-is planning planned-ids;
            room = room;
          }

      abbrev cs : ChangeSet
      cs = done.changes

      abbrev n : Counts
      n = counts_of (word 0 (row_at 52 t.lanes j)) p (length gone) (joined_in t i p) (length (warnings_of t.lanes i j p.left p.right next)) t.lanes t.roads t.junctions t.rules

      created-count : length cs.created ≡ side_ids p.left + side_ids p.right
      created-count = ap length (created-read known) ∙ (length-refs BoundaryKind (up_from next (side_ids p.left + side_ids p.right)) ∙ length_up next (side_ids p.left + side_ids p.right))

      deleted-count : length cs.deleted ≡ length gone + 1
      deleted-count = omega (arith, ap length (deleted-read known), length-append (refs LaneKind (second.id ∷ [])) (refs BoundaryKind gone), length-refs BoundaryKind gone)

      modified-count : length cs.modified ≡ n.modified
      unfolding lane_of
      modified-count = ap length (modified-read known)

      warnings-count : length cs.warnings ≡ n.warnings
      warnings-count = ap length (warnings-read known)

      counted-told : counts cs ≡ n
      counted-told = four created-count modified-count deleted-count warnings-count
        where
          four : {x y z w x' y' z' w' : ℕ} → x ≡ x' → y ≡ y' → z ≡ z' → w ≡ w' → ◌≡◌ {A = Counts} (record { created = x; modified = y; deleted = z; warnings = w }) (record { created = x'; modified = y'; deleted = z'; warnings = w' })
          four p q r s = rw (p, q, r, s)

      lists_told : O.fits_lists (lists_of l) cs ≡ lists_fit n l.created l.modified l.deleted l.warnings
      lists_told = ap (λ (m : Counts). lists_fit m l.created l.modified l.deleted l.warnings) counted-told

      -- an accepted call's end, part by part
      joined : {k k₁ : ℕ} {u v : Tables} {c d m o x y : List EntityRef} {w z : List Issue} {q r : Counts} → k ≡ k₁ → u ≡ v → c ≡ d → m ≡ o → x ≡ y → w ≡ z → q ≡ r
          → ◌≡◌ {A = Ended}
          (ended (record { counter = k; tables = u; created = listed l.created c; modified = listed l.modified m; deleted = listed l.deleted x; warnings = warned l.warnings w }) (changed q))
          (ended (record { counter = k₁; tables = v; created = listed l.created d; modified = listed l.modified o; deleted = listed l.deleted y; warnings = warned l.warnings z }) (changed r))
      joined a b c d e f g = rw (a, b, c, d, e, f, g)

      abbrev made : Ended
      made =
          ended
          (record {
            counter = O.counter_after l.counter n.created;
            tables = written tol.join p next gone i j t;
            created = listed l.created (refs BoundaryKind (up_from next n.created));
            modified = listed l.modified (touched (word 0 (row_at 52 t.lanes j)) (joined_in t i p) t.lanes t.roads t.junctions t.rules);
            deleted = listed l.deleted (leaving (word 0 (row_at 52 t.lanes j)) gone);
            warnings = warned l.warnings (warnings_of t.lanes i j p.left p.right next);
          })
          (changed n)

      abbrev after : O.State
      after = record { map = done.result; counter = O.counter_after l.counter done.ids }

      accepted : changing (O.MergeLanes one two) l after cs done.second ≡ made
      unfolding merged lane_of
      accepted =
          joined (ap (O.counter_after l.counter) ids-told) (sym (tables-written known)) (created-read known) (modified-read known) (deleted-read known) (warnings-read known) counted-told

    -- by room
    ends : (x : Bool) → fits_room (room_of t) done.result ≡ x
        → cond (x && O.fits_lists (lists_of l) done.changes) (changing (O.MergeLanes one two) l (record { map = done.result; counter = O.counter_after l.counter done.ids }) done.changes done.second) (refusing l NoRoom)
        ≡ merge_made tol.join i j p gone (joined_in t i p) l
    unfolding merge_made
    ends false q = rw (same ∙ q)
    ends true q =
        pair (same ∙ q) (lists_told q) (accepted q)
      where
        pair : {x y z : Bool} {u v : Ended} → x ≡ true → y ≡ z → u ≡ v → cond y u (refusing l NoRoom) ≡ cond x (cond z v (refusing l NoRoom)) (refusing l NoRoom)
        pair p q r = rw (p, q, r)

  pub merge-ends : merge_found tol.join i j p l ≡ step tol (O.MergeLanes one two) l
  unfolding merge_found
  merge-ends = go (ids_left l.counter (side_ids p.left + side_ids p.right)) refl
    where
      go : (x : Bool) → ids_left l.counter (side_ids p.left + side_ids p.right) ≡ x → cond x (merge_made tol.join i j p gone (joined_in t i p) l) (refusing l NoIds) ≡ step tol (O.MergeLanes one two) l
      go false q = step_exhausted tol (O.MergeLanes one two) l h done yields (ap (λ n. leb (O.counter_after l.counter n) last_counter) ids-told ∙ q)
      go true q = sym (step-decided tol (O.MergeLanes one two) l h done yields (ids q) ∙ ends q (fits_room (room_of t) done.result) refl)

  -- ---- what a merge asks of a sound map

  looked : Looked t.lanes i j
  looked = ((facts l.counter t h).drawable.lanes_are_sorted, (place-within 52 t.lanes one i ei, place-within 52 t.lanes two j ej))

  sound-counts : S.Counts t
  sound-counts = formed-counts t (sound-formed l.counter t h)

  all-formed : Formed t.lanes t.roads t.junctions t.rules
  unfolding table_formed
  all-formed =
      let n = sound-counts in
      let q = formed-parts t (sound-formed l.counter t h) in
      record {
        lanes = and_both (counted 1024 52 t.lanes) (all_rows 52 lane_formed t.lanes) n.lanes q.lanes;
        roads = and_both (counted 256 68 t.roads) (all_rows 68 (λ w. leb (word 3 w) 64) t.roads) n.roads q.roads;
        junctions = and_both (counted 256 69 t.junctions) (all_rows 69 (λ w. leb (word 4 w) 64) t.junctions) n.junctions q.junctions;
        rules = and_both (counted 512 330 t.rules) (all_rows 330 rule_formed t.rules) n.rules q.rules;
      }

  lines-counted : counted_lines (line_tables t.lanes t.boundaries t.stop_lines t.crosswalks []) ≡ true
  unfolding counted_lines
  lines-counted = let n = sound-counts in rw (n.lanes, n.boundaries, n.stop_lines, n.crosswalks)

  reaching : all (within 65536) (spans (line_tables t.lanes t.boundaries t.stop_lines t.crosswalks [])) ≡ true
  reaching =
      ap (all (within 65536)) (lines-spans t [])
      ∙ all_within_more (min 65536 (length t.coordinates / 3)) 65536 (spans t) (omega arith) (facts l.counter t h).parts.store

  joined_few : length (joined_in t i p) ≤ 2
  joined_few =
      let up = joined-more p.left (side_id t.lanes i Left) [] (unfold ascending in refl) in
      omega (arith, up.1.0, (joined-more p.right (side_id t.lanes i Right) (with_joined p.left (side_id t.lanes i Left) []) up.1.1).1.0)

  pub may-merge : MayMerge l.counter tol.join i j p t
  may-merge =
      record {
        leaving = M.leaving planning;
        decided = λ left.
            record {
              formed = all-formed;
              looked = looked;
              ids_are_left = ids-below planning (planned-ids left);
              gone_few = (gone_few planning).0;
              joined_few = joined_few;
              countable = M.countable planning;
              writable = λ fit.
                  record {
                    looked = looked;
                    counts = lines-counted;
                    reaching = reaching;
                    naming = record { roads = all-formed.roads; junctions = all-formed.junctions; rules = all-formed.rules };
                    relayable = relayable (merging planning (planned-ids left) fit (reach_of t) (ap last_point (lines-spans t [])));
                  };
            };
      }
