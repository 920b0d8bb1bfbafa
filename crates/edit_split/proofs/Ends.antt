-- A call of split_lane, by how it ends, as the one equation with `step`, and what its group asks of a sound map. Assumes nothing.
use Rattle.rules.specs.Edit.{Passed, Res, passed}
use Rattle.std.specs.Prelude.{None, Some, Err, Ok}
use mathlib.Core.Path.{◌≡◌, refl, sym, ap, ◌∙◌, subst}
use Prim.Native.Nat.{ℕ, ◌+◌, ◌^◌, ◌≤◌, ◌<◌}
use native.Mathlib.Omega.{arith}
use mathlib.Core.Bool.{Bool, true, false, cond, ◌&&◌}
use mathlib.Core.List.{List, [], map, append-nil}
use lib.Dec.{leb}
use lib.Ieee.{Float}
use lib.ListN.{length, length-map, length-replicate, replicate, drop, take}
use lib.Seq.{length-take-le}
use Rattle.lists.specs.Rows.{over}
use Rattle.lists.specs.Select.{has}
use Rattle.lists.proofs.Rows.{length-keys, length_over, take-over}
use Rattle.rules.specs.Names.{Tolerance, Point2, SplitAt, Refusal, LaneAbsent, NoRoom, NoIds}
use Rattle.rules.specs.Sound.{fits_room, last_counter, next_id}
use Rattle.rules.specs.Edit as E
use Rattle.rules.specs.Split as R
use Rattle.rules.specs.Split.{LanePlan, Piece, group_of, split_lane}
use Rattle.rules.specs.Ops as O
use Rattle.tables.specs.View.{Tables, word, rows, view}
use Rattle.tables.specs.Formed.{sound_tables}
use Rattle.row_tests.proofs.Lanes.{lanes-few}
use Rattle.store.specs.Store.{room_of}
use Rattle.group.specs.Walk.{ids_of, lane_map}
use Rattle.lookup.specs.Lookup.{place_of, row_at}
use Rattle.lookup.proofs.Laws.{place-within}
use Rattle.sound_facts.proofs.Facts.{Facts, facts}
use Rattle.step.specs.Step.{Lent, Ended, step, state_of, lists_of, refusing}
use Rattle.step.proofs.Steps.{step-refused, step_exhausted, step-decided}
use Rattle.split_plan.specs.declared.Cut.{Cut}
use Rattle.split_plan.specs.Placing.{all_of, good_of, group_marks, marked_rows, placed, row_station, stations_told}
use Rattle.split_plan.proofs.Marked.{Each, each-length, each-good, all-each}
use Rattle.split_laws.proofs.Whole.{Plans, split-absent, split_unplaced, split_unstationed, split_uncrossed, split-planned}
use Rattle.split_facts.specs.Splitting.{Planned, split_of, split_ends, written}
use Rattle.split_facts.proofs.Facts.{group-is, pieces-same}
use Rattle.split_facts.proofs.Asks.{picked-few, rows-many}
use Rattle.edit_split.specs.Parts.{crossings, cross_ends, station_ends, cut_in, stations_in, plan_ends, planned, seen_in, group_ends, MayCross, MayGroup}

-- ---- boundaries

module _ (tol : Tolerance) (own : ℕ) (p : Point2) (seen : List Bool) (cut : List ℕ) (stations : List Float) (l : Lent) (x : Res Passed) (e : x ≡ crossings p seen l.tables) where
  pub uncrossed : (r : Refusal) → x ≡ Err r → refusing l r ≡ station_ends tol own p seen cut stations l
  unfolding station_ends
  uncrossed r f = sym (ap (cross_ends tol own p seen cut stations l) (sym e ∙ f))

  pub crossed-asks : MayCross tol l.counter l.tables own p seen cut stations → x ≡ Ok passed → Planned tol l.counter l.tables own p seen cut stations
  crossed-asks m f = m.planned (sym e ∙ f)

  pub crossed : x ≡ Ok passed → (y : Ended) → y ≡ split_ends tol own p seen cut stations l → y ≡ station_ends tol own p seen cut stations l
  unfolding station_ends
  crossed f y ye = ye ∙ sym (ap (cross_ends tol own p seen cut stations l) (sym e ∙ f))

-- ---- stations

-- a list at the front of an array
pub front : {A : Type 0} (w xs v : List A) (n : ℕ) → length xs ≤ length w → length xs ≡ n → v ≡ over w 0 xs → (n ≤ length v) × (take n v ≡ xs)
front w xs v n h e p =
    let z : 0 + length xs ≡ length xs = omega arith in
    let l : 0 + length xs ≤ length w = omega arith in
    (omega (arith, ap length p, length_over w 0 xs l), ap (λ k. take k v) (sym e) ∙ (ap (take (length xs)) p ∙ (rw z at (take-over w 0 xs l))))

-- as many marks as there are rows at most
seen-long : (i : ℕ) (neighbors : Bool) (t : Tables) → word 0 t.lanes ≤ 1024 → length (seen_in i neighbors t) ≡ 1024
seen-long i neighbors t few =
    let g = group_marks t.lanes i neighbors in
    let n : length g ≡ word 0 t.lanes =
    length-map (ids_of t.lanes) (λ j. has j (group_of (lane_map t.lanes) (word 0 (row_at 52 t.lanes i)) neighbors)) ∙ length-keys 52 (word 0 t.lanes) (drop 1 t.lanes) in
    length_over (replicate 1024 false) 0 g (omega (arith, n, few, length-replicate 1024 false)) ∙ length-replicate 1024 false

pub marks_there : (i : ℕ) (neighbors : Bool) (t : Tables) (seen : List Bool) → seen ≡ seen_in i neighbors t → word 0 t.lanes ≤ 1024 → word 0 t.lanes ≤ length seen
marks_there i neighbors t seen e few = omega (arith, ap length e, seen-long i neighbors t few)

-- the group as it is marked, and the stations that were found
module _ (tol : Tolerance) (own i : ℕ) (k : Cut) (neighbors : Bool) (l : Lent) (seen : List Bool) (es : seen ≡ seen_in i neighbors l.tables) (s : Res ℕ) (e : s ≡ planned tol own k seen l.tables) where
  abbrev t : Tables
  t = l.tables

  told : s ≡ planned tol own k (seen_in i neighbors l.tables) l.tables
  told = e ∙ ap (λ z. planned tol own k z l.tables) es

  pub unplanned : (r : Refusal) → s ≡ Err r → refusing l r ≡ group_ends tol own i k neighbors l
  unfolding group_ends
  unplanned r f = sym (ap (plan_ends tol own k (seen_in i neighbors t) l) (sym told ∙ f))

  -- ids and stations at the front of their arrays
  module _ (m : MayGroup tol l.counter l.tables own i k neighbors) (n : ℕ) (f : s ≡ Ok n) (w ids : List ℕ) (we : length w ≡ 1024) (ie : ids ≡ over w 0 (cut_in tol own k seen l.tables))
      (u stations : List Float) (ue : length u ≡ 1024) (se : stations ≡ over u 0 (stations_in tol own k seen l.tables)) where
    asked : (length (cut_in tol own k (seen_in i neighbors t) t) ≡ n) × ((length (stations_in tol own k (seen_in i neighbors t) t) ≡ n)
        × ((n ≤ 1024) × MayCross tol l.counter t own k.point (seen_in i neighbors t) (cut_in tol own k (seen_in i neighbors t) t) (stations_in tol own k (seen_in i neighbors t) t)))
    asked = m.stationed n (sym told ∙ f)

    cut-front : (n ≤ length ids) × (take n ids ≡ cut_in tol own k (seen_in i neighbors t) t)
    cut-front = front w (cut_in tol own k (seen_in i neighbors t) t) ids n (omega (arith, asked.0, asked.1.1.0)) asked.0 (ie ∙ ap (λ z. over w 0 (cut_in tol own k z t)) es)

    stations_front : (n ≤ length stations) × (take n stations ≡ stations_in tol own k (seen_in i neighbors t) t)
    stations_front =
        front u (stations_in tol own k (seen_in i neighbors t) t) stations n (omega (arith, asked.1.0, asked.1.1.0)) asked.1.0 (se ∙ ap (λ z. over u 0 (stations_in tol own k z t)) es)

    pub cut-there : n ≤ length ids
    cut-there = cut-front.0

    pub cut-length : n ≡ length (take n ids)
    cut-length = sym (length-take-le n ids cut-front.0)

    pub stations_there : n ≤ length stations
    stations_there = stations_front.0

    pub stations_length : n ≡ length (take n stations)
    stations_length = sym (length-take-le n stations stations_front.0)

    pub group-asks : MayCross tol l.counter l.tables own k.point seen (take n ids) (take n stations)
    group-asks =
        subst (λ z. MayCross tol l.counter t own k.point z (take n ids) (take n stations)) (sym es)
        (subst (λ z. MayCross tol l.counter t own k.point (seen_in i neighbors t) z (take n stations)) (sym cut-front.1)
        (subst (λ z. MayCross tol l.counter t own k.point (seen_in i neighbors t) (cut_in tol own k (seen_in i neighbors t) t) z) (sym stations_front.1) asked.1.1.1))

    pub group-done : (y : Ended) → y ≡ station_ends tol own k.point seen (take n ids) (take n stations) l → y ≡ group_ends tol own i k neighbors l
    unfolding group_ends
    group-done y ye =
        ye ∙ (three es cut-front.1 stations_front.1 ∙ sym (ap (plan_ends tol own k (seen_in i neighbors t) l) (sym told ∙ f)))
      where
        three : {a b : List Bool} {c d : List ℕ} {g h : List Float} → a ≡ b → c ≡ d → g ≡ h → station_ends tol own k.point a c g l ≡ station_ends tol own k.point b d h l
        three p q r = rw (p, q, r)

-- ---- of a sound map

module _ (tol : Tolerance) (l : Lent) (h : sound_tables l.counter l.tables ≡ true) (own : ℕ) (at : SplitAt) (neighbors : Bool) where
  abbrev next : ℕ
  next = next_id l.counter

  refused : (r : Refusal) → split_lane tol (next_id l.counter) own at neighbors (view l.tables) ≡ Err r → refusing l r ≡ step tol (O.SplitLane own at neighbors) l
  refused r e = step-refused tol (O.SplitLane own at neighbors) l h r (unfold O.edit in e)

  pub absent : place_of 52 l.tables.lanes own ≡ None → refusing l (LaneAbsent own) ≡ step tol (O.SplitLane own at neighbors) l
  absent e = refused (LaneAbsent own) (split-absent tol next own at neighbors l.tables e)

  module _ (i : ℕ) (ei : place_of 52 l.tables.lanes own ≡ Some i) (x : Res Cut) (xe : x ≡ placed tol.piece l.tables.coordinates l.tables.lanes l.tables.boundaries i at) where
    pub unplaced : (r : Refusal) → x ≡ Err r → refusing l r ≡ step tol (O.SplitLane own at neighbors) l
    unplaced r e = refused r (split_unplaced tol next own at neighbors l.tables i ei r (sym xe ∙ e))

    -- the cut is placed
    module _ (small : l.counter < 2 ^ 64) (k : Cut) (told_at : x ≡ Ok k) where
      ek : placed tol.piece l.tables.coordinates l.tables.lanes l.tables.boundaries i at ≡ Ok k
      ek = sym xe ∙ told_at

      abbrev tt : Tables
      tt = l.tables

      abbrev seen : List Bool
      seen = seen_in i neighbors l.tables

      abbrev cut : List ℕ
      cut = cut_in tol own k (seen_in i neighbors l.tables) l.tables

      abbrev stations : List Float
      stations = stations_in tol own k (seen_in i neighbors l.tables) l.tables

      abbrev marked : List (List ℕ)
      marked = marked_rows (seen_in i neighbors l.tables) l.tables.lanes

      abbrev station_of : List ℕ → E.Res Float
      station_of = row_station tol.piece l.tables.coordinates l.tables.boundaries own k

      known : Facts l.counter l.tables
      known = facts l.counter l.tables h

      few : word 0 l.tables.lanes ≤ 1024
      few = lanes-few l.tables.lanes known.lanes

      -- all of the group have stations
      module _ (n : ℕ) (en : planned tol own k seen tt ≡ Ok n) where
        all_stations : (ss : List Float) × (all_of station_of marked ≡ Ok ss) × (length ss ≡ n)
        all_stations = go (all_of station_of marked) refl en
          where
            go : (x : E.Res (List Float)) → all_of station_of marked ≡ x → stations_told x ≡ Ok n → (ss : List Float) × (all_of station_of marked ≡ Ok ss) × (length ss ≡ n)
            go (Err q) p e = let z : ◌≡◌ {A = ℕ} 0 1 = cc in absurd (omega arith)
            go (Ok ss) p e = (ss, p, cc)

        each : Each station_of marked all_stations.0
        each = all-each station_of marked all_stations.0 all_stations.1

        good : good_of station_of marked ≡ all_stations.0
        unfolding good_of
        good = sym (ap (good_of station_of) (append-nil marked)) ∙ (each-good station_of each [] ∙ append-nil all_stations.0)

        stations_many : length stations ≡ n
        stations_many = ap length good ∙ all_stations.2

        marked-many : length marked ≡ n
        marked-many = sym (each-length station_of each) ∙ all_stations.2

        cut-many : length cut ≡ n
        cut-many = length-map (take (length stations) marked) (word 0) ∙ (length-take-le (length stations) marked (omega (arith, stations_many, marked-many)) ∙ stations_many)

        n-few : n ≤ 1024
        n-few = omega (arith, marked-many, picked-few seen (rows 52 (λ (w : List ℕ). w) tt.lanes), rows-many 52 tt.lanes, few)

        -- and all their boundaries cross
        module _ (ex : crossings k.point seen tt ≡ Ok passed) where
          plans : Plans tol next own at neighbors tt k seen n
          plans = split-planned tol next own at neighbors tt i ei k ek (replicate 1024 false) seen refl n en ex

          abbrev all-planned : Planned tol l.counter tt own k.point seen cut stations
          all-planned =
              let p = plans in
              record {
                sane = h;
                small = small;
                row = i;
                there = ei;
                neighbors = neighbors;
                marked = refl;
                at = k.station;
                planned = p.planned ∙ ap Ok p.by_stations;
                crossed = p.crossed;
                ids = ap (map (λ (x : LanePlan). x.of.id)) (sym p.by_stations) ∙ p.ids;
                stationed = ap (map (λ (x : LanePlan). x.station)) (sym p.by_stations) ∙ p.stations;
                many = p.marked ∙ sym cut-many;
              }

          abbrev done : E.Edited
          done = split_of tol l.counter l.tables own k.point seen cut stations

          abbrev fit : Bool
          fit = fits_room (room_of tt) done.result && O.fits_lists (lists_of l) done.changes

          made : split_lane tol (next_id l.counter) own at neighbors (view l.tables) ≡ Ok done
          unfolding split_of
          made = plans.made ∙ three (group-is all-planned) plans.by_stations (sym (pieces-same all-planned))
            where
              three : {a b : List ℕ} {c d : List LanePlan} {x y : List Piece} → a ≡ b → c ≡ d → x ≡ y → ◌≡◌ {A = E.Res E.Edited} (Ok (R.cut tol next (view tt) own a c x)) (Ok (R.cut tol next (view tt) own b d y))
              three p q r = rw (p, q, r)

          yields : O.edit tol (O.SplitLane own at neighbors) (state_of l) ≡ Ok done
          yields = unfold O.edit in made

          accepted : split_ends tol own k.point seen cut stations l ≡ step tol (O.SplitLane own at neighbors) l
          unfolding split_ends
          accepted = go (leb (O.counter_after l.counter done.ids) last_counter) refl
            where
              go : (x : Bool) → leb (O.counter_after l.counter done.ids) last_counter ≡ x → cond x (cond fit (written l done) (refusing l NoRoom)) (refusing l NoIds) ≡ step tol (O.SplitLane own at neighbors) l
              go false q = step_exhausted tol (O.SplitLane own at neighbors) l h done yields q
              go true q = sym (step-decided tol (O.SplitLane own at neighbors) l h done yields q)

        crosses : station_ends tol own k.point seen cut stations l ≡ step tol (O.SplitLane own at neighbors) l
        unfolding station_ends
        crosses = go (crossings k.point seen tt) refl
          where
            go : (x : Res Passed) → crossings k.point seen tt ≡ x → cross_ends tol own k.point seen cut stations l x ≡ step tol (O.SplitLane own at neighbors) l
            go (Err r) q = refused r (split_uncrossed tol next own at neighbors tt i ei k ek (replicate 1024 false) seen refl n en r q)
            go (Ok _) q = accepted q

      pub split-ends : group_ends tol own i k neighbors l ≡ step tol (O.SplitLane own at neighbors) l
      unfolding group_ends
      split-ends = go (planned tol own k seen tt) refl
        where
          go : (x : Res ℕ) → planned tol own k seen tt ≡ x → plan_ends tol own k seen l x ≡ step tol (O.SplitLane own at neighbors) l
          go (Err r) q = refused r (split_unstationed tol next own at neighbors tt i ei k ek (replicate 1024 false) seen refl r q)
          go (Ok n) q = crosses n q

      pub split_done : (y : Ended) → y ≡ group_ends tol own i k neighbors l → y ≡ step tol (O.SplitLane own at neighbors) l
      split_done y e = e ∙ split-ends

      pub may-group : MayGroup tol l.counter l.tables own i k neighbors
      may-group =
          record {
            search = known.lanes;
            row = place-within 52 tt.lanes own i ei;
            rows = few;
            drawable = known.drawable;
            stationed = λ n en.
                (cut-many n en, (stations_many n en, (n-few n en, record { drawable = known.drawable; marks = omega (arith, few, seen-long i neighbors tt few); planned = λ ex. all-planned n en ex })));
          }
