-- merge_lanes: what it creates is what appeared, and what it deletes is what vanished. Assumes nothing.
use Rattle.std.specs.Prelude.{Some}
use mathlib.Core.Path.{◌≡◌, refl, sym, ap, ◌∙◌}
use mathlib.Core.Bool.{Bool, true, false, not, ◌||◌}
use mathlib.Core.List.{List, [], ◌∷◌, ◌++◌, map, append-nil}
use Prim.Native.Nat.{ℕ}
use lib.Dec.{eqb}
use Rattle.lists.specs.Select.{keep, has, without}
use Rattle.lists.proofs.Select.{has-any, has-append, keys-map, keep_append, all-numbers, keep_same}
use Rattle.lists.proofs.Booleans.{not-not, or-false}
use Rattle.entities.specs.declared.Tolerance.{Tolerance}
use Rattle.entities.specs.declared.EntityKind.{EntityKind}
use Rattle.entities.specs.declared.EntityKind.TheVariants as K
use Rattle.entities.specs.declared.EntityRef.{EntityRef}
use Rattle.entities.specs.Records.{Lane, Boundary, Map}
use Rattle.rules.specs.Map.{lane, lane_ids}
use Rattle.rules.specs.Edit.{refs, boundaries_where}
use Rattle.rules.specs.Lane.{road_lanes, junction_lanes, rule_lanes, unused}
use Rattle.rules.specs.Merge.{SidePlan, replace_lane}
use Rattle.rules.specs.Demand.{entities, appeared, vanished}
use Rattle.laws.proofs.Part.{Part, part-keep, part-map, any_part}
use Rattle.laws.proofs.RemoveLinks.{other}
use Rattle.laws.proofs.Entities.{Keys, ids_of, from_roads}
use Rattle.laws.proofs.KeptRows.{keep-on, left_out, keep_one}
use Rattle.laws.proofs.Change.{absent, absent-of, none-absent, all-absent}
use Rattle.laws.proofs.Merge.{merged_map, merged_lanes, new_ones, still_used, lanes-left}
use Rattle.laws.proofs.MergePlans.{Planned, both_new, ids-made}
use Rattle.laws.proofs.MergeIds.{Free, boundary-ids, old-not-new}

-- ---- general

pub has_part : (i : ℕ) {ys xs : List ℕ} → Part ys xs → has i ys ≡ true → has i xs ≡ true
has_part i {ys} {xs} r t = has-any i xs ∙ any_part (eqb i) r (sym (has-any i ys) ∙ t)

refs-append : (k : EntityKind) (is js : List ℕ) → refs k (is ++ js) ≡ refs k is ++ refs k js
refs-append k [] js = refl
refs-append k (i ∷ is) js = ap (λ es. record { kind = k; id = i } ∷ es) (refs-append k is js)

-- roads, junctions and the rest, where their ids stay
none-later : (m n : Map) → ids_of n K.Road ≡ ids_of m K.Road → ids_of n K.Junction ≡ ids_of m K.Junction → ids_of n K.StopLine ≡ ids_of m K.StopLine
    → ids_of n K.Crosswalk ≡ ids_of m K.Crosswalk → ids_of n K.RegulatoryElement ≡ ids_of m K.RegulatoryElement → keep (absent n) (from_roads m) ≡ []
none-later m n r j s c u =
    rw (
      keep_append (absent n),
      keep_append (absent n),
      keep_append (absent n),
      keep_append (absent n),
      known K.Road r,
      known K.Junction j,
      known K.StopLine s,
      known K.Crosswalk c,
      known K.RegulatoryElement u,
    )
  where
    known : (k : EntityKind) → ids_of n k ≡ ids_of m k → keep (absent n) (refs k (ids_of m k)) ≡ []
    known k e = none-absent n k (ids_of m k) (λ i t. ap (has i) e ∙ t)

-- ---- the lists of a merge

abbrev pub made : ℕ → Map → Lane → SidePlan → SidePlan → List EntityRef
made next m a pl pr = refs K.Boundary (map (λ x. x.id) (new_ones next m a pl pr))

abbrev pub gone : Tolerance → ℕ → Map → Lane → Lane → SidePlan → SidePlan → List EntityRef
gone tol next m a b pl pr = refs K.Lane (b.id ∷ []) ++ boundaries_where (unused (a ∷ b ∷ []) (merged_lanes tol next m a b pl pr)) m.boundaries

module _ (tol : Tolerance) (next : ℕ) (m : Map) (a b : Lane) (pl pr : SidePlan) (ea : lane m a.id ≡ Some a) (eb : lane m b.id ≡ Some b)
    (apart : eqb a.id b.id ≡ false) (fl : Planned m a.left.boundary pl) (fr : Planned m a.right.boundary pr) (free : Free next m pl pr) where
  abbrev n : Map
  n = merged_map tol next m a b pl pr

  abbrev q : Boundary → Bool
  q = still_used tol next m a b pl pr

  abbrev rest : List Lane
  rest = keep (other b.id) m.lanes

  abbrev new : List ℕ
  new = both_new pl pr next

  abbrev lanes_now : List ℕ
  lanes_now = map (λ l. l.id) rest

  abbrev boundaries_now : List ℕ
  boundaries_now = map (λ x. x.id) (keep q m.boundaries)

  roads-now : ids_of n K.Road ≡ ids_of m K.Road
  roads-now = keys-map (λ r. r.id) (road_lanes (without b.id)) (λ r. refl) m.roads

  junctions-now : ids_of n K.Junction ≡ ids_of m K.Junction
  junctions-now = keys-map (λ j. j.id) (junction_lanes (without b.id)) (λ j. refl) m.junctions

  rules-now : ids_of n K.RegulatoryElement ≡ ids_of m K.RegulatoryElement
  rules-now = keys-map (λ r. r.id) (rule_lanes (replace_lane a.id b.id) (replace_lane a.id b.id)) (λ r. refl) m.rules

  boundaries-now : ids_of n K.Boundary ≡ boundaries_now ++ new
  boundaries-now = boundary-ids tol next m a b pl pr fl fr

  abbrev entities_by : (ls bs rs js us : List ℕ) → List EntityRef
  entities_by ls bs rs js us =
      refs K.Lane ls ++ (refs K.Boundary bs ++ (refs K.Road rs ++ (refs K.Junction js ++ (refs K.StopLine (ids_of m K.StopLine) ++ (refs K.Crosswalk (ids_of m K.Crosswalk) ++ refs K.RegulatoryElement us)))))

  pub entities-now : entities n ≡ refs K.Lane lanes_now ++ (refs K.Boundary (boundaries_now ++ new) ++ from_roads m)
  unfolding entities
  entities-now =
      ap (λ ls. entities_by ls (ids_of n K.Boundary) (ids_of n K.Road) (ids_of n K.Junction) (ids_of n K.RegulatoryElement)) (lanes-left tol next a b pl pr m)
      ∙ (ap (λ bs. entities_by lanes_now bs (ids_of n K.Road) (ids_of n K.Junction) (ids_of n K.RegulatoryElement)) boundaries-now
      ∙ (ap (λ rs. entities_by lanes_now (boundaries_now ++ new) rs (ids_of n K.Junction) (ids_of n K.RegulatoryElement)) roads-now
      ∙ (ap (λ js. entities_by lanes_now (boundaries_now ++ new) (ids_of m K.Road) js (ids_of n K.RegulatoryElement)) junctions-now
      ∙ ap (λ us. entities_by lanes_now (boundaries_now ++ new) (ids_of m K.Road) (ids_of m K.Junction) us) rules-now)))

  -- ---- created

  pub came : made next m a pl pr ≡ appeared m n
  unfolding appeared
  came = sym (ap (keep (absent m)) entities-now ∙ all_new)
    where
      lanes-known : keep (absent m) (refs K.Lane lanes_now) ≡ []
      lanes-known = none-absent m K.Lane lanes_now (λ i t. has_part i (part-map (λ l. l.id) (part-keep (other b.id) m.lanes)) t)

      boundaries-known : keep (absent m) (refs K.Boundary boundaries_now) ≡ []
      boundaries-known = none-absent m K.Boundary boundaries_now (λ i t. has_part i (part-map (λ x. x.id) (part-keep q m.boundaries)) t)

      new-known : keep (absent m) (refs K.Boundary new) ≡ refs K.Boundary new
      new-known = all-absent m K.Boundary new (λ i t. go i (has i (ids_of m K.Boundary)) refl t)
        where
          go : (i : ℕ) (c : Bool) → has i (ids_of m K.Boundary) ≡ c → has i new ≡ true → c ≡ false
          go i true e t = sym t ∙ old-not-new tol next m a b pl pr fl fr free i e
          go i false e t = refl

      all_new : keep (absent m) (refs K.Lane lanes_now ++ (refs K.Boundary (boundaries_now ++ new) ++ from_roads m)) ≡ made next m a pl pr
      all_new =
          rw (
            keep_append (absent m) (refs K.Lane lanes_now),
            keep_append (absent m) (refs K.Boundary (boundaries_now ++ new)),
            refs-append K.Boundary boundaries_now new,
            keep_append (absent m) (refs K.Boundary boundaries_now),
            lanes-known,
            boundaries-known,
            new-known,
            none-later m m refl refl refl refl refl,
            append-nil,
          ) (ap (refs K.Boundary) (sym (ids-made m next a pl pr fl fr)))

  -- ---- deleted

  pub went : Keys m → gone tol next m a b pl pr ≡ vanished m n
  unfolding vanished appeared
  went u = sym all-gone
    where
      lane-gone : keep (absent n) (refs K.Lane (lane_ids m)) ≡ refs K.Lane (b.id ∷ [])
      lane-gone =
          absent-of n K.Lane (lane_ids m)
          ∙ (ap (λ ids. refs K.Lane (keep (λ i. not (has i ids)) (lane_ids m))) (lanes-left tol next a b pl pr m)
          ∙ (ap (refs K.Lane) (left_out (λ l. l.id) (other b.id) m.lanes u.lanes-up)
          ∙ (ap (λ ls. refs K.Lane (map (λ l. l.id) ls)) (keep_same (λ l. not (other b.id l)) (λ l. eqb l.id b.id) m.lanes (λ l. not-not (eqb l.id b.id)))
          ∙ ap (refs K.Lane) (keep_one (λ l. l.id) b.id m.lanes b u.lanes-up (unfold lane in eb)))))

      now-old : (i : ℕ) → has i (ids_of m K.Boundary) ≡ true → not (has i (boundaries_now ++ new)) ≡ not (has i boundaries_now)
      now-old i t =
          ap not (has-append i boundaries_now new ∙ (ap (λ c. has i boundaries_now || c) (old-not-new tol next m a b pl pr fl fr free i t) ∙ or-false (has i boundaries_now)))

      boundaries-gone : keep (absent n) (refs K.Boundary (ids_of m K.Boundary)) ≡ boundaries_where (unused (a ∷ b ∷ []) (merged_lanes tol next m a b pl pr)) m.boundaries
      boundaries-gone =
          absent-of n K.Boundary (ids_of m K.Boundary)
          ∙ (ap (λ ids. refs K.Boundary (keep (λ i. not (has i ids)) (ids_of m K.Boundary))) boundaries-now
          ∙ (ap (refs K.Boundary) (keep-on (λ i. has i (ids_of m K.Boundary)) (λ i. not (has i (boundaries_now ++ new))) (λ i. not (has i boundaries_now)) (ids_of m K.Boundary)
          (all-numbers (λ i. has i (ids_of m K.Boundary)) (ids_of m K.Boundary) (λ i t. t)) now-old)
          ∙ (ap (refs K.Boundary) (left_out (λ x. x.id) q m.boundaries u.boundaries-up)
          ∙ ap (λ xs. refs K.Boundary (map (λ x. x.id) xs))
          (keep_same (λ x. not (q x)) (unused (a ∷ b ∷ []) (merged_lanes tol next m a b pl pr)) m.boundaries (λ x. not-not (unused (a ∷ b ∷ []) (merged_lanes tol next m a b pl pr) x))))))

      all-gone : keep (absent n) (entities m) ≡ gone tol next m a b pl pr
      all-gone =
          unfold entities in
          rw (
            keep_append (absent n) (refs K.Lane (lane_ids m)),
            keep_append (absent n) (refs K.Boundary (ids_of m K.Boundary)),
            lane-gone,
            boundaries-gone,
            none-later m n roads-now junctions-now refl refl rules-now,
            append-nil,
          )
