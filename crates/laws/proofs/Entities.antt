-- The entities of a map: sorted where ids ascend, and so is every part of them; an entity among them is an id of its kind. Assumes nothing.
use mathlib.Core.Path.{◌≡◌, refl, ap, ◌∙◌}
use mathlib.Core.Bool.{Bool, true, ◌&&◌, ◌||◌}
use mathlib.Core.List.{List, [], ◌++◌, map}
use Prim.Native.Nat.{ℕ}
use lib.Dec.{eqb, ltb}
use Rattle.lists.specs.Every.{all}
use Rattle.lists.specs.Select.{has, ascending}
use Rattle.lists.proofs.Booleans.{and-fst, and-snd, or-false}
use Rattle.lists.proofs.Select.{any_append, all_of}
use Rattle.entities.specs.Types.{kind_number}
use Rattle.entities.specs.Records.{Map}
use Rattle.entities.specs.declared.EntityKind.{EntityKind}
use Rattle.entities.specs.declared.EntityKind.TheVariants as K
use Rattle.entities.specs.declared.EntityRef.{EntityRef}
use Rattle.rules.specs.Map.{lane_ids}
use Rattle.rules.specs.Sound.{ids_ascend}
use Rattle.rules.specs.Edit.{refs}
use Rattle.rules.specs.Demand.{entities, same_entity, among, sorted}
use Rattle.laws.proofs.Exact.{among-refs, sorted-refs, same_self}
use Rattle.laws.proofs.Order.{beyond, beyond-refs, beyond-more, sorted_more}

-- ---- ids that ascend

pub record Keys (m : Map) : Type 0 where
  pub lanes-up : ascending (lane_ids m) ≡ true
  pub boundaries-up : ascending (map (λ b. b.id) m.boundaries) ≡ true
  pub roads-up : ascending (map (λ r. r.id) m.roads) ≡ true
  pub junctions-up : ascending (map (λ j. j.id) m.junctions) ≡ true
  pub rules-up : ascending (map (λ r. r.id) m.rules) ≡ true
  pub stop-lines-up : ascending (map (λ s. s.id) m.stop_lines) ≡ true
  pub crosswalks-up : ascending (map (λ c. c.id) m.crosswalks) ≡ true

pub keys_of : (m : Map) → ids_ascend m ≡ true → Keys m
unfolding ids_ascend
keys_of m h =
    let a1 = ascending (lane_ids m) in
    let a2 = a1 && ascending (map (λ b. b.id) m.boundaries) in
    let a3 = a2 && ascending (map (λ r. r.id) m.roads) in
    let a4 = a3 && ascending (map (λ j. j.id) m.junctions) in
    let a5 = a4 && ascending (map (λ r. r.id) m.rules) in
    let a6 = a5 && ascending (map (λ s. s.id) m.stop_lines) in
    let h6 = and-fst a6 (ascending (map (λ c. c.id) m.crosswalks)) h in
    let h5 = and-fst a5 (ascending (map (λ s. s.id) m.stop_lines)) h6 in
    let h4 = and-fst a4 (ascending (map (λ r. r.id) m.rules)) h5 in
    let h3 = and-fst a3 (ascending (map (λ j. j.id) m.junctions)) h4 in
    let h2 = and-fst a2 (ascending (map (λ r. r.id) m.roads)) h3 in
    record {
      lanes-up = and-fst a1 (ascending (map (λ b. b.id) m.boundaries)) h2;
      boundaries-up = and-snd a1 (ascending (map (λ b. b.id) m.boundaries)) h2;
      roads-up = and-snd a2 (ascending (map (λ r. r.id) m.roads)) h3;
      junctions-up = and-snd a3 (ascending (map (λ j. j.id) m.junctions)) h4;
      rules-up = and-snd a4 (ascending (map (λ r. r.id) m.rules)) h5;
      stop-lines-up = and-snd a5 (ascending (map (λ s. s.id) m.stop_lines)) h6;
      crosswalks-up = and-snd a6 (ascending (map (λ c. c.id) m.crosswalks)) h;
    }

-- ---- the entities of a map

-- the entities from one kind on
abbrev from_crosswalks : Map → List EntityRef
from_crosswalks m = refs K.Crosswalk (map (λ c. c.id) m.crosswalks) ++ refs K.RegulatoryElement (map (λ r. r.id) m.rules)

abbrev from_stop_lines : Map → List EntityRef
from_stop_lines m = refs K.StopLine (map (λ s. s.id) m.stop_lines) ++ from_crosswalks m

abbrev from_junctions : Map → List EntityRef
from_junctions m = refs K.Junction (map (λ j. j.id) m.junctions) ++ from_stop_lines m

abbrev pub from_roads : Map → List EntityRef
from_roads m = refs K.Road (map (λ r. r.id) m.roads) ++ from_junctions m

pub entities-sorted : (m : Map) → Keys m → sorted (entities m) ≡ true
unfolding entities
entities-sorted m u =
    sorted_more K.Lane (lane_ids m) (refs K.Boundary bs ++ from_roads m) u.lanes-up (beyond-more K.Lane K.Boundary bs (from_roads m) refl (past-roads K.Lane refl refl refl refl refl))
    (sorted_more K.Boundary bs (from_roads m) u.boundaries-up (past-roads K.Boundary refl refl refl refl refl)
    (sorted_more K.Road (map (λ r. r.id) m.roads) (from_junctions m) u.roads-up (past-junctions K.Road refl refl refl refl)
    (sorted_more K.Junction (map (λ j. j.id) m.junctions) (from_stop_lines m) u.junctions-up (past-stop-lines K.Junction refl refl refl)
    (sorted_more K.StopLine (map (λ s. s.id) m.stop_lines) (from_crosswalks m) u.stop-lines-up (past-crosswalks K.StopLine refl refl)
    (sorted_more K.Crosswalk (map (λ c. c.id) m.crosswalks) (refs K.RegulatoryElement rs) u.crosswalks-up (beyond-refs K.Crosswalk K.RegulatoryElement rs refl)
    (sorted-refs K.RegulatoryElement rs u.rules-up))))))
  where
    bs : List ℕ
    bs = map (λ b. b.id) m.boundaries

    rs : List ℕ
    rs = map (λ r. r.id) m.rules

    past-crosswalks : (k : EntityKind) → ltb (kind_number k) 6 ≡ true → ltb (kind_number k) 7 ≡ true → all (beyond k) (from_crosswalks m) ≡ true
    past-crosswalks k p q = beyond-more k K.Crosswalk (map (λ c. c.id) m.crosswalks) (refs K.RegulatoryElement rs) p (beyond-refs k K.RegulatoryElement rs q)

    past-stop-lines : (k : EntityKind) → ltb (kind_number k) 4 ≡ true → ltb (kind_number k) 6 ≡ true → ltb (kind_number k) 7 ≡ true → all (beyond k) (from_stop_lines m) ≡ true
    past-stop-lines k o p q = beyond-more k K.StopLine (map (λ s. s.id) m.stop_lines) (from_crosswalks m) o (past-crosswalks k p q)

    past-junctions : (k : EntityKind) → ltb (kind_number k) 3 ≡ true → ltb (kind_number k) 4 ≡ true → ltb (kind_number k) 6 ≡ true → ltb (kind_number k) 7 ≡ true
        → all (beyond k) (from_junctions m) ≡ true
    past-junctions k n o p q = beyond-more k K.Junction (map (λ j. j.id) m.junctions) (from_stop_lines m) n (past-stop-lines k o p q)

    past-roads : (k : EntityKind) → ltb (kind_number k) 2 ≡ true → ltb (kind_number k) 3 ≡ true → ltb (kind_number k) 4 ≡ true → ltb (kind_number k) 6 ≡ true
        → ltb (kind_number k) 7 ≡ true → all (beyond k) (from_roads m) ≡ true
    past-roads k l n o p q = beyond-more k K.Road (map (λ r. r.id) m.roads) (from_junctions m) l (past-junctions k n o p q)

-- every entity of a list is among it
pub all_among : (es : List EntityRef) → all (λ e. among e es) es ≡ true
all_among es = all_of (λ e. among e es) es (λ e here. unfold among in here (same_entity e) (same_self e))

-- the ids of one kind
abbrev pub ids_of : Map → EntityKind → List ℕ
ids_of m K.Lane = lane_ids m
ids_of m K.Boundary = map (λ b. b.id) m.boundaries
ids_of m K.Road = map (λ r. r.id) m.roads
ids_of m K.Junction = map (λ j. j.id) m.junctions
ids_of m K.StopLine = map (λ s. s.id) m.stop_lines
ids_of m K.TrafficSignal = []
ids_of m K.Crosswalk = map (λ c. c.id) m.crosswalks
ids_of m K.RegulatoryElement = map (λ r. r.id) m.rules

pub among-append : (e : EntityRef) (es fs : List EntityRef) → among e (es ++ fs) ≡ (among e es || among e fs)
unfolding among
among-append e es fs = any_append (same_entity e) es fs

pub among-more : (e : EntityRef) (k : EntityKind) (ids : List ℕ) (more : List EntityRef)
    → among e (refs k ids ++ more) ≡ (eqb (kind_number e.kind) (kind_number k) && has e.id ids || among e more)
among-more e k ids more = among-append e (refs k ids) more ∙ ap (λ t. t || among e more) (among-refs e k ids)

-- An entity is among those of a map where its id is one of its kind.
pub among-kind : (m : Map) (e : EntityRef) → among e (entities m) ≡ has e.id (ids_of m e.kind)
unfolding entities
among-kind m e = split ∙ go e.kind
  where
    i : ℕ
    i = e.id

    tests : EntityKind → Bool
    tests k =
        let n = kind_number k in
        eqb n 0 && has i (lane_ids m)
        || (eqb n 1 && has i (map (λ b. b.id) m.boundaries)
        || (eqb n 2 && has i (map (λ r. r.id) m.roads)
        || (eqb n 3 && has i (map (λ j. j.id) m.junctions)
        || (eqb n 4 && has i (map (λ s. s.id) m.stop_lines)
        || (eqb n 6 && has i (map (λ c. c.id) m.crosswalks) || eqb n 7 && has i (map (λ r. r.id) m.rules))))))

    split : among e (entities m) ≡ tests e.kind
    split =
        rw (among-more e K.Lane, among-more e K.Boundary, among-more e K.Road, among-more e K.Junction, among-more e K.StopLine, among-more e K.Crosswalk, among-refs e K.RegulatoryElement)

    go : (k : EntityKind) → tests k ≡ has i (ids_of m k)
    go K.Lane = or-false (has i (lane_ids m))
    go K.Boundary = or-false (has i (map (λ b. b.id) m.boundaries))
    go K.Road = or-false (has i (map (λ r. r.id) m.roads))
    go K.Junction = or-false (has i (map (λ j. j.id) m.junctions))
    go K.StopLine = or-false (has i (map (λ s. s.id) m.stop_lines))
    go K.TrafficSignal = unfold has in refl
    go K.Crosswalk = or-false (has i (map (λ c. c.id) m.crosswalks))
    go K.RegulatoryElement = refl
