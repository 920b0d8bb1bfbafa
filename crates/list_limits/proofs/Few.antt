-- What is to be shown of every edit of a map, and what all lists of changed rows have. Assumes nothing.
use Rattle.std.specs.Prelude.{Ok}
use mathlib.Core.Path.{◌≡◌, subst}
use Prim.Native.Nat.{ℕ, ◌+◌, ◌≤◌}
use mathlib.Core.Bool.{Bool, true}
use mathlib.Core.List.{List, ◌++◌, map}
use lib.ListN.{length}
use borrow.Author.Tests.{leb-true, le-leb}
use Rattle.lists.specs.Select.{ascending}
use Rattle.entities.specs.declared.EntityKind.TheVariants as K
use Rattle.entities.specs.declared.EntityRef.{EntityRef}
use Rattle.entities.specs.Records.{Lane, Road, Junction, Rule, Map}
use Rattle.rules.specs.Limits.{max_lanes, max_boundaries, max_roads, max_junctions, max_rules}
use Rattle.rules.specs.Sound.{sound}
use Rattle.rules.specs.Edit.{Edited, lanes_where, roads_where, junctions_where, rules_where, Res}
use Rattle.rules.specs.Ops.{fits_lists}
use Rattle.rules.proofs.Facts.{sound-facts}
use Rattle.laws.proofs.Lawful.{yields}
use Rattle.laws.proofs.Entities.{keys_of}
use Rattle.sound_facts.proofs.Room.{limits}
use Rattle.list_limits.specs.Enough.{enough}
use Rattle.list_limits.proofs.Counts.{both-few, where_few}

-- ---- the map

-- what is needed of a sound map
pub record Sized (m : Map) : Type 0 where
  pub boundaries-up : ascending (map (λ b. b.id) m.boundaries) ≡ true
  pub lanes : length m.lanes ≤ max_lanes
  pub boundaries : length m.boundaries ≤ max_boundaries
  pub roads : length m.roads ≤ max_roads
  pub junctions : length m.junctions ≤ max_junctions
  pub rules : length m.rules ≤ max_rules

pub sized : (counter : ℕ) (m : Map) → sound counter m ≡ true → Sized m
sized counter m h =
    let s = sound-facts counter m h in
    let k = limits m s.limits in
    record {
      boundaries-up = (keys_of m s.ids).boundaries-up;
      lanes = leb-true (length m.lanes) max_lanes k.lanes;
      boundaries = leb-true (length m.boundaries) max_boundaries k.boundaries;
      roads = leb-true (length m.roads) max_roads k.roads;
      junctions = leb-true (length m.junctions) max_junctions k.junctions;
      rules = leb-true (length m.rules) max_rules k.rules;
    }

-- rows of some lanes, of boundaries that are given, and of the other tables
pub rows_few : (m : Map) → Sized m → (ls : List Lane) (bs : List EntityRef) → length ls ≤ max_lanes → length bs ≤ max_boundaries
    → (p : Lane → Bool) (q : Road → Bool) (r : Junction → Bool) (t : Rule → Bool)
    → length (lanes_where p ls ++ (bs ++ (roads_where q m.roads ++ (junctions_where r m.junctions ++ rules_where t m.rules)))) ≤ enough.modified
rows_few m s ls bs h g p q r t =
    both-few (lanes_where p ls) _ max_lanes (max_boundaries + (max_roads + (max_junctions + max_rules))) (where_few K.Lane (λ l. l.id) p ls max_lanes h)
    (both-few bs _ max_boundaries (max_roads + (max_junctions + max_rules)) g
    (both-few (roads_where q m.roads) _ max_roads (max_junctions + max_rules) (where_few K.Road (λ x. x.id) q m.roads max_roads s.roads)
    (both-few (junctions_where r m.junctions) (rules_where t m.rules) max_junctions max_rules
    (where_few K.Junction (λ x. x.id) r m.junctions max_junctions s.junctions)
    (where_few K.RegulatoryElement (λ x. x.id) t m.rules max_rules s.rules))))

-- ---- the edit

-- its lists are short; as many entities are created as ids are allocated
pub record Few (e : Edited) : Type 0 where
  pub ids : e.ids ≤ enough.created
  pub modified : length e.changes.modified ≤ enough.modified
  pub deleted : length e.changes.deleted ≤ enough.deleted
  pub warnings : length e.changes.warnings ≤ enough.warnings

pub few-of : {x e : Edited} → ◌≡◌ {A = Res Edited} (Ok x) (Ok e) → Few x → Few e
few-of h f = subst Few (yields h) f

pub few-fits : (e : Edited) → length e.changes.created ≡ e.ids → Few e → fits_lists enough e.changes ≡ true
few-fits e many f =
    let c = e.changes in
    let a : length c.created ≤ enough.created = rw many f.ids in
    rw (
      le-leb (length c.created) enough.created a,
      le-leb (length c.modified) enough.modified f.modified,
      le-leb (length c.deleted) enough.deleted f.deleted,
      le-leb (length c.warnings) enough.warnings f.warnings,
    )
