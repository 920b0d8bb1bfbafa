-- edit/lane.rs: remove_lane.
use Rattle.std.specs.Prelude.{ℕ, Bool, true, not, ◌&&◌, ◌||◌, cond, List, [], ◌∷◌, ◌++◌, map, eqb, length, Option, None, Some, Ok}
use Rattle.lists.specs.Select.{keep, any, has, without}
use Rattle.rules.specs.Names.{Neighbor, LaneKind, RuleKind, Warning, OrphanRule}
use Rattle.entities.specs.Records.{Lane, Boundary, Road, Junction, Rule, Map, Issue}
use Rattle.rules.specs.Map.{beside, uses}
use Rattle.rules.specs.Edit.{Res, ◌>>=◌, Edited, require_lane, refs, lanes_where, boundaries_where, roads_where, junctions_where, rules_where, relinked}

-- ---- a lane leaves: shared with merge_lanes, whose second lane leaves

-- a link list or a slot names lane a
abbrev pub mentions : ℕ → Lane → Bool
mentions a l = has a l.predecessors || has a l.successors || beside l a

abbrev pub freed : ℕ → Option Neighbor → Option Neighbor
freed a None = None
freed a (Some n) = cond (eqb n.lane a) None (Some n)

abbrev pub forgetting : ℕ → Lane → Lane
forgetting a l = relinked l (freed a l.left_neighbor) (freed a l.right_neighbor) (without a l.predecessors) (without a l.successors)

abbrev pub road_lanes : (List ℕ → List ℕ) → Road → Road
road_lanes f r = record { id = r.id; name = r.name; attributes = r.attributes; lanes = f r.lanes }

abbrev pub junction_lanes : (List ℕ → List ℕ) → Junction → Junction
junction_lanes f j = record { id = j.id; name = j.name; outline = j.outline; attributes = j.attributes; lanes = f j.lanes }

-- a rule with its own lanes, and its priority and yielding lanes, replaced; those two are empty but in a right of way
abbrev pub rule_lanes : (List ℕ → List ℕ) → (List ℕ → List ℕ) → Rule → Rule
rule_lanes f g r =
    record {
      id = r.id;
      kind = r.kind;
      content = r.content;
      attributes = r.attributes;
      crosswalk = r.crosswalk;
      lanes = f r.lanes;
      controlled_crosswalks = r.controlled_crosswalks;
      stop_lines = r.stop_lines;
      priority = g r.priority;
      yielding = g r.yielding;
    }

abbrev pub rule_names_lane : ℕ → Rule → Bool
rule_names_lane a r = has a r.lanes || has a r.priority || has a r.yielding

-- "Boundaries left unused by merge or removal are deleted; a missing one that a lane named is in no list."
abbrev pub unused : List Lane → List Lane → Boundary → Bool
unused named left b = any (uses b.id) named && not (any (uses b.id) left)

-- ---- remove_lane

abbrev pub orphan : Rule → Issue
orphan r = record { severity = Warning; code = OrphanRule; entity = record { kind = RuleKind; id = r.id }; related = []; fix = true }

-- a rule that named the lane and is left with no lane of its own
abbrev pub orphaned : ℕ → Rule → Bool
orphaned a r = rule_names_lane a r && eqb (length (without a r.lanes)) 0

unfoldable pub remove_lane : ℕ → Map → Res Edited
remove_lane a m = do
  gone ← require_lane m a
  let left = keep (λ l. not (eqb l.id a)) m.lanes in
      let drops = unused (gone ∷ []) left in
      Ok
      (record {
        result =
            record {
              lanes = map (forgetting a) left;
              boundaries = keep (λ b. not (drops b)) m.boundaries;
              roads = map (road_lanes (without a)) m.roads;
              junctions = map (junction_lanes (without a)) m.junctions;
              rules = map (rule_lanes (without a) (without a)) m.rules;
              stop_lines = m.stop_lines;
              crosswalks = m.crosswalks;
            };
        ids = 0;
        second = None;
        changes =
            record {
              created = [];
              modified =
                  lanes_where (mentions a) left
                  ++ (roads_where (λ r. has a r.lanes) m.roads
                  ++ (junctions_where (λ j. has a j.lanes) m.junctions ++ rules_where (rule_names_lane a) m.rules));
              deleted = refs LaneKind (a ∷ []) ++ boundaries_where drops m.boundaries;
              warnings = map orphan (keep (orphaned a) m.rules);
            };
      })
