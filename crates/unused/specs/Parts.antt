-- remove_lane in words: the boundaries that go, and what the lent slices hold at its end. Nothing that a host calls rests on this page.
use Rattle.std.specs.Prelude.{◌≡◌, ℕ, ◌/◌, ◌<◌, Bool, true, not, ◌&&◌, ◌||◌, cond, List, [], ◌∷◌, ◌++◌, map, eqb, leb, ltb, length, take, drop, Err}
use Rattle.lists.specs.Rows.{keys}
use Rattle.lists.specs.Select.{keep, has}
use Rattle.rules.specs.Names.{EntityRef, LaneKind, BoundaryKind, RoadKind, JunctionKind, RuleKind, NoRoom}
use Rattle.rules.specs.Edit.{refs}
use Rattle.tables.specs.View.{word}
use Rattle.row_tests.specs.Returned.{lane_at}
use Rattle.lookup.specs.Lookup.{sorted_table, used_besides}
use Rattle.store.specs.Rows.{stays, kept_rows, on_rows}
use Rattle.report.specs.Report.{listed, warned, orphan_rule, Answer, changed}
use Rattle.unused.specs.declared.Gone.{Gone}
use Rattle.mentions.specs.declared.Rows.TheVariants.{Lanes, Roads, Junctions, Rules, Orphans}
use Rattle.mentions.specs.Naming.{table_formed, naming, forgets}
use Rattle.tables.specs.Columns.{boundary_words, junction_words, lane_left, lane_right, lane_words, road_words, row_count, row_id, rule_words}
use Rattle.rules.specs.Limits.{max_boundaries, max_lanes}

-- ---- what a removal asks of the tables

pub record Formed (ls rs js us : List ℕ) : Type 0 where
  pub lanes : table_formed Lanes ls ≡ true
  pub roads : table_formed Roads rs ≡ true
  pub junctions : table_formed Junctions js ≡ true
  pub rules : table_formed Rules us ≡ true

-- of the lane table, the lane's row, the tables of boundaries, roads, junctions and rules
pub record Removable (ls : List ℕ) (i : ℕ) (bs rs js us : List ℕ) : Type 0 where
  pub lanes_are_sorted : sorted_table max_lanes lane_words ls ≡ true
  pub row : i < word row_count ls
  pub boundaries_are_sorted : sorted_table max_boundaries boundary_words bs ≡ true
  pub formed : Formed ls rs js us

-- ---- boundaries

-- the ids that a value of `Gone` stands for
abbrev pub gone_ids : Gone → List ℕ
gone_ids g = take g.count (g.first ∷ g.second ∷ [])

-- a value of `Gone` that stands for these ids, and counts them
abbrev pub Holds : Gone → List ℕ → Type 0
Holds g ids = (gone_ids g ≡ ids) × (g.count ≡ length ids)

-- two ids in order
abbrev pub ordered : ℕ → ℕ → List ℕ
ordered a b = cond (ltb a b) (a ∷ b ∷ []) (b ∷ a ∷ [])

-- of a left and a right boundary those that are the lane's own alone, once each
abbrev pub own_alone : ℕ → ℕ → Bool → Bool → List ℕ
own_alone left right a b = cond (a && b && not (eqb left right)) (ordered left right) (cond a (left ∷ []) (cond b (right ∷ []) []))

-- a boundary of the table that no lane but one uses
abbrev pub lonely : List ℕ → List ℕ → ℕ → ℕ → Bool
lonely lanes boundaries lane b = has b (keys boundary_words (word row_count boundaries) (drop 1 boundaries)) && not (used_besides lanes b lane)

-- those of the lane in row i
unfoldable pub gone_with : List ℕ → ℕ → List ℕ → List ℕ
gone_with lanes i boundaries =
    let w = lane_at lanes i in
    keep (λ b. (eqb (word lane_left w) b || eqb (word lane_right w) b) && not (used_besides lanes b (word row_id w))) (keys boundary_words (word row_count boundaries) (drop 1 boundaries))

-- ---- lists

-- everything that names a lane, by kind, then id
unfoldable pub touched : ℕ → List ℕ → List ℕ → List ℕ → List ℕ → List EntityRef
touched a lanes roads junctions rules =
    refs LaneKind (naming Lanes a lanes) ++ (refs RoadKind (naming Roads a roads) ++ (refs JunctionKind (naming Junctions a junctions) ++ refs RuleKind (naming Rules a rules)))

-- the lane and its boundaries
abbrev pub leaving : ℕ → List ℕ → List EntityRef
leaving a gone = refs LaneKind (a ∷ []) ++ refs BoundaryKind gone

-- the lists have places for so many modified, deleted and warnings
abbrev pub lists_fit : ℕ → ℕ → ℕ → List ℕ → List ℕ → List ℕ → Bool
lists_fit m d w modified deleted warnings = leb m (length modified / 2) && leb d (length deleted / 2) && leb w (length warnings / 10)

-- ---- the whole

-- the tables that a removal changes
pub record Left : Type 0 where
  pub lanes : List ℕ
  pub boundaries : List ℕ
  pub roads : List ℕ
  pub junctions : List ℕ
  pub rules : List ℕ

abbrev pub tables : List ℕ → List ℕ → List ℕ → List ℕ → List ℕ → Left
tables lanes boundaries roads junctions rules = record { lanes = lanes; boundaries = boundaries; roads = roads; junctions = junctions; rules = rules }

-- without lane a and the boundaries that go with it
abbrev pub left_tables : ℕ → List ℕ → Left → Left
left_tables a gone t =
    tables
    (on_rows lane_words (forgets Lanes a) (kept_rows lane_words (stays a a) t.lanes))
    (kept_rows boundary_words (λ i. not (has i gone)) t.boundaries)
    (on_rows road_words (forgets Roads a) t.roads)
    (on_rows junction_words (forgets Junctions a) t.junctions)
    (on_rows rule_words (forgets Rules a) t.rules)

-- with the lists, and the answer
pub record Removed : Type 0 where
  pub tables : Left
  pub modified : List ℕ
  pub deleted : List ℕ
  pub warnings : List ℕ
  pub answer : Answer

abbrev pub removed : Left → List ℕ → List ℕ → List ℕ → Answer → Removed
removed tables modified deleted warnings answer = record { tables = tables; modified = modified; deleted = deleted; warnings = warnings; answer = answer }

-- lane a gone, if the lists have room
unfoldable pub without_lane : ℕ → List ℕ → Left → List ℕ → List ℕ → List ℕ → Removed
without_lane a gone t modified deleted warnings =
    let m = touched a t.lanes t.roads t.junctions t.rules in
    let d = leaving a gone in
    let w = map orphan_rule (naming Orphans a t.rules) in
    cond (lists_fit (length m) (length d) (length w) modified deleted warnings)
    (removed (left_tables a gone t) (listed modified m) (listed deleted d) (warned warnings w) (changed (record { created = 0; modified = length m; deleted = length d; warnings = length w })))
    (removed t modified deleted warnings (Err NoRoom))
