-- Which clause of soundness fails first, and at which row: the first clause, in it the first table, in that the first row, counted from 0.
-- crates/row_faults/specs/Clauses.antt has the clauses in their order, and the numbers of clauses and tables.
use Rattle.std.specs.Prelude.{ℕ, Bool, cond, List, [], ◌∷◌, drop, Option, None, Some, unwrap_or}
use Rattle.std.specs.Option.{option_or}
use Rattle.lists.specs.Every.{all}
use Rattle.lists.specs.Rows.{keys}
use Rattle.rules.specs.Limits.{max_boundaries, max_crosswalks, max_junctions, max_lanes, max_roads, max_rules, max_stop_lines}
use Rattle.tables.specs.View.{Tables, rows, word}
use Rattle.tables.specs.Formed.{counted, spans, all_clear}
use Rattle.tables.specs.Columns.{boundary_words, crosswalk_words, junction_words, lane_words, road_words, row_count, rule_words, stop_line_words}
use Rattle.row_tests.specs.Good.{largest_id}
use Rattle.row_faults.specs.declared.Clause.{Clause}
use Rattle.row_faults.specs.declared.Clause.TheVariants.{Counts, Marks, Kinds, Ids, Names, Links, Lines, Repeats, Points, Returns, Neighbors}
use Rattle.row_faults.specs.declared.Table.{Table}
use Rattle.row_faults.specs.declared.Table.TheVariants.{Lane, Boundary, Road, Junction, Rule, StopLine, Crosswalk, Coordinate}
use Rattle.row_faults.specs.Clauses.{clause_number, table_number}
use Rattle.row_faults.specs.First.{first_false, rises}
use Rattle.row_faults.specs.Passes.{row_passes}
use Rattle.row_returns.specs.Returns.{named_back}
use Rattle.faults.specs.declared.Fault.{Fault}

-- a fault as a host is told it
abbrev pub fault_at : Clause → Table → ℕ → Fault
fault_at clause table row = record { clause = clause_number clause; table = table_number table; row = row }

-- all 0 where nothing fails
abbrev pub no_fault : Fault
no_fault = record { clause = 0; table = 0; row = 0 }

-- the first test of a table that fails
unfoldable pub fault_in : Clause → Table → List Bool → Option Fault
fault_in clause table passed = cond (all (λ b. b) passed) None (Some (fault_at clause table (first_false passed)))

-- ---- a clause, table by table

unfoldable pub counts_fault : Tables → Option Fault
counts_fault t =
    option_or (fault_in Counts Lane (counted max_lanes lane_words t.lanes ∷ []))
    (option_or (fault_in Counts Boundary (counted max_boundaries boundary_words t.boundaries ∷ []))
    (option_or (fault_in Counts Road (counted max_roads road_words t.roads ∷ []))
    (option_or (fault_in Counts Junction (counted max_junctions junction_words t.junctions ∷ []))
    (option_or (fault_in Counts Rule (counted max_rules rule_words t.rules ∷ []))
    (option_or (fault_in Counts StopLine (counted max_stop_lines stop_line_words t.stop_lines ∷ []))
    (fault_in Counts Crosswalk (counted max_crosswalks crosswalk_words t.crosswalks ∷ [])))))))

-- the rows of a table, each by itself
abbrev pub rows_in : Clause → Table → ℕ → ℕ → Tables → List ℕ → Option Fault
rows_in clause table s most t w = fault_in clause table (rows s (row_passes clause table most t.coordinates) w)

abbrev pub later_rows_fault : Clause → ℕ → Tables → Option Fault
later_rows_fault clause most t =
    option_or (rows_in clause Junction junction_words most t t.junctions)
    (option_or (rows_in clause Rule rule_words most t t.rules)
    (option_or (rows_in clause StopLine stop_line_words most t t.stop_lines) (rows_in clause Crosswalk crosswalk_words most t t.crosswalks)))

unfoldable pub rows_fault : Clause → ℕ → Tables → Option Fault
rows_fault clause most t =
    option_or (rows_in clause Lane lane_words most t t.lanes)
    (option_or (rows_in clause Boundary boundary_words most t t.boundaries) (option_or (rows_in clause Road road_words most t t.roads) (later_rows_fault clause most t)))

-- the ids of a table
abbrev pub ids_in : Table → ℕ → List ℕ → Option Fault
ids_in table s w = fault_in Ids table (rises (keys s (word row_count w) (drop 1 w)))

unfoldable pub ids_fault : Tables → Option Fault
ids_fault t =
    option_or (ids_in Lane lane_words t.lanes)
    (option_or (ids_in Boundary boundary_words t.boundaries)
    (option_or (ids_in Road road_words t.roads)
    (option_or (ids_in Junction junction_words t.junctions)
    (option_or (ids_in Rule rule_words t.rules) (option_or (ids_in StopLine stop_line_words t.stop_lines) (ids_in Crosswalk crosswalk_words t.crosswalks))))))

-- ---- the clauses in their order

-- most is the largest id that the counter allows
abbrev pub link_faults : ℕ → Tables → Option Fault
link_faults most t = option_or (rows_fault Links most t) (option_or (rows_fault Lines most t) (rows_fault Repeats most t))

abbrev pub id_faults : ℕ → Tables → Option Fault
id_faults most t = option_or (ids_fault t) (option_or (rows_fault Names most t) (link_faults most t))

-- what is asked of rows and ids
unfoldable pub row_faults : ℕ → Tables → Option Fault
row_faults most t = option_or (rows_fault Marks most t) (option_or (rows_fault Kinds most t) (id_faults most t))

-- points shared by two lines are told of the coordinates as a whole
unfoldable pub tie_faults : Tables → Option Fault
tie_faults t =
    option_or (fault_in Points Coordinate (all_clear (spans t) ∷ []))
    (option_or (fault_in Returns Lane (rows lane_words (named_back Returns t.lanes) t.lanes)) (fault_in Neighbors Lane (rows lane_words (named_back Neighbors t.lanes) t.lanes)))

-- the first fault of a map with its counter
unfoldable pub found : ℕ → Tables → Option Fault
found counter t = option_or (counts_fault t) (option_or (row_faults (largest_id counter) t) (tie_faults t))

-- the first fault as a host is told it
unfoldable pub fault_of : ℕ → Tables → Fault
fault_of counter t = unwrap_or (found counter t) no_fault
