-- topology.rs on the rows of the lane table: what links and neighbours of the lanes become is given on records, by the rules.
use Rattle.std.specs.Prelude.{ℕ, ◌<◌, ◌≡◌, true, false, List, [], ◌∷◌, map, length, Option, None, Some}
use Rattle.lists.specs.Select.{has, ascending}
use Rattle.entities.specs.Records.{Lane}
use Rattle.entities.specs.declared.Neighbor.{Neighbor}
use Rattle.entities.specs.declared.NeighborDirection.{NeighborDirection}
use Rattle.entities.specs.Types.{reciprocal_side}
use Rattle.rules.specs.Names.{Side, Left, Right}
use Rattle.rules.specs.Map.{neighbor_on}
use Rattle.tables.specs.View.{word, ids_at, rows, lane_of}
use Rattle.row_tests.specs.Returned.{lane_at}
use Rattle.store.specs.Store.{lane_onto, store_rows}
use Rattle.store.specs.Rows.{keyed, set_slot}
use Rattle.tables.specs.Columns.{lane_words, row_id}

-- The lane table with each lane changed by f. Coordinates have no part in it: f changes links and neighbours alone.
unfoldable pub lanes_changed : (Lane → Lane) → List ℕ → List ℕ
lanes_changed f t = store_rows lane_words lane_onto (λ l. l.id) t (map f (rows lane_words (lane_of []) t))

-- the id of row i
abbrev pub id_at : List ℕ → ℕ → ℕ
id_at t i = word row_id (lane_at t i)

-- a count and its ids
abbrev pub link_words : List ℕ → List ℕ
link_words ids = length ids ∷ ids

-- the list at k of row i
abbrev pub links_at : List ℕ → ℕ → ℕ → List ℕ
links_at t i k = ids_at k (lane_at t i)

-- a list that has room for an id, which it lacks
abbrev pub Open : List ℕ → ℕ → Type 0
Open ids id = (length ids < 16) × ((ascending ids ≡ true) × (has id ids ≡ false))

-- the place of a side's slot in a row
abbrev pub slot_place : Side → ℕ
slot_place Left = 14
slot_place Right = 16

-- what the lane in row i has on a side
abbrev pub slot_held : List ℕ → ℕ → Side → Option Neighbor
slot_held t i side = neighbor_on side (lane_of [] (lane_at t i))

-- the lane in row j as a neighbour
abbrev pub beside_row : List ℕ → ℕ → NeighborDirection → Neighbor
beside_row t j d = record { lane = id_at t j; direction = d }

-- a row, where it is that of the neighbour held on a side, with its answering slot freed
abbrev pub freed_by : Side → Option Neighbor → List ℕ → List ℕ
freed_by side None w = w
freed_by side (Some n) w = keyed n.lane (set_slot (slot_place (reciprocal_side side n.direction)) None) w
