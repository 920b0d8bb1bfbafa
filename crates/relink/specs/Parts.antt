-- The parts of an edit of links and neighbours. Nothing that a host calls rests on this page: its contracts name `step` alone.
use Rattle.std.specs.Prelude.{◌≡◌, ℕ, ◌<◌, Bool, true, not, ◌&&◌, ◌||◌, cond, List, [], ◌∷◌, ◌++◌, eqb, ltb, length, Option, None, Some, Err}
use Rattle.lists.specs.Select.{has, place, ascending}
use Rattle.entities.specs.Types.{lane_entity, reciprocal_side}
use Rattle.entities.specs.Records.{Issue}
use Rattle.tables.specs.View.{word, ref_at}
use Rattle.row_tests.specs.Returned.{searchable, lane_at}
use Rattle.lookup.specs.Lookup.{side_word}
use Rattle.rules.specs.Names.{Side, Neighbor, NeighborDirection, NoRoom, LaneKind, GeometricGap, BoundaryUnshared}
use Rattle.rules.specs.Edit.{refs, when, warning, no_op, link_in, link_out, same_slot, slot_after, reslotted}
use Rattle.topology.specs.Topology.{id_at, links_at, lanes_changed, slot_held, beside_row}
use Rattle.report.specs.Report.{listed, warned, report_fits, Answer, changed}
use Rattle.tables.specs.Columns.{predecessors_at, row_count, successors_at}
use Rattle.rules.specs.Limits.{max_links}

-- what such an edit writes, and its answer
pub record Relinked : Type 0 where
  pub lanes : List ℕ
  pub modified : List ℕ
  pub warnings : List ℕ
  pub answer : Answer

abbrev pub links_written : List ℕ → List ℕ → List ℕ → Answer → Relinked
links_written lanes modified warnings answer = record { lanes = lanes; modified = modified; warnings = warnings; answer = answer }

-- The lane table as it becomes, the lanes named as modified and the warnings, where there is room; else nothing, and 10.
unfoldable pub writing_links : Bool → List ℕ → List ℕ → List Issue → List ℕ → List ℕ → List ℕ → Relinked
writing_links room after ids is lanes modified warnings =
    cond (room && report_fits (length ids) (length is) modified warnings)
    (links_written after (listed modified (refs LaneKind ids)) (warned warnings is)
    (changed (record { created = 0; modified = length ids; deleted = 0; warnings = length is })))
    (links_written lanes modified warnings (Err NoRoom))

-- two lanes in id order, once each
abbrev pub pair_of : ℕ → ℕ → List ℕ
pair_of a b = place b (place a [])

-- both lists of a new link have room
abbrev pub link_room : List ℕ → ℕ → ℕ → Bool
link_room t i j = ltb (length (links_at t i successors_at)) max_links && ltb (length (links_at t j predecessors_at)) max_links

-- rows i and j can be linked or unlinked, and `linked` says whether they are
abbrev pub Linkable : List ℕ → ℕ → ℕ → Bool → Type 0
Linkable t i j linked =
    (searchable t ≡ true)
    × ((i < word row_count t)
    × ((j < word row_count t)
    × ((linked ≡ has (id_at t j) (links_at t i successors_at))
    × ((linked ≡ has (id_at t i) (links_at t j predecessors_at)) × ((ascending (links_at t i successors_at) ≡ true) × (ascending (links_at t j predecessors_at) ≡ true))))))

-- connect of rows i and j: a gap is warned of even if the link is there
abbrev pub linking : List ℕ → ℕ → ℕ → Bool → Bool → List ℕ → List ℕ → Relinked
linking t i j linked gap modified warnings =
    let a = id_at t i in
    let b = id_at t j in
    writing_links (linked || link_room t i j) (lanes_changed (link_in a b) t) (cond linked [] (pair_of a b))
    (when gap (warning GeometricGap (lane_entity a) (lane_entity b ∷ [])) ++ when linked (no_op a)) t modified warnings

abbrev pub unlinking : List ℕ → ℕ → ℕ → Bool → List ℕ → List ℕ → Relinked
unlinking t i j linked modified warnings =
    let a = id_at t i in
    let b = id_at t j in
    writing_links true (lanes_changed (link_out a b) t) (cond linked (pair_of a b) []) (when (not linked) (no_op a)) t modified warnings

-- ---- neighbours

-- the lane in a slot, among ids
abbrev pub place_slot : Option Neighbor → List ℕ → List ℕ
place_slot None ids = ids
place_slot (Some n) ids = place n.lane ids

-- the lanes whose slots are set or freed, in id order
abbrev pub slot_ids : ℕ → Option Neighbor → Option Neighbor → Option Neighbor → List ℕ
slot_ids a old new other = place_slot other (place_slot new (place_slot old (place a [])))

-- two rows with two boundaries between them
abbrev pub unshared_issues : List ℕ → ℕ → Side → ℕ → Side → Bool
unshared_issues t i side j answer = not (eqb (ref_at (side_word side) (lane_at t i)).boundary (ref_at (side_word answer) (lane_at t j)).boundary)

-- the slot of row i on a side becomes `new`; the other lane's slot held `other`
abbrev pub reslotting : List ℕ → ℕ → Side → Option Neighbor → Option Neighbor → List Issue → List ℕ → List ℕ → Relinked
reslotting t i side new other is modified warnings =
    let a = id_at t i in
    let old = slot_held t i side in
    writing_links true (cond (same_slot old new) t (lanes_changed (reslotted (slot_after a side new old other)) t)) (cond (same_slot old new) [] (slot_ids a old new other))
    (when (same_slot old new) (no_op a) ++ is) t modified warnings

abbrev pub freeing : List ℕ → ℕ → Side → List ℕ → List ℕ → Relinked
freeing t i side modified warnings = reslotting t i side None None [] modified warnings

abbrev pub setting : List ℕ → ℕ → Side → ℕ → NeighborDirection → List ℕ → List ℕ → Relinked
setting t i side j d modified warnings =
    let answer = reciprocal_side side d in
    reslotting t i side (Some (beside_row t j d)) (slot_held t j answer)
    (when (unshared_issues t i side j answer) (warning BoundaryUnshared (lane_entity (id_at t i)) (lane_entity (id_at t j) ∷ []))) modified warnings
