-- The change set of a merge, in words. Nothing that a host calls rests on this page; the laws of merge_made tie it to the rules.
use Rattle.std.specs.Prelude.{ℕ, ◌+◌, ◌<◌, ◌≡◌, true, List, [], ◌∷◌, ◌++◌}
use Rattle.lists.specs.Select.{place}
use Rattle.entities.specs.Types.{lane_entity, boundary_entity}
use Rattle.entities.specs.Records.{Issue}
use Rattle.rules.specs.Names.{Left, Right, EntityRef, LaneKind, BoundaryKind, RoadKind, JunctionKind, RuleKind, AttributeConflict, BoundaryUnshared}
use Rattle.rules.specs.Limits.{max_lanes}
use Rattle.rules.specs.Map.{neighbor_on}
use Rattle.rules.specs.Edit.{refs, when, warning}
use Rattle.rules.specs.Merge as M
use Rattle.tables.specs.View.{word}
use Rattle.tables.specs.Columns.{lane_words, row_count}
use Rattle.lookup.specs.Lookup.{sorted_table}
use Rattle.report.specs.Report.{issues}
use Rattle.mentions.specs.declared.Rows.TheVariants.{Lanes, Roads, Junctions, Rules}
use Rattle.mentions.specs.Naming.{table_formed, naming}
use Rattle.merge_plan.specs.declared.Joined.{Joined}
use Rattle.merge_plan.specs.declared.Joined.TheVariants.{Kept, InPlace, Fresh}
use Rattle.merge_plan.specs.Sides.{side_ids}
use Rattle.merge_plan.specs.Deciding.{lane_in}
use Rattle.merge_lists.specs.declared.Notices.{Notices}

-- ---- modified

-- a boundary that is joined in place, in its place
abbrev pub with_joined : Joined → ℕ → List ℕ → List ℕ
with_joined Kept b ids = ids
with_joined (InPlace n) b ids = place b ids
with_joined (Fresh n) b ids = ids

-- both sides'
abbrev pub joined_ids : Joined → ℕ → Joined → ℕ → List ℕ
joined_ids l a r b = with_joined r b (with_joined l a [])

-- the tables that are looked at
pub record Formed (ls rs js us : List ℕ) : Type 0 where
  pub lanes : table_formed Lanes ls ≡ true
  pub roads : table_formed Roads rs ≡ true
  pub junctions : table_formed Junctions js ≡ true
  pub rules : table_formed Rules us ≡ true

-- everything that names the second lane, and the boundaries that are joined in place, by kind, then id
unfoldable pub touched : ℕ → List ℕ → List ℕ → List ℕ → List ℕ → List ℕ → List EntityRef
touched second joined lanes roads junctions rules =
    refs LaneKind (naming Lanes second lanes)
    ++ (refs BoundaryKind joined ++ (refs RoadKind (naming Roads second roads) ++ (refs JunctionKind (naming Junctions second junctions) ++ refs RuleKind (naming Rules second rules))))

-- ---- deleted

-- the second lane and the boundaries that go
abbrev pub leaving : ℕ → List ℕ → List EntityRef
leaving second gone = refs LaneKind (second ∷ []) ++ refs BoundaryKind gone

-- ---- warnings

-- of a new boundary
abbrev pub unshared : Joined → ℕ → List Issue
unshared Kept id = []
unshared (InPlace n) id = []
unshared (Fresh n) id = warning BoundaryUnshared (boundary_entity id) [] ∷ []

-- of attributes that differ
abbrev pub conflicting : List ℕ → ℕ → ℕ → List Issue
conflicting lanes i j =
    let a = lane_in [] lanes i in
    let b = lane_in [] lanes j in
    when (M.conflict a b) (warning AttributeConflict (lane_entity a.id) (lane_entity b.id ∷ []))

-- in the order raised
abbrev pub issues_of : Notices → List Issue
issues_of n = issues n.conflict ++ (issues n.left ++ (issues n.right ++ (issues n.one ++ issues n.other)))

abbrev pub warnings_of : List ℕ → ℕ → ℕ → Joined → Joined → ℕ → List Issue
warnings_of lanes i j l r next =
    let a = lane_in [] lanes i in
    let b = lane_in [] lanes j in
    conflicting lanes i j
    ++ (M.dropped a.id (neighbor_on Left b) (neighbor_on Left a)
    ++ (M.dropped a.id (neighbor_on Right b) (neighbor_on Right a) ++ (unshared l next ++ unshared r (next + side_ids l))))

-- the rows that are looked at
abbrev pub Looked : List ℕ → ℕ → ℕ → Type 0
Looked lanes i j = (sorted_table max_lanes lane_words lanes ≡ true) × ((i < word row_count lanes) × (j < word row_count lanes))
