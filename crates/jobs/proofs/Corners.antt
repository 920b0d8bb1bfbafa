-- A net change set, written out. Of roads 1, 2 and 3 the first is not touched, the second is modified and then deleted, the third modified; 4 comes and goes,
-- 5 comes and is modified. Assumes nothing.
use mathlib.Core.Path.{◌≡◌, refl}
use Prim.Native.Nat.{ℕ}
use mathlib.Core.List.{List, [], ◌∷◌}
use Rattle.entities.specs.Records.{Map, Road, ChangeSet}
use Rattle.rules.specs.Names.{EntityRef, RoadKind}
use Rattle.rules.proofs.Opened.{opened}
use Rattle.jobs.specs.Job.{listed_by, net}

abbrev road : ℕ → Road
road i = record { id = i; name = 0; attributes = 0; lanes = [] }

abbrev roads_only : List Road → Map
roads_only rs = record { lanes = []; boundaries = []; roads = rs; junctions = []; rules = []; stop_lines = []; crosswalks = [] }

abbrev named : ℕ → EntityRef
named i = record { kind = RoadKind; id = i }

abbrev first-edit : ChangeSet
first-edit = record { created = named 4 ∷ named 5 ∷ []; modified = named 2 ∷ []; deleted = []; warnings = [] }

abbrev second-edit : ChangeSet
second-edit = record { created = []; modified = named 3 ∷ named 5 ∷ []; deleted = named 2 ∷ named 4 ∷ []; warnings = [] }

pub net-of-two : net (roads_only (road 1 ∷ road 2 ∷ road 3 ∷ [])) (roads_only (road 1 ∷ road 3 ∷ road 5 ∷ [])) (first-edit ∷ second-edit ∷ [])
    ≡ record { created = named 5 ∷ []; modified = named 3 ∷ []; deleted = named 2 ∷ []; warnings = [] }
unfolding opened net listed_by
net-of-two = refl
