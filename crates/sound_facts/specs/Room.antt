-- An edit of links and neighbours of every lane.
use Rattle.std.specs.Prelude.{ℕ, Bool, ◌&&◌, List, map, leb, length, Option}
use Rattle.lists.specs.Every.{all}
use Rattle.entities.specs.Records.{Lane, Map}
use Rattle.entities.specs.declared.Neighbor.{Neighbor}
use Rattle.rules.specs.Edit.{relinked, with_lanes}

-- a lane with the links and neighbours that are given for it
abbrev pub relinked_by : (Lane → Option Neighbor) → (Lane → Option Neighbor) → (Lane → List ℕ) → (Lane → List ℕ) → Lane → Lane
relinked_by ln rn ps ss l = relinked l (ln l) (rn l) (ps l) (ss l)

-- every lane so
abbrev pub relinked_map : (Lane → Option Neighbor) → (Lane → Option Neighbor) → (Lane → List ℕ) → (Lane → List ℕ) → Map → Map
relinked_map ln rn ps ss m = with_lanes (map (relinked_by ln rn ps ss) m.lanes) m

-- "16 links each way per lane", of the lists that are given
abbrev pub links_fit : (Lane → List ℕ) → (Lane → List ℕ) → List Lane → Bool
links_fit ps ss ls = all (λ l. leb (length (ps l)) 16 && leb (length (ss l)) 16) ls
