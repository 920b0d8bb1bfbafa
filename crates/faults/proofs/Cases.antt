-- Small maps and their faults, computed. Assumes nothing.
use mathlib.Core.Path.{◌≡◌, refl}
use mathlib.Core.List.{List, [], ◌∷◌, ◌++◌}
use Prim.Native.Nat.{ℕ, zero, suc}
use Rattle.lists.specs.Every.{all}
use Rattle.lists.specs.Rows.{reads, keys}
use Rattle.tables.specs.View.{Tables, rows, tables_of}
use Rattle.tables.specs.Formed.{spans, all_clear}
use Rattle.lists.specs.Select.{each, has, distinct}
use Rattle.row_tests.specs.Good.{boundary_good, road_good, line_good}
use Rattle.row_faults.specs.First.{first_false, rises, rises_from}
use Rattle.row_faults.specs.Passes.{boundary_passes, stop_line_passes, list_named, road_passes, row_passes}
use Rattle.faults.specs.Faults.{no_fault, fault_in, counts_fault, rows_fault, ids_fault, row_faults, tie_faults, found, fault_of}

none : List ℕ
none = 0 ∷ []

-- boundaries and stop lines, each line empty
map : List ℕ → List ℕ → Tables
map boundaries stops = tables_of none boundaries none none none stops none []

-- a map of nothing is sound
nothing : fault_of 1 (map none none) ≡ no_fault
unfolding fault_of found counts_fault rows_fault ids_fault row_faults tie_faults fault_in first_false rises rises_from row_passes all reads keys rows spans all_clear each none map
nothing = refl

-- a table that does not lend its count
unlent : fault_of 1 (map none []) ≡ record { clause = 1; table = 5; row = 0 }
unfolding fault_of found counts_fault rows_fault ids_fault row_faults tie_faults fault_in first_false rises rises_from row_passes all reads keys rows spans all_clear each none map
unlent = refl

-- the second of two boundaries has a kind of 14; so has a stop line an id that is not allocated, which comes later
kind : fault_of 3 (map (2 ∷ 1 ∷ 0 ∷ 0 ∷ 0 ∷ 0 ∷ 2 ∷ 14 ∷ 0 ∷ 0 ∷ 0 ∷ []) (1 ∷ 9 ∷ 0 ∷ 0 ∷ 0 ∷ [])) ≡ record { clause = 3; table = 1; row = 1 }
unfolding fault_of found counts_fault rows_fault ids_fault row_faults tie_faults fault_in first_false rises rises_from row_passes boundary_passes stop_line_passes all reads keys rows spans all_clear each none map
kind = refl

-- an id that stands twice
twice : fault_of 3 (map (2 ∷ 1 ∷ 0 ∷ 0 ∷ 0 ∷ 0 ∷ 1 ∷ 0 ∷ 0 ∷ 0 ∷ 0 ∷ []) none) ≡ record { clause = 4; table = 1; row = 1 }
unfolding fault_of found counts_fault rows_fault ids_fault row_faults tie_faults fault_in first_false rises rises_from row_passes boundary_passes stop_line_passes all reads keys rows spans all_clear each none map
twice = refl

-- an id that the counter has yet to allocate
ahead : fault_of 3 (map none (1 ∷ 3 ∷ 0 ∷ 0 ∷ 0 ∷ [])) ≡ record { clause = 5; table = 5; row = 0 }
unfolding fault_of found counts_fault rows_fault ids_fault row_faults tie_faults fault_in first_false rises rises_from row_passes boundary_passes stop_line_passes all reads keys rows spans all_clear each none map
ahead = refl

-- a line of one point where none is lent
unstored : fault_of 3 (map (1 ∷ 1 ∷ 0 ∷ 0 ∷ 1 ∷ 0 ∷ []) none) ≡ record { clause = 7; table = 1; row = 0 }
unfolding fault_of found counts_fault rows_fault ids_fault row_faults tie_faults fault_in first_false rises rises_from row_passes boundary_passes stop_line_passes boundary_good line_good all reads keys rows spans all_clear each none map
unstored = refl

-- a row's words that are not used
zeros : ℕ → List ℕ
zeros zero = []
zeros (suc n) = 0 ∷ zeros n

roads : List ℕ → Tables
roads rows = tables_of none none rows none none none none []

-- the second of two roads has a lane twice, not side by side; the lanes are absent
repeated : fault_of 9 (roads (2 ∷ 1 ∷ 0 ∷ 0 ∷ 2 ∷ 8 ∷ 7 ∷ zeros 62 ++ (2 ∷ 0 ∷ 0 ∷ 3 ∷ 7 ∷ 8 ∷ 7 ∷ zeros 61))) ≡ record { clause = 11; table = 2; row = 1 }
unfolding fault_of found counts_fault rows_fault ids_fault row_faults tie_faults fault_in first_false rises rises_from row_passes road_passes list_named road_good has distinct all reads keys rows spans all_clear each none zeros roads
repeated = refl

-- one that the counter has yet to allocate is told first
repeated-ahead : fault_of 8 (roads (1 ∷ 1 ∷ 0 ∷ 0 ∷ 3 ∷ 7 ∷ 8 ∷ 7 ∷ zeros 61)) ≡ record { clause = 5; table = 2; row = 0 }
unfolding fault_of found counts_fault rows_fault ids_fault row_faults tie_faults fault_in first_false rises rises_from row_passes road_passes list_named road_good has distinct all reads keys rows spans all_clear each none zeros roads
repeated-ahead = refl
