-- Demand 3, as a statement: one claim over every list of calls from any sound map.
use Rattle.std.specs.Prelude.{◌≡◌, ℕ, Bool, true, false, not, ◌&&◌, ◌||◌, List, [], ◌∷◌, ◌++◌, map, eqb, ltb, Option, None, Some}
use Rattle.lists.specs.Select.{keep, any, find}
use Rattle.entities.specs.Types.{kind_number, reciprocal_side}
use Rattle.rules.specs.Names.{Side, NeighborDirection, Tolerance, EntityKind, LaneKind, BoundaryKind, RoadKind, JunctionKind, StopLineKind, SignalKind, CrosswalkKind, RuleKind, EntityRef}
use Rattle.entities.specs.Records.{Lane, Boundary, Road, Junction, Rule, StopLine, Crosswalk, Map, ChangeSet}
use Rattle.rules.specs.Map.{leads_to, comes_from}
use Rattle.rules.specs.Sound.{sound, Room, has_neighbor, repeat_free}
use Rattle.rules.specs.Edit.{refs}
use Rattle.rules.specs.Ops.{State, Call, refused, accepted, Outcome, step_map, after}
use Rattle.rules.specs.Book.{book_after, first_book}

-- ---- entities of a map

-- all entities, "by kind, then id"; signals ride as handles of the host
unfoldable pub entities : Map → List EntityRef
entities m =
    refs LaneKind (map (λ l. l.id) m.lanes)
    ++ (refs BoundaryKind (map (λ b. b.id) m.boundaries)
    ++ (refs RoadKind (map (λ r. r.id) m.roads)
    ++ (refs JunctionKind (map (λ j. j.id) m.junctions)
    ++ (refs StopLineKind (map (λ s. s.id) m.stop_lines)
    ++ (refs CrosswalkKind (map (λ c. c.id) m.crosswalks) ++ refs RuleKind (map (λ r. r.id) m.rules))))))

abbrev pub same_entity : EntityRef → EntityRef → Bool
same_entity e f = eqb (kind_number e.kind) (kind_number f.kind) && eqb e.id f.id

unfoldable pub among : EntityRef → List EntityRef → Bool
among e es = any (same_entity e) es

-- "what is only in the second appeared, what is only in the first vanished, what is in both survives"
unfoldable pub appeared : Map → Map → List EntityRef
appeared m n = keep (λ e. not (among e (entities m))) (entities n)

unfoldable pub vanished : Map → Map → List EntityRef
vanished m n = appeared n m

-- "its record is its row there, with the points of its lines"
pub data Row : Type 0 where
  lane_row : Lane → Row
  boundary_row : Boundary → Row
  road_row : Road → Row
  junction_row : Junction → Row
  stop_line_row : StopLine → Row
  crosswalk_row : Crosswalk → Row
  rule_row : Rule → Row

abbrev pub row_of : {A : Type 0} → (A → Row) → Option A → Option Row
row_of f None = None
row_of f (Some a) = Some (f a)

abbrev pub row_in : Map → EntityKind → ℕ → Option Row
row_in m LaneKind i = row_of lane_row (find (λ x. eqb x.id i) m.lanes)
row_in m BoundaryKind i = row_of boundary_row (find (λ x. eqb x.id i) m.boundaries)
row_in m RoadKind i = row_of road_row (find (λ x. eqb x.id i) m.roads)
row_in m JunctionKind i = row_of junction_row (find (λ x. eqb x.id i) m.junctions)
row_in m StopLineKind i = row_of stop_line_row (find (λ x. eqb x.id i) m.stop_lines)
row_in m SignalKind i = None
row_in m CrosswalkKind i = row_of crosswalk_row (find (λ x. eqb x.id i) m.crosswalks)
row_in m RuleKind i = row_of rule_row (find (λ x. eqb x.id i) m.rules)

unfoldable pub row : Map → EntityRef → Option Row
row m e = row_in m e.kind e.id

-- ---- the lists of an accepted edit

abbrev pub before : EntityRef → EntityRef → Bool
before e f = ltb (kind_number e.kind) (kind_number f.kind) || (eqb (kind_number e.kind) (kind_number f.kind) && ltb e.id f.id)

-- sorted by kind, then id, without repeats
unfoldable pub sorted_after : EntityRef → List EntityRef → Bool
sorted_after e [] = true
sorted_after e (f ∷ fs) = before e f && sorted_after f fs

unfoldable pub sorted : List EntityRef → Bool
sorted [] = true
sorted (e ∷ es) = sorted_after e es

unfoldable pub apart_from : List EntityRef → List EntityRef → Bool
apart_from es fs = not (any (λ e. among e fs) es)

-- Demand 3, of an accepted edit: created and deleted are exact, modified holds every survivor that differs, the three sorted, without repeats, disjoint.
pub record Exact (m : Map) (cs : ChangeSet) (n : Map) : Type 0 where
  pub created_is : cs.created ≡ appeared m n
  pub deleted_is : cs.deleted ≡ vanished m n
  pub modified_survives : (e : EntityRef) → among e cs.modified ≡ true → (among e (entities m) ≡ true) × (among e (entities n) ≡ true)
  pub unmodified_same : (e : EntityRef) → among e (entities m) ≡ true → among e (entities n) ≡ true → among e cs.modified ≡ false → row m e ≡ row n e
  pub created_sorted : sorted cs.created ≡ true
  pub modified_sorted : sorted cs.modified ≡ true
  pub deleted_sorted : sorted cs.deleted ≡ true
  pub disjoint : (apart_from cs.created cs.modified && apart_from cs.created cs.deleted && apart_from cs.modified cs.deleted) ≡ true

-- an accepted call's lists are exact; a refused one leaves the state
abbrev pub Told : State → Outcome → Type 0
Told s o = elim o.answer [ refused r ↦ o.state ≡ s | accepted cs second ↦ Exact s.map cs o.state.map ]

-- along the whole list
unfoldable pub AllTold : Tolerance → Room → List Call → State → Type 0
AllTold tol room [] s = s ≡ s
AllTold tol room (c ∷ cs) s = Told s (step_map tol room c s) × AllTold tol room cs (step_map tol room c s).state

-- Demand 3, of the whole list: the map is what document 01 makes of it call by call, sound, links and neighbours reciprocal; its links are exactly the link book's.
-- Document 02, (b): "The promise that lists stay free of repeats then holds after every accepted edit."
pub record Demand3 (tol : Tolerance) (room : Room) (s : State) (calls : List Call) : Type 0 where
  pub stays_sound : sound (after tol room calls s).counter (after tol room calls s).map ≡ true
  pub links_reciprocal : (a b : ℕ) → leads_to (after tol room calls s).map a b ≡ comes_from (after tol room calls s).map a b
  pub neighbors_reciprocal : (a b : ℕ) (side : Side) (d : NeighborDirection)
      → has_neighbor (after tol room calls s).map a side b d ≡ has_neighbor (after tol room calls s).map b (reciprocal_side side d) a d
  pub stays_repeat_free : repeat_free (after tol room calls s).map ≡ true
  pub links_booked : (a b : ℕ) → leads_to (after tol room calls s).map a b ≡ book_after tol room calls s (first_book s.map) a b
  pub lists_told : AllTold tol room calls s

-- The claim, for every tolerance, room, sound map and list of calls.
abbrev pub Claim3 : Type 0
Claim3 = (tol : Tolerance) (room : Room) (s : State) → sound s.counter s.map ≡ true → (calls : List Call) → Demand3 tol room s calls
