-- Document 01: "The link book is a set of pairs of lane ids, (a, b) for b a successor of a", here the test of a pair.
use Rattle.std.specs.Prelude.{ℕ, Bool, true, false, not, ◌&&◌, ◌||◌, List, [], ◌∷◌, map, eqb}
use Rattle.lists.specs.Select.{keep, any}
use Rattle.rules.specs.Names.{Tolerance, EntityKind, LaneKind, BoundaryKind, RoadKind, JunctionKind, StopLineKind, SignalKind, CrosswalkKind, RuleKind, EntityRef}
use Rattle.entities.specs.Records.{Map, ChangeSet}
use Rattle.rules.specs.Map.{leads_to}
use Rattle.rules.specs.Sound.{Room}
use Rattle.rules.specs.Split.{group_of}
use Rattle.rules.specs.Ops.{Command, SplitLane, MergeLanes, ConnectLanes, DisconnectLanes, SetNeighbor, RemoveLane, State, Call, Answer, refused, accepted, step_map}

abbrev pub Book : Type 0
Book = ℕ → ℕ → Bool

abbrev pub is_pair : ℕ → ℕ → ℕ → ℕ → Bool
is_pair a b x y = eqb x a && eqb y b

abbrev pub is_lane : EntityKind → Bool
is_lane LaneKind = true
is_lane BoundaryKind = false
is_lane RoadKind = false
is_lane JunctionKind = false
is_lane StopLineKind = false
is_lane SignalKind = false
is_lane CrosswalkKind = false
is_lane RuleKind = false

unfoldable pub created_lanes : List EntityRef → List ℕ
created_lanes es = map (λ e. e.id) (keep (λ e. is_lane e.kind) es)

-- "A cut lane's first half keeps its id; its second half is the created lane at the same place, both ascending."
unfoldable pub pairs : List ℕ → List ℕ → List (ℕ × ℕ)
pairs [] seconds = []
pairs (c ∷ cs) [] = []
pairs (c ∷ cs) (d ∷ ds) = (c, d) ∷ pairs cs ds

-- "every pair (c, x) with c cut becomes (c's second half, x); then (c, c's second half) is added for every c cut"
unfoldable pub book_split : List (ℕ × ℕ) → Book → Book
book_split hs k x y =
    any (λ h. eqb x h.1 && k h.0 y) hs || any (λ h. is_pair h.0 h.1 x y) hs || (k x y && not (any (λ h. eqb x h.0) hs))

-- "(a, b) is dropped, then b reads a in every pair": x stands for itself, and a for b too; nothing stands for b
unfoldable pub drop_pair : ℕ → ℕ → Book → Book
drop_pair a b k x y = k x y && not (is_pair a b x y)

unfoldable pub book_merge : ℕ → ℕ → Book → Book
book_merge a b k x y =
    let kept = drop_pair a b k in
    not (eqb x b) && not (eqb y b) && (kept x y || (eqb x a && kept b y) || (eqb y a && kept x b) || (eqb x a && eqb y a && kept b b))

-- An accepted call's entry: "It is fed the calls alone." The group and the created lanes are those that the edits give on the map so far.
abbrev pub entry : Command → Map → ChangeSet → Book → Book
entry (SplitLane i at neighbors) m cs k = book_split (pairs (group_of m i neighbors) (created_lanes cs.created)) k
entry (MergeLanes a b) m cs k = book_merge a b k
entry (ConnectLanes a b) m cs k = λ x y. k x y || is_pair a b x y
entry (DisconnectLanes a b) m cs k = drop_pair a b k
entry (SetNeighbor i side n) m cs k = k
entry (RemoveLane a) m cs k = λ x y. k x y && not (eqb x a) && not (eqb y a)

-- "Refused, or `set_neighbor`: nothing."
abbrev pub booked : Command → Map → Answer → Book → Book
booked c m (refused r) k = k
booked c m (accepted cs second) k = entry c m cs k

-- the book after a list of calls; "it begins as the first map's pairs"
unfoldable pub book_after : Tolerance → Room → List Call → State → Book → Book
book_after tol room [] s k = k
book_after tol room (c ∷ cs) s k =
    let o = step_map tol room c s in
    book_after tol room cs o.state (booked c.command s.map o.answer k)

abbrev pub first_book : Map → Book
first_book m = leads_to m
