-- set_neighbor keeps soundness, its lists are exact, and the links stay.
use Rattle.std.specs.Prelude.{Option, None, Some}
use mathlib.Core.Path.{◌≡◌, refl, sym, ap, ◌∙◌}
use mathlib.Core.Bool.{Bool, true, false, ◌||◌, cond, true≢false}
use mathlib.Core.List.{map}
use Prim.{Unit}
use Prim.Native.Nat.{ℕ}
use native.Mathlib.Omega.{arith}
use lib.Dec.{eqb}
use borrow.Author.Tests.{eqb-true, eq-eqb}
use Rattle.lists.specs.Select.{find, ascending}
use Rattle.lists.proofs.Booleans.{and_both, and-fst, and-snd, same_test}
use Rattle.lists.proofs.Select.{any-one, keys-map, on_found}
use Rattle.entities.specs.Types.{reciprocal_side}
use Rattle.entities.specs.Records.{Lane, Map}
use Rattle.entities.specs.declared.Side.{Side}
use Rattle.entities.specs.declared.Side.TheVariants as S
use Rattle.entities.specs.declared.NeighborDirection.{NeighborDirection}
use Rattle.entities.specs.declared.Neighbor.{Neighbor}
use Rattle.rules.specs.Map.{lane, lane_ids, neighbor_on}
use Rattle.rules.specs.Sound.{has_neighbor, holds, same_direction, neighbors_reciprocal}
use Rattle.rules.specs.Edit.{slot_after, reslotted, with_lanes, answering, same_side}
use Rattle.rules.proofs.Reciprocal.{NeighborsAgree, neighbors-agree, agree-neighbors, same-direction, direction-same, twice}
use Rattle.laws.proofs.Links.{lane-id}
use Rattle.laws.proofs.Exact.{found_map, changed_by}
use Rattle.laws.proofs.Slots.{nb, Slots, Answered, held_at, set_slots, answered-none, answered-some}

-- ---- a map's slots as a function

abbrev pub slot_found : Option Lane → Side → Option Neighbor
slot_found None s = None
slot_found (Some l) s = neighbor_on s l

unfoldable pub slots_of : Map → Slots
slots_of m x s = slot_found (lane m x) s

holds-is : (o : Option Neighbor) (y : ℕ) (d : NeighborDirection) → holds o y d ≡ true → o ≡ Some (nb y d)
holds-is None y d h = absurd (true≢false (sym h))
holds-is (Some n) y d h =
    let l : n.lane ≡ y = eqb-true n.lane y (and-fst (eqb n.lane y) (same_direction n.direction d) h) in
    let w : n.direction ≡ d = same-direction n.direction d (and-snd (eqb n.lane y) (same_direction n.direction d) h) in
    ap (λ i. Some (nb i n.direction)) l ∙ ap (λ v. Some (nb y v)) w

is-holds : (o : Option Neighbor) (y : ℕ) (d : NeighborDirection) → o ≡ Some (nb y d) → holds o y d ≡ true
is-holds o y d e = ap (λ p. holds p y d) e ∙ and_both (eqb y y) (same_direction d d) (eq-eqb y y refl) (direction-same d)

-- with ascending ids, the relation is a test of the slot
neighbor_slot : (m : Map) → ascending (lane_ids m) ≡ true → (x : ℕ) (s : Side) (y : ℕ) (d : NeighborDirection) → has_neighbor m x s y d ≡ holds (slots_of m x s) y d
unfolding has_neighbor slots_of lane
neighbor_slot m up x s y d = any-one (λ l. l.id) x (λ l. holds (neighbor_on s l) y d) m.lanes up ∙ of-found (find (λ l. eqb l.id x) m.lanes)
  where
    of-found : (o : Option Lane) → on_found (λ l. holds (neighbor_on s l) y d) o ≡ holds (slot_found o s) y d
    of-found None = refl
    of-found (Some l) = refl

-- reciprocity is that every neighbour is answered
pub agree-answered : (m : Map) → ascending (lane_ids m) ≡ true → NeighborsAgree m → Answered (slots_of m)
agree-answered m up h x s y d e =
    holds-is (slots_of m y (reciprocal_side s d)) x d
    (sym (neighbor_slot m up y (reciprocal_side s d) x d) ∙ (sym (h x y s d) ∙ (neighbor_slot m up x s y d ∙ is-holds (slots_of m x s) y d e)))

pub answered-agree : (m : Map) → ascending (lane_ids m) ≡ true → Answered (slots_of m) → NeighborsAgree m
answered-agree m up ok a b side d =
    neighbor_slot m up a side b d
    ∙ same_test (holds (slots_of m a side) b d) (holds (slots_of m b (reciprocal_side side d)) a d)
    (λ t. is-holds (slots_of m b (reciprocal_side side d)) a d (ok a side b d (holds-is (slots_of m a side) b d t)))
    (λ t. is-holds (slots_of m a side) b d (ap (slots_of m a) (sym (twice side d)) ∙ ok b (reciprocal_side side d) a d (holds-is (slots_of m b (reciprocal_side side d)) a d t)))
    ∙ sym (neighbor_slot m up b (reciprocal_side side d) a d)

-- ---- the slots after an edit

-- a change of slots, of a lane that is there
slot-changed : (m : Map) (g : ℕ → Side → Option Neighbor → Option Neighbor) (x : ℕ) (l : Lane) → lane m x ≡ Some l → (s : Side)
    → slots_of (with_lanes (map (reslotted g) m.lanes) m) x s ≡ g x s (slots_of m x s)
unfolding slots_of lane
slot-changed m g x l e s =
    ap (λ o. slot_found o s) (found_map (λ k. k.id) (reslotted g) (λ k. refl) x m.lanes ∙ ap (changed_by (reslotted g)) e)
    ∙ (on-side s ∙ (ap (λ i. g i s (neighbor_on s l)) (lane-id m x l e) ∙ ap (λ o. g x s (slot_found o s)) (sym e)))
  where
    on-side : (s : Side) → neighbor_on s (reslotted g l) ≡ g l.id s (neighbor_on s l)
    on-side S.Left = refl
    on-side S.Right = refl

slot-absent : (m : Map) (g : ℕ → Side → Option Neighbor → Option Neighbor) (x : ℕ) → lane m x ≡ None → (s : Side)
    → slots_of (with_lanes (map (reslotted g) m.lanes) m) x s ≡ None
unfolding slots_of lane
slot-absent m g x e s = ap (λ o. slot_found o s) (found_map (λ k. k.id) (reslotted g) (λ k. refl) x m.lanes ∙ ap (changed_by (reslotted g)) e)

none-slot : (m : Map) (x : ℕ) (s : Side) → lane m x ≡ None → slots_of m x s ≡ None
unfolding slots_of
none-slot m x s e = ap (λ o. slot_found o s) e

absent-here : (m : Map) (x : ℕ) (l : Lane) → lane m x ≡ None → lane m x ≡ Some l → ⊥
absent-here m x l e h = let z : ◌≡◌ {A = ℕ} 0 1 = cc in nothing z
  where
    nothing : ◌≡◌ {A = ℕ} 0 1 → ⊥
    nothing z = omega arith

-- the lane that a new neighbour names is there, and is not a
abbrev pub Named : Map → ℕ → Option Neighbor → Type 0
Named m a None = Unit
Named m a (Some n) = (l : Lane) × (lane m n.lane ≡ Some l) × (n.lane ≡ a → ⊥)

module _ (m : Map) (a : ℕ) (la : Lane) (ea : lane m a ≡ Some la) (side : Side) where
  -- a lane that is not there holds nothing after the edit either
  set-absent : (new : Option Neighbor) → Named m a new → (x : ℕ) (s : Side) → lane m x ≡ None → set_slots (slots_of m) a side new x s ≡ None
  set-absent new h x s e = go new h (eqb x a) (answering side new x s) refl refl
    where
      was : (r : Bool) → cond r None (slots_of m x s) ≡ None
      was true = refl
      was false = none-slot m x s e

      go : (new : Option Neighbor) → Named m a new → (p q : Bool) → eqb x a ≡ p → answering side new x s ≡ q → set_slots (slots_of m) a side new x s ≡ None
      go new h true q f u = absurd (absent-here m a la (ap (lane m) (sym (eqb-true x a f)) ∙ e) ea)
      go None h false q f u = rw f (was (answering side (slots_of m a side) x s || answering side None x s))
      go (Some n) h false true f u =
          absurd (absent-here m n.lane h.0 (ap (lane m) (sym (eqb-true x n.lane (and-fst (eqb x n.lane) (same_side s (reciprocal_side side n.direction)) u))) ∙ e) h.1)
      go (Some n) h false false f u =
          rw (f, u) (was (answering side (slots_of m a side) x s || answering (reciprocal_side side n.direction) (held_at (slots_of m) side (Some n)) x s))

  -- every slot after the edit, where the slot's own contents change
  abbrev pub edited : Option Neighbor → Map
  edited new = with_lanes (map (reslotted (slot_after a side new (slots_of m a side) (held_at (slots_of m) side new))) m.lanes) m

  slots-after : (new : Option Neighbor) → Named m a new → (x : ℕ) (s : Side) → slots_of (edited new) x s ≡ set_slots (slots_of m) a side new x s
  slots-after new h x s = go (lane m x) refl
    where
      go : (o : Option Lane) → lane m x ≡ o → slots_of (edited new) x s ≡ set_slots (slots_of m) a side new x s
      go None e =
          slot-absent m (slot_after a side new (slots_of m a side) (held_at (slots_of m) side new)) x e s ∙ sym (set-absent new h x s e)
      go (Some l) e = slot-changed m (slot_after a side new (slots_of m a side) (held_at (slots_of m) side new)) x l e s

  answered-set : Answered (slots_of m) → (new : Option Neighbor) → Named m a new → Answered (set_slots (slots_of m) a side new)
  answered-set ok None h = answered-none (slots_of m) ok a side
  answered-set ok (Some n) h = answered-some (slots_of m) ok a side n h.2

  -- neighbours stay reciprocal
  pub edited_reciprocal : ascending (lane_ids m) ≡ true → neighbors_reciprocal m ≡ true → (new : Option Neighbor) → Named m a new → neighbors_reciprocal (edited new) ≡ true
  edited_reciprocal up h new named =
      agree-neighbors (edited new)
      (answered-agree (edited new) (ap ascending (keys-map (λ l. l.id) (reslotted (slot_after a side new (slots_of m a side) (held_at (slots_of m) side new))) (λ l. refl) m.lanes) ∙ up) (λ x s y d e.
      slots-after new named y (reciprocal_side s d)
      ∙ answered-set (agree-answered m up (neighbors-agree m h)) new named x s y d (sym (slots-after new named x s) ∙ e)))
