-- Reciprocity as an equation of relations, and the tests of soundness proved equal to it.
use Rattle.std.specs.Prelude.{Option, None, Some}
use mathlib.Core.Path.{◌≡◌, refl, sym, ◌∙◌}
use mathlib.Core.Bool.{Bool, true, ◌&&◌, true≢false}
use Prim.Native.Nat.{ℕ}
use lib.Dec.{eqb}
use borrow.Author.Tests.{eqb-true, eq-eqb}
use Rattle.lists.specs.Every.{all}
use Rattle.lists.specs.Select.{any, has}
use Rattle.lists.proofs.Booleans.{and_both, and-fst, and-snd, same_test}
use Rattle.lists.proofs.Select.{all-has, any-implies-all, all_of, all-numbers}
use Rattle.entities.specs.Types.{reciprocal_side}
use Rattle.entities.specs.Records.{Lane, Map}
use Rattle.rules.specs.Names.{Side, Left, Right, NeighborDirection, Same, Opposite, Neighbor}
use Rattle.rules.specs.Map.{leads_to, comes_from, neighbor_on}
use Rattle.rules.specs.Sound.{links_reciprocal, neighbors_reciprocal, has_neighbor, holds, slot_returned, same_direction}

-- ---- links

abbrev pub LinksAgree : Map → Type 0
LinksAgree m = (a b : ℕ) → leads_to m a b ≡ comes_from m a b

links-forth : (m : Map) → links_reciprocal m ≡ true → (a b : ℕ) → leads_to m a b ≡ true → comes_from m a b ≡ true
unfolding links_reciprocal leads_to
links-forth m h a b =
    any-implies-all (λ l. eqb l.id a && has b l.successors)
    (λ l. all (λ y. comes_from m l.id y) l.successors && all (λ x. leads_to m x l.id) l.predecessors) (comes_from m a b) m.lanes h
    (λ l q t.
    let e : l.id ≡ a = eqb-true l.id a (and-fst (eqb l.id a) (has b l.successors) t) in
    rw (sym e)
    (all-has (λ y. comes_from m l.id y) b l.successors
    (and-fst (all (λ y. comes_from m l.id y) l.successors) (all (λ x. leads_to m x l.id) l.predecessors) q)
    (and-snd (eqb l.id a) (has b l.successors) t)))

links-back : (m : Map) → links_reciprocal m ≡ true → (a b : ℕ) → comes_from m a b ≡ true → leads_to m a b ≡ true
unfolding links_reciprocal comes_from
links-back m h a b =
    any-implies-all (λ l. eqb l.id b && has a l.predecessors)
    (λ l. all (λ y. comes_from m l.id y) l.successors && all (λ x. leads_to m x l.id) l.predecessors) (leads_to m a b) m.lanes h
    (λ l q t.
    let e : l.id ≡ b = eqb-true l.id b (and-fst (eqb l.id b) (has a l.predecessors) t) in
    rw (sym e)
    (all-has (λ x. leads_to m x l.id) a l.predecessors
    (and-snd (all (λ y. comes_from m l.id y) l.successors) (all (λ x. leads_to m x l.id) l.predecessors) q)
    (and-snd (eqb l.id b) (has a l.predecessors) t)))

-- The test says that b is a successor of a exactly when a is a predecessor of b.
pub links-agree : (m : Map) → links_reciprocal m ≡ true → LinksAgree m
links-agree m h a b = same_test (leads_to m a b) (comes_from m a b) (links-forth m h a b) (links-back m h a b)

pub agree-links : (m : Map) → LinksAgree m → links_reciprocal m ≡ true
unfolding links_reciprocal
agree-links m h =
    all_of (λ l. all (λ y. comes_from m l.id y) l.successors && all (λ x. leads_to m x l.id) l.predecessors) m.lanes
    (λ l here.
    and_both (all (λ y. comes_from m l.id y) l.successors) (all (λ x. leads_to m x l.id) l.predecessors)
    (all-numbers (λ y. comes_from m l.id y) l.successors (λ y t.
    sym (h l.id y) ∙ (unfold leads_to in here (λ k. eqb k.id l.id && has y k.successors) (and_both (eqb l.id l.id) (has y l.successors) (eq-eqb l.id l.id refl) t))))
    (all-numbers (λ x. leads_to m x l.id) l.predecessors (λ x t.
    h x l.id ∙ (unfold comes_from in here (λ k. eqb k.id l.id && has x k.predecessors) (and_both (eqb l.id l.id) (has x l.predecessors) (eq-eqb l.id l.id refl) t)))))

-- ---- neighbours

-- a holds b on a side exactly when b holds a in the slot of the topology rule, with the same direction
abbrev pub NeighborsAgree : Map → Type 0
NeighborsAgree m = (a b : ℕ) (side : Side) (d : NeighborDirection) → has_neighbor m a side b d ≡ has_neighbor m b (reciprocal_side side d) a d

-- the rule's slot of the rule's slot is the slot itself
pub twice : (side : Side) (d : NeighborDirection) → reciprocal_side (reciprocal_side side d) d ≡ side
twice Left Same = refl
twice Left Opposite = refl
twice Right Same = refl
twice Right Opposite = refl

pub same-direction : (c d : NeighborDirection) → same_direction c d ≡ true → c ≡ d
same-direction Same Same h = refl
same-direction Same Opposite h = absurd (true≢false (sym h))
same-direction Opposite Same h = absurd (true≢false (sym h))
same-direction Opposite Opposite h = refl

pub direction-same : (d : NeighborDirection) → same_direction d d ≡ true
direction-same Same = refl
direction-same Opposite = refl

abbrev returned_on : Map → Side → Lane → Bool
returned_on m side l = slot_returned m l.id side (neighbor_on side l)

-- a slot that holds b is answered
answered : (m : Map) (i b : ℕ) (side : Side) (d : NeighborDirection) (o : Option Neighbor) → slot_returned m i side o ≡ true → holds o b d ≡ true
    → has_neighbor m b (reciprocal_side side d) i d ≡ true
answered m i b side d None r h = absurd (true≢false (sym h))
answered m i b side d (Some n) r h =
    let e : n.lane ≡ b = eqb-true n.lane b (and-fst (eqb n.lane b) (same_direction n.direction d) h) in
    let f : n.direction ≡ d = same-direction n.direction d (and-snd (eqb n.lane b) (same_direction n.direction d) h) in
    rw (e, f) at r

both-sides : (m : Map) (side : Side) (l : Lane) → (slot_returned m l.id Left l.left_neighbor && slot_returned m l.id Right l.right_neighbor) ≡ true
    → returned_on m side l ≡ true
both-sides m Left l h = and-fst (slot_returned m l.id Left l.left_neighbor) (slot_returned m l.id Right l.right_neighbor) h
both-sides m Right l h = and-snd (slot_returned m l.id Left l.left_neighbor) (slot_returned m l.id Right l.right_neighbor) h

neighbors-forth : (m : Map) → neighbors_reciprocal m ≡ true → (a b : ℕ) (side : Side) (d : NeighborDirection)
    → has_neighbor m a side b d ≡ true → has_neighbor m b (reciprocal_side side d) a d ≡ true
unfolding neighbors_reciprocal
neighbors-forth m h a b side d t =
    any-implies-all (λ l. eqb l.id a && holds (neighbor_on side l) b d)
    (λ l. slot_returned m l.id Left l.left_neighbor && slot_returned m l.id Right l.right_neighbor)
    (has_neighbor m b (reciprocal_side side d) a d) m.lanes h
    (λ l q s.
    let e : l.id ≡ a = eqb-true l.id a (and-fst (eqb l.id a) (holds (neighbor_on side l) b d) s) in
    rw e at (answered m l.id b side d (neighbor_on side l) (both-sides m side l q) (and-snd (eqb l.id a) (holds (neighbor_on side l) b d) s)))
    (unfold has_neighbor in t)

pub neighbors-agree : (m : Map) → neighbors_reciprocal m ≡ true → NeighborsAgree m
neighbors-agree m h a b side d =
    same_test (has_neighbor m a side b d) (has_neighbor m b (reciprocal_side side d) a d) (neighbors-forth m h a b side d)
    (λ t. rw (twice side d) at (neighbors-forth m h b a (reciprocal_side side d) d t))

-- a slot is answered, where the relation agrees
slot-answered : (m : Map) → NeighborsAgree m → (l : Lane) → ((q : Lane → Bool) → q l ≡ true → any q m.lanes ≡ true) → (side : Side) (o : Option Neighbor)
    → neighbor_on side l ≡ o → slot_returned m l.id side o ≡ true
slot-answered m h l here side None e = refl
slot-answered m h l here side (Some n) e =
    sym (h l.id n.lane side n.direction)
    ∙ (unfold has_neighbor in here (λ k. eqb k.id l.id && holds (neighbor_on side k) n.lane n.direction)
    (and_both (eqb l.id l.id) (holds (neighbor_on side l) n.lane n.direction) (eq-eqb l.id l.id refl)
    (rw e (and_both (eqb n.lane n.lane) (same_direction n.direction n.direction) (eq-eqb n.lane n.lane refl) (direction-same n.direction)))))

pub agree-neighbors : (m : Map) → NeighborsAgree m → neighbors_reciprocal m ≡ true
unfolding neighbors_reciprocal
agree-neighbors m h =
    all_of (λ l. slot_returned m l.id Left l.left_neighbor && slot_returned m l.id Right l.right_neighbor) m.lanes
    (λ l here.
    and_both (slot_returned m l.id Left l.left_neighbor) (slot_returned m l.id Right l.right_neighbor)
    (slot-answered m h l here Left l.left_neighbor refl) (slot-answered m h l here Right l.right_neighbor refl))
