-- connect and disconnect keep soundness.
use Rattle.std.specs.Prelude.{Some}
use mathlib.Core.Path.{◌≡◌, refl, sym, ap, ◌∙◌}
use mathlib.Core.Bool.{Bool, true, false, not, ◌&&◌, ◌||◌, cond}
use mathlib.Core.List.{List, [], ◌∷◌, ◌++◌, map}
use Prim.Native.Nat.{ℕ}
use native.Mathlib.Omega.{arith}
use lib.Dec.{eqb, ltb}
use Rattle.lists.specs.Every.{all}
use Rattle.lists.specs.Select.{each, find, place, without, ascending}
use Rattle.lists.proofs.Every.{all_split, all_append}
use Rattle.lists.proofs.Booleans.{and_both, and-fst, and-snd}
use Rattle.lists.proofs.Select.{all-each, any-map, any_same, all_map, all_keep, all-weaken, ascending-place, ascending-keep}
use Rattle.entities.specs.Types.{reciprocal_side}
use Rattle.entities.specs.Records.{Lane, Map}
use Rattle.entities.specs.declared.Side.{Side}
use Rattle.entities.specs.declared.Side.TheVariants as S
use Rattle.entities.specs.declared.NeighborDirection.{NeighborDirection}
use Rattle.rules.specs.Map.{lane, leads_to, comes_from, neighbor_on}
use Rattle.rules.specs.Sound.{ids_named, lane_names, slot_id, next_id, within_limits, links_ascend, neighbors_reciprocal, has_neighbor, holds, sound}
use Rattle.rules.specs.Edit.{link_in, link_out, with_lanes, relinked}
use Rattle.rules.specs.Book.{is_pair, drop_pair}
use Rattle.rules.proofs.Facts.{sound-facts}
use Rattle.rules.proofs.Reciprocal.{LinksAgree, links-agree, agree-links, neighbors-agree, agree-neighbors}
use Rattle.laws.proofs.Links.{connect-leads, connect-comes, disconnect-leads, disconnect-comes, lane-id}
use Rattle.laws.proofs.Keeps.{all-place, other_names, relink-sound}

-- ---- what every relinking wants

-- a test that every lane's names pass, passes the id of a lane that is there
pub found_all : {A : Type 0} (p q : A → Bool) (xs : List A) (x : A) → find p xs ≡ Some x → all q xs ≡ true → q x ≡ true
unfolding find all
found_all p q [] x e a = let z : ◌≡◌ {A = ℕ} 0 1 = cc in absurd (nothing z)
  where
    nothing : ◌≡◌ {A = ℕ} 0 1 → ⊥
    nothing z = omega arith
found_all p q (y ∷ ys) x e a = go (p y) refl (λ r. found_all p q ys x r (and-snd (q y) (all q ys) a))
  where
    go : (b : Bool) → p y ≡ b → (find p ys ≡ Some x → q x ≡ true) → q x ≡ true
    go true h r =
        let s : Some y ≡ Some x = rw h at e in
        let u : y ≡ x = cc in
        rw (sym u) (and-fst (q y) (all q ys) a)
    go false h r = r (rw h at e)

-- the names of a lane, but for its links
abbrev front : Lane → List ℕ
front l = l.id ∷ l.left.boundary ∷ l.right.boundary ∷ slot_id l.left_neighbor

abbrev behind : Lane → List ℕ
behind l = l.left.boundary ∷ l.right.boundary ∷ slot_id l.left_neighbor ++ (slot_id l.right_neighbor ++ (l.predecessors ++ l.successors))

own-passes : (below : ℕ → Bool) (l : Lane) → all below (lane_names l) ≡ true → below l.id ≡ true
unfolding all
own-passes below l t = and-fst (below l.id) (all below (behind l)) t

pub present-passes : (m : Map) (below : ℕ → Bool) (i : ℕ) (l : Lane) → lane m i ≡ Some l → all below (ids_named m) ≡ true → below i ≡ true
unfolding ids_named lane
present-passes m below i l e t =
    let u = sym (all_split below (each lane_names m.lanes) (other_names m)) ∙ t in
    let v = sym (all-each below lane_names m.lanes) ∙ and-fst (all below (each lane_names m.lanes)) (all below (other_names m)) u in
    let w = found_all (λ k. eqb k.id i) (λ k. all below (lane_names k)) m.lanes l e v in
    rw (sym (lane-id m i l e)) (own-passes below l w)

-- ---- neighbours that are not touched

slots_kept : (m : Map) (f : Lane → Lane) → ((l : Lane) → (f l).id ≡ l.id) → ((l : Lane) (side : Side) → neighbor_on side (f l) ≡ neighbor_on side l)
    → (a : ℕ) (side : Side) (b : ℕ) (d : NeighborDirection) → has_neighbor (with_lanes (map f m.lanes) m) a side b d ≡ has_neighbor m a side b d
unfolding has_neighbor
slots_kept m f ids slots a side b d =
    any-map (λ l. eqb l.id a && holds (neighbor_on side l) b d) f m.lanes
    ∙ any_same (λ l. eqb (f l).id a && holds (neighbor_on side (f l)) b d) (λ l. eqb l.id a && holds (neighbor_on side l) b d) m.lanes
    (λ l. ap (λ i. eqb i a && holds (neighbor_on side (f l)) b d) (ids l) ∙ ap (λ o. eqb l.id a && holds o b d) (slots l side))

-- a change that keeps ids and slots keeps the relation of neighbours
pub neighbors-kept : (m : Map) (f : Lane → Lane) → ((l : Lane) → (f l).id ≡ l.id) → ((l : Lane) (side : Side) → neighbor_on side (f l) ≡ neighbor_on side l)
    → neighbors_reciprocal m ≡ true → neighbors_reciprocal (with_lanes (map f m.lanes) m) ≡ true
neighbors-kept m f ids slots h =
    agree-neighbors (with_lanes (map f m.lanes) m) (λ a b side d.
    slots_kept m f ids slots a side b d ∙ neighbors-agree m h a b side d ∙ sym (slots_kept m f ids slots b (reciprocal_side side d) a d))

-- ---- the lists of a lane's links

pub links-up : (m : Map) (f : Lane → Lane)
    → ((l : Lane) → ascending l.predecessors ≡ true → ascending (f l).predecessors ≡ true)
    → ((l : Lane) → ascending l.successors ≡ true → ascending (f l).successors ≡ true)
    → links_ascend m ≡ true → links_ascend (with_lanes (map f m.lanes) m) ≡ true
unfolding links_ascend
links-up m f g h t =
    all_map (λ l. ascending l.predecessors && ascending l.successors) f m.lanes
    ∙ all-weaken (λ l. ascending l.predecessors && ascending l.successors) (λ l. ascending (f l).predecessors && ascending (f l).successors) m.lanes
    (λ l u.
    and_both (ascending (f l).predecessors) (ascending (f l).successors)
    (g l (and-fst (ascending l.predecessors) (ascending l.successors) u)) (h l (and-snd (ascending l.predecessors) (ascending l.successors) u)))
    t

-- the names of a lane with other links
names-relinked : (below : ℕ → Bool) (l : Lane) (ps ss : List ℕ) → all below (lane_names l) ≡ true
    → (all below l.predecessors ≡ true → all below ps ≡ true) → (all below l.successors ≡ true → all below ss ≡ true)
    → all below (lane_names (relinked l l.left_neighbor l.right_neighbor ps ss)) ≡ true
names-relinked below l ps ss t g h =
    let r = slot_id l.right_neighbor in
    let old = l.predecessors ++ l.successors in
    let t1 = sym (all_split below (front l) (r ++ old)) ∙ t in
    let t2 = sym (all_split below r old) ∙ and-snd (all below (front l)) (all below (r ++ old)) t1 in
    let t3 = sym (all_split below l.predecessors l.successors) ∙ and-snd (all below r) (all below old) t2 in
    all_append below (front l) (r ++ (ps ++ ss)) (and-fst (all below (front l)) (all below (r ++ old)) t1)
    (all_append below r (ps ++ ss) (and-fst (all below r) (all below old) t2)
    (all_append below ps ss (g (and-fst (all below l.predecessors) (all below l.successors) t3)) (h (and-snd (all below l.predecessors) (all below l.successors) t3))))

-- a list with a number placed, or with one taken out, where asked
if_placed : (p : ℕ → Bool) (c : Bool) (x : ℕ) (ys : List ℕ) → p x ≡ true → all p ys ≡ true → all p (cond c (place x ys) ys) ≡ true
if_placed p true x ys h a = all-place p x ys h a
if_placed p false x ys h a = a

if_without : (p : ℕ → Bool) (c : Bool) (x : ℕ) (ys : List ℕ) → all p ys ≡ true → all p (cond c (without x ys) ys) ≡ true
unfolding without
if_without p true x ys a = all_keep p (λ y. not (eqb x y)) ys a
if_without p false x ys a = a

up-placed : (c : Bool) (x : ℕ) (ys : List ℕ) → ascending ys ≡ true → ascending (cond c (place x ys) ys) ≡ true
up-placed true x ys h = ascending-place x ys h
up-placed false x ys h = h

up-without : (c : Bool) (x : ℕ) (ys : List ℕ) → ascending ys ≡ true → ascending (cond c (without x ys) ys) ≡ true
unfolding without
up-without true x ys h = ascending-keep (λ y. not (eqb x y)) ys h
up-without false x ys h = h

same-slots : (l : Lane) (ps ss : List ℕ) (side : Side) → neighbor_on side (relinked l l.left_neighbor l.right_neighbor ps ss) ≡ neighbor_on side l
same-slots l ps ss S.Left = refl
same-slots l ps ss S.Right = refl

-- ---- connect, disconnect

pub connect-sound : (counter : ℕ) (m : Map) (a b : ℕ) (la lb : Lane) → lane m a ≡ Some la → lane m b ≡ Some lb → sound counter m ≡ true
    → within_limits (with_lanes (map (link_in a b) m.lanes) m) ≡ true → sound counter (with_lanes (map (link_in a b) m.lanes) m) ≡ true
connect-sound counter m a b la lb ea eb h limits =
    let s = sound-facts counter m h in
    relink-sound m (λ l. l.left_neighbor) (λ l. l.right_neighbor)
    (λ l. cond (eqb l.id b) (place a l.predecessors) l.predecessors) (λ l. cond (eqb l.id a) (place b l.successors) l.successors)
    counter h limits
    (λ t l u.
    names-relinked (λ i. ltb i (next_id counter)) l (cond (eqb l.id b) (place a l.predecessors) l.predecessors)
    (cond (eqb l.id a) (place b l.successors) l.successors) u
    (if_placed (λ i. ltb i (next_id counter)) (eqb l.id b) a l.predecessors (present-passes m (λ i. ltb i (next_id counter)) a la ea t))
    (if_placed (λ i. ltb i (next_id counter)) (eqb l.id a) b l.successors (present-passes m (λ i. ltb i (next_id counter)) b lb eb t)))
    (links-up m (link_in a b) (λ l. up-placed (eqb l.id b) a l.predecessors) (λ l. up-placed (eqb l.id a) b l.successors) s.links-ascend)
    (agree-links (with_lanes (map (link_in a b) m.lanes) m) (λ x y.
    connect-leads m a b la ea x y ∙ ap (λ t. t || is_pair a b x y) (links-agree m s.links x y) ∙ sym (connect-comes m a b lb eb x y)))
    (neighbors-kept m (link_in a b) (λ l. refl) (λ l side. same-slots l _ _ side) s.neighbors)

dropped-agree : (m : Map) (a b : ℕ) → LinksAgree m → (x y : ℕ) → drop_pair a b (leads_to m) x y ≡ drop_pair a b (comes_from m) x y
unfolding drop_pair
dropped-agree m a b h x y = ap (λ t. t && not (is_pair a b x y)) (h x y)

pub disconnect-sound : (counter : ℕ) (m : Map) (a b : ℕ) → sound counter m ≡ true
    → within_limits (with_lanes (map (link_out a b) m.lanes) m) ≡ true → sound counter (with_lanes (map (link_out a b) m.lanes) m) ≡ true
disconnect-sound counter m a b h limits =
    let s = sound-facts counter m h in
    relink-sound m (λ l. l.left_neighbor) (λ l. l.right_neighbor)
    (λ l. cond (eqb l.id b) (without a l.predecessors) l.predecessors) (λ l. cond (eqb l.id a) (without b l.successors) l.successors)
    counter h limits
    (λ t l u.
    names-relinked (λ i. ltb i (next_id counter)) l (cond (eqb l.id b) (without a l.predecessors) l.predecessors)
    (cond (eqb l.id a) (without b l.successors) l.successors) u
    (if_without (λ i. ltb i (next_id counter)) (eqb l.id b) a l.predecessors)
    (if_without (λ i. ltb i (next_id counter)) (eqb l.id a) b l.successors))
    (links-up m (link_out a b) (λ l. up-without (eqb l.id b) a l.predecessors) (λ l. up-without (eqb l.id a) b l.successors) s.links-ascend)
    (agree-links (with_lanes (map (link_out a b) m.lanes) m) (λ x y.
    disconnect-leads m a b x y ∙ dropped-agree m a b (links-agree m s.links) x y ∙ sym (disconnect-comes m a b x y)))
    (neighbors-kept m (link_out a b) (λ l. refl) (λ l side. same-slots l _ _ side) s.neighbors)
