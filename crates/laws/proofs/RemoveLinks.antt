-- A lane leaves: the links and neighbours that are left are those that name it on neither end, so they stay reciprocal. Assumes nothing.
use Rattle.std.specs.Prelude.{Option, None, Some}
use mathlib.Core.Path.{◌≡◌, refl, sym, ap, ◌∙◌}
use mathlib.Core.Bool.{Bool, true, false, not, ◌&&◌, cond, and_assoc}
use mathlib.Core.List.{List, map}
use Prim.Native.Nat.{ℕ}
use lib.Dec.{eqb}
use borrow.Author.Tests.{eqb-true}
use Rattle.lists.specs.Select.{keep, any, has}
use Rattle.lists.proofs.Select.{any-map, any_same, any-keep, has-without}
use Rattle.entities.specs.Types.{reciprocal_side}
use Rattle.entities.specs.declared.Side.{Side}
use Rattle.entities.specs.declared.Side.TheVariants as S
use Rattle.entities.specs.declared.Neighbor.{Neighbor}
use Rattle.entities.specs.declared.NeighborDirection.{NeighborDirection}
use Rattle.entities.specs.Records.{Lane, Boundary, Map}
use Rattle.rules.specs.Map.{leads_to, comes_from, neighbor_on}
use Rattle.rules.specs.Sound.{links_reciprocal, neighbors_reciprocal, has_neighbor, holds, same_direction}
use Rattle.rules.specs.Lane.{freed, forgetting}
use Rattle.rules.proofs.Reciprocal.{links-agree, agree-links, neighbors-agree, agree-neighbors}
use Rattle.laws.proofs.Links.{any-and, and-swap, eqb_swap}
use Rattle.laws.proofs.Leaving.{thinned}

-- ---- a relation over the lanes that are left

-- every lane but a
abbrev pub other : ℕ → Lane → Bool
other a l = not (eqb l.id a)

-- in a row with id x, the row's id against a is x against a
at_row : (i x a : ℕ) (h c : Bool) → (not (eqb i a) && (eqb i x && (h && c))) ≡ (eqb i x && h && (not (eqb x a) && c))
at_row i x a h c = go (eqb i x) refl
  where
    shuffle : (n h c : Bool) → (n && (h && c)) ≡ (h && (n && c))
    shuffle true h c = refl
    shuffle false true c = refl
    shuffle false false c = refl

    and-false : (n : Bool) → (n && false) ≡ false
    and-false true = refl
    and-false false = refl

    go : (e : Bool) → eqb i x ≡ e → (not (eqb i a) && (e && (h && c))) ≡ (e && h && (not (eqb x a) && c))
    go true t = let u : i ≡ x = eqb-true i x t in rw u (shuffle (not (eqb x a)) h c)
    go false t = and-false (not (eqb i a))

-- A test of the lane with id x, where forgetting a lane leaves it under the condition c.
pub left-any : (a x : ℕ) (ls : List Lane) (t u : Lane → Bool) (c : Bool) → ((k : Lane) → u (forgetting a k) ≡ (t k && c))
    → any (λ k. eqb k.id x && u k) (map (forgetting a) (keep (other a) ls)) ≡ (any (λ k. eqb k.id x && t k) ls && (not (eqb x a) && c))
left-any a x ls t u c h =
    any-map (λ k. eqb k.id x && u k) (forgetting a) (keep (other a) ls)
    ∙ any-keep (λ k. eqb k.id x && u (forgetting a k)) (other a) ls
    ∙ any_same (λ k. not (eqb k.id a) && (eqb k.id x && u (forgetting a k))) (λ k. eqb k.id x && t k && (not (eqb x a) && c)) ls
    (λ k. ap (λ v. not (eqb k.id a) && (eqb k.id x && v)) (h k) ∙ at_row k.id x a (t k) c)
    ∙ any-and (λ k. eqb k.id x && t k) (not (eqb x a) && c) ls

-- ---- links

module _ (a : ℕ) (q : Boundary → Bool) (m : Map) where
  abbrev after : Map
  after = thinned a (other a) q m

  pub thinned-leads : (x y : ℕ) → leads_to after x y ≡ (leads_to m x y && not (eqb x a) && not (eqb y a))
  unfolding leads_to
  thinned-leads x y =
      left-any a x m.lanes (λ k. has y k.successors) (λ k. has y k.successors) (not (eqb y a))
      (λ k. has-without y a k.successors ∙ ap (λ t. has y k.successors && not t) (eqb_swap a y))
      ∙ sym (and_assoc (any (λ k. eqb k.id x && has y k.successors) m.lanes) (not (eqb x a)) (not (eqb y a)))

  pub thinned-comes : (x y : ℕ) → comes_from after x y ≡ (comes_from m x y && not (eqb x a) && not (eqb y a))
  unfolding comes_from
  thinned-comes x y =
      left-any a y m.lanes (λ k. has x k.predecessors) (λ k. has x k.predecessors) (not (eqb x a))
      (λ k. has-without x a k.predecessors ∙ ap (λ t. has x k.predecessors && not t) (eqb_swap a x))
      ∙ ap (λ t. any (λ k. eqb k.id y && has x k.predecessors) m.lanes && t) (and-swap (not (eqb y a)) (not (eqb x a)))
      ∙ sym (and_assoc (any (λ k. eqb k.id y && has x k.predecessors) m.lanes) (not (eqb x a)) (not (eqb y a)))

  pub thinned-links : links_reciprocal m ≡ true → links_reciprocal after ≡ true
  thinned-links h =
      agree-links after (λ x y. thinned-leads x y ∙ (ap (λ t. t && not (eqb x a) && not (eqb y a)) (links-agree m h x y) ∙ sym (thinned-comes x y)))

  -- ---- neighbours

  -- a freed slot holds what it held, but for a
  freed-holds : (o : Option Neighbor) (j : ℕ) (d : NeighborDirection) → holds (freed a o) j d ≡ (holds o j d && not (eqb j a))
  freed-holds None j d = refl
  freed-holds (Some n) j d = go (eqb n.lane a) (eqb n.lane j) refl refl
    where
      and-true : (b : Bool) → (b && true) ≡ b
      and-true true = refl
      and-true false = refl

      go : (b e : Bool) → eqb n.lane a ≡ b → eqb n.lane j ≡ e → holds (cond b None (Some n)) j d ≡ (eqb n.lane j && same_direction n.direction d && not (eqb j a))
      go true true p s =
          let u : n.lane ≡ j = eqb-true n.lane j s in
          let v : eqb j a ≡ true = rw u at p in
          rw v (sym (and-false (eqb n.lane j && same_direction n.direction d)))
        where
          and-false : (b : Bool) → (b && false) ≡ false
          and-false true = refl
          and-false false = refl
      go true false p s = rw s
      go false true p s =
          let u : n.lane ≡ j = eqb-true n.lane j s in
          let v : eqb j a ≡ false = rw u at p in
          rw v (sym (and-true (eqb n.lane j && same_direction n.direction d)))
      go false false p s = rw s

  slot_forgotten : (k : Lane) (side : Side) → neighbor_on side (forgetting a k) ≡ freed a (neighbor_on side k)
  slot_forgotten k S.Left = refl
  slot_forgotten k S.Right = refl

  pub thinned-slots : (i : ℕ) (side : Side) (j : ℕ) (d : NeighborDirection)
      → has_neighbor after i side j d ≡ (has_neighbor m i side j d && (not (eqb i a) && not (eqb j a)))
  unfolding has_neighbor
  thinned-slots i side j d =
      left-any a i m.lanes (λ k. holds (neighbor_on side k) j d) (λ k. holds (neighbor_on side k) j d) (not (eqb j a))
      (λ k. ap (λ o. holds o j d) (slot_forgotten k side) ∙ freed-holds (neighbor_on side k) j d)

  pub thinned-neighbors : neighbors_reciprocal m ≡ true → neighbors_reciprocal after ≡ true
  thinned-neighbors h =
      agree-neighbors after (λ i j side d.
      thinned-slots i side j d
      ∙ (ap (λ t. t && (not (eqb i a) && not (eqb j a))) (neighbors-agree m h i j side d)
      ∙ (ap (λ t. has_neighbor m j (reciprocal_side side d) i d && t) (and-swap (not (eqb i a)) (not (eqb j a)))
      ∙ sym (thinned-slots j (reciprocal_side side d) i d))))
