-- merge_lanes: the links after it are the link book's entry, and links and neighbours stay reciprocal. Assumes nothing.
use Rattle.std.specs.Prelude.{Option, None, Some}
use mathlib.Core.Path.{◌≡◌, refl, sym, ap, ◌∙◌}
use mathlib.Core.Bool.{Bool, true, false, not, ◌&&◌, ◌||◌, cond, true≢false}
use mathlib.Core.List.{[], ◌∷◌}
use Prim.Native.Nat.{ℕ}
use lib.Dec.{eqb}
use borrow.Author.Tests.{eqb-true, eq-eqb}
use Rattle.lists.specs.Select.{keep, has, without, ascending}
use Rattle.lists.proofs.Select.{any-map, any_same, on_found, has-without}
use Rattle.entities.specs.Types.{reciprocal_side}
use Rattle.entities.specs.declared.Tolerance.{Tolerance}
use Rattle.entities.specs.declared.Side.{Side}
use Rattle.entities.specs.declared.Side.TheVariants as S
use Rattle.entities.specs.declared.NeighborDirection.{NeighborDirection}
use Rattle.entities.specs.Records.{Lane, Map}
use Rattle.rules.specs.Map.{lane, lane_ids, leads_to, comes_from, neighbor_on}
use Rattle.rules.specs.Sound.{links_reciprocal, neighbors_reciprocal, has_neighbor, holds}
use Rattle.rules.specs.Lane.{forgetting}
use Rattle.rules.specs.Merge.{SidePlan, after_merge}
use Rattle.rules.specs.Book.{Book, drop_pair, book_merge}
use Rattle.rules.proofs.Relations.{leads-found, comes-found}
use Rattle.rules.proofs.Reciprocal.{links-agree, agree-links, neighbors-agree, agree-neighbors}
use Rattle.laws.proofs.Links.{has-linked, eqb_swap, lane-id}
use Rattle.laws.proofs.Exact.{changed_by}
use Rattle.laws.proofs.Leaving.{thinned}
use Rattle.laws.proofs.RemoveLinks.{other, thinned-neighbors}
use Rattle.laws.proofs.Merge.{merged_map, lanes-ascend, lane-after, after-id, after-left_neighbor, after-right_neighbor, after_preds, after_succs, preds_after, succs_after}

-- ---- the book's entry, where b is a's only successor and a is b's only predecessor

abbrev entry_of : (xa xb ya yb kxy kby kxb kbb ba bb : Bool) → Bool
entry_of xa xb ya yb kxy kby kxb kbb ba bb =
    not xb && not yb
    && ((kxy && not (xa && yb)) || (xa && (kby && not (ba && yb))) || (ya && (kxb && not (xa && bb))) || (xa && ya && (kbb && not (ba && bb))))

-- the same entry as a successor list gives it, and as a predecessor list does
abbrev pub forth : (a b : ℕ) → Book → Book
forth a b k x y = cond (eqb x b) false (cond (eqb x a) (k b y) (k x y && not (eqb y b)))

abbrev pub back : (a b : ℕ) → Book → Book
back a b k x y = cond (eqb y b) false (k x y && not (eqb x b) || (k b y && eqb x a))

module _ (a b : ℕ) (k : Book) (apart : eqb b a ≡ false) (out : (y : ℕ) → k a y ≡ eqb y b) (into : (x : ℕ) → k x b ≡ eqb x a) where
  pub book-forth : (x y : ℕ) → book_merge a b k x y ≡ forth a b k x y
  unfolding book_merge drop_pair
  book-forth x y = go (eqb x a) (eqb x b) (eqb y b) refl refl refl
    where
      first_out : (ya kby kxb : Bool) → entry_of true false ya false false kby kxb false false true ≡ kby
      first_out true true true = refl
      first_out true true false = refl
      first_out true false true = refl
      first_out true false false = refl
      first_out false true kxb = refl
      first_out false false kxb = refl

      others : (ya kxy kby kbb ba bb : Bool) → entry_of false false ya false kxy kby false kbb ba bb ≡ (kxy && true)
      others true true kby kbb ba bb = refl
      others true false kby kbb ba bb = refl
      others false true kby kbb ba bb = refl
      others false false kby kbb ba bb = refl

      and-false : (p : Bool) → false ≡ (p && false)
      and-false true = refl
      and-false false = refl

      go : (xa xb yb : Bool) → eqb x a ≡ xa → eqb x b ≡ xb → eqb y b ≡ yb
          → entry_of xa xb (eqb y a) yb (k x y) (k b y) (k x b) (k b b) (eqb b a) (eqb b b) ≡ cond xb false (cond xa (k b y) (k x y && not yb))
      go xa true yb p q r = refl
      go true false true p q r =
          let u : y ≡ b = eqb-true y b r in
          sym (ap (k b) u ∙ (into b ∙ apart))
      go true false false p q r =
          let u : x ≡ a = eqb-true x a p in
          let v : k x y ≡ eqb y b = ap (λ i. k i y) u ∙ out y in
          ap (λ t. entry_of true false (eqb y a) false t (k b y) (k x b) (k b b) (eqb b a) (eqb b b)) (v ∙ r)
          ∙ (ap (λ t. entry_of true false (eqb y a) false false (k b y) (k x b) (k b b) (eqb b a) t) (eq-eqb b b refl)
          ∙ (ap (λ t. entry_of true false (eqb y a) false false (k b y) (k x b) (k b b) t true) apart
          ∙ (ap (λ t. entry_of true false (eqb y a) false false (k b y) (k x b) t false true) (into b ∙ apart)
          ∙ first_out (eqb y a) (k b y) (k x b))))
      go false false true p q r = and-false (k x y)
      go false false false p q r =
          ap (λ t. entry_of false false (eqb y a) false (k x y) (k b y) t (k b b) (eqb b a) (eqb b b)) (into x ∙ p)
          ∙ others (eqb y a) (k x y) (k b y) (k b b) (eqb b a) (eqb b b)

  pub forth-back : (x y : ℕ) → forth a b k x y ≡ back a b k x y
  forth-back x y = go (eqb x b) (eqb x a) (eqb y b) refl refl refl
    where
      and-false : (p : Bool) → (p && false) ≡ false
      and-false true = refl
      and-false false = refl

      only : (p q : Bool) → (p && true) ≡ (p && true || (q && false))
      only true q = refl
      only false true = refl
      only false false = refl

      second : (p q : Bool) → p ≡ false → q ≡ (p && true || (q && true))
      second p true e = rw e
      second p false e = rw e

      go : (xb xa yb : Bool) → eqb x b ≡ xb → eqb x a ≡ xa → eqb y b ≡ yb
          → cond xb false (cond xa (k b y) (k x y && not yb)) ≡ cond yb false (k x y && not xb || (k b y && xa))
      go true xa true p q r = refl
      go true true false p q r = absurd (true≢false (sym (ap (λ i. eqb i a) (sym (eqb-true x b p)) ∙ q) ∙ apart))
      go true false false p q r = rw (and-false (k x y), and-false (k b y))
      go false true true p q r = ap (k b) (eqb-true y b r) ∙ (into b ∙ apart)
      go false true false p q r = second (k x y) (k b y) (ap (λ i. k i y) (eqb-true x a q) ∙ (out y ∙ r))
      go false false true p q r = and-false (k x y)
      go false false false p q r = only (k x y) (k b y)

-- ---- the links after a merge

module _ (tol : Tolerance) (next : ℕ) (m : Map) (a b : Lane) (pl pr : SidePlan) (ea : lane m a.id ≡ Some a) (eb : lane m b.id ≡ Some b)
    (apart : eqb b.id a.id ≡ false) (up : ascending (lane_ids m) ≡ true) (links : links_reciprocal m ≡ true) (out : a.successors ≡ b.id ∷ [])
    (into : b.predecessors ≡ a.id ∷ []) where
  abbrev n : Map
  n = merged_map tol next m a b pl pr

  has_one : (x y : ℕ) → has x (y ∷ []) ≡ eqb x y
  unfolding has
  has_one x y = or-false (eqb x y)
    where
      or-false : (p : Bool) → (p || false) ≡ p
      or-false true = refl
      or-false false = refl

  leads-out : (y : ℕ) → leads_to m a.id y ≡ eqb y b.id
  leads-out y = leads-found m a.id y up ∙ (ap (on_found (λ l. has y l.successors)) ea ∙ (ap (has y) out ∙ has_one y b.id))

  leads-into : (x : ℕ) → leads_to m x b.id ≡ eqb x a.id
  leads-into x =
      links-agree m links x b.id ∙ (comes-found m x b.id up ∙ (ap (on_found (λ l. has x l.predecessors)) eb ∙ (ap (has x) into ∙ has_one x a.id)))

  leads-forth : (x y : ℕ) → leads_to n x y ≡ forth a.id b.id (leads_to m) x y
  leads-forth x y =
      leads-found n x y (lanes-ascend tol next a b pl pr m up)
      ∙ (ap (on_found (λ l. has y l.successors)) (lane-after tol next a b pl pr m x) ∙ go (eqb x b.id) (lane m x) (eqb x a.id) refl refl)
    where
      of-lane : (c : Bool) (l : Lane) → eqb l.id a.id ≡ c → has y (succs_after tol next a b pl pr l) ≡ cond c (has y b.successors) (has y l.successors && not (eqb y b.id))
      of-lane true l e = ap (λ c. has y (cond c b.successors (without b.id l.successors))) e
      of-lane false l e =
          ap (λ c. has y (cond c b.successors (without b.id l.successors))) e
          ∙ (has-without y b.id l.successors ∙ ap (λ t. has y l.successors && not t) (eqb_swap b.id y))

      go : (xb : Bool) (o : Option Lane) (xa : Bool) → lane m x ≡ o → eqb x a.id ≡ xa
          → on_found (λ l. has y l.successors) (cond xb None (changed_by (after_merge tol next a b pl pr) o))
          ≡ cond xb false (cond xa (leads_to m b.id y) (leads_to m x y && not (eqb y b.id)))
      go true o xa e q = refl
      go false None true e q = absurd (true≢false (ap (on_found (λ l. true)) (sym ea ∙ (ap (lane m) (sym (eqb-true x a.id q)) ∙ e))))
      go false None false e q = ap (λ t. t && not (eqb y b.id)) (sym (leads-found m x y up ∙ ap (on_found (λ l. has y l.successors)) e))
      go false (Some l) xa e q =
          ap (has y) (after_succs tol next a b pl pr l)
          ∙ (of-lane xa l (ap (λ i. eqb i a.id) (lane-id m x l e) ∙ q)
          ∙ (ap (λ t. cond xa t (has y l.successors && not (eqb y b.id))) (sym (leads-found m b.id y up ∙ ap (on_found (λ k. has y k.successors)) eb))
          ∙ ap (λ t. cond xa (leads_to m b.id y) (t && not (eqb y b.id))) (sym (leads-found m x y up ∙ ap (on_found (λ k. has y k.successors)) e))))

  comes_back : (x y : ℕ) → comes_from n x y ≡ back a.id b.id (comes_from m) x y
  comes_back x y =
      comes-found n x y (lanes-ascend tol next a b pl pr m up)
      ∙ (ap (on_found (λ l. has x l.predecessors)) (lane-after tol next a b pl pr m y) ∙ go (eqb y b.id) (lane m y) refl)
    where
      of-lane : (l : Lane) → has x (preds_after tol next a b pl pr l) ≡ (has x l.predecessors && not (eqb x b.id) || (has b.id l.predecessors && eqb x a.id))
      of-lane l =
          has-linked (has b.id l.predecessors) a.id x (without b.id l.predecessors)
          ∙ ap (λ t. t || (has b.id l.predecessors && eqb x a.id))
          (has-without x b.id l.predecessors ∙ ap (λ t. has x l.predecessors && not t) (eqb_swap b.id x))

      both : (o : Option Lane) → lane m y ≡ o → (z : ℕ) → on_found (λ l. has z l.predecessors) o ≡ comes_from m z y
      both o e z = sym (comes-found m z y up ∙ ap (on_found (λ l. has z l.predecessors)) e)

      go : (yb : Bool) (o : Option Lane) → lane m y ≡ o
          → on_found (λ l. has x l.predecessors) (cond yb None (changed_by (after_merge tol next a b pl pr) o))
          ≡ cond yb false (comes_from m x y && not (eqb x b.id) || (comes_from m b.id y && eqb x a.id))
      go true o e = refl
      go false None e = rw (sym (both None e x), sym (both None e b.id))
      go false (Some l) e =
          ap (has x) (after_preds tol next a b pl pr l)
          ∙ (of-lane l
          ∙ (ap (λ t. t && not (eqb x b.id) || (has b.id l.predecessors && eqb x a.id)) (both (Some l) e x)
          ∙ ap (λ t. comes_from m x y && not (eqb x b.id) || (t && eqb x a.id)) (both (Some l) e b.id)))

  -- The link book's entry: (a, b) is dropped, then b reads a in every pair.
  pub merge-leads : (x y : ℕ) → leads_to n x y ≡ book_merge a.id b.id (leads_to m) x y
  merge-leads x y = leads-forth x y ∙ sym (book-forth a.id b.id (leads_to m) apart leads-out leads-into x y)

  pub merge-links : links_reciprocal n ≡ true
  merge-links =
      agree-links n (λ x y.
      leads-forth x y
      ∙ (forth-back a.id b.id (leads_to m) apart leads-out leads-into x y
      ∙ (ap (λ t. cond (eqb y b.id) false (t && not (eqb x b.id) || (leads_to m b.id y && eqb x a.id))) (links-agree m links x y)
      ∙ (ap (λ t. cond (eqb y b.id) false (comes_from m x y && not (eqb x b.id) || (t && eqb x a.id))) (links-agree m links b.id y)
      ∙ sym (comes_back x y)))))

-- ---- the neighbours after a merge: those that are left when b leaves

module _ (tol : Tolerance) (next : ℕ) (m : Map) (a b : Lane) (pl pr : SidePlan) where
  abbrev left : Map
  left = thinned b.id (other b.id) (λ x. true) m

  slot-after : (l : Lane) (side : Side) → neighbor_on side (after_merge tol next a b pl pr l) ≡ neighbor_on side (forgetting b.id l)
  slot-after l S.Left = after-left_neighbor tol next a b pl pr l
  slot-after l S.Right = after-right_neighbor tol next a b pl pr l

  slots-left : (i : ℕ) (side : Side) (j : ℕ) (d : NeighborDirection) → has_neighbor (merged_map tol next m a b pl pr) i side j d ≡ has_neighbor left i side j d
  unfolding has_neighbor
  slots-left i side j d =
      let rest = keep (other b.id) m.lanes in
      any-map (λ l. eqb l.id i && holds (neighbor_on side l) j d) (after_merge tol next a b pl pr) rest
      ∙ (any_same (λ l. eqb (after_merge tol next a b pl pr l).id i && holds (neighbor_on side (after_merge tol next a b pl pr l)) j d)
      (λ l. eqb l.id i && holds (neighbor_on side (forgetting b.id l)) j d) rest
      (λ l. ap (λ k. eqb k i && holds (neighbor_on side (after_merge tol next a b pl pr l)) j d) (after-id tol next a b pl pr l)
      ∙ ap (λ o. eqb l.id i && holds o j d) (slot-after l side))
      ∙ sym (any-map (λ l. eqb l.id i && holds (neighbor_on side l) j d) (forgetting b.id) rest))

  pub merge-neighbors : neighbors_reciprocal m ≡ true → neighbors_reciprocal (merged_map tol next m a b pl pr) ≡ true
  merge-neighbors h =
      agree-neighbors (merged_map tol next m a b pl pr) (λ i j side d.
      slots-left i side j d
      ∙ (neighbors-agree left (thinned-neighbors b.id (λ x. true) m h) i j side d ∙ sym (slots-left j (reciprocal_side side d) i d)))
