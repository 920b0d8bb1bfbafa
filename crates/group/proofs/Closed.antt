-- The lateral group is the least set of present lanes that holds its lane and all that its slots name. Rounds of `widened` grow a part of the
-- table, which stands still within as many rounds as there are lanes. Assumes nothing.
use mathlib.Core.Path.{◌≡◌, refl, sym, ap, ◌∙◌}
use Prim.Native.Nat.{ℕ, zero, suc, ◌+◌, ◌<◌, ◌≤◌}
use native.Mathlib.Omega.{arith}
use mathlib.Core.Bool.{Bool, true, false, ◌&&◌, ◌||◌, true≢false}
use mathlib.Core.List.{List, [], ◌∷◌}
use mathlib.Core.Logic.{◌⊎◌, ⊎_elim}
use lib.Dec.{eqb}
use lib.ListN.{length, length-map}
use borrow.Author.Tests.{eq-eqb, eqb-true}
use Rattle.lists.specs.Select.{keep, any, has}
use Rattle.lists.proofs.Booleans.{and_both, and-fst, and-snd, or_right, or_left}
use Rattle.lists.proofs.Select.{has-keep, length-keep}
use Rattle.entities.specs.Records.{Lane, Map}
use Rattle.rules.specs.Map.{lane_ids, beside, widened, grown, lateral_group}
use Rattle.group.proofs.Laws.{or_elim, any-weaken, has_somewhere, keep-map, keep-agree, keep-kept, keep-grows}

module _ (m : Map) where
  -- a lane of the set, or one that a lane of the set names in a slot
  abbrev pub near : List ℕ → ℕ → Bool
  near ids y = has y ids || any (λ l. has l.id ids && beside l y) m.lanes

  pub widened-keep : (ids : List ℕ) → widened m ids ≡ keep (near ids) (lane_ids m)
  unfolding widened
  widened-keep ids = keep-map (λ (l : Lane). l.id) (near ids) m.lanes

  pub has-widened : (ids : List ℕ) (y : ℕ) → has y (widened m ids) ≡ (has y (lane_ids m) && near ids y)
  has-widened ids y = ap (has y) (widened-keep ids) ∙ has-keep y (near ids) (lane_ids m)

  -- ---- parts of the table

  abbrev Part : List ℕ → Type 0
  Part ids = ids ≡ keep (λ y. has y ids) (lane_ids m)

  widened-part : (ids : List ℕ) → Part (widened m ids)
  widened-part ids = rw (widened-keep ids) (sym (keep-kept (near ids) (lane_ids m)))

  -- a part stands still or grows
  widens : (ids : List ℕ) → Part ids → (ids ≡ widened m ids) ⊎ (length ids < length (widened m ids))
  widens ids p =
      rw (widened-keep ids)
      (go ids p (keep-grows (λ y. has y ids) (near ids) (λ y e. or_left (has y ids) (any (λ l. has l.id ids && beside l y) m.lanes) e) (lane_ids m)))
    where
      go : (v : List ℕ) → v ≡ keep (λ y. has y ids) (lane_ids m)
          → (keep (λ y. has y ids) (lane_ids m) ≡ keep (near ids) (lane_ids m)) ⊎ (length (keep (λ y. has y ids) (lane_ids m)) < length (keep (near ids) (lane_ids m)))
          → (v ≡ keep (near ids) (lane_ids m)) ⊎ (length v < length (keep (near ids) (lane_ids m)))
      go v q r = rw q r

  few : (ids : List ℕ) → length (widened m ids) ≤ length (lane_ids m)
  few ids = rw (widened-keep ids) (length-keep (near ids) (lane_ids m))

  still : (k : ℕ) (ids : List ℕ) → ids ≡ widened m ids → grown m k ids ≡ ids
  unfolding grown
  still zero ids e = refl
  still (suc k) ids e = ap (grown m k) (sym e) ∙ still k ids e

  grown-part : (k : ℕ) (ids : List ℕ) → Part ids → Part (grown m k ids)
  unfolding grown
  grown-part zero ids p = p
  grown-part (suc k) ids p = grown-part k (widened m ids) (widened-part ids)

  grown-closed : (k : ℕ) (ids : List ℕ) → Part ids → length (lane_ids m) ≤ k + length ids → grown m k ids ≡ widened m (grown m k ids)
  unfolding grown
  grown-closed zero ids p h = ⊎_elim (λ e. e) (λ l. absurd (omega (arith, few ids))) (widens ids p)
  grown-closed (suc k) ids p h =
      ⊎_elim
      (λ e.
      let s : grown m k (widened m ids) ≡ ids = ap (grown m k) (sym e) ∙ still k ids e in
      s ∙ e ∙ ap (widened m) (sym s))
      (λ l. grown-closed k (widened m ids) (widened-part ids) (omega arith))
      (widens ids p)

  -- ---- what a set holds it keeps; what a closed test holds it keeps

  grown-holds : (k : ℕ) (ids : List ℕ) (y : ℕ) → has y (lane_ids m) ≡ true → has y ids ≡ true → has y (grown m k ids) ≡ true
  unfolding grown
  grown-holds zero ids y p h = h
  grown-holds (suc k) ids y p h =
      grown-holds k (widened m ids) y p (has-widened ids y ∙ and_both (has y (lane_ids m)) (near ids y) p (or_left (has y ids) (any (λ l. has l.id ids && beside l y) m.lanes) h))

  module _ (P : ℕ → Bool) (shut : (y : ℕ) → has y (lane_ids m) ≡ true → any (λ l. P l.id && beside l y) m.lanes ≡ true → P y ≡ true) where
    widened-least : (ids : List ℕ) → ((y : ℕ) → has y ids ≡ true → P y ≡ true) → (y : ℕ) → has y (widened m ids) ≡ true → P y ≡ true
    widened-least ids f y h =
        let b = sym (has-widened ids y) ∙ h in
        or_elim (has y ids) (any (λ l. has l.id ids && beside l y) m.lanes) (P y) (f y)
        (λ e. shut y (and-fst (has y (lane_ids m)) (near ids y) b)
        (any-weaken (λ l. has l.id ids && beside l y) (λ l. P l.id && beside l y) m.lanes
        (λ l q. and_both (P l.id) (beside l y) (f l.id (and-fst (has l.id ids) (beside l y) q)) (and-snd (has l.id ids) (beside l y) q)) e))
        (and-snd (has y (lane_ids m)) (near ids y) b)

    grown-least : (k : ℕ) (ids : List ℕ) → ((y : ℕ) → has y ids ≡ true → P y ≡ true) → (y : ℕ) → has y (grown m k ids) ≡ true → P y ≡ true
    unfolding grown
    grown-least zero ids f = f
    grown-least (suc k) ids f = grown-least k (widened m ids) (widened-least ids f)

    pub group-least : (i : ℕ) → P i ≡ true → (y : ℕ) → has y (lateral_group m i) ≡ true → P y ≡ true
    unfolding lateral_group
    group-least i p = grown-least (length m.lanes) (i ∷ []) (λ y h. first y h)
      where
        first : (y : ℕ) → has y (i ∷ []) ≡ true → P y ≡ true
        first y h = unfold has in or_elim (eqb y i) false (P y) (λ e. rw (eqb-true y i e) p) (λ e. absurd (true≢false (sym e))) h

  -- ---- the group

  module _ (i : ℕ) (present : has i (lane_ids m) ≡ true) where
    pub group-start : has i (lateral_group m i) ≡ true
    unfolding lateral_group has
    group-start = grown-holds (length m.lanes) (i ∷ []) i present (or_left (eqb i i) false (eq-eqb i i refl))

    started : has i (widened m (i ∷ [])) ≡ true
    unfolding has
    started =
        has-widened (i ∷ []) i
        ∙ and_both (has i (lane_ids m)) (near (i ∷ []) i) present (or_left (has i (i ∷ [])) (any (λ l. has l.id (i ∷ []) && beside l i) m.lanes) (or_left (eqb i i) false (eq-eqb i i refl)))

    closed_after : (n : ℕ) → length (lane_ids m) ≡ n → grown m n (i ∷ []) ≡ widened m (grown m n (i ∷ []))
    unfolding grown
    closed_after zero e = absurd (has_somewhere ⊥ i (lane_ids m) present (λ j h q. omega arith))
    closed_after (suc n) e =
        grown-closed n (widened m (i ∷ [])) (widened-part (i ∷ [])) (has_somewhere (length (lane_ids m) ≤ n + length (widened m (i ∷ []))) i (widened m (i ∷ [])) started (λ j h q. omega arith))

    pub group-closed : lateral_group m i ≡ widened m (lateral_group m i)
    unfolding lateral_group
    group-closed = closed_after (length m.lanes) (length-map m.lanes (λ (l : Lane). l.id))

    -- the group's ids in the table's order
    pub group-part : lateral_group m i ≡ keep (λ y. has y (lateral_group m i)) (lane_ids m)
    group-part =
        let g = group-closed in
        g ∙ widened-part (lateral_group m i) ∙ ap (λ (v : List ℕ). keep (λ y. has y v) (lane_ids m)) (sym g)

    -- a present lane that a lane of the group names is in the group
    pub group-next : (y : ℕ) → has y (lane_ids m) ≡ true → any (λ l. has l.id (lateral_group m i) && beside l y) m.lanes ≡ true → has y (lateral_group m i) ≡ true
    group-next y p a =
        ap (has y) group-closed
        ∙ has-widened (lateral_group m i) y
        ∙ and_both (has y (lane_ids m)) (near (lateral_group m i) y) p (or_right (has y (lateral_group m i)) (any (λ l. has l.id (lateral_group m i) && beside l y) m.lanes) a)

-- ---- the group depends on the lanes' ids and slots alone

module _ (m n : Map) (e : lane_ids m ≡ lane_ids n) (f : (ids : List ℕ) (y : ℕ) → any (λ l. has l.id ids && beside l y) m.lanes ≡ any (λ l. has l.id ids && beside l y) n.lanes) where
  widened_same : (ids : List ℕ) → widened m ids ≡ widened n ids
  widened_same ids =
      widened-keep m ids
      ∙ ap (keep (near m ids)) e
      ∙ keep-agree (near m ids) (near n ids) (lane_ids n) (λ y _. ap (λ b. has y ids || b) (f ids y))
      ∙ sym (widened-keep n ids)

  grown-same : (k : ℕ) (ids : List ℕ) → grown m k ids ≡ grown n k ids
  unfolding grown
  grown-same zero ids = refl
  grown-same (suc k) ids = ap (grown m k) (widened_same ids) ∙ grown-same k (widened n ids)

  pub group-same : (i : ℕ) → lateral_group m i ≡ lateral_group n i
  unfolding lateral_group
  group-same i =
      let l : length m.lanes ≡ length n.lanes =
      sym (length-map m.lanes (λ (l : Lane). l.id)) ∙ ap length e ∙ length-map n.lanes (λ (l : Lane). l.id) in
      ap (λ (k : ℕ). grown m k (i ∷ [])) l ∙ grown-same (length n.lanes) (i ∷ [])
