-- split_lane: neighbours stay reciprocal. Same-direction neighbours pair first with first and second with second, opposite ones first with second,
-- and a neighbour that is not cut stays beside the first half. Assumes nothing.
use Rattle.std.specs.Prelude.{Option, None, Some}
use mathlib.Core.Path.{◌≡◌, refl, sym, ap, ◌∙◌, subst}
use mathlib.Core.Bool.{true}
use mathlib.Core.List.{List}
use Prim.Native.Nat.{ℕ}
use Rattle.entities.specs.Types.{reciprocal_side, opposing, same as beside}
use Rattle.entities.specs.declared.Side.{Side}
use Rattle.entities.specs.declared.Side.TheVariants as S
use Rattle.entities.specs.declared.NeighborDirection.{NeighborDirection}
use Rattle.entities.specs.declared.NeighborDirection.TheVariants as D
use Rattle.entities.specs.declared.Neighbor.{Neighbor}
use Rattle.entities.specs.Records.{Lane, Map}
use Rattle.rules.specs.Map.{lane, neighbor_on}
use Rattle.rules.specs.Sound.{neighbors_reciprocal}
use Rattle.rules.specs.Split.{LanePlan, Piece, halves, first_slot, second_slot, uncut, first_half, second_half}
use Rattle.rules.proofs.Reciprocal.{neighbors-agree, agree-neighbors}
use Rattle.laws.proofs.Slots.{nb, Answered}
use Rattle.laws.proofs.Neighbors.{slot_found, slots_of, agree-answered, answered-agree}
use Rattle.laws.proofs.Find.{mapped, no-some, some_is}
use Rattle.laws.proofs.SplitLanes.{Numbered, first_id, second_id, Cutting, found_by_first, by_second, cut_lanes, second_is, first-id, second-id, first_lane, first-second, second-first, second-new, lane_at}
use Rattle.laws.proofs.SplitLinks.{after-up, after-lane}

-- ---- the slots of halves, by whether the neighbour is cut

abbrev first_by : Option ℕ → Neighbor → Option Neighbor
first_by o n = elim o [ None ↦ Some n | Some j ↦ elim n.direction [ D.Same ↦ Some n | D.Opposite ↦ Some (opposing j) ] ]

abbrev second_by : Option ℕ → Neighbor → Option Neighbor
second_by o n = elim o [ None ↦ None | Some j ↦ elim n.direction [ D.Same ↦ Some (beside j) | D.Opposite ↦ Some (opposing n.lane) ] ]

module _ (m : Map) (ps : List LanePlan) (next : ℕ) (c : Cutting m ps next) where
  first-slot : (u : ℕ) (e : NeighborDirection) (a : Option Numbered) → found_by_first ps next u ≡ a → first_slot (halves next ps) (Some (nb u e)) ≡ first_by (mapped second_id a) (nb u e)
  first-slot u e a q = ap (λ o. first_by o (nb u e)) (second_is m ps next u ∙ ap (mapped second_id) q)

  second-slot : (u : ℕ) (e : NeighborDirection) (a : Option Numbered) → found_by_first ps next u ≡ a
      → second_slot (halves next ps) (Some (nb u e)) ≡ second_by (mapped second_id a) (nb u e)
  second-slot u e a q = ap (λ o. second_by o (nb u e)) (second_is m ps next u ∙ ap (mapped second_id) q)

  module _ (xs : List Piece) (n : Map) (same : n.lanes ≡ cut_lanes m ps xs next) where
    -- ---- the slots of the cut map

    slot_is : (x : ℕ) (s : Side) (o : Option Lane) (a b : Option Numbered) → lane m x ≡ o → found_by_first ps next x ≡ a → by_second ps next x ≡ b
        → slots_of n x s ≡ slot_found (lane_at m ps next c.choice xs x o a b) s
    unfolding slots_of
    slot_is x s o a b eo ea eb =
        ap (λ k. slot_found k s) (after-lane m ps next c xs n same x)
        ∙ (ap (λ k. slot_found (lane_at m ps next c.choice xs x k (found_by_first ps next x) (by_second ps next x)) s) eo
        ∙ (ap (λ k. slot_found (lane_at m ps next c.choice xs x o k (by_second ps next x)) s) ea ∙ ap (λ k. slot_found (lane_at m ps next c.choice xs x o a k) s) eb))

    slot-was : (x : ℕ) (s : Side) (o : Option Lane) → lane m x ≡ o → slots_of m x s ≡ slot_found o s
    unfolding slots_of
    slot-was x s o e = ap (λ k. slot_found k s) e

    -- a lane that is not cut
    uncut-slot : (x : ℕ) (s : Side) → found_by_first ps next x ≡ None → by_second ps next x ≡ None → slots_of n x s ≡ slots_of m x s
    uncut-slot x s ea eb = go (lane m x) refl
      where
        on-side : (l : Lane) (s : Side) → neighbor_on s (uncut (halves next ps) l) ≡ neighbor_on s l
        on-side l S.Left = refl
        on-side l S.Right = refl

        go : (o : Option Lane) → lane m x ≡ o → slots_of n x s ≡ slots_of m x s
        go None eo = slot_is x s None None None eo ea eb ∙ sym (slot-was x s None eo)
        go (Some l) eo = slot_is x s (Some l) None None eo ea eb ∙ (on-side l s ∙ sym (slot-was x s (Some l) eo))

    -- a first half
    first-half : (x : ℕ) (s : Side) (z : Numbered) → found_by_first ps next x ≡ Some z → slots_of n x s ≡ first_slot (halves next ps) (slots_of m x s)
    first-half x s z ea =
        let eo = first_lane m ps next c.choice x z ea in
        slot_is x s (Some z.1.of) (Some z) (by_second ps next x) eo ea refl ∙ (on-side s ∙ ap (first_slot (halves next ps)) (sym (slot-was x s (Some z.1.of) eo)))
      where
        on-side : (s : Side) → neighbor_on s (first_half xs (halves next ps) z.0 z.1) ≡ first_slot (halves next ps) (neighbor_on s z.1.of)
        on-side S.Left = refl
        on-side S.Right = refl

    -- a second half
    second-half : (x : ℕ) (s : Side) (z : Numbered) → by_second ps next x ≡ Some z → slots_of n x s ≡ second_slot (halves next ps) (slots_of m (first_id z) s)
    second-half x s z eb =
        let eo = first_lane m ps next c.choice (first_id z) z (second-first m ps next c.choice x z eb) in
        slot_is x s None (found_by_first ps next x) (Some z) (second-new m ps next c x z eb) refl eb
        ∙ (on-side s ∙ ap (second_slot (halves next ps)) (sym (slot-was (first_id z) s (Some z.1.of) eo)))
      where
        on-side : (s : Side) → neighbor_on s (second_half xs (halves next ps) z.0 z.1) ≡ second_slot (halves next ps) (neighbor_on s z.1.of)
        on-side S.Left = refl
        on-side S.Right = refl

    -- a lane that holds a neighbour was there
    held-old : (x : ℕ) (s : Side) (w : Neighbor) → slots_of m x s ≡ Some w → by_second ps next x ≡ None
    held-old x s w e = go (by_second ps next x) refl
      where
        go : (o : Option Numbered) → by_second ps next x ≡ o → o ≡ None
        go None q = refl
        go (Some z) q = absurd (no-some w (sym (slot-was x s None (second-new m ps next c x z q)) ∙ e))

    -- what a lane that was there holds now, by what it held
    old-slot : (x : ℕ) (s : Side) (u : ℕ) (e : NeighborDirection) (a b : Option Numbered) → found_by_first ps next x ≡ a → found_by_first ps next u ≡ b → slots_of m x s ≡ Some (nb u e)
        → slots_of n x s ≡ elim a [ None ↦ Some (nb u e) | Some z ↦ first_by (mapped second_id b) (nb u e) ]
    old-slot x s u e None b ea eb h = uncut-slot x s ea (held-old x s (nb u e) h) ∙ h
    old-slot x s u e (Some z) b ea eb h = first-half x s z ea ∙ (ap (first_slot (halves next ps)) h ∙ first-slot u e b eb)

    -- what the second half of a lane holds
    new-slot : (z : Numbered) (x : ℕ) → found_by_first ps next x ≡ Some z → (s : Side) (u : ℕ) (e : NeighborDirection) (b : Option Numbered) → found_by_first ps next u ≡ b
        → slots_of m x s ≡ Some (nb u e) → slots_of n (second_id z) s ≡ second_by (mapped second_id b) (nb u e)
    new-slot z x ez s u e b eb h =
        second-half (second_id z) s z (first-second m ps next c.choice x z ez)
        ∙ (ap (second_slot (halves next ps)) (ap (λ i. slots_of m i s) (first-id m ps next c.choice x z ez) ∙ h) ∙ second-slot u e b eb)

    -- ---- every neighbour is answered

    abbrev AnsweredAt : ℕ → Side → Neighbor → Type 0
    AnsweredAt x s o = slots_of n o.lane (reciprocal_side s o.direction) ≡ Some (nb x o.direction)

    uncut-answered : Answered (slots_of m) → (x : ℕ) (s : Side) (u : ℕ) (e : NeighborDirection) → slots_of m x s ≡ Some (nb u e) → found_by_first ps next x ≡ None
        → AnsweredAt x s (nb u e)
    uncut-answered ok x s u e h ea = go (found_by_first ps next u) refl
      where
        go : (b : Option Numbered) → found_by_first ps next u ≡ b → AnsweredAt x s (nb u e)
        go None eb = old-slot u (reciprocal_side s e) x e None None eb ea (ok x s u e h)
        go (Some v) eb = old-slot u (reciprocal_side s e) x e (Some v) None eb ea (ok x s u e h)

    first-answered : Answered (slots_of m) → (x : ℕ) (s : Side) (u : ℕ) (e : NeighborDirection) → slots_of m x s ≡ Some (nb u e) → (z : Numbered) → found_by_first ps next x ≡ Some z
        → (o : Neighbor) → slots_of n x s ≡ Some o → AnsweredAt x s o
    first-answered ok x s u e h z ea o t = go (found_by_first ps next u) e refl refl
      where
        go : (b : Option Numbered) (d : NeighborDirection) → found_by_first ps next u ≡ b → e ≡ d → AnsweredAt x s o
        go None d eb ed =
            subst (AnsweredAt x s) (some_is (sym (old-slot x s u e (Some z) None ea eb h) ∙ t)) (old-slot u (reciprocal_side s e) x e None (Some z) eb ea (ok x s u e h))
        go (Some v) D.Same eb ed =
            let h' : slots_of m x s ≡ Some (nb u D.Same) = h ∙ ap (λ k. Some (nb u k)) ed in
            subst (AnsweredAt x s) (some_is (sym (old-slot x s u D.Same (Some z) (Some v) ea eb h') ∙ t))
            (old-slot u (reciprocal_side s D.Same) x D.Same (Some v) (Some z) eb ea (ok x s u D.Same h'))
        go (Some v) D.Opposite eb ed =
            let h' : slots_of m x s ≡ Some (nb u D.Opposite) = h ∙ ap (λ k. Some (nb u k)) ed in
            subst (AnsweredAt x s) (some_is (sym (old-slot x s u D.Opposite (Some z) (Some v) ea eb h') ∙ t))
            (new-slot v u eb (reciprocal_side s D.Opposite) x D.Opposite (Some z) ea (ok x s u D.Opposite h'))

    second-answered : Answered (slots_of m) → (x : ℕ) (s : Side) (u : ℕ) (e : NeighborDirection) → slots_of m x s ≡ Some (nb u e) → (z : Numbered) → found_by_first ps next x ≡ Some z
        → (o : Neighbor) → slots_of n (second_id z) s ≡ Some o → AnsweredAt (second_id z) s o
    second-answered ok x s u e h z ea o t = go (found_by_first ps next u) e refl refl
      where
        go : (b : Option Numbered) (d : NeighborDirection) → found_by_first ps next u ≡ b → e ≡ d → AnsweredAt (second_id z) s o
        go None d eb ed = absurd (no-some o (sym (new-slot z x ea s u e None eb h) ∙ t))
        go (Some v) D.Same eb ed =
            let h' : slots_of m x s ≡ Some (nb u D.Same) = h ∙ ap (λ k. Some (nb u k)) ed in
            subst (AnsweredAt (second_id z) s) (some_is (sym (new-slot z x ea s u D.Same (Some v) eb h') ∙ t))
            (new-slot v u eb (reciprocal_side s D.Same) x D.Same (Some z) ea (ok x s u D.Same h'))
        go (Some v) D.Opposite eb ed =
            let h' : slots_of m x s ≡ Some (nb u D.Opposite) = h ∙ ap (λ k. Some (nb u k)) ed in
            subst (AnsweredAt (second_id z) s) (some_is (sym (new-slot z x ea s u D.Opposite (Some v) eb h') ∙ t))
            (old-slot u (reciprocal_side s D.Opposite) x D.Opposite (Some v) (Some z) eb ea (ok x s u D.Opposite h'))

    split-answered : Answered (slots_of m) → (x : ℕ) (s : Side) (o : Neighbor) → slots_of n x s ≡ Some o → AnsweredAt x s o
    split-answered ok x s o t = go (found_by_first ps next x) (by_second ps next x) refl refl
      where
        cut-held : (z : Numbered) → found_by_first ps next x ≡ Some z → (w : Option Neighbor) → slots_of m x s ≡ w → AnsweredAt x s o
        cut-held z ea None h = absurd (no-some o (sym (first-half x s z ea ∙ ap (first_slot (halves next ps)) h) ∙ t))
        cut-held z ea (Some w) h = first-answered ok x s w.lane w.direction h z ea o t

        new-held : (z : Numbered) → by_second ps next x ≡ Some z → (w : Option Neighbor) → slots_of m (first_id z) s ≡ w → AnsweredAt (second_id z) s o
        new-held z eb None h = absurd (no-some o (sym (second-half x s z eb ∙ ap (second_slot (halves next ps)) h) ∙ t))
        new-held z eb (Some w) h =
            second-answered ok (first_id z) s w.lane w.direction h z (second-first m ps next c.choice x z eb) o
            (ap (λ i. slots_of n i s) (second-id m ps next c.choice x z eb) ∙ t)

        go : (a b : Option Numbered) → found_by_first ps next x ≡ a → by_second ps next x ≡ b → AnsweredAt x s o
        go (Some z) b ea eb = cut-held z ea (slots_of m x s) refl
        go None None ea eb = uncut-answered ok x s o.lane o.direction (sym (uncut-slot x s ea eb) ∙ t) ea
        go None (Some z) ea eb = subst (λ i. AnsweredAt i s o) (second-id m ps next c.choice x z eb) (new-held z eb (slots_of m (first_id z) s) refl)

    -- Neighbours stay reciprocal.
    pub split-neighbors : neighbors_reciprocal m ≡ true → neighbors_reciprocal n ≡ true
    split-neighbors h =
        agree-neighbors n (answered-agree n (after-up m ps next c xs n same)
        (λ x s y d e. split-answered (agree-answered m c.choice.up (neighbors-agree m h)) x s (nb y d) e))
