-- The lists of links stay within their limit in a split: predecessors are as many as they were. Assumes nothing.
use Rattle.std.specs.Prelude.{Option, None, Some}
use mathlib.Core.Path.{◌≡◌, refl, ap, ◌∙◌}
use Prim.Native.Nat.{ℕ, suc}
use mathlib.Core.Bool.{Bool, true, ◌&&◌}
use mathlib.Core.List.{List, [], ◌∷◌, map}
use lib.Dec.{eqb, leb}
use lib.ListN.{length}
use Rattle.lists.specs.Every.{all}
use Rattle.lists.specs.Select.{second_of, ascending}
use Rattle.lists.proofs.Booleans.{and_both, and-fst, and-snd}
use Rattle.lists.proofs.Every.{all_append, all_head, all_tail, all_cons, all_nil}
use Rattle.lists.proofs.Select.{all_map, all-weaken}
use Rattle.entities.specs.Records.{Lane, Map}
use Rattle.rules.specs.Split.{LanePlan, Piece, halves, came_from, plan_for, uncut, first_half, second_half, cut_lane, second_halves, cut_map}
use Rattle.laws.proofs.Connect.{found_all}
use Rattle.split_named.proofs.Words.{cut_ids}
use Rattle.split_limits.proofs.Lengths.{came_same}

-- a lane's links: few, and in order
abbrev pub few : Lane → Bool
few l = leb (length l.predecessors) 16 && leb (length l.successors) 16

abbrev pub up : Lane → Bool
up l = ascending l.predecessors && ascending l.successors

module _ (ps : List LanePlan) (xs : List Piece) (next : ℕ) (cuts : ascending (cut_ids ps) ≡ true) where
  abbrev hs : List (ℕ × ℕ)
  hs = halves next ps

  came-few : (l : Lane) → (few l && up l) ≡ true → leb (length (came_from hs l.predecessors)) 16 ≡ true
  came-few l h =
      let a = and-fst (ascending l.predecessors) (ascending l.successors) (and-snd (few l) (up l) h) in
      ap (λ n. leb n 16) (came_same next ps l.predecessors a cuts) ∙ and-fst (leb (length l.predecessors) 16) (leb (length l.successors) 16) (and-fst (few l) (up l) h)

  after-few : (l : Lane) → (few l && up l) ≡ true → leb (length l.successors) 16 ≡ true
  after-few l h = and-snd (leb (length l.predecessors) 16) (leb (length l.successors) 16) (and-fst (few l) (up l) h)

  module _ (fine : all (λ x. few x.of && up x.of) ps ≡ true) where
    cut_few : (l : Lane) → (few l && up l) ≡ true → few (cut_lane ps xs hs l) ≡ true
    cut_few l h = go (plan_for ps l.id) refl (second_of hs l.id)
      where
        still : few (uncut hs l) ≡ true
        still = and_both (leb (length (came_from hs l.predecessors)) 16) (leb (length l.successors) 16) (came-few l h) (after-few l h)

        go : (o : Option LanePlan) → plan_for ps l.id ≡ o → (s : Option ℕ) → few (elim o [ None ↦ uncut hs l | Some x ↦ elim s [ None ↦ uncut hs l | Some j ↦ first_half xs hs j x ] ]) ≡ true
        go None e s = still
        go (Some x) e None = still
        go (Some x) e (Some j) = and_both (leb (length (came_from hs x.of.predecessors)) 16) true (came-few x.of (found_all (λ x. eqb x.of.id l.id) (λ x. few x.of && up x.of) ps x e fine)) refl

    halves-few : (n : ℕ) (qs : List LanePlan) → all (λ x. few x.of && up x.of) qs ≡ true → all few (second_halves xs hs n qs) ≡ true
    unfolding second_halves
    halves-few n [] g = all_nil few
    halves-few n (x ∷ qs) g =
        all_cons few (second_half xs hs n x) (second_halves xs hs (suc n) qs) (after-few x.of (all_head (λ x. few x.of && up x.of) x qs g))
        (halves-few (suc n) qs (all_tail (λ x. few x.of && up x.of) x qs g))

    pub links-fit : (m : Map) → all (λ l. few l && up l) m.lanes ≡ true → all few (cut_map m ps xs (halves next ps) next).lanes ≡ true
    unfolding cut_map
    links-fit m h =
        all_append few (map (cut_lane ps xs hs) m.lanes) (second_halves xs hs next ps)
        (all_map few (cut_lane ps xs hs) m.lanes ∙ all-weaken (λ l. few l && up l) (λ l. few (cut_lane ps xs hs l)) m.lanes cut_few h) (halves-few next ps fine)
