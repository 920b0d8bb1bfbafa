-- split_lane: every id that the cut map names passes a test that the first map's ids and the new ids pass. Assumes nothing.
use Rattle.std.specs.Prelude.{Option, None, Some}
use mathlib.Core.Path.{◌≡◌, refl, sym, ap, ◌∙◌}
use mathlib.Core.Bool.{Bool, true, false, not, ◌&&◌, cond}
use mathlib.Core.List.{List, [], ◌∷◌, ◌++◌, map}
use Prim.Native.Nat.{ℕ}
use lib.Dec.{eqb}
use lib.Ieee.{Float}
use Rattle.lists.specs.Every.{all}
use Rattle.lists.specs.Select.{keep, find, has, second_of, with_second, insert_after}
use Rattle.lists.proofs.Booleans.{and_both, and-fst, and-snd}
use Rattle.lists.proofs.Every.{all_append, all_split}
use Rattle.lists.proofs.Select.{all_map, all-each, all_keep, all-weaken}
use Rattle.geometry.specs.declared.Point2.{Point2}
use Rattle.entities.specs.Types.{opposing, same}
use Rattle.entities.specs.declared.BoundaryRef.{BoundaryRef}
use Rattle.entities.specs.declared.Neighbor.{Neighbor}
use Rattle.entities.specs.declared.NeighborDirection.{NeighborDirection}
use Rattle.entities.specs.declared.NeighborDirection.TheVariants as D
use Rattle.entities.specs.Records.{Lane, Map}
use Rattle.rules.specs.Sound.{lane_names, slot_id}
use Rattle.rules.specs.Split.{LanePlan, Piece, piece_for, first_ref, second_ref, first_slot, second_slot, came_from, uncut, first_half, second_half, plan_for, on_second, followed, follow}
use Rattle.laws.proofs.Connect.{found_all}
use Rattle.laws.proofs.Find.{no-some, some_is}

-- ---- general

-- the parts of a lane's names
pub record Parts (p : ℕ → Bool) (i l r : ℕ) (ln rn ps ss : List ℕ) : Type 0 where
  pub own : p i ≡ true
  pub left : p l ≡ true
  pub right : p r ≡ true
  pub left-slot : all p ln ≡ true
  pub right-slot : all p rn ≡ true
  pub before : all p ps ≡ true
  pub after : all p ss ≡ true

pub parts-of : (p : ℕ → Bool) (i l r : ℕ) (ln rn ps ss : List ℕ) → all p (i ∷ l ∷ r ∷ ln ++ (rn ++ (ps ++ ss))) ≡ true → Parts p i l r ln rn ps ss
unfolding all
parts-of p i l r ln rn ps ss h =
    let h1 = and-snd (p i) (all p (l ∷ r ∷ ln ++ (rn ++ (ps ++ ss)))) h in
    let h2 = and-snd (p l) (all p (r ∷ ln ++ (rn ++ (ps ++ ss)))) h1 in
    let h3 = sym (all_split p ln (rn ++ (ps ++ ss))) ∙ and-snd (p r) (all p (ln ++ (rn ++ (ps ++ ss)))) h2 in
    let h4 = sym (all_split p rn (ps ++ ss)) ∙ and-snd (all p ln) (all p (rn ++ (ps ++ ss))) h3 in
    let h5 = sym (all_split p ps ss) ∙ and-snd (all p rn) (all p (ps ++ ss)) h4 in
    record {
      own = and-fst (p i) (all p (l ∷ r ∷ ln ++ (rn ++ (ps ++ ss)))) h;
      left = and-fst (p l) (all p (r ∷ ln ++ (rn ++ (ps ++ ss)))) h1;
      right = and-fst (p r) (all p (ln ++ (rn ++ (ps ++ ss)))) h2;
      left-slot = and-fst (all p ln) (all p (rn ++ (ps ++ ss))) h3;
      right-slot = and-fst (all p rn) (all p (ps ++ ss)) h4;
      before = and-fst (all p ps) (all p ss) h5;
      after = and-snd (all p ps) (all p ss) h5;
    }

pub of_parts : (p : ℕ → Bool) (i l r : ℕ) (ln rn ps ss : List ℕ) → Parts p i l r ln rn ps ss → all p (i ∷ l ∷ r ∷ ln ++ (rn ++ (ps ++ ss))) ≡ true
unfolding all
of_parts p i l r ln rn ps ss h =
    and_both (p i) (all p (l ∷ r ∷ ln ++ (rn ++ (ps ++ ss)))) h.own
    (and_both (p l) (all p (r ∷ ln ++ (rn ++ (ps ++ ss)))) h.left
    (and_both (p r) (all p (ln ++ (rn ++ (ps ++ ss)))) h.right
    (all_append p ln (rn ++ (ps ++ ss)) h.left-slot (all_append p rn (ps ++ ss) h.right-slot (all_append p ps ss h.before h.after)))))

abbrev pub lane_parts : (ℕ → Bool) → Lane → Type 0
lane_parts p l = Parts p l.id l.left.boundary l.right.boundary (slot_id l.left_neighbor) (slot_id l.right_neighbor) l.predecessors l.successors

pub lane-parts : (p : ℕ → Bool) (l : Lane) → all p (lane_names l) ≡ true → lane_parts p l
lane-parts p l = parts-of p l.id l.left.boundary l.right.boundary (slot_id l.left_neighbor) (slot_id l.right_neighbor) l.predecessors l.successors

pub parts-lane : (p : ℕ → Bool) (l : Lane) → lane_parts p l → all p (lane_names l) ≡ true
parts-lane p l = of_parts p l.id l.left.boundary l.right.boundary (slot_id l.left_neighbor) (slot_id l.right_neighbor) l.predecessors l.successors

one_of : (p : ℕ → Bool) (i : ℕ) → p i ≡ true → all p (i ∷ []) ≡ true
unfolding all
one_of p i h = and_both (p i) true h refl

-- ---- ids of a lane's parts

abbrev first_part : BoundaryRef → Option Piece → BoundaryRef
first_part r o = elim o [ None ↦ r | Some x ↦ record { boundary = cond r.reversed x.second x.first; reversed = r.reversed } ]

abbrev second_part : BoundaryRef → Option Piece → BoundaryRef
second_part r o = elim o [ None ↦ r | Some x ↦ record { boundary = cond r.reversed x.first x.second; reversed = r.reversed } ]

module _ (p : ℕ → Bool) (xs : List Piece) (hs : List (ℕ × ℕ)) (new : all (λ (h : ℕ × ℕ). p h.1) hs ≡ true)
    (drawn : all (λ x. p x.first && p x.second) xs ≡ true) where
  -- the second half's id
  pub second-passes : (i j : ℕ) → second_of hs i ≡ Some j → p j ≡ true
  second-passes i j e = go (find (λ h. eqb h.0 i) hs) refl e
    where
      go : (o : Option (ℕ × ℕ)) → find (λ h. eqb h.0 i) hs ≡ o → (elim o [ None ↦ None | Some h ↦ Some h.1 ]) ≡ Some j → p j ≡ true
      go None q u = absurd (no-some j u)
      go (Some h) q u = ap p (sym (some_is u)) ∙ found_all (λ k. eqb k.0 i) (λ k. p k.1) hs h q new

  pub second-list : (i : ℕ) → p i ≡ true → all p (with_second hs i) ≡ true
  unfolding all
  second-list i h = go (second_of hs i) refl
    where
      go : (o : Option ℕ) → second_of hs i ≡ o → all p (elim o [ None ↦ i ∷ [] | Some j ↦ i ∷ j ∷ [] ]) ≡ true
      go None q = and_both (p i) true h refl
      go (Some j) q = and_both (p i) (p j && true) h (and_both (p j) true (second-passes i j q) refl)

  -- lists of lanes of roads, junctions, and of a rule's priority
  pub inserted-pass : (ids : List ℕ) → all p ids ≡ true → all p (insert_after hs ids) ≡ true
  unfolding insert_after
  inserted-pass ids h = all-each p (with_second hs) ids ∙ all-weaken p (λ i. all p (with_second hs i)) ids second-list h

  came-pass : (ids : List ℕ) → all p ids ≡ true → all p (came_from hs ids) ≡ true
  unfolding came_from
  came-pass ids h =
      all_append p (keep (λ i. not (has i (map (λ h. h.0) hs))) ids) (map (λ h. h.1) (keep (λ h. has h.0 ids) hs))
      (all_keep p (λ i. not (has i (map (λ h. h.0) hs))) ids h)
      (all_map p (λ (h : ℕ × ℕ). h.1) (keep (λ h. has h.0 ids) hs) ∙ all_keep (λ h. p h.1) (λ h. has h.0 ids) hs new)

  first-slot-pass : (o : Option Neighbor) → all p (slot_id o) ≡ true → all p (slot_id (first_slot hs o)) ≡ true
  first-slot-pass None h = h
  first-slot-pass (Some n) h = go (second_of hs n.lane) n.direction refl
    where
      go : (o : Option ℕ) (d : NeighborDirection) → second_of hs n.lane ≡ o
          → all p (slot_id (elim o [ None ↦ Some n | Some j ↦ elim d [ D.Same ↦ Some n | D.Opposite ↦ Some (opposing j) ] ])) ≡ true
      go None d e = h
      go (Some j) D.Same e = h
      go (Some j) D.Opposite e = one_of p j (second-passes n.lane j e)

  second-slot-pass : (o : Option Neighbor) → all p (slot_id o) ≡ true → all p (slot_id (second_slot hs o)) ≡ true
  second-slot-pass None h = h
  second-slot-pass (Some n) h = go (second_of hs n.lane) n.direction refl
    where
      go : (o : Option ℕ) (d : NeighborDirection) → second_of hs n.lane ≡ o
          → all p (slot_id (elim o [ None ↦ None | Some j ↦ elim d [ D.Same ↦ Some (same j) | D.Opposite ↦ Some (opposing n.lane) ] ])) ≡ true
      go None d e = unfold all in refl
      go (Some j) D.Same e = one_of p j (second-passes n.lane j e)
      go (Some j) D.Opposite e = h

  pick : (b : Bool) (i j : ℕ) → p i ≡ true → p j ≡ true → p (cond b i j) ≡ true
  pick true i j h k = h
  pick false i j h k = k

  piece-passes : (i : ℕ) (x : Piece) → piece_for xs i ≡ Some x → (p x.first ≡ true) × (p x.second ≡ true)
  piece-passes i x e =
      let both = found_all (λ y. eqb y.of.id i) (λ y. p y.first && p y.second) xs x e drawn in
      (and-fst (p x.first) (p x.second) both, and-snd (p x.first) (p x.second) both)

  first-ref-pass : (r : BoundaryRef) → p r.boundary ≡ true → p (first_ref xs r).boundary ≡ true
  first-ref-pass r h = go (piece_for xs r.boundary) refl
    where
      go : (o : Option Piece) → piece_for xs r.boundary ≡ o
          → p (first_part r o).boundary ≡ true
      go None e = h
      go (Some x) e = let (a, b) = piece-passes r.boundary x e in pick r.reversed x.second x.first b a

  second-ref-pass : (r : BoundaryRef) → p r.boundary ≡ true → p (second_ref xs r).boundary ≡ true
  second-ref-pass r h = go (piece_for xs r.boundary) refl
    where
      go : (o : Option Piece) → piece_for xs r.boundary ≡ o
          → p (second_part r o).boundary ≡ true
      go None e = h
      go (Some x) e = let (a, b) = piece-passes r.boundary x e in pick r.reversed x.first x.second a b

  -- ---- the names of a lane that is not cut, of a first and of a second half

  pub uncut-names : (l : Lane) → all p (lane_names l) ≡ true → all p (lane_names (uncut hs l)) ≡ true
  uncut-names l h =
      let t = lane-parts p l h in
      parts-lane p (uncut hs l)
      (record {
        own = t.own;
        left = t.left;
        right = t.right;
        left-slot = t.left-slot;
        right-slot = t.right-slot;
        before = came-pass l.predecessors t.before;
        after = t.after;
      })

  pub first-names : (j : ℕ) (x : LanePlan) → p j ≡ true → all p (lane_names x.of) ≡ true → all p (lane_names (first_half xs hs j x)) ≡ true
  first-names j x k h =
      let t = lane-parts p x.of h in
      parts-lane p (first_half xs hs j x)
      (record {
        own = t.own;
        left = first-ref-pass x.of.left t.left;
        right = first-ref-pass x.of.right t.right;
        left-slot = first-slot-pass x.of.left_neighbor t.left-slot;
        right-slot = first-slot-pass x.of.right_neighbor t.right-slot;
        before = came-pass x.of.predecessors t.before;
        after = one_of p j k;
      })

  pub second-names : (j : ℕ) (x : LanePlan) → p j ≡ true → all p (lane_names x.of) ≡ true → all p (lane_names (second_half xs hs j x)) ≡ true
  second-names j x k h =
      let t = lane-parts p x.of h in
      parts-lane p (second_half xs hs j x)
      (record {
        own = k;
        left = second-ref-pass x.of.left t.left;
        right = second-ref-pass x.of.right t.right;
        left-slot = second-slot-pass x.of.left_neighbor t.left-slot;
        right-slot = second-slot-pass x.of.right_neighbor t.right-slot;
        before = one_of p x.of.id t.own;
        after = t.after;
      })

  -- ---- a rule's own lanes

  followed-passes : (join : Float) (m : Map) (ps : List LanePlan) (a : Point2) (i : ℕ) → p i ≡ true → p (followed join m ps hs a i) ≡ true
  followed-passes join m ps a i h = go (plan_for ps i) (second_of hs i) refl
    where
      go : (o : Option LanePlan) (q : Option ℕ) → second_of hs i ≡ q
          → p (elim o [ None ↦ i | Some x ↦ elim q [ None ↦ i | Some j ↦ cond (on_second join m x j a) j i ] ]) ≡ true
      go None q e = h
      go (Some x) None e = h
      go (Some x) (Some j) e = pick (on_second join m x j a) j i (second-passes i j e) h

  pub follow-pass : (join : Float) (m : Map) (ps : List LanePlan) (anchor : Option Point2) (ids : List ℕ) → all p ids ≡ true → all p (follow join m ps hs anchor ids) ≡ true
  unfolding follow
  follow-pass join m ps None ids h = inserted-pass ids h
  follow-pass join m ps (Some a) ids h =
      all_map p (followed join m ps hs a) ids ∙ all-weaken p (λ i. p (followed join m ps hs a i)) ids (followed-passes join m ps a) h
