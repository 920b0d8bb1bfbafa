-- split_lane: the group is a list of present lanes, ascending, with the lane itself, and pairs with the created lanes as the halves do. Assumes nothing.
use Rattle.std.specs.Prelude.{Some}
use mathlib.Core.Path.{◌≡◌, refl, sym, ap, ◌∙◌, subst}
use mathlib.Core.Bool.{Bool, true, false, ◌&&◌, ◌||◌, cond, true≢false}
use mathlib.Core.List.{List, [], ◌∷◌, ◌++◌, map, append-nil}
use Prim.Native.Nat.{ℕ, zero, suc, ◌<◌}
use native.Mathlib.Omega.{arith}
use lib.Dec.{eqb, ltb}
use lib.ListN.{length}
use borrow.Author.Tests.{eq-eqb, ne_eqb, ltb-true}
use Rattle.lists.specs.Select.{keep, any, has, ascending}
use Rattle.lists.proofs.Booleans.{and_both}
use Rattle.lists.proofs.Select.{above-all, ascending-tail, keep_append, keep-map}
use Rattle.entities.specs.declared.EntityKind.TheVariants as K
use Rattle.entities.specs.Records.{Lane, Map}
use Rattle.rules.specs.Map.{lane, lane_ids, beside, widened, grown, lateral_group}
use Rattle.rules.specs.Edit.{refs}
use Rattle.rules.specs.Split.{group_of}
use Rattle.rules.specs.Book.{is_lane, created_lanes, pairs}
use Rattle.laws.proofs.Links.{found-any, lane-id}
use Rattle.laws.proofs.Exact.{has_kept}
use Rattle.laws.proofs.Part.{Part, done, also, less, part-map, part-keep, all-part}
use Rattle.laws.proofs.KeptRows.{keep-on, below_none, keep_one}

-- ---- general

-- of ascending numbers, those that stand in a part of them
pub keep-part : {ys xs : List ℕ} → Part ys xs → ascending xs ≡ true → keep (λ i. has i ys) xs ≡ ys
unfolding keep has ascending
keep-part done up = refl
keep-part (also {x = x} {ys = ys} {xs = xs} r) up =
    ap (λ t. cond (t || has x ys) (x ∷ keep (λ i. eqb i x || has i ys) xs) (keep (λ i. eqb i x || has i ys) xs)) (eq-eqb x x refl)
    ∙ ap (λ zs. x ∷ zs)
    (keep-on (ltb x) (λ i. eqb i x || has i ys) (λ i. has i ys) xs (above-all x xs up) (λ i t. let l : x < i = ltb-true x i t in rw (ne_eqb i x (λ e. omega arith)))
    ∙ keep-part r (ascending-tail x xs up))
keep-part (less {x = x} {ys = ys} {xs = xs} r) up =
    ap (λ t. cond t (x ∷ keep (λ i. has i ys) xs) (keep (λ i. has i ys) xs)) (below_none x ys (all-part (ltb x) r (above-all x xs up))) ∙ keep-part r (ascending-tail x xs up)

pub has_some : (i : ℕ) (ids : List ℕ) → has i ids ≡ true → 0 < length ids
unfolding has
has_some i [] h = absurd (true≢false (sym h))
has_some i (j ∷ ids) h = positive (length ids)
  where
    positive : (n : ℕ) → 0 < suc n
    positive n = omega arith

-- ---- the group

module _ (m : Map) (i : ℕ) (l : Lane) (e : lane m i ≡ Some l) (up : ascending (lane_ids m) ≡ true) where
  one-part : Part (i ∷ []) (lane_ids m)
  unfolding lane
  one-part = subst (λ ids. Part ids (lane_ids m)) (keep_one (λ k. k.id) i m.lanes l up e) (part-map (λ k. k.id) (part-keep (λ k. eqb k.id i) m.lanes))

  widened-part : (ids : List ℕ) → Part (widened m ids) (lane_ids m)
  unfolding widened
  widened-part ids = part-map (λ k. k.id) (part-keep (λ x. has x.id ids || any (λ k. has k.id ids && beside k x.id) m.lanes) m.lanes)

  grown-part : (k : ℕ) (ids : List ℕ) → Part ids (lane_ids m) → Part (grown m k ids) (lane_ids m)
  unfolding grown
  grown-part zero ids r = r
  grown-part (suc k) ids r = grown-part k (widened m ids) (widened-part ids)

  -- a list of lanes of the map, in its order
  pub group-part : (neighbors : Bool) → Part (group_of m i neighbors) (lane_ids m)
  unfolding lateral_group
  group-part true = grown-part (length m.lanes) (i ∷ []) one-part
  group-part false = one-part

  widened-has : (ids : List ℕ) → has i ids ≡ true → has i (widened m ids) ≡ true
  unfolding widened lane
  widened-has ids h =
      has_kept (λ k. k.id) (λ x. has x.id ids || any (λ k. has k.id ids && beside k x.id) m.lanes) i m.lanes
      ∙ found-any (λ k. eqb k.id i) m.lanes l e (λ x. (has x.id ids || any (λ k. has k.id ids && beside k x.id) m.lanes) && eqb i x.id)
      (and_both (has l.id ids || any (λ k. has k.id ids && beside k l.id) m.lanes) (eqb i l.id)
      (ap (λ t. t || any (λ k. has k.id ids && beside k l.id) m.lanes) (ap (λ j. has j ids) (lane-id m i l e) ∙ h)) (eq-eqb i l.id (sym (lane-id m i l e))))

  grown-has : (k : ℕ) (ids : List ℕ) → has i ids ≡ true → has i (grown m k ids) ≡ true
  unfolding grown
  grown-has zero ids h = h
  grown-has (suc k) ids h = grown-has k (widened m ids) (widened-has ids h)

  self : has i (i ∷ []) ≡ true
  unfolding has
  self = ap (λ t. t || false) (eq-eqb i i refl)

  pub group-has : (neighbors : Bool) → has i (group_of m i neighbors) ≡ true
  unfolding lateral_group
  group-has true = grown-has (length m.lanes) (i ∷ []) self
  group-has false = self

  -- the ids of the lanes that are in the group are the group
  pub group-ids : (neighbors : Bool) → map (λ k. k.id) (keep (λ x. has x.id (group_of m i neighbors)) m.lanes) ≡ group_of m i neighbors
  group-ids neighbors = sym (keep-map (λ j. has j (group_of m i neighbors)) (λ k. k.id) m.lanes) ∙ keep-part (group-part neighbors) up

-- ---- the created lanes

keep-lanes : (ids : List ℕ) → keep (λ x. is_lane x.kind) (refs K.Lane ids) ≡ refs K.Lane ids
unfolding keep
keep-lanes [] = refl
keep-lanes (i ∷ ids) = ap (λ es. record { kind = K.Lane; id = i } ∷ es) (keep-lanes ids)

drop-boundaries : (ids : List ℕ) → keep (λ x. is_lane x.kind) (refs K.Boundary ids) ≡ []
unfolding keep
drop-boundaries [] = refl
drop-boundaries (i ∷ ids) = drop-boundaries ids

ids-of : (ids : List ℕ) → map (λ x. x.id) (refs K.Lane ids) ≡ ids
ids-of [] = refl
ids-of (i ∷ ids) = ap (λ is. i ∷ is) (ids-of ids)

pub created-lanes : (ls bs : List ℕ) → created_lanes (refs K.Lane ls ++ refs K.Boundary bs) ≡ ls
unfolding created_lanes
created-lanes ls bs =
    ap (λ es. map (λ x. x.id) es)
    (keep_append (λ x. is_lane x.kind) (refs K.Lane ls) (refs K.Boundary bs)
    ∙ (ap (λ es. es ++ keep (λ x. is_lane x.kind) (refs K.Boundary bs)) (keep-lanes ls) ∙ (ap (λ es. refs K.Lane ls ++ es) (drop-boundaries bs) ∙ append-nil (refs K.Lane ls))))
    ∙ ids-of ls

pub pairs_of : (hs : List (ℕ × ℕ)) → pairs (map (λ (h : ℕ × ℕ). h.0) hs) (map (λ (h : ℕ × ℕ). h.1) hs) ≡ hs
unfolding pairs
pairs_of [] = refl
pairs_of (h ∷ hs) = ap (λ ks. (h.0, h.1) ∷ ks) (pairs_of hs)
