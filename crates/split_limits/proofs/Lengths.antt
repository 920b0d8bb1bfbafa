-- How long the lists of ids, of lanes and of boundaries are after a split. Assumes nothing.
use Rattle.std.specs.Prelude.{None, Some}
use mathlib.Core.Path.{◌≡◌, refl, ap, ◌∙◌}
use Prim.Native.Nat.{ℕ, suc, ◌+◌, ◌≤◌}
use native.Mathlib.Omega.{arith}
use mathlib.Core.Bool.{Bool, true, false, ◌&&◌, ◌||◌, cond}
use mathlib.Core.List.{List, [], ◌∷◌, ◌++◌}
use lib.Dec.{eqb, ltb}
use lib.Ieee.{Float}
use lib.ListN.{length, length-append, length-map}
use borrow.Author.Tests.{eqb-true, ltb-true, ne_eqb}
use Rattle.lists.specs.Select.{keep, each, has, ascending, insert_after}
use Rattle.lists.proofs.Booleans.{neither}
use Rattle.lists.proofs.Every.{all_tail}
use Rattle.entities.specs.Records.{Map}
use Rattle.rules.specs.Names.{Point2}
use Rattle.rules.specs.Split.{LanePlan, Piece, halves, came_from, on_second, second_halves, pieces_ids, new_piece, new_pieces, cut_map}
use Rattle.rules.specs.Turns.{swap_first, follow_all}
use Rattle.laws.proofs.KeptRows.{keep-on}
use Rattle.laws.proofs.Links.{eqb_swap}
use Rattle.follows.proofs.Places.{has-place, swap-length}
use Rattle.grow.proofs.Growing.{length_cut}
use Rattle.split_rows.proofs.Coming.{came_from_lem, came-many, uncut_of, seconds_of}
use Rattle.split_named.proofs.Grown.{halves-numbered}
use Rattle.split_named.proofs.Words.{cut_ids, below}
use Rattle.split_room.specs.Fitting.{named_of}

-- ---- lists that gain each second half after its first

pub grown-many : (next : ℕ) (ps : List LanePlan) (ids : List ℕ) → length (insert_after (halves next ps) ids) ≡ length ids + length (keep (λ i. has i (cut_ids ps)) ids)
grown-many next ps ids = rw halves-numbered (length_cut next (cut_ids ps) ids)

-- ---- predecessors

pub came_same : (next : ℕ) (ps : List LanePlan) (ids : List ℕ) → ascending ids ≡ true → ascending (cut_ids ps) ≡ true → length (came_from (halves next ps) ids) ≡ length ids
came_same next ps ids u v =
    ap (λ hs. length (came_from hs ids)) (halves-numbered next ps)
    ∙ (ap length (came_from_lem next (cut_ids ps) ids u v) ∙ (length-append (uncut_of (cut_ids ps) ids) (seconds_of next (cut_ids ps) ids) ∙ came-many next (cut_ids ps) ids))

-- ---- a rule's own lanes

module _ (i : ℕ) (by : List ℕ) where
  swap-many : (ids : List ℕ) → has i ids ≡ true → length (swap_first i by ids) + 1 ≡ length ids + length by
  swap-many ids h = swap-length i by ids (has-place i ids h)

  swap-lacks : (ids : List ℕ) → has i ids ≡ false → swap_first i by ids ≡ ids
  unfolding has swap_first
  swap-lacks [] h = refl
  swap-lacks (x ∷ ids) h = let k = neither (eqb i x) (has i ids) h in rw (eqb_swap x i ∙ k.0, swap-lacks ids k.1)

-- other ids stand where they stood
swap-has : (k i j : ℕ) → eqb k j ≡ false → (ids : List ℕ) → has k (swap_first i (i ∷ j ∷ []) ids) ≡ has k ids
unfolding has swap_first
swap-has k i j n [] = refl
swap-has k i j n (x ∷ ids) = go (swap-has k i j n ids) (eqb x i) refl
  where
    go : has k (swap_first i (i ∷ j ∷ []) ids) ≡ has k ids → (b : Bool) → eqb x i ≡ b → has k (cond b (i ∷ j ∷ ids) (x ∷ swap_first i (i ∷ j ∷ []) ids)) ≡ (eqb k x || has k ids)
    go r true e = rw (n, eqb-true x i e)
    go r false e = rw r

-- with the second half beside the first: one more where the lane is named
swap-added : (i j : ℕ) (ids : List ℕ) (b : Bool) → has i ids ≡ b → length (swap_first i (i ∷ j ∷ []) ids) ≡ length ids + cond b 1 0
swap-added i j ids true e = omega (arith, swap-many i (i ∷ j ∷ []) ids e)
swap-added i j ids false e = rw (swap-lacks i (i ∷ j ∷ []) ids e) (omega arith)

module _ (join : Float) (m : Map) (base : ℕ) where
  added : (next : ℕ) (ps : List LanePlan) (ids : List ℕ) → base ≤ next → below base (cut_ids ps) → length (follow_all join m None next ps ids) ≡ length ids + named_of (cut_ids ps) ids
  unfolding follow_all keep
  added next [] ids h b = omega arith
  added next (x ∷ ps) ids h b =
      let i = x.of.id in
      let after = swap_first i (i ∷ next ∷ []) ids in
      let r = all_tail (λ i. ltb i base) i (cut_ids ps) b in
      let e : keep (λ k. has k after) (cut_ids ps) ≡ keep (λ k. has k ids) (cut_ids ps) =
      keep-on (λ k. ltb k base) (λ k. has k after) (λ k. has k ids) (cut_ids ps) r (λ k l. swap-has k i next (ne_eqb k next (λ q. omega (arith, ltb-true k base l))) ids) in
      added (suc next) ps after (omega arith) r ∙ (ap (λ z. length after + length z) e ∙ (ap (λ z. z + named_of (cut_ids ps) ids) (swap-added i next ids (has i ids) refl) ∙ go (has i ids)))
    where
      go : (b : Bool) → length ids + cond b 1 0 + named_of (cut_ids ps) ids ≡ length ids + length (cond b (x.of.id ∷ keep (λ k. has k ids) (cut_ids ps)) (keep (λ k. has k ids) (cut_ids ps)))
      go true = omega arith
      go false = omega arith

-- without an anchor one more for each cut lane that is named
pub own-added : (join : Float) (m : Map) (next : ℕ) (ps : List LanePlan) (ids : List ℕ) → below next (cut_ids ps) → length (follow_all join m None next ps ids) ≡ length ids + named_of (cut_ids ps) ids
own-added join m next ps ids b = added join m next next ps ids (omega arith) b

-- with an anchor as many as there were
pub own_same : (join : Float) (m : Map) (a : Point2) (next : ℕ) (ps : List LanePlan) (ids : List ℕ) → length (follow_all join m (Some a) next ps ids) ≡ length ids
unfolding follow_all
own_same join m a next [] ids = refl
own_same join m a next (x ∷ ps) ids =
    own_same join m a (suc next) ps (cond (has x.of.id ids && on_second join m x next a) (swap_first x.of.id (next ∷ []) ids) ids) ∙ go (has x.of.id ids) refl (on_second join m x next a)
  where
    go : (b : Bool) → has x.of.id ids ≡ b → (c : Bool) → length (cond (b && c) (swap_first x.of.id (next ∷ []) ids) ids) ≡ length ids
    go true e true = omega (arith, swap-many x.of.id (next ∷ []) ids e)
    go true e false = refl
    go false e c = refl

-- ---- lanes and boundaries

halves-many : (xs : List Piece) (hs : List (ℕ × ℕ)) (next : ℕ) (ps : List LanePlan) → length (second_halves xs hs next ps) ≡ length ps
unfolding second_halves
halves-many xs hs next [] = refl
halves-many xs hs next (x ∷ ps) = ap suc (halves-many xs hs (suc next) ps)

new-many : (xs : List Piece) → length (each new_pieces xs) ≡ pieces_ids xs
unfolding each pieces_ids
new-many [] = refl
new-many (x ∷ xs) = length-append (new_pieces x) (each new_pieces xs) ∙ (rw (new-many xs) (go x.alone))
  where
    go : (b : Bool) → length (cond b [] (new_piece x.of x.first x.first_line ∷ []) ++ (new_piece x.of x.second x.second_line ∷ [])) + pieces_ids xs ≡ cond b 1 2 + pieces_ids xs
    go true = refl
    go false = refl

module _ (m : Map) (ps : List LanePlan) (xs : List Piece) (hs : List (ℕ × ℕ)) (next : ℕ) where
  pub lanes-many : length (cut_map m ps xs hs next).lanes ≡ length m.lanes + length ps
  unfolding cut_map
  lanes-many = simp (length-append, length-map, halves-many)

  pub boundaries-many : length (cut_map m ps xs hs next).boundaries ≡ length m.boundaries + pieces_ids xs
  unfolding cut_map
  boundaries-many = simp (length-append, length-map, new-many)
