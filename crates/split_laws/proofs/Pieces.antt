-- The boundaries that a split marks are those that document 01 cuts, and the rows of their pieces have its pieces' ids. Assumes nothing.
use Rattle.std.specs.Prelude.{Option, None, Some}
use mathlib.Core.Path.{◌≡◌, refl, sym, ap, ◌∙◌}
use Prim.Native.Nat.{ℕ, suc, ◌+◌}
use mathlib.Core.Bool.{Bool, true, false, not, ◌&&◌, ◌||◌, cond}
use mathlib.Core.List.{List, [], ◌∷◌, ◌++◌, map, map-append}
use lib.Ieee.{Float}
use lib.ListN.{length, drop}
use Rattle.lists.specs.Every.{all}
use Rattle.lists.specs.Rows.{over, keys}
use Rattle.lists.specs.Select.{keep, any, has}
use Rattle.lists.proofs.Rows.{mapped-reads}
use Rattle.lists.proofs.Select.{any-map, any-keep, all_map, keep-map, keep_same, map-twice}
use Rattle.entities.specs.Records.{Lane, Boundary}
use Rattle.rules.specs.Names.{Point2}
use Rattle.rules.specs.Map.{uses, station}
use Rattle.rules.specs.Split.{Piece, piece_at, piece_of, piece_ids, pieces, pieces_ids, group_of}
use Rattle.tables.specs.View.{Tables, word, rows, lane_of, boundary_of, view}
use Rattle.lookup.specs.Lookup.{place_of, row_uses}
use Rattle.split_plan.specs.Placing.{picked, group_marks, marked_rows}
use Rattle.split_pieces.specs.Pieces.{boundary_keys, cut_marks, cut_keys, used_beyond, ids_if, ids_for, ids_of, piece_row, piece_rows}
use Rattle.split_pieces.specs.Pieces as Q
use Rattle.split_laws.proofs.Chosen.{picked-told, lanes-rows, marks-told, lanes-chosen}
use Rattle.split_laws.proofs.Whole.{cutting}

-- the ids of a piece, as its row has them
abbrev pub ids_in : Piece → List ℕ
ids_in x = x.of.id ∷ x.first ∷ x.second ∷ []

-- ---- one boundary, whether or not a line crosses the cut

at-ids : (b : Boundary) (alone : Bool) (i j : ℕ) (s : Option Float) → ids_in (piece_at b alone i j s) ≡ b.id ∷ i ∷ j ∷ []
at-ids b alone i j None = refl
at-ids b alone i j (Some s) = refl

at-many : (b : Boundary) (alone : Bool) (i j : ℕ) (s : Option Float) → piece_ids (piece_at b alone i j s) ≡ cond alone 1 2
at-many b alone i j None = refl
at-many b alone i j (Some s) = refl

row_by : (beyond : Bool) (next k : ℕ) → ◌≡◌ {A = List ℕ} (k ∷ cond (not beyond) k next ∷ cond (not beyond) next (suc next) ∷ []) (piece_row beyond next k)
row_by true next k = refl
row_by false next k = refl

many_by : (beyond : Bool) → cond (not beyond) 1 2 ≡ ids_if beyond
many_by true = refl
many_by false = refl

-- ---- all of them

module _ (group : List ℕ) (ls : List Lane) (p : Point2) (seen : List Bool) (t : List ℕ)
    (h : (k : ℕ) → all (λ l. not (uses k l) || has l.id group) ls ≡ not (used_beyond seen t k)) where
  of_row : (next : ℕ) (b : Boundary) → ids_in (piece_of group ls p next b) ≡ piece_row (used_beyond seen t b.id) next b.id
  of_row next b =
      ap (λ (a : Bool). ids_in (piece_at b a (cond a b.id next) (cond a next (suc next)) (station b.geometry p))) (h b.id)
      ∙ at-ids b (not (used_beyond seen t b.id)) (cond (not (used_beyond seen t b.id)) b.id next) (cond (not (used_beyond seen t b.id)) next (suc next)) (station b.geometry p)
      ∙ row_by (used_beyond seen t b.id) next b.id

  of-many : (next : ℕ) (b : Boundary) → piece_ids (piece_of group ls p next b) ≡ ids_for seen t b.id
  of-many next b =
      ap (λ (a : Bool). piece_ids (piece_at b a (cond a b.id next) (cond a next (suc next)) (station b.geometry p))) (h b.id)
      ∙ at-many b (not (used_beyond seen t b.id)) (cond (not (used_beyond seen t b.id)) b.id next) (cond (not (used_beyond seen t b.id)) next (suc next)) (station b.geometry p)
      ∙ many_by (used_beyond seen t b.id)

  every_row : (next : ℕ) (bs : List Boundary) → map ids_in (pieces group ls p next bs) ≡ piece_rows seen t next (map (λ b. b.id) bs)
  unfolding pieces piece_rows
  every_row next [] = refl
  every_row next (b ∷ bs) =
      ap (λ (r : List ℕ). r ∷ map ids_in (pieces group ls p (next + piece_ids (piece_of group ls p next b)) bs)) (of_row next b)
      ∙ ap (λ (n : ℕ). piece_row (used_beyond seen t b.id) next b.id ∷ map ids_in (pieces group ls p (next + n) bs)) (of-many next b)
      ∙ ap (λ (rs : List (List ℕ)). piece_row (used_beyond seen t b.id) next b.id ∷ rs) (every_row (next + ids_for seen t b.id) bs)

  all-many : (next : ℕ) (bs : List Boundary) → pieces_ids (pieces group ls p next bs) ≡ ids_of seen t (map (λ b. b.id) bs)
  unfolding pieces pieces_ids ids_of
  all-many next [] = refl
  all-many next (b ∷ bs) =
      ap (λ (n : ℕ). n + pieces_ids (pieces group ls p (next + piece_ids (piece_of group ls p next b)) bs)) (of-many next b)
      ∙ ap (λ (n : ℕ). ids_for seen t b.id + n) (all-many (next + piece_ids (piece_of group ls p next b)) bs)

-- ---- whose a boundary is

-- every one passes where none fails
all-not : {A : Type 0} (p q : A → Bool) → ((x : A) → p x ≡ not (q x)) → (xs : List A) → all p xs ≡ not (any q xs)
unfolding all any
all-not p q h [] = refl
all-not p q h (x ∷ xs) = rw (h x, all-not p q h xs) (go (q x) (any q xs))
  where
    go : (a b : Bool) → (not a && not b) ≡ not (a || b)
    go true b = refl
    go false b = refl

used-not : (u g : Bool) → (not u || g) ≡ not (not g && u)
used-not true true = refl
used-not true false = refl
used-not false true = refl
used-not false false = refl

boundary-keys : (t : Tables) → boundary_keys t.boundaries ≡ map (λ b. b.id) (view t).boundaries
unfolding keys rows view boundary_of
boundary-keys t = sym (mapped-reads 5 (boundary_of t.coordinates) (λ (b : Boundary). b.id) (word 0 t.boundaries) (drop 1 t.boundaries))

-- ---- the group's marks, and the boundaries' marks, as they are written

module _ (t : Tables) (own i : ℕ) (ei : place_of 52 t.lanes own ≡ Some i) (neighbors : Bool) (seen₀ seen : List Bool) (es : seen ≡ over seen₀ 0 (group_marks t.lanes i neighbors)) where
  abbrev group : List ℕ
  group = group_of (view t) own neighbors

  abbrev lanes : List (List ℕ)
  lanes = rows 52 (λ w. w) t.lanes

  abbrev in_group : List ℕ → Bool
  in_group w = has (word 0 w) group

  abbrev chosen : List Lane
  chosen = keep (λ x. has x.id group) (view t).lanes

  -- the lanes that are not marked
  abbrev rest : List Bool
  rest = drop (0 + length (map in_group lanes)) seen₀

  seen-is : map not seen ≡ map (λ w. not (in_group w)) lanes ++ map not rest
  unfolding over
  seen-is =
      ap (map not) (es ∙ ap (over seen₀ 0) (marks-told t own i ei neighbors seen₀ seen es))
      ∙ map-append not (map in_group lanes) rest
      ∙ ap (λ (l : List Bool). l ++ map not rest) (map-twice in_group not lanes)

  beyond-is : (k : ℕ) → used_beyond seen t.lanes k ≡ any (λ w. not (in_group w) && row_uses k w) lanes
  beyond-is k =
      ap (λ (s : List Bool). any (row_uses k) (picked s lanes)) seen-is
      ∙ ap (any (row_uses k)) (picked-told (λ w. not (in_group w)) lanes (map not rest))
      ∙ any-keep (row_uses k) (λ w. not (in_group w)) lanes

  alone-is : (k : ℕ) → all (λ l. not (uses k l) || has l.id group) (view t).lanes ≡ not (used_beyond seen t.lanes k)
  unfolding lane_of
  alone-is k =
      ap (all (λ (l : Lane). not (uses k l) || has l.id group)) (lanes-rows t)
      ∙ all_map (λ (l : Lane). not (uses k l) || has l.id group) (lane_of t.coordinates) lanes
      ∙ all-not (λ w. not (row_uses k w) || in_group w) (λ w. not (in_group w) && row_uses k w) (λ w. used-not (row_uses k w) (in_group w)) lanes
      ∙ ap not (sym (beyond-is k))

  cut-is : (k : ℕ) → Q.cut_by seen t.lanes k ≡ any (uses k) chosen
  unfolding lane_of
  cut-is k = sym (ap (any (uses k)) (sym (lanes-chosen t own i ei neighbors seen₀ seen es)) ∙ any-map (uses k) (lane_of t.coordinates) (marked_rows seen t.lanes))

  module _ (marks₀ marks : List Bool) (em : marks ≡ over marks₀ 0 (cut_marks seen t.lanes t.boundaries)) where
    -- those that are cut
    pub keys-cut : cut_keys marks t.boundaries ≡ map (λ b. b.id) (cutting (view t) (keep (λ x. has x.id (group_of (view t) own neighbors)) (view t).lanes))
    unfolding over
    keys-cut =
        let ks = boundary_keys t.boundaries in
        ap (λ (s : List Bool). picked s ks) em
        ∙ picked-told (Q.cut_by seen t.lanes) ks (drop (0 + length (cut_marks seen t.lanes t.boundaries)) marks₀)
        ∙ keep_same (Q.cut_by seen t.lanes) (λ k. any (uses k) chosen) ks cut-is
        ∙ ap (keep (λ k. any (uses k) chosen)) (boundary-keys t)
        ∙ keep-map (λ k. any (uses k) chosen) (λ (b : Boundary). b.id) (view t).boundaries

    module _ (p : Point2) (next : ℕ) where
      -- "New ids: boundaries ascending, first piece before second"
      pub pieces-rows : map ids_in (pieces (group_of (view t) own neighbors) (view t).lanes p next (cutting (view t) (keep (λ x. has x.id (group_of (view t) own neighbors)) (view t).lanes)))
          ≡ piece_rows seen t.lanes next (cut_keys marks t.boundaries)
      pieces-rows = every_row group (view t).lanes p seen t.lanes alone-is next (cutting (view t) chosen) ∙ ap (piece_rows seen t.lanes next) (sym keys-cut)

      -- how many ids they take
      pub pieces-ids : pieces_ids (pieces (group_of (view t) own neighbors) (view t).lanes p next (cutting (view t) (keep (λ x. has x.id (group_of (view t) own neighbors)) (view t).lanes)))
          ≡ ids_of seen t.lanes (cut_keys marks t.boundaries)
      pieces-ids = all-many group (view t).lanes p seen t.lanes alone-is next (cutting (view t) chosen) ∙ ap (ids_of seen t.lanes) (sym keys-cut)
