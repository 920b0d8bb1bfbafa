-- The boundaries of the map after the cut, under the ids of the pieces, and a half's boundary along it. Assumes nothing.
use Rattle.std.specs.Prelude.{Option, None, Some}
use mathlib.Core.Path.{◌≡◌, refl, sym, ap, ◌∙◌}
use mathlib.Core.Bool.{Bool, true, false, not, ◌||◌, cond}
use mathlib.Core.List.{List, [], ◌∷◌, map}
use Prim.Native.Nat.{ℕ, suc, ◌+◌, ◌≤◌}
use native.Mathlib.Omega.{arith}
use lib.Dec.{eqb, ltb, leb}
use lib.Ieee.{Float}
use borrow.Author.Tests.{ne_eqb, eqb-true, ltb-true, leb-true}
use Rattle.lists.specs.Every.{all}
use Rattle.lists.specs.Select.{keep, any, find, each, has, ascending}
use Rattle.lists.proofs.Select.{all_map, keys-keep}
use Rattle.entities.specs.Records.{Lane, Boundary, Map}
use Rattle.rules.specs.Names.{BoundaryRef, Point2}
use Rattle.rules.specs.Map.{station, boundary, oriented, oriented_in, uses}
use Rattle.rules.specs.Split.{LanePlan, Piece, piece_of, piece_ids, pieces, pieces_ids, piece_for, cut_boundary, new_piece, new_pieces, first_ref, second_ref, halves, cut_map}
use Rattle.laws.proofs.Find.{or_else, find-append, find_none}
use Rattle.laws.proofs.Exact.{changed_by, found_map}
use Rattle.laws.proofs.Links.{found-passes}
use Rattle.laws.proofs.SplitLanes.{map-map}
use Rattle.laws.proofs.SplitPieces.{piece-ids, up-from, up-ascends}
use Rattle.laws.proofs.SplitTests.{drawn_by, drawn-id}
use Rattle.tables.specs.View.{rows, boundary_of}
use Rattle.lookup.specs.Lookup.{drawn}
use Rattle.split_lines.specs.Cut.{first_line_of, second_line_of}
use Rattle.split_half.specs.Half.{half_of, takes_second, along, half_side}
use Rattle.split_laws.proofs.Members.{In, here, there, all_in, in_found, found_in, in_kept, in_each}

-- ---- the pieces

module _ (group : List ℕ) (ls : List Lane) (p : Point2) where
  -- every boundary has a piece
  pub piece-of : (next : ℕ) (bs : List Boundary) (b : Boundary) → In b bs → (k : ℕ) × (In (piece_of group ls p k b) (pieces group ls p next bs))
  unfolding pieces
  piece-of next [] b x' = elim x' [ ]
  piece-of next (c ∷ bs) b here = (next, here)
  piece-of next (c ∷ bs) b (there i) = let (k, j) = piece-of (next + piece_ids (piece_of group ls p next c)) bs b i in (k, there j)

  module _ (k : ℕ) (b : Boundary) where
    abbrev alone : Bool
    alone = all (λ l. not (uses b.id l) || has l.id group) ls

    pub piece_is : piece_of group ls p k b
        ≡ record { of = b; alone = alone; first = cond alone b.id k; second = cond alone k (suc k); first_line = first_line_of p b.geometry; second_line = second_line_of p b.geometry }
    piece_is = go (station b.geometry p) refl
      where
        go : (o : Option Float) → station b.geometry p ≡ o → piece_of group ls p k b
            ≡ record { of = b; alone = alone; first = cond alone b.id k; second = cond alone k (suc k); first_line = first_line_of p b.geometry; second_line = second_line_of p b.geometry }
        go None e = rw e
        go (Some s) e = rw e

  pub pieces_of : (next : ℕ) (bs : List Boundary) → map (λ x. x.of) (pieces group ls p next bs) ≡ bs
  unfolding pieces
  pieces_of next [] = refl
  pieces_of next (b ∷ bs) =
      ap (λ c. c ∷ map (λ x. x.of) (pieces group ls p (next + piece_ids (piece_of group ls p next b)) bs)) (ap (λ x. x.of) (piece_is next b))
      ∙ ap (λ cs. b ∷ cs) (pieces_of (next + piece_ids (piece_of group ls p next b)) bs)

-- ---- the map after the cut

module _ (m : Map) (ps : List LanePlan) (group : List ℕ) (ls : List Lane) (p : Point2) (start : ℕ) where
  -- the boundaries that are cut, their pieces, the first new lane, and the map
  abbrev pub cutting : List Boundary
  cutting = keep (λ b. any (uses b.id) ls) m.boundaries

  abbrev pub parts : List Piece
  parts = pieces group m.lanes p start cutting

  abbrev pub next : ℕ
  next = start + pieces_ids parts

  abbrev pub after : Map
  after = cut_map m ps parts (halves next ps) next

  -- ids of boundaries ascend, and are below the first new one
  pub record Lines : Type 0 where
    pub up : ascending (map (λ b. b.id) m.boundaries) ≡ true
    pub fresh : all (λ i. ltb i start) (map (λ b. b.id) m.boundaries) ≡ true

  module _ (h : Lines) where
    pieces_up : ascending (map (λ x. x.of.id) parts) ≡ true
    pieces_up = ap ascending (sym (map-map (λ b. b.id) (λ x. x.of) parts) ∙ ap (map (λ b. b.id)) (pieces_of group m.lanes p start cutting)) ∙ keys-keep (λ b. b.id) (λ b. any (uses b.id) ls) m.boundaries h.up

    new-up : ascending (map (λ b. b.id) (each new_pieces parts)) ≡ true
    new-up = ap ascending (piece-ids group m.lanes p start cutting) ∙ up-ascends start (pieces_ids parts)

    new-above : all (λ b. leb start b.id) (each new_pieces parts) ≡ true
    new-above = sym (all_map (leb start) (λ b. b.id) (each new_pieces parts)) ∙ (ap (all (leb start)) (piece-ids group m.lanes p start cutting) ∙ up-from start (pieces_ids parts) start (omega arith))

    found_after : (i : ℕ) → boundary after i ≡ or_else (changed_by (cut_boundary parts) (boundary m i)) (find (λ b. eqb b.id i) (each new_pieces parts))
    unfolding boundary cut_map
    found_after i =
        find-append (λ b. eqb b.id i) (map (cut_boundary parts) m.boundaries) (each new_pieces parts)
        ∙ ap (λ o. or_else o (find (λ b. eqb b.id i) (each new_pieces parts))) (found_map (λ b. b.id) (cut_boundary parts) (drawn-id parts) i m.boundaries)

    -- a new piece is found by its id
    new-found : (b : Boundary) → In b (each new_pieces parts) → boundary after b.id ≡ Some b
    new-found b i =
        let a : start ≤ b.id = leb-true start b.id (all_in (λ c. leb start c.id) (each new_pieces parts) b i new-above) in
        let z : boundary m b.id ≡ None =
        unfold boundary in find_none (λ c. eqb c.id b.id) (λ c. ltb c.id start) m.boundaries (sym (all_map (λ j. ltb j start) (λ c. c.id) m.boundaries) ∙ h.fresh)
        (λ c t. let u = ltb-true c.id start t in ne_eqb c.id b.id (λ q. omega arith)) in
        found_after b.id ∙ rw z (in_found (λ c. c.id) (each new_pieces parts) b new-up i)

    -- the piece of a boundary that a cut lane uses
    module _ (b : Boundary) (e : boundary m b.id ≡ Some b) (u : any (uses b.id) ls ≡ true) where
      abbrev Cut : ℕ → Type 0
      Cut k = In (piece_of group m.lanes p k b) parts

      piece_in : (k : ℕ) × (Cut k)
      piece_in = piece-of group m.lanes p start cutting b (in_kept (λ c. any (uses c.id) ls) m.boundaries b (unfold boundary in found_in (λ c. eqb c.id b.id) m.boundaries b e) u)

      pub record PieceOf (x : Piece) : Type 0 where
        pub found : piece_for parts b.id ≡ Some x
        pub first : boundary after x.first ≡ Some (new_piece b x.first (first_line_of p b.geometry))
        pub second : boundary after x.second ≡ Some (new_piece b x.second (second_line_of p b.geometry))

      abbrev made : ℕ → Bool → Piece
      made k a = record { of = b; alone = a; first = cond a b.id k; second = cond a k (suc k); first_line = first_line_of p b.geometry; second_line = second_line_of p b.geometry }

      boundary-after : (k : ℕ) → Cut k → PieceOf (piece_of group m.lanes p k b)
      boundary-after k i = rw (piece_is group m.lanes p k b) (go (alone group m.lanes p k b) (rw (piece_is group m.lanes p k b) at i))
        where
          go : (a : Bool) → In (made k a) parts → PieceOf (made k a)
          go true j =
              let f = in_found (λ x. x.of.id) parts (made k true) pieces_up j in
              record {
                found = f;
                first = found_after b.id ∙ rw e (ap (λ o. Some (drawn_by b o)) f);
                second = new-found (new_piece b k (second_line_of p b.geometry)) (in_each new_pieces parts (made k true) (new_piece b k (second_line_of p b.geometry)) j here);
              }
          go false j =
              record {
                found = in_found (λ x. x.of.id) parts (made k false) pieces_up j;
                first = new-found (new_piece b k (first_line_of p b.geometry)) (in_each new_pieces parts (made k false) (new_piece b k (first_line_of p b.geometry)) j here);
                second = new-found (new_piece b (suc k) (second_line_of p b.geometry)) (in_each new_pieces parts (made k false) (new_piece b (suc k) (second_line_of p b.geometry)) j (there here));
              }

      pub piece-after : (x : Piece) × (PieceOf x)
      piece-after = let (k, i) = piece_in in (piece_of group m.lanes p k b, boundary-after k i)

    -- ---- a half's boundary along it

    module _ (c : List Float) (boundaries : List ℕ) (same : m.boundaries ≡ rows 5 (boundary_of c) boundaries) (r : BoundaryRef) (b : Boundary) (e : boundary m r.boundary ≡ Some b) (u : any (uses r.boundary) ls ≡ true) where
      its : b.id ≡ r.boundary
      unfolding boundary
      its = eqb-true b.id r.boundary (found-passes (λ c. eqb c.id r.boundary) m.boundaries b e)

      old : boundary (drawn c boundaries) r.boundary ≡ Some b
      unfolding boundary
      old = ap (find (λ c. eqb c.id r.boundary)) (sym same) ∙ e

      abbrev Sided : (List Piece → BoundaryRef → BoundaryRef) → Bool → Type 0
      Sided ref second = oriented_in (ref parts r) (boundary after (ref parts r).boundary) ≡ half_side c boundaries p second r

      own : boundary m b.id ≡ Some b
      own = ap (boundary m) its ∙ e

      used : any (uses b.id) ls ≡ true
      used = ap (λ i. any (uses i) ls) its ∙ u

      sides : (x : Piece) → PieceOf b own used x → (Sided first_ref false) × (Sided second_ref true)
      unfolding oriented
      sides x h =
          let f : piece_for parts r.boundary ≡ Some x = rw its at h.found in
          let whole : (ref : Option Piece → BoundaryRef) (second : Bool)
          → oriented_in (ref (Some x)) (boundary after (ref (Some x)).boundary) ≡ Some (along r.reversed (half_of (takes_second second r.reversed) p b.geometry))
          → oriented_in (ref (piece_for parts r.boundary)) (boundary after (ref (piece_for parts r.boundary)).boundary) ≡ half_side c boundaries p second r =
          λ ref second q.
          ap (λ o. oriented_in (ref o) (boundary after (ref o).boundary)) f
          ∙ (q ∙ sym (ap (λ (o : Option Boundary). elim o [ None ↦ None | Some b ↦ Some (along r.reversed (half_of (takes_second second r.reversed) p b.geometry)) ]) old)) in (
            whole (λ (o : Option Piece). elim o [ None ↦ r | Some x ↦ record { boundary = cond r.reversed x.second x.first; reversed = r.reversed } ]) false (one r.reversed),
            whole (λ (o : Option Piece). elim o [ None ↦ r | Some x ↦ record { boundary = cond r.reversed x.first x.second; reversed = r.reversed } ]) true (two r.reversed),
          )
        where
          one : (v : Bool) → oriented_in (record { boundary = cond v x.second x.first; reversed = v }) (boundary after (cond v x.second x.first)) ≡ Some (along v (half_of (takes_second false v) p b.geometry))
          one true = rw h.second
          one false = rw h.first

          two : (v : Bool) → oriented_in (record { boundary = cond v x.first x.second; reversed = v }) (boundary after (cond v x.first x.second)) ≡ Some (along v (half_of (takes_second true v) p b.geometry))
          two true = rw h.first
          two false = rw h.second

      pub side_after : (Sided first_ref false) × (Sided second_ref true)
      side_after = let (x, h) = piece-after b own used in sides x h
