-- split_lane: the pieces of the boundaries. Their new ids count up from the next one, their lines lie in reach, and each has its boundary's kind. Assumes nothing.
use Rattle.std.specs.Prelude.{Option, None, Some}
use mathlib.Core.Path.{◌≡◌, refl, sym, ap, ◌∙◌}
use mathlib.Core.Bool.{Bool, true, false, not, ◌&&◌, ◌||◌, cond}
use mathlib.Core.List.{List, [], ◌∷◌, ◌++◌, map}
use Prim.Native.Nat.{ℕ, zero, suc, ◌+◌, ◌≤◌}
use native.Mathlib.Omega.{arith}
use lib.Dec.{ltb, leb}
use lib.Ieee.{Float}
use borrow.Author.Tests.{leb-true, le-leb, lt-ltb}
use Rattle.lists.specs.Every.{all}
use Rattle.lists.specs.Select.{each, has, ascending}
use Rattle.lists.proofs.Booleans.{and_both, and-fst, and-snd}
use Rattle.lists.proofs.Select.{above_of, all-weaken}
use Rattle.geometry.specs.Point.{in_reach}
use Rattle.geometry.specs.declared.Point2.{Point2}
use Rattle.polyline.specs.Polyline.{first_piece, second_piece}
use Rattle.polyline.proofs.Reach.{first-piece-reach, second-piece-reach}
use Rattle.entities.specs.Records.{Lane, Boundary}
use Rattle.rules.specs.Map.{station, uses}
use Rattle.rules.specs.Edit.{up_from}
use Rattle.rules.specs.Split.{Piece, piece_at, piece_ids, pieces, pieces_ids, new_pieces}

-- ---- general: numbers counted up

pub up-from : (n k i : ℕ) → i ≤ n → all (leb i) (up_from n k) ≡ true
unfolding up_from all
up-from n zero i h = refl
up-from n (suc k) i h = and_both (leb i n) (all (leb i) (up_from (suc n) k)) (le-leb i n h) (up-from (suc n) k i (omega arith))

pub up-below : (n k i : ℕ) → n + k ≤ i → all (λ j. ltb j i) (up_from n k) ≡ true
unfolding up_from all
up-below n zero i h = refl
up-below n (suc k) i h = and_both (ltb n i) (all (λ j. ltb j i) (up_from (suc n) k)) (lt-ltb n i (omega arith)) (up-below (suc n) k i (omega arith))

pub up-ascends : (n k : ℕ) → ascending (up_from n k) ≡ true
unfolding up_from ascending
up-ascends n zero = refl
up-ascends n (suc k) =
    above_of n (up_from (suc n) k)
    (all-weaken (leb (suc n)) (ltb n) (up_from (suc n) k) (λ j t. let u = leb-true (suc n) j t in lt-ltb n j (omega arith)) (up-from (suc n) k (suc n) (omega arith)))
    (up-ascends (suc n) k)

-- ---- the pieces

module _ (group : List ℕ) (ls : List Lane) (p : Point2) where
  abbrev pub is_alone : Boundary → Bool
  is_alone b = all (λ l. not (uses b.id l) || has l.id group) ls

  -- the piece of a boundary, by whether it is the group's alone and where it is cut
  abbrev piece_by : Boundary → ℕ → Bool → Option Float → Piece
  piece_by b next alone s = piece_at b alone (cond alone b.id next) (cond alone next (suc next)) s

  -- The new ids count up.
  pub piece-ids : (next : ℕ) (bs : List Boundary) → map (λ b. b.id) (each new_pieces (pieces group ls p next bs)) ≡ up_from next (pieces_ids (pieces group ls p next bs))
  unfolding pieces pieces_ids each
  piece-ids next [] = unfold up_from in refl
  piece-ids next (b ∷ bs) = go (is_alone b) (station b.geometry p) (λ k. piece-ids k bs)
    where
      one : (k : ℕ) → map (λ b. b.id) (each new_pieces (pieces group ls p k bs)) ≡ up_from k (pieces_ids (pieces group ls p k bs)) → k ≡ next + 1
          → next ∷ map (λ b. b.id) (each new_pieces (pieces group ls p (next + 1) bs)) ≡ up_from next (1 + pieces_ids (pieces group ls p (next + 1) bs))
      one k r e =
          let a : k ≡ suc next = omega arith in
          let t : 1 + pieces_ids (pieces group ls p (next + 1) bs) ≡ suc (pieces_ids (pieces group ls p k bs)) =
          first_step (pieces_ids (pieces group ls p (next + 1) bs)) ∙ ap (λ i. suc (pieces_ids (pieces group ls p i bs))) (sym e) in
          ap (λ i. next ∷ map (λ b. b.id) (each new_pieces (pieces group ls p i bs))) (sym e)
          ∙ (ap (λ is. next ∷ is) (r ∙ ap (λ i. up_from i (pieces_ids (pieces group ls p k bs))) a) ∙ sym (ap (up_from next) t ∙ up_step next (pieces_ids (pieces group ls p k bs))))
        where
          first_step : (q : ℕ) → 1 + q ≡ suc q
          first_step q = omega arith

          up_step : (a q : ℕ) → up_from a (suc q) ≡ a ∷ up_from (suc a) q
          up_step a q = unfold up_from in refl

      two : (k : ℕ) → map (λ b. b.id) (each new_pieces (pieces group ls p k bs)) ≡ up_from k (pieces_ids (pieces group ls p k bs)) → k ≡ next + 2
          → next ∷ suc next ∷ map (λ b. b.id) (each new_pieces (pieces group ls p (next + 2) bs)) ≡ up_from next (2 + pieces_ids (pieces group ls p (next + 2) bs))
      two k r e =
          let a : k ≡ suc (suc next) = omega arith in
          let t : 2 + pieces_ids (pieces group ls p (next + 2) bs) ≡ suc (suc (pieces_ids (pieces group ls p k bs))) =
          first_step (pieces_ids (pieces group ls p (next + 2) bs)) ∙ ap (λ i. suc (suc (pieces_ids (pieces group ls p i bs)))) (sym e) in
          ap (λ i. next ∷ suc next ∷ map (λ b. b.id) (each new_pieces (pieces group ls p i bs))) (sym e)
          ∙ (ap (λ is. next ∷ suc next ∷ is) (r ∙ ap (λ i. up_from i (pieces_ids (pieces group ls p k bs))) a)
          ∙ sym (ap (up_from next) t ∙ up_step next (pieces_ids (pieces group ls p k bs))))
        where
          first_step : (q : ℕ) → 2 + q ≡ suc (suc q)
          first_step q = omega arith

          up_step : (a q : ℕ) → up_from a (suc (suc q)) ≡ a ∷ suc a ∷ up_from (suc (suc a)) q
          up_step a q = unfold up_from in refl

      go : (alone : Bool) (s : Option Float) → ((k : ℕ) → map (λ b. b.id) (each new_pieces (pieces group ls p k bs)) ≡ up_from k (pieces_ids (pieces group ls p k bs)))
          → map (λ b. b.id) (new_pieces (piece_by b next alone s) ++ each new_pieces (pieces group ls p (next + piece_ids (piece_by b next alone s)) bs))
          ≡ up_from next (piece_ids (piece_by b next alone s) + pieces_ids (pieces group ls p (next + piece_ids (piece_by b next alone s)) bs))
      go true None r = one (next + 1) (r (next + 1)) refl
      go true (Some s) r = one (next + 1) (r (next + 1)) refl
      go false None r = two (next + 2) (r (next + 2)) refl
      go false (Some s) r = two (next + 2) (r (next + 2)) refl

  -- A test of every piece, from a test of every boundary.
  pub pieces-all : (q : Piece → Bool) (t : Boundary → Bool) (low high : ℕ)
      → ((b : Boundary) (next : ℕ) (alone : Bool) (s : Option Float) → t b ≡ true → low ≤ next → next + cond alone 1 2 ≤ high → q (piece_by b next alone s) ≡ true)
      → (next : ℕ) (bs : List Boundary) → all t bs ≡ true → low ≤ next → next + pieces_ids (pieces group ls p next bs) ≤ high → all q (pieces group ls p next bs) ≡ true
  unfolding pieces pieces_ids all
  pieces-all q t low high h next [] a l k = refl
  pieces-all q t low high h next (b ∷ bs) a l k = go (is_alone b) (station b.geometry p) k (λ i. pieces-all q t low high h i bs (and-snd (t b) (all t bs) a))
    where
      alone_of : (alone : Bool) (s : Option Float) → piece_ids (piece_by b next alone s) ≡ cond alone 1 2
      alone_of alone None = refl
      alone_of alone (Some s) = refl

      go : (alone : Bool) (s : Option Float)
          → next + (piece_ids (piece_by b next alone s) + pieces_ids (pieces group ls p (next + piece_ids (piece_by b next alone s)) bs)) ≤ high
          → ((i : ℕ) → low ≤ i → i + pieces_ids (pieces group ls p i bs) ≤ high → all q (pieces group ls p i bs) ≡ true)
          → (q (piece_by b next alone s) && all q (pieces group ls p (next + piece_ids (piece_by b next alone s)) bs)) ≡ true
      go alone s w r =
          let e = alone_of alone s in
          and_both (q (piece_by b next alone s)) (all q (pieces group ls p (next + piece_ids (piece_by b next alone s)) bs))
          (h b next alone s (and-fst (t b) (all t bs) a) l (omega arith)) (r (next + piece_ids (piece_by b next alone s)) (omega arith) (omega arith))

  -- ids below the last one allocated
  pub pieces-below : (next top : ℕ) (bs : List Boundary) → all (λ b. ltb b.id top) bs ≡ true → next + pieces_ids (pieces group ls p next bs) ≤ top
      → all (λ x. ltb x.first top && ltb x.second top) (pieces group ls p next bs) ≡ true
  pieces-below next top bs a k =
      pieces-all (λ x. ltb x.first top && ltb x.second top) (λ b. ltb b.id top) 0 top (λ b i alone s t l w. go b i alone s t w) next bs a (omega arith) k
    where
      go : (b : Boundary) (i : ℕ) (alone : Bool) (s : Option Float) → ltb b.id top ≡ true → i + cond alone 1 2 ≤ top
          → (ltb (piece_by b i alone s).first top && ltb (piece_by b i alone s).second top) ≡ true
      go b i true None t w = and_both (ltb b.id top) (ltb i top) t (lt-ltb i top (omega arith))
      go b i true (Some s) t w = and_both (ltb b.id top) (ltb i top) t (lt-ltb i top (omega arith))
      go b i false None t w = and_both (ltb i top) (ltb (suc i) top) (lt-ltb i top (omega arith)) (lt-ltb (suc i) top (omega arith))
      go b i false (Some s) t w = and_both (ltb i top) (ltb (suc i) top) (lt-ltb i top (omega arith)) (lt-ltb (suc i) top (omega arith))

  -- lines in reach
  pub pieces-reach : (next : ℕ) (bs : List Boundary) → all (λ b. all in_reach b.geometry) bs ≡ true
      → all (λ x. all in_reach x.first_line && all in_reach x.second_line) (pieces group ls p next bs) ≡ true
  pieces-reach next bs a =
      pieces-all (λ x. all in_reach x.first_line && all in_reach x.second_line) (λ b. all in_reach b.geometry) 0 (next + pieces_ids (pieces group ls p next bs))
      (λ b i alone s t l w. go b i alone s t) next bs a (omega arith) (omega arith)
    where
      nil : all in_reach [] ≡ true
      nil = unfold all in refl

      go : (b : Boundary) (i : ℕ) (alone : Bool) (s : Option Float) → all in_reach b.geometry ≡ true
          → (all in_reach (piece_by b i alone s).first_line && all in_reach (piece_by b i alone s).second_line) ≡ true
      go b i alone None t = and_both (all in_reach []) (all in_reach []) nil nil
      go b i alone (Some s) t =
          and_both (all in_reach (first_piece b.geometry s)) (all in_reach (second_piece b.geometry s)) (first-piece-reach b.geometry s t)
          (second-piece-reach b.geometry s t)

  -- what a boundary has and its pieces copy
  pub pieces-copy : (t : Boundary → Bool) (next : ℕ) (bs : List Boundary) → all t bs ≡ true → all (λ x. t x.of) (pieces group ls p next bs) ≡ true
  pieces-copy t next bs a =
      pieces-all (λ x. t x.of) t 0 (next + pieces_ids (pieces group ls p next bs)) (λ b i alone s h l w. go b i alone s h) next bs a (omega arith) (omega arith)
    where
      go : (b : Boundary) (i : ℕ) (alone : Bool) (s : Option Float) → t b ≡ true → t (piece_by b i alone s).of ≡ true
      go b i alone None h = h
      go b i alone (Some s) h = h
