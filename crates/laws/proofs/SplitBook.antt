-- split_lane: the pairs of halves by look-up, and the link book's entry, which the successors of the cut map are, new ids or not. Assumes nothing.
use Rattle.std.specs.Prelude.{Option, None, Some}
use mathlib.Core.Path.{◌≡◌, refl, sym, ap, ◌∙◌}
use mathlib.Core.Bool.{Bool, true, false, not, ◌&&◌, ◌||◌}
use mathlib.Core.List.{List, [], ◌∷◌, map}
use Prim.Native.Nat.{ℕ}
use lib.Dec.{eqb}
use borrow.Author.Tests.{eqb-true}
use Rattle.lists.specs.Select.{keep, any, has}
use Rattle.lists.proofs.Select.{any_append, any-map, any_same, any-one, on_found, has-append, has-keep}
use Rattle.lists.proofs.Booleans.{and-false, or-false}
use Rattle.entities.specs.Records.{Lane, Map}
use Rattle.rules.specs.Map.{lane, leads_to}
use Rattle.rules.specs.Split.{LanePlan, Piece, halves, cut_lane, second_half, second_halves, came_from}
use Rattle.rules.specs.Book.{Book, is_pair, book_split}
use Rattle.rules.proofs.Relations.{leads-found}
use Rattle.laws.proofs.Links.{eqb_swap, and-swap, found-passes}
use Rattle.laws.proofs.Exact.{has_key, has_kept}
use Rattle.laws.proofs.Find.{no-some, numbered, numbered-up}
use Rattle.laws.proofs.SplitLanes.{Numbered, first_id, second_id, half_pair, halves-numbered, seconds-numbered, Chosen, found_by_first, by_second, cut_lanes, cut_by, firsts-up, first_lane, second-first, cut-is, cut-id}

-- ---- general

pub and-true : (b : Bool) → (b && true) ≡ b
and-true true = refl
and-true false = refl

pub or_swap : (a b : Bool) → (a || b) ≡ (b || a)
or_swap true true = refl
or_swap true false = refl
or_swap false true = refl
or_swap false false = refl

pub has_one : (x y : ℕ) → has x (y ∷ []) ≡ eqb x y
unfolding has
has_one x y = or-false (eqb x y)

module _ (m : Map) (ps : List LanePlan) (next : ℕ) (c : Chosen m ps) where
  -- ---- the pairs of halves by look-up

  abbrev pub is_cut : ℕ → Bool
  is_cut x = on_found (λ (z : Numbered). true) (found_by_first ps next x)

  any-halves : (p : ℕ × ℕ → Bool) → any p (halves next ps) ≡ any (λ z. p (half_pair z)) (numbered next ps)
  any-halves p = ap (any p) (halves-numbered next ps) ∙ any-map p half_pair (numbered next ps)

  at_first : (x : ℕ) (q : Numbered → Bool) → any (λ z. eqb x (first_id z) && q z) (numbered next ps) ≡ on_found q (found_by_first ps next x)
  at_first x q =
      any_same (λ z. eqb x (first_id z) && q z) (λ z. eqb (first_id z) x && q z) (numbered next ps) (λ z. ap (λ t. t && q z) (eqb_swap x (first_id z)))
      ∙ any-one first_id x q (numbered next ps) (firsts-up m ps next c)

  at_second : (x : ℕ) (q : Numbered → Bool) → any (λ z. eqb x (second_id z) && q z) (numbered next ps) ≡ on_found q (by_second ps next x)
  at_second x q =
      any_same (λ z. eqb x (second_id z) && q z) (λ z. eqb (second_id z) x && q z) (numbered next ps) (λ z. ap (λ t. t && q z) (eqb_swap x (second_id z)))
      ∙ any-one second_id x q (numbered next ps) (numbered-up next ps)

  pub cut-first : (x : ℕ) → any (λ (h : ℕ × ℕ). eqb x h.0) (halves next ps) ≡ is_cut x
  cut-first x =
      any-halves (λ h. eqb x h.0)
      ∙ (any_same (λ z. eqb x (first_id z)) (λ z. eqb x (first_id z) && true) (numbered next ps) (λ z. sym (and-true (eqb x (first_id z)))) ∙ at_first x (λ z. true))

  -- the book's entry by look-up
  pub book-is : (k : Book) (x y : ℕ) → book_split (halves next ps) k x y
      ≡ (on_found (λ z. k (first_id z) y) (by_second ps next x) || on_found (λ z. eqb y (second_id z)) (found_by_first ps next x) || (k x y && not (is_cut x)))
  unfolding book_split
  book-is k x y =
      rw (
        any-halves (λ h. eqb x h.1 && k h.0 y),
        at_second x (λ z. k (first_id z) y),
        any-halves (λ h. is_pair h.0 h.1 x y),
        at_first x (λ z. eqb y (second_id z)),
        cut-first x,
      )

  -- a predecessor after the cut
  pub has-came : (x : ℕ) (ids : List ℕ) → has x (came_from (halves next ps) ids) ≡ (has x ids && not (is_cut x) || on_found (λ z. has (first_id z) ids) (by_second ps next x))
  unfolding came_from
  has-came x ids =
      has-append x (keep (λ i. not (has i (map (λ h. h.0) (halves next ps)))) ids) (map (λ h. h.1) (keep (λ h. has h.0 ids) (halves next ps)))
      ∙ (ap (λ t. t || has x (map (λ h. h.1) (keep (λ h. has h.0 ids) (halves next ps))))
      (has-keep x (λ i. not (has i (map (λ h. h.0) (halves next ps)))) ids ∙ ap (λ t. has x ids && not t) (has_key (λ h. h.0) x (halves next ps) ∙ cut-first x))
      ∙ ap (λ t. has x ids && not (is_cut x) || t)
      (has_kept (λ h. h.1) (λ h. has h.0 ids) x (halves next ps)
      ∙ (any-halves (λ h. has h.0 ids && eqb x h.1)
      ∙ (any_same (λ z. has (first_id z) ids && eqb x (second_id z)) (λ z. eqb x (second_id z) && has (first_id z) ids) (numbered next ps)
      (λ z. and-swap (has (first_id z) ids) (eqb x (second_id z)))
      ∙ at_second x (λ z. has (first_id z) ids)))))

  -- ---- successors

  leads-was : (x y : ℕ) (o : Option Lane) → lane m x ≡ o → leads_to m x y ≡ on_found (λ l. has y l.successors) o
  leads-was x y o e = leads-found m x y c.up ∙ ap (on_found (λ l. has y l.successors)) e

  -- of the lanes that were there
  old-leads : (xs : List Piece) (x y : ℕ) → any (λ l. eqb l.id x && has y l.successors) (map (cut_lane ps xs (halves next ps)) m.lanes)
      ≡ (on_found (λ z. eqb y (second_id z)) (found_by_first ps next x) || (leads_to m x y && not (is_cut x)))
  unfolding lane
  old-leads xs x y =
      any-map (λ l. eqb l.id x && has y l.successors) (cut_lane ps xs (halves next ps)) m.lanes
      ∙ (any_same (λ l. eqb (cut_lane ps xs (halves next ps) l).id x && has y (cut_lane ps xs (halves next ps) l).successors)
      (λ l. eqb l.id x && has y (cut_by xs (halves next ps) (found_by_first ps next l.id) l).successors) m.lanes
      (λ l.
      ap (λ i. eqb i x && has y (cut_lane ps xs (halves next ps) l).successors) (cut-id m ps next c xs l)
      ∙ ap (λ k. eqb l.id x && has y k.successors) (cut-is m ps next c xs l))
      ∙ (any-one (λ l. l.id) x (λ l. has y (cut_by xs (halves next ps) (found_by_first ps next l.id) l).successors) m.lanes c.up
      ∙ go (lane m x) (found_by_first ps next x) refl refl))
    where
      at-id : (l : Lane) → lane m x ≡ Some l → found_by_first ps next l.id ≡ found_by_first ps next x
      at-id l e = ap (found_by_first ps next) (eqb-true l.id x (found-passes (λ k. eqb k.id x) m.lanes l e))

      go : (o : Option Lane) (a : Option Numbered) → lane m x ≡ o → found_by_first ps next x ≡ a
          → on_found (λ l. has y (cut_by xs (halves next ps) (found_by_first ps next l.id) l).successors) o
          ≡ (on_found (λ z. eqb y (second_id z)) a || (leads_to m x y && not (on_found (λ (z : Numbered). true) a)))
      go (Some l) None eo ea =
          ap (λ k. has y (cut_by xs (halves next ps) k l).successors) (at-id l eo ∙ ea) ∙ sym (and-true (leads_to m x y) ∙ leads-was x y (Some l) eo)
      go (Some l) (Some z) eo ea =
          ap (λ k. has y (cut_by xs (halves next ps) k l).successors) (at-id l eo ∙ ea)
          ∙ (has_one y (second_id z) ∙ sym (ap (λ t. eqb y (second_id z) || t) (and-false (leads_to m x y)) ∙ or-false (eqb y (second_id z))))
      go None None eo ea = sym (and-true (leads_to m x y) ∙ leads-was x y None eo)
      go None (Some z) eo ea = absurd (no-some z.1.of (sym eo ∙ first_lane m ps next c x z ea))

  -- of the second halves
  new-leads : (xs : List Piece) (x y : ℕ) → any (λ l. eqb l.id x && has y l.successors) (second_halves xs (halves next ps) next ps)
      ≡ on_found (λ z. leads_to m (first_id z) y) (by_second ps next x)
  new-leads xs x y =
      ap (any (λ l. eqb l.id x && has y l.successors)) (seconds-numbered xs (halves next ps) next ps)
      ∙ (any-map (λ l. eqb l.id x && has y l.successors) (λ (z : Numbered). second_half xs (halves next ps) z.0 z.1) (numbered next ps)
      ∙ (any-one second_id x (λ z. has y z.1.of.successors) (numbered next ps) (numbered-up next ps) ∙ go (by_second ps next x) refl))
    where
      go : (o : Option Numbered) → by_second ps next x ≡ o → on_found (λ (z : Numbered). has y z.1.of.successors) o ≡ on_found (λ z. leads_to m (first_id z) y) o
      go None e = refl
      go (Some z) e = sym (leads-was (first_id z) y (Some z.1.of) (first_lane m ps next c (first_id z) z (second-first m ps next c x z e)))

  -- The successors of the cut map are the book's entry.
  pub split-leads : (xs : List Piece) (n : Map) → n.lanes ≡ cut_lanes m ps xs next → (x y : ℕ) → leads_to n x y ≡ book_split (halves next ps) (leads_to m) x y
  unfolding leads_to
  split-leads xs n same x y =
      ap (any (λ l. eqb l.id x && has y l.successors)) same
      ∙ (any_append (λ l. eqb l.id x && has y l.successors) (map (cut_lane ps xs (halves next ps)) m.lanes) (second_halves xs (halves next ps) next ps)
      ∙ (ap (λ t. t || any (λ l. eqb l.id x && has y l.successors) (second_halves xs (halves next ps) next ps)) (old-leads xs x y)
      ∙ (ap (λ t. on_found (λ z. eqb y (second_id z)) (found_by_first ps next x) || (leads_to m x y && not (is_cut x)) || t) (new-leads xs x y)
      ∙ (in_order (on_found (λ z. eqb y (second_id z)) (found_by_first ps next x)) (leads_to m x y && not (is_cut x)) (on_found (λ z. leads_to m (first_id z) y) (by_second ps next x))
      ∙ sym (book-is (leads_to m) x y)))))
    where
      in_order : (a b c : Bool) → ((a || b) || c) ≡ (c || a || b)
      in_order true true true = refl
      in_order true true false = refl
      in_order true false true = refl
      in_order true false false = refl
      in_order false true true = refl
      in_order false true false = refl
      in_order false false true = refl
      in_order false false false = refl
