-- split_lane: which lane the cut map has under an id: a lane that is not cut, a first half under its lane's id, a second half under a new id. Assumes nothing.
use Rattle.std.specs.Prelude.{Option, None, Some}
use mathlib.Core.Path.{◌≡◌, refl, sym, ap, ◌∙◌}
use mathlib.Core.Bool.{Bool, true}
use mathlib.Core.List.{List, [], ◌∷◌, ◌++◌, map}
use Prim.Native.Nat.{ℕ, suc, ◌≤◌}
use native.Mathlib.Omega.{arith}
use lib.Dec.{eqb, ltb, leb}
use borrow.Author.Tests.{eqb-true, eq-eqb, ne_eqb, ltb-true, leb-true}
use Rattle.lists.specs.Every.{all}
use Rattle.lists.specs.Select.{keep, find, ascending, second_of}
use Rattle.lists.proofs.Select.{all_map, keys-keep}
use Rattle.entities.specs.Records.{Lane, Map}
use Rattle.rules.specs.Map.{lane, lane_ids}
use Rattle.rules.specs.Split.{LanePlan, Piece, halves, plan_for, cut_lane, uncut, first_half, second_half, second_halves}
use Rattle.laws.proofs.Links.{found-passes, found-any}
use Rattle.laws.proofs.Exact.{found_map, changed_by, has_key}
use Rattle.laws.proofs.Connect.{found_all}
use Rattle.laws.proofs.KeptRows.{kept_row}
use Rattle.laws.proofs.Find.{mapped, or_else, no-some, find-mapped, find-append, find_none, found-by, numbered, numbered-list, numbered-from, numbered-up}

-- ---- general

pub map-map : {A B C : Type 0} (g : B → C) (f : A → B) (xs : List A) → map g (map f xs) ≡ map (λ x. g (f x)) xs
map-map g f [] = refl
map-map g f (x ∷ xs) = ap (λ ys. g (f x) ∷ ys) (map-map g f xs)

-- ---- a plan with the id of its second half

abbrev pub Numbered : Type 0
Numbered = ℕ × LanePlan

abbrev pub first_id : Numbered → ℕ
first_id z = z.1.of.id

abbrev pub second_id : Numbered → ℕ
second_id z = z.0

abbrev pub half_pair : Numbered → ℕ × ℕ
half_pair z = (first_id z, second_id z)

pub halves-numbered : (next : ℕ) (ps : List LanePlan) → halves next ps ≡ map half_pair (numbered next ps)
unfolding halves numbered
halves-numbered next [] = refl
halves-numbered next (x ∷ ps) = ap (λ hs. (x.of.id, next) ∷ hs) (halves-numbered (suc next) ps)

pub seconds-numbered : (xs : List Piece) (hs : List (ℕ × ℕ)) (next : ℕ) (ps : List LanePlan)
    → second_halves xs hs next ps ≡ map (λ z. second_half xs hs z.0 z.1) (numbered next ps)
unfolding second_halves numbered
seconds-numbered xs hs next [] = refl
seconds-numbered xs hs next (x ∷ ps) = ap (λ ls. second_half xs hs next x ∷ ls) (seconds-numbered xs hs (suc next) ps)

-- the lanes that are cut are lanes of the map, in its order
pub record Chosen (m : Map) (ps : List LanePlan) : Type 0 where
  pub up : ascending (lane_ids m) ≡ true
  pub chosen : Lane → Bool
  pub planned : map (λ x. x.of) ps ≡ keep chosen m.lanes

-- and the ids of the second halves are new
pub record Cutting (m : Map) (ps : List LanePlan) (next : ℕ) : Type 0 where
  pub choice : Chosen m ps
  pub fresh : all (λ i. ltb i next) (lane_ids m) ≡ true

abbrev pub found_by_first : List LanePlan → ℕ → ℕ → Option Numbered
found_by_first ps next x = find (λ z. eqb (first_id z) x) (numbered next ps)

abbrev pub by_second : List LanePlan → ℕ → ℕ → Option Numbered
by_second ps next x = find (λ z. eqb (second_id z) x) (numbered next ps)

-- the lanes of the cut map
abbrev pub cut_lanes : Map → List LanePlan → List Piece → ℕ → List Lane
cut_lanes m ps xs next = map (cut_lane ps xs (halves next ps)) m.lanes ++ second_halves xs (halves next ps) next ps

-- a lane of the map, as it is cut or not
abbrev pub cut_by : List Piece → List (ℕ × ℕ) → Option Numbered → Lane → Lane
cut_by xs hs None l = uncut hs l
cut_by xs hs (Some z) l = first_half xs hs z.0 z.1

-- as the definition says it, by the plan and the second half's id
abbrev halved_by : List Piece → List (ℕ × ℕ) → Lane → Option LanePlan → Option ℕ → Lane
halved_by xs hs l o q = elim o [ None ↦ uncut hs l | Some x ↦ elim q [ None ↦ uncut hs l | Some j ↦ first_half xs hs j x ] ]

module _ (m : Map) (ps : List LanePlan) (next : ℕ) where
  -- ---- look-ups among the pairs and among the plans

  pub second_is : (x : ℕ) → second_of (halves next ps) x ≡ mapped second_id (found_by_first ps next x)
  second_is x =
      ap (λ hs. second_of hs x) (halves-numbered next ps)
      ∙ (ap second_in (find-mapped (λ h. eqb h.0 x) half_pair (numbered next ps)) ∙ go (found_by_first ps next x))
    where
      second_in : Option (ℕ × ℕ) → Option ℕ
      second_in o = elim o [ None ↦ None | Some h ↦ Some h.1 ]

      go : (o : Option Numbered) → second_in (mapped half_pair o) ≡ mapped second_id o
      go None = refl
      go (Some z) = refl

  pub plan-is : (x : ℕ) → plan_for ps x ≡ mapped (λ z. z.1) (found_by_first ps next x)
  plan-is x = ap (λ qs. plan_for qs x) (sym (numbered-list next ps)) ∙ find-mapped (λ p. eqb p.of.id x) (λ (z : Numbered). z.1) (numbered next ps)

  module _ (c : Chosen m ps) where
    of-numbered : map (λ (z : Numbered). z.1.of) (numbered next ps) ≡ keep c.chosen m.lanes
    of-numbered = sym (map-map (λ p. p.of) (λ (z : Numbered). z.1) (numbered next ps)) ∙ (ap (λ qs. map (λ p. p.of) qs) (numbered-list next ps) ∙ c.planned)

    pub firsts-are : map first_id (numbered next ps) ≡ map (λ l. l.id) (keep c.chosen m.lanes)
    firsts-are = sym (map-map (λ l. l.id) (λ (z : Numbered). z.1.of) (numbered next ps)) ∙ ap (λ ls. map (λ l. l.id) ls) of-numbered

    pub firsts-up : ascending (map first_id (numbered next ps)) ≡ true
    firsts-up = ap ascending firsts-are ∙ keys-keep (λ l. l.id) c.chosen m.lanes c.up

    pub first-id : (x : ℕ) (z : Numbered) → found_by_first ps next x ≡ Some z → first_id z ≡ x
    first-id x z e = eqb-true (first_id z) x (found-passes (λ w. eqb (first_id w) x) (numbered next ps) z e)

    pub second-id : (x : ℕ) (z : Numbered) → by_second ps next x ≡ Some z → second_id z ≡ x
    second-id x z e = eqb-true (second_id z) x (found-passes (λ w. eqb (second_id w) x) (numbered next ps) z e)

    -- a lane that is cut is the map's
    pub first_lane : (x : ℕ) (z : Numbered) → found_by_first ps next x ≡ Some z → lane m x ≡ Some z.1.of
    unfolding lane
    first_lane x z e =
        let found : find (λ l. eqb l.id x) (keep c.chosen m.lanes) ≡ Some z.1.of =
        ap (find (λ l. eqb l.id x)) (sym of-numbered) ∙ (find-mapped (λ l. eqb l.id x) (λ (w : Numbered). w.1.of) (numbered next ps) ∙ ap (mapped (λ w. w.1.of)) e) in
        let there = has_key (λ l. l.id) x (keep c.chosen m.lanes)
        ∙ found-any (λ l. eqb l.id x) (keep c.chosen m.lanes) z.1.of found (λ l. eqb x l.id) (eq-eqb x z.1.of.id (sym (first-id x z e))) in
        kept_row (λ l. l.id) c.chosen x m.lanes c.up there ∙ found

    pub first-second : (x : ℕ) (z : Numbered) → found_by_first ps next x ≡ Some z → by_second ps next (second_id z) ≡ Some z
    first-second x z e = found-by second_id (λ w. eqb (first_id w) x) (numbered next ps) z (numbered-up next ps) e

    pub second-first : (x : ℕ) (z : Numbered) → by_second ps next x ≡ Some z → found_by_first ps next (first_id z) ≡ Some z
    second-first x z e = found-by first_id (λ w. eqb (second_id w) x) (numbered next ps) z firsts-up e

    -- an id of a second half is new
    pub second_above : (x : ℕ) (z : Numbered) → by_second ps next x ≡ Some z → next ≤ x
    second_above x z e =
        let u = leb-true next (second_id z) (found_all (λ w. eqb (second_id w) x) (λ w. leb next (second_id w)) (numbered next ps) z e (numbered-from next ps next (omega arith))) in
        let v = second-id x z e in
        omega arith

    -- ---- the lane under an id

    pub cut-is : (xs : List Piece) (l : Lane) → cut_lane ps xs (halves next ps) l ≡ cut_by xs (halves next ps) (found_by_first ps next l.id) l
    cut-is xs l =
        ap (λ o. halved_by xs (halves next ps) l o (second_of (halves next ps) l.id)) (plan-is l.id)
        ∙ (ap (halved_by xs (halves next ps) l (mapped (λ (z : Numbered). z.1) (found_by_first ps next l.id))) (second_is l.id) ∙ go (found_by_first ps next l.id))
      where
        go : (o : Option Numbered) → halved_by xs (halves next ps) l (mapped (λ (z : Numbered). z.1) o) (mapped second_id o) ≡ cut_by xs (halves next ps) o l
        go None = refl
        go (Some z) = refl

    pub cut-id : (xs : List Piece) (l : Lane) → (cut_lane ps xs (halves next ps) l).id ≡ l.id
    cut-id xs l = ap (λ k. k.id) (cut-is xs l) ∙ go (found_by_first ps next l.id) refl
      where
        go : (o : Option Numbered) → found_by_first ps next l.id ≡ o → (cut_by xs (halves next ps) o l).id ≡ l.id
        go None e = refl
        go (Some z) e = first-id l.id z e

    -- what the cut map has under x
    abbrev pub lane_at : List Piece → ℕ → Option Lane → Option Numbered → Option Numbered → Option Lane
    lane_at xs x was one two = or_else (mapped (cut_by xs (halves next ps) one) was) (mapped (λ z. second_half xs (halves next ps) z.0 z.1) two)

    pub lane-at : (xs : List Piece) (x : ℕ) → find (λ l. eqb l.id x) (cut_lanes m ps xs next) ≡ lane_at xs x (lane m x) (found_by_first ps next x) (by_second ps next x)
    unfolding lane
    lane-at xs x =
        find-append (λ l. eqb l.id x) (map (cut_lane ps xs (halves next ps)) m.lanes) (second_halves xs (halves next ps) next ps)
        ∙ (ap (λ o. or_else o (find (λ l. eqb l.id x) (second_halves xs (halves next ps) next ps)))
        (found_map (λ l. l.id) (cut_lane ps xs (halves next ps)) (cut-id xs) x m.lanes ∙ at-found (lane m x) refl)
        ∙ ap (λ o. or_else (mapped (cut_by xs (halves next ps) (found_by_first ps next x)) (lane m x)) o)
        (ap (find (λ l. eqb l.id x)) (seconds-numbered xs (halves next ps) next ps)
        ∙ find-mapped (λ l. eqb l.id x) (λ (z : Numbered). second_half xs (halves next ps) z.0 z.1) (numbered next ps)))
      where
        at-found : (o : Option Lane) → find (λ l. eqb l.id x) m.lanes ≡ o
            → changed_by (cut_lane ps xs (halves next ps)) o ≡ mapped (cut_by xs (halves next ps) (found_by_first ps next x)) o
        at-found None e = refl
        at-found (Some l) e =
            ap Some
            (cut-is xs l
            ∙ ap (λ i. cut_by xs (halves next ps) (found_by_first ps next i) l) (eqb-true l.id x (found-passes (λ k. eqb k.id x) m.lanes l e)))

  -- ---- new ids

  module _ (c : Cutting m ps next) where
    pub absent-from : (x : ℕ) → next ≤ x → lane m x ≡ None
    unfolding lane
    absent-from x h =
        find_none (λ l. eqb l.id x) (λ l. ltb l.id next) m.lanes (sym (all_map (λ i. ltb i next) (λ l. l.id) m.lanes) ∙ c.fresh)
        (λ l t. let u = ltb-true l.id next t in ne_eqb l.id x (λ q. omega arith))

    pub second-new : (x : ℕ) (z : Numbered) → by_second ps next x ≡ Some z → lane m x ≡ None
    second-new x z e = absent-from x (second_above c.choice x z e)

    -- a lane that is present is no second half
    pub old-no-second : (x : ℕ) (l : Lane) → lane m x ≡ Some l → by_second ps next x ≡ None
    old-no-second x l e = go (by_second ps next x) refl
      where
        go : (o : Option Numbered) → by_second ps next x ≡ o → o ≡ None
        go None q = refl
        go (Some z) q = absurd (no-some l (sym (second-new x z q) ∙ e))
