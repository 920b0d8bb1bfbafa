-- split_lane: a test of every lane and of every boundary of the cut map. Assumes nothing.
use Rattle.std.specs.Prelude.{Option, None, Some}
use mathlib.Core.Path.{◌≡◌, refl, sym, ap, ◌∙◌}
use mathlib.Core.Bool.{Bool, true, false, ◌&&◌, cond}
use mathlib.Core.List.{List, [], ◌∷◌, ◌++◌, map}
use Prim.Native.Nat.{ℕ}
use lib.Dec.{eqb}
use Rattle.lists.specs.Every.{all}
use Rattle.lists.specs.Select.{each}
use Rattle.lists.proofs.Booleans.{and_both, and-fst, and-snd}
use Rattle.lists.proofs.Every.{all_append, all_split}
use Rattle.lists.proofs.Select.{all_map, all-each, all_keep, all-weaken}
use Rattle.entities.specs.Records.{Lane, Boundary, Map}
use Rattle.rules.specs.Merge.{redrawn}
use Rattle.rules.specs.Split.{LanePlan, Piece, halves, cut_lane, uncut, first_half, second_half, second_halves, piece_for, cut_boundary, new_piece, new_pieces}
use Rattle.laws.proofs.Part.{Gives}
use Rattle.laws.proofs.Connect.{found_all}
use Rattle.laws.proofs.Find.{numbered, numbered-list}
use Rattle.laws.proofs.SplitLanes.{Numbered, first_id, seconds-numbered, Cutting, found_by_first, cut_lanes, cut_by, cut-is}

infixr 20 ◌&then◌
-- ---- general

-- a test of every element goes over from one list to another
pub record Carries {A : Type 0} (p : A → Bool) (xs ys : List A) : Type 0 where
  pub over : all p xs ≡ true → all p ys ≡ true

pub carries_same : {A : Type 0} (p : A → Bool) (xs : List A) → Carries p xs xs
carries_same p xs = record { over = λ t. t }

pub ◌&then◌ : {A : Type 0} {p : A → Bool} {xs ys vs us : List A} → Carries p xs ys → Carries p vs us → Carries p (xs ++ vs) (ys ++ us)
◌&then◌ {A} {p} {xs} {ys} {vs} {us} f g =
    record {
      over =
          λ t.
          let u = sym (all_split p xs vs) ∙ t in
          all_append p ys us (f.over (and-fst (all p xs) (all p vs) u)) (g.over (and-snd (all p xs) (all p vs) u));
    }

-- a test of each element's list, after a change
pub carries_each : {A B : Type 0} (p : B → Bool) (g : A → List B) (f : A → A) → ((x : A) → all p (g x) ≡ true → all p (g (f x)) ≡ true) → (xs : List A)
    → Carries p (each g xs) (each g (map f xs))
carries_each p g f h xs =
    record { over = λ t. all-each p g (map f xs) ∙ (all_map (λ x. all p (g x)) f xs ∙ all-weaken (λ x. all p (g x)) (λ x. all p (g (f x))) xs h (sym (all-each p g xs) ∙ t)) }

-- two tests at once
pub all_both : {A : Type 0} (p q : A → Bool) (xs : List A) → all p xs ≡ true → all q xs ≡ true → all (λ x. p x && q x) xs ≡ true
unfolding all
all_both p q [] a b = refl
all_both p q (x ∷ xs) a b =
    and_both (p x && q x) (all (λ y. p y && q y) xs) (and_both (p x) (q x) (and-fst (p x) (all p xs) a) (and-fst (q x) (all q xs) b))
    (all_both p q xs (and-snd (p x) (all p xs) a) (and-snd (q x) (all q xs) b))

-- ---- lanes

module _ (m : Map) (ps : List LanePlan) (next : ℕ) (c : Cutting m ps next) where
  -- a test of the map's lanes holds of those that are cut
  pub plans-all : (q : Lane → Bool) → all q m.lanes ≡ true → all (λ (z : Numbered). q z.1.of) (numbered next ps) ≡ true
  plans-all q h =
      sym (all_map (λ (x : LanePlan). q x.of) (λ (z : Numbered). z.1) (numbered next ps))
      ∙ (ap (all (λ (x : LanePlan). q x.of)) (numbered-list next ps)
      ∙ (sym (all_map q (λ (x : LanePlan). x.of) ps) ∙ (ap (all q) c.choice.planned ∙ all_keep q c.choice.chosen m.lanes h)))

  -- a test of the plans
  pub numbered-all : (q : LanePlan → Bool) → all q ps ≡ true → all (λ (z : Numbered). q z.1) (numbered next ps) ≡ true
  numbered-all q h = sym (all_map q (λ (z : Numbered). z.1) (numbered next ps)) ∙ (ap (all q) (numbered-list next ps) ∙ h)

  pub lanes-test : (xs : List Piece) (q : Lane → Bool) → all (λ l. q (uncut (halves next ps) l)) m.lanes ≡ true
      → all (λ (z : Numbered). q (first_half xs (halves next ps) z.0 z.1)) (numbered next ps) ≡ true
      → all (λ (z : Numbered). q (second_half xs (halves next ps) z.0 z.1)) (numbered next ps) ≡ true → all q (cut_lanes m ps xs next) ≡ true
  lanes-test xs q a b d =
      all_append q (map (cut_lane ps xs (halves next ps)) m.lanes) (second_halves xs (halves next ps) next ps)
      (all_map q (cut_lane ps xs (halves next ps)) m.lanes
      ∙ all-weaken (λ l. q (uncut (halves next ps) l)) (λ l. q (cut_lane ps xs (halves next ps) l)) m.lanes
      (λ l t. ap q (cut-is m ps next c.choice xs l) ∙ go l t (found_by_first ps next l.id) refl) a)
      (ap (all q) (seconds-numbered xs (halves next ps) next ps) ∙ (all_map q (λ (z : Numbered). second_half xs (halves next ps) z.0 z.1) (numbered next ps) ∙ d))
    where
      go : (l : Lane) → q (uncut (halves next ps) l) ≡ true → (o : Option Numbered) → found_by_first ps next l.id ≡ o → q (cut_by xs (halves next ps) o l) ≡ true
      go l t None e = t
      go l t (Some z) e =
          found_all (λ w. eqb (first_id w) l.id) (λ (w : Numbered). q (first_half xs (halves next ps) w.0 w.1)) (numbered next ps) z e b

  -- a test that the halves take over from their lane
  pub lanes-copy : (xs : List Piece) (q : Lane → Bool) → ((l : Lane) → q l ≡ true → q (uncut (halves next ps) l) ≡ true)
      → ((j : ℕ) (x : LanePlan) → q x.of ≡ true → q (first_half xs (halves next ps) j x) ≡ true)
      → ((j : ℕ) (x : LanePlan) → q x.of ≡ true → q (second_half xs (halves next ps) j x) ≡ true) → Gives (all q m.lanes) (all q (cut_lanes m ps xs next))
  lanes-copy xs q u f s =
      record {
        so =
            λ h.
            lanes-test xs q (all-weaken q (λ l. q (uncut (halves next ps) l)) m.lanes u h)
            (all-weaken (λ z. q z.1.of) (λ z. q (first_half xs (halves next ps) z.0 z.1)) (numbered next ps) (λ z. f z.0 z.1) (plans-all q h))
            (all-weaken (λ z. q z.1.of) (λ z. q (second_half xs (halves next ps) z.0 z.1)) (numbered next ps) (λ z. s z.0 z.1) (plans-all q h));
      }

-- ---- boundaries

abbrev pub cut_boundaries : Map → List Piece → List Boundary
cut_boundaries m xs = map (cut_boundary xs) m.boundaries ++ each new_pieces xs

abbrev pub drawn_by : Boundary → Option Piece → Boundary
drawn_by b o = elim o [ None ↦ b | Some x ↦ cond x.alone (redrawn x.first_line b) b ]

pub drawn-id : (xs : List Piece) (b : Boundary) → (cut_boundary xs b).id ≡ b.id
drawn-id xs b = go (piece_for xs b.id)
  where
    which : (t : Bool) (x : Piece) → (cond t (redrawn x.first_line b) b).id ≡ b.id
    which true x = refl
    which false x = refl

    go : (o : Option Piece) → (drawn_by b o).id ≡ b.id
    go None = refl
    go (Some x) = which x.alone x

pub boundaries-test : (m : Map) (xs : List Piece) (t q : Boundary → Bool) (u : Piece → Bool) → ((b : Boundary) → t b ≡ true → q b ≡ true)
    → ((b : Boundary) (x : Piece) → t b ≡ true → u x ≡ true → q (redrawn x.first_line b) ≡ true)
    → ((x : Piece) → u x ≡ true → q (new_piece x.of x.first x.first_line) ≡ true)
    → ((x : Piece) → u x ≡ true → q (new_piece x.of x.second x.second_line) ≡ true)
    → all t m.boundaries ≡ true → all u xs ≡ true → all q (cut_boundaries m xs) ≡ true
boundaries-test m xs t q u still redraw one two a b =
    all_append q (map (cut_boundary xs) m.boundaries) (each new_pieces xs)
    (all_map q (cut_boundary xs) m.boundaries ∙ all-weaken t (λ b. q (cut_boundary xs b)) m.boundaries (λ b h. old b h (piece_for xs b.id) refl) a)
    (all-each q new_pieces xs ∙ all-weaken u (λ x. all q (new_pieces x)) xs (λ x h. new x h x.alone) b)
  where
    which : (b : Boundary) → t b ≡ true → (x : Piece) → u x ≡ true → (k : Bool) → q (cond k (redrawn x.first_line b) b) ≡ true
    which b h x k true = redraw b x h k
    which b h x k false = still b h

    old : (b : Boundary) → t b ≡ true → (o : Option Piece) → piece_for xs b.id ≡ o → q (drawn_by b o) ≡ true
    old b' h None e = still b' h
    old b' h (Some x) e = which b' h x (found_all (λ y. eqb y.of.id b'.id) u xs x e b) x.alone

    last : (x : Piece) → u x ≡ true → all q (new_piece x.of x.second x.second_line ∷ []) ≡ true
    last x h = unfold all in and_both (q (new_piece x.of x.second x.second_line)) true (two x h) refl

    new : (x : Piece) → u x ≡ true → (k : Bool)
        → all q (cond k [] (new_piece x.of x.first x.first_line ∷ []) ++ (new_piece x.of x.second x.second_line ∷ [])) ≡ true
    new x h true = last x h
    new x h false =
        all_append q (new_piece x.of x.first x.first_line ∷ []) (new_piece x.of x.second x.second_line ∷ [])
        (unfold all in and_both (q (new_piece x.of x.first x.first_line)) true (one x h) refl) (last x h)
