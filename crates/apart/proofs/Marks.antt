-- Laws of the marks on points: one point of a line after the other, one row after the other, one list of lines behind another.
-- Assumes nothing.
use mathlib.Core.Path.{◌≡◌, refl, sym, ap, ◌∙◌}
use mathlib.Core.Logic.{◌⊎◌, inl, inr, ⊎_elim}
use mathlib.Core.Bool.{Bool, true, false, not, ◌&&◌, ◌||◌, and_assoc, and-true}
use mathlib.Core.List.{List, [], ◌∷◌, ◌++◌}
use Prim.Native.Nat.{ℕ, zero, suc, ◌+◌, ◌-◌, ◌*◌, ◌≤◌, ◌<◌}
use native.Mathlib.Nat.{zero-mul}
use native.Mathlib.Numerals.{add-one}
use native.Mathlib.Omega.{arith}
use lib.Dec.{eqb, leb}
use lib.ListN.{length, get_or, set, take, drop, length-drop}
use lib.Seq.{get_or-take, get_or-drop, drop-drop, length-take-le}
use borrow.Author.Tests.{eqb-true, eq-eqb, ne_eqb, leb-true, le-leb}
use Rattle.lists.specs.Every.{all}
use Rattle.lists.specs.Rows.{reads, over}
use Rattle.lists.specs.Select.{each}
use Rattle.lists.proofs.Every.{all-step, all_end, all_head}
use Rattle.lists.proofs.Booleans.{and-fst, and-snd}
use Rattle.lists.proofs.Rows.{over-nil, length_over, store-behind, row_within}
use Rattle.tables.specs.View.{word, rows}
use Rattle.tables.specs.Formed.{Span, span_at, center_span, counted}
use Rattle.apart.specs.Marks.{trues, marked, unmarked, apart_by, marked_all, within, taken}

-- ---- Booleans

-- one of two tests holds
pub or_cases : (a b : Bool) → (a || b) ≡ true → (a ≡ true) ⊎ (b ≡ true)
or_cases true b h = inl refl
or_cases false b h = inr h

-- ---- n times true

pub length-trues : (n : ℕ) → length (trues n) ≡ n
length-trues zero = refl
length-trues (suc n) = ap suc (length-trues n)

trues-suc : (n : ℕ) → trues n ++ (true ∷ []) ≡ trues (suc n)
trues-suc zero = refl
trues-suc (suc n) = rw (trues-suc n)

pub trues-more : (n : ℕ) → trues n ++ (true ∷ []) ≡ trues (n + 1)
trues-more n = rw add-one (trues-suc n)

-- ---- a line point by point

-- the points of a line that lies among those marked
module _ (marks : List Bool) (start size i : ℕ) (h : start + size ≤ length marks) where
  line-length : length (take size (drop start marks)) ≡ size
  line-length = let l : size ≤ length (drop start marks) = rw length-drop (omega arith) in length-take-le size (drop start marks) l

  -- a walk over the points: one step, and the end
  pub points-step : i < size
      → all not (drop i (take size (drop start marks))) ≡ (not (get_or marks (start + i) false) && all not (drop (i + 1) (take size (drop start marks))))
  points-step l =
      let e : get_or (take size (drop start marks)) i false ≡ get_or marks (start + i) false = rw (get_or-take size (drop start marks) i false l, get_or-drop) in
      all-step not (take size (drop start marks)) i false (omega (arith, line-length)) ∙ rw e

  pub points-end : size ≤ i → all not (drop i (take size (drop start marks))) ≡ true
  points-end l = all_end not (take size (drop start marks)) i (omega (arith, line-length))

  -- one more point marked
  pub mark-more : i < size → set (over marks start (trues i)) (start + i) true ≡ over marks start (trues (i + 1))
  mark-more l =
      store-behind marks start (start + i) (trues i) true (rw (length-trues i)) (omega arith) ∙ rw (trues-more i)

-- ---- a line whole

-- a line among n points has none, or ends among them
pub within-cases : (n : ℕ) (s : Span) → within n s ≡ true → (s.size ≡ 0) ⊎ (s.start + s.size ≤ n)
within-cases n s h =
    ⊎_elim (λ e. inl (eqb-true s.size 0 e)) (λ l. inr (leb-true (s.start + s.size) n l)) (or_cases (eqb s.size 0) (leb (s.start + s.size) n) h)

-- a line with no point marks none
pub marked-none : (marks : List Bool) (s : Span) → s.size ≡ 0 → marked marks s ≡ marks
unfolding marked
marked-none marks s e = rw e (over-nil marks s.start)

pub length_marked : (marks : List Bool) (s : Span) → within (length marks) s ≡ true → length (marked marks s) ≡ length marks
length_marked marks s h = ⊎_elim (λ e. rw (marked-none marks s e)) inside (within-cases (length marks) s h)
  where
    inside : s.start + s.size ≤ length marks → length (marked marks s) ≡ length marks
    inside l = unfold marked in length_over marks s.start (trues s.size) (rw (length-trues s.size) l)

-- a line with points that lies among n ends among them
pub within_end : (n : ℕ) (s : Span) → within n s ≡ true → (s.size ≡ 0 → ⊥) → s.start + s.size ≤ n
within_end n s h z = ⊎_elim (λ e. absurd (z e)) (λ l. l) (within-cases n s h)

-- a line taken: it has no point, finds its points unmarked, or does not
pub take_none : (m : List Bool) (s : Span) → s.size ≡ 0 → (true ≡ unmarked m s) × (m ≡ taken m s)
take_none m s e =
    let u : unmarked m s ≡ true = unfold unmarked all in rw e in
    (sym u, rw (u, marked-none m s e))

pub take-free : (m x : List Bool) (s : Span) → unmarked m s ≡ true → x ≡ marked m s → (true ≡ unmarked m s) × (x ≡ taken m s)
take-free m x s u e = (sym u, rw u e)

pub take-used : (m : List Bool) (s : Span) → unmarked m s ≡ false → (false ≡ unmarked m s) × (m ≡ taken m s)
take-used m s u = (sym u, rw u)

-- the same of a list of no line, and of one
pub take_no : (m : List Bool) (l : List Span) → l ≡ [] → (true ≡ apart_by m l) × (true ≡ true → m ≡ marked_all m l)
unfolding apart_by marked_all
take_no m l e = (rw e, λ t. rw e)

pub take-one : (m x : List Bool) (s : Span) (l : List Span) (r : Bool) → l ≡ s ∷ [] → r ≡ unmarked m s → x ≡ taken m s
    → (r ≡ apart_by m l) × (r ≡ true → x ≡ marked_all m l)
unfolding apart_by marked_all
take-one m x s l r e p q = rw e (p ∙ sym (and-true (unmarked m s)), λ t. let u : unmarked m s ≡ true = sym p ∙ t in rw u at q)

pub one-fits : (f : Span → Bool) (s : Span) (l : List Span) → l ≡ s ∷ [] → all f l ≡ true → f s ≡ true
one-fits f s l e h = all_head f s [] (rw e at h)

-- ---- rows

-- a table's count and its rows lie in it
pub counted-facts : (most s : ℕ) (t : List ℕ) → counted most s t ≡ true → (1 ≤ length t) × ((word 0 t ≤ most) × (1 + word 0 t * s ≤ length t))
counted-facts most s t h =
    let a = leb 1 (length t) in
    let b = leb (word 0 t) most in
    let c = leb (1 + word 0 t * s) (length t) in
    (leb-true 1 (length t) (and-fst a b (and-fst (a && b) c h)), (leb-true (word 0 t) most (and-snd a b (and-fst (a && b) c h)), leb-true (1 + word 0 t * s) (length t) (and-snd (a && b) c h)))

pub counted-more : (a b s : ℕ) (t : List ℕ) → a ≤ b → counted a s t ≡ true → counted b s t ≡ true
counted-more a b s t l h =
    let f = counted-facts a s t h in
    let g : word 0 t ≤ b = omega arith in
    rw (le-leb 1 (length t) f.0, le-leb (word 0 t) b g, le-leb (1 + word 0 t * s) (length t) f.1.1)

-- row i lies in it
pub row_in : (most s i : ℕ) (t : List ℕ) → counted most s t ≡ true → i < word 0 t → 1 + i * s + s ≤ length t
row_in most s i t h l = let f = counted-facts most s t h in omega (arith, row_within i (word 0 t) s l)

pub rows_start : {B : Type 0} (s : ℕ) (dec : List ℕ → B) (t : List ℕ) → rows s dec t ≡ reads s dec (word 0 t - 0) (drop (0 * s) (drop 1 t))
unfolding rows
rows_start s dec t = let e : word 0 t - 0 ≡ word 0 t = omega arith in rw (zero-mul, e)

-- the rows from number i on: one, and the rest
pub reads-step : {A B : Type 0} (s : ℕ) (dec : List A → B) (n i : ℕ) (w : List A) → i < n
    → reads s dec (n - i) (drop (i * s) w) ≡ dec (take s (drop (i * s) w)) ∷ reads s dec (n - (i + 1)) (drop ((i + 1) * s) w)
unfolding reads
reads-step s dec n i w h =
    let e : n - i ≡ suc (n - (i + 1)) = omega arith in
    let f : i * s + s ≡ (i + 1) * s = omega arith in
    rw (e, drop-drop, f)

pub reads_end : {A B : Type 0} (s : ℕ) (dec : List A → B) (n i : ℕ) (w : List A) → n ≤ i → reads s dec (n - i) w ≡ []
unfolding reads
reads_end s dec n i w h = let e : n - i ≡ 0 = omega arith in rw e

-- row i's words k and k + 1 are a table's
pub span-at : (t : List ℕ) (row k i : ℕ) → k + 2 ≤ row
    → span_at k (take row (drop (i * row) (drop 1 t))) ≡ record { start = get_or t (1 + i * row + k) 0; size = get_or t (1 + i * row + k + 1) 0 }
span-at t row k i h =
    let a : k < row = omega arith in
    let b : suc k < row = omega arith in
    let e : 1 + (i * row + k) ≡ 1 + i * row + k = omega arith in
    let f : 1 + (i * row + suc k) ≡ 1 + i * row + k + 1 = omega arith in
    let w = drop (i * row) (drop 1 t) in
    let p : get_or (take row w) k 0 ≡ get_or t (1 + i * row + k) 0 = rw (get_or-take row w k 0 a, get_or-drop, get_or-drop, e) in
    let q : get_or (take row w) (suc k) 0 ≡ get_or t (1 + i * row + k + 1) 0 = rw (get_or-take row w (suc k) 0 b, get_or-drop, get_or-drop, f) in
    rw (p, q)

-- a lane's centreline
pub center_none : (w : List ℕ) → word 6 w ≡ 0 → center_span w ≡ []
center_none w e = rw (eq-eqb (word 6 w) 0 e)

pub center_one : (w : List ℕ) → (word 6 w ≡ 0 → ⊥) → center_span w ≡ span_at 7 w ∷ []
center_one w e = rw (ne_eqb (word 6 w) 0 e)

abbrev pub joined : List (List Span) → List Span
joined l = each (λ s. s) l

pub joined_end : (n i : ℕ) (w : List ℕ) → n ≤ i → joined (reads 52 center_span (n - i) w) ≡ []
unfolding each
joined_end n i w h = rw (reads_end 52 center_span n i w h)

pub part_length : (t : List ℕ) (a d n : ℕ) → d ≡ n → a + n ≤ length t → length (take d (drop a t)) ≡ n
part_length t a d n e h = let l : n ≤ length (drop a t) = rw length-drop (omega arith) in rw e (length-take-le n (drop a t) l)

-- ---- lines behind lines

pub apart-append : (marks : List Bool) (a b : List Span) → apart_by marks (a ++ b) ≡ (apart_by marks a && apart_by (marked_all marks a) b)
unfolding apart_by marked_all
apart-append marks [] b = refl
apart-append marks (s ∷ a) b = rw (apart-append (marked marks s) a b) (sym (and_assoc (unmarked marks s) (apart_by (marked marks s) a) (apart_by (marked_all (marked marks s) a) b)))

pub marked_append : (marks : List Bool) (a b : List Span) → marked_all marks (a ++ b) ≡ marked_all (marked_all marks a) b
unfolding marked_all
marked_append marks [] b = refl
marked_append marks (s ∷ a) b = marked_append (marked marks s) a b
