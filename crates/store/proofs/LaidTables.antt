-- Tables of records whose lines are laid out one after another: what is read from them, their counts and their lengths. Assumes nothing.
use mathlib.Core.Path.{◌≡◌, refl, sym, ap, ◌∙◌}
use Prim.Native.Nat.{ℕ, suc, ◌+◌, ◌*◌, ◌/◌, ◌≤◌, min}
use native.Mathlib.Nat.{add-zero}
use native.Mathlib.Omega.{arith}
use mathlib.Core.Bool.{Bool, true, ◌||◌, or-true}
use mathlib.Core.List.{List, [], ◌∷◌, ◌++◌, map}
use lib.Dec.{eqb}
use lib.Ieee.{Float}
use lib.ListN.{length, get_or, take, drop, length-append, length-drop}
use lib.Seq.{length-take-le, take_at, drop_at, drop-cons}
use borrow.Author.Tests.{le-leb}
use Rattle.lists.specs.Every.{all}
use Rattle.lists.specs.Rows.{reads}
use Rattle.lists.specs.Select.{each}
use Rattle.lists.proofs.Booleans.{and_both}
use Rattle.lists.proofs.Every.{all_head, all_tail, all_nil, all_cons}
use Rattle.lists.proofs.Rows.{mapped-reads}
use Rattle.entities.specs.Records.{Line}
use Rattle.rules.specs.Sound.{total}
use Rattle.tables.specs.View.{word, rows}
use Rattle.tables.specs.Formed.{Span, counted, stored, clear, all_clear}
use Rattle.store.specs.Store.{writes, packed, store_rows}
use Rattle.store.specs.Laid.{points_of, placed}
use Rattle.store.proofs.Whole.{packed_all, same_reads}
use Rattle.store.proofs.Back.{RowsFit, TableFits, packed-length}
use Rattle.store.proofs.LaidRows.{Held, held_cut, settled}

-- ---- general

pub each-one : {A B : Type 0} (h : A → B) (xs : List A) → each (λ x. h x ∷ []) xs ≡ map h xs
unfolding each
each-one h [] = refl
each-one h (x ∷ xs) = ap (λ z. h x ∷ z) (each-one h xs)

pub each-joined : {A B : Type 0} (f : A → List B) (xs : List A) → each (λ l. l) (map f xs) ≡ each f xs
unfolding each
each-joined f [] = refl
each-joined f (x ∷ xs) = ap (λ z. f x ++ z) (each-joined f xs)

pub all_true : {A : Type 0} (xs : List A) → all (λ b. b) (map (λ x. true) xs) ≡ true
unfolding all
all_true [] = refl
all_true (x ∷ xs) = all_true xs

-- ---- lines that follow one another

pub settled-append : (at : ℕ) (a b : List Line) → settled at (a ++ b) ≡ settled at a ++ settled (at + points_of a) b
unfolding settled total
settled-append at [] b = rw add-zero
settled-append at (l ∷ a) b =
    let e : at + length l + points_of a ≡ at + (length l + points_of a) = omega arith in
    rw (settled-append (at + length l) a b, e)

-- they are apart
behind : (s : Span) (at : ℕ) (ls : List Line) → s.start + s.size ≤ at → all (clear s) (settled at ls) ≡ true
unfolding settled
behind s at [] h = all_nil (clear s)
behind s at (l ∷ ls) h =
    let x : Span = record { start = at; size = length l } in
    let c : clear s x ≡ true = rw (le-leb (s.start + s.size) at h, or-true (eqb s.size 0 || eqb (length l) 0)) in
    all_cons (clear s) x (settled (at + length l) ls) c (behind s (at + length l) ls (omega arith))

pub settled-clear : (at : ℕ) (ls : List Line) → all_clear (settled at ls) ≡ true
unfolding settled all_clear
settled-clear at [] = refl
settled-clear at (l ∷ ls) =
    let x : Span = record { start = at; size = length l } in
    let more = settled (at + length l) ls in
    and_both (all (clear x) more) (all_clear more) (behind x (at + length l) ls (omega arith)) (settled-clear (at + length l) ls)

-- and among the points stored
pub settled-stored : (c : List Float) (at : ℕ) (ls : List Line) → at + points_of ls ≤ min 65536 (length c / 3) → all (stored c) (settled at ls) ≡ true
unfolding settled total
settled-stored c at [] h = all_nil (stored c)
settled-stored c at (l ∷ ls) h =
    let m = min 65536 (length c / 3) in
    let i : at + length l ≤ m = omega arith in
    let x : Span = record { start = at; size = length l } in
    let e : stored c x ≡ true = rw (le-leb (at + length l) m i) (or-true (eqb (length l) 0)) in
    all_cons (stored c) x (settled (at + length l) ls) e (settled-stored c (at + length l) ls (omega arith))

-- ---- rows that fit

-- whatever row lies there
pub rows-any : {R : Type 0} (s : ℕ) (p : R → Bool) (w : List ℕ) (rs : List R) → all p rs ≡ true → RowsFit s (λ w r. p r ≡ true) w rs
unfolding RowsFit
rows-any s p w [] h = refl
rows-any s p w (r ∷ rs) h = (all_head p r rs h, rows-any s p (drop s w) rs (all_tail p r rs h))

-- records placed: each one's lines lie where it says
pub rows-placed : {R : Type 0} (s : ℕ) (ok : List ℕ → R → Type 0) (c : List Float) (line : R → List Line) (at : ℕ) (w : List ℕ) (rs : List R) → Held c at (each line rs)
    → RowsFit s ok w rs → RowsFit s (λ w r. Held c r.0 (line r.1) × ok w r.1) w (placed line at rs)
unfolding RowsFit placed each
rows-placed s ok c line at w [] h f = refl
rows-placed s ok c line at w (r ∷ rs) h f =
    let k = held_cut c at (line r) (each line rs) h in
    ((k.0, f.0), rows-placed s ok c line (at + points_of (line r)) (drop s w) rs k.1 f.1)

-- ---- records placed

module _ {R : Type 0} (line : R → List Line) where
  pub placed-map : {B : Type 0} (g : R → B) (at : ℕ) (rs : List R) → map (λ r. g r.1) (placed line at rs) ≡ map g rs
  unfolding placed
  placed-map g at [] = refl
  placed-map g at (r ∷ rs) = ap (λ z. g r ∷ z) (placed-map g (at + points_of (line r)) rs)

  pub placed-count : (at : ℕ) (rs : List R) → length (placed line at rs) ≡ length rs
  unfolding placed
  placed-count at [] = refl
  placed-count at (r ∷ rs) = ap suc (placed-count (at + points_of (line r)) rs)

  -- their lines follow one another
  pub placed-settled : (at : ℕ) (rs : List R) → each (λ r. settled r.0 (line r.1)) (placed line at rs) ≡ settled at (each line rs)
  unfolding placed each
  placed-settled at [] = unfold settled in refl
  placed-settled at (r ∷ rs) =
      ap (λ z. settled at (line r) ++ z) (placed-settled (at + points_of (line r)) rs) ∙ sym (settled-append at (line r) (each line rs))

-- the lines of records that have one each
pub placed-spans : {R : Type 0} (line : R → Line) (at : ℕ) (rs : List R)
    → map (λ r. record { start = r.0; size = length (line r.1) }) (placed (λ r. line r ∷ []) at rs) ≡ settled at (map line rs)
unfolding placed settled total
placed-spans line at [] = refl
placed-spans line at (r ∷ rs) =
    let e : at + (length (line r) + 0) ≡ at + length (line r) = omega arith in
    ap (λ z. record { start = at; size = length (line r) } ∷ z) (placed-spans line (at + (length (line r) + 0)) rs ∙ ap (λ i. settled i (map line rs)) e)

-- ---- tables

-- records written into a table: what is read from it, its count, its length
module _ {R : Type 0} (s : ℕ) (onto : List ℕ → R → List ℕ) (ok : List ℕ → R → Type 0) (long : (w : List ℕ) → length w ≡ s → (r : R) → ok w r → length (onto w r) ≡ s) where
  pub writes-read : {B : Type 0} (dec : List ℕ → B) (f : R → B) → ((w : List ℕ) → length w ≡ s → (r : R) → ok w r → dec (onto w r) ≡ f r)
      → (w : List ℕ) (rs : List R) → length rs * s ≤ length w → RowsFit s ok w rs → reads s dec (length rs) (writes s onto w rs) ≡ map f rs
  unfolding writes reads RowsFit
  writes-read dec f back w [] l h = refl
  writes-read dec f back w (r ∷ rs) l h =
      let i : s ≤ length w = omega arith in
      let j : length rs * s ≤ length (drop s w) = rw length-drop (omega arith) in
      let a = long (take s w) (length-take-le s w i) r h.0 in
      let b = back (take s w) (length-take-le s w i) r h.0 in
      let rest = writes s onto (drop s w) rs in
      rw (take_at (onto (take s w) r) rest s a, drop_at (onto (take s w) r) rest s a, b, writes-read dec f back (drop s w) rs j h.1)

  pub writes-length : (w : List ℕ) (rs : List R) → length rs * s ≤ length w → RowsFit s ok w rs → length (writes s onto w rs) ≡ length w
  unfolding writes RowsFit
  writes-length w [] l h = refl
  writes-length w (r ∷ rs) l h =
      let i : s ≤ length w = omega arith in
      let j : length rs * s ≤ length (drop s w) = rw length-drop (omega arith) in
      let a = long (take s w) (length-take-le s w i) r h.0 in
      let b = writes-length (drop s w) rs j h.1 in
      let d = length-drop s w in
      let e = length-append (onto (take s w) r) (writes s onto (drop s w) rs) in
      omega (arith, a, b, d, e)

  module _ (key : R → ℕ) (t : List ℕ) (rs : List R) (fits : TableFits R s key ok t rs) where
    abbrev under : List ℕ
    under = packed s (map key rs) (word 0 t) (drop 1 t)

    room : length rs * s ≤ length under
    room = rw (packed-length s (map key rs) (word 0 t) (drop 1 t) fits.held) fits.room

    pub table-read : {B : Type 0} (dec : List ℕ → B) (f : R → B) → ((w : List ℕ) → length w ≡ s → (r : R) → ok w r → dec (onto w r) ≡ f r)
        → rows s dec (store_rows s onto key t rs) ≡ map f rs
    unfolding rows store_rows
    table-read dec f back = writes-read dec f back under rs room fits.rows

    pub table-length : 1 ≤ length t → length (store_rows s onto key t rs) ≡ length t
    unfolding store_rows
    table-length some =
        let e : t ≡ get_or t 0 0 ∷ drop 1 t = drop-cons t 0 0 some in
        ap suc (writes-length under rs room fits.rows ∙ packed-length s (map key rs) (word 0 t) (drop 1 t) fits.held) ∙ sym (ap length e)

    pub table_counted : (limit : ℕ) → 1 ≤ length t → length rs ≤ limit → counted limit s (store_rows s onto key t rs) ≡ true
    table_counted limit some few =
        let v = store_rows s onto key t rs in
        let l = table-length some in
        let n : word 0 v ≡ length rs = unfold store_rows in refl in
        let d = length-drop 1 t in
        let r = fits.room in
        let i : 1 ≤ length v = omega arith in
        let j : word 0 v ≤ limit = omega arith in
        let k : 1 + word 0 v * s ≤ length v = rw n (omega (arith, l, d, r)) in
        rw (le-leb 1 (length v) i, le-leb (word 0 v) limit j, le-leb (1 + word 0 v * s) (length v) k)

-- records with the ids that the rows have: no row moves
pub packed-same : {R : Type 0} (s : ℕ) (key : R → ℕ) (dec : List ℕ → R) (t : List ℕ) (ids : List ℕ) → ((r : List ℕ) → key (dec r) ≡ get_or r 0 0) → word 0 t * s ≤ length (drop 1 t)
    → ids ≡ map key (rows s dec t) → packed s ids (word 0 t) (drop 1 t) ≡ drop 1 t
unfolding rows
packed-same s key dec t ids keys room e =
    let n = word 0 t in
    let w = drop 1 t in
    let k : ids ≡ reads s (λ r. get_or r 0 0) n w = e ∙ (mapped-reads s dec key n w ∙ same_reads s (λ r. key (dec r)) (λ r. get_or r 0 0) keys n w) in
    ap (λ z. packed s z n w) k ∙ packed_all s n w room
