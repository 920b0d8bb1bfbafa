-- Records written into a table with their lines anywhere: a layout writes them with lines that follow one another. Assumes nothing.
use mathlib.Core.Path.{◌≡◌, refl, sym, ap, ◌∙◌}
use Prim.Native.Nat.{ℕ, zero, suc, ◌+◌, ◌*◌, ◌/◌, ◌≤◌}
use native.Mathlib.Omega.{arith}
use mathlib.Core.Bool.{Bool, true}
use mathlib.Core.List.{List, [], ◌∷◌, ◌++◌, map}
use lib.Ieee.{Float}
use lib.ListN.{length, set, take, drop, length-drop}
use lib.Seq.{length-take-le, take_at, drop_at}
use Rattle.lists.specs.Every.{all}
use Rattle.lists.specs.Rows.{over}
use Rattle.lists.specs.Select.{each}
use Rattle.lists.proofs.Every.{all_head, all_tail, all_nil, all_append}
use Rattle.lists.proofs.Select.{each_append}
use Rattle.polyline.specs.Polyline.{flat}
use Rattle.polyline.proofs.Points.{flat_append}
use Rattle.entities.specs.Records.{Line}
use Rattle.rules.specs.Sound as S
use Rattle.tables.specs.View.{word}
use Rattle.tables.specs.Formed.{Span, counted}
use Rattle.apart.specs.Marks.{within}
use Rattle.store.specs.Store.{writes, packed, store_rows}
use Rattle.store.specs.Laid.{points_of, placed}
use Rattle.store.proofs.Back.{TableFits, packed-length}
use Rattle.store.proofs.LaidRows.{settled, points-append}
use Rattle.store.proofs.LaidTables.{each-joined, rows-any, table-read, table_counted}
use Rattle.layout.specs.Layout.{line_floats, points_in, Column, line_of, column_lines, moved, moves, laid_from}
use Rattle.layout.proofs.Column.{total-append, laid-append, moves_more}
use Rattle.layout.specs.Pointed.{EachOf}

-- ---- general

-- the first of the words written at place k, set anew
pub set-over : {A : Type 0} (k : ℕ) (w : List A) (x y : A) (l : List A) → k ≤ length w → set (over w k (x ∷ l)) k y ≡ over w k (y ∷ l)
unfolding over
set-over zero w x y l h = refl
set-over (suc k) [] x y l h = absurd (omega arith)
set-over (suc k) (z ∷ w) x y l h =
    let e : suc k + suc (length l) ≡ suc (k + suc (length l)) = omega arith in
    rw e (ap (λ v. z ∷ v) (set-over k w x y l (omega arith)))

pub each_map : {A B C : Type 0} (f : B → List C) (g : A → B) (xs : List A) → each (λ x. f (g x)) xs ≡ each f (map g xs)
unfolding each
each_map f g [] = refl
each_map f g (x ∷ xs) = ap (λ z. f (g x) ++ z) (each_map f g xs)

pub each-of-weaken : {A : Type 0} (F G : A → Type 0) → ((x : A) → F x → G x) → (xs : List A) → EachOf F xs → EachOf G xs
unfolding EachOf
each-of-weaken F G h [] e = refl
each-of-weaken F G h (x ∷ xs) e = (h x e.0, each-of-weaken F G h xs e.1)

-- ---- lines that lie in `work`

pub total-settled : (at : ℕ) (ls : List Line) → points_in (settled at ls) ≡ points_of ls
unfolding points_in settled S.total
total-settled at [] = refl
total-settled at (l ∷ ls) = ap (λ n. length l + n) (total-settled (at + length l) ls)

-- lines that lie from point `at` on are copied whole, and end within `work`
pub record Sits (work : List Float) (at : ℕ) (ls : List Line) : Type 0 where
  pub same : line_floats work (settled at ls) ≡ flat (each (λ c. c) ls)
  pub fits : all (within (length work / 3)) (settled at ls) ≡ true

module _ {P : Type 0} (start : P → ℕ) (line : P → List Line) where
  -- where the lines of records lie
  unfoldable pub lying : List P → List Span
  lying ps = each (λ p. settled (start p) (line p)) ps

  pub lying-points : (ps : List P) → points_in (lying ps) ≡ points_of (each line ps)
  unfolding lying each points_in S.total
  lying-points [] = refl
  lying-points (p ∷ ps) =
      total-append (settled (start p) (line p)) (lying ps)
      ∙ (ap (λ n. n + points_in (lying ps)) (total-settled (start p) (line p))
      ∙ (ap (λ n. points_of (line p) + n) (lying-points ps) ∙ sym (points-append (line p) (each line ps))))

  module _ (work : List Float) where
    pub lying-laid : (ps : List P) → EachOf (λ p. Sits work (start p) (line p)) ps → line_floats work (lying ps) ≡ flat (each (λ c. c) (each line ps))
    unfolding lying each EachOf line_floats flat
    lying-laid [] h = refl
    lying-laid (p ∷ ps) h =
        laid-append work (settled (start p) (line p)) (lying ps)
        ∙ (ap (λ z. z ++ line_floats work (lying ps)) h.0.same
        ∙ (ap (λ z. flat (each (λ c. c) (line p)) ++ z) (lying-laid ps h.1)
        ∙ (sym (flat_append (each (λ c. c) (line p)) (each (λ c. c) (each line ps))) ∙ ap flat (sym (each_append (λ c. c) (line p) (each line ps))))))

    pub lying-fits : (ps : List P) → EachOf (λ p. Sits work (start p) (line p)) ps → all (within (length work / 3)) (lying ps) ≡ true
    unfolding lying each EachOf
    lying-fits [] h = all_nil (within (length work / 3))
    lying-fits (p ∷ ps) h = all_append (within (length work / 3)) (settled (start p) (line p)) (lying ps) h.0.fits (lying-fits ps h.1)

-- ---- records written

-- records whose lines are moved, one after another from `at` on
unfoldable pub replaced : {P : Type 0} → (ℕ → P → P) → (P → List Line) → ℕ → List P → List P
replaced move line at [] = []
replaced move line at (p ∷ ps) = move at p ∷ replaced move line (at + points_of (line p)) ps

module _ {P : Type 0} (move : ℕ → P → P) (line : P → List Line) where
  pub replaced-count : (at : ℕ) (ps : List P) → length (replaced move line at ps) ≡ length ps
  unfolding replaced
  replaced-count at [] = refl
  replaced-count at (p ∷ ps) = ap suc (replaced-count (at + points_of (line p)) ps)

  -- what a move keeps of a record
  pub replaced-keys : {B : Type 0} (key : P → B) → ((at : ℕ) (p : P) → key (move at p) ≡ key p) → (at : ℕ) (ps : List P) → map key (replaced move line at ps) ≡ map key ps
  unfolding replaced
  replaced-keys key same at [] = refl
  replaced-keys key same at (p ∷ ps) =
      ap (λ z. key (move at p) ∷ z) (replaced-keys key same (at + points_of (line p)) ps) ∙ ap (λ z. z ∷ map key ps) (same at p)

-- the start and the record
pub replaced-placed : {R : Type 0} (line : R → List Line) (at : ℕ) (ps : List (ℕ × R))
    → replaced (λ i p. (i, p.1)) (λ p. line p.1) at ps ≡ placed line at (map (λ p. p.1) ps)
unfolding replaced placed
replaced-placed line at [] = refl
replaced-placed line at (p ∷ ps) = ap (λ z. (at, p.1) ∷ z) (replaced-placed line (at + points_of (line p.1)) ps)

-- a start that stands before another
pub replaced-inner : {R : Type 0} (line : R → List Line) (at : ℕ) (ps : List (ℕ × (ℕ × R)))
    → map (λ p. p.1) (replaced (λ i p. (p.0, (i, p.1.1))) (λ p. line p.1.1) at ps) ≡ placed line at (map (λ p. p.1.1) ps)
unfolding replaced placed
replaced-inner line at [] = refl
replaced-inner line at (p ∷ ps) = ap (λ z. (at, p.1.1) ∷ z) (replaced-inner line (at + points_of (line p.1.1)) ps)

-- what is known of a row that was written over another: its length, its line, and what becomes of it when the line is moved
pub record Written (P : Type 0) (k : Column) (onto : List ℕ → P → List ℕ) (start : P → ℕ) (line : P → List Line) (move : ℕ → P → P) (ok : P → Bool) : Type 0 where
  pub long : (w : List ℕ) → length w ≡ k.words → (p : P) → ok p ≡ true → length (onto w p) ≡ k.words
  pub span : (w : List ℕ) → length w ≡ k.words → (p : P) → ok p ≡ true → line_of k (onto w p) ≡ settled (start p) (line p)
  pub turn : (w : List ℕ) → length w ≡ k.words → (p : P) → ok p ≡ true → (at : ℕ) → moved k at (onto w p) ≡ onto w (move at p)

module _ {P : Type 0} (k : Column) (onto : List ℕ → P → List ℕ) (start : P → ℕ) (line : P → List Line) (move : ℕ → P → P) (ok : P → Bool) (row : Written P k onto start line move ok) where
  moves-writes : (w : List ℕ) (at : ℕ) (ps : List P) → length ps * k.words ≤ length w → all ok ps ≡ true
      → moves k (length ps) at (writes k.words onto w ps) ≡ writes k.words onto w (replaced move line at ps)
  unfolding writes replaced
  moves-writes w at [] h f = unfold moves in refl
  moves-writes w at (p ∷ ps) h f =
      let s = k.words in
      let n = length ps in
      let r = take s w in
      let rest = writes s onto (drop s w) ps in
      let v = onto r p ++ rest in
      let i : s ≤ length w = omega arith in
      let j : n * s ≤ length (drop s w) = rw length-drop (omega arith) in
      let l = length-take-le s w i in
      let o = all_head ok p ps f in
      let a : take s v ≡ onto r p = take_at (onto r p) rest s (row.long r l p o) in
      let b : drop s v ≡ rest = drop_at (onto r p) rest s (row.long r l p o) in
      let c : points_in (line_of k (onto r p)) ≡ points_of (line p) = ap points_in (row.span r l p o) ∙ total-settled (start p) (line p) in
      moves_more k n at v
      ∙ (ap (λ z. moved k at z ++ moves k n (at + points_in (line_of k z)) (drop s v)) a
      ∙ (ap (λ z. moved k at (onto r p) ++ moves k n (at + points_in (line_of k (onto r p))) z) b
      ∙ (ap (λ i. moved k at (onto r p) ++ moves k n (at + i) rest) c
      ∙ (ap (λ z. z ++ moves k n (at + points_of (line p)) rest) (row.turn r l p o at)
      ∙ ap (λ z. onto r (move at p) ++ z) (moves-writes (drop s w) (at + points_of (line p)) ps j (all_tail ok p ps f))))))

  -- a table with such rows
  module _ (key : P → ℕ) (t : List ℕ) (ps : List P) (held : word 0 t * k.words ≤ length (drop 1 t)) (room : length ps * k.words ≤ length (drop 1 t)) (fine : all ok ps ≡ true) where
    fits : TableFits P k.words key (λ w p. ok p ≡ true) t ps
    fits = record { held = held; room = room; rows = rows-any k.words ok (packed k.words (map key ps) (word 0 t) (drop 1 t)) ps fine }

    -- its lines lie where the records say
    pub table-lines : column_lines k (store_rows k.words onto key t ps) ≡ lying start line ps
    unfolding column_lines lying
    table-lines =
        ap (each (λ s. s)) (table-read k.words onto (λ w p. ok p ≡ true) row.long key t ps fits (line_of k) (λ p. settled (start p) (line p)) row.span)
        ∙ each-joined (λ p. settled (start p) (line p)) ps

    pub table-counts : (limit : ℕ) → 1 ≤ length t → length ps ≤ limit → counted limit k.words (store_rows k.words onto key t ps) ≡ true
    table-counts = table_counted k.words onto (λ w p. ok p ≡ true) row.long key t ps fits

    -- THE LAW: a layout of the table writes the records with their lines one after another
    pub table-laid : ((at : ℕ) (p : P) → key (move at p) ≡ key p) → (at : ℕ)
        → laid_from at k (store_rows k.words onto key t ps) ≡ store_rows k.words onto key t (replaced move line at ps)
    unfolding laid_from store_rows
    table-laid same at =
        let under = packed k.words (map key ps) (word 0 t) (drop 1 t) in
        let l : length ps * k.words ≤ length under = rw (packed-length k.words (map key ps) (word 0 t) (drop 1 t) held) room in
        let e = moves-writes under at ps l fine in
        ap (λ z. length ps ∷ z) e
        ∙ (ap (λ n. n ∷ writes k.words onto under (replaced move line at ps)) (sym (replaced-count move line at ps))
        ∙ ap (λ z. length (replaced move line at ps) ∷ writes k.words onto (packed k.words z (word 0 t) (drop 1 t)) (replaced move line at ps)) (sym (replaced-keys move line key same at ps)))
