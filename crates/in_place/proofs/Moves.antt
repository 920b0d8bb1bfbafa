-- One line moved or brought to its place, and what is read of coordinates with something written over them. Assumes nothing.
use mathlib.Core.Path.{◌≡◌, refl, sym, ap, ◌∙◌}
use mathlib.Core.Logic.{◌⊎◌, inl, inr, ⊎_elim}
use mathlib.Core.Bool.{Bool, true, false, ◌&&◌, ◌||◌, cond}
use mathlib.Core.List.{List, [], ◌++◌}
use Prim.Native.Nat.{ℕ, ◌+◌, ◌-◌, ◌*◌, ◌≤◌, ◌<◌}
use native.Mathlib.Omega.{arith}
use lib.Dec.{eqb, leb}
use lib.ListN.{length, take, drop, length-append, length-take, length-drop, take-append-drop}
use lib.Seq.{length-take-le, take-take, drop-drop, take-append-le, drop-append-le, drop-append-add}
use lib.Ieee.{Float}
use borrow.Author.Tests.{eq-eqb, ne_eqb, le-leb, lt-leb, leb-true, leb-false, eqb-true}
use Rattle.lists.specs.Rows.{over}
use Rattle.lists.proofs.Booleans.{and-fst, and-snd}
use Rattle.lists.proofs.Rows.{drop-take, take-before-over, drop-over}
use Rattle.tables.specs.View.{part}
use Rattle.tables.specs.Formed.{Span}
use Rattle.apart.proofs.Marks.{or_cases}
use Rattle.layout.specs.Layout.{sourced}
use Rattle.in_place.specs.Settle.{down_one, up_one, lies}

-- ---- where a line lies

-- a line that lies has no point, ends before `reach`, or is drawn
pub lies-cases : (reach n : ℕ) (s : Span) → lies reach n s ≡ true → (s.size ≡ 0) ⊎ ((s.start + s.size ≤ reach) ⊎ ((reach ≤ s.start) × (s.start + s.size ≤ reach + n)))
lies-cases reach n s h =
    let a = leb (s.start + s.size) reach in
    let b = leb reach s.start in
    let d = leb (s.start + s.size) (reach + n) in
    ⊎_elim (λ e. inl (eqb-true s.size 0 e)) (λ e. inr (⊎_elim (λ f. inl (leb-true (s.start + s.size) reach f)) (λ f. inr (leb-true reach s.start (and-fst b d f), leb-true (s.start + s.size) (reach + n) (and-snd b d f))) (or_cases a (b && d) e))) (or_cases (eqb s.size 0) (a || (b && d)) h)

module _ (reach n : ℕ) (s : Span) (h : lies reach n s ≡ true) (z : s.size ≡ 0 → ⊥) where
  pub lies-stored : s.start < reach → s.start + s.size ≤ reach
  lies-stored g = ⊎_elim (λ e. absurd (z e)) (λ e. ⊎_elim (λ f. f) (λ f. absurd (after f.0)) e) (lies-cases reach n s h)
    where
      after : reach ≤ s.start → ⊥
      after l = omega arith

  pub lies-drawn : s.start + s.size ≤ reach + n
  lies-drawn = ⊎_elim (λ e. absurd (z e)) (λ e. ⊎_elim before (λ f. f.1) e) (lies-cases reach n s h)
    where
      before : s.start + s.size ≤ reach → s.start + s.size ≤ reach + n
      before l = omega arith

-- ---- parts

pub part-empty : (c : List Float) (start size : ℕ) → size ≡ 0 → part c start size ≡ []
unfolding part
part-empty c start size e = rw e

pub part_none : (c d : List Float) (i j size : ℕ) → size ≡ 0 → part c i size ≡ part d j size
part_none c d i j size e = part-empty c i size e ∙ sym (part-empty d j size e)

module _ (c : List Float) (start size : ℕ) where
  pub length_part : (start + size) * 3 ≤ length c → length (part c start size) ≡ size * 3
  unfolding part
  length_part h = length-take-le (size * 3) (drop (start * 3) c) (rw length-drop (omega arith))

  pub part-most : length (part c start size) ≤ size * 3
  unfolding part
  part-most = rw length-take (omega arith)

  -- what is written behind it or before it does not change it
  pub part-before : (a : ℕ) (x : List Float) → (start + size) * 3 ≤ a → a ≤ length c → part (over c a x) start size ≡ part c start size
  unfolding part
  part-before a x h g = cut (over c a x) ∙ rw (take-before-over c a x g) (sym (cut c))
    where
      cut : (v : List Float) → take (size * 3) (drop (start * 3) v) ≡ take (size * 3) (drop (start * 3) (take a v))
      cut v = rw drop-take (sym (take-take (size * 3) (a - start * 3) (drop (start * 3) v) (omega arith)))

  pub part-behind : (a : ℕ) (x : List Float) → a + length x ≤ start * 3 → a + length x ≤ length c → part (over c a x) start size ≡ part c start size
  unfolding part
  part-behind a x h g =
      let m = a + length x in
      let e : m + (start * 3 - m) ≡ start * 3 = omega arith in
      let u : drop (start * 3) (over c a x) ≡ drop (start * 3) c =
      ap (λ z. drop z (over c a x)) (sym e) ∙ sym (drop-drop (start * 3 - m) m (over c a x)) ∙ ap (drop (start * 3 - m)) (drop-over c a x g) ∙ drop-drop (start * 3 - m) m c ∙ ap (λ z. drop z c) e in
      rw u

  -- written where it lies
  pub part_stays : (start + size) * 3 ≤ length c → over c (start * 3) (part c start size) ≡ c
  unfolding over
  part_stays h =
      rw (length_part h) (unfold part in ap (λ z. take (start * 3) c ++ (take (size * 3) (drop (start * 3) c) ++ z)) (sym (drop-drop (size * 3) (start * 3) c))
      ∙ rw (take-append-drop (size * 3) (drop (start * 3) c), take-append-drop (start * 3) c))

-- of coordinates with drawn lines behind them
module _ (drawn : List Float) (reach : ℕ) (c : List Float) (stored : reach * 3 ≤ length c) where
  pub length-sourced : length (sourced reach c drawn) ≡ reach * 3 + length drawn
  length-sourced = rw (length-append, length-take-le (reach * 3) c stored)

  pub read-stored : (start size : ℕ) → start + size ≤ reach → part (sourced reach c drawn) start size ≡ part c start size
  unfolding part
  read-stored start size h =
      let l : length (take (reach * 3) c) ≡ reach * 3 = length-take-le (reach * 3) c stored in
      let i : start * 3 ≤ length (take (reach * 3) c) = omega arith in
      let j : size * 3 ≤ length (drop (start * 3) (take (reach * 3) c)) = rw length-drop (omega arith) in
      rw (drop-append-le (start * 3) (take (reach * 3) c) drawn i, take-append-le (size * 3) (drop (start * 3) (take (reach * 3) c)) drawn j, drop-take) (take-take (size * 3) (reach * 3 - start * 3) (drop (start * 3) c) (omega arith))

  pub read-drawn : (start size : ℕ) → reach ≤ start → part (sourced reach c drawn) start size ≡ part drawn (start - reach) size
  unfolding part
  read-drawn start size h =
      let l : length (take (reach * 3) c) ≡ reach * 3 = length-take-le (reach * 3) c stored in
      let e : start * 3 ≡ length (take (reach * 3) c) + (start - reach) * 3 = omega arith in
      rw (e, drop-append-add (take (reach * 3) c) drawn ((start - reach) * 3))

-- ---- moves

module _ (reach at : ℕ) (s : Span) (c : List Float) where
  pub down-none : s.size ≡ 0 → down_one reach at s c ≡ c
  down-none e = rw (eq-eqb s.size 0 e)

  pub down-drawn : reach ≤ s.start → down_one reach at s c ≡ c
  down-drawn h = rw (le-leb reach s.start h) (go (eqb s.size 0))
    where
      go : (b : Bool) → cond (b || true) c (over c (at * 3) (part c s.start s.size)) ≡ c
      go true = refl
      go false = refl

  pub down-stays : s.start ≤ at → down_one reach at s c ≡ c
  down-stays h = rw (le-leb s.start at h) (go (eqb s.size 0) (leb reach s.start))
    where
      go : (a b : Bool) → cond (a || (b || true)) c (over c (at * 3) (part c s.start s.size)) ≡ c
      go true b = refl
      go false true = refl
      go false false = refl

  pub down-moved : (s.size ≡ 0 → ⊥) → s.start < reach → at < s.start → down_one reach at s c ≡ over c (at * 3) (part c s.start s.size)
  down-moved n h g = rw (ne_eqb s.size 0 n, lt-leb reach s.start h, lt-leb s.start at g)

  pub up_none : (drawn : List Float) → s.size ≡ 0 → up_one drawn reach at s c ≡ c
  up_none drawn e = rw (eq-eqb s.size 0 e)

  pub up-drawn : (drawn : List Float) → (s.size ≡ 0 → ⊥) → reach ≤ s.start → up_one drawn reach at s c ≡ over c (at * 3) (part drawn (s.start - reach) s.size)
  up-drawn drawn n h = rw (ne_eqb s.size 0 n, le-leb reach s.start h)

  pub up-stays : (drawn : List Float) → (s.size ≡ 0 → ⊥) → s.start < reach → at ≤ s.start → up_one drawn reach at s c ≡ c
  up-stays drawn n h g = rw (ne_eqb s.size 0 n, lt-leb reach s.start h, le-leb at s.start g)

  pub up-moved : (drawn : List Float) → (s.size ≡ 0 → ⊥) → s.start < reach → s.start < at → up_one drawn reach at s c ≡ over c (at * 3) (part c s.start s.size)
  up-moved drawn n h g = rw (ne_eqb s.size 0 n, lt-leb reach s.start h, lt-leb at s.start g)

  -- the same of one that lies at its place already
  pub up-placed : (drawn : List Float) → (s.size ≡ 0 → ⊥) → s.start < reach → s.start ≤ at → (s.start + s.size) * 3 ≤ length c
      → up_one drawn reach at s c ≡ over c (at * 3) (part c s.start s.size)
  up-placed drawn n h g l = go (leb at s.start) refl
    where
      go : (b : Bool) → leb at s.start ≡ b → up_one drawn reach at s c ≡ over c (at * 3) (part c s.start s.size)
      go false e = up-moved drawn n h (leb-false at s.start e)
      go true e =
          let k : at ≤ s.start = leb-true at s.start e in
          let z : at ≡ s.start = omega arith in
          up-stays drawn n h k ∙ rw z (sym (part_stays c s.start s.size l))
