-- Copying, over any elements, and one line of `work`. Assumes nothing.
use mathlib.Core.Path.{◌≡◌, refl, sym, ap, ◌∙◌}
use mathlib.Core.List.{List}
use mathlib.Core.Bool.{true}
use Prim.Native.Nat.{ℕ, suc, ◌+◌, ◌*◌, ◌/◌, ◌≤◌, ◌<◌}
use native.Mathlib.Numerals.{add-one}
use native.Mathlib.Omega.{arith}
use lib.ListN.{length, get_or, set, take, drop, length-drop}
use lib.Seq.{length-take-le, take-suc, get_or-drop}
use lib.Ieee.{Float}
use Rattle.lists.specs.Rows.{over}
use Rattle.lists.proofs.Rows.{store-behind, over-nil}
use Rattle.tables.specs.View.{word, part}
use Rattle.tables.specs.Formed.{Span, span_at}
use Rattle.apart.specs.Marks.{within}
use Rattle.apart.proofs.Marks.{within_end}

-- one more element copied
pub copy_step : {A : Type 0} (w v from : List A) (a start i : ℕ) (d : A) → v ≡ over w a (take i (drop start from)) → start + i < length from → a + i < length w
    → set v (a + i) (get_or from (start + i) d) ≡ over w a (take (i + 1) (drop start from))
copy_step {A} w v from a start i d e h g =
    let l : i < length (drop start from) = rw length-drop (omega arith) in
    let j : length (take i (drop start from)) ≡ i = length-take-le i (drop start from) (omega arith) in
    let k : a + length (take i (drop start from)) ≡ a + i = rw j in
    ap (λ (u : List A). set u (a + i) (get_or from (start + i) d)) e
    ∙ store-behind w a (a + i) (take i (drop start from)) (get_or from (start + i) d) k g
    ∙ rw (add-one, take-suc (drop start from) i d l, get_or-drop)

pub copy_start : {A : Type 0} (w from : List A) (a start : ℕ) → w ≡ over w a (take 0 (drop start from))
copy_start w from a start = sym (over-nil w a)

-- ---- a line of `work`

-- a line with points that lies among those of `work` ends among its floats
pub line-room : (work : List Float) (s : Span) → within (length work / 3) s ≡ true → (s.size ≡ 0 → ⊥) → s.start * 3 + s.size * 3 ≤ length work
line-room work s h z = omega (arith, within_end (length work / 3) s h z)

-- one without a point writes nothing
pub line-none : (c work : List Float) (a start size : ℕ) → size ≡ 0 → c ≡ over c a (part work start size)
unfolding part
line-none c work a start size e = rw e (sym (over-nil c a))

-- the words of a row, counted by the code and by the definitions
pub line-words : (n k : ℕ) (w : List ℕ) → within n (span_at k w) ≡ true → within n (record { start = get_or w k 0; size = get_or w (k + 1) 0 }) ≡ true
line-words n k w h = rw add-one h

pub line-fits : (k at n : ℕ) (w : List ℕ) → (at + word (suc k) w) * 3 ≤ n → (at + get_or w (k + 1) 0) * 3 ≤ n
line-fits k at n w h = rw (add-one k) h

pub line-done : (k at : ℕ) (w : List ℕ) (work c x : List Float) → x ≡ over c (at * 3) (part work (get_or w k 0) (get_or w (k + 1) 0))
    → (at + get_or w (k + 1) 0 ≡ at + word (suc k) w) × ((set w k at ≡ set w k at) × (x ≡ over c (at * 3) (part work (word k w) (word (suc k) w))))
line-done k at w work c x e = rw (add-one k) (refl, (refl, rw (add-one k) at e))
