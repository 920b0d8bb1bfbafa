-- A line that lies in a copy of the coordinates, among the drawn lines behind it, or partly in each. Assumes nothing.
use mathlib.Core.Path.{◌≡◌, sym, ap, ◌∙◌}
use mathlib.Core.Logic.{⊎_elim}
use mathlib.Core.Bool.{true}
use mathlib.Core.List.{List, ◌++◌}
use Prim.Native.Nat.{ℕ, ◌+◌, ◌-◌, ◌*◌, ◌/◌, ◌≤◌, ◌<◌, min}
use native.Mathlib.Nat.{eq-or-lt_of_le}
use native.Mathlib.Omega.{arith}
use lib.ListN.{length, take, drop, length-append, length-drop}
use lib.Seq.{length-take-le, take-take, take-add, drop-drop, drop_at, take-append-le, drop-append-le, drop-length}
use lib.Ieee.{Float}
use Rattle.lists.specs.Rows.{over}
use Rattle.lists.proofs.Rows.{over-over, drop-take}
use Rattle.tables.specs.View.{Tables, part}
use Rattle.tables.specs.Formed.{Span}
use Rattle.apart.specs.Marks.{within}
use Rattle.layout.specs.Layout.{sourced, gathered}
use Rattle.layout.proofs.Laws.{line-room}
use Rattle.layout.proofs.Standing.{begins-copied}

module _ (reach : ℕ) (w d : List Float) (h : reach * 3 ≤ length w) where
  pub length-sourced : length (sourced reach w d) ≡ reach * 3 + length d
  length-sourced = rw (length-append, length-take-le (reach * 3) w h)

  -- a line with points ends among the floats of both
  pub sourced-room : (s : Span) → within (length (sourced reach w d) / 3) s ≡ true → (s.size ≡ 0 → ⊥) → s.start * 3 + s.size * 3 ≤ reach * 3 + length d
  sourced-room s f z = omega (arith, line-room (sourced reach w d) s f z, length-sourced)

  -- among the drawn lines
  pub drawn-part : (start size : ℕ) → reach ≤ start → part (sourced reach w d) start size ≡ take (size * 3) (drop ((start - reach) * 3) d)
  unfolding part
  drawn-part start size l =
      let e : start * 3 ≡ reach * 3 + (start - reach) * 3 = omega arith in
      rw (e, ← drop-drop, drop_at (take (reach * 3) w) d (reach * 3) (length-take-le (reach * 3) w h))

  -- n points of a line in the copy, and the rest of it at the front of the drawn lines
  pub both-part : (start size n : ℕ) → start < reach → n ≡ min size (reach - start)
      → part (sourced reach w d) start size ≡ take (n * 3) (drop (start * 3) w) ++ take ((size - n) * 3) (drop 0 d)
  unfolding part
  both-part start size n l m =
      let u = drop (start * 3) (take (reach * 3) w) in
      let e : size * 3 ≡ n * 3 + (size - n) * 3 = omega arith in
      let i : start * 3 ≤ length (take (reach * 3) w) = rw (length-take-le (reach * 3) w h) (omega arith) in
      let v : u ≡ take (reach * 3 - start * 3) (drop (start * 3) w) = drop-take (start * 3) (reach * 3) w in
      let k : length u ≡ reach * 3 - start * 3 = rw (length-drop, length-take-le (reach * 3) w h) in
      let j : n * 3 ≤ length u = omega arith in
      let g : n * 3 ≤ reach * 3 - start * 3 = omega arith in
      let x : take (n * 3) u ≡ take (n * 3) (drop (start * 3) w) = rw v (take-take (n * 3) (reach * 3 - start * 3) (drop (start * 3) w) g) in
      let y : take ((size - n) * 3) (drop (n * 3) u ++ d) ≡ take ((size - n) * 3) d = ends u k in
      rw (drop-append-le (start * 3) (take (reach * 3) w) d i, e, take-add (n * 3) ((size - n) * 3) (u ++ d), take-append-le (n * 3) u d j, drop-append-le (n * 3) u d j, x, y)
    where
      ends : (u : List Float) → length u ≡ reach * 3 - start * 3 → take ((size - n) * 3) (drop (n * 3) u ++ d) ≡ take ((size - n) * 3) d
      ends u k = ⊎_elim (λ (z : n ≡ size). let e : (size - n) * 3 ≡ 0 = omega arith in rw e) (λ (z : n < size). let e : n * 3 ≡ length u = omega arith in rw (e, drop-length)) (eq-or-lt_of_le (omega arith))

  -- written in one piece, and in two
  module _ (c x : List Float) (at start size : ℕ) (r : (at + size) * 3 ≤ length c) where
    pub drawn-written : reach ≤ start → x ≡ over c (at * 3) (take (size * 3) (drop ((start - reach) * 3) d)) → x ≡ over c (at * 3) (part (sourced reach w d) start size)
    drawn-written l e = e ∙ ap (over c (at * 3)) (sym (drawn-part start size l))

    pub both-written : (n : ℕ) (y : List Float) → start < reach → n ≡ min size (reach - start) → y ≡ over c (at * 3) (take (n * 3) (drop (start * 3) w))
        → x ≡ over y ((at + n) * 3) (take ((size - n) * 3) (drop 0 d)) → x ≡ over c (at * 3) (part (sourced reach w d) start size)
    both-written n y l m p q =
        let a = take (n * 3) (drop (start * 3) w) in
        let k : length a ≡ n * 3 = length-take-le (n * 3) (drop (start * 3) w) (rw length-drop (omega arith)) in
        let i : at * 3 + length a ≡ (at + n) * 3 = omega arith in
        q ∙ rw p (over-over c (at * 3) ((at + n) * 3) a (take ((size - n) * 3) (drop 0 d)) i (omega arith)) ∙ ap (over c (at * 3)) (sym (both-part start size n l m))

-- what a copy of the coordinates has up to `reach` is what they have
pub sourced-copy : (reach : ℕ) (c w v d : List Float) → reach * 3 ≤ length c → v ≡ over w 0 (take (reach * 3) (drop 0 c)) → sourced reach v d ≡ sourced reach c d
sourced-copy reach c w v d h e = ap (λ u. u ++ d) (ap (take (reach * 3)) e ∙ begins-copied c w reach h)

pub gathered-from : (v w : List Float) (t u : Tables) → u ≡ gathered v t → v ≡ w → u ≡ gathered w t
gathered-from v w t u p e = p ∙ ap (λ x. gathered x t) e
