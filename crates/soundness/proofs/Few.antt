-- Lines that are stored and share no point have together at most as many points as the store: at most 65,536 in all. Assumes nothing.
use Rattle.std.specs.Prelude.{None, Some}
use mathlib.Core.Path.{◌≡◌, refl, sym, ap, ◌∙◌}
use mathlib.Core.Logic.{⊎_elim}
use mathlib.Core.Bool.{Bool, true, false, not, cond, true≢false}
use mathlib.Core.List.{List, [], ◌∷◌, ◌++◌, map}
use Prim.Native.Nat.{ℕ, zero, suc, ◌+◌, ◌*◌, ◌≤◌}
use native.Mathlib.Omega.{arith}
use lib.Dec.{leb}
use lib.Ieee.{Float}
use lib.ListN.{length, take, drop, replicate, length-take, length-drop, length-replicate, take-append-drop}
use lib.Seq.{drop-drop, length-take-le}
use borrow.Author.Tests.{le-leb}
use Rattle.lists.specs.Every.{all}
use Rattle.lists.specs.Rows.{reads, over}
use Rattle.lists.specs.Select.{each}
use Rattle.lists.proofs.Every.{all_head, all_tail}
use Rattle.lists.proofs.Booleans.{and-fst, and-snd}
use Rattle.lists.proofs.Select.{all-weaken}
use Rattle.polyline.proofs.Points.{length-points}
use Rattle.entities.specs.Records.{Line}
use Rattle.rules.specs.Sound.{total, point_count, lines, optional_line}
use Rattle.tables.specs.View.{Tables, word, mark, part, line_at, lane_of, boundary_of, stop_line_of, crosswalk_of, rows, view}
use Rattle.tables.specs.Formed.{Span, span_at, center_span, stored, all_clear, spans}
use Rattle.apart.specs.Marks.{marked, unmarked, apart_by, within, trues}
use Rattle.apart.proofs.Marks.{length-trues, within-cases, marked-none, length_marked}
use Rattle.apart.proofs.Clear.{apart-clear}
use Rattle.apart.proofs.Stored.{stored-within}

-- ---- unmarked points

-- how many are false
unfoldable pub falses : List Bool → ℕ
falses [] = 0
falses (true ∷ m) = falses m
falses (false ∷ m) = suc (falses m)

falses_append : (a b : List Bool) → falses (a ++ b) ≡ falses a + falses b
unfolding falses
falses_append [] b = omega arith
falses_append (true ∷ a) b = falses_append a b
falses_append (false ∷ a) b = omega (arith, falses_append a b)

falses_trues : (n : ℕ) → falses (trues n) ≡ 0
unfolding falses
falses_trues zero = refl
falses_trues (suc n) = falses_trues n

-- of a list all false: its length
falses_all : (m : List Bool) → all not m ≡ true → falses m ≡ length m
unfolding falses
falses_all [] h = refl
falses_all (true ∷ m) h = absurd (true≢false (sym (all_head not true m h)))
falses_all (false ∷ m) h = ap suc (falses_all m (all_tail not false m h))

falses_most : (m : List Bool) → falses m ≤ length m
unfolding falses
falses_most [] = omega arith
falses_most (true ∷ m) = let h = falses_most m in omega arith
falses_most (false ∷ m) = let h = falses_most m in omega arith

-- a line that finds its points unmarked takes as many as it has
falses_inside : (m : List Bool) (s : Span) → unmarked m s ≡ true → s.start + s.size ≤ length m → falses (marked m s) + s.size ≡ falses m
unfolding marked unmarked over
falses_inside m s u h =
    let a = s.start in
    let n = s.size in
    let l = length-trues n in
    let before = take a m in
    let mid = take n (drop a m) in
    let behind = drop (a + n) m in
    let p : falses (take a m ++ (trues n ++ drop (a + length (trues n)) m)) ≡ falses before + (falses (trues n) + falses behind) =
    rw l (falses_append before (trues n ++ behind) ∙ ap (λ (x : ℕ). falses before + x) (falses_append (trues n) behind)) in
    let q : falses (drop a m) ≡ falses mid + falses behind =
    ap falses (sym (take-append-drop n (drop a m))) ∙ falses_append mid (drop n (drop a m)) ∙ ap (λ (x : List Bool). falses mid + falses x) (drop-drop n a m) in
    let r : falses m ≡ falses before + falses (drop a m) = ap falses (sym (take-append-drop a m)) ∙ falses_append before (drop a m) in
    let d : n ≤ length (drop a m) = rw length-drop (omega arith) in
    let e : falses mid ≡ n = falses_all mid u ∙ length-take-le n (drop a m) d in
    omega (arith, p, q, r, e, falses_trues n)

pub falses_marked : (m : List Bool) (s : Span) → unmarked m s ≡ true → within (length m) s ≡ true → falses (marked m s) + s.size ≡ falses m
falses_marked m s u h = ⊎_elim None (falses_inside m s u) (within-cases (length m) s h)
  where
    None : s.size ≡ 0 → falses (marked m s) + s.size ≡ falses m
    None e = omega (arith, e, ap falses (marked-none m s e))

-- ---- sums

abbrev pub sizes : List Span → ℕ
sizes ss = total (map (λ s. s.size) ss)

-- lines that all find their points unmarked have at most the unmarked ones
pub sizes-most : (m : List Bool) (ss : List Span) → apart_by m ss ≡ true → all (within (length m)) ss ≡ true → sizes ss ≤ falses m
unfolding apart_by total
sizes-most m [] h w = omega arith
sizes-most m (s ∷ ss) h w =
    let u = and-fst (unmarked m s) (apart_by (marked m s) ss) h in
    let v = and-snd (unmarked m s) (apart_by (marked m s) ss) h in
    let a = all_head (within (length m)) s ss w in
    let b : all (within (length (marked m s))) ss ≡ true = rw (length_marked m s a) (all_tail (within (length m)) s ss w) in
    let r = sizes-most (marked m s) ss v b in
    omega (arith, falses_marked m s u a)

-- lines among n points that share none have at most n
pub sizes-among : (n : ℕ) (ss : List Span) → all (within n) ss ≡ true → all_clear ss ≡ true → sizes ss ≤ n
sizes-among n ss w h =
    let a : apart_by (replicate n false) ss ≡ true = apart-clear n ss w ∙ h in
    let b : all (within (length (replicate n false))) ss ≡ true = rw (length-replicate n false) w in
    let r = sizes-most (replicate n false) ss a b in
    let q = falses_most (replicate n false) in
    omega (arith, length-replicate n false)

-- ---- lines and spans, table by table

module _ {A : Type 0} where
  total-append : (f : A → ℕ) (a b : List A) → total (map f (a ++ b)) ≡ total (map f a) + total (map f b)
  unfolding total
  total-append f [] b = omega arith
  total-append f (x ∷ a) b = omega (arith, total-append f a b)

-- each row's line has at most as many points as its span
module _ {B C D E : Type 0} (f : B → List C) (g : D → List E) (p : C → ℕ) (q : E → ℕ) (dec : List ℕ → B) (dec' : List ℕ → D)
    (h : (w : List ℕ) → total (map p (f (dec w))) ≤ total (map q (g (dec' w)))) where
  reads-le : (s k : ℕ) (w : List ℕ) → total (map p (each f (reads s dec k w))) ≤ total (map q (each g (reads s dec' k w)))
  unfolding reads each
  reads-le s zero w = omega arith
  reads-le s (suc k) w =
      let r = take s w in
      let a = total-append p (f (dec r)) (each f (reads s dec k (drop s w))) in
      let b = total-append q (g (dec' r)) (each g (reads s dec' k (drop s w))) in
      let i = reads-le s k (drop s w) in
      let j = h r in
      omega (arith, a, b)

  rows-each : (s : ℕ) (t : List ℕ) → total (map p (each f (rows s dec t))) ≤ total (map q (each g (rows s dec' t)))
  unfolding rows
  rows-each s t = reads-le s (word 0 t) (drop 1 t)

module _ {B : Type 0} (f : B → Line) (dec : List ℕ → B) (k : ℕ) (h : (w : List ℕ) → length (f (dec w)) ≤ word (suc k) w) where
  reads_lines : (s n : ℕ) (w : List ℕ) → total (map length (map f (reads s dec n w))) ≤ sizes (reads s (span_at k) n w)
  unfolding reads total
  reads_lines s zero w = omega arith
  reads_lines s (suc n) w =
      let i = reads_lines s n (drop s w) in
      let j = h (take s w) in
      omega arith

  rows-lines : (s : ℕ) (t : List ℕ) → total (map length (map f (rows s dec t))) ≤ sizes (rows s (span_at k) t)
  unfolding rows
  rows-lines s t = reads_lines s (word 0 t) (drop 1 t)

-- a line has at most the points that its row says
line-most : (c : List Float) (k : ℕ) (w : List ℕ) → length (line_at c k w) ≤ word (suc k) w
unfolding part
line-most c k w =
    let x = take (word (suc k) w * 3) (drop (word k w * 3) c) in
    omega (arith, length-points x, length-take (word (suc k) w * 3) (drop (word k w * 3) c))

center_most : (c : List Float) (w : List ℕ) → total (map length (optional_line (lane_of c w).centerline)) ≤ sizes (center_span w)
unfolding lane_of total
center_most c w = go (mark 6 w)
  where
    go : (b : Bool) → total (map length (optional_line (cond b (Some (line_at c 7 w)) None))) ≤ sizes (cond b (span_at 7 w ∷ []) [])
    go true = let h = line-most c 7 w in omega arith
    go false = omega arith

five : {A : Type 0} (f : A → ℕ) (a b c d e : List A)
    → total (map f (a ++ (b ++ (c ++ (d ++ e))))) ≡ total (map f a) + (total (map f b) + (total (map f c) + (total (map f d) + total (map f e))))
five f a b c d e = omega (arith, total-append f a (b ++ (c ++ (d ++ e))), total-append f b (c ++ (d ++ e)), total-append f c (d ++ e), total-append f d e)

pub points-sizes : (t : Tables) → point_count (view t) ≤ sizes (spans t)
unfolding view lines spans
points-sizes t =
    let c = t.coordinates in
    let b = rows-lines (λ x. x.geometry) (boundary_of c) 2 (λ w. unfold boundary_of in line-most c 2 w) 5 t.boundaries in
    let l = rows-each (λ x. optional_line x.centerline) (λ s. s) length (λ s. s.size) (lane_of c) center_span (center_most c) 52 t.lanes in
    let s = rows-lines (λ x. x.geometry) (stop_line_of c) 1 (λ w. unfold stop_line_of in line-most c 1 w) 4 t.stop_lines in
    let u = rows-lines (λ x. x.left_edge) (crosswalk_of c) 1 (λ w. unfold crosswalk_of in line-most c 1 w) 7 t.crosswalks in
    let v = rows-lines (λ x. x.right_edge) (crosswalk_of c) 3 (λ w. unfold crosswalk_of in line-most c 3 w) 7 t.crosswalks in
    let p = five length
    (map (λ x. x.geometry) (rows 5 (boundary_of c) t.boundaries))
    (each (λ x. optional_line x.centerline) (rows 52 (lane_of c) t.lanes))
    (map (λ x. x.geometry) (rows 4 (stop_line_of c) t.stop_lines))
    (map (λ x. x.left_edge) (rows 7 (crosswalk_of c) t.crosswalks))
    (map (λ x. x.right_edge) (rows 7 (crosswalk_of c) t.crosswalks)) in
    let q = five (λ (s : Span). s.size)
    (rows 5 (span_at 2) t.boundaries)
    (each (λ s. s) (rows 52 center_span t.lanes))
    (rows 4 (span_at 1) t.stop_lines)
    (rows 7 (span_at 1) t.crosswalks)
    (rows 7 (span_at 3) t.crosswalks) in
    omega (arith, p, q)

-- THE THEOREM: at most 65,536 points in all
pub few-points : (t : Tables) → all (stored t.coordinates) (spans t) ≡ true → all_clear (spans t) ≡ true → leb (point_count (view t)) 65536 ≡ true
few-points t h k =
    let w : all (within 65536) (spans t) ≡ true = all-weaken (stored t.coordinates) (within 65536) (spans t) (stored-within t.coordinates) h in
    let a = sizes-among 65536 (spans t) w k in
    let b = points-sizes t in
    le-leb (point_count (view t)) 65536 (omega arith)
