-- Lines that share no point have room, one after another, in the points among which they lie; and a layout asks of `work` only its lines.
-- Assumes nothing.
use mathlib.Core.Path.{◌≡◌, refl, sym, ap, ◌∙◌}
use mathlib.Core.Logic.{⊎_elim}
use mathlib.Core.Bool.{Bool, true, false, not, ◌&&◌, or-true}
use mathlib.Core.List.{List, [], ◌∷◌, ◌++◌}
use Prim.Native.Nat.{ℕ, zero, suc, ◌+◌, ◌-◌, ◌/◌, ◌≤◌, min}
use native.Mathlib.Omega.{arith}
use lib.Dec.{eqb}
use lib.ListN.{length, take, drop, replicate, length-append, length-replicate, length-drop, take-append-drop}
use lib.Seq.{length-take-le, drop-drop, take-take}
use lib.Ieee.{Float}
use borrow.Author.Tests.{le-leb, eq-eqb}
use Rattle.lists.specs.Every.{all}
use Rattle.lists.specs.Rows.{over}
use Rattle.lists.specs.Select.{keep}
use Rattle.lists.proofs.Every.{all_head, all_tail}
use Rattle.lists.proofs.Booleans.{and-fst, and-snd}
use Rattle.lists.proofs.Rows.{drop-take}
use Rattle.lists.proofs.Select.{keep_append, keep_all, length-keep, all-weaken}
use Rattle.tables.specs.View.{Tables}
use Rattle.tables.specs.Formed.{Span, spans, stored, all_clear}
use Rattle.apart.specs.Marks.{trues, marked, unmarked, apart_by, within}
use Rattle.apart.proofs.Marks.{within-cases, length-trues, marked-none, length_marked}
use Rattle.apart.proofs.Clear.{apart-clear}
use Rattle.layout.specs.Layout.{points_in, counted_lines, lines_formed, Gatherable}

-- ---- as many points as lines have

-- points that are not marked
abbrev free : List Bool → ℕ
free m = length (keep not m)

free-append : (a b : List Bool) → free (a ++ b) ≡ free a + free b
free-append a b = rw (keep_append not a b, length-append)

free-trues : (n : ℕ) → free (trues n) ≡ 0
unfolding keep
free-trues zero = refl
free-trues (suc n) = free-trues n

-- a line marked takes its points
free-marked : (m : List Bool) (s : Span) → within (length m) s ≡ true → unmarked m s ≡ true → free (marked m s) + s.size ≡ free m
free-marked m s h u = ⊎_elim none inside (within-cases (length m) s h)
  where
    none : s.size ≡ 0 → free (marked m s) + s.size ≡ free m
    none e = rw (marked-none m s e) (omega arith)

    inside : s.start + s.size ≤ length m → free (marked m s) + s.size ≡ free m
    inside l =
        let a = take s.start m in
        let b = take s.size (drop s.start m) in
        let d = drop (s.start + s.size) m in
        let n : length b ≡ s.size = length-take-le s.size (drop s.start m) (rw length-drop (omega arith)) in
        let k : keep not b ≡ b = keep_all not b (unfold unmarked in u) in
        let p : m ≡ a ++ (b ++ d) =
        sym (take-append-drop s.start m) ∙ ap (λ v. a ++ v) (sym (take-append-drop s.size (drop s.start m)) ∙ ap (λ v. b ++ v) (drop-drop s.size s.start m)) in
        let q : marked m s ≡ a ++ (trues s.size ++ d) = unfold marked over in rw (length-trues s.size) in
        let x : free (a ++ (b ++ d)) ≡ free a + (free b + free d) = free-append a (b ++ d) ∙ ap (λ v. free a + v) (free-append b d) in
        let y : free (a ++ (trues s.size ++ d)) ≡ free a + (free (trues s.size) + free d) = free-append a (trues s.size ++ d) ∙ ap (λ v. free a + v) (free-append (trues s.size) d) in
        omega (arith, ap free p, ap free q, x, y, free-trues s.size, ap length k)

free-room : (m : List Bool) (ss : List Span) → all (within (length m)) ss ≡ true → apart_by m ss ≡ true → points_in ss ≤ free m
unfolding apart_by points_in
free-room m [] h u = omega arith
free-room m (s ∷ ss) h u =
    let f = all_head (within (length m)) s ss h in
    let a = and-fst (unmarked m s) (apart_by (marked m s) ss) u in
    let b = and-snd (unmarked m s) (apart_by (marked m s) ss) u in
    let g : all (within (length (marked m s))) ss ≡ true = rw (length_marked m s f) (all_tail (within (length m)) s ss h) in
    omega (arith, free-marked m s f a, free-room (marked m s) ss g b)

-- THE LAW: lines among n points of which no two share one have at most n
pub clear_room : (n : ℕ) (ss : List Span) → all (within n) ss ≡ true → all_clear ss ≡ true → points_in ss ≤ n
clear_room n ss h c =
    let m = replicate n false in
    let w : all (within (length m)) ss ≡ true = rw (length-replicate n false) h in
    omega (arith, free-room m ss w (apart-clear n ss h ∙ c), length-keep not m, length-replicate n false)

-- ---- formed tables can be laid out

pub within_more : (m n : ℕ) → m ≤ n → (s : Span) → within m s ≡ true → within n s ≡ true
within_more m n l s h =
    ⊎_elim (λ e. rw (eq-eqb s.size 0 e)) (λ i. rw (le-leb (s.start + s.size) n (omega arith)) (or-true (eqb s.size 0))) (within-cases m s h)

pub all_within_more : (m n : ℕ) (ss : List Span) → m ≤ n → all (within m) ss ≡ true → all (within n) ss ≡ true
all_within_more m n ss l h = all-weaken (within m) (within n) ss (within_more m n l) h

pub record Facts (t : Tables) : Type 0 where
  pub counts : counted_lines t ≡ true
  pub fits : all (within (min 65536 (length t.coordinates / 3))) (spans t) ≡ true
  pub room : points_in (spans t) ≤ min 65536 (length t.coordinates / 3)

pub lines-facts : (t : Tables) → lines_formed t ≡ true → Facts t
unfolding lines_formed
lines-facts t h =
    let a = counted_lines t in
    let b = all (stored t.coordinates) (spans t) in
    let c = all_clear (spans t) in
    let ab = and-fst (a && b) c h in
    let f = and-snd a b ab in
    record { counts = and-fst a b ab; fits = f; room = clear_room (min 65536 (length t.coordinates / 3)) (spans t) f (and-snd (a && b) c h) }

-- with an array of work in which the lines lie
pub lines-gatherable : (work : List Float) (t : Tables) → lines_formed t ≡ true → all (within (length work / 3)) (spans t) ≡ true → Gatherable work t
lines-gatherable work t h f = let l = lines-facts t h in record { counts = l.counts; fits = f; room = omega (arith, l.room) }

-- ---- `work` begins with the coordinates

-- lists that agree in their first m elements agree in each part of them
pub same-part : {A : Type 0} (m a b : ℕ) (x y : List A) → take m x ≡ take m y → a + b ≤ m → take b (drop a x) ≡ take b (drop a y)
same-part {A} m a b x y e h = from x ∙ ap (λ v. drop a (take (a + b) v)) e ∙ sym (from y)
  where
    from : (z : List A) → take b (drop a z) ≡ drop a (take (a + b) (take m z))
    from z =
        let k : a + b - a ≡ b = omega arith in
        rw (take-take (a + b) m z h, drop-take a (a + b) z, k)
