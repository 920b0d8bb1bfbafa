-- Tables whose lines can be tested: what the test may assume of them, and what a caller shows. Assumes nothing.
use mathlib.Core.Path.{◌≡◌, refl, sym, ◌∙◌}
use mathlib.Core.Logic.{⊎_elim}
use mathlib.Core.Bool.{true, ◌&&◌, or-true}
use mathlib.Core.List.{List, ◌++◌}
use Prim.Native.Nat.{ℕ, ◌+◌, ◌/◌, min}
use native.Mathlib.Omega.{arith}
use lib.Dec.{eqb, leb}
use lib.Ieee.{Float}
use lib.ListN.{length}
use borrow.Author.Tests.{leb-true, le-leb}
use Rattle.lists.specs.Every.{all}
use Rattle.lists.proofs.Every.{all_split, all_append}
use Rattle.lists.proofs.Booleans.{and-fst, and-snd}
use Rattle.lists.proofs.Select.{all-weaken}
use Rattle.tables.specs.View.{Tables, rows}
use Rattle.tables.specs.Formed.{Span, span_at, center_span, counted, stored, spans}
use Rattle.apart.specs.Marks.{within, rest_spans, line_spans, rest_takeable, takeable}
use Rattle.apart.proofs.Marks.{or_cases, counted-more, joined}

-- ---- what the test may assume

pub rest-facts : (n : ℕ) (stops crosswalks : List ℕ) → rest_takeable n stops crosswalks ≡ true
    → (counted 4096 4 stops ≡ true) × ((counted 4096 7 crosswalks ≡ true) × (all (within n) (rest_spans stops crosswalks) ≡ true))
unfolding rest_takeable
rest-facts n stops crosswalks h =
    let a = counted 512 4 stops in
    let b = counted 128 7 crosswalks in
    let d = all (within n) (rest_spans stops crosswalks) in
    let ab = and-fst (a && b) d h in
    (counted-more 512 4096 4 stops (omega arith) (and-fst a b ab), (counted-more 128 4096 7 crosswalks (omega arith) (and-snd a b ab), and-snd (a && b) d h))

pub all-facts : (n : ℕ) (lanes boundaries stops crosswalks : List ℕ) → takeable n lanes boundaries stops crosswalks ≡ true
    → (counted 1024 52 lanes ≡ true) × ((counted 4096 5 boundaries ≡ true) × ((all (within n) (line_spans lanes boundaries stops crosswalks) ≡ true) × (rest_takeable n stops crosswalks ≡ true)))
unfolding takeable
all-facts n lanes boundaries stops crosswalks h =
    let a = counted 1024 52 lanes in
    let b = counted 4096 5 boundaries in
    let x = rows 5 (span_at 2) boundaries in
    let y = joined (rows 52 center_span lanes) in
    let d = all (within n) x in
    let e = all (within n) y in
    let r = rest_takeable n stops crosswalks in
    let abde = and-fst (a && b && d && e) r h in
    let abd = and-fst (a && b && d) e abde in
    let ab = and-fst (a && b) d abd in
    let rest = and-snd (a && b && d && e) r h in
    let fits = all_append (within n) x (y ++ rest_spans stops crosswalks) (and-snd (a && b) d abd) (all_append (within n) y (rest_spans stops crosswalks) (and-snd (a && b && d) e abde) (rest-facts n stops crosswalks rest).1.1) in
    (and-fst a b ab, (and-snd a b ab, (fits, rest)))

-- ---- what the caller has

-- the lines of the test are those of the map, in their order
pub spans-lines : (t : Tables) → spans t ≡ line_spans t.lanes t.boundaries t.stop_lines t.crosswalks
unfolding spans
spans-lines t = refl

pub stored-within : (c : List Float) (s : Span) → stored c s ≡ true → within 65536 s ≡ true
stored-within c s h =
    ⊎_elim (λ e. rw e) (λ l. let m = leb-true (s.start + s.size) (min 65536 (length c / 3)) l in rw (le-leb (s.start + s.size) 65536 (omega arith)) (or-true (eqb s.size 0)))
    (or_cases (eqb s.size 0) (leb (s.start + s.size) (min 65536 (length c / 3))) h)

-- tables that keep their counts, whose lines are stored, can be tested
pub takeable-of : (t : Tables) → counted 1024 52 t.lanes ≡ true → counted 4096 5 t.boundaries ≡ true → counted 512 4 t.stop_lines ≡ true
    → counted 128 7 t.crosswalks ≡ true → all (stored t.coordinates) (spans t) ≡ true
    → takeable 65536 t.lanes t.boundaries t.stop_lines t.crosswalks ≡ true
unfolding takeable rest_takeable
takeable-of t a b d e h =
    let x = rows 5 (span_at 2) t.boundaries in
    let y = joined (rows 52 center_span t.lanes) in
    let z = rest_spans t.stop_lines t.crosswalks in
    let f = within 65536 in
    let w : all f (x ++ (y ++ z)) ≡ true = all-weaken (stored t.coordinates) f (x ++ (y ++ z)) (stored-within t.coordinates) (rw (← spans-lines t) h) in
    let v : (all f x && all f (y ++ z)) ≡ true = sym (all_split f x (y ++ z)) ∙ w in
    let u : (all f y && all f z) ≡ true = sym (all_split f y z) ∙ and-snd (all f x) (all f (y ++ z)) v in
    rw (a, b, d, e, and-fst (all f x) (all f (y ++ z)) v, and-fst (all f y) (all f z) u, and-snd (all f y) (all f z) u)
