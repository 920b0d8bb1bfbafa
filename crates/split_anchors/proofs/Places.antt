-- Where the marks of a rule stand among those of all rules, one rule behind the other. Assumes nothing.
use Rattle.std.specs.Prelude.{Option, None, Some}
use mathlib.Core.Path.{◌≡◌, refl, sym, ap, ◌∙◌}
use Prim.Native.Nat.{ℕ, zero, suc, ◌+◌, ◌*◌, ◌≤◌, ◌<◌}
use native.Mathlib.Nat.{le_of_suc-le-suc, not-suc-le-zero}
use native.Mathlib.Omega.{arith}
use mathlib.Core.Bool.{Bool, false}
use mathlib.Core.List.{List, [], ◌∷◌, ◌++◌, map}
use lib.Ieee.{Float}
use lib.ListN.{length, get_or, take, drop, length-map, get_or-append}
use lib.Seq.{drop-drop, length-take-le, get_or-take, get_or-drop, get_or-append-add}
use Rattle.lists.specs.Rows.{over}
use Rattle.lists.proofs.Rows.{length-reads, get_d_reads, length_over, get_d_over-before}
use Rattle.rules.specs.Names.{Point2}
use Rattle.tables.specs.View.{word, ids_at, rows}
use Rattle.tables.specs.Formed.{rule_formed}
use Rattle.row_tests.specs.Good.{all_rows}
use Rattle.lookup.specs.Lookup.{row_at}
use Rattle.lookup.proofs.Laws.{row-passes}
use Rattle.follows.specs.Following.{marks_of}
use Rattle.split_rules.specs.Past.{lane_past, anchor_of, is_there, marks_by, anchored_by, past_from, past_by, Marking}
use Rattle.split_rules.proofs.Passing.{ids_few}

-- ---- general

over-at : {A : Type 0} (w : List A) (a : ℕ) (l : List A) (k : ℕ) (d : A) → k < length l → a ≤ length w → get_or (over w a l) (a + k) d ≡ get_or l k d
unfolding over
over-at w a l k d h r =
    ap (λ n. get_or (take a w ++ (l ++ drop (a + length l) w)) (n + k) d) (sym (length-take-le a w r))
    ∙ (get_or-append-add (take a w) (l ++ drop (a + length l) w) k d ∙ get_or-append l (drop (a + length l) w) d k h)

map_at : {A B : Type 0} (f : A → B) (l : List A) (k : ℕ) (d : A) (e : B) → k < length l → get_or (map f l) k e ≡ f (get_or l k d)
map_at f [] k d e h = absurd (not-suc-le-zero h)
map_at f (x ∷ l) zero d e h = refl
map_at f (x ∷ l) (suc k) d e h = map_at f l k d e (le_of_suc-le-suc h)

module _ (t : List ℕ) where
  rows-many : length (rows 330 (λ (w : List ℕ). w) t) ≡ word 0 t
  unfolding rows
  rows-many = length-reads 330 (λ (w : List ℕ). w) (word 0 t) (drop 1 t)

  rows_at : (i : ℕ) → i < word 0 t → get_or (rows 330 (λ (w : List ℕ). w) t) i [] ≡ row_at 330 t i
  unfolding rows
  rows_at i d = get_d_reads 330 (λ (w : List ℕ). w) (word 0 t) i (drop 1 t) [] d ∙ rw drop-drop

-- ---- the marks

module _ (join : Float) (c : List Float) (lanes boundaries : List ℕ) (p : Point2) (cut : List ℕ) (stations : List Float) (stops crosswalks : List ℕ) where
  abbrev marks_in : List ℕ → List Bool
  marks_in w = marks_by join c lanes boundaries p cut stations (anchor_of c stops crosswalks cut w) (ids_at 5 w)

  abbrev run : ℕ → List (List ℕ) → List Bool → List Bool
  run = past_from join c lanes boundaries p cut stations stops crosswalks

  abbrev Small : List (List ℕ) → Type 0
  Small ws = (r : ℕ) → r < length ws → length (ids_at 5 (get_or ws r [])) ≤ 64

  marks-small : (w : List ℕ) → length (ids_at 5 w) ≤ 64 → length (marks_in w) ≤ 64
  marks-small w h = go (anchor_of c stops crosswalks cut w)
    where
      go : (o : Option Point2) → length (marks_by join c lanes boundaries p cut stations o (ids_at 5 w)) ≤ 64
      go None = omega arith
      go (Some a) = rw length-map h

  module _ (i : ℕ) (w : List ℕ) (ws : List (List ℕ)) (past : List Bool) (s : Small (w ∷ ws)) (l : (i + suc (length ws)) * 64 ≤ length past) where
    first-few : length (marks_in w) ≤ 64
    first-few = marks-small w (s 0 (omega arith))

    one-long : length (over past (i * 64) (marks_in w)) ≡ length past
    one-long = length_over past (i * 64) (marks_in w) (omega (arith, first-few))

    rest-small : Small ws
    rest-small r d = let e : suc r < suc (length ws) = omega arith in s (suc r) e

  -- what lies before stays
  past-before : (i : ℕ) (ws : List (List ℕ)) (past : List Bool) → Small ws → (i + length ws) * 64 ≤ length past → (n : ℕ) → n < i * 64 → get_or (run i ws past) n false ≡ get_or past n false
  unfolding past_from
  past-before i [] past s l n h = refl
  past-before i (w ∷ ws) past s l n h =
      past-before (suc i) ws (over past (i * 64) (marks_in w)) (rest-small i w ws past s l) (omega (arith, one-long i w ws past s l)) n (omega arith)
      ∙ get_d_over-before past (i * 64) (marks_in w) n false h (omega arith)

  past-at : (i : ℕ) (ws : List (List ℕ)) (past : List Bool) → Small ws → (i + length ws) * 64 ≤ length past → (r : ℕ) → r < length ws → (k : ℕ) → k < length (marks_in (get_or ws r []))
      → get_or (run i ws past) ((i + r) * 64 + k) false ≡ get_or (marks_in (get_or ws r [])) k false
  unfolding past_from
  past-at i [] past s l r d k h = absurd (not-suc-le-zero d)
  past-at i (w ∷ ws) past s l zero d k h =
      let z : (i + 0) * 64 + k ≡ i * 64 + k = omega arith in
      rw z
      (past-before (suc i) ws (over past (i * 64) (marks_in w)) (rest-small i w ws past s l) (omega (arith, one-long i w ws past s l)) (i * 64 + k) (omega (arith, h, first-few i w ws past s l))
      ∙ over-at past (i * 64) (marks_in w) k false h (omega arith))
  past-at i (w ∷ ws) past s l (suc r) d k h =
      let z : (i + suc r) * 64 + k ≡ (suc i + r) * 64 + k = omega arith in
      rw z (past-at (suc i) ws (over past (i * 64) (marks_in w)) (rest-small i w ws past s l) (omega (arith, one-long i w ws past s l)) r (le_of_suc-le-suc d) k h)

  -- of the rule in row i
  module _ (t : List ℕ) (anchored past : List Bool) (m : Marking c lanes boundaries cut stations t stops crosswalks anchored past) (i : ℕ) (d : i < word 0 t) where
    abbrev row : List ℕ
    row = row_at 330 t i

    ids-small : (r : ℕ) → r < word 0 t → length (ids_at 5 (row_at 330 t r)) ≤ 64
    unfolding all_rows
    ids-small r e = ids_few t m.counts r e (row-passes 330 rule_formed t m.formed r e)

    pub anchored-at : get_or (over anchored 0 (anchored_by c stops crosswalks cut t)) i false ≡ is_there (anchor_of c stops crosswalks cut row)
    anchored-at =
        let f : List ℕ → Bool = λ w. is_there (anchor_of c stops crosswalks cut w) in
        let ws = rows 330 (λ (w : List ℕ). w) t in
        let l : i < length ws = omega (arith, rows-many t) in
        let n : i < length (map f ws) = rw length-map l in
        let z : 0 + i ≡ i = omega arith in
        rw z at (over-at anchored 0 (map f ws) i false n (omega arith)) ∙ (map_at f ws i [] false l ∙ ap f (rows_at t i d))

    pub mark-at : (a : Point2) → anchor_of c stops crosswalks cut row ≡ Some a → (k : ℕ) → k < length (ids_at 5 row)
        → get_or (marks_of (past_by join c lanes boundaries p cut stations stops crosswalks t past) i) k false ≡ lane_past join c lanes boundaries p cut stations a (get_or (ids_at 5 row) k 0)
    mark-at a e k h =
        let ws = rows 330 (λ (w : List ℕ). w) t in
        let l : i < length ws = omega (arith, rows-many t) in
        let s : Small ws = λ r q. let q : r < word 0 t = omega (arith, rows-many t) in rw (rows_at t r q) (ids-small r q) in
        let u : marks_in (get_or ws i []) ≡ map (lane_past join c lanes boundaries p cut stations a) (ids_at 5 row) =
        ap marks_in (rows_at t i d) ∙ ap (λ o. marks_by join c lanes boundaries p cut stations o (ids_at 5 row)) e in
        let n : k < length (marks_in (get_or ws i [])) = rw (u, length-map) h in
        let v = past-at 0 ws past s (omega (arith, rows-many t, m.marks)) i l k n in
        let z : (0 + i) * 64 + k ≡ i * 64 + k = omega arith in
        get_or-take 64 (drop (i * 64) (run 0 ws past)) k false (omega (arith, h, ids-small i d))
        ∙ (get_or-drop (i * 64) (run 0 ws past) k false ∙ (rw z at v ∙ (ap (λ q. get_or q k false) u ∙ map_at (lane_past join c lanes boundaries p cut stations a) (ids_at 5 row) k 0 false h)))
