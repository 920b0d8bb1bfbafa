-- Lines laid out one after another, and rows whose lines are laid out so: each is read back, keeps its length and says where its line lies. Assumes nothing.
use Rattle.std.specs.Prelude.{Option, None, Some}
use mathlib.Core.Path.{◌≡◌, refl, sym, ap, ◌∙◌}
use Prim.Native.Nat.{ℕ, suc, ◌+◌, ◌-◌, ◌*◌, ◌≤◌}
use native.Mathlib.Omega.{arith}
use mathlib.Core.Bool.{true, not, cond}
use mathlib.Core.List.{List, [], ◌∷◌, ◌++◌, append-nil}
use lib.Dec.{eqb}
use lib.Ieee.{Float}
use lib.ListN.{length, get_or, take, drop, length-append}
use lib.Seq.{get_or-drop, drop-drop, take-take, take_at, drop_at}
use Rattle.lists.specs.Rows.{over}
use Rattle.lists.specs.Select.{each}
use Rattle.lists.proofs.Rows.{drop-take, length_over, drop-from-over}
use Rattle.lists.proofs.Select.{each_append}
use Rattle.polyline.specs.Polyline.{points, flat}
use Rattle.polyline.proofs.Points.{length-flat, flat_append, points-flat}
use Rattle.entities.specs.Records.{Line, Lane, Boundary, StopLine, Crosswalk}
use Rattle.rules.specs.Sound.{total, optional_line}
use Rattle.tables.specs.View.{word, part, lane_of, boundary_of, stop_line_of, crosswalk_of}
use Rattle.tables.specs.Formed.{Span, span_at, center_span, lane_formed}
use Rattle.store.specs.Store.{present, lane_onto, boundary_onto}
use Rattle.store.specs.Laid.{points_of, line_words, center_onto, lane_laid, boundary_laid, stop_laid, crosswalk_laid}
use Rattle.store.proofs.Back.{lane-back, lane-length, lane-formed}

-- ---- general

-- two words written at place k
over-two : (w : List ℕ) (k x y : ℕ) → k ≤ length w → (word k (over w k (x ∷ y ∷ [])) ≡ x) × (word (suc k) (over w k (x ∷ y ∷ [])) ≡ y)
over-two w k x y h =
    let v = over w k (x ∷ y ∷ []) in
    let e = drop-from-over w k (x ∷ y ∷ []) h in
    let a : k + 0 ≡ k = omega arith in
    let b : k + 1 ≡ suc k = omega arith in
    (ap (λ i. get_or v i 0) (sym a) ∙ (sym (get_or-drop k v 0 0) ∙ ap (λ z. get_or z 0 0) e), ap (λ i. get_or v i 0) (sym b) ∙ (sym (get_or-drop k v 1 0) ∙ ap (λ z. get_or z 1 0) e))

-- ---- points of lines

pub points-of : (cs : List Line) → length (each (λ c. c) cs) ≡ points_of cs
unfolding each total
points-of [] = refl
points-of (c ∷ cs) = length-append c (each (λ c. c) cs) ∙ ap (λ n. length c + n) (points-of cs)

pub points-append : (a b : List Line) → points_of (a ++ b) ≡ points_of a + points_of b
unfolding total
points-append [] b = omega arith
points-append (c ∷ a) b = omega (arith, points-append a b)

pub length-lines : (cs : List Line) → length (flat (each (λ c. c) cs)) ≡ points_of cs * 3
length-lines cs = length-flat (each (λ c. c) cs) ∙ ap (λ n. n * 3) (points-of cs)

-- ---- lines that lie one after another in c, from point `at` on

abbrev pub Held : List Float → ℕ → List Line → Type 0
Held c at cs = part c at (points_of cs) ≡ flat (each (λ c. c) cs)

module _ (c : List Float) where
  -- part by part
  pub held_cut : (at : ℕ) (a b : List Line) → Held c at (a ++ b) → Held c at a × Held c (at + points_of a) b
  unfolding part
  held_cut at a b h =
      let fa = flat (each (λ c. c) a) in
      let fb = flat (each (λ c. c) b) in
      let l : length fa ≡ points_of a * 3 = length-lines a in
      let e : take (points_of (a ++ b) * 3) (drop (at * 3) c) ≡ fa ++ fb = h ∙ (ap flat (each_append (λ c. c) a b) ∙ flat_append (each (λ c. c) a) (each (λ c. c) b)) in
      let n : points_of a * 3 ≤ points_of (a ++ b) * 3 = omega (arith, points-append a b) in
      let m : points_of (a ++ b) * 3 - points_of a * 3 ≡ points_of b * 3 = omega (arith, points-append a b) in
      let k : at * 3 + points_of a * 3 ≡ (at + points_of a) * 3 = omega arith in
      let p : take (points_of a * 3) (drop (at * 3) c) ≡ fa =
      sym (take-take (points_of a * 3) (points_of (a ++ b) * 3) (drop (at * 3) c) n) ∙ (ap (take (points_of a * 3)) e ∙ take_at fa fb (points_of a * 3) l) in
      let d : drop (points_of a * 3) (take (points_of (a ++ b) * 3) (drop (at * 3) c)) ≡ take (points_of b * 3) (drop ((at + points_of a) * 3) c) =
      drop-take (points_of a * 3) (points_of (a ++ b) * 3) (drop (at * 3) c) ∙ rw (m, drop-drop, k) in
      let q : take (points_of b * 3) (drop ((at + points_of a) * 3) c) ≡ fb = sym d ∙ (ap (drop (points_of a * 3)) e ∙ drop_at fa fb (points_of a * 3) l) in
      (p, q)

  -- one line is read where it lies
  pub held_one : (at : ℕ) (l : Line) → Held c at (l ∷ []) → points (part c at (length l)) ≡ l
  unfolding total each
  held_one at l h =
      let n : length l + 0 ≡ length l = omega arith in
      ap (λ k. points (part c at k)) (sym n) ∙ (ap points h ∙ (ap (λ z. points (flat z)) (append-nil l) ∙ points-flat l))

-- all lines, written at the front
pub held-laid : (c : List Float) (cs : List Line) → Held (over c 0 (flat (each (λ c. c) cs))) 0 cs
unfolding part over
held-laid c cs = let f = flat (each (λ c. c) cs) in take_at f (drop (0 + length f) c) (points_of cs * 3) (length-lines cs)

-- ---- where lines start and how long they are

unfoldable pub settled : ℕ → List Line → List Span
settled at [] = []
settled at (l ∷ ls) = record { start = at; size = length l } ∷ settled (at + length l) ls

-- ---- lanes

-- a line's words written before the record or behind it: the same row
center_onto_lem : (w : List ℕ) → length w ≡ 52 → (at : ℕ) (l : Lane) (o : Option Line) → center_onto (lane_onto w l) at o ≡ lane_onto (center_onto w at o) l
unfolding lane_onto over
center_onto_lem w h at l None = refl
center_onto_lem [] h at l (Some c) = absurd (omega arith)
center_onto_lem (x0 ∷ []) h at l (Some c) = absurd (omega arith)
center_onto_lem (x0 ∷ x1 ∷ []) h at l (Some c) = absurd (omega arith)
center_onto_lem (x0 ∷ x1 ∷ x2 ∷ []) h at l (Some c) = absurd (omega arith)
center_onto_lem (x0 ∷ x1 ∷ x2 ∷ x3 ∷ []) h at l (Some c) = absurd (omega arith)
center_onto_lem (x0 ∷ x1 ∷ x2 ∷ x3 ∷ x4 ∷ []) h at l (Some c) = absurd (omega arith)
center_onto_lem (x0 ∷ x1 ∷ x2 ∷ x3 ∷ x4 ∷ x5 ∷ []) h at l (Some c) = absurd (omega arith)
center_onto_lem (x0 ∷ x1 ∷ x2 ∷ x3 ∷ x4 ∷ x5 ∷ x6 ∷ []) h at l (Some c) = absurd (omega arith)
center_onto_lem (x0 ∷ x1 ∷ x2 ∷ x3 ∷ x4 ∷ x5 ∷ x6 ∷ x7 ∷ []) h at l (Some c) = absurd (omega arith)
center_onto_lem (x0 ∷ x1 ∷ x2 ∷ x3 ∷ x4 ∷ x5 ∷ x6 ∷ x7 ∷ x8 ∷ w) h at l (Some c) = refl

center_length : (w : List ℕ) → length w ≡ 52 → (at : ℕ) (o : Option Line) → length (center_onto w at o) ≡ 52
center_length w h at None = h
center_length w h at (Some c) = length_over w 7 (line_words at c) (omega (arith, h)) ∙ h

-- the line, and its span
center_back : (c : List Float) (w : List ℕ) → length w ≡ 52 → (at : ℕ) (o : Option Line) → Held c at (optional_line o)
    → (let v = center_onto w at o in cond (not (eqb (present o) 0)) (Some (points (part c (word 7 v) (word 8 v)))) None ≡ o)
center_back c w h at None k = refl
center_back c w h at (Some l) k =
    let e = over-two w 7 at (length l) (omega (arith, h)) in
    ap Some (ap (λ i. points (part c i (word 8 (over w 7 (line_words at l))))) e.0 ∙ (ap (λ n. points (part c at n)) e.1 ∙ held_one c at l k))

center_span_lem : (w : List ℕ) → length w ≡ 52 → (at : ℕ) (o : Option Line) → (let v = center_onto w at o in cond (not (eqb (present o) 0)) (span_at 7 v ∷ []) [] ≡ settled at (optional_line o))
unfolding settled
center_span_lem w h at None = refl
center_span_lem w h at (Some l) =
    let e = over-two w 7 at (length l) (omega (arith, h)) in
    ap (λ i. record { start = i; size = word 8 (over w 7 (line_words at l)) } ∷ []) e.0 ∙ ap (λ n. record { start = at; size = n } ∷ []) e.1

module _ (w : List ℕ) (h : length w ≡ 52) (at : ℕ) (l : Lane) where
  abbrev moved : List ℕ
  moved = center_onto w at l.centerline

  laid-is : lane_laid w (at, l) ≡ lane_onto moved l
  unfolding lane_laid
  laid-is = center_onto_lem w h at l l.centerline

  pub lane-laid-span : center_span (lane_laid w (at, l)) ≡ settled at (optional_line l.centerline)
  lane-laid-span = ap center_span laid-is ∙ (unfold lane_onto in center_span_lem w h at l.centerline)

  module _ (few : length l.predecessors ≤ 16) (many : length l.successors ≤ 16) where
    pub lane-laid-length : length (lane_laid w (at, l)) ≡ 52
    lane-laid-length = ap length laid-is ∙ lane-length moved (center_length w h at l.centerline) l few many

    pub lane-laid-formed : lane_formed (lane_laid w (at, l)) ≡ true
    lane-laid-formed = ap lane_formed laid-is ∙ lane-formed moved (center_length w h at l.centerline) l few many

    pub lane-laid-back : (c : List Float) → Held c at (optional_line l.centerline) → lane_of c (lane_laid w (at, l)) ≡ l
    lane-laid-back c k =
        ap (lane_of c) laid-is ∙ lane-back c moved (center_length w h at l.centerline) l few many (unfold lane_onto in center_back c w h at l.centerline k)

-- ---- boundaries

module _ (w : List ℕ) (at : ℕ) (b : Boundary) where
  pub boundary-laid-length : length (boundary_laid w (at, b)) ≡ 5
  unfolding boundary_laid boundary_onto over
  boundary-laid-length = refl

  pub boundary-laid-span : span_at 2 (boundary_laid w (at, b)) ≡ record { start = at; size = length b.geometry }
  unfolding boundary_laid boundary_onto over
  boundary-laid-span = refl

  pub boundary-laid-back : (c : List Float) → Held c at (b.geometry ∷ []) → boundary_of c (boundary_laid w (at, b)) ≡ b
  unfolding boundary_laid boundary_onto over boundary_of
  boundary-laid-back c k = ap (λ z. record { id = b.id; kind = b.kind; geometry = z; attributes = b.attributes }) (held_one c at b.geometry k)

-- ---- stop lines

-- the words that stay
pub record StopKept (w : List ℕ) (s : StopLine) : Type 0 where
  pub id : word 0 w ≡ s.id
  pub attributes : word 3 w ≡ s.attributes

stop-laid : (w : List ℕ) → length w ≡ 4 → (at : ℕ) (s : StopLine) → stop_laid w (at, s) ≡ word 0 w ∷ at ∷ length s.geometry ∷ word 3 w ∷ []
unfolding stop_laid over
stop-laid [] h at s = absurd (omega arith)
stop-laid (x ∷ []) h at s = absurd (omega arith)
stop-laid (x ∷ y ∷ []) h at s = absurd (omega arith)
stop-laid (x ∷ y ∷ z ∷ []) h at s = absurd (omega arith)
stop-laid (x ∷ y ∷ z ∷ u ∷ []) h at s = refl
stop-laid (x ∷ y ∷ z ∷ u ∷ v ∷ w) h at s = absurd (omega arith)

module _ (w : List ℕ) (h : length w ≡ 4) (at : ℕ) (s : StopLine) where
  pub stop-laid-length : length (stop_laid w (at, s)) ≡ 4
  stop-laid-length = ap length (stop-laid w h at s)

  pub stop-laid-span : span_at 1 (stop_laid w (at, s)) ≡ record { start = at; size = length s.geometry }
  stop-laid-span = ap (span_at 1) (stop-laid w h at s)

  pub stop-laid-back : (c : List Float) → StopKept w s → Held c at (s.geometry ∷ []) → stop_line_of c (stop_laid w (at, s)) ≡ s
  unfolding stop_line_of
  stop-laid-back c e k =
      ap (stop_line_of c) (stop-laid w h at s)
      ∙ (ap (λ i. record { id = i; geometry = points (part c at (length s.geometry)); attributes = word 3 w }) e.id
      ∙ (ap (λ z. record { id = s.id; geometry = z; attributes = word 3 w }) (held_one c at s.geometry k)
      ∙ ap (λ a. record { id = s.id; geometry = s.geometry; attributes = a }) e.attributes))

-- ---- crosswalks

pub record CrosswalkKept (w : List ℕ) (x : Crosswalk) : Type 0 where
  pub id : word 0 w ≡ x.id
  pub outline : word 5 w ≡ x.outline
  pub attributes : word 6 w ≡ x.attributes

walk-laid : (w : List ℕ) → length w ≡ 7 → (right left : ℕ) (x : Crosswalk)
    → crosswalk_laid w (right, (left, x)) ≡ word 0 w ∷ left ∷ length x.left_edge ∷ right ∷ length x.right_edge ∷ word 5 w ∷ word 6 w ∷ []
unfolding crosswalk_laid over
walk-laid [] h right left x = absurd (omega arith)
walk-laid (x0 ∷ []) h right left x = absurd (omega arith)
walk-laid (x0 ∷ x1 ∷ []) h right left x = absurd (omega arith)
walk-laid (x0 ∷ x1 ∷ x2 ∷ []) h right left x = absurd (omega arith)
walk-laid (x0 ∷ x1 ∷ x2 ∷ x3 ∷ []) h right left x = absurd (omega arith)
walk-laid (x0 ∷ x1 ∷ x2 ∷ x3 ∷ x4 ∷ []) h right left x = absurd (omega arith)
walk-laid (x0 ∷ x1 ∷ x2 ∷ x3 ∷ x4 ∷ x5 ∷ []) h right left x = absurd (omega arith)
walk-laid (x0 ∷ x1 ∷ x2 ∷ x3 ∷ x4 ∷ x5 ∷ x6 ∷ []) h right left x = refl
walk-laid (x0 ∷ x1 ∷ x2 ∷ x3 ∷ x4 ∷ x5 ∷ x6 ∷ x7 ∷ w) h right left x = absurd (omega arith)

crosswalk-fields : {i j o p a b : ℕ} {l m r s : Line} → i ≡ j → l ≡ m → r ≡ s → o ≡ p → a ≡ b
    → ◌≡◌ {A = Crosswalk} (record { id = i; left_edge = l; right_edge = r; outline = o; attributes = a }) (record { id = j; left_edge = m; right_edge = s; outline = p; attributes = b })
crosswalk-fields e1 e2 e3 e4 e5 = rw (e1, e2, e3, e4, e5)

module _ (w : List ℕ) (h : length w ≡ 7) (right left : ℕ) (x : Crosswalk) where
  pub crosswalk-laid-length : length (crosswalk_laid w (right, (left, x))) ≡ 7
  crosswalk-laid-length = ap length (walk-laid w h right left x)

  pub left-laid-span : span_at 1 (crosswalk_laid w (right, (left, x))) ≡ record { start = left; size = length x.left_edge }
  left-laid-span = ap (span_at 1) (walk-laid w h right left x)

  pub right-laid-span : span_at 3 (crosswalk_laid w (right, (left, x))) ≡ record { start = right; size = length x.right_edge }
  right-laid-span = ap (span_at 3) (walk-laid w h right left x)

  pub crosswalk-laid-back : (c : List Float) → CrosswalkKept w x → Held c left (x.left_edge ∷ []) → Held c right (x.right_edge ∷ []) → crosswalk_of c (crosswalk_laid w (right, (left, x))) ≡ x
  unfolding crosswalk_of
  crosswalk-laid-back c e k j =
      ap (crosswalk_of c) (walk-laid w h right left x)
      ∙ crosswalk-fields e.id (held_one c left x.left_edge k) (held_one c right x.right_edge j) e.outline e.attributes
