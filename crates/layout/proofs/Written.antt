-- The rows that `pointed` writes: their lengths, their lines, and what becomes of them when a line is moved. Assumes nothing.
use Rattle.std.specs.Prelude.{Option, None, Some}
use mathlib.Core.Path.{◌≡◌, refl, sym, ap, ◌∙◌}
use Prim.Native.Nat.{ℕ, zero, suc, ◌+◌, ◌*◌, ◌/◌, ◌≤◌}
use native.Mathlib.Omega.{arith}
use mathlib.Core.Bool.{Bool, true, not, ◌&&◌, cond, or-true}
use mathlib.Core.List.{List, [], ◌∷◌, append-nil}
use lib.Dec.{eqb, leb}
use lib.Ieee.{Float}
use lib.ListN.{length, set, drop, length-drop, length-take}
use borrow.Author.Tests.{le-leb, leb-true}
use Rattle.lists.specs.Rows.{over}
use Rattle.lists.specs.Select.{each}
use Rattle.lists.proofs.Booleans.{and-fst, and-snd}
use Rattle.lists.proofs.Every.{all_nil, all_cons}
use Rattle.polyline.specs.Polyline.{flat}
use Rattle.polyline.proofs.Points.{length-flat}
use Rattle.entities.specs.Records.{Line, Lane, Boundary, StopLine, Crosswalk}
use Rattle.rules.specs.Sound.{optional_line}
use Rattle.tables.specs.View.{mark, part}
use Rattle.tables.specs.Formed.{Span, span_at}
use Rattle.apart.specs.Marks.{within}
use Rattle.store.specs.Store.{present, lane_onto, boundary_onto}
use Rattle.store.specs.Laid.{center_onto, lane_laid, boundary_laid, stop_laid, crosswalk_laid}
use Rattle.store.proofs.Back.{lane-length}
use Rattle.store.proofs.LaidRows.{settled, lane-laid-span, lane-laid-length, boundary-laid-length, boundary-laid-span, stop-laid-length, stop-laid-span, crosswalk-laid-length, left-laid-span, right-laid-span}
use Rattle.layout.specs.Layout.{line_floats, moved, centerlines, boundary_lines_of, stop_lines_of, left_edges_of, right_edges_of}
use Rattle.layout.specs.Pointed.{EachOf, LineIn}
use Rattle.layout.proofs.Columns.{Written, Sits, set-over}

-- ---- one line

-- a line that lies in `work` ends within it
line-within : (work : List Float) (at n : ℕ) → length (part work at n) ≡ n * 3 → within (length work / 3) (record { start = at; size = n }) ≡ true
unfolding part
line-within work at zero h = refl
line-within work at (suc n) h =
    let a = length-take (suc n * 3) (drop (at * 3) work) in
    let b = length-drop (at * 3) work in
    let i : at + suc n ≤ length work / 3 = omega (arith, a, b, h) in
    rw (le-leb (at + suc n) (length work / 3) i) (or-true (eqb (suc n) 0))

pub line-sits : (work : List Float) (at : ℕ) (c : Line) → LineIn work at c → Sits work at (c ∷ [])
unfolding settled line_floats each
line-sits work at c h =
    let x : Span = record { start = at; size = length c } in
    let k = within (length work / 3) in
    record {
      same = append-nil (part work at (length c)) ∙ (h ∙ ap flat (sym (append-nil c)));
      fits = all_cons k x [] (line-within work at (length c) (ap length h ∙ length-flat c)) (all_nil k);
    }

pub center_sits : (work : List Float) (at : ℕ) (o : Option Line) → EachOf (LineIn work at) (optional_line o) → Sits work at (optional_line o)
unfolding settled line_floats each flat EachOf
center_sits work at None h = record { same = refl; fits = all_nil (within (length work / 3)) }
center_sits work at (Some c) h = line-sits work at c h.0

-- ---- lanes

abbrev pub few_links : Lane → Bool
few_links l = leb (length l.predecessors) 16 && leb (length l.successors) 16

-- the mark says whether there is a line, whatever is written behind it
center_mark : (w : List ℕ) (l : Lane) (at : ℕ) (o : Option Line) → mark 6 (center_onto (lane_onto w l) at o) ≡ not (eqb (present l.centerline) 0)
unfolding lane_onto over
center_mark w l at None = refl
center_mark w l at (Some c) = refl

center_moved : (v : List ℕ) → 7 ≤ length v → (x at : ℕ) (o : Option Line) → cond (not (eqb (present o) 0)) (set (center_onto v x o) 7 at) (center_onto v x o) ≡ center_onto v at o
center_moved v h x at None = refl
center_moved v h x at (Some c) = set-over 7 v x at (length c ∷ []) h

lane-turn : (w : List ℕ) (h : length w ≡ 52) (x at : ℕ) (l : Lane) → length l.predecessors ≤ 16 → length l.successors ≤ 16
    → moved centerlines at (lane_laid w (x, l)) ≡ lane_laid w (at, l)
unfolding lane_laid
lane-turn w h x at l few many =
    let v = lane_onto w l in
    let o = l.centerline in
    let i : 7 ≤ length v = omega (arith, lane-length w h l few many) in
    ap (λ b. cond b (set (center_onto v x o) 7 at) (center_onto v x o)) (center_mark w l x o) ∙ center_moved v i x at o

pub lanes-written : Written (ℕ × Lane) centerlines lane_laid (λ p. p.0) (λ p. optional_line p.1.centerline) (λ i p. (i, p.1)) (λ p. few_links p.1)
lanes-written =
    record {
      long = λ w h p f. lane-laid-length w h p.0 p.1 (few p.1 f) (many p.1 f);
      span = λ w h p f. lane-laid-span w h p.0 p.1;
      turn = λ w h p f at. lane-turn w h p.0 at p.1 (few p.1 f) (many p.1 f);
    }
  where
    few : (l : Lane) → few_links l ≡ true → length l.predecessors ≤ 16
    few l f = leb-true (length l.predecessors) 16 (and-fst (leb (length l.predecessors) 16) (leb (length l.successors) 16) f)

    many : (l : Lane) → few_links l ≡ true → length l.successors ≤ 16
    many l f = leb-true (length l.successors) 16 (and-snd (leb (length l.predecessors) 16) (leb (length l.successors) 16) f)

-- ---- the others

-- one span, as a list
alone : (at : ℕ) (c : Line) (s : Span) → s ≡ record { start = at; size = length c } → s ∷ [] ≡ settled at (c ∷ [])
unfolding settled
alone at c s e = ap (λ z. z ∷ []) e

boundary-turn : (w : List ℕ) (x at : ℕ) (b : Boundary) → set (boundary_laid w (x, b)) 2 at ≡ boundary_laid w (at, b)
unfolding boundary_laid boundary_onto over
boundary-turn w x at b = refl

pub boundaries-written : Written (ℕ × Boundary) boundary_lines_of boundary_laid (λ p. p.0) (λ p. p.1.geometry ∷ []) (λ i p. (i, p.1)) (λ p. true)
boundaries-written =
    record {
      long = λ w h p f. boundary-laid-length w p.0 p.1;
      span = λ w h p f. alone p.0 p.1.geometry (span_at 2 (boundary_laid w p)) (boundary-laid-span w p.0 p.1);
      turn = λ w h p f at. boundary-turn w p.0 at p.1;
    }

stop-turn : (w : List ℕ) → length w ≡ 4 → (x at : ℕ) (s : StopLine) → set (stop_laid w (x, s)) 1 at ≡ stop_laid w (at, s)
unfolding stop_laid
stop-turn w h x at s = set-over 1 w x at (length s.geometry ∷ []) (omega arith)

pub stops-written : Written (ℕ × StopLine) stop_lines_of stop_laid (λ p. p.0) (λ p. p.1.geometry ∷ []) (λ i p. (i, p.1)) (λ p. true)
stops-written =
    record {
      long = λ w h p f. stop-laid-length w h p.0 p.1;
      span = λ w h p f. alone p.0 p.1.geometry (span_at 1 (stop_laid w p)) (stop-laid-span w h p.0 p.1);
      turn = λ w h p f at. stop-turn w h p.0 at p.1;
    }

-- a crosswalk's row, word by word
walk-turns : (w : List ℕ) → length w ≡ 7 → (right left at : ℕ) (x : Crosswalk)
    → (set (crosswalk_laid w (right, (left, x))) 1 at ≡ crosswalk_laid w (right, (at, x))) × (set (crosswalk_laid w (right, (left, x))) 3 at ≡ crosswalk_laid w (at, (left, x)))
unfolding crosswalk_laid over
walk-turns [] h right left at x = absurd (omega arith)
walk-turns (x0 ∷ []) h right left at x = absurd (omega arith)
walk-turns (x0 ∷ x1 ∷ []) h right left at x = absurd (omega arith)
walk-turns (x0 ∷ x1 ∷ x2 ∷ []) h right left at x = absurd (omega arith)
walk-turns (x0 ∷ x1 ∷ x2 ∷ x3 ∷ []) h right left at x = absurd (omega arith)
walk-turns (x0 ∷ x1 ∷ x2 ∷ x3 ∷ x4 ∷ w) h right left at x = (refl, refl)

pub lefts-written : Written (ℕ × (ℕ × Crosswalk)) left_edges_of crosswalk_laid (λ p. p.1.0) (λ p. p.1.1.left_edge ∷ []) (λ i p. (p.0, (i, p.1.1))) (λ p. true)
lefts-written =
    record {
      long = λ w h p f. crosswalk-laid-length w h p.0 p.1.0 p.1.1;
      span = λ w h p f. alone p.1.0 p.1.1.left_edge (span_at 1 (crosswalk_laid w p)) (left-laid-span w h p.0 p.1.0 p.1.1);
      turn = λ w h p f at. (walk-turns w h p.0 p.1.0 at p.1.1).0;
    }

pub rights-written : Written (ℕ × (ℕ × Crosswalk)) right_edges_of crosswalk_laid (λ p. p.0) (λ p. p.1.1.right_edge ∷ []) (λ i p. (i, p.1)) (λ p. true)
rights-written =
    record {
      long = λ w h p f. crosswalk-laid-length w h p.0 p.1.0 p.1.1;
      span = λ w h p f. alone p.0 p.1.1.right_edge (span_at 3 (crosswalk_laid w p)) (right-laid-span w h p.0 p.1.0 p.1.1);
      turn = λ w h p f at. (walk-turns w h p.0 p.1.0 at p.1.1).1;
    }
