-- The answers on one line, by what each test said: the cut, a lane's station, a boundary's crossing. Assumes nothing.
use Rattle.std.specs.Prelude.{Option, None, Some, Err, Ok}
use mathlib.Core.Path.{◌≡◌, refl, sym, ap, ◌∙◌}
use Prim.Native.Nat.{ℕ}
use native.Mathlib.Omega.{arith}
use mathlib.Core.Bool.{Bool, true, false, not, ◌&&◌, cond}
use mathlib.Core.List.{List}
use lib.Dec.{eqb}
use lib.Ieee.{Float, lt}
use Rattle.lists.proofs.Booleans.{not-not}
use Rattle.geometry.specs.Float.{◌*ᶠ◌, zeroᶠ, oneᶠ}
use Rattle.geometry.specs.Point.{xy}
use Rattle.polyline.specs.Polyline.{points, line_length, point_at, nearest_point}
use Rattle.polyline.specs.declared.NearestPoint.{NearestPoint}
use Rattle.entities.specs.Types.{crossing_margin}
use Rattle.entities.specs.Records.{Line}
use Rattle.rules.specs.Names.{BoundaryRef, SplitAt, Fraction, Station, Refusal, NoUsableLine, PositionOutside, FractionOutside, BoundaryAbsent, NotCrossing, Point2, Point3}
use Rattle.rules.specs.Map.{boundary, station}
use Rattle.rules.specs.Edit.{Res, ◌>>=◌, Passed, passed}
use Rattle.rules.specs.Split.{cuttable}
use Rattle.tables.specs.View.{word, part, ref_at, boundary_of}
use Rattle.lookup.specs.Lookup.{row_at, place_of, drawn}
use Rattle.lookup.proofs.Laws.{find_at, find_none}
use Rattle.split_plan.specs.Placing.{cutting, placing, stationing, id_crosses, row_crosses}
use Rattle.split_plan.specs.declared.Cut.{Cut}

-- ---- where to cut

module _ (piece : Float) (i : ℕ) (c : Line) (s : Float) (b : Bool) (e : b ≡ cuttable piece c s) where
  set : (x : Bool) → not b ≡ x → b ≡ not x
  set x f = sym (not-not b) ∙ ap not f

  pub cut-outside : not b ≡ true → Err (PositionOutside i) ≡ cutting piece i c s
  cut-outside f = rw (← e, set true f)

  module _ (t : not b ≡ false) (o : Option Point3) (g : o ≡ point_at c s) where
    pub cut_pointless : o ≡ None → Err (NoUsableLine i) ≡ cutting piece i c s
    cut_pointless f = rw (← e, set false t, ← g, f)

    pub cut-found : (p : Point3) (q : Point2) → o ≡ Some p → q ≡ xy p → Ok (record { station = s; point = q }) ≡ cutting piece i c s
    cut-found p q f h = rw (← e, set false t, ← g, f, h)

module _ (piece : Float) (i : ℕ) (c : Line) (at : SplitAt) where
  module _ (f : Float) (e : at ≡ Fraction f) (b : Bool) (g : b ≡ (lt zeroᶠ f && lt f oneᶠ)) where
    pub fraction-outside : b ≡ false → Err FractionOutside ≡ placing piece i at (Some c)
    fraction-outside h = rw (e, ← g, h)

    pub fraction-inside : b ≡ true → (len : Float) → len ≡ line_length c → (r : Res Cut) → r ≡ cutting piece i c (f *ᶠ len) → r ≡ placing piece i at (Some c)
    fraction-inside h len l r q = rw (e, ← g, h) (rw l at q)

  pub station-given : (s : Float) → at ≡ Station s → (r : Res Cut) → r ≡ cutting piece i c s → r ≡ placing piece i at (Some c)
  station-given s e r q = rw e q

-- a line that is missing
pub place_lineless : (piece : Float) (i : ℕ) (at : SplitAt) (o : Option Line) → o ≡ None → Err (NoUsableLine i) ≡ placing piece i at o
place_lineless piece i at o e = rw e

-- ---- a lane's station

module _ (piece : Float) (own i : ℕ) (k : Cut) (c : Line) (o : Option NearestPoint) (e : o ≡ nearest_point c k.point) where
  pub station_pointless : o ≡ None → Err (NoUsableLine i) ≡ stationing piece own i k (Some c)
  unfolding station
  station_pointless f = rw (← e, f)

  module _ (n : NearestPoint) (f : o ≡ Some n) (s : Float) (g : s ≡ cond (eqb i own) k.station n.station) (b : Bool) (h : b ≡ cuttable piece c s) where
    pub station-there : b ≡ true → Ok s ≡ stationing piece own i k (Some c)
    unfolding station
    station-there t = rw (← e, f, ← g, ← h, t)

    pub station-outside : b ≡ false → Err (PositionOutside i) ≡ stationing piece own i k (Some c)
    unfolding station
    station-outside t = rw (← e, f, ← g, ← h, t)

pub station_lineless : (piece : Float) (own i : ℕ) (k : Cut) (o : Option Line) → o ≡ None → Err (NoUsableLine i) ≡ stationing piece own i k o
station_lineless piece own i k o e = rw e

-- ---- boundaries

module _ (c : List Float) (b : List ℕ) (i : ℕ) (p : Point2) where
  key : (w : List ℕ) → (boundary_of c w).id ≡ word 0 w
  unfolding boundary_of
  key w = refl

  pub cross-absent : place_of 5 b i ≡ None → Err (BoundaryAbsent i) ≡ id_crosses c b p i
  unfolding boundary
  cross-absent e = rw (find_none 5 (boundary_of c) (λ x. x.id) key b i e)

  module _ (j : ℕ) (q : place_of 5 b i ≡ Some j) (line : List Float) (l : line ≡ part c (word 2 (row_at 5 b j)) (word 3 (row_at 5 b j))) (o : Option NearestPoint) (e : o ≡ nearest_point (points line) p) where
    there : boundary (drawn c b) i ≡ Some (boundary_of c (row_at 5 b j))
    unfolding boundary
    there = find_at 5 (boundary_of c) (λ x. x.id) key b i j q

    drawn-line : (boundary_of c (row_at 5 b j)).geometry ≡ points line
    unfolding boundary_of
    drawn-line = ap points (sym l)

    pub cross_pointless : o ≡ None → Err (NotCrossing i) ≡ id_crosses c b p i
    unfolding station
    cross_pointless f = rw (there, drawn-line, ← e, f)

    module _ (n : NearestPoint) (f : o ≡ Some n) (x : Bool) (h : x ≡ cuttable crossing_margin (points line) n.station) where
      pub cross-there : x ≡ true → (Ok passed) ≡ id_crosses c b p i
      unfolding station
      cross-there t = rw (there, drawn-line, ← e, f, ← h, t)

      pub cross-outside : x ≡ false → Err (NotCrossing i) ≡ id_crosses c b p i
      unfolding station
      cross-outside t = rw (there, drawn-line, ← e, f, ← h, t)

-- one test, then another
first-refused : (x y : Res Passed) (r : Refusal) → Err r ≡ x → Err r ≡ x >>= λ _. y
first-refused (Err s) y r e = e
first-refused (Ok ok) y r e = let z : ◌≡◌ {A = ℕ} 0 1 = cc in absurd (omega arith)

first-passed : (x y : Res Passed) → (Ok passed) ≡ x → (r : Res Passed) → r ≡ y → r ≡ x >>= λ _. y
first-passed (Err s) y e r f = let z : ◌≡◌ {A = ℕ} 0 1 = cc in absurd (omega arith)
first-passed (Ok ok) y e r f = f

-- both boundaries of a lane's row
module _ (c : List Float) (b w : List ℕ) (p : Point2) (left right : BoundaryRef) (el : left ≡ ref_at 2 w) (er : right ≡ ref_at 4 w) (one : Res Passed) (e : one ≡ id_crosses c b p left.boundary) where
  by-refs : row_crosses c b p w ≡ (id_crosses c b p left.boundary >>= λ _. id_crosses c b p right.boundary)
  by-refs = rw (el, er)

  pub left-refused : (r : Refusal) → one ≡ Err r → Err r ≡ row_crosses c b p w
  left-refused r f = first-refused (id_crosses c b p left.boundary) (id_crosses c b p right.boundary) r (sym f ∙ e) ∙ (sym by-refs)

  pub left_passed : one ≡ Ok passed → (two : Res Passed) → two ≡ id_crosses c b p right.boundary → two ≡ row_crosses c b p w
  left_passed f two g = first-passed (id_crosses c b p left.boundary) (id_crosses c b p right.boundary) (sym f ∙ e) two g ∙ (sym by-refs)
