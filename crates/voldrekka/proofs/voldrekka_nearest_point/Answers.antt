-- `voldrekka::voldrekka_nearest_point` meets its contract: a point and two floats behind it are the five floats of the answer. Assumes nothing.
use Rattle.std.specs.Prelude.{Option, None, Some}
use borrow.Author.Rules.{rules}
use mathlib.Core.Path.{◌≡◌, refl, sym, ap, ◌∙◌}
use mathlib.Core.List.{List, [], ◌∷◌, ◌++◌}
use Prim.Native.Nat.{ℕ, ◌≤◌}
use native.Mathlib.Omega.{arith}
use lib.Ieee.{Float}
use lib.ListN.{length, set}
use Rattle.lists.specs.Rows.{over}
use Rattle.lists.proofs.Rows.{over-nil, store-behind}
use Rattle.polyline.specs.Polyline.{flat}
use Rattle.polyline.specs.declared.NearestPoint.{NearestPoint}
use Rattle.voldrekka.specs.Nearest.{floats, segment_of}
use borrow.Author.Tests.{le-leb, lt-leb}
use Rattle.voldrekka.proofs.voldrekka_nearest_point.Goals as goal

none : (w : List Float) (o : Option NearestPoint) → o ≡ None → (◌≡◌ {A = ℕ} 0 (segment_of o)) × (w ≡ over w 0 (floats o))
none w o e = rw e (refl, sym (over-nil w 0))

some : (w v : List Float) (o : Option NearestPoint) (n : NearestPoint) → o ≡ Some n → 5 ≤ length w → v ≡ over w 0 (flat (n.point ∷ []))
    → (n.segment ≡ segment_of o) × (set (set v 3 n.distance) 4 n.station ≡ over w 0 (floats o))
unfolding flat
some w v o n e h p =
    let l = flat (n.point ∷ []) in
    rw (e, p) (
      refl,
      ap (λ (u : List Float). set u 4 n.station) (store-behind w 0 3 l n.distance refl (omega arith))
          ∙ store-behind w 0 4 (l ++ (n.distance ∷ [])) n.station refl (omega arith),
    )

pub returns-then-out-lt5 : goal.returns-then-out-lt5
returns-then-out-lt5 c =
    let w = c.args.out.now in
    rw (lt-leb 5 (length w) c.if-out-lt5.true) (refl, sym (over-nil w 0))

pub returns-in_default : goal.returns-in_default
returns-in_default c =
    let w = c.args.out.now in
    rw (le-leb 5 (length w) c.if-out-lt5.false) (none w _ (sym c.nearest_point-found.ensures ∙ c.in_default.is))

pub returns : goal.returns
returns c =
    let w = c.args.out.now in
    let h = c.if-out-lt5.false in
    rw (le-leb 5 (length w) h)
    (some w _ _ c.in-Some.best (sym c.nearest_point-found.ensures ∙ c.in-Some.is) h c.put_point.ensures)
