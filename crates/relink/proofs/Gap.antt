-- The gap between two lanes, by its four ends. Assumes nothing.
use Rattle.std.specs.Prelude.{Option, Some, is_some}
use mathlib.Core.Path.{◌≡◌, sym, ◌∙◌}
use mathlib.Core.Bool.{Bool, true, false, ◌&&◌, ◌||◌}
use lib.Ieee.{Float, lt}
use Rattle.geometry.specs.Point.{distance3}
use Rattle.entities.specs.Records.{Lane, Map}
use Rattle.rules.specs.Names.{Left, Right, Point3}
use Rattle.rules.specs.Map.{oriented_boundary, first_of, last_of}
use Rattle.rules.specs.Edit as E

pub apart-told : (tol d : Float) (p q : Option Point3) (a b : Point3) → p ≡ Some a → q ≡ Some b → d ≡ distance3 a b → lt tol d ≡ E.far_apart tol p q
apart-told tol d p q a b e f g = rw (e, f, g)

module _ (tol : Float) (m : Map) (from to : Lane) (fl fr tl tr : Option Point3)
    (a : fl ≡ last_of (oriented_boundary m Left from)) (b : fr ≡ last_of (oriented_boundary m Right from))
    (c : tl ≡ first_of (oriented_boundary m Left to)) (d : tr ≡ first_of (oriented_boundary m Right to)) where
  ends : E.gapped tol m from to ≡ ((is_some fl && is_some fr && is_some tl && is_some tr) && (E.far_apart tol fl tl || E.far_apart tol fr tr))
  unfolding E.gapped
  ends = rw (a, b, c, d)

  module _ (t1 t2 t3 t4 b1 b2 b3 : Bool) (e1 : t1 ≡ is_some fl) (e2 : t2 ≡ is_some fr) (e3 : t3 ≡ is_some tl) (e4 : t4 ≡ is_some tr)
      (f1 : b1 ≡ (t1 && t2)) (f2 : b2 ≡ (b1 && t3)) (f3 : b3 ≡ (b2 && t4)) where
    all_there : b3 ≡ (is_some fl && is_some fr && is_some tl && is_some tr)
    all_there = f3 ∙ rw (f2, f1, e1, e2, e3, e4)

    pub gap-none : b3 ≡ false → false ≡ E.gapped tol m from to
    gap-none g = sym (ends ∙ rw (sym all_there ∙ g))

    pub gap-left : b3 ≡ true → (x : Bool) → x ≡ E.far_apart tol fl tl → x ≡ true → true ≡ E.gapped tol m from to
    gap-left g x h k = sym (ends ∙ rw (sym all_there ∙ g, sym h ∙ k))

    pub gap-right : b3 ≡ true → (x y : Bool) → x ≡ E.far_apart tol fl tl → x ≡ false → y ≡ E.far_apart tol fr tr → y ≡ E.gapped tol m from to
    gap-right g x y h k q = sym (ends ∙ rw (sym all_there ∙ g, sym h ∙ k, sym q))
