-- Row by row, the other tables: what the definition asks, and what the test asks.
use mathlib.Core.Path.{◌≡◌, refl, ap, ◌∙◌}
use mathlib.Core.Bool.{Bool, true, false, ◌&&◌}
use mathlib.Core.List.{List, ◌∷◌}
use Prim.Native.Nat.{ℕ}
use lib.Dec.{leb, ltb}
use lib.ListN.{length}
use lib.Ieee.{Float}
use Rattle.lists.specs.Every.{all}
use Rattle.lists.specs.Select.{distinct}
use Rattle.lists.proofs.Booleans.{and-fst, and-snd, same_test}
use Rattle.geometry.specs.Point.{in_reach}
use Rattle.rules.specs.Sound.{handle_width}
use Rattle.tables.specs.View.{word, ids_at, line_at}
use Rattle.tables.specs.Formed.{span_at, stored}
use Rattle.row_tests.specs.Good.{line_good, ids_good, handle_good, boundary_good, road_good, junction_good, stop_line_good, crosswalk_good}
use Rattle.soundness.proofs.Pointwise.{and3, and4, and5, line_same}

-- what the definition asks of a line: in the store, not too long, within reach
abbrev pub line_asked : List Float → ℕ → List ℕ → Bool
line_asked c k w = stored c (span_at k w) && leb (length (line_at c k w)) 256 && all in_reach (line_at c k w)

-- ---- boundaries, stop lines, crosswalks

abbrev pub boundary_asked : ℕ → List Float → List ℕ → Bool
boundary_asked most c w = leb (word 1 w) 13 && ltb (word 4 w) handle_width && leb (word 0 w) most && line_asked c 2 w

pub boundary-same : (most : ℕ) (c : List Float) (w : List ℕ) → boundary_good most c w ≡ boundary_asked most c w
unfolding boundary_good
boundary-same most c w =
    ap (λ t. leb (word 0 w) most && leb (word 1 w) 13 && handle_good (word 4 w) && t) (line_same c (span_at 2 w))
    ∙ turn (leb (word 0 w) most) (leb (word 1 w) 13) (handle_good (word 4 w)) (line_asked c 2 w)
  where
    turn : (a b d e : Bool) → (a && b && d && e) ≡ (b && d && a && e)
    turn true true d e = and_right d e
      where
        and_right : (d e : Bool) → (d && e) ≡ (d && true && e)
        and_right true e = refl
        and_right false e = refl
    turn true false d e = refl
    turn false true true e = refl
    turn false true false e = refl
    turn false false d e = refl

abbrev pub stop_line_asked : ℕ → List Float → List ℕ → Bool
stop_line_asked most c w = ltb (word 3 w) handle_width && leb (word 0 w) most && line_asked c 1 w

pub stop-line-same : (most : ℕ) (c : List Float) (w : List ℕ) → stop_line_good most c w ≡ stop_line_asked most c w
unfolding stop_line_good
stop-line-same most c w =
    ap (λ t. leb (word 0 w) most && handle_good (word 3 w) && t) (line_same c (span_at 1 w)) ∙ turn (leb (word 0 w) most) (handle_good (word 3 w)) (line_asked c 1 w)
  where
    turn : (a b e : Bool) → (a && b && e) ≡ (b && a && e)
    turn true true e = refl
    turn true false e = refl
    turn false true e = refl
    turn false false e = refl

abbrev pub crosswalk_asked : ℕ → List Float → List ℕ → Bool
crosswalk_asked most c w = (ltb (word 5 w) handle_width && ltb (word 6 w) handle_width) && leb (word 0 w) most && line_asked c 1 w && line_asked c 3 w

pub crosswalk-same : (most : ℕ) (c : List Float) (w : List ℕ) → crosswalk_good most c w ≡ crosswalk_asked most c w
unfolding crosswalk_good
crosswalk-same most c w =
    ap (λ t. leb (word 0 w) most && handle_good (word 5 w) && handle_good (word 6 w) && t && line_good c (span_at 3 w)) (line_same c (span_at 1 w))
    ∙ (ap (λ t. leb (word 0 w) most && handle_good (word 5 w) && handle_good (word 6 w) && line_asked c 1 w && t) (line_same c (span_at 3 w))
    ∙ turn (leb (word 0 w) most) (handle_good (word 5 w)) (handle_good (word 6 w)) (line_asked c 1 w) (line_asked c 3 w))
  where
    turn : (a b d e f : Bool) → (a && b && d && e && f) ≡ ((b && d) && a && e && f)
    turn true true true e f = refl
    turn true true false e f = refl
    turn true false d e f = refl
    turn false true true e f = refl
    turn false true false e f = refl
    turn false false d e f = refl

-- ---- roads and junctions

abbrev pub road_asked : ℕ → List ℕ → Bool
road_asked most w =
    leb (word 3 w) 64
    && (ltb (word 1 w) handle_width && ltb (word 2 w) handle_width)
    && all (λ i. leb i most) (word 0 w ∷ ids_at 3 w)
    && distinct (ids_at 3 w)

pub road_same : (most : ℕ) (w : List ℕ) → road_good most w ≡ road_asked most w
unfolding road_good all
road_same most w =
    turn (leb (word 0 w) most) (handle_good (word 1 w)) (handle_good (word 2 w)) (leb (word 3 w) 64) (ids_good most (ids_at 3 w)) (distinct (ids_at 3 w))
  where
    turn : (a b d e f o : Bool) → (a && b && d && e && (f && o)) ≡ (e && (b && d) && (a && f) && o)
    turn a b d e f o =
        same_test (a && b && d && e && (f && o)) (e && (b && d) && (a && f) && o)
        (λ h.
        let (p, q, r, s, t) = and5 a b d e (f && o) h in
        rw (p, q, r, s, and-fst f o t, and-snd f o t))
        (λ h.
        let (p, q, r, s) = and4 e (b && d) (a && f) o h in
        rw (p, and-fst b d q, and-snd b d q, and-fst a f r, and-snd a f r, s))

abbrev pub junction_asked : ℕ → List ℕ → Bool
junction_asked most w =
    leb (word 4 w) 64
    && (ltb (word 1 w) handle_width && ltb (word 2 w) handle_width && ltb (word 3 w) handle_width)
    && all (λ i. leb i most) (word 0 w ∷ ids_at 4 w)
    && distinct (ids_at 4 w)

pub junction_same : (most : ℕ) (w : List ℕ) → junction_good most w ≡ junction_asked most w
unfolding junction_good all
junction_same most w =
    turn (leb (word 0 w) most) (handle_good (word 1 w)) (handle_good (word 2 w)) (handle_good (word 3 w)) (leb (word 4 w) 64) (ids_good most (ids_at 4 w)) (distinct (ids_at 4 w))
  where
    turn : (a b d g e f o : Bool) → (a && b && d && g && e && (f && o)) ≡ (e && (b && d && g) && (a && f) && o)
    turn a b d g e f o =
        same_test (a && b && d && g && e && (f && o)) (e && (b && d && g) && (a && f) && o)
        (λ h.
        let (p, q, r, s, t) = and5 a b d g e (and-fst (a && b && d && g && e) (f && o) h) in
        let u = and-snd (a && b && d && g && e) (f && o) h in
        rw (p, q, r, s, t, and-fst f o u, and-snd f o u))
        (λ h.
        let (p, q, r, s) = and4 e (b && d && g) (a && f) o h in
        let (x, y, z) = and3 b d g q in
        rw (p, x, y, z, and-fst a f r, and-snd a f r, s))
