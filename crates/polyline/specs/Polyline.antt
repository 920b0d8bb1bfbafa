-- geometry/polyline.rs: a line is the list of its points. Stations are measured in three dimensions, nearest points in two.
use Rattle.std.specs.Prelude.{ℕ, zero, suc, ◌-◌, ◌/◌, max, Bool, true, false, ◌&&◌, ◌||◌, cond, pos, ltb, length, get_or, drop, Float, Option, None, Some}
use mathlib.Core.List.{List, [], ◌∷◌, ◌++◌, zip_with}
use Rattle.std.specs.Float.{nan, binary64}
use Rattle.std.specs.Float.Ieee.{lt, le, eq, of_int, of_bits}
use Rattle.lists.specs.Rows.{reads}
use Rattle.geometry.specs.Float.{◌+ᶠ◌, ◌-ᶠ◌, ◌*ᶠ◌, ◌/ᶠ◌, zeroᶠ, oneᶠ, halfᶠ, epsilon, clamp}
use Rattle.geometry.specs.Point.{xy, distance2, distance3, lerp3, project_on_segment}
use Rattle.geometry.specs.declared.Point2.{Point2}
use Rattle.geometry.specs.declared.Point3.{Point3}
use Rattle.polyline.specs.declared.NearestPoint.{NearestPoint}

-- ---- a line in lent memory: three coordinates a point

unfoldable pub point_of : List Float → Point3
point_of w = record { x = get_or w 0 nan; y = get_or w 1 nan; z = get_or w 2 nan }

-- The points of a part of the coordinates; one or two floats left over are no point.
unfoldable pub points : List Float → List Point3
points w = reads 3 point_of (length w / 3) w

unfoldable pub flat : List Point3 → List Float
flat [] = []
flat (p ∷ ps) = p.x ∷ p.y ∷ p.z ∷ flat ps

-- ---- first, last, length

unfoldable pub first : List Point3 → Option Point3
first [] = None
first (p ∷ ps) = Some p

unfoldable pub last_from : Point3 → List Point3 → Point3
last_from p [] = p
last_from p (q ∷ ps) = last_from q ps

unfoldable pub last : List Point3 → Option Point3
last [] = None
last (p ∷ ps) = Some (last_from p ps)

-- The distances from p along the points after it, added to `sum` one after the other.
unfoldable pub length_from : Float → Point3 → List Point3 → Float
length_from sum p [] = sum
length_from sum p (q ∷ ps) = length_from (sum +ᶠ distance3 p q) q ps

-- The Rust's sum starts at −0.0, the length of a line of no or one point.
abbrev pub minus_zero : Float
minus_zero = of_bits binary64 0x8000000000000000

unfoldable pub line_length : List Point3 → Float
line_length [] = minus_zero
line_length (p ∷ ps) = length_from minus_zero p ps

-- ---- locate, point_at

-- Document 01: "Its t is held within 0 to 1, also where rounding would take it outside". A NaN is held to 0 (docs/DIFFERENCES.md).
unfoldable pub held : Float → Float
held t = cond (eq t t) (clamp t zeroᶠ oneᶠ) zeroᶠ

-- Document 01: "`locate` skips segments of length 0." From segment i, which starts at p and at station `at`.
unfoldable pub locate_from : ℕ → Float → Float → Point3 → List Point3 → Option (ℕ × Float)
locate_from i at station p [] = Some ((i - 1), oneᶠ)
locate_from i at station p (q ∷ ps) =
    let seg = distance3 p q in
    let rest = locate_from (suc i) (at +ᶠ seg) station q ps in
    cond (le station (at +ᶠ seg) && lt zeroᶠ seg) (Some (i, (held ((station -ᶠ at) /ᶠ seg)))) rest

unfoldable pub locate : List Point3 → Float → Option (ℕ × Float)
locate [] station = None
locate (p ∷ []) station = Some (0, zeroᶠ)
locate (p ∷ q ∷ ps) station = cond (le station zeroᶠ) (Some (0, zeroᶠ)) (locate_from 0 zeroᶠ station p (q ∷ ps))

-- Between points i and i + 1; a line of one point has only that.
unfoldable pub point_in : List Point3 → Option (ℕ × Float) → Option Point3
point_in ps None = None
point_in ps (Some (i, t)) = cond (ltb (suc i) (length ps)) (Some (lerp3 (get_or ps i (point_of [])) (get_or ps (suc i) (point_of [])) t)) (last ps)

unfoldable pub point_at : List Point3 → Float → Option Point3
point_at ps station = point_in ps (locate ps station)

unfoldable pub point_at_fraction : List Point3 → Float → Option Point3
point_at_fraction ps t = point_at ps (clamp t zeroᶠ oneᶠ *ᶠ line_length ps)

-- ---- nearest_point

-- The candidate of segment i, which starts at p and at station `at` and ends at q.
unfoldable pub candidate : ℕ → Float → Point2 → Point3 → Point3 → NearestPoint
candidate i at to p q =
    let t = project_on_segment to (xy p) (xy q) in
    let on = lerp3 p q t in
    record { point = on; distance = distance2 (xy on) to; station = at +ᶠ t *ᶠ distance3 p q; segment = i }

-- Document 01: "`nearest_point` moves to a later segment only if it is nearer by more than EPSILON (1e-9)."
unfoldable pub nearer : NearestPoint → NearestPoint → NearestPoint
nearer best next = cond (lt next.distance (best.distance -ᶠ epsilon)) next best

unfoldable pub nearest_from : ℕ → Float → Point2 → NearestPoint → Point3 → List Point3 → NearestPoint
nearest_from i at to best p [] = best
nearest_from i at to best p (q ∷ ps) = nearest_from (suc i) (at +ᶠ distance3 p q) to (nearer best (candidate i at to p q)) q ps

unfoldable pub nearest_point : List Point3 → Point2 → Option NearestPoint
nearest_point [] to = None
nearest_point (p ∷ []) to = Some (record { point = p; distance = distance2 (xy p) to; station = zeroᶠ; segment = 0 })
nearest_point (p ∷ q ∷ ps) to = Some (nearest_from 1 (zeroᶠ +ᶠ distance3 p q) to (candidate 0 zeroᶠ to p q) q ps)

-- ---- slice, split_at

-- a point, if there is one, as a line
abbrev pub optional : Option Point3 → List Point3
optional None = []
optional (Some p) = p ∷ []

-- a point as a line, where asked
abbrev pub optionally : Bool → Point3 → List Point3
optionally true p = p ∷ []
optionally false p = []

-- between two stations, by more than EPSILON on either side
unfoldable pub inside : Float → Float → Float → Bool
inside from to here = lt (from +ᶠ epsilon) here && lt here (to -ᶠ epsilon)

-- The points inside; `at` is the station of the point before.
unfoldable pub inner : Float → Float → Float → Point3 → List Point3 → List Point3
inner from to at p [] = []
inner from to at p (q ∷ ps) = let here = at +ᶠ distance3 p q in optionally (inside from to here) q ++ inner from to here q ps

-- The first point, at station 0, is never past the start of a slice.
unfoldable pub between : Float → Float → List Point3 → List Point3
between from to [] = []
between from to (p ∷ ps) = inner from to zeroᶠ p ps

-- Document 01: "`slice` of an empty interval gives one point, of an empty line none."
unfoldable pub slice : List Point3 → Float → Float → List Point3
slice ps from to =
    let len = line_length ps in
    let a = clamp from zeroᶠ len in
    let b = clamp to zeroᶠ len in
    cond (ltb (length ps) 2 || le b a) (optional (point_at ps a)) (optional (point_at ps a) ++ (between a b ps ++ optional (point_at ps b)))

unfoldable pub first_piece : List Point3 → Float → List Point3
first_piece ps station = slice ps zeroᶠ station

unfoldable pub second_piece : List Point3 → Float → List Point3
second_piece ps station = slice ps station (line_length ps)

-- ---- resample_count, reversed, concat, centerline

-- the station of number i in a length cut into `parts` equal parts
unfoldable pub share : Float → ℕ → ℕ → Float
share len i parts = len *ᶠ of_int binary64 (pos i) /ᶠ of_int binary64 (pos parts)

-- `k` points from number i on, of a line that is cut into `parts` equal parts.
unfoldable pub resample_from : List Point3 → ℕ → ℕ → ℕ → List Point3
resample_from ps parts i zero = []
resample_from ps parts i (suc k) = optional (point_at ps (share (line_length ps) i parts)) ++ resample_from ps parts (suc i) k

unfoldable pub resample_count : List Point3 → ℕ → List Point3
resample_count ps count = let n = max count 2 in resample_from ps (n - 1) 0 n

-- Document 01: "`concat` drops the second line's first point only if the end distance is under 1e-6, and never averages." `join` is that 1e-6.
-- How many points of the second line are dropped: 1, or 0 where a line is empty or they do not meet.
unfoldable pub meeting : Float → Option Point3 → Option Point3 → ℕ
meeting join None end = 0
meeting join (Some p) None = 0
meeting join (Some p) (Some q) = cond (lt (distance3 p q) join) 1 0

unfoldable pub skipped : Float → List Point3 → List Point3 → ℕ
skipped join ps qs = meeting join (last ps) (first qs)

unfoldable pub concat : Float → List Point3 → List Point3 → List Point3
concat join ps qs = ps ++ drop (skipped join ps qs) qs

-- half way between two points, if both are there
unfoldable pub middle : Option Point3 → Option Point3 → Option Point3
middle None q = None
middle (Some p) None = None
middle (Some p) (Some q) = Some (lerp3 p q halfᶠ)

-- Document 01: "`centerline` resamples both sides to the larger point count, at least 2." Nothing where a side is empty.
unfoldable pub centerline : List Point3 → List Point3 → List Point3
centerline [] right = []
centerline (p ∷ left) [] = []
centerline (p ∷ left) (q ∷ right) =
    let n = max (length (p ∷ left)) (length (q ∷ right)) in
    zip_with (λ a b. lerp3 a b halfᶠ) (resample_count (p ∷ left) n) (resample_count (q ∷ right) n)
