-- The answer of `voldrekka_nearest_point`: five floats and a number.
use Rattle.polyline.specs.declared.NearestPoint.{NearestPoint}
use Rattle.std.specs.Prelude.{ℕ, Bool, true, false, List, [], ◌∷◌, Float, Option, None, Some}
use Rattle.geometry.specs.declared.Point3.{Point3}
use Rattle.polyline.specs.Polyline.{nearest_point}

abbrev pub nearest : List Point3 → Float → Float → Option NearestPoint
nearest ps x y = nearest_point ps (record { x = x; y = y })

-- Without room for the floats, the answer is that of a line without a point.
abbrev pub answered : Bool → Option NearestPoint → Option NearestPoint
answered true o = o
answered false o = None

-- the point, the distance, the station
abbrev pub floats : Option NearestPoint → List Float
floats None = []
floats (Some n) = n.point.x ∷ n.point.y ∷ n.point.z ∷ n.distance ∷ n.station ∷ []

abbrev pub segment_of : Option NearestPoint → ℕ
segment_of None = 0
segment_of (Some n) = n.segment
