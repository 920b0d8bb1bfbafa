-- When `voldrekka_split_at` writes.
use Rattle.std.specs.Prelude.{ℕ, ◌+◌, ◌*◌, Bool, List, leb, length, Float}
use Rattle.geometry.specs.declared.Point3.{Point3}
use Rattle.polyline.specs.Polyline.{first_piece, second_piece}

-- `n` floats have room for both pieces.
unfoldable pub pieces_fit : List Point3 → Float → ℕ → Bool
pieces_fit ps station n = leb ((length (first_piece ps station) + length (second_piece ps station)) * 3) n
