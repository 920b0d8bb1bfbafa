-- The pairs that are read of a list of entities are their kinds' numbers and ids. Assumes nothing.
use mathlib.Core.Path.{◌≡◌, refl, ap}
use mathlib.Core.List.{List, [], ◌∷◌, ◌++◌, map}
use Prim.Native.Nat.{ℕ, ◌+◌}
use lib.ListN.{length, drop}
use Rattle.lists.specs.Rows.{reads, over}
use Rattle.lists.specs.Select.{each}
use Rattle.entities.specs.Types.{kind_number}
use Rattle.rules.specs.Names.{EntityRef}
use Rattle.report.specs.Report.{entity_words, listed}
use Rattle.job_marks.specs.Marks.{pairs_in}

abbrev pub pair_of : EntityRef → ℕ × ℕ
pair_of e = (kind_number e.kind, e.id)

pairs-before : (es : List EntityRef) (w : List ℕ) → pairs_in (length es) (each entity_words es ++ w) ≡ map pair_of es
unfolding pairs_in reads each
pairs-before [] w = refl
pairs-before (e ∷ es) w = ap (λ ps. pair_of e ∷ ps) (pairs-before es w)

pub pairs_of : (w : List ℕ) (es : List EntityRef) → pairs_in (length es) (listed w es) ≡ map (λ e. (kind_number e.kind, e.id)) es
unfolding listed over
pairs_of w es = pairs-before es (drop (0 + length (each entity_words es)) w)
