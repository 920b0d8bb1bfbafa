-- Which rules that name a cut lane have an anchor, and past which cuts it lies, as marks: one a rule, and 64 a rule, one for each place of its own lanes.
-- Nothing that a host calls rests on this page; the laws of split_named tie it to the rules.
use Rattle.std.specs.Prelude.{◌≡◌, ℕ, suc, ◌*◌, ◌≤◌, ◌<◌, Bool, true, false, cond, List, [], ◌∷◌, map, Float, length, get_or, Option, None, Some}
use Rattle.lists.specs.Rows.{over, row_with}
use Rattle.lists.specs.Select.{any, ascending, has}
use Rattle.geometry.specs.Float.{zeroᶠ}
use Rattle.rules.specs.Names.{Point2}
use Rattle.rules.specs.Map.{rule_anchor}
use Rattle.rules.specs.Limits.{max_ids, max_rules}
use Rattle.tables.specs.View.{word, ids_at, rows, rule_of}
use Rattle.tables.specs.Formed.{counted, rule_formed}
use Rattle.tables.specs.Columns.{lane_words, row_count, rule_lanes_at, rule_words}
use Rattle.row_tests.specs.Good.{all_rows}
use Rattle.lookup.specs.Lookup.{place_of, row_at, crossed, Crossable, Drawable}
use Rattle.split_half.specs.Half.{row_past}

-- ---- a rule

-- the cut lane at place r among the cut ones, in row i of the lanes: the anchor lies past its cut
abbrev pub found_past : Float → List Float → List ℕ → List ℕ → Point2 → Float → Point2 → Option ℕ → Bool
found_past join c lanes boundaries p s anchor (Some i) = row_past join c lanes boundaries p i s anchor
found_past join c lanes boundaries p s anchor None = false

abbrev pub rank_past : Float → List Float → List ℕ → List ℕ → Point2 → List Float → Point2 → ℕ → Option ℕ → Bool
rank_past join c lanes boundaries p stations anchor id (Some r) = found_past join c lanes boundaries p (get_or stations r zeroᶠ) anchor (place_of lane_words lanes id)
rank_past join c lanes boundaries p stations anchor id None = false

-- a lane of the rule is cut, and the anchor lies past its cut
abbrev pub lane_past : Float → List Float → List ℕ → List ℕ → Point2 → List ℕ → List Float → Point2 → ℕ → Bool
lane_past join c lanes boundaries p cut stations anchor id = rank_past join c lanes boundaries p stations anchor id (row_with id cut)

-- the anchor of a rule that names a cut lane
abbrev pub anchor_of : List Float → List ℕ → List ℕ → List ℕ → List ℕ → Option Point2
anchor_of c stops crosswalks cut w = cond (any (λ i. has i cut) (ids_at rule_lanes_at w)) (rule_anchor (crossed c stops crosswalks) (rule_of w)) None

abbrev pub is_there : {A : Type 0} → Option A → Bool
is_there None = false
is_there (Some a) = true

-- the marks of its own lanes
abbrev pub marks_by : Float → List Float → List ℕ → List ℕ → Point2 → List ℕ → List Float → Option Point2 → List ℕ → List Bool
marks_by join c lanes boundaries p cut stations None ids = []
marks_by join c lanes boundaries p cut stations (Some anchor) ids = map (lane_past join c lanes boundaries p cut stations anchor) ids

-- ---- all rules

abbrev pub anchored_by : List Float → List ℕ → List ℕ → List ℕ → List ℕ → List Bool
anchored_by c stops crosswalks cut rules = map (λ w. is_there (anchor_of c stops crosswalks cut w)) (rows rule_words (λ w. w) rules)

-- the marks of the rules from number i on, written over `past`
unfoldable pub past_from : Float → List Float → List ℕ → List ℕ → Point2 → List ℕ → List Float → List ℕ → List ℕ → ℕ → List (List ℕ) → List Bool → List Bool
past_from join c lanes boundaries p cut stations stops crosswalks i [] past = past
past_from join c lanes boundaries p cut stations stops crosswalks i (w ∷ ws) past =
    past_from join c lanes boundaries p cut stations stops crosswalks (suc i) ws
    (over past (i * max_ids) (marks_by join c lanes boundaries p cut stations (anchor_of c stops crosswalks cut w) (ids_at rule_lanes_at w)))

abbrev pub past_by : Float → List Float → List ℕ → List ℕ → Point2 → List ℕ → List Float → List ℕ → List ℕ → List ℕ → List Bool → List Bool
past_by join c lanes boundaries p cut stations stops crosswalks rules past =
    past_from join c lanes boundaries p cut stations stops crosswalks 0 (rows rule_words (λ w. w) rules) past

-- ---- what is asked

-- of the rule in row i, whose marks are `past`
pub record MarkingRow (c : List Float) (lanes boundaries cut : List ℕ) (stations : List Float) (rules : List ℕ) (i : ℕ) (stops crosswalks : List ℕ) (past : List Bool) : Type 0 where
  pub drawable : Drawable lanes boundaries c
  pub crossable : Crossable stops crosswalks c
  pub ascend : ascending cut ≡ true
  pub stationed : length cut ≤ length stations
  pub counts : counted max_rules rule_words rules ≡ true
  pub row : i < word row_count rules
  pub formed : rule_formed (row_at rule_words rules i) ≡ true
  pub marks : length past ≡ max_ids

-- of all
pub record Marking (c : List Float) (lanes boundaries cut : List ℕ) (stations : List Float) (rules stops crosswalks : List ℕ) (anchored past : List Bool) : Type 0 where
  pub drawable : Drawable lanes boundaries c
  pub crossable : Crossable stops crosswalks c
  pub ascend : ascending cut ≡ true
  pub stationed : length cut ≤ length stations
  pub counts : counted max_rules rule_words rules ≡ true
  pub formed : all_rows rule_words rule_formed rules ≡ true
  pub anchors : word row_count rules ≤ length anchored
  pub marks : word row_count rules * max_ids ≤ length past
