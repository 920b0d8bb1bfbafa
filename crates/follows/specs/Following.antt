-- Rules whose own lanes follow their anchors where lanes are cut, in words. Of each rule there are 64 marks, one for each place of its own lanes: the anchor lies
-- past the cut of the lane there. Nothing that a host calls rests on this page; the laws of split_named tie it to the rules.
use Rattle.std.specs.Prelude.{◌≡◌, ℕ, zero, suc, ◌*◌, ◌≤◌, Bool, true, false, ◌&&◌, ◌||◌, cond, List, [], ◌∷◌, ◌++◌, eqb, leb, length, get_or, take, drop}
use Rattle.lists.specs.Select.{any, ascending, has, insert_after, numbered}
use Rattle.rules.specs.Limits.{max_ids, max_rules, right_of_way}
use Rattle.rules.specs.Turns.{swap_first}
use Rattle.tables.specs.View.{word, ids_at, rows}
use Rattle.tables.specs.Formed.{counted, rule_formed}
use Rattle.tables.specs.Columns.{row_count, rule_kind, rule_lanes_at, rule_priority_at, rule_words, rule_yielding_at}
use Rattle.row_tests.specs.Good.{all_rows}
use Rattle.lookup.specs.Lookup.{row_at}
use Rattle.mentions.specs.Naming.{rule_changes}
use Rattle.grows.specs.Growing.{Numbered, list_grows}

-- the place of the first i of a list, or its length
unfoldable pub first_place : ℕ → List ℕ → ℕ
first_place i [] = 0
first_place i (x ∷ xs) = let rest = first_place i xs in cond (eqb x i) 0 (suc rest)

abbrev pub pair : ℕ → ℕ → List ℕ
pair i j = i ∷ j ∷ []

-- one cut lane i with second half j: without an anchor j comes behind the first i, with one it takes its place where the mark says so
abbrev pub followed : Bool → List Bool → ℕ → ℕ → List ℕ → List ℕ
followed anchored past i j ids =
    cond anchored (cond (has i ids && get_or past (first_place i ids) false) (swap_first i (j ∷ []) ids) ids) (swap_first i (pair i j) ids)

-- all cut lanes, in their order; `next` is the first one's second half
unfoldable pub followed_all : Bool → List Bool → ℕ → List ℕ → List ℕ → List ℕ
followed_all anchored past next [] ids = ids
followed_all anchored past next (i ∷ cut) ids = followed_all anchored past (suc next) cut (followed anchored past i next ids)

-- a rule's row
abbrev pub rule_follows : Bool → List Bool → ℕ → List ℕ → List ℕ → List ℕ
rule_follows anchored past next cut w = rule_changes (followed_all anchored past next cut) (insert_after (numbered next cut)) w

-- the marks of the rule in row i
abbrev pub marks_of : List Bool → ℕ → List Bool
marks_of past i = take max_ids (drop (i * max_ids) past)

-- rows from number i on, each by its number
unfoldable pub map_numbered : ℕ → (ℕ → List ℕ → List ℕ) → ℕ → ℕ → List ℕ → List ℕ
map_numbered s g i zero w = w
map_numbered s g i (suc n) w = g i (take s w) ++ map_numbered s g (suc i) n (drop s w)

-- every row of a table changed by its number
unfoldable pub on_numbered : ℕ → (ℕ → List ℕ → List ℕ) → List ℕ → List ℕ
on_numbered s g t = word row_count t ∷ map_numbered s g 0 (word row_count t) (drop 1 t)

-- the table of rules
abbrev pub rules_follow : List Bool → List Bool → ℕ → List ℕ → List ℕ → List ℕ
rules_follow anchored past next cut t = on_numbered rule_words (λ i w. rule_follows (get_or anchored i false) (marks_of past i) next cut w) t

-- ---- which rules differ

-- some cut lane stands in the list and changes it: where there is an anchor, the mark of its first place says so
abbrev pub own_differ : Bool → List Bool → List ℕ → List ℕ → Bool
own_differ anchored past cut ids = any (λ i. has i ids && cond anchored (get_or past (first_place i ids) false) true) cut

-- a rule's row: its own lanes, and of a right of way those that have priority and those that yield
abbrev pub row_differs : Bool → List Bool → List ℕ → List ℕ → Bool
row_differs anchored past cut w =
    own_differ anchored past cut (ids_at rule_lanes_at w)
    || (eqb (word rule_kind w) right_of_way && (any (λ i. has i cut) (ids_at rule_priority_at w) || any (λ i. has i cut) (ids_at rule_yielding_at w)))

-- ---- what is asked

-- room for the second halves
abbrev pub rule_room : Bool → List Bool → ℕ → List ℕ → List ℕ → Bool
rule_room anchored past next cut w =
    rule_formed w
    && (leb (length (followed_all anchored past next cut (ids_at rule_lanes_at w))) max_ids
    && cond (eqb (word rule_kind w) right_of_way) (list_grows next cut rule_priority_at w && list_grows next cut rule_yielding_at w) true)

pub record Follows (anchored past : List Bool) (next : ℕ) (cut t : List ℕ) : Type 0 where
  pub numbers : Numbered next cut
  pub counts : counted max_rules rule_words t ≡ true
  pub anchors : word row_count t ≤ length anchored
  pub marks : word row_count t * max_ids ≤ length past
  pub rows : (i : ℕ) → suc i ≤ word row_count t → rule_room (get_or anchored i false) (marks_of past i) next cut (row_at rule_words t i) ≡ true

-- ---- which differ

-- whether each rule does, from number i on
unfoldable pub marks_from : List Bool → List Bool → List ℕ → ℕ → List (List ℕ) → List Bool
marks_from anchored past cut i [] = []
marks_from anchored past cut i (w ∷ ws) = row_differs (get_or anchored i false) (marks_of past i) cut w ∷ marks_from anchored past cut (suc i) ws

abbrev pub rule_marks : List Bool → List Bool → List ℕ → List ℕ → List Bool
rule_marks anchored past cut t = marks_from anchored past cut 0 (rows rule_words (λ w. w) t)

pub record Marking (anchored past : List Bool) (cut t : List ℕ) (marks : List Bool) : Type 0 where
  pub ascend : ascending cut ≡ true
  pub counts : counted max_rules rule_words t ≡ true
  pub formed : all_rows rule_words rule_formed t ≡ true
  pub anchors : word row_count t ≤ length anchored
  pub places : word row_count t * max_ids ≤ length past
  pub room : word row_count t ≤ length marks
