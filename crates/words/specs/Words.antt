-- A command and an answer as a host's numbers. Every row of words is a command: a word past the row's end is 0, and every number means something.
use Rattle.entities.specs.declared.EntityRef.{EntityRef}
use Rattle.entities.specs.declared.Neighbor.{Neighbor}
use Rattle.std.specs.Prelude.{ℕ, suc, not, cond, List, eqb, Option, None, Some, Err, Ok, unwrap_or}
use Rattle.std.specs.Float.{binary64}
use Rattle.std.specs.Float.Ieee.{of_bits}
use Rattle.entities.specs.declared.SplitAt.{SplitAt}
use Rattle.entities.specs.declared.SplitAt.TheVariants.{Fraction, Station}
use Rattle.entities.specs.declared.Side.{Side}
use Rattle.entities.specs.declared.Side.TheVariants.{Left, Right}
use Rattle.entities.specs.Types.{same, opposing, kind_number}
use Rattle.rules.specs.Ops.{Command, SplitLane, MergeLanes, ConnectLanes, DisconnectLanes, SetNeighbor, RemoveLane}
use Rattle.tables.specs.View.{word}
use Rattle.report.specs.Report.{answer_number, answer_entity, answer_counts, counter_behind, Answer, changed, divided}
use Rattle.words.specs.declared.Told.{Told}

-- ---- a command: its number, then up to four words

-- 0 is a fraction, any other number a station; the double by its bits
abbrev pub split_at_of : ℕ → ℕ → SplitAt
split_at_of kind bits = cond (eqb kind 0) (Fraction (of_bits binary64 bits)) (Station (of_bits binary64 bits))

-- 0 is left, any other number right
abbrev pub side_of : ℕ → Side
side_of n = cond (eqb n 0) Left Right

-- a slot's mark and lane: 0 is no neighbour, 1 one of the same direction, any other number one of the opposite direction
abbrev pub neighbor_of : ℕ → ℕ → Option Neighbor
neighbor_of m l = cond (eqb m 0) None (cond (eqb m 1) (Some (same l)) (Some (opposing l)))

-- 0 split: lane, kind of place, bits, with neighbours or not; 1 merge: first, second; 2 connect and 3 disconnect: from, to;
-- 4 set_neighbor: lane, side, mark, neighbour; any other number, remove: lane
unfoldable pub command_by : ℕ → ℕ → ℕ → ℕ → ℕ → Command
command_by n lane b c d =
    cond (eqb n 0) (SplitLane lane (split_at_of b c) (not (eqb d 0)))
    (cond (eqb n 1) (MergeLanes lane b)
    (cond (eqb n 2) (ConnectLanes lane b)
    (cond (eqb n 3) (DisconnectLanes lane b) (cond (eqb n 4) (SetNeighbor lane (side_of b) (neighbor_of c d)) (RemoveLane lane)))))

abbrev pub command_of : List ℕ → Command
command_of w = command_by (word 0 w) (word 1 w) (word 2 w) (word 3 w) (word 4 w)

-- ---- an answer

-- an entity's kind + 1, or 0; and its id, or 0
abbrev pub kind_word : Option EntityRef → ℕ
kind_word None = 0
kind_word (Some e) = suc (kind_number e.kind)

abbrev pub id_word : Option EntityRef → ℕ
id_word None = 0
id_word (Some e) = e.id

-- the second half of a split lane, or 0
abbrev pub second_word : Answer → ℕ
second_word (Ok change) = unwrap_or change.second 0
second_word (Err r) = 0

-- the paper's number, the entity, the four counts, the second half, and the counter behind the call that had `counter`
abbrev pub told : ℕ → Answer → Told
told counter a =
    record {
      number = answer_number a;
      kind = kind_word (answer_entity a);
      id = id_word (answer_entity a);
      created = (answer_counts a).created;
      modified = (answer_counts a).modified;
      deleted = (answer_counts a).deleted;
      warnings = (answer_counts a).warnings;
      second = second_word a;
      counter = counter_behind counter a;
    }
