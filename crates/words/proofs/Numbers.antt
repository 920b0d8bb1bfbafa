-- Words of kinds, of rows and of answers. Assumes nothing.
use Rattle.std.specs.Prelude.{Option}
use Rattle.entities.specs.declared.EntityRef.{EntityRef}
use mathlib.Core.Path.{◌≡◌, refl}
use Prim.Native.Nat.{ℕ, zero, suc, ◌≤◌}
use native.Mathlib.Omega.{arith}
use mathlib.Core.List.{List, [], ◌∷◌}
use lib.ListN.{length, get_or}
use Rattle.entities.specs.declared.EntityKind.{EntityKind}
use Rattle.entities.specs.declared.EntityKind.TheVariants as K
use Rattle.entities.specs.Types.{kind_number}
use Rattle.report.specs.Report.{answer_number, answer_entity, answer_counts, counter_behind, Answer}
use Rattle.report.specs.declared.Counts.{Counts}
use Rattle.words.specs.declared.Told.{Told}
use Rattle.words.specs.Words.{kind_word, id_word, second_word, told}

pub kind-small : (k : EntityKind) → kind_number k ≤ 7
kind-small K.Lane = omega arith
kind-small K.Boundary = omega arith
kind-small K.Road = omega arith
kind-small K.Junction = omega arith
kind-small K.StopLine = omega arith
kind-small K.TrafficSignal = omega arith
kind-small K.Crosswalk = omega arith
kind-small K.RegulatoryElement = omega arith

-- a word past the end of a row
pub past_end : (w : List ℕ) (k : ℕ) → length w ≤ k → 0 ≡ get_or w k 0
past_end [] k h = refl
past_end (x ∷ w) zero h = omega arith
past_end (x ∷ w) (suc k) h = past_end w k (omega arith)

-- an answer's numbers, one by one
pub all_told : (counter : ℕ) (a : Answer) (e : Option EntityRef) (n : Counts) {number kind id second next : ℕ} → e ≡ answer_entity a → n ≡ answer_counts a → number ≡ answer_number a
    → kind ≡ kind_word e → id ≡ id_word e → second ≡ second_word a → next ≡ counter_behind counter a
    → ◌≡◌ {A = Told}
    (record {
      number = number;
      kind = kind;
      id = id;
      created = n.created;
      modified = n.modified;
      deleted = n.deleted;
      warnings = n.warnings;
      second = second;
      counter = next;
    })
    (told counter a)
all_told counter a e n p q r s t u v = rw (r, s, t, u, v, p, q)
