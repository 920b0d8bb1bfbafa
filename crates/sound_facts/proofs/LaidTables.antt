-- A table written back with other records: what is read from it, its marks, its count and its length; and of roads, junctions and rules, where there are as
-- many as there were. Assumes nothing.
use mathlib.Core.Path.{◌≡◌, ap, ◌∙◌}
use Prim.Native.Nat.{ℕ, ◌≤◌}
use mathlib.Core.Bool.{Bool, true, ◌&&◌}
use mathlib.Core.List.{List, map}
use lib.Dec.{leb}
use lib.ListN.{length, drop}
use borrow.Author.Tests.{leb-true}
use Rattle.lists.specs.Every.{all}
use Rattle.lists.proofs.Booleans.{and-fst, and-snd}
use Rattle.lists.proofs.Select.{map-itself}
use Rattle.entities.specs.Records.{Road, Junction, Rule}
use Rattle.rules.specs.Sound.{rule_legal}
use Rattle.tables.specs.View.{word, rows, road_of, junction_of, rule_of}
use Rattle.tables.specs.Formed.{counted, rule_formed}
use Rattle.row_tests.specs.Good.{all_rows}
use Rattle.row_tests.proofs.Tables.{table-some}
use Rattle.store.specs.Store.{road_onto, junction_onto, rule_onto, store_rows, packed}
use Rattle.store.proofs.Back.{TableFits, RuleFew, road_back, road_length, road_formed, junction_back, junction_length, junction_formed, rule-back, rule-length, rule-formed}
use Rattle.store.proofs.LaidTables.{all_true, rows-any, table-read, table-length, table_counted}
use Rattle.sound_facts.proofs.Stored.{rows-room}
use Rattle.sound_facts.proofs.Thinned.{few_ids, rule-few}

-- ---- a table written

-- a table v for t, with these records: what is read from it, its marks, its count and its length
pub record Wrote {B : Type 0} (limit s : ℕ) (dec : List ℕ → B) (marks : List ℕ → Bool) (rs : List B) (t v : List ℕ) : Type 0 where
  pub read : rows s dec v ≡ rs
  pub marked : all_rows s marks v ≡ true
  pub count : counted limit s v ≡ true
  pub long : length v ≡ length t

pub wrote : {R B : Type 0} (limit s : ℕ) (onto : List ℕ → R → List ℕ) (key : R → ℕ) (ok : List ℕ → R → Type 0) (dec : List ℕ → B) (marks : List ℕ → Bool) (f : R → B)
    → ((w : List ℕ) → length w ≡ s → (r : R) → ok w r → length (onto w r) ≡ s) → ((w : List ℕ) → length w ≡ s → (r : R) → ok w r → dec (onto w r) ≡ f r)
    → ((w : List ℕ) → length w ≡ s → (r : R) → ok w r → marks (onto w r) ≡ true) → (t : List ℕ) → counted limit s t ≡ true → (rs : List R) → length rs ≤ limit → TableFits R s key ok t rs
    → Wrote limit s dec marks (map f rs) t (store_rows s onto key t rs)
unfolding all_rows
wrote limit s onto key ok dec marks f long back marked t h rs few fits =
    let some = table-some limit s t h in
    record {
      read = table-read s onto ok long key t rs fits dec f back;
      marked = ap (all (λ b. b)) (table-read s onto ok long key t rs fits marks (λ r. true) marked) ∙ all_true rs;
      count = table_counted s onto ok long key t rs fits limit some few;
      long = table-length s onto ok long key t rs fits some;
    }

-- the same records, said otherwise
pub wrote_as : {B : Type 0} (limit s : ℕ) (dec : List ℕ → B) (marks : List ℕ → Bool) (rs qs : List B) (t v : List ℕ) → rs ≡ qs → Wrote limit s dec marks rs t v → Wrote limit s dec marks qs t v
wrote_as limit s dec marks rs qs t v e w = record { read = w.read ∙ e; marked = w.marked; count = w.count; long = w.long }

-- ---- roads, junctions and rules: as many as there were

-- room for as many records as there were
same-room : {R : Type 0} (limit s : ℕ) (key : R → ℕ) (good : R → Bool) (t : List ℕ) → counted limit s t ≡ true → (rs : List R) → length rs ≡ word 0 t → all good rs ≡ true
    → TableFits R s key (λ w r. good r ≡ true) t rs
same-room limit s key good t h rs n fit =
    record {
      held = rows-room limit s t h;
      room = rw n (rows-room limit s t h);
      rows = rows-any s good (packed s (map key rs) (word 0 t) (drop 1 t)) rs fit;
    }

pub roads-wrote : (t : List ℕ) → counted 256 68 t ≡ true → (rs : List Road) → length rs ≤ 256 → length rs ≡ word 0 t → all (λ r. leb (length r.lanes) 64) rs ≡ true
    → Wrote 256 68 road_of (λ w. leb (word 3 w) 64) rs t (store_rows 68 road_onto (λ r. r.id) t rs)
roads-wrote t h rs few n fit =
    let good : Road → Bool = λ r. leb (length r.lanes) 64 in
    let key : Road → ℕ = λ r. r.id in
    let v = store_rows 68 road_onto key t rs in
    wrote_as 256 68 road_of (λ w. leb (word 3 w) 64) (map (λ r. r) rs) rs t v (map-itself rs)
    (wrote 256 68 road_onto key (λ w r. good r ≡ true) road_of (λ w. leb (word 3 w) 64) (λ r. r) (λ w l r g. road_length w l r (leb-true (length r.lanes) 64 g))
    (λ w l r g. road_back w r) (λ w l r g. road_formed w r (leb-true (length r.lanes) 64 g)) t h rs few (same-room 256 68 key good t h rs n fit))

pub junctions-wrote : (t : List ℕ) → counted 256 69 t ≡ true → (js : List Junction) → length js ≤ 256 → length js ≡ word 0 t → all (λ j. leb (length j.lanes) 64) js ≡ true
    → Wrote 256 69 junction_of (λ w. leb (word 4 w) 64) js t (store_rows 69 junction_onto (λ j. j.id) t js)
junctions-wrote t h js few n fit =
    let good : Junction → Bool = λ j. leb (length j.lanes) 64 in
    let key : Junction → ℕ = λ j. j.id in
    let v = store_rows 69 junction_onto key t js in
    wrote_as 256 69 junction_of (λ w. leb (word 4 w) 64) (map (λ j. j) js) js t v (map-itself js)
    (wrote 256 69 junction_onto key (λ w j. good j ≡ true) junction_of (λ w. leb (word 4 w) 64) (λ j. j) (λ w l j g. junction_length w l j (leb-true (length j.lanes) 64 g))
    (λ w l j g. junction_back w j) (λ w l j g. junction_formed w j (leb-true (length j.lanes) 64 g)) t h js few (same-room 256 69 key good t h js n fit))

pub rules-wrote : (t : List ℕ) → counted 512 330 t ≡ true → (rs : List Rule) → length rs ≤ 512 → length rs ≡ word 0 t → all (λ r. few_ids r && rule_legal r) rs ≡ true
    → Wrote 512 330 rule_of rule_formed rs t (store_rows 330 rule_onto (λ r. r.id) t rs)
rules-wrote t h rs few n fit =
    let good : Rule → Bool = λ r. few_ids r && rule_legal r in
    let key : Rule → ℕ = λ r. r.id in
    let v = store_rows 330 rule_onto key t rs in
    let ids : (r : Rule) → good r ≡ true → RuleFew r = λ r g. rule-few r (and-fst (few_ids r) (rule_legal r) g) in
    wrote_as 512 330 rule_of rule_formed (map (λ r. r) rs) rs t v (map-itself rs)
    (wrote 512 330 rule_onto key (λ w r. good r ≡ true) rule_of rule_formed (λ r. r) (λ w l r g. rule-length w l r (ids r g))
    (λ w l r g. rule-back w l r (ids r g) (and-snd (few_ids r) (rule_legal r) g)) (λ w l r g. rule-formed w l r (ids r g)) t h rs few (same-room 512 330 key good t h rs n fit))
