-- The tables of a sound map are counted and their ids ascend. Assumes nothing.
use mathlib.Core.Path.{◌≡◌, ap, ◌∙◌}
use mathlib.Core.List.{List}
use mathlib.Core.Bool.{true}
use Prim.Native.Nat.{ℕ}
use lib.ListN.{drop}
use Rattle.lists.specs.Rows.{keys}
use Rattle.lists.specs.Select.{ascending}
use Rattle.lists.proofs.Booleans.{and_both, and-fst, and-snd}
use Rattle.rules.specs.Sound.{sound}
use Rattle.rules.proofs.Facts.{sound-facts}
use Rattle.laws.proofs.Entities.{keys_of}
use Rattle.tables.specs.View.{Tables, view, word}
use Rattle.tables.specs.Formed.{counted, formed, sound_tables}
use Rattle.lookup.specs.Lookup.{sorted_table}
use Rattle.soundness.proofs.Counts.{counts}
use Rattle.soundness.proofs.Back.{formed-parts}
use Rattle.job_marks.specs.Marks.{sorted_tables}
use Rattle.job_marks.proofs.Sorted.{all-sorted}
use Rattle.job_net.proofs.Lists.{bare, boundary-ids, crosswalk-ids, junction_ids, lane-ids, road_ids, rule-ids, sorted-bare, stop-line-ids}

sorted_of : (limit s : ℕ) (t : List ℕ) (ids : List ℕ) → counted limit s t ≡ true → keys s (word 0 t) (drop 1 t) ≡ ids → ascending ids ≡ true → sorted_table limit s t ≡ true
unfolding sorted_table
sorted_of limit s t ids c e a = and_both (counted limit s t) (ascending (keys s (word 0 t) (drop 1 t))) c (ap ascending e ∙ a)

pub sound-sorted : (counter : ℕ) (t : Tables) → sound_tables counter t ≡ true → sorted_tables (bare t) ≡ true
unfolding sound_tables
sound-sorted counter t h =
    let f = counts t (formed-parts t (and-fst (formed t) (sound counter (view t)) h)).counts in
    let k = keys_of (view t) (sound-facts counter (view t) (and-snd (formed t) (sound counter (view t)) h)).ids in
    sorted-bare t
    (all-sorted t (sorted_of 1024 52 t.lanes _ f.lanes (lane-ids t) k.lanes-up) (sorted_of 4096 5 t.boundaries _ f.boundaries (boundary-ids t) k.boundaries-up)
    (sorted_of 256 68 t.roads _ f.roads (road_ids t) k.roads-up) (sorted_of 256 69 t.junctions _ f.junctions (junction_ids t) k.junctions-up)
    (sorted_of 512 4 t.stop_lines _ f.stop_lines (stop-line-ids t) k.stop-lines-up) (sorted_of 128 7 t.crosswalks _ f.crosswalks (crosswalk-ids t) k.crosswalks-up)
    (sorted_of 512 330 t.rules _ f.rules (rule-ids t) k.rules-up))
