-- The tables without lines that a merge leaves: roads and junctions without the second lane, rules in which it reads as the first. Assumes nothing.
use mathlib.Core.Path.{◌≡◌, refl, ◌∙◌}
use Prim.Native.Nat.{ℕ}
use mathlib.Core.Bool.{true}
use mathlib.Core.List.{map}
use lib.Dec.{leb}
use Rattle.lists.specs.Select.{without}
use Rattle.rules.specs.Lane.{road_lanes, junction_lanes, rule_lanes}
use Rattle.rules.specs.Merge.{replace_lane}
use Rattle.tables.specs.View.{Tables, word, rows, view, road_of, junction_of, rule_of}
use Rattle.tables.specs.Formed.{formed, rule_formed}
use Rattle.row_tests.specs.Good.{all_rows}
use Rattle.soundness.proofs.Back.{formed-parts}
use Rattle.store.specs.Store.{road_onto, junction_onto, rule_onto, store_rows}
use Rattle.store.specs.Rows.{on_rows}
use Rattle.store.proofs.Rows.{table-agree}
use Rattle.store.proofs.Whole.{store-changed}
use Rattle.sound_facts.proofs.Stored.{formed-counts, rows-room}
use Rattle.mentions.specs.declared.Rows.TheVariants.{Roads, Junctions}
use Rattle.mentions.specs.Naming.{forgets, rule_replaces}
use Rattle.mentions.proofs.Records.{road_forgets, junction_forgets, rule-replaces}

module _ (t : Tables) (h : formed t ≡ true) (a b : ℕ) where
  pub roads-forget : store_rows 68 road_onto (λ r. r.id) t.roads (map (road_lanes (without b)) (view t).roads) ≡ on_rows 68 (forgets Roads b) t.roads
  unfolding forgets rows all_rows view on_rows
  roads-forget =
      let room = rows-room 256 68 t.roads (formed-counts t h).roads in
      store-changed 68 road_onto (λ r. r.id) road_of t.roads room (road_lanes (without b)) (λ w. unfold road_of in refl)
      ∙ table-agree 68 (λ w. leb (word 3 w) 64) (λ w. road_onto w (road_lanes (without b) (road_of w))) (forgets Roads b) (road_forgets b) t.roads room (formed-parts t h).roads

  pub junctions-forget : store_rows 69 junction_onto (λ j. j.id) t.junctions (map (junction_lanes (without b)) (view t).junctions) ≡ on_rows 69 (forgets Junctions b) t.junctions
  unfolding forgets rows all_rows view on_rows
  junctions-forget =
      let room = rows-room 256 69 t.junctions (formed-counts t h).junctions in
      store-changed 69 junction_onto (λ j. j.id) junction_of t.junctions room (junction_lanes (without b)) (λ w. unfold junction_of in refl)
      ∙ table-agree 69 (λ w. leb (word 4 w) 64) (λ w. junction_onto w (junction_lanes (without b) (junction_of w))) (forgets Junctions b) (junction_forgets b) t.junctions room (formed-parts t h).junctions

  pub rules-replace : store_rows 330 rule_onto (λ r. r.id) t.rules (map (rule_lanes (replace_lane a b) (replace_lane a b)) (view t).rules) ≡ on_rows 330 (rule_replaces a b) t.rules
  unfolding rows all_rows view on_rows
  rules-replace =
      let room = rows-room 512 330 t.rules (formed-counts t h).rules in
      store-changed 330 rule_onto (λ r. r.id) rule_of t.rules room (rule_lanes (replace_lane a b) (replace_lane a b)) (λ w. unfold rule_of in refl)
      ∙ table-agree 330 rule_formed (λ w. rule_onto w (rule_lanes (replace_lane a b) (replace_lane a b) (rule_of w))) (rule_replaces a b) (rule-replaces a b) t.rules room (formed-parts t h).rules
