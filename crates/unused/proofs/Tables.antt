-- The tables of a removal: rows that stay, and rows that forget the lane. Assumes nothing.
use mathlib.Core.Path.{◌≡◌, refl, sym, ap, ◌∙◌}
use Prim.Native.Nat.{ℕ}
use mathlib.Core.Bool.{Bool, true, false, not, ◌&&◌, ◌||◌}
use mathlib.Core.List.{List, ◌∷◌, map}
use lib.Dec.{eqb, leb}
use lib.Ieee.{Float}
use lib.ListN.{length, get_or, drop}
use Rattle.lists.specs.Rows.{reads, over, keys}
use Rattle.lists.specs.Select.{each, has, without}
use Rattle.lists.proofs.Rows.{mapped-reads}
use Rattle.lists.proofs.Select.{has-keep}
use Rattle.entities.specs.Records.{Lane}
use Rattle.rules.specs.Lane.{forgetting, road_lanes, junction_lanes, rule_lanes}
use Rattle.tables.specs.View.{Tables, word, rows, view, lane_of, road_of, junction_of, rule_of}
use Rattle.tables.specs.Formed.{formed, lane_formed, rule_formed}
use Rattle.row_tests.specs.Good.{all_rows}
use Rattle.row_tests.specs.Returned.{lane_at}
use Rattle.soundness.proofs.Back.{formed-parts}
use Rattle.lookup.specs.Lookup.{used_besides}
use Rattle.store.specs.Store.{lane_onto, road_onto, junction_onto, rule_onto, store}
use Rattle.store.specs.Rows.{on_rows, stays, kept_rows}
use Rattle.store.proofs.Rows.{table-agree}
use Rattle.store.proofs.Whole.{all-keyed}
use Rattle.store.proofs.Packing.{kept-passing, kept-room}
use Rattle.sound_facts.proofs.Stored.{formed-counts, rows-room, five-same}
use Rattle.sound_facts.proofs.Thinned.{Keeping, store-thinned}
use Rattle.laws.proofs.KeptRows.{keep-on}
use Rattle.laws.proofs.Remove.{removed}
use Rattle.mentions.specs.declared.Rows.TheVariants.{Lanes, Roads, Junctions, Rules}
use Rattle.mentions.specs.Naming.{forgets}
use Rattle.mentions.proofs.Records.{lane-forgets, road_forgets, junction_forgets, rule-forgets}
use Rattle.unused.specs.Parts.{gone_with}
use Rattle.unused.proofs.Lists.{goes, goes-alone}

-- ---- rows that stay

pub kept-alike : (s : ℕ) (p q : ℕ → Bool) (t : List ℕ) → ((i : ℕ) → has i (keys s (word 0 t) (drop 1 t)) ≡ true → p i ≡ q i) → kept_rows s p t ≡ kept_rows s q t
unfolding kept_rows rows keys
kept-alike s p q t e =
    let w = reads s (λ r. r) (word 0 t) (drop 1 t) in
    let ks : map (λ r. get_or r 0 0) w ≡ reads s (λ r. get_or r 0 0) (word 0 t) (drop 1 t) = mapped-reads s (λ (r : List ℕ). r) (λ (r : List ℕ). get_or r 0 0) (word 0 t) (drop 1 t) in
    ap (λ rs. length rs ∷ over (drop 1 t) 0 (each (λ r. r) rs))
    (keep-on (λ r. has (get_or r 0 0) (map (λ r. get_or r 0 0) w)) (λ r. p (word 0 r)) (λ r. q (word 0 r)) w (all-keyed (λ (r : List ℕ). get_or r 0 0) w)
    (λ r h. e (get_or r 0 0) (ap (has (get_or r 0 0)) (sym ks) ∙ h)))

-- ---- the whole

module _ (t : Tables) (h : formed t ≡ true) (a i : ℕ) (own : word 0 (lane_at t.lanes i) ≡ a) where
  abbrev c : List Float
  c = t.coordinates

  abbrev gone : Lane
  gone = lane_of c (lane_at t.lanes i)

  abbrev left : List ℕ
  left = gone_with t.lanes i t.boundaries

  keeping : Keeping (forgetting a) (road_lanes (without a)) (junction_lanes (without a)) (rule_lanes (without a) (without a))
  keeping = record { lanes = λ l. refl; centers = λ l. refl; roads = λ r. refl; junctions = λ j. refl; rules = λ r. refl }

  lanes-stay : kept_rows 52 (λ x. not (eqb x a)) t.lanes ≡ kept_rows 52 (stays a a) t.lanes
  lanes-stay = kept-alike 52 (λ x. not (eqb x a)) (stays a a) t.lanes (λ x k. once (eqb x a))
    where
      once : (b : Bool) → not b ≡ not (b || b)
      once true = refl
      once false = refl

  boundaries-stay : kept_rows 5 (λ x. not (goes a t i own x)) t.boundaries ≡ kept_rows 5 (λ x. not (has x left)) t.boundaries
  unfolding gone_with
  boundaries-stay =
      kept-alike 5 (λ x. not (goes a t i own x)) (λ x. not (has x left)) t.boundaries (λ x k.
      ap not (goes-alone a t i own x ∙ sym (has-keep x (λ b. (eqb (word 2 (lane_at t.lanes i)) b || eqb (word 4 (lane_at t.lanes i)) b) && not (used_besides t.lanes b (word 0 (lane_at t.lanes i)))) (keys 5 (word 0 t.boundaries) (drop 1 t.boundaries)) ∙ ap (λ z. z && ((eqb (word 2 (lane_at t.lanes i)) x || eqb (word 4 (lane_at t.lanes i)) x) && not (used_besides t.lanes x (word 0 (lane_at t.lanes i))))) k)))

  lanes-forget : on_rows 52 (λ w. lane_onto w (forgetting a (lane_of c w))) (kept_rows 52 (stays a a) t.lanes) ≡ on_rows 52 (forgets Lanes a) (kept_rows 52 (stays a a) t.lanes)
  unfolding forgets rows all_rows
  lanes-forget =
      let room = rows-room 1024 52 t.lanes (formed-counts t h).lanes in
      table-agree 52 lane_formed (λ w. lane_onto w (forgetting a (lane_of c w))) (forgets Lanes a) (lane-forgets a c) (kept_rows 52 (stays a a) t.lanes)
      (kept-room 52 (stays a a) t.lanes room) (kept-passing 52 (stays a a) t.lanes room lane_formed (formed-parts t h).lanes)

  roads-forget : on_rows 68 (λ w. road_onto w (road_lanes (without a) (road_of w))) t.roads ≡ on_rows 68 (forgets Roads a) t.roads
  unfolding forgets rows all_rows
  roads-forget =
      table-agree 68 (λ w. leb (word 3 w) 64) (λ w. road_onto w (road_lanes (without a) (road_of w))) (forgets Roads a) (road_forgets a) t.roads
      (rows-room 256 68 t.roads (formed-counts t h).roads) (formed-parts t h).roads

  junctions-forget : on_rows 69 (λ w. junction_onto w (junction_lanes (without a) (junction_of w))) t.junctions ≡ on_rows 69 (forgets Junctions a) t.junctions
  unfolding forgets rows all_rows
  junctions-forget =
      table-agree 69 (λ w. leb (word 4 w) 64) (λ w. junction_onto w (junction_lanes (without a) (junction_of w))) (forgets Junctions a) (junction_forgets a) t.junctions
      (rows-room 256 69 t.junctions (formed-counts t h).junctions) (formed-parts t h).junctions

  rules-forget : on_rows 330 (λ w. rule_onto w (rule_lanes (without a) (without a) (rule_of w))) t.rules ≡ on_rows 330 (forgets Rules a) t.rules
  unfolding forgets rows all_rows
  rules-forget =
      table-agree 330 rule_formed (λ w. rule_onto w (rule_lanes (without a) (without a) (rule_of w))) (forgets Rules a) (rule-forgets a) t.rules
      (rows-room 512 330 t.rules (formed-counts t h).rules) (formed-parts t h).rules

  -- the five tables that a removal changes
  pub tables-left : store t (removed a gone (view t)) ≡ record {
    lanes = on_rows 52 (forgets Lanes a) (kept_rows 52 (stays a a) t.lanes);
    boundaries = kept_rows 5 (λ x. not (has x left)) t.boundaries;
    roads = on_rows 68 (forgets Roads a) t.roads;
    junctions = on_rows 69 (forgets Junctions a) t.junctions;
    rules = on_rows 330 (forgets Rules a) t.rules;
    stop_lines = t.stop_lines;
    crosswalks = t.crosswalks;
    coordinates = t.coordinates;
  }
  tables-left =
      store-thinned t h (λ x. not (eqb x a)) (λ x. not (goes a t i own x)) (forgetting a) (road_lanes (without a)) (junction_lanes (without a)) (rule_lanes (without a) (without a)) keeping
      ∙ five-same t.stop_lines t.crosswalks c (ap (on_rows 52 (λ w. lane_onto w (forgetting a (lane_of c w)))) lanes-stay ∙ lanes-forget) boundaries-stay roads-forget junctions-forget rules-forget
