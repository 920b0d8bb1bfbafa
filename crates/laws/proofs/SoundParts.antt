-- Facts of a sound map, part by part: its ids, its lines, its boundaries' kinds and handles. Assumes nothing.
use mathlib.Core.Path.{◌≡◌, sym, ◌∙◌}
use mathlib.Core.Bool.{Bool, true, false, ◌&&◌, ◌||◌, true≢false}
use mathlib.Core.List.{List, ◌∷◌, ◌++◌, map}
use Prim.Native.Nat.{ℕ, ◌<◌, ◌≤◌}
use native.Mathlib.Nat.{le-max_left}
use native.Mathlib.Omega.{arith}
use lib.Dec.{eqb, ltb, leb}
use borrow.Author.Tests.{ne_eqb}
use Rattle.lists.specs.Every.{all}
use Rattle.lists.specs.Select.{each}
use Rattle.lists.proofs.Booleans.{and-fst, and-snd}
use Rattle.lists.proofs.Every.{all_split}
use Rattle.lists.proofs.Select.{all_map, all-each, all-weaken}
use Rattle.geometry.specs.Point.{in_reach}
use Rattle.entities.specs.Records.{Line, Map}
use Rattle.rules.specs.Map.{lane_ids}
use Rattle.rules.specs.Sound.{lines, optional_line, ids_named, lane_names, rule_names, next_id, last_counter, counter_above, lines_in_reach, kinds_legal, rule_legal, handles_legal, handle_width, speed_legal}
use Rattle.laws.proofs.Keeps.{other_names}
use Rattle.laws.proofs.SplitNames.{lane-parts}

-- ---- general

-- a test of two lists, taken apart
all-front : {A : Type 0} (p : A → Bool) (xs ys : List A) → all p (xs ++ ys) ≡ true → all p xs ≡ true
all-front p xs ys h = and-fst (all p xs) (all p ys) (sym (all_split p xs ys) ∙ h)

all-behind : {A : Type 0} (p : A → Bool) (xs ys : List A) → all p (xs ++ ys) ≡ true → all p ys ≡ true
all-behind p xs ys h = and-snd (all p xs) (all p ys) (sym (all_split p xs ys) ∙ h)

-- the ids and the lines behind the first ones
abbrev behind : Map → List ℕ
behind m =
    each (λ r. r.id ∷ r.lanes) m.roads
    ++ (each (λ j. j.id ∷ j.lanes) m.junctions
    ++ (each rule_names m.rules ++ (map (λ s. s.id) m.stop_lines ++ map (λ c. c.id) m.crosswalks)))

abbrev behind_centers : Map → List Line
behind_centers m = map (λ s. s.geometry) m.stop_lines ++ (map (λ c. c.left_edge) m.crosswalks ++ map (λ c. c.right_edge) m.crosswalks)

abbrev behind_boundaries : Map → List Line
behind_boundaries m = each (λ l. optional_line l.centerline) m.lanes ++ behind_centers m

-- ---- ids

-- with a counter that is not the last, every id named is below the next
pub names-below : (counter : ℕ) (m : Map) (last : ℕ) → last ≡ last_counter → next_id counter < last → counter_above counter m ≡ true
    → all (λ i. ltb i (next_id counter)) (ids_named m) ≡ true
unfolding counter_above
names-below counter m last e l h = go (eqb counter last_counter) (ne_eqb counter last_counter (λ u. below counter (next_id counter) last (le-max_left counter 1) l (u ∙ sym e))) h
  where
    below : (a b c : ℕ) → a ≤ b → b < c → a ≡ c → ⊥
    below a b c p q r = omega arith

    go : (b : Bool) → b ≡ false → (b || all (λ i. ltb i (next_id counter)) (ids_named m)) ≡ true → all (λ i. ltb i (next_id counter)) (ids_named m) ≡ true
    go false q t = t
    go true q t = absurd (true≢false q)

module _ (p : ℕ → Bool) (m : Map) (h : all p (ids_named m) ≡ true) where
  pub names-lanes : all (λ l. all p (lane_names l)) m.lanes ≡ true
  unfolding ids_named
  names-lanes = sym (all-each p lane_names m.lanes) ∙ all-front p (each lane_names m.lanes) (other_names m) h

  pub names-boundaries : all p (map (λ b. b.id) m.boundaries) ≡ true
  unfolding ids_named
  names-boundaries = all-front p (map (λ b. b.id) m.boundaries) (behind m) (all-behind p (each lane_names m.lanes) (other_names m) h)

  pub names-own : all (λ l. p l.id) m.lanes ≡ true
  names-own = all-weaken (λ l. all p (lane_names l)) (λ l. p l.id) m.lanes (λ l t. (lane-parts p l t).own) names-lanes

  pub names-ids : all p (lane_ids m) ≡ true
  names-ids = all_map p (λ l. l.id) m.lanes ∙ names-own

  pub names-before : all (λ l. all p l.predecessors) m.lanes ≡ true
  names-before = all-weaken (λ l. all p (lane_names l)) (λ l. all p l.predecessors) m.lanes (λ l t. (lane-parts p l t).before) names-lanes

-- ---- lines

module _ (m : Map) (h : lines_in_reach m ≡ true) where
  pub reach-boundaries : all (λ b. all in_reach b.geometry) m.boundaries ≡ true
  unfolding lines_in_reach lines
  reach-boundaries = sym (all_map (all in_reach) (λ b. b.geometry) m.boundaries) ∙ all-front (all in_reach) (map (λ b. b.geometry) m.boundaries) (behind_boundaries m) h

  pub reach-centers : all (λ l. all (all in_reach) (optional_line l.centerline)) m.lanes ≡ true
  unfolding lines_in_reach lines
  reach-centers =
      sym (all-each (all in_reach) (λ l. optional_line l.centerline) m.lanes)
      ∙ all-front (all in_reach) (each (λ l. optional_line l.centerline) m.lanes) (behind_centers m)
      (all-behind (all in_reach) (map (λ b. b.geometry) m.boundaries) (behind_boundaries m) h)

-- ---- boundaries' kinds and handles

pub kinds-boundaries : (m : Map) → kinds_legal m ≡ true → all (λ b. leb b.kind 13) m.boundaries ≡ true
unfolding kinds_legal
kinds-boundaries m h =
    middle (all (λ l. leb l.kind 7 && leb l.turn_direction 3) m.lanes) (all (λ b. leb b.kind 13) m.boundaries) (all rule_legal m.rules) h
  where
    middle : (a b c : Bool) → (a && b && c) ≡ true → b ≡ true
    middle a b c t = and-snd a b (and-fst (a && b) c t)

pub handles_boundaries : (m : Map) → handles_legal m ≡ true → all (λ b. ltb b.attributes handle_width) m.boundaries ≡ true
unfolding handles_legal
handles_boundaries m h =
    second (all (λ l. ltb l.attributes handle_width && speed_legal l.speed_limit) m.lanes) (all (λ b. ltb b.attributes handle_width) m.boundaries)
    (all (λ r. ltb r.name handle_width && ltb r.attributes handle_width) m.roads)
    (all (λ j. ltb j.name handle_width && ltb j.outline handle_width && ltb j.attributes handle_width) m.junctions)
    (all (λ r. ltb r.content handle_width && ltb r.attributes handle_width) m.rules)
    (all (λ s. ltb s.attributes handle_width) m.stop_lines)
    (all (λ c. ltb c.outline handle_width && ltb c.attributes handle_width) m.crosswalks) h
  where
    second : (a b c d e f g : Bool) → (a && b && c && d && e && f && g) ≡ true → b ≡ true
    second a b c d e f g t =
        and-snd a b (and-fst (a && b) c (and-fst (a && b && c) d (and-fst (a && b && c && d) e (and-fst (a && b && c && d && e) f (and-fst (a && b && c && d && e && f) g t)))))
