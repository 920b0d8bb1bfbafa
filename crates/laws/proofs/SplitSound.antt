-- split_lane: each clause of soundness of the cut map, but for limits and reciprocity. Assumes nothing.
use mathlib.Core.Path.{◌≡◌, refl, sym, ap, ◌∙◌}
use mathlib.Core.Bool.{Bool, true, false, not, ◌&&◌, ◌||◌, cond}
use mathlib.Core.List.{List, [], ◌∷◌, ◌++◌, map}
use Prim.Native.Nat.{ℕ, suc}
use native.Mathlib.Omega.{arith}
use lib.Dec.{eqb, ltb, leb}
use lib.ListN.{length}
use borrow.Author.Tests.{eqb-true, ltb-true, lt-ltb, leb-true}
use Rattle.lists.specs.Every.{all}
use Rattle.lists.specs.Select.{each, ascending, insert_after}
use Rattle.lists.proofs.Booleans.{and_both, and-fst, and-snd}
use Rattle.lists.proofs.Select.{all_map, all-each, all-weaken, keys-map, ascending-append}
use Rattle.entities.specs.Records.{Rule, Map}
use Rattle.rules.specs.Edit.{up_from}
use Rattle.rules.specs.Map.{lane_ids}
use Rattle.rules.specs.Sound.{optional_id, ids_named, lane_names, rule_names, ids_ascend, rule_legal, has_content, stop_lines_fit, given}
use Rattle.rules.specs.Lane.{road_lanes, junction_lanes, rule_lanes}
use Rattle.rules.specs.Split.{LanePlan, Piece, halves, uncut, first_half, second_half, cut_boundary, new_pieces}
use Rattle.laws.proofs.Part.{Gives, ◌&also◌, stays}
use Rattle.laws.proofs.Find.{numbered}
use Rattle.laws.proofs.SplitLanes.{Numbered, second_id, half_pair, halves-numbered, Cutting, cut_lanes}
use Rattle.laws.proofs.SplitLinks.{map-append, cut_up}
use Rattle.laws.proofs.SplitPieces.{up-from, up-ascends}
use Rattle.laws.proofs.SplitNames.{inserted-pass, uncut-names, first-names, second-names}
use Rattle.laws.proofs.SplitTests.{Carries, ◌&then◌, carries_same, carries_each, all_both, plans-all, lanes-test, cut_boundaries, drawn-id, boundaries-test}

-- the cut map; f is what becomes of a rule's own lanes
abbrev pub divided : (Rule → List ℕ → List ℕ) → Map → List LanePlan → List Piece → ℕ → Map
divided f m ps xs next =
    record {
      lanes = cut_lanes m ps xs next;
      boundaries = cut_boundaries m xs;
      roads = map (road_lanes (insert_after (halves next ps))) m.roads;
      junctions = map (junction_lanes (insert_after (halves next ps))) m.junctions;
      rules = map (λ r. rule_lanes (f r) (insert_after (halves next ps)) r) m.rules;
      stop_lines = m.stop_lines;
      crosswalks = m.crosswalks;
    }

-- the ids of the new boundaries count up from `start`, which no boundary has reached
pub record Drawing (m : Map) (xs : List Piece) (start : ℕ) : Type 0 where
  pub boundaries-up : ascending (map (λ b. b.id) m.boundaries) ≡ true
  pub boundaries-fresh : all (λ i. ltb i start) (map (λ b. b.id) m.boundaries) ≡ true
  pub count : ℕ
  pub counted : map (λ b. b.id) (each new_pieces xs) ≡ up_from start count

-- ---- general

keys-stay : {A : Type 0} (key : A → ℕ) (f : A → A) → ((x : A) → key (f x) ≡ key x) → (xs : List A) → Gives (ascending (map key xs)) (ascending (map key (map f xs)))
keys-stay key f h xs = record { so = λ t. rw (keys-map key f h xs) t }

empty-after : (hs : List (ℕ × ℕ)) (ids : List ℕ) → Gives (eqb (length ids) 0) (eqb (length (insert_after hs ids)) 0)
unfolding insert_after each
empty-after hs [] = stays true
empty-after hs (i ∷ ids) = record { so = λ t. absurd (nothing (length ids) (eqb-true (length (i ∷ ids)) 0 t)) }
  where
    nothing : (n : ℕ) → suc n ≡ 0 → ⊥
    nothing n e = omega arith

pub rule-stays-legal : (f : List ℕ → List ℕ) (hs : List (ℕ × ℕ)) (r : Rule) → Gives (rule_legal r) (rule_legal (rule_lanes f (insert_after hs) r))
rule-stays-legal f hs r =
    stays (leb r.kind 5)
    &also stays (has_content r.kind || eqb r.content 0)
    &also stays (stop_lines_fit r.kind (length r.stop_lines))
    &also or-stays (eqb r.kind 3) (empty-after hs r.priority &also empty-after hs r.yielding)
    &also stays (cond (eqb r.kind 4) (given r.crosswalk) (not (given r.crosswalk)))
  where
    or-stays : (c : Bool) {p q : Bool} → Gives p q → Gives (c || p) (c || q)
    or-stays true g = stays true
    or-stays false g = g

module _ (f : Rule → List ℕ → List ℕ) (m : Map) (ps : List LanePlan) (xs : List Piece) (next : ℕ) (c : Cutting m ps next) where
  abbrev hs : List (ℕ × ℕ)
  hs = halves next ps

  abbrev after : Map
  after = divided f m ps xs next

  -- ---- ids

  pub boundary-ids : map (λ b. b.id) (cut_boundaries m xs) ≡ map (λ b. b.id) m.boundaries ++ map (λ b. b.id) (each new_pieces xs)
  boundary-ids =
      map-append (λ b. b.id) (map (cut_boundary xs) m.boundaries) (each new_pieces xs)
      ∙ ap (λ is. is ++ map (λ b. b.id) (each new_pieces xs)) (keys-map (λ b. b.id) (cut_boundary xs) (drawn-id xs) m.boundaries)

  boundaries-ascend : (start : ℕ) → Drawing m xs start → ascending (map (λ b. b.id) (cut_boundaries m xs)) ≡ true
  boundaries-ascend start d =
      ap ascending (boundary-ids ∙ ap (λ is. map (λ b. b.id) m.boundaries ++ is) d.counted)
      ∙ ascending-append (map (λ b. b.id) m.boundaries) (up_from start d.count) d.boundaries-up (up-ascends start d.count)
      (all-weaken (λ i. ltb i start) (λ i. all (ltb i) (up_from start d.count)) (map (λ b. b.id) m.boundaries) (λ i t.
      let u = ltb-true i start t in
      all-weaken (leb start) (ltb i) (up_from start d.count) (λ j v. let w = leb-true start j v in lt-ltb i j (omega arith)) (up-from start d.count start (omega arith)))
      d.boundaries-fresh)

  lanes-up : Gives (ascending (lane_ids m)) (ascending (lane_ids after))
  lanes-up = record { so = λ t. cut_up m ps next c xs }

  boundaries-up : (start : ℕ) → Drawing m xs start → Gives (ascending (map (λ b. b.id) m.boundaries)) (ascending (map (λ b. b.id) after.boundaries))
  boundaries-up start d = record { so = λ t. boundaries-ascend start d }

  pub split-ids : (start : ℕ) → Drawing m xs start → Gives (ids_ascend m) (ids_ascend after)
  unfolding ids_ascend
  split-ids start d =
      lanes-up
      &also boundaries-up start d
      &also keys-stay (λ r. r.id) (road_lanes (insert_after hs)) (λ r. refl) m.roads
      &also keys-stay (λ j. j.id) (junction_lanes (insert_after hs)) (λ j. refl) m.junctions
      &also keys-stay (λ r. r.id) (λ r. rule_lanes (f r) (insert_after hs) r) (λ r. refl) m.rules
      &also stays (ascending (map (λ s. s.id) m.stop_lines))
      &also stays (ascending (map (λ c. c.id) m.crosswalks))

  -- ---- every id named

  module _ (p : ℕ → Bool) (new : all (λ (h : ℕ × ℕ). p h.1) (halves next ps) ≡ true) (drawn : all (λ x. p x.first && p x.second) xs ≡ true)
      (follows : (r : Rule) (ids : List ℕ) → all p ids ≡ true → all p (f r ids) ≡ true) where
    seconds-pass : all (λ (z : Numbered). p (second_id z)) (numbered next ps) ≡ true
    seconds-pass = sym (all_map (λ (h : ℕ × ℕ). p h.1) half_pair (numbered next ps)) ∙ (ap (all (λ (h : ℕ × ℕ). p h.1)) (sym (halves-numbered next ps)) ∙ new)

    lane-names : Carries p (each lane_names m.lanes) (each lane_names (cut_lanes m ps xs next))
    lane-names =
        record {
          over =
              λ t.
              let h = sym (all-each p lane_names m.lanes) ∙ t in
              let both = all_both (λ (z : Numbered). all p (lane_names z.1.of)) (λ (z : Numbered). p (second_id z)) (numbered next ps)
              (plans-all m ps next c (λ l. all p (lane_names l)) h) seconds-pass in
              all-each p lane_names (cut_lanes m ps xs next)
              ∙ lanes-test m ps next c xs (λ l. all p (lane_names l)) (all-weaken (λ l. all p (lane_names l)) (λ l. all p (lane_names (uncut hs l))) m.lanes
              (uncut-names p xs hs new drawn) h)
              (all-weaken (λ (z : Numbered). all p (lane_names z.1.of) && p (second_id z)) (λ (z : Numbered). all p (lane_names (first_half xs hs z.0 z.1)))
              (numbered next ps)
              (λ z u. first-names p xs hs new drawn z.0 z.1 (and-snd (all p (lane_names z.1.of)) (p (second_id z)) u)
              (and-fst (all p (lane_names z.1.of)) (p (second_id z)) u)) both)
              (all-weaken (λ (z : Numbered). all p (lane_names z.1.of) && p (second_id z)) (λ (z : Numbered). all p (lane_names (second_half xs hs z.0 z.1)))
              (numbered next ps)
              (λ z u. second-names p xs hs new drawn z.0 z.1 (and-snd (all p (lane_names z.1.of)) (p (second_id z)) u)
              (and-fst (all p (lane_names z.1.of)) (p (second_id z)) u)) both);
        }

    boundary-names : Carries p (map (λ b. b.id) m.boundaries) (map (λ b. b.id) (cut_boundaries m xs))
    boundary-names =
        record {
          over =
              λ t.
              all_map p (λ b. b.id) (cut_boundaries m xs)
              ∙ boundaries-test m xs (λ b. p b.id) (λ b. p b.id) (λ x. p x.first && p x.second) (λ b h. h) (λ b x h u. h)
              (λ x u. and-fst (p x.first) (p x.second) u) (λ x u. and-snd (p x.first) (p x.second) u) (sym (all_map p (λ b. b.id) m.boundaries) ∙ t) drawn;
        }

    listed : (i : ℕ) (ids : List ℕ) → all p (i ∷ ids) ≡ true → all p (i ∷ insert_after hs ids) ≡ true
    unfolding all
    listed i ids h = and_both (p i) (all p (insert_after hs ids)) (and-fst (p i) (all p ids) h) (inserted-pass p xs hs new drawn ids (and-snd (p i) (all p ids) h))

    rule-names : (r : Rule) → all p (rule_names r) ≡ true → all p (rule_names (rule_lanes (f r) (insert_after hs) r)) ≡ true
    rule-names r =
        (carries_same p (r.id ∷ [])
        &then carries_same p (optional_id r.crosswalk)
        &then record { over = follows r r.lanes }
        &then carries_same p r.controlled_crosswalks
        &then carries_same p r.stop_lines
        &then record { over = inserted-pass p xs hs new drawn r.priority }
        &then record { over = inserted-pass p xs hs new drawn r.yielding }).over

    pub split-names : Carries p (ids_named m) (ids_named after)
    unfolding ids_named
    split-names =
        lane-names
        &then boundary-names
        &then carries_each p (λ r. r.id ∷ r.lanes) (road_lanes (insert_after hs)) (λ r. listed r.id r.lanes) m.roads
        &then carries_each p (λ j. j.id ∷ j.lanes) (junction_lanes (insert_after hs)) (λ j. listed j.id j.lanes) m.junctions
        &then carries_each p rule_names (λ r. rule_lanes (f r) (insert_after hs) r) rule-names m.rules
        &then carries_same p (map (λ s. s.id) m.stop_lines ++ map (λ c. c.id) m.crosswalks)
