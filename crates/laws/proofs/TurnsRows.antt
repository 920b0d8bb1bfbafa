-- Rules where lanes are cut: of a map whose lists have no repeats, and whose ids are all below the new ones, each becomes the same in turns. Assumes nothing.
use mathlib.Core.Path.{◌≡◌, refl, sym, ap, ◌∙◌}
use mathlib.Core.Bool.{Bool, true, ◌&&◌}
use mathlib.Core.List.{List, [], ◌∷◌, map}
use Prim.Native.Nat.{ℕ}
use lib.Dec.{ltb}
use lib.Ieee.{Float}
use Rattle.lists.specs.Every.{all}
use Rattle.lists.specs.Select.{ascending, distinct, insert_after}
use Rattle.lists.proofs.Booleans.{and-fst, and-snd}
use Rattle.lists.proofs.Every.{all_head, all_tail}
use Rattle.lists.proofs.Select.{all_map, all-weaken}
use Rattle.entities.specs.Records.{Rule, Map}
use Rattle.rules.specs.Map.{rule_anchor}
use Rattle.rules.specs.Sound.{ids_named, repeat_free}
use Rattle.rules.specs.Lane.{rule_lanes}
use Rattle.rules.specs.Split.{LanePlan, halves, cut_rule}
use Rattle.rules.specs.Turns.{follow_all}
use Rattle.laws.proofs.SplitTests.{all_both}
use Rattle.laws.proofs.Once.{below-clear, cut_ids}
use Rattle.laws.proofs.Turns.{in_turns}
use Rattle.laws.proofs.OnceRows.{named_in, names-rules, rule_once, rules-once}

-- a rule whose own lanes follow one cut lane after the other
abbrev pub cut_in_turns : Float → Map → ℕ → List LanePlan → List (ℕ × ℕ) → Rule → Rule
cut_in_turns join m next ps hs r = rule_lanes (follow_all join m (rule_anchor m r) next ps) (insert_after hs) r

-- its own lanes have no repeat and are below n
abbrev pub calm : ℕ → Rule → Bool
calm n r = distinct r.lanes && all (λ j. ltb j n) r.lanes

pub all-calm : (n : ℕ) (m : Map) → repeat_free m ≡ true → all (λ j. ltb j n) (ids_named m) ≡ true → all (calm n) m.rules ≡ true
all-calm n m once low =
    let old : ℕ → Bool = λ j. ltb j n in
    all_both (λ r. distinct r.lanes) (λ r. all old r.lanes) m.rules
    (all-weaken rule_once (λ r. distinct r.lanes) m.rules
    (λ r t. and-fst (distinct r.lanes) (distinct r.priority) (and-fst (distinct r.lanes && distinct r.priority) (distinct r.yielding) t)) (rules-once m once))
    (all-weaken (named_in old) (λ r. all old r.lanes) m.rules
    (λ r t. and-fst (all old r.lanes) (all old r.priority) (and-fst (all old r.lanes && all old r.priority) (all old r.yielding) t)) (names-rules old m low))

module _ (join : Float) (m : Map) (n : ℕ) (ps : List LanePlan) (up : ascending (cut_ids ps) ≡ true) (low : all (λ j. ltb j n) (cut_ids ps) ≡ true) where
  pub rule_in_turns : (r : Rule) → calm n r ≡ true → cut_rule join m ps (halves n ps) r ≡ cut_in_turns join m n ps (halves n ps) r
  rule_in_turns r c =
      let below = all (λ j. ltb j n) r.lanes in
      ap (λ ids. rule_lanes (λ is. ids) (insert_after (halves n ps)) r)
      (in_turns join m (rule_anchor m r) n ps r.lanes up (sym (all_map (λ j. ltb j n) (λ x. x.of.id) ps) ∙ low)
      (record { once = and-fst (distinct r.lanes) below c; clear = below-clear n r.lanes (and-snd (distinct r.lanes) below c) }))

  pub rules_in_turns : (rs : List Rule) → all (calm n) rs ≡ true → map (cut_rule join m ps (halves n ps)) rs ≡ map (cut_in_turns join m n ps (halves n ps)) rs
  rules_in_turns [] c = refl
  rules_in_turns (r ∷ rs) c = rw (rule_in_turns r (all_head (calm n) r rs c), rules_in_turns rs (all_tail (calm n) r rs c))
