-- Lists of roads, junctions and rules stay free of repeats where an edit changes them one by one. Assumes nothing.
use mathlib.Core.Path.{◌≡◌, refl, sym, ap, ◌∙◌}
use mathlib.Core.Bool.{Bool, true, ◌&&◌}
use mathlib.Core.List.{List, [], ◌∷◌, ◌++◌, map}
use Prim.Native.Nat.{ℕ}
use Rattle.lists.specs.Every.{all}
use Rattle.lists.specs.Select.{each, distinct}
use Rattle.lists.proofs.Booleans.{and_both, and-fst, and-snd}
use Rattle.lists.proofs.Every.{all_split, all_tail}
use Rattle.lists.proofs.Select.{all_map, all-each, all-weaken}
use Rattle.entities.specs.Records.{Road, Junction, Rule, Map}
use Rattle.rules.specs.Sound.{ids_named, lane_names, rule_names, optional_id, repeat_free}
use Rattle.rules.specs.Lane.{road_lanes, junction_lanes, rule_lanes}
use Rattle.laws.proofs.Keeps.{other_names}
use Rattle.laws.proofs.SplitTests.{all_both}

-- ---- general

all_true : {A : Type 0} (xs : List A) → all (λ x. true) xs ≡ true
unfolding all
all_true [] = refl
all_true (x ∷ xs) = all_true xs

all-front : (p : ℕ → Bool) (xs ys : List ℕ) → all p (xs ++ ys) ≡ true → all p xs ≡ true
all-front p xs ys h = and-fst (all p xs) (all p ys) (sym (all_split p xs ys) ∙ h)

all-behind : (p : ℕ → Bool) (xs ys : List ℕ) → all p (xs ++ ys) ≡ true → all p ys ≡ true
all-behind p xs ys h = and-snd (all p xs) (all p ys) (sym (all_split p xs ys) ∙ h)

-- ---- what a test of every id says of these lists

module _ (p : ℕ → Bool) where
  -- a rule's own lanes, its priority and its yielding lanes
  abbrev pub named_in : Rule → Bool
  named_in r = all p r.lanes && all p r.priority && all p r.yielding

  rule-names : (r : Rule) → all p (rule_names r) ≡ true → named_in r ≡ true
  rule-names r h =
      let last = r.priority ++ r.yielding in
      let h1 = all-behind p (optional_id r.crosswalk) (r.lanes ++ (r.controlled_crosswalks ++ (r.stop_lines ++ last)))
      (all_tail p r.id (optional_id r.crosswalk ++ (r.lanes ++ (r.controlled_crosswalks ++ (r.stop_lines ++ last)))) h) in
      let h2 = all-behind p r.lanes (r.controlled_crosswalks ++ (r.stop_lines ++ last)) h1 in
      let h3 = all-behind p r.stop_lines last (all-behind p r.controlled_crosswalks (r.stop_lines ++ last) h2) in
      and_both (all p r.lanes && all p r.priority) (all p r.yielding)
      (and_both (all p r.lanes) (all p r.priority) (all-front p r.lanes (r.controlled_crosswalks ++ (r.stop_lines ++ last)) h1) (all-front p r.priority r.yielding h3))
      (all-behind p r.priority r.yielding h3)

  module _ (m : Map) (h : all p (ids_named m) ≡ true) where
    abbrev last_ids : List ℕ
    last_ids = map (λ s. s.id) m.stop_lines ++ map (λ c. c.id) m.crosswalks

    abbrev rule_ids : List ℕ
    rule_ids = each rule_names m.rules ++ last_ids

    abbrev junction_ids : List ℕ
    junction_ids = each (λ j. j.id ∷ j.lanes) m.junctions ++ rule_ids

    abbrev road_ids : List ℕ
    road_ids = each (λ r. r.id ∷ r.lanes) m.roads ++ junction_ids

    from-roads : all p road_ids ≡ true
    unfolding ids_named
    from-roads = all-behind p (map (λ b. b.id) m.boundaries) road_ids (all-behind p (each lane_names m.lanes) (other_names m) h)

    from-junctions : all p junction_ids ≡ true
    from-junctions = all-behind p (each (λ r. r.id ∷ r.lanes) m.roads) junction_ids from-roads

    names-roads : all (λ r. all p r.lanes) m.roads ≡ true
    names-roads =
        all-weaken (λ r. all p (r.id ∷ r.lanes)) (λ r. all p r.lanes) m.roads (λ r t. all_tail p r.id r.lanes t)
        (sym (all-each p (λ r. r.id ∷ r.lanes) m.roads) ∙ all-front p (each (λ r. r.id ∷ r.lanes) m.roads) junction_ids from-roads)

    names-junctions : all (λ j. all p j.lanes) m.junctions ≡ true
    names-junctions =
        all-weaken (λ j. all p (j.id ∷ j.lanes)) (λ j. all p j.lanes) m.junctions (λ j t. all_tail p j.id j.lanes t)
        (sym (all-each p (λ j. j.id ∷ j.lanes) m.junctions) ∙ all-front p (each (λ j. j.id ∷ j.lanes) m.junctions) rule_ids from-junctions)

    pub names-rules : all named_in m.rules ≡ true
    names-rules =
        all-weaken (λ r. all p (rule_names r)) named_in m.rules rule-names
        (sym (all-each p rule_names m.rules)
        ∙ all-front p (each rule_names m.rules) last_ids (all-behind p (each (λ j. j.id ∷ j.lanes) m.junctions) rule_ids from-junctions))

-- ---- an edit that changes these lists one by one

abbrev pub rule_once : Rule → Bool
rule_once r = distinct r.lanes && distinct r.priority && distinct r.yielding

pub rules-once : (m : Map) → repeat_free m ≡ true → all rule_once m.rules ≡ true
unfolding repeat_free
rules-once m t = and-snd (all (λ r. distinct r.lanes) m.roads && all (λ j. distinct j.lanes) m.junctions) (all rule_once m.rules) t

-- a list of ids that pass a test keeps free of repeats
abbrev Keeps : (ℕ → Bool) → (List ℕ → List ℕ) → Type 0
Keeps p g = (ids : List ℕ) → all p ids ≡ true → distinct ids ≡ true → distinct (g ids) ≡ true

module _ (p : ℕ → Bool) (g h : List ℕ → List ℕ) (f : Rule → List ℕ → List ℕ) (kg : Keeps p g) (kh : Keeps p h) (kf : (r : Rule) → Keeps p (f r)) where
  rule-once : (r : Rule) → (rule_once r && named_in p r) ≡ true → rule_once (rule_lanes (f r) h r) ≡ true
  rule-once r t =
      let d = and-fst (rule_once r) (named_in p r) t in
      let a = and-snd (rule_once r) (named_in p r) t in
      let d1 = and-fst (distinct r.lanes && distinct r.priority) (distinct r.yielding) d in
      let a1 = and-fst (all p r.lanes && all p r.priority) (all p r.yielding) a in
      and_both (distinct (f r r.lanes) && distinct (h r.priority)) (distinct (h r.yielding))
      (and_both (distinct (f r r.lanes)) (distinct (h r.priority))
      (kf r r.lanes (and-fst (all p r.lanes) (all p r.priority) a1) (and-fst (distinct r.lanes) (distinct r.priority) d1))
      (kh r.priority (and-snd (all p r.lanes) (all p r.priority) a1) (and-snd (distinct r.lanes) (distinct r.priority) d1)))
      (kh r.yielding (and-snd (all p r.lanes && all p r.priority) (all p r.yielding) a)
      (and-snd (distinct r.lanes && distinct r.priority) (distinct r.yielding) d))

  pub lists-free : (m n : Map) → n.roads ≡ map (road_lanes g) m.roads → n.junctions ≡ map (junction_lanes g) m.junctions
      → n.rules ≡ map (λ r. rule_lanes (f r) h r) m.rules → all p (ids_named m) ≡ true → repeat_free m ≡ true → repeat_free n ≡ true
  unfolding repeat_free
  lists-free m n er ej eu a t =
      let roadOnce : Road → Bool = λ r. distinct r.lanes in
      let junctionOnce : Junction → Bool = λ j. distinct j.lanes in
      let t1 = and-fst (all roadOnce m.roads && all junctionOnce m.junctions) (all rule_once m.rules) t in
      and_both (all roadOnce n.roads && all junctionOnce n.junctions) (all rule_once n.rules)
      (and_both (all roadOnce n.roads) (all junctionOnce n.junctions)
      (ap (all roadOnce) er
      ∙ (all_map roadOnce (road_lanes g) m.roads
      ∙ all-weaken (λ r. distinct r.lanes && all p r.lanes) (λ r. distinct (g r.lanes)) m.roads
      (λ r u. kg r.lanes (and-snd (distinct r.lanes) (all p r.lanes) u) (and-fst (distinct r.lanes) (all p r.lanes) u))
      (all_both roadOnce (λ r. all p r.lanes) m.roads (and-fst (all roadOnce m.roads) (all junctionOnce m.junctions) t1) (names-roads p m a))))
      (ap (all junctionOnce) ej
      ∙ (all_map junctionOnce (junction_lanes g) m.junctions
      ∙ all-weaken (λ j. distinct j.lanes && all p j.lanes) (λ j. distinct (g j.lanes)) m.junctions
      (λ j u. kg j.lanes (and-snd (distinct j.lanes) (all p j.lanes) u) (and-fst (distinct j.lanes) (all p j.lanes) u))
      (all_both junctionOnce (λ j. all p j.lanes) m.junctions (and-snd (all roadOnce m.roads) (all junctionOnce m.junctions) t1) (names-junctions p m a)))))
      (ap (all rule_once) eu
      ∙ (all_map rule_once (λ r. rule_lanes (f r) h r) m.rules
      ∙ all-weaken (λ r. rule_once r && named_in p r) (λ r. rule_once (rule_lanes (f r) h r)) m.rules rule-once
      (all_both rule_once (named_in p) m.rules (rules-once m t) (names-rules p m a))))

-- where the ids do not matter
pub plain-free : (g h : List ℕ → List ℕ) → ((ids : List ℕ) → distinct ids ≡ true → distinct (g ids) ≡ true) → ((ids : List ℕ) → distinct ids ≡ true → distinct (h ids) ≡ true)
    → (m n : Map) → n.roads ≡ map (road_lanes g) m.roads → n.junctions ≡ map (junction_lanes g) m.junctions → n.rules ≡ map (rule_lanes h h) m.rules
    → repeat_free m ≡ true → repeat_free n ≡ true
plain-free g h kg kh m n er ej eu =
    lists-free (λ j. true) g h (λ r. h) (λ ids a. kg ids) (λ ids a. kh ids) (λ r ids a. kh ids) m n er ej eu (all_true (ids_named m))

pub same-free : (m n : Map) → n.roads ≡ m.roads → n.junctions ≡ m.junctions → n.rules ≡ m.rules → repeat_free m ≡ true → repeat_free n ≡ true
unfolding repeat_free
same-free m n er ej eu t = rw (er, ej, eu) t
