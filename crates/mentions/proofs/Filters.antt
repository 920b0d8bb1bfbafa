-- The rows that name a lane are those that the rules' filters choose. Assumes nothing.
use Rattle.std.specs.Prelude.{None, Some}
use mathlib.Core.Path.{◌≡◌, refl, ap, ◌∙◌}
use Prim.Native.Nat.{ℕ, suc}
use mathlib.Core.Bool.{Bool, true, false, not, cond, ◌&&◌, ◌||◌}
use mathlib.Core.List.{List, map}
use lib.Dec.{eqb}
use lib.Ieee.{Float}
use lib.ListN.{length}
use Rattle.lists.specs.Select.{keep, any, has, without}
use Rattle.lists.proofs.Select.{keep-map, keep_same, map-twice, map_same, keep-twice}
use Rattle.entities.specs.Types.{same, opposing}
use Rattle.rules.specs.Names.{LaneKind, RoadKind, JunctionKind, RuleKind}
use Rattle.rules.specs.Map.{names}
use Rattle.rules.specs.Edit.{refs, lanes_where, roads_where, junctions_where, rules_where}
use Rattle.rules.specs.Lane.{mentions, rule_names_lane, orphaned}
use Rattle.tables.specs.View.{word, ids_at, ids_where, slot_at, rows, lane_of, road_of, junction_of, rule_of}
use Rattle.store.proofs.Packing.{rows-mapped}
use Rattle.mentions.specs.declared.Rows.TheVariants.{Lanes, Roads, Junctions, Rules, Orphans}
use Rattle.mentions.specs.Naming.{slot_names, names_lane, naming}

-- the ids of records that pass are those of the rows that pass
pub ids_where_lem : {R : Type 0} (s : ℕ) (dec : List ℕ → R) (key : R → ℕ) (p : R → Bool) (q : List ℕ → Bool) (t : List ℕ) → ((w : List ℕ) → key (dec w) ≡ word 0 w)
    → ((w : List ℕ) → p (dec w) ≡ q w) → map key (keep p (rows s dec t)) ≡ map (word 0) (keep q (rows s (λ w. w) t))
ids_where_lem s dec key p q t k e =
    ap (λ xs. map key (keep p xs)) (rows-mapped s (λ i. true) t dec)
    ∙ (ap (map key) (keep-map p dec (rows s (λ w. w) t) ∙ ap (map dec) (keep_same (λ w. p (dec w)) q (rows s (λ w. w) t) e))
    ∙ (map-twice dec key (keep q (rows s (λ w. w) t)) ∙ map_same (λ w. key (dec w)) (word 0) (keep q (rows s (λ w. w) t)) k))

-- ---- a row

slot-named : (a k : ℕ) (w : List ℕ) → names (slot_at k w) a ≡ slot_names a k w
slot-named a k w = go (eqb (word k w) 0) (eqb (word k w) 1)
  where
    go : (x y : Bool) → names (cond x None (cond y (Some (same (word (suc k) w))) (Some (opposing (word (suc k) w))))) a ≡ (not x && eqb (word (suc k) w) a)
    go true y = refl
    go false true = refl
    go false false = refl

pub lane-named : (a : ℕ) (c : List Float) (w : List ℕ) → (not (eqb (lane_of c w).id a) && mentions a (lane_of c w)) ≡ names_lane Lanes a w
unfolding lane_of names_lane
lane-named a c w = ap (λ b. not (eqb (word 0 w) a) && b) (rw (slot-named a 14 w, slot-named a 16 w))

pub rule-named : (a : ℕ) (w : List ℕ) → rule_names_lane a (rule_of w) ≡ names_lane Rules a w
unfolding rule_of has any names_lane
rule-named a w = go (eqb (word 1 w) 3) (has a (ids_at 5 w))
  where
    go : (b x : Bool) → (x || has a (ids_where b 200 w) || has a (ids_where b 265 w)) ≡ (x || (b && (has a (ids_at 200 w) || has a (ids_at 265 w))))
    go true true = refl
    go true false = refl
    go false true = refl
    go false false = refl

pub orphan-named : (a : ℕ) (w : List ℕ) → orphaned a (rule_of w) ≡ names_lane Orphans a w
unfolding rule_of names_lane
orphan-named a w = ap (λ b. b && eqb (length (without a (ids_at 5 w))) 0) (rule-named a w)

-- ---- a table

module _ (a : ℕ) (t : List ℕ) where
  pub lanes_named : (c : List Float) → lanes_where (mentions a) (keep (λ l. not (eqb l.id a)) (rows 52 (lane_of c) t)) ≡ refs LaneKind (naming Lanes a t)
  unfolding naming
  lanes_named c =
      ap (refs LaneKind)
      (ap (map (λ l. l.id)) (keep-twice (mentions a) (λ l. not (eqb l.id a)) (rows 52 (lane_of c) t))
      ∙ ids_where_lem 52 (lane_of c) (λ l. l.id) (λ l. not (eqb l.id a) && mentions a l) (names_lane Lanes a) t (λ w. unfold lane_of in refl) (lane-named a c))

  pub roads_named : roads_where (λ r. has a r.lanes) (rows 68 road_of t) ≡ refs RoadKind (naming Roads a t)
  unfolding naming names_lane road_of
  roads_named = ap (refs RoadKind) (ids_where_lem 68 road_of (λ r. r.id) (λ r. has a r.lanes) (names_lane Roads a) t (λ w. refl) (λ w. refl))

  pub junctions_named : junctions_where (λ j. has a j.lanes) (rows 69 junction_of t) ≡ refs JunctionKind (naming Junctions a t)
  unfolding naming names_lane junction_of
  junctions_named = ap (refs JunctionKind) (ids_where_lem 69 junction_of (λ r. r.id) (λ r. has a r.lanes) (names_lane Junctions a) t (λ w. refl) (λ w. refl))

  pub rules-named : rules_where (rule_names_lane a) (rows 330 rule_of t) ≡ refs RuleKind (naming Rules a t)
  unfolding naming
  rules-named = ap (refs RuleKind) (ids_where_lem 330 rule_of (λ r. r.id) (rule_names_lane a) (names_lane Rules a) t (λ w. unfold rule_of in refl) (rule-named a))

  pub orphans_named : map (λ r. r.id) (keep (orphaned a) (rows 330 rule_of t)) ≡ naming Orphans a t
  unfolding naming
  orphans_named = ids_where_lem 330 rule_of (λ r. r.id) (orphaned a) (names_lane Orphans a) t (λ w. unfold rule_of in refl) (orphan-named a)
