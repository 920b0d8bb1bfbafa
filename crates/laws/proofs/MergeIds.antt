-- merge_lanes: the ids of the boundaries after it are those that stay, and new ones above them all. Assumes nothing.
use mathlib.Core.Path.{◌≡◌, refl, sym, ap, ◌∙◌, subst}
use mathlib.Core.Bool.{Bool, true, false}
use mathlib.Core.List.{List, ◌∷◌, ◌++◌, map, map-append}
use Prim.Native.Nat.{ℕ, ◌+◌}
use native.Mathlib.Omega.{arith}
use lib.Dec.{eqb, ltb}
use borrow.Author.Tests.{ltb-true, lt-ltb}
use Rattle.lists.specs.Every.{all}
use Rattle.lists.specs.Select.{keep, each, has, without, ascending}
use Rattle.lists.proofs.Every.{all_nil}
use Rattle.lists.proofs.Select.{all-has, all-numbers, keys-map, keys-keep, ascending-append, keep-map, keep_same}
use Rattle.entities.specs.declared.Tolerance.{Tolerance}
use Rattle.entities.specs.Records.{Lane, Boundary, Map}
use Rattle.rules.specs.Sound.{ids_named, lane_names, rule_names, ids_ascend}
use Rattle.rules.specs.Lane.{road_lanes, junction_lanes, rule_lanes}
use Rattle.rules.specs.Merge.{SidePlan, plan_ids, joined_boundary, replace_lane}
use Rattle.laws.proofs.Keeps.{other_names}
use Rattle.laws.proofs.Part.{Gives, ◌&also◌, stays, part-map, part-keep, all-part}
use Rattle.laws.proofs.KeptRows.{below_none}
use Rattle.laws.proofs.Merge.{merged_map, new_ones, still_used, joined-id, lanes-ascend}
use Rattle.laws.proofs.MergePlans.{both_of, Planned, both_new, none-new, both-pass, both-up, ids-made}

-- Where ids are wanted, those to be given are above every id of the map.
abbrev pub Free : ℕ → Map → SidePlan → SidePlan → Type 0
Free next m pl pr = eqb (plan_ids pl + plan_ids pr) 0 ≡ false → all (λ i. ltb i next) (ids_named m) ≡ true

module _ (tol : Tolerance) (next : ℕ) (m : Map) (a b : Lane) (pl pr : SidePlan) (fl : Planned m a.left.boundary pl) (fr : Planned m a.right.boundary pr) where
  abbrev n : Map
  n = merged_map tol next m a b pl pr

  abbrev q : Boundary → Bool
  q = still_used tol next m a b pl pr

  abbrev joins : Boundary → Boundary
  joins = joined_boundary pl pr a

  abbrev ids : List Boundary → List ℕ
  ids bs = map (λ x. x.id) bs

  -- joining in place and leaving out, either way round
  pub kept-joined : keep q (map joins m.boundaries) ≡ map joins (keep q m.boundaries)
  kept-joined =
      keep-map q joins m.boundaries
      ∙ ap (map joins) (keep_same (λ x. q (joins x)) q m.boundaries (λ x. ap (λ i. q (record { id = i; kind = x.kind; geometry = x.geometry; attributes = x.attributes })) (joined-id pl pr a x)))

  pub boundary-ids : ids n.boundaries ≡ ids (keep q m.boundaries) ++ both_new pl pr next
  boundary-ids =
      map-append (λ x. x.id) (keep q (map joins m.boundaries)) (new_ones next m a pl pr)
      ∙ (ap (λ xs. ids xs ++ ids (new_ones next m a pl pr)) kept-joined
      ∙ (ap (λ is. is ++ ids (new_ones next m a pl pr)) (keys-map (λ x. x.id) joins (joined-id pl pr a) (keep q m.boundaries))
      ∙ ap (λ is. ids (keep q m.boundaries) ++ is) (ids-made m next a pl pr fl fr)))

  module _ (free : Free next m pl pr) where
    old_below : eqb (plan_ids pl + plan_ids pr) 0 ≡ false → all (λ i. ltb i next) (ids m.boundaries) ≡ true
    unfolding ids_named
    old_below e =
        let rest = each (λ r. r.id ∷ r.lanes) m.roads ++ (each (λ j. j.id ∷ j.lanes) m.junctions ++ (each rule_names m.rules ++ (map (λ s. s.id) m.stop_lines ++ map (λ c. c.id) m.crosswalks))) in
        (both_of (λ i. ltb i next) (ids m.boundaries) rest (both_of (λ i. ltb i next) (each lane_names m.lanes) (other_names m) (free e)).1).0

    -- every new id is above an old one
    new-above : (i : ℕ) → has i (ids m.boundaries) ≡ true → all (ltb i) (both_new pl pr next) ≡ true
    new-above i h = go (eqb (plan_ids pl + plan_ids pr) 0) refl
      where
        go : (c : Bool) → eqb (plan_ids pl + plan_ids pr) 0 ≡ c → all (ltb i) (both_new pl pr next) ≡ true
        go true e = subst (λ xs. all (ltb i) xs ≡ true) (sym (none-new pl pr next e)) (all_nil (ltb i))
        go false e =
            let u = ltb-true i next (all-has (λ j. ltb j next) i (ids m.boundaries) (old_below e) h) in
            both-pass (ltb i) pl pr next (λ j low high. lt-ltb i j (omega arith))

    pub old-not-new : (i : ℕ) → has i (ids m.boundaries) ≡ true → has i (both_new pl pr next) ≡ false
    old-not-new i h = below_none i (both_new pl pr next) (new-above i h)

    boundaries-ascend : ascending (ids m.boundaries) ≡ true → ascending (ids n.boundaries) ≡ true
    boundaries-ascend up =
        ap ascending boundary-ids
        ∙ ascending-append (ids (keep q m.boundaries)) (both_new pl pr next) (keys-keep (λ x. x.id) q m.boundaries up) (both-up pl pr next)
        (all-part (λ i. all (ltb i) (both_new pl pr next)) (part-map (λ x. x.id) (part-keep q m.boundaries))
        (all-numbers (λ i. all (ltb i) (both_new pl pr next)) (ids m.boundaries) new-above))

    keys-stay : {A : Type 0} (key : A → ℕ) (f : A → A) → ((x : A) → key (f x) ≡ key x) → (xs : List A) → Gives (ascending (map key xs)) (ascending (map key (map f xs)))
    keys-stay key f h xs = record { so = λ t. ap ascending (keys-map key f h xs) ∙ t }

    pub merged-ids : Gives (ids_ascend m) (ids_ascend n)
    unfolding ids_ascend
    merged-ids =
        record { so = lanes-ascend tol next a b pl pr m }
        &also record { so = boundaries-ascend }
        &also keys-stay (λ r. r.id) (road_lanes (without b.id)) (λ r. refl) m.roads
        &also keys-stay (λ j. j.id) (junction_lanes (without b.id)) (λ j. refl) m.junctions
        &also keys-stay (λ r. r.id) (rule_lanes (replace_lane a.id b.id) (replace_lane a.id b.id)) (λ r. refl) m.rules
        &also stays (ascending (map (λ s. s.id) m.stop_lines))
        &also stays (ascending (map (λ c. c.id) m.crosswalks))
