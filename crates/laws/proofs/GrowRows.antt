-- The lists of an edit that adds lanes and boundaries, where modified is the rows that pass a test of each kind. Assumes nothing.
use mathlib.Core.Path.{◌≡◌, refl, sym, ◌∙◌}
use mathlib.Core.Bool.{Bool, true, false, ◌&&◌, ◌||◌}
use mathlib.Core.List.{List, [], ◌++◌, map}
use Prim.Native.Nat.{ℕ}
use lib.Dec.{eqb}
use Rattle.lists.specs.Select.{keep, has}
use Rattle.lists.proofs.Booleans.{or-false}
use Rattle.entities.specs.Types.{kind_number}
use Rattle.entities.specs.declared.EntityKind.{EntityKind}
use Rattle.entities.specs.declared.EntityKind.TheVariants as K
use Rattle.entities.specs.declared.EntityRef.{EntityRef}
use Rattle.entities.specs.Records.{Lane, Boundary, Road, Junction, Rule, Map, Issue}
use Rattle.rules.specs.Sound.{ids_ascend}
use Rattle.rules.specs.Edit.{refs, lanes_where, boundaries_where, roads_where, junctions_where, rules_where}
use Rattle.rules.specs.Demand.{entities, among, row_in, row, Exact}
use Rattle.laws.proofs.Exact.{among-refs}
use Rattle.laws.proofs.Part.{Part, part-keep, part-map, part-append, part-behind}
use Rattle.laws.proofs.Entities.{keys_of, entities-sorted, among-more, among-kind, ids_of}
use Rattle.laws.proofs.Grow.{More, more-entities, came_in, grow-exact}

-- a test of the rows of each kind that an edit changes
pub record Tests : Type 0 where
  pub of-lane : Lane → Bool
  pub of-boundary : Boundary → Bool
  pub of_road : Road → Bool
  pub of_junction : Junction → Bool
  pub of-rule : Rule → Bool

abbrev pub changed_rows : Tests → Map → List EntityRef
changed_rows t m =
    lanes_where t.of-lane m.lanes
    ++ (boundaries_where t.of-boundary m.boundaries
    ++ (roads_where t.of_road m.roads ++ (junctions_where t.of_junction m.junctions ++ rules_where t.of-rule m.rules)))

module _ (t : Tests) (m : Map) where
  refs-part : {A : Type 0} (k : EntityKind) (key : A → ℕ) (p : A → Bool) (xs : List A) → Part (refs k (map key (keep p xs))) (refs k (map key xs))
  refs-part k key p xs = part-map (λ i. record { kind = k; id = i }) (part-map key (part-keep p xs))

  changed_were : Part (changed_rows t m) (entities m)
  unfolding entities
  changed_were =
      part-append (refs-part K.Lane (λ l. l.id) t.of-lane m.lanes)
      (part-append (refs-part K.Boundary (λ b. b.id) t.of-boundary m.boundaries)
      (part-append (refs-part K.Road (λ r. r.id) t.of_road m.roads)
      (part-append (refs-part K.Junction (λ j. j.id) t.of_junction m.junctions)
      (part-behind (refs K.StopLine (ids_of m K.StopLine)) (part-behind (refs K.Crosswalk (ids_of m K.Crosswalk))
      (refs-part K.RegulatoryElement (λ r. r.id) t.of-rule m.rules))))))

  -- the ids of one kind that change
  abbrev pub changed_of : EntityKind → List ℕ
  changed_of K.Lane = map (λ l. l.id) (keep t.of-lane m.lanes)
  changed_of K.Boundary = map (λ b. b.id) (keep t.of-boundary m.boundaries)
  changed_of K.Road = map (λ r. r.id) (keep t.of_road m.roads)
  changed_of K.Junction = map (λ j. j.id) (keep t.of_junction m.junctions)
  changed_of K.StopLine = []
  changed_of K.TrafficSignal = []
  changed_of K.Crosswalk = []
  changed_of K.RegulatoryElement = map (λ r. r.id) (keep t.of-rule m.rules)

  among-changed : (e : EntityRef) → among e (changed_rows t m) ≡ has e.id (changed_of e.kind)
  among-changed e = split ∙ go e.kind
    where
      tests : EntityKind → Bool
      tests k =
          let n = kind_number k in
          eqb n 0 && has e.id (changed_of K.Lane)
          || (eqb n 1 && has e.id (changed_of K.Boundary)
          || (eqb n 2 && has e.id (changed_of K.Road) || (eqb n 3 && has e.id (changed_of K.Junction) || eqb n 7 && has e.id (changed_of K.RegulatoryElement))))

      split : among e (changed_rows t m) ≡ tests e.kind
      split = rw (among-more e K.Lane, among-more e K.Boundary, among-more e K.Road, among-more e K.Junction, among-refs e K.RegulatoryElement)

      go : (k : EntityKind) → tests k ≡ has e.id (changed_of k)
      go K.Lane = or-false (has e.id (changed_of K.Lane))
      go K.Boundary = or-false (has e.id (changed_of K.Boundary))
      go K.Road = or-false (has e.id (changed_of K.Road))
      go K.Junction = or-false (has e.id (changed_of K.Junction))
      go K.StopLine = unfold has in refl
      go K.TrafficSignal = unfold has in refl
      go K.Crosswalk = unfold has in refl
      go K.RegulatoryElement = refl

  -- The lists are exact where the rows that do not change are found as before.
  pub rows-exact : (n : Map) (ls bs : List ℕ) → More m n ls bs → ids_ascend n ≡ true
      → ((k : EntityKind) (i : ℕ) → has i (ids_of m k) ≡ true → has i (changed_of k) ≡ false → row_in m k i ≡ row_in n k i) → (ws : List Issue)
      → Exact m (record { created = refs K.Lane ls ++ refs K.Boundary bs; modified = changed_rows t m; deleted = []; warnings = ws }) n
  rows-exact n ls bs g up rows ws =
      grow-exact m n (more-entities m n ls bs g) (entities-sorted n (keys_of n up)) (changed_rows t m) (refs K.Lane ls ++ refs K.Boundary bs) changed_were (came_in m n ls bs g)
      (λ e a b. unfold row in rows e.kind e.id (sym (among-kind m e) ∙ a) (sym (among-changed e) ∙ b)) ws
