-- The lists of a removal, read from the rows. Assumes nothing.
use mathlib.Core.Path.{◌≡◌, refl, sym, ap, ◌∙◌}
use Prim.Native.Nat.{ℕ}
use mathlib.Core.Bool.{Bool, true, false, not, ◌&&◌, ◌||◌}
use mathlib.Core.List.{List, [], ◌∷◌, ◌++◌, map}
use lib.Dec.{eqb}
use lib.ListN.{drop}
use Rattle.lists.specs.Rows.{keys}
use Rattle.lists.specs.Select.{keep, any}
use Rattle.lists.proofs.Rows.{mapped-reads}
use Rattle.lists.proofs.Select.{any-keep, keep-map, keep_same, map-twice}
use Rattle.entities.specs.Records.{Lane, Rule, Boundary}
use Rattle.rules.specs.Names.{EntityRef, LaneKind, BoundaryKind}
use Rattle.rules.specs.Map.{uses}
use Rattle.rules.specs.Edit.{refs}
use Rattle.rules.specs.Lane.{unused, orphaned}
use Rattle.tables.specs.View.{Tables, word, rows, view, lane_of, boundary_of, rule_of}
use Rattle.row_tests.specs.Returned.{lane_at}
use Rattle.lookup.specs.Lookup.{used_besides}
use Rattle.lookup.proofs.Laws.{besides-lanes}
use Rattle.report.specs.Report.{orphan_rule}
use Rattle.laws.proofs.RemoveExact.{removal}
use Rattle.mentions.specs.declared.Rows.TheVariants.{Orphans}
use Rattle.mentions.specs.Naming.{naming}
use Rattle.mentions.proofs.Filters.{lanes_named, roads_named, junctions_named, rules-named, orphans_named}
use Rattle.unused.specs.Parts.{gone_with, touched, leaving}

module _ (a : ℕ) (t : Tables) where
  pub modified-read : (gone : Lane) → (removal a gone (view t)).modified ≡ touched a t.lanes t.roads t.junctions t.rules
  unfolding touched view
  modified-read gone = joined (lanes_named a t.lanes t.coordinates) (roads_named a t.roads) (junctions_named a t.junctions) (rules-named a t.rules)
    where
      joined : {p q r s u v x y : List EntityRef} → p ≡ u → q ≡ v → r ≡ x → s ≡ y → p ++ (q ++ (r ++ s)) ≡ u ++ (v ++ (x ++ y))
      joined e f g h = rw (e, f, g, h)

  pub warnings-read : (gone : Lane) → (removal a gone (view t)).warnings ≡ map orphan_rule (naming Orphans a t.rules)
  unfolding view
  warnings-read gone = sym (map-twice (λ (r : Rule). r.id) orphan_rule (keep (orphaned a) (rows 330 rule_of t.rules))) ∙ ap (map orphan_rule) (orphans_named a t.rules)

  -- ---- boundaries that go with the lane in row i

  module _ (i : ℕ) (own : word 0 (lane_at t.lanes i) ≡ a) where
    abbrev row : List ℕ
    row = lane_at t.lanes i

    abbrev gone : Lane
    gone = lane_of t.coordinates row

    abbrev left : List Lane
    left = keep (λ l. not (eqb l.id a)) (view t).lanes

    -- by the boundary's id alone
    abbrev pub goes : ℕ → Bool
    goes b = any (uses b) (gone ∷ []) && not (any (uses b) left)

    pub goes-alone : (b : ℕ) → goes b ≡ ((eqb (word 2 row) b || eqb (word 4 row) b) && not (used_besides t.lanes b (word 0 row)))
    unfolding any view lane_of
    goes-alone b =
        let e : any (uses b) left ≡ used_besides t.lanes b (word 0 row) =
        any-keep (uses b) (λ l. not (eqb l.id a)) (view t).lanes ∙ (sym (besides-lanes t.coordinates t.lanes b a) ∙ ap (used_besides t.lanes b) (sym own)) in
        let f : (x : Bool) → (x || false) ≡ x = λ x. or-none x in
        ap (λ z. (eqb (word 2 row) b || eqb (word 4 row) b || false) && not z) e ∙ ap (λ z. z && not (used_besides t.lanes b (word 0 row))) (f (eqb (word 2 row) b || eqb (word 4 row) b))
      where
        or-none : (x : Bool) → (x || false) ≡ x
        or-none true = refl
        or-none false = refl

    boundary-keys : map (λ b. b.id) (view t).boundaries ≡ keys 5 (word 0 t.boundaries) (drop 1 t.boundaries)
    unfolding view rows keys boundary_of
    boundary-keys = mapped-reads 5 (boundary_of t.coordinates) (λ (b : Boundary). b.id) (word 0 t.boundaries) (drop 1 t.boundaries)

    pub gone-read : map (λ b. b.id) (keep (unused (gone ∷ []) left) (view t).boundaries) ≡ gone_with t.lanes i t.boundaries
    unfolding gone_with
    gone-read =
        sym (keep-map goes (λ (b : Boundary). b.id) (view t).boundaries)
        ∙ (ap (keep goes) boundary-keys
        ∙ keep_same goes (λ b. (eqb (word 2 row) b || eqb (word 4 row) b) && not (used_besides t.lanes b (word 0 row))) (keys 5 (word 0 t.boundaries) (drop 1 t.boundaries)) goes-alone)

    pub deleted-read : (removal a gone (view t)).deleted ≡ leaving a (gone_with t.lanes i t.boundaries)
    deleted-read = ap (λ z. refs LaneKind (a ∷ []) ++ refs BoundaryKind z) gone-read
