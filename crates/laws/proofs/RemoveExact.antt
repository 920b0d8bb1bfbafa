-- remove_lane: its change set is exact. Assumes nothing.
use Rattle.std.specs.Prelude.{Some}
use mathlib.Core.Path.{◌≡◌, ap, ◌∙◌, subst}
use mathlib.Core.Bool.{true, not}
use mathlib.Core.List.{[], ◌∷◌, ◌++◌, map}
use Prim.Native.Nat.{ℕ}
use lib.Dec.{eqb}
use Rattle.lists.specs.Select.{keep, has, ascending}
use Rattle.lists.proofs.Booleans.{not-not}
use Rattle.lists.proofs.Select.{keep_same}
use Rattle.entities.specs.declared.EntityKind.TheVariants as K
use Rattle.entities.specs.Records.{Lane, Map, ChangeSet}
use Rattle.rules.specs.Map.{lane, lane_ids}
use Rattle.rules.specs.Sound.{sound}
use Rattle.rules.specs.Edit.{refs, lanes_where, boundaries_where, roads_where, junctions_where, rules_where}
use Rattle.rules.specs.Lane.{mentions, rule_names_lane, unused, orphan, orphaned}
use Rattle.rules.specs.Demand.{Exact}
use Rattle.rules.proofs.Facts.{sound-facts}
use Rattle.laws.proofs.RemoveLinks.{other}
use Rattle.laws.proofs.Remove.{removed, in_use}
use Rattle.laws.proofs.Entities.{keys_of}
use Rattle.laws.proofs.KeptRows.{keep_one}
use Rattle.laws.proofs.LeavingExact.{went_out, thinned-exact}

-- the change set that remove-lane yields
abbrev pub removal : ℕ → Lane → Map → ChangeSet
removal a gone m =
    record {
      created = [];
      modified =
          lanes_where (mentions a) (keep (λ l. not (eqb l.id a)) m.lanes)
          ++ (roads_where (λ r. has a r.lanes) m.roads
          ++ (junctions_where (λ j. has a j.lanes) m.junctions ++ rules_where (rule_names_lane a) m.rules));
      deleted = refs K.Lane (a ∷ []) ++ boundaries_where (unused (gone ∷ []) (keep (λ l. not (eqb l.id a)) m.lanes)) m.boundaries;
      warnings = map orphan (keep (orphaned a) m.rules);
    }

-- what goes is the lane and the boundaries left unused
went-removed : (m : Map) (a : ℕ) (gone : Lane) → lane m a ≡ Some gone → ascending (lane_ids m) ≡ true → went_out a (other a) (in_use a gone m) m ≡ (removal a gone m).deleted
unfolding lane
went-removed m a gone e up =
    ap (λ ls. refs K.Lane (map (λ l. l.id) ls) ++ boundaries_where (λ b. not (in_use a gone m b)) m.boundaries)
    (keep_same (λ l. not (other a l)) (λ l. eqb l.id a) m.lanes (λ l. not-not (eqb l.id a)))
    ∙ (ap (λ ids. refs K.Lane ids ++ boundaries_where (λ b. not (in_use a gone m b)) m.boundaries) (keep_one (λ l. l.id) a m.lanes gone up e)
    ∙ ap (λ bs. refs K.Lane (a ∷ []) ++ refs K.Boundary (map (λ b. b.id) bs))
    (keep_same (λ b. not (in_use a gone m b)) (unused (gone ∷ []) (keep (other a) m.lanes)) m.boundaries (λ b. not-not (unused (gone ∷ []) (keep (other a) m.lanes) b))))

pub remove-exact : (counter : ℕ) (m : Map) → sound counter m ≡ true → (a : ℕ) (gone : Lane) → lane m a ≡ Some gone → Exact m (removal a gone m) (removed a gone m)
remove-exact counter m sane a gone e =
    let ids = (sound-facts counter m sane).ids in
    subst (λ dels. Exact m (record { created = []; modified = (removal a gone m).modified; deleted = dels; warnings = (removal a gone m).warnings }) (removed a gone m))
    (went-removed m a gone e (keys_of m ids).lanes-up) (thinned-exact a (other a) (in_use a gone m) m ids (removal a gone m).warnings)
