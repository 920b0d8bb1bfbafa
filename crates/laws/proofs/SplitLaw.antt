-- split_lane: what an accepted call yields is sound and tells its changes, where the counter has the ids. Assumes nothing.
use Rattle.std.specs.Prelude.{Some, Ok}
use mathlib.Core.Path.{◌≡◌, refl, sym, ap, ◌∙◌, subst}
use mathlib.Core.Bool.{Bool, true, false, ◌&&◌, ◌||◌}
use mathlib.Core.List.{List, [], map}
use Prim.Native.Nat.{ℕ, ◌+◌, ◌≤◌}
use native.Mathlib.Nat.{le-max_right, max-eq_left}
use native.Mathlib.Omega.{arith}
use lib.Dec.{eqb, ltb, leb}
use lib.Ieee.{Float}
use lib.ListN.{length}
use borrow.Author.Tests.{ltb-true, lt-ltb}
use Rattle.lists.specs.Every.{all}
use Rattle.lists.specs.Select.{any, has}
use Rattle.lists.proofs.Select.{all_map, all_keep, all-weaken}
use Rattle.geometry.specs.Point.{in_reach}
use Rattle.geometry.specs.declared.Point2.{Point2}
use Rattle.entities.specs.declared.Tolerance.{Tolerance}
use Rattle.entities.specs.declared.EntityRef.{EntityRef}
use Rattle.entities.specs.Records.{Issue, Lane, Boundary, Rule, Map}
use Rattle.rules.specs.Map.{lane, lane_ids, uses, rule_anchor}
use Rattle.rules.specs.Sound.{sound, ids_named, next_id, last_counter, counter_above, within_limits, handle_width, optional_line, ids_ascend}
use Rattle.rules.specs.Split.{LanePlan, Piece, lane_plans, pieces_ids, halves, cut_map, group_of}
use Rattle.rules.specs.Ops.{counter_after}
use Rattle.rules.specs.Demand.{Exact}
use Rattle.rules.proofs.Facts.{Sound, sound-facts, facts-sound}
use Rattle.laws.proofs.Entities.{Keys, keys_of}
use Rattle.laws.proofs.Find.{numbered, numbered_below}
use Rattle.laws.proofs.GrowRows.{changed_rows}
use Rattle.laws.proofs.SoundParts.{names-ids, names-before, names-boundaries, reach-boundaries, reach-centers, kinds-boundaries, handles_boundaries}
use Rattle.laws.proofs.SplitLanes.{half_pair, halves-numbered, Cutting}
use Rattle.laws.proofs.SplitLinks.{split-links}
use Rattle.laws.proofs.SplitNeighbors.{split-neighbors}
use Rattle.laws.proofs.SplitPieces.{piece-ids, pieces-below, pieces-reach, pieces-copy}
use Rattle.laws.proofs.SplitNames.{follow-pass}
use Rattle.laws.proofs.SplitSound.{divided, Drawing, split-ids, split-names}
use Rattle.laws.proofs.SplitClauses.{split-reach, split-kinds, split_handles, split-ascend}
use Rattle.laws.proofs.SplitExact.{cut_tests, split-exact}
use Rattle.laws.proofs.SplitPlans.{plans-reach}
use Rattle.laws.proofs.SplitOnce.{split-once}
use Rattle.laws.proofs.SplitYield.{cut_of, drawn_of, pieces_of, following, yielded, choice, firsts-group, counter-is}

-- ---- an accepted call

module _ (tol : Tolerance) (counter : ℕ) (m : Map) (sane : sound counter m ≡ true) (low : all (λ j. ltb j (next_id counter)) (ids_named m) ≡ true)
    (i : ℕ) (l : Lane) (found : lane m i ≡ Some l) (neighbors : Bool) (at : Float) (p : Point2) (ps : List LanePlan)
    (plans : lane_plans tol m i at p (cut_of m (group_of m i neighbors)) ≡ Ok ps) where
  abbrev group : List ℕ
  group = group_of m i neighbors

  abbrev start : ℕ
  start = next_id counter

  abbrev xs : List Piece
  xs = pieces_of m group p start

  abbrev next : ℕ
  next = start + pieces_ids xs

  abbrev f : Rule → List ℕ → List ℕ
  f = following tol m ps xs next

  abbrev ids : ℕ
  ids = pieces_ids xs + length ps

  facts : Sound counter m
  facts = sound-facts counter m sane

  keys : Keys m
  keys = keys_of m facts.ids

  -- ids below the next are below a later one
  lower : (top : ℕ) → start ≤ top → (is : List ℕ) → all (λ j. ltb j start) is ≡ true → all (λ j. ltb j top) is ≡ true
  lower top h is a = all-weaken (λ j. ltb j start) (λ j. ltb j top) is (λ j t. let u = ltb-true j start t in lt-ltb j top (omega arith)) a

  cutting : Cutting m ps next
  cutting =
      record {
        choice = choice tol counter m keys.lanes-up i l found neighbors at p ps plans;
        fresh = lower next (omega arith) (lane_ids m) (names-ids (λ j. ltb j start) m low);
      }

  drawing : Drawing m xs start
  drawing =
      record {
        boundaries-up = keys.boundaries-up;
        boundaries-fresh = names-boundaries (λ j. ltb j start) m low;
        count = pieces_ids xs;
        counted = piece-ids group m.lanes p start (drawn_of m group);
      }

  abbrev after : Map
  after = divided f m ps xs next

  ids_up : ids_ascend after ≡ true
  ids_up = (split-ids f m ps xs next cutting start drawing).so facts.ids

  -- The lists are exact.
  pub split-told : Exact m (yielded tol start m i group ps xs).changes after
  split-told =
      subst (λ g. Exact m (record { created = made; modified = changed_rows (cut_tests f m ps xs next g) m; deleted = []; warnings = told }) after)
      (firsts-group tol counter m keys.lanes-up i l found neighbors at p ps plans next)
      (split-exact f m ps xs next cutting facts.links facts.ids start drawing ids_up told)
    where
      made : List EntityRef
      made = (yielded tol start m i group ps xs).changes.created

      told : List Issue
      told = (yielded tol start m i group ps xs).changes.warnings

  -- ---- soundness

  abbrev top : ℕ
  top = start + ids

  new-below : all (λ (h : ℕ × ℕ). ltb h.1 top) (halves next ps) ≡ true
  new-below =
      ap (all (λ (h : ℕ × ℕ). ltb h.1 top)) (halves-numbered next ps)
      ∙ (all_map (λ (h : ℕ × ℕ). ltb h.1 top) half_pair (numbered next ps) ∙ numbered_below next ps top (omega arith))

  drawn-below : all (λ x. ltb x.first top && ltb x.second top) xs ≡ true
  drawn-below =
      pieces-below group m.lanes p start top (drawn_of m group)
      (all_keep (λ b. ltb b.id top) (λ b. any (uses b.id) (cut_of m group)) m.boundaries
      (sym (all_map (λ j. ltb j top) (λ b. b.id) m.boundaries) ∙ lower top (omega arith) (map (λ b. b.id) m.boundaries) (names-boundaries (λ j. ltb j start) m low)))
      (omega arith)

  names-low : all (λ j. ltb j top) (ids_named m) ≡ true
  names-low = lower top (omega arith) (ids_named m) low

  follow-below : (r : Rule) (is : List ℕ) → all (λ j. ltb j top) is ≡ true → all (λ j. ltb j top) (f r is) ≡ true
  follow-below r =
      follow-pass (λ j. ltb j top) xs (halves next ps) new-below drawn-below tol.join (cut_map m ps xs (halves next ps) next) ps
      (rule_anchor (cut_map m ps xs (halves next ps) next) r)

  names-after : all (λ j. ltb j top) (ids_named after) ≡ true
  names-after = (split-names f m ps xs next cutting (λ j. ltb j top) new-below drawn-below follow-below).over names-low

  counter-above : counter_above top after ≡ true
  unfolding counter_above
  counter-above =
      let n : next_id top ≡ top = max-eq_left (later (pieces_ids xs) (length ps) (le-max_right counter 1)) in
      either (eqb top last_counter) (all (λ j. ltb j (next_id top)) (ids_named after)) (ap (λ k. all (λ j. ltb j k) (ids_named after)) n ∙ names-after)
    where
      later : (a b : ℕ) → 1 ≤ start → 1 ≤ start + (a + b)
      later a b h = omega arith

      either : (a b : Bool) → b ≡ true → (a || b) ≡ true
      either true b t = refl
      either false b t = t

  -- The cut map is sound.
  pub split-sound : within_limits after ≡ true → sound (counter_after counter ids) after ≡ true
  split-sound limits =
      subst (λ k. sound k after ≡ true) (sym (counter-is tol counter m keys.lanes-up i l found neighbors at p ps plans (pieces_ids xs)))
      (facts-sound top after
      (record {
        limits = limits;
        ids = ids_up;
        counter-above = counter-above;
        reach =
            split-reach f m ps xs next cutting
            (pieces-reach group m.lanes p start (drawn_of m group) (all_keep (λ b. all in_reach b.geometry) (λ b. any (uses b.id) (cut_of m group)) m.boundaries
            (reach-boundaries m facts.reach)))
            (plans-reach tol m i at p (cut_of m group) ps plans
            (all_keep (λ k. all (all in_reach) (optional_line k.centerline)) (λ x. has x.id group) m.lanes (reach-centers m facts.reach)))
            facts.reach;
        kinds = (split-kinds f m ps xs next cutting (copied (λ b. leb b.kind 13) (kinds-boundaries m facts.kinds))).so facts.kinds;
        handles = (split_handles f m ps xs next cutting (copied (λ b. ltb b.attributes handle_width) (handles_boundaries m facts.handles))).so facts.handles;
        links-ascend =
            split-ascend f m ps xs next cutting
            (all-weaken (λ k. all (λ j. ltb j start) k.predecessors) (λ k. all (λ j. ltb j next) k.predecessors) m.lanes
            (λ k. lower next (omega arith) k.predecessors) (names-before (λ j. ltb j start) m low))
            facts.links-ascend;
        links = split-links m ps next cutting xs after refl facts.links;
        neighbors = split-neighbors m ps next cutting xs after refl facts.neighbors;
        once = split-once tol counter m sane low i l found neighbors at p ps plans facts.once;
      }))
    where
      copied : (q : Boundary → Bool) → all q m.boundaries ≡ true → all (λ x. q x.of) xs ≡ true
      copied q h = pieces-copy group m.lanes p q start (drawn_of m group) (all_keep q (λ b. any (uses b.id) (cut_of m group)) m.boundaries h)
