-- What is known where a merge is decided: of the lent tables, both lanes and their plans, before the boundaries that go and the room. Assumes nothing.
use Rattle.std.specs.Prelude.{Some}
use mathlib.Core.Path.{◌≡◌, refl, sym, ap, ◌∙◌}
use Prim.Native.Nat.{ℕ, ◌+◌, ◌^◌, ◌≤◌, ◌<◌}
use native.Mathlib.Omega.{arith}
use mathlib.Core.Bool.{Bool, true, false, not, ◌&&◌, cond, true≢false}
use mathlib.Core.List.{List, [], ◌∷◌, ◌++◌, map}
use lib.Dec.{eqb, leb}
use lib.Ieee.{Float}
use lib.ListN.{length, drop, length-map, length-append, length-take}
use borrow.Author.Tests.{leb-true, eqb-true}
use Rattle.lists.specs.Every.{all}
use Rattle.lists.specs.Rows.{keys}
use Rattle.lists.specs.Select.{keep, any, find, has, ascending, same_numbers}
use Rattle.lists.proofs.Booleans.{and-fst, and-snd}
use Rattle.lists.proofs.Select.{all-numbers, has-keep, keep-map, keep_same}
use Rattle.entities.specs.Records.{Lane, Boundary, Map}
use Rattle.rules.specs.Names.{Tolerance, Left, Right}
use Rattle.rules.specs.Map.{lane, uses}
use Rattle.rules.specs.Sound as S
use Rattle.rules.specs.Sound.{next_id, last_counter}
use Rattle.rules.specs.Lane.{unused}
use Rattle.rules.specs.Merge.{SidePlan, kept, in_place, fresh, plan_ids, joined_boundary, merged}
use Rattle.rules.specs.Ops.{counter_after}
use Rattle.tables.specs.View.{Tables, word, ids_at, rows, view, lane_of, boundary_of}
use Rattle.tables.specs.Formed.{stored, formed, sound_tables, lane_formed}
use Rattle.row_tests.specs.Good.{all_rows}
use Rattle.row_tests.proofs.Formed.{lane-after}
use Rattle.soundness.proofs.Counts.{Counts}
use Rattle.soundness.proofs.Rows.{every_row}
use Rattle.soundness.proofs.Whole.{ids-keys}
use Rattle.store.proofs.Packing.{keep-passing}
use Rattle.store.proofs.Whole.{all-keyed}
use Rattle.laws.proofs.Merge.{merged_lanes, merged_map, new_ones, still_used}
use Rattle.laws.proofs.MergePlans.{Planned, side-planned, plan_new, both_new, ids-made}
use Rattle.laws.proofs.MergeIds.{Free, kept-joined, old-not-new}
use Rattle.laws.proofs.MergeCounter.{counter-free}
use Rattle.layout.proofs.Standing.{Rowwise, spans_rowwise}
use Rattle.lookup.specs.Lookup.{place_of, row_at}
use Rattle.lookup.proofs.Laws.{find_at, place-id, place-within, row-passes, sorted-ascends}
use Rattle.lookup.proofs.Good.{rows-weaker}
use Rattle.sound_facts.proofs.Stored.{formed-counts}
use Rattle.sound_facts.proofs.Facts.{Facts, facts}
use Rattle.merge_plan.specs.Deciding.{lane_in, follows}
use Rattle.merge_plan.specs.declared.Plan.{Plan}
use Rattle.merge_decide.proofs.Whole.{Plans}

-- Lanes `one` and `two` stand in rows i and j of sound tables, the second follows the first, and p is the plan of their merge.
pub record Planning (tol : Tolerance) (counter : ℕ) (t : Tables) (one two i j : ℕ) (p : Plan) : Type 0 where
  pub sane : sound_tables counter t ≡ true
  pub small : counter < 2 ^ 64
  pub first : place_of 52 t.lanes one ≡ Some i
  pub second : place_of 52 t.lanes two ≡ Some j
  pub follow : follows (lane_in [] t.lanes i) (lane_in [] t.lanes j) ≡ true
  pub plans : Plans tol (next_id counter) one two (view t) (lane_in t.coordinates t.lanes i) (lane_in t.coordinates t.lanes j) p

module _ {tol : Tolerance} {counter : ℕ} {t : Tables} {one two i j : ℕ} {p : Plan} (k : Planning tol counter t one two i j p) where
  abbrev c : List Float
  c = t.coordinates

  abbrev pub a : Lane
  a = lane_in t.coordinates t.lanes i

  abbrev pub b : Lane
  b = lane_in t.coordinates t.lanes j

  abbrev pub pl : SidePlan
  pl = k.plans.left

  abbrev pub pr : SidePlan
  pr = k.plans.right

  abbrev pub next : ℕ
  next = next_id counter

  pub view-boundaries : (view t).boundaries ≡ rows 5 (boundary_of t.coordinates) t.boundaries
  unfolding view
  view-boundaries = refl

  -- the merged map
  abbrev pub done : Map
  done = merged_map tol (next_id counter) (view t) a b pl pr

  pub known : Facts counter t
  known = facts counter t k.sane

  pub counts : Counts t
  unfolding sound_tables
  counts = formed-counts t (and-fst (formed t) (S.sound counter (view t)) k.sane)

  pub here-first : i < word 0 t.lanes
  here-first = place-within 52 t.lanes one i k.first

  pub here-second : j < word 0 t.lanes
  here-second = place-within 52 t.lanes two j k.second

  -- the first lane is found by its id
  pub found : lane (view t) a.id ≡ Some a
  unfolding lane view lane_of
  found =
      let e : word 0 (row_at 52 t.lanes i) ≡ one = place-id 52 t.lanes one i k.first in
      ap (λ n. find (λ l. eqb l.id n) (rows 52 (lane_of c) t.lanes)) e ∙ find_at 52 (lane_of c) (λ l. l.id) (λ w. refl) t.lanes one i k.first

  -- the second is another
  pub two_lanes : not (eqb a.id b.id) ≡ true
  unfolding lane_of
  two_lanes =
      let x = not (eqb a.id b.id) in
      let y = same_numbers a.successors (b.id ∷ []) in
      let z = same_numbers b.predecessors (a.id ∷ []) in
      and-fst x (y && z) k.follow

  -- and alone comes after it
  pub leads : same_numbers a.successors (b.id ∷ []) ≡ true
  unfolding lane_of
  leads =
      let x = not (eqb a.id b.id) in
      let y = same_numbers a.successors (b.id ∷ []) in
      let z = same_numbers b.predecessors (a.id ∷ []) in
      and-fst y z (and-snd x (y && z) k.follow)

  -- ---- rows

  pub stored-rows : Rowwise (stored c) t
  stored-rows = spans_rowwise (stored c) t known.parts.store

  pub links-up : all (λ b. b) (rows 52 (λ w. ascending (ids_at 18 w)) t.lanes) ≡ true
  unfolding S.links_ascend view lane_of
  links-up =
      rows-weaker 52 (λ w. ascending (ids_at 18 w) && ascending (ids_at 35 w)) (λ w. ascending (ids_at 18 w)) (λ w h. and-fst (ascending (ids_at 18 w)) (ascending (ids_at 35 w)) h) t.lanes
      (sym (every_row 52 (lane_of c) (λ l. ascending l.predecessors && ascending l.successors) t.lanes) ∙ known.clauses.links-ascend)

  pub lanes-up : ascending (map (λ l. l.id) (rows 52 (lane_of c) t.lanes)) ≡ true
  unfolding lane_of
  lanes-up = ap ascending (ids-keys 52 (lane_of c) (λ l. l.id) t.lanes (λ w. refl)) ∙ sorted-ascends 1024 52 t.lanes known.drawable.lanes_are_sorted

  pub few-after : length b.successors ≤ 16
  unfolding lane_of
  few-after =
      let w = row_at 52 t.lanes j in
      let f = lane-after w (row-passes 52 lane_formed t.lanes (unfold all_rows in known.parts.lanes) j here-second) in
      omega (arith, length-take (word 35 w) (drop 36 w))

  pub boundary-keys : map (λ x. x.id) (view t).boundaries ≡ keys 5 (word 0 t.boundaries) (drop 1 t.boundaries)
  unfolding view boundary_of
  boundary-keys = ids-keys 5 (boundary_of c) (λ x. x.id) t.boundaries (λ w. refl)

  -- ---- plans

  pub left-planned : Planned (view t) a.left.boundary pl
  left-planned = side-planned (view t) known.clauses.reach tol Left a b pl k.plans.left-plan

  pub right-planned : Planned (view t) a.right.boundary pr
  right-planned = side-planned (view t) known.clauses.reach tol Right a b pr k.plans.right-plan

  both-count : (l r : SidePlan) (n : ℕ) → length (both_new l r n) ≡ plan_ids l + plan_ids r
  both-count l r n = length-append (plan_new l n) (plan_new r (n + plan_ids l)) ∙ (ap (λ z. z + length (plan_new r (n + plan_ids l))) (go l n) ∙ ap (λ z. plan_ids l + z) (go r (n + plan_ids l)))
    where
      go : (q : SidePlan) (n : ℕ) → length (plan_new q n) ≡ plan_ids q
      go kept n = refl
      go (in_place l) n = refl
      go (fresh l) n = refl

  -- as many new boundaries as ids
  pub new-count : length (new_ones next (view t) a pl pr) ≡ plan_ids pl + plan_ids pr
  new-count =
      sym (length-map (new_ones next (view t) a pl pr) (λ x. x.id)) ∙ (ap length (ids-made (view t) next a pl pr left-planned right-planned) ∙ both-count pl pr next)

  -- ---- ids, where there are enough

  module _ (ids : leb (counter_after counter (plan_ids pl + plan_ids pr)) last_counter ≡ true) where
    free : Free next (view t) pl pr
    free = counter-free counter (plan_ids pl + plan_ids pr) (view t) known.clauses.counter-above ids

    -- no boundary has a new one
    pub not_new : (n : ℕ) → has n (keys 5 (word 0 t.boundaries) (drop 1 t.boundaries)) ≡ true → has n (both_new pl pr next) ≡ false
    not_new n e = old-not-new tol next (view t) a b pl pr left-planned right-planned free n (ap (has n) boundary-keys ∙ e)

    pub new-fresh : all (λ i. not (has i (keys 5 (word 0 t.boundaries) (drop 1 t.boundaries)))) (both_new pl pr next) ≡ true
    new-fresh = all-numbers (λ n. not (has n (keys 5 (word 0 t.boundaries) (drop 1 t.boundaries)))) (both_new pl pr next) (λ n h. go n h (has n (keys 5 (word 0 t.boundaries) (drop 1 t.boundaries))) refl)
      where
        go : (n : ℕ) → has n (both_new pl pr next) ≡ true → (z : Bool) → has n (keys 5 (word 0 t.boundaries) (drop 1 t.boundaries)) ≡ z → not z ≡ true
        go n h true e = absurd (true≢false (sym h ∙ not_new n e))
        go n h false e = refl

    pub ids-small : next + plan_ids pl < 2 ^ 64
    ids-small = go (eqb (plan_ids pl + plan_ids pr) 0) refl ids
      where
        go : (z : Bool) → eqb (plan_ids pl + plan_ids pr) 0 ≡ z → leb (cond z counter (next_id counter + (plan_ids pl + plan_ids pr))) last_counter ≡ true → next + plan_ids pl < 2 ^ 64
        go true e h = let n = eqb-true (plan_ids pl + plan_ids pr) 0 e in let s = k.small in omega arith
        go false e h = let n = leb-true (next_id counter + (plan_ids pl + plan_ids pr)) last_counter h in omega arith

  -- ---- boundaries that stay, where it is known which go

  module _ (gone : List ℕ) (goes : gone ≡ map (λ x. x.id) (keep (unused (a ∷ b ∷ []) (merged tol (next_id counter) (view t) a b pl pr).result.lanes) (view t).boundaries)) where
    pub stay-kept : keep (λ x. not (has x.id gone)) (view t).boundaries ≡ keep (still_used tol next (view t) a b pl pr) (view t).boundaries
    unfolding merged
    stay-kept =
        keep_same (λ x. not (has x.id gone)) (λ x. not (has x.id (map (λ x. x.id) bs) && drops x.id)) bs (λ x. ap not (ap (has x.id) goes ∙ gone-has x.id))
        ∙ (sym (keep-passing (λ x. has x.id (map (λ x. x.id) bs)) (λ x. not (has x.id (map (λ x. x.id) bs) && drops x.id)) bs (all-keyed (λ x. x.id) bs))
        ∙ (keep_same (λ x. has x.id (map (λ x. x.id) bs) && not (has x.id (map (λ x. x.id) bs) && drops x.id)) (λ x. has x.id (map (λ x. x.id) bs) && not (drops x.id)) bs
        (λ x. both (has x.id (map (λ x. x.id) bs)) (drops x.id))
        ∙ keep-passing (λ x. has x.id (map (λ x. x.id) bs)) (λ x. not (drops x.id)) bs (all-keyed (λ x. x.id) bs)))
      where
        bs : List Boundary
        bs = (view t).boundaries

        drops : ℕ → Bool
        drops n = any (uses n) (a ∷ b ∷ []) && not (any (uses n) (merged_lanes tol next (view t) a b pl pr))

        gone-has : (n : ℕ) → has n (map (λ x. x.id) (keep (λ (x : Boundary). drops x.id) bs)) ≡ (has n (map (λ x. x.id) bs) && drops n)
        gone-has n = ap (has n) (sym (keep-map drops (λ (x : Boundary). x.id) bs)) ∙ has-keep n drops (map (λ x. x.id) bs)

        both : (x y : Bool) → (x && not (x && y)) ≡ (x && not y)
        both true y = refl
        both false y = refl

    pub boundaries-done : map (joined_boundary pl pr a) (keep (λ x. not (has x.id gone)) (view t).boundaries) ++ new_ones next (view t) a pl pr ≡ done.boundaries
    boundaries-done =
        ap (λ z. map (joined_boundary pl pr a) z ++ new_ones next (view t) a pl pr) stay-kept
        ∙ ap (λ z. z ++ new_ones next (view t) a pl pr) (sym (kept-joined tol next (view t) a b pl pr left-planned right-planned))
