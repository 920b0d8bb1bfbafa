-- What is known of a split whose lanes are planned: of the lent tables, the group, its plans and their ids. Assumes nothing.
use Rattle.std.specs.Prelude.{Some}
use mathlib.Core.Path.{◌≡◌, refl, sym, ap, ◌∙◌, subst}
use Prim.Native.Nat.{ℕ, ◌+◌, ◌^◌, ◌<◌}
use native.Mathlib.Omega.{arith}
use mathlib.Core.Bool.{Bool, true, false}
use mathlib.Core.List.{List, map}
use lib.Dec.{leb, ltb}
use lib.Ieee.{Float}
use lib.ListN.{length, length-map, replicate}
use borrow.Author.Tests.{leb-true, ltb-true, lt-ltb}
use Rattle.lists.specs.Every.{all}
use Rattle.lists.specs.Rows.{over}
use Rattle.lists.specs.Select.{keep, any, has, ascending}
use Rattle.lists.proofs.Booleans.{and-fst}
use Rattle.lists.proofs.Select.{all-weaken, map-twice, keys-keep}
use Rattle.entities.specs.declared.Tolerance.{Tolerance}
use Rattle.entities.specs.Records.{Lane}
use Rattle.rules.specs.Names.{Point2}
use Rattle.rules.specs.Map.{lane, lane_ids, uses}
use Rattle.rules.specs.Sound.{sound, ids_named, last_counter, next_id}
use Rattle.rules.specs.Edit.{passed}
use Rattle.rules.specs.Split.{LanePlan, Piece, pieces_ids, pieces, group_of}
use Rattle.rules.specs.Ops.{counter_after}
use Rattle.rules.proofs.Facts.{sound-facts}
use Rattle.laws.proofs.SoundParts.{names-below}
use Rattle.laws.proofs.Still.{ids_up}
use Rattle.laws.proofs.SplitPlans.{plans-of}
use Rattle.laws.proofs.SplitYield.{ids_are_left, counter-is}
use Rattle.laws.proofs.TurnsRows.{calm, all-calm}
use Rattle.tables.specs.View.{Tables, word, lane_of, view}
use Rattle.tables.specs.Formed.{formed, sound_tables}
use Rattle.soundness.proofs.Counts.{Counts}
use Rattle.lookup.specs.Lookup.{row_at}
use Rattle.group.specs.Walk.{ids_of}
use Rattle.sound_facts.proofs.Found.{sound-map, lane-there}
use Rattle.sound_facts.proofs.Stored.{formed-counts}
use Rattle.sound_facts.proofs.Facts.{Facts, facts}
use Rattle.split_plan.specs.Placing.{marked_rows}
use Rattle.split_pieces.specs.Pieces as Q
use Rattle.split_laws.proofs.Chosen.{lanes-chosen, ids-chosen}
use Rattle.split_laws.proofs.Pieces.{pieces-ids}
use Rattle.split_named.proofs.Words.{cut_ids, below}
use Rattle.split_anchors.proofs.Centers.{Cut}
use Rattle.split_anchors.proofs.Accepted.{cut-accepted, cuts-below}
use Rattle.split_facts.specs.Splitting.{lanes_in, plans_in, pieces_in, Planned, Numbered}

module _ {tol : Tolerance} {counter : ℕ} {t : Tables} {own : ℕ} {p : Point2} {seen : List Bool} {cut : List ℕ} {stations : List Float} (k : Planned tol counter t own p seen cut stations) where
  abbrev pub ps : List LanePlan
  ps = plans_in t p seen stations

  abbrev pub xs : List Piece
  xs = pieces_in counter t p seen cut

  abbrev pub group : List ℕ
  group = group_of (view t) own k.neighbors

  abbrev chosen : List Lane
  chosen = keep (λ x. has x.id (group_of (view t) own k.neighbors)) (view t).lanes

  -- ---- the tables

  pub known : Facts counter t
  known = facts counter t k.sane

  pub counts : Counts t
  unfolding sound_tables
  counts = formed-counts t (and-fst (formed t) (sound counter (view t)) k.sane)

  pub sound-view : sound counter (view t) ≡ true
  sound-view = sound-map counter t k.sane

  pub found : lane (view t) own ≡ Some (lane_of t.coordinates (row_at 52 t.lanes k.row))
  found = lane-there t own k.row k.there

  -- ---- the group

  pub chosen-lanes : lanes_in t seen ≡ keep (λ x. has x.id (group_of (view t) own k.neighbors)) (view t).lanes
  chosen-lanes = lanes-chosen t own k.row k.there k.neighbors (replicate 1024 false) seen k.marked

  -- the plans are of the marked lanes
  pub of_lanes : map (λ x. x.of) (plans_in t p seen stations) ≡ lanes_in t seen
  of_lanes = plans-of tol (view t) own k.at p chosen (plans_in t p seen stations) k.planned ∙ sym chosen-lanes

  -- the cut lanes are the group
  pub group-is : group_of (view t) own k.neighbors ≡ cut
  unfolding lane_of
  group-is =
      sym (ids-chosen t own k.row k.there k.neighbors (replicate 1024 false) seen k.marked known.lanes)
      ∙ (sym (map-twice (lane_of t.coordinates) (λ (l : Lane). l.id) (marked_rows seen t.lanes))
      ∙ (ap (map (λ (l : Lane). l.id)) (sym of_lanes) ∙ (map-twice (λ (x : LanePlan). x.of) (λ (l : Lane). l.id) ps ∙ k.ids)))

  pub lane-ids-up : ascending (lane_ids (view t)) ≡ true
  lane-ids-up = ids_up counter (view t) sound-view

  pub cut_up : ascending cut ≡ true
  cut_up =
      ap ascending (sym k.ids ∙ (sym (map-twice (λ (x : LanePlan). x.of) (λ (l : Lane). l.id) ps) ∙ ap (map (λ (l : Lane). l.id)) (of_lanes ∙ chosen-lanes)))
      ∙ keys-keep (λ (l : Lane). l.id) (λ x. has x.id (group_of (view t) own k.neighbors)) (view t).lanes lane-ids-up

  pub cuts-up : ascending (cut_ids (plans_in t p seen stations)) ≡ true
  cuts-up = ap ascending k.ids ∙ cut_up

  pub cut-rows : map (word 0) (marked_rows seen t.lanes) ≡ cut
  cut-rows = ids-chosen t own k.row k.there k.neighbors (replicate 1024 false) seen k.marked known.lanes ∙ group-is

  pub many-plans : length (plans_in t p seen stations) ≡ length cut
  many-plans = sym (length-map ps (λ (x : LanePlan). x.of.id)) ∙ ap length k.ids

  -- the pieces, as document 01 has them
  pub pieces-same : pieces_in counter t p seen cut
      ≡ pieces (group_of (view t) own k.neighbors) (view t).lanes p (next_id counter)
      (keep (λ b. any (uses b.id) (keep (λ x. has x.id (group_of (view t) own k.neighbors)) (view t).lanes)) (view t).boundaries)
  pieces-same = both (sym group-is) chosen-lanes
    where
      both : {g h : List ℕ} {ls ms : List Lane} → g ≡ h → ls ≡ ms
          → pieces g (view t).lanes p (next_id counter) (keep (λ b. any (uses b.id) ls) (view t).boundaries) ≡ pieces h (view t).lanes p (next_id counter) (keep (λ b. any (uses b.id) ms) (view t).boundaries)
      both e f = rw (e, f)

  -- how many ids they take
  pub piece-ids : (marks₀ marks : List Bool) → marks ≡ over marks₀ 0 (Q.cut_marks seen t.lanes t.boundaries) → pieces_ids (pieces_in counter t p seen cut) ≡ Q.ids_of seen t.lanes (Q.cut_keys marks t.boundaries)
  piece-ids marks₀ marks e =
      ap pieces_ids pieces-same ∙ pieces-ids t own k.row k.there k.neighbors (replicate 1024 false) seen k.marked marks₀ marks e p (next_id counter)

-- ---- ids, where there are enough

module _ {tol : Tolerance} {counter : ℕ} {t : Tables} {own : ℕ} {p : Point2} {seen : List Bool} {cut : List ℕ} {stations : List Float} {ids : ℕ} {marks : List Bool}
    (n : Numbered tol counter t own p seen cut stations ids marks) where
  abbrev pub plan : Planned tol counter t own p seen cut stations
  plan = n.plan

  abbrev at_first : ℕ
  at_first = next_id counter

  pub pieces-many : pieces_ids (pieces_in counter t p seen cut) ≡ ids
  pieces-many = piece-ids plan (replicate 4096 false) marks n.marked ∙ sym n.counted

  -- they are those that document 01 allocates
  pub within : leb (counter_after counter (pieces_ids (pieces_in counter t p seen cut) + length (plans_in t p seen stations))) last_counter ≡ true
  within = both pieces-many (many-plans plan) n.left
    where
      both : {a b c d : ℕ} → a ≡ b → c ≡ d → leb (counter_after counter (b + d)) last_counter ≡ true → leb (counter_after counter (a + c)) last_counter ≡ true
      both e f h = rw (e, f) h

  abbrev the_lane : Lane
  the_lane = lane_of t.coordinates (row_at 52 t.lanes plan.row)

  pub ids-small : next_id counter + (ids + length cut) < 2 ^ 64
  ids-small =
      let e = counter-is tol counter (view t) (lane-ids-up plan) own the_lane (found plan) plan.neighbors plan.at p (plans_in t p seen stations) plan.planned (pieces_ids (pieces_in counter t p seen cut)) in
      let l = leb-true (next_id counter + (pieces_ids (pieces_in counter t p seen cut) + length (plans_in t p seen stations))) last_counter (ap (λ c. leb c last_counter) (sym e) ∙ within) in
      omega (arith, pieces-many, many-plans plan)

  -- every id that the map names is below the first new one
  pub low : all (λ j. ltb j (next_id counter)) (ids_named (view t)) ≡ true
  low =
      names-below counter (view t) last_counter refl
      (ids_are_left tol counter (view t) (lane-ids-up plan) own the_lane (found plan) plan.neighbors plan.at p (plans_in t p seen stations) plan.planned (pieces_ids (pieces_in counter t p seen cut)) last_counter refl within)
      (sound-facts counter (view t) (sound-view plan)).counter-above

  -- no rule's own lanes have a repeat, and all are below the second halves
  pub rules-calm : all (calm (next_id counter + pieces_ids (pieces_in counter t p seen cut))) (view t).rules ≡ true
  rules-calm =
      let first = next_id counter + pieces_ids (pieces_in counter t p seen cut) in
      all-calm first (view t) (sound-facts counter (view t) (sound-view plan)).once
      (all-weaken (λ j. ltb j (next_id counter)) (λ j. ltb j first) (ids_named (view t)) (λ j u. let l = ltb-true j (next_id counter) u in lt-ltb j first (omega arith)) low)

  -- what the laws of anchors ask
  pub accepted : Cut (view t) (plans_in t p seen stations) cut (lanes_in t seen) p (next_id counter)
  accepted =
      subst (λ ls. Cut (view t) (plans_in t p seen stations) cut ls p (next_id counter)) (sym (chosen-lanes plan))
      (subst (λ g. Cut (view t) (plans_in t p seen stations) g (keep (λ x. has x.id (group_of (view t) own plan.neighbors)) (view t).lanes) p (next_id counter)) (group-is plan)
      (cut-accepted tol counter (view t) (sound-view plan) low own the_lane (found plan) plan.neighbors plan.at p (plans_in t p seen stations) plan.planned passed plan.crossed))

  -- the cut lanes are below the first second half
  pub new-below : below (next_id counter + ids) cut
  new-below = both pieces-many plan.ids (cuts-below (view t) (plans_in t p seen stations) cut (lanes_in t seen) p (next_id counter) accepted)
    where
      both : {a b : ℕ} {c d : List ℕ} → a ≡ b → c ≡ d → below (next_id counter + a) c → below (next_id counter + b) d
      both e f h = rw (← e, ← f) h
