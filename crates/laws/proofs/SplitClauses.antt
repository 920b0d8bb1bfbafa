-- split_lane: lines in reach, legal kinds and handles, ascending links of the cut map. Assumes nothing.
use mathlib.Core.Path.{◌≡◌, refl, sym, ap, ◌∙◌}
use mathlib.Core.Bool.{Bool, true, not, ◌&&◌}
use mathlib.Core.List.{List, [], ◌∷◌, ◌++◌, map}
use Prim.Native.Nat.{ℕ}
use native.Mathlib.Omega.{arith}
use lib.Dec.{ltb, leb}
use borrow.Author.Tests.{ltb-true, lt-ltb, leb-true}
use Rattle.lists.specs.Every.{all}
use Rattle.lists.specs.Select.{keep, each, has, above, ascending, insert_after}
use Rattle.lists.proofs.Booleans.{and_both, and-fst, and-snd}
use Rattle.lists.proofs.Select.{all_map, all-each, all_keep, all-weaken, ascending-append, ascending-keep, keys-keep}
use Rattle.geometry.specs.Point.{in_reach}
use Rattle.entities.specs.Records.{Line, Lane, Boundary, Rule, Map}
use Rattle.rules.specs.Sound.{lines, optional_line, lines_in_reach, kinds_legal, rule_legal, handles_legal, handle_width, speed_legal, links_ascend}
use Rattle.rules.specs.Lane.{road_lanes, junction_lanes, rule_lanes}
use Rattle.rules.specs.Split.{LanePlan, Piece, halves, came_from}
use Rattle.laws.proofs.Part.{Gives, ◌&also◌, stays, part-whole, all-image}
use Rattle.laws.proofs.Find.{numbered, numbered-from, numbered-up}
use Rattle.laws.proofs.SplitLanes.{map-map, Numbered, half_pair, halves-numbered, Cutting, cut_lanes}
use Rattle.laws.proofs.SplitTests.{Carries, ◌&then◌, carries_same, all_both, plans-all, numbered-all, lanes-test, lanes-copy, cut_boundaries, boundaries-test}
use Rattle.laws.proofs.SplitSound.{divided, rule-stays-legal}

one_up : (i : ℕ) → ascending (i ∷ []) ≡ true
unfolding ascending above
one_up i = refl

-- the pieces of explicit centrelines lie in reach
abbrev pub centers_reach : LanePlan → Bool
centers_reach x = all (all in_reach) (optional_line x.first_center) && all (all in_reach) (optional_line x.second_center)

abbrev pub drawn_reach : Piece → Bool
drawn_reach x = all in_reach x.first_line && all in_reach x.second_line

module _ (f : Rule → List ℕ → List ℕ) (m : Map) (ps : List LanePlan) (xs : List Piece) (next : ℕ) (c : Cutting m ps next) where
  abbrev hs : List (ℕ × ℕ)
  hs = halves next ps

  abbrev after : Map
  after = divided f m ps xs next

  -- ---- lines

  boundary_lines : all drawn_reach xs ≡ true → Carries (all in_reach) (map (λ b. b.geometry) m.boundaries) (map (λ b. b.geometry) (cut_boundaries m xs))
  boundary_lines u =
      record {
        over =
            λ t.
            all_map (all in_reach) (λ b. b.geometry) (cut_boundaries m xs)
            ∙ boundaries-test m xs (λ b. all in_reach b.geometry) (λ b. all in_reach b.geometry) drawn_reach (λ b h. h)
            (λ b x h k. and-fst (all in_reach x.first_line) (all in_reach x.second_line) k) (λ x k. and-fst (all in_reach x.first_line) (all in_reach x.second_line) k)
            (λ x k. and-snd (all in_reach x.first_line) (all in_reach x.second_line) k) (sym (all_map (all in_reach) (λ b. b.geometry) m.boundaries) ∙ t) u;
      }

  center_lines : all centers_reach ps ≡ true → Carries (all in_reach) (each (λ l. optional_line l.centerline) m.lanes) (each (λ l. optional_line l.centerline) (cut_lanes m ps xs next))
  center_lines u =
      let v = numbered-all m ps next c centers_reach u in
      record {
        over =
            λ t.
            all-each (all in_reach) (λ l. optional_line l.centerline) (cut_lanes m ps xs next)
            ∙ lanes-test m ps next c xs (λ l. all (all in_reach) (optional_line l.centerline)) (sym (all-each (all in_reach) (λ l. optional_line l.centerline) m.lanes) ∙ t)
            (all-weaken (λ (z : Numbered). centers_reach z.1) (λ (z : Numbered). all (all in_reach) (optional_line z.1.first_center)) (numbered next ps)
            (λ z k. and-fst (all (all in_reach) (optional_line z.1.first_center)) (all (all in_reach) (optional_line z.1.second_center)) k) v)
            (all-weaken (λ (z : Numbered). centers_reach z.1) (λ (z : Numbered). all (all in_reach) (optional_line z.1.second_center)) (numbered next ps)
            (λ z k. and-snd (all (all in_reach) (optional_line z.1.first_center)) (all (all in_reach) (optional_line z.1.second_center)) k) v);
      }

  pub split-reach : all drawn_reach xs ≡ true → all centers_reach ps ≡ true → lines_in_reach m ≡ true → lines_in_reach after ≡ true
  unfolding lines_in_reach lines
  split-reach u v =
      (boundary_lines u
      &then center_lines v
      &then carries_same (all in_reach) (map (λ s. s.geometry) m.stop_lines ++ (map (λ c. c.left_edge) m.crosswalks ++ map (λ c. c.right_edge) m.crosswalks))).over

  -- ---- kinds and handles

  copied : (q : Boundary → Bool) → ((b : Boundary) → q b ≡ true → (i : ℕ) (line : Line)
      → q (record { id = i; kind = b.kind; geometry = line; attributes = b.attributes }) ≡ true)
      → all (λ x. q x.of) xs ≡ true → Gives (all q m.boundaries) (all q (cut_boundaries m xs))
  copied q h u =
      record {
        so = λ t. boundaries-test m xs q q (λ x. q x.of) (λ b k. k) (λ b x k w. h b k b.id x.first_line) (λ x w. h x.of w x.first x.first_line)
            (λ x w. h x.of w x.second x.second_line) t u;
      }

  pub split-kinds : all (λ x. leb x.of.kind 13) xs ≡ true → Gives (kinds_legal m) (kinds_legal after)
  unfolding kinds_legal
  split-kinds u =
      lanes-copy m ps next c xs (λ l. leb l.kind 7 && leb l.turn_direction 3) (λ l h. h) (λ j x h. h) (λ j x h. h)
      &also copied (λ b. leb b.kind 13) (λ b h i line. h) u
      &also all-image rule_legal rule_legal (λ r. rule_lanes (f r) (insert_after hs) r) (λ r. rule-stays-legal (f r) hs r) (part-whole m.rules)

  pub split_handles : all (λ x. ltb x.of.attributes handle_width) xs ≡ true → Gives (handles_legal m) (handles_legal after)
  unfolding handles_legal
  split_handles u =
      lanes-copy m ps next c xs (λ l. ltb l.attributes handle_width && speed_legal l.speed_limit) (λ l h. h) (λ j x h. h) (λ j x h. h)
      &also copied (λ b. ltb b.attributes handle_width) (λ b h i line. h) u
      &also all-image (λ r. ltb r.name handle_width && ltb r.attributes handle_width) (λ r. ltb r.name handle_width && ltb r.attributes handle_width)
      (road_lanes (insert_after hs))
      (λ r. stays (ltb r.name handle_width && ltb r.attributes handle_width)) (part-whole m.roads)
      &also all-image (λ j. ltb j.name handle_width && ltb j.outline handle_width && ltb j.attributes handle_width)
      (λ j. ltb j.name handle_width && ltb j.outline handle_width && ltb j.attributes handle_width) (junction_lanes (insert_after hs))
      (λ j. stays (ltb j.name handle_width && ltb j.outline handle_width && ltb j.attributes handle_width)) (part-whole m.junctions)
      &also all-image (λ r. ltb r.content handle_width && ltb r.attributes handle_width) (λ r. ltb r.content handle_width && ltb r.attributes handle_width)
      (λ r. rule_lanes (f r) (insert_after hs) r) (λ r. stays (ltb r.content handle_width && ltb r.attributes handle_width)) (part-whole m.rules)
      &also stays (all (λ s. ltb s.attributes handle_width) m.stop_lines)
      &also stays (all (λ c. ltb c.outline handle_width && ltb c.attributes handle_width) m.crosswalks)

  -- ---- links ascend

  -- a list of ids that ascends below the new ones still ascends
  came-ascends : (ids : List ℕ) → all (λ i. ltb i next) ids ≡ true → ascending ids ≡ true → ascending (came_from hs ids) ≡ true
  unfolding came_from
  came-ascends ids low up =
      ascending-append (keep (λ i. not (has i (map (λ h. h.0) hs))) ids) (map (λ h. h.1) (keep (λ h. has h.0 ids) hs))
      (ascending-keep (λ i. not (has i (map (λ h. h.0) hs))) ids up) (keys-keep (λ h. h.1) (λ h. has h.0 ids) hs seconds-up)
      (all-weaken (λ i. ltb i next) (λ i. all (ltb i) (map (λ h. h.1) (keep (λ h. has h.0 ids) hs))) (keep (λ i. not (has i (map (λ h. h.0) hs))) ids)
      (λ i t.
      let u = ltb-true i next t in
      all_map (ltb i) (λ (h : ℕ × ℕ). h.1) (keep (λ h. has h.0 ids) hs)
      ∙ all-weaken (λ (h : ℕ × ℕ). leb next h.1) (λ (h : ℕ × ℕ). ltb i h.1) (keep (λ h. has h.0 ids) hs)
      (λ h v. let w = leb-true next h.1 v in lt-ltb i h.1 (omega arith))
      (all_keep (λ h. leb next h.1) (λ h. has h.0 ids) hs seconds-from))
      (all_keep (λ i. ltb i next) (λ i. not (has i (map (λ h. h.0) hs))) ids low))
    where
      seconds-up : ascending (map (λ (h : ℕ × ℕ). h.1) hs) ≡ true
      seconds-up =
          ap (λ ks. ascending (map (λ (h : ℕ × ℕ). h.1) ks)) (halves-numbered next ps)
          ∙ (ap ascending (map-map (λ (h : ℕ × ℕ). h.1) half_pair (numbered next ps)) ∙ numbered-up next ps)

      seconds-from : all (λ (h : ℕ × ℕ). leb next h.1) hs ≡ true
      seconds-from =
          ap (all (λ (h : ℕ × ℕ). leb next h.1)) (halves-numbered next ps)
          ∙ (all_map (λ (h : ℕ × ℕ). leb next h.1) half_pair (numbered next ps) ∙ numbered-from next ps next (omega arith))

  -- links of a lane that ascend, below the new ids
  abbrev linked : Lane → Bool
  linked l = ascending l.predecessors && ascending l.successors && all (λ i. ltb i next) l.predecessors

  pub split-ascend : all (λ l. all (λ i. ltb i next) l.predecessors) m.lanes ≡ true → links_ascend m ≡ true → links_ascend after ≡ true
  unfolding links_ascend
  split-ascend low h =
      let both = all_both (λ l. ascending l.predecessors && ascending l.successors) (λ l. all (λ i. ltb i next) l.predecessors) m.lanes h low in
      let cut = plans-all m ps next c linked both in
      lanes-test m ps next c xs (λ l. ascending l.predecessors && ascending l.successors)
      (all-weaken linked (λ l. ascending (came_from hs l.predecessors) && ascending l.successors) m.lanes (λ l t.
      and_both (ascending (came_from hs l.predecessors)) (ascending l.successors) (came l t) (ups l t)) both)
      (all-weaken (λ (z : Numbered). linked z.1.of) (λ (z : Numbered). ascending (came_from hs z.1.of.predecessors) && ascending (z.0 ∷ [])) (numbered next ps)
      (λ z t. and_both (ascending (came_from hs z.1.of.predecessors)) (ascending (z.0 ∷ [])) (came z.1.of t) (one z.0)) cut)
      (all-weaken (λ (z : Numbered). linked z.1.of) (λ (z : Numbered). ascending (z.1.of.id ∷ []) && ascending z.1.of.successors) (numbered next ps)
      (λ z t. and_both (ascending (z.1.of.id ∷ [])) (ascending z.1.of.successors) (one z.1.of.id) (ups z.1.of t)) cut)
    where
      one : (i : ℕ) → ascending (i ∷ []) ≡ true
      one i = one_up i

      first : (l : Lane) → linked l ≡ true → (ascending l.predecessors && ascending l.successors) ≡ true
      first l t = and-fst (ascending l.predecessors && ascending l.successors) (all (λ i. ltb i next) l.predecessors) t

      came : (l : Lane) → linked l ≡ true → ascending (came_from hs l.predecessors) ≡ true
      came l t =
          came-ascends l.predecessors (and-snd (ascending l.predecessors && ascending l.successors) (all (λ i. ltb i next) l.predecessors) t)
          (and-fst (ascending l.predecessors) (ascending l.successors) (first l t))

      ups : (l : Lane) → linked l ≡ true → ascending l.successors ≡ true
      ups l t = and-snd (ascending l.predecessors) (ascending l.successors) (first l t)
