-- An edit of links and neighbours alone keeps soundness, but for what concerns links and neighbours themselves.
use Rattle.std.specs.Prelude.{Option}
use mathlib.Core.Path.{◌≡◌, refl, sym, ◌∙◌}
use mathlib.Core.Bool.{Bool, true, false, ◌&&◌, ◌||◌}
use mathlib.Core.List.{List, [], ◌∷◌, ◌++◌, map}
use Prim.Native.Nat.{ℕ}
use lib.Dec.{eqb, ltb, leb}
use Rattle.lists.specs.Every.{all}
use Rattle.lists.specs.Select.{each, place, keep}
use Rattle.lists.proofs.Every.{all_append, all_split}
use Rattle.lists.proofs.Booleans.{and_both, and-fst, and-snd}
use Rattle.lists.proofs.Select.{all-each, keys-map, all_map, all_keep, all-weaken}
use Rattle.entities.specs.declared.Neighbor.{Neighbor}
use Rattle.entities.specs.Records.{Lane, Map}
use Rattle.rules.specs.Sound.{lines, optional_line, ids_named, lane_names, rule_names, next_id, last_counter, ids_ascend, counter_above, lines_in_reach, kinds_legal, handles_legal, handle_width, speed_legal, within_limits, links_ascend, links_reciprocal, neighbors_reciprocal, repeat_free, sound}
use Rattle.rules.specs.Edit.{relinked, with_lanes}
use Rattle.rules.proofs.Facts.{sound-facts, facts-sound}

-- ---- lists of lists

pub each_map : {A B C : Type 0} (g : B → List C) (f : A → B) (xs : List A) → each g (map f xs) ≡ each (λ x. g (f x)) xs
unfolding each
each_map g f [] = refl
each_map g f (x ∷ xs) = rw (each_map g f xs)

pub all-place : (p : ℕ → Bool) (x : ℕ) (ys : List ℕ) → p x ≡ true → all p ys ≡ true → all p (place x ys) ≡ true
unfolding place
all-place p x ys h a =
    all_append p (keep (λ y. ltb y x) ys) (x ∷ keep (λ y. ltb x y) ys) (all_keep p (λ y. ltb y x) ys a)
    (unfold all in and_both (p x) (all p (keep (λ y. ltb x y) ys)) h (all_keep p (λ y. ltb x y) ys a))

-- the ids named but by lanes
abbrev pub other_names : Map → List ℕ
other_names m =
    map (λ b. b.id) m.boundaries
    ++ (each (λ r. r.id ∷ r.lanes) m.roads
    ++ (each (λ j. j.id ∷ j.lanes) m.junctions
    ++ (each rule_names m.rules ++ (map (λ s. s.id) m.stop_lines ++ map (λ c. c.id) m.crosswalks))))

-- ---- a change of links and neighbours

module _ (m : Map) (ln rn : Lane → Option Neighbor) (ps ss : Lane → List ℕ) where
  abbrev f : Lane → Lane
  f l = relinked l (ln l) (rn l) (ps l) (ss l)

  abbrev after : Map
  after = with_lanes (map f m.lanes) m

  ids-kept : ids_ascend after ≡ ids_ascend m
  unfolding ids_ascend
  ids-kept = rw (keys-map (λ l. l.id) f (λ l. refl) m.lanes)

  lines-kept : lines after ≡ lines m
  unfolding lines
  lines-kept = rw (each_map (λ l. optional_line l.centerline) f m.lanes)

  reach-kept : lines_in_reach after ≡ lines_in_reach m
  unfolding lines_in_reach
  reach-kept = rw lines-kept

  kinds_kept : kinds_legal after ≡ kinds_legal m
  unfolding kinds_legal
  kinds_kept = rw (all_map (λ l. leb l.kind 7 && leb l.turn_direction 3) f m.lanes)

  handles_kept : handles_legal after ≡ handles_legal m
  unfolding handles_legal
  handles_kept = rw (all_map (λ l. ltb l.attributes handle_width && speed_legal l.speed_limit) f m.lanes)

  once-kept : repeat_free after ≡ repeat_free m
  unfolding repeat_free
  once-kept = refl

  -- ids that all pass a test: the lanes' names, and the rest
  names-after : (below : ℕ → Bool) → all below (ids_named m) ≡ true
      → ((l : Lane) → all below (lane_names l) ≡ true → all below (lane_names (f l)) ≡ true) → all below (ids_named after) ≡ true
  unfolding ids_named
  names-after below t new =
      let u = sym (all_split below (each lane_names m.lanes) (other_names m)) ∙ t in
      let v = sym (all-each below lane_names m.lanes) ∙ and-fst (all below (each lane_names m.lanes)) (all below (other_names m)) u in
      let w = all-weaken (λ l. all below (lane_names l)) (λ l. all below (lane_names (f l))) m.lanes new v in
      all_split below (each lane_names (map f m.lanes)) (other_names m)
      ∙ and_both (all below (each lane_names (map f m.lanes))) (all below (other_names m))
      (all-each below lane_names (map f m.lanes) ∙ (all_map (λ l. all below (lane_names l)) f m.lanes ∙ w))
      (and-snd (all below (each lane_names m.lanes)) (all below (other_names m)) u)

  -- the counter stays above every id, if it is above each lane's new names
  counter-kept : (counter : ℕ) → counter_above counter m ≡ true
      → (all (λ i. ltb i (next_id counter)) (ids_named m) ≡ true
      → (l : Lane) → all (λ i. ltb i (next_id counter)) (lane_names l) ≡ true → all (λ i. ltb i (next_id counter)) (lane_names (f l)) ≡ true)
      → counter_above counter after ≡ true
  unfolding counter_above
  counter-kept counter h new = go (eqb counter last_counter) h
    where
      go : (b : Bool) → (b || all (λ i. ltb i (next_id counter)) (ids_named m)) ≡ true → (b || all (λ i. ltb i (next_id counter)) (ids_named after)) ≡ true
      go true t = refl
      go false t = names-after (λ i. ltb i (next_id counter)) t (new t)

  -- What is left to show of an edit of links and neighbours.
  pub relink-sound : (counter : ℕ) → sound counter m ≡ true → within_limits after ≡ true
      → (all (λ i. ltb i (next_id counter)) (ids_named m) ≡ true
      → (l : Lane) → all (λ i. ltb i (next_id counter)) (lane_names l) ≡ true → all (λ i. ltb i (next_id counter)) (lane_names (f l)) ≡ true)
      → links_ascend after ≡ true → links_reciprocal after ≡ true → neighbors_reciprocal after ≡ true → sound counter after ≡ true
  relink-sound counter h limits new up links neighbors =
      let s = sound-facts counter m h in
      facts-sound counter after
      (record {
        limits = limits;
        ids = ids-kept ∙ s.ids;
        counter-above = counter-kept counter s.counter-above new;
        reach = reach-kept ∙ s.reach;
        kinds = kinds_kept ∙ s.kinds;
        handles = handles_kept ∙ s.handles;
        links-ascend = up;
        links = links;
        neighbors = neighbors;
        once = once-kept ∙ s.once;
      })
