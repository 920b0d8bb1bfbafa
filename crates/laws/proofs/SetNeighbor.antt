-- set_neighbor: soundness kept, links kept, lists exact.
use Rattle.std.specs.Prelude.{Option, None, Some}
use mathlib.Core.Path.{◌≡◌, refl, sym, ap, ◌∙◌}
use mathlib.Core.Bool.{Bool, true, false, ◌&&◌, ◌||◌, cond, true≢false}
use mathlib.Core.List.{List, [], ◌∷◌, ◌++◌, map}
use Prim.Native.Nat.{ℕ}
use lib.Dec.{eqb, ltb}
use borrow.Author.Tests.{eqb-true, eq-eqb}
use Rattle.lists.specs.Every.{all}
use Rattle.lists.proofs.Every.{all_split, all_append}
use Rattle.lists.proofs.Booleans.{and_both, and-fst, and-snd, same_test}
use Rattle.entities.specs.Types.{reciprocal_side}
use Rattle.entities.specs.Records.{Lane, Map, Issue}
use Rattle.entities.specs.declared.Side.{Side}
use Rattle.entities.specs.declared.Side.TheVariants as S
use Rattle.entities.specs.declared.Neighbor.{Neighbor}
use Rattle.rules.specs.Map.{lane, leads_to, comes_from, names}
use Rattle.rules.specs.Sound.{sound, slot_id, lane_names, next_id, within_limits, links_reciprocal}
use Rattle.rules.specs.Edit.{slot_after, reslotted, with_lanes, relinked, lanes_where, answering, returned, answer_side, same_side}
use Rattle.rules.specs.Demand.{Exact}
use Rattle.rules.proofs.Facts.{sound-facts}
use Rattle.rules.proofs.Reciprocal.{links-agree, agree-links}
use Rattle.rules.proofs.Relations.{leads-map, comes-map}
use Rattle.laws.proofs.Keeps.{relink-sound}
use Rattle.laws.proofs.Connect.{present-passes, links-up}
use Rattle.laws.proofs.Exact.{relink-exact}
use Rattle.laws.proofs.Slots.{held_at}
use Rattle.laws.proofs.Still.{ids_up}
use Rattle.laws.proofs.Neighbors.{slots_of, Named, edited, edited_reciprocal}

-- ---- links are not touched

module _ (m : Map) (g : ℕ → Side → Option Neighbor → Option Neighbor) where
  abbrev turned : Map
  turned = with_lanes (map (reslotted g) m.lanes) m

  pub reslot_leads : (x y : ℕ) → leads_to turned x y ≡ leads_to m x y
  unfolding leads_to
  reslot_leads x y = leads-map (reslotted g) (λ l. refl) m x y

  pub reslot_comes : (x y : ℕ) → comes_from turned x y ≡ comes_from m x y
  unfolding comes_from
  reslot_comes x y = comes-map (reslotted g) (λ l. refl) m x y

  reslot_links : links_reciprocal m ≡ true → links_reciprocal turned ≡ true
  reslot_links h = agree-links turned (λ x y. reslot_leads x y ∙ (links-agree m h x y ∙ sym (reslot_comes x y)))

-- ---- names

-- a slot names nothing but what passes
abbrev slot_passes : (ℕ → Bool) → Option Neighbor → Type 0
slot_passes below o = all below (slot_id o) ≡ true

cond-passes : (below : ℕ → Bool) (b : Bool) (o p : Option Neighbor) → slot_passes below o → slot_passes below p → slot_passes below (cond b o p)
cond-passes below true o p h k = h
cond-passes below false o p h k = k

none_passes : (below : ℕ → Bool) → slot_passes below None
unfolding all
none_passes below = refl

one_passes : (below : ℕ → Bool) (n : Neighbor) → below n.lane ≡ true → slot_passes below (Some n)
unfolding all
one_passes below n h = and_both (below n.lane) true h refl

new-passes : (m : Map) (a : ℕ) (below : ℕ → Bool) → ((i : ℕ) (l : Lane) → lane m i ≡ Some l → below i ≡ true) → (new : Option Neighbor) → Named m a new → slot_passes below new
new-passes m a below there None h = none_passes below
new-passes m a below there (Some n) h = one_passes below n (there n.lane h.0 h.1)

returned-passes : (below : ℕ → Bool) (a : ℕ) → below a ≡ true → (new : Option Neighbor) → slot_passes below (returned a new)
returned-passes below a h None = none_passes below
returned-passes below a h (Some n) = one_passes below (record { lane = a; direction = n.direction }) h

names-reslotted : (below : ℕ → Bool) (l : Lane) (ln rn : Option Neighbor) → all below (lane_names l) ≡ true
    → (slot_passes below l.left_neighbor → slot_passes below ln) → (slot_passes below l.right_neighbor → slot_passes below rn)
    → all below (lane_names (relinked l ln rn l.predecessors l.successors)) ≡ true
names-reslotted below l ln rn t g h =
    let own = l.id ∷ l.left.boundary ∷ l.right.boundary ∷ [] in
    let links = l.predecessors ++ l.successors in
    let t1 = sym (all_split below own (slot_id l.left_neighbor ++ (slot_id l.right_neighbor ++ links))) ∙ t in
    let t2 = sym (all_split below (slot_id l.left_neighbor) (slot_id l.right_neighbor ++ links))
    ∙ and-snd (all below own) (all below (slot_id l.left_neighbor ++ (slot_id l.right_neighbor ++ links))) t1 in
    let t3 = sym (all_split below (slot_id l.right_neighbor) links) ∙ and-snd (all below (slot_id l.left_neighbor)) (all below (slot_id l.right_neighbor ++ links)) t2 in
    all_append below own (slot_id ln ++ (slot_id rn ++ links)) (and-fst (all below own) (all below (slot_id l.left_neighbor ++ (slot_id l.right_neighbor ++ links))) t1)
    (all_append below (slot_id ln) (slot_id rn ++ links) (g (and-fst (all below (slot_id l.left_neighbor)) (all below (slot_id l.right_neighbor ++ links)) t2))
    (all_append below (slot_id rn) links (h (and-fst (all below (slot_id l.right_neighbor)) (all below links) t3)) (and-snd (all below (slot_id l.right_neighbor)) (all below links) t3)))

-- ---- soundness

module _ (c : ℕ) (m : Map) (sane : sound c m ≡ true) (a : ℕ) (la : Lane) (ea : lane m a ≡ Some la) (side : Side) (new : Option Neighbor) (named : Named m a new) where
  abbrev g : ℕ → Side → Option Neighbor → Option Neighbor
  g = slot_after a side new (slots_of m a side) (held_at (slots_of m) side new)

  after-passes : (below : ℕ → Bool) → ((i : ℕ) (l : Lane) → lane m i ≡ Some l → below i ≡ true) → (i : ℕ) (s : Side) (was : Option Neighbor)
      → slot_passes below was → slot_passes below (g i s was)
  after-passes below there i s was h =
      cond-passes below (eqb i a && same_side s side) new
      (cond (answering side new i s) (returned a new) (cond (answering side (slots_of m a side) i s || answering (answer_side side new) (held_at (slots_of m) side new) i s) None was))
      (new-passes m a below there new named)
      (cond-passes below (answering side new i s) (returned a new)
      (cond (answering side (slots_of m a side) i s || answering (answer_side side new) (held_at (slots_of m) side new) i s) None was)
      (returned-passes below a (there a la ea) new)
      (cond-passes below (answering side (slots_of m a side) i s || answering (answer_side side new) (held_at (slots_of m) side new) i s) None was (none_passes below) h))

  pub set-sound : within_limits (edited m a la ea side new) ≡ true → sound c (edited m a la ea side new) ≡ true
  set-sound limits =
      let s = sound-facts c m sane in
      relink-sound m (λ l. g l.id S.Left l.left_neighbor) (λ l. g l.id S.Right l.right_neighbor) (λ l. l.predecessors) (λ l. l.successors)
      c sane limits
      (λ t l u.
      names-reslotted (λ j. ltb j (next_id c)) l (g l.id S.Left l.left_neighbor) (g l.id S.Right l.right_neighbor) u
      (after-passes (λ j. ltb j (next_id c)) (λ i k e. present-passes m (λ j. ltb j (next_id c)) i k e t) l.id S.Left l.left_neighbor)
      (after-passes (λ j. ltb j (next_id c)) (λ i k e. present-passes m (λ j. ltb j (next_id c)) i k e t) l.id S.Right l.right_neighbor))
      (links-up m (reslotted g) (λ l h. h) (λ l h. h) s.links-ascend)
      (reslot_links m g s.links)
      (edited_reciprocal m a la ea side (ids_up c m sane) s.neighbors new named)

  -- ---- lists

  -- a lane that nothing names keeps its slots
  not-answering : (v : Side) (o : Option Neighbor) (i : ℕ) (s : Side) → names o i ≡ false → answering v o i s ≡ false
  not-answering v None i s h = refl
  not-answering v (Some n) i s h = ap (λ b. b && same_side s (reciprocal_side v n.direction)) (swap i n.lane ∙ h)
    where
      swap : (x y : ℕ) → eqb x y ≡ eqb y x
      swap x y = same_test (eqb x y) (eqb y x) (λ t. eq-eqb y x (sym (eqb-true x y t))) (λ t. eq-eqb x y (sym (eqb-true y x t)))

  -- the test of a lane that is reported
  abbrev touched : ℕ → Bool
  touched i = eqb i a || names (slots_of m a side) i || names new i || names (held_at (slots_of m) side new) i

  split-or : (p q r w : Bool) → (p || q || r || w) ≡ false → (p ≡ false) × (q ≡ false) × (r ≡ false) × (w ≡ false)
  split-or true q r w h = absurd (true≢false h)
  split-or false true r w h = absurd (true≢false h)
  split-or false false true w h = absurd (true≢false h)
  split-or false false false true h = absurd (true≢false h)
  split-or false false false false h = (refl, refl, refl, refl)

  slot-still : (i : ℕ) → touched i ≡ false → (s : Side) (was : Option Neighbor) → g i s was ≡ was
  slot-still i h s was =
      let n = split-or (eqb i a) (names (slots_of m a side) i) (names new i) (names (held_at (slots_of m) side new) i) h in
      rw (n.0, not-answering side new i s n.2, not-answering side (slots_of m a side) i s n.1, not-answering (answer_side side new) (held_at (slots_of m) side new) i s n.3)

  lane-still : (i : ℕ) (l : Lane) → lane m i ≡ Some l → touched l.id ≡ false → reslotted g l ≡ l
  lane-still i l e h =
      ap (λ o. relinked l o (g l.id S.Right l.right_neighbor) l.predecessors l.successors) (slot-still l.id h S.Left l.left_neighbor)
      ∙ ap (λ o. relinked l l.left_neighbor o l.predecessors l.successors) (slot-still l.id h S.Right l.right_neighbor)

  pub set-exact : (ws : List Issue)
      → Exact m (record { created = []; modified = lanes_where (λ l. touched l.id) m.lanes; deleted = []; warnings = ws }) (edited m a la ea side new)
  set-exact ws = relink-exact m (reslotted g) (λ l. refl) (λ l. touched l.id) (ids_up c m sane) lane-still ws
