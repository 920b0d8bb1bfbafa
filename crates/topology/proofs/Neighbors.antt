-- Slots of neighbours written, freed and answered, in rows and in the table. Assumes nothing.
use Rattle.std.specs.Prelude.{Option, None, Some}
use mathlib.Core.Path.{◌≡◌, refl, sym, ap, ◌∙◌}
use Prim.Native.Nat.{ℕ, suc, ◌+◌, ◌*◌, ◌≤◌, ◌<◌}
use native.Mathlib.Omega.{arith}
use mathlib.Core.Bool.{Bool, true, false, cond, ◌&&◌, ◌||◌, true≢false}
use mathlib.Core.List.{List, [], ◌∷◌}
use lib.ListN.{length, get_or, set, drop}
use lib.Seq.{drop-cons, get_or-drop}
use lib.Dec.{eqb}
use borrow.Author.Tests.{eqb-true, eq-eqb, ne_eqb}
use Rattle.lists.specs.Rows.{over, keys}
use Rattle.lists.proofs.Booleans.{and-fst}
use Rattle.lists.proofs.Rows.{over-nil, length_over, get_d_over-before, get_d_over-behind, store-before, store-behind, length-keys, key-at, row-at}
use Rattle.entities.specs.declared.Neighbor.{Neighbor}
use Rattle.entities.specs.declared.NeighborDirection.{NeighborDirection}
use Rattle.entities.specs.declared.NeighborDirection.TheVariants.{Same, Opposite}
use Rattle.entities.specs.Types.{reciprocal_side, same, opposing}
use Rattle.rules.specs.Names.{Side, Left, Right}
use Rattle.rules.specs.Edit.{same_side, answering, slot_after, reslotted}
use Rattle.tables.specs.View.{word, slot_at, lane_of}
use Rattle.tables.specs.Formed.{lane_formed}
use Rattle.row_tests.specs.Returned.{searchable, lane_at}
use Rattle.row_tests.proofs.Lanes.{lanes-some, lanes-room, lanes-ascend, lane_room, row-formed, word_at, id-at}
use Rattle.lookup.specs.Lookup.{place_of}
use Rattle.lookup.proofs.Laws.{place-within, place-id, next_in}
use Rattle.store.specs.Store.{lane_onto, slot_mark, slot_lane, direction_mark}
use Rattle.store.specs.Rows.{on_rows, keyed, set_slot, slot_words}
use Rattle.store.proofs.Rows.{rows_stay}
use Rattle.store.proofs.Marks.{LaneMarks, lane-marks, marks-formed}
use Rattle.store.proofs.LaneRow.{lane_row}
use Rattle.topology.specs.Topology.{lanes_changed, id_at, slot_place, slot_held, beside_row, freed_by}
use Rattle.topology.proofs.Linked.{word-written, keyed-keeps}
use Rattle.topology.proofs.Table.{Keeps, over-row, row_words, all-formed, lanes-agree, lanes-agree-at, lanes-twice, one_lane, lanes-changed, lanes-kept, lane-changed, unique}

-- ---- a slot written in a row

pub slot_small : (side : Side) → slot_place side + 2 ≤ 18
slot_small Left = omega arith
slot_small Right = omega arith

slot-few : (v : Option Neighbor) → length (slot_words v) ≤ 2
slot-few None = omega arith
slot-few (Some n) = omega arith

slot-mark : (v : Option Neighbor) → slot_mark v ≤ 2
slot-mark None = omega arith
slot-mark (Some n) = go n.direction
  where
    go : (d : NeighborDirection) → direction_mark d ≤ 2
    go Same = omega arith
    go Opposite = omega arith

module _ (w : List ℕ) (l : length w ≡ 52) (side : Side) (v : Option Neighbor) where
  abbrev k : ℕ
  k = slot_place side

  room : k + length (slot_words v) ≤ length w
  room = rw l (omega (arith, slot_small side, slot-few v))

  slot-before : (x : ℕ) → x < k → word x (set_slot k v w) ≡ word x w
  unfolding set_slot
  slot-before x b = get_d_over-before w k (slot_words v) x 0 b (omega (arith, room))

  slot-here : word k (set_slot k v w) ≡ slot_mark v
  slot-here = go v (omega (arith, room))
    where
      go : (v : Option Neighbor) → k ≤ length w → word k (set_slot k v w) ≡ slot_mark v
      go None h = unfold set_slot in word-written w k 0 [] h
      go (Some n) h = unfold set_slot in word-written w k (direction_mark n.direction) (n.lane ∷ []) h

  slot-behind : (x : ℕ) → k + 2 ≤ x → word x (set_slot k v w) ≡ word x w
  unfolding set_slot
  slot-behind x b = get_d_over-behind w k (slot_words v) x 0 (omega (arith, slot-few v)) room

  slot-length : length (set_slot k v w) ≡ 52
  unfolding set_slot
  slot-length = length_over w k (slot_words v) room ∙ l

  slot-marks : LaneMarks w → 11 < k → word 14 (set_slot k v w) ≤ 2 → word 16 (set_slot k v w) ≤ 2 → LaneMarks (set_slot k v w)
  slot-marks m b left right =
      record {
        left-way = rw (slot-before 3 (omega arith)) m.left-way;
        right-way = rw (slot-before 5 (omega arith)) m.right-way;
        center = rw (slot-before 6 (omega arith)) m.center;
        speed = rw (slot-before 9 (omega arith)) m.speed;
        one_way = rw (slot-before 11 (omega arith)) m.one_way;
        left = left;
        right = right;
        before = rw (slot-behind 18 (slot_small side)) m.before;
        after = rw (slot-behind 35 (omega (arith, slot_small side))) m.after;
      }

pub slot-keeps : (side : Side) (v : Option Neighbor) → Keeps (set_slot (slot_place side) v)
slot-keeps Left v w l f =
    let m = lane-marks w f in
    let a : word 14 (set_slot 14 v w) ≤ 2 = rw (slot-here w l Left v) (slot-mark v) in
    let b : word 16 (set_slot 14 v w) ≤ 2 = rw (slot-behind w l Left v 16 (omega arith)) m.right in
    (slot-length w l Left v, (marks-formed (set_slot 14 v w) (slot-marks w l Left v m (omega arith) a b), slot-before w l Left v 0 (omega arith)))
slot-keeps Right v w l f =
    let m = lane-marks w f in
    let a : word 14 (set_slot 16 v w) ≤ 2 = rw (slot-before w l Right v 14 (omega arith)) m.left in
    let b : word 16 (set_slot 16 v w) ≤ 2 = rw (slot-here w l Right v) (slot-mark v) in
    (slot-length w l Right v, (marks-formed (set_slot 16 v w) (slot-marks w l Right v m (omega arith) a b), slot-before w l Right v 0 (omega arith)))

pub freed-keeps : (side : Side) (held : Option Neighbor) → Keeps (freed_by side held)
freed-keeps side None w l f = (l, (f, refl))
freed-keeps side (Some n) w l f =
    let r = reciprocal_side side n.direction in
    keyed-keeps n.lane (set_slot (slot_place r) None) (slot-keeps r None) w l f

keeps-twice : (f g : List ℕ → List ℕ) → Keeps f → Keeps g → Keeps (λ w. g (f w))
keeps-twice f g p q w l h =
    let a = p w l h in
    let b = q (f w) a.0 a.1.0 in
    (b.0, (b.1.0, b.1.1 ∙ a.1.1))

-- ---- a row by what its two slots hold

abbrev slotted : List ℕ → (Side → Option Neighbor) → List ℕ
slotted w f = set_slot 14 (f Left) (set_slot 16 (f Right) w)

abbrev own : List ℕ → Side → Option Neighbor
own w s = slot_at (slot_place s) w

-- a slot that holds f, written again, holds the lane that it would hold had f never been there
abbrev Again : List ℕ → (Side → Option Neighbor) → Option Neighbor → Type 0
Again w f v = (s : Side) → slot_lane (slot_lane (word (suc (slot_place s)) w) (f s)) v ≡ slot_lane (word (suc (slot_place s)) w) v

-- where a slot holds a lane, it is the one that stands there
abbrev Own : List ℕ → (Side → Option Neighbor) → Type 0
Own w f = Again w f None

own-own : (w : List ℕ) → Own w (own w)
own-own w s = go (eqb (word (slot_place s) w) 0) (eqb (word (slot_place s) w) 1)
  where
    go : (p q : Bool) → slot_lane (word (suc (slot_place s)) w) (cond p None (cond q (Some (same (word (suc (slot_place s)) w))) (Some (opposing (word (suc (slot_place s)) w))))) ≡ word (suc (slot_place s)) w
    go true q = refl
    go false true = refl
    go false false = refl

own-freed : (w : List ℕ) (f : Side → Option Neighbor) (p : Side → Bool) → Own w f → Own w (λ s. cond (p s) None (f s))
own-freed w f p h s = go (p s)
  where
    go : (b : Bool) → slot_lane (word (suc (slot_place s)) w) (cond b None (f s)) ≡ word (suc (slot_place s)) w
    go true = refl
    go false = h s

slotted-same : (w : List ℕ) (f g : Side → Option Neighbor) → ((s : Side) → f s ≡ g s) → slotted w f ≡ slotted w g
slotted-same w f g e = ap (λ z. set_slot 14 z (set_slot 16 (f Right) w)) (e Left) ∙ ap (λ z. set_slot 14 (g Left) (set_slot 16 z w)) (e Right)

module _ (w : List ℕ) (l : length w ≡ 52) (f : Side → Option Neighbor) where
  slotted-id : word 0 (slotted w f) ≡ word 0 w
  slotted-id = slot-before (set_slot 16 (f Right) w) (slot-length w l Right (f Right)) Left (f Left) 0 (omega arith) ∙ slot-before w l Right (f Right) 0 (omega arith)

  -- one slot written
  set-one : (r : Side) (v : Option Neighbor) → Again w f v
      → set_slot (slot_place r) v (slotted w f) ≡ slotted w (λ s. cond (same_side s r) v (f s))
  set-one Left v h = (lane_row w l).again-left v (f Left) (f Right) (h Left)
  set-one Right v h = (lane_row w l).again-right v (f Left) (f Right) (h Right)

  -- of one lane
  set-keyed : (id : ℕ) (r : Side) (v : Option Neighbor) → Again w f v
      → keyed id (set_slot (slot_place r) v) (slotted w f) ≡ slotted w (λ s. cond (eqb (word 0 w) id && same_side s r) v (f s))
  set-keyed id r v h =
      ap (λ z. cond (eqb z id) (set_slot (slot_place r) v (slotted w f)) (slotted w f)) slotted-id ∙ go (eqb (word 0 w) id)
    where
      go : (b : Bool) → cond b (set_slot (slot_place r) v (slotted w f)) (slotted w f) ≡ slotted w (λ s. cond (b && same_side s r) v (f s))
      go true = set-one r v h
      go false = refl

  put-keyed : (id : ℕ) (r : Side) (n : Neighbor) → keyed id (set_slot (slot_place r) (Some n)) (slotted w f) ≡ slotted w (λ s. cond (eqb (word 0 w) id && same_side s r) (Some n) (f s))
  put-keyed id r n = set-keyed id r (Some n) (λ s. refl)

  free-keyed : Own w f → (id : ℕ) (r : Side) → keyed id (set_slot (slot_place r) None) (slotted w f) ≡ slotted w (λ s. cond (eqb (word 0 w) id && same_side s r) None (f s))
  free-keyed h id r = set-keyed id r None h

  -- the slot that answers what was held
  free-held : Own w f → (side : Side) (held : Option Neighbor)
      → freed_by side held (slotted w f) ≡ slotted w (λ s. cond (answering side held (word 0 w) s) None (f s))
  free-held h side None = refl
  free-held h side (Some n) = free-keyed h n.lane (reciprocal_side side n.direction)

-- ---- one row, as the rules have it

-- two slots put, of which a row has one, and two freed
merged : {A : Type 0} (p q x y : Bool) (u v z o : A) → (p ≡ true → q ≡ true → ⊥) → cond q v (cond p u (cond y z (cond x z o))) ≡ cond p u (cond q v (cond (x || y) z o))
merged true true x y u v z o h = absurd (h refl refl)
merged true false x y u v z o h = refl
merged false true x y u v z o h = refl
merged false false true true u v z o h = refl
merged false false true false u v z o h = refl
merged false false false true u v z o h = refl
merged false false false false u v z o h = refl

module _ (w : List ℕ) (l : length w ≡ 52) (h : lane_formed w ≡ true) where
  as_slotted : w ≡ slotted w (own w)
  as_slotted = sym ((lane_row w l).own-slots (lane-marks w h))

  reslotted-row : (f : ℕ → Side → Option Neighbor → Option Neighbor) → lane_onto w (reslotted f (lane_of [] w)) ≡ slotted w (λ s. f (word 0 w) s (own w s))
  unfolding lane_of
  reslotted-row f = (lane_row w l).slotted-row (lane-marks w h) [] (f (word 0 w) Left (slot_at 14 w)) (f (word 0 w) Right (slot_at 16 w))

  module _ (a : ℕ) (side : Side) (old : Option Neighbor) where
    abbrev freed : Side → Option Neighbor
    freed s = cond (answering side old (word 0 w) s) None (own w s)

    own-after : Own w freed
    own-after = own-freed w (own w) (answering side old (word 0 w)) (own-own w)

    row-freed : freed_by side old w ≡ slotted w freed
    row-freed = ap (freed_by side old) as_slotted ∙ free-held w l (own w) (own-own w) side old

    -- a slot freed
    pub row-cleared : keyed a (set_slot (slot_place side) None) (freed_by side old w) ≡ lane_onto w (reslotted (slot_after a side None old None) (lane_of [] w))
    row-cleared =
        ap (keyed a (set_slot (slot_place side) None)) row-freed
        ∙ (free-keyed w l freed own-after a side
        ∙ (slotted-same w (λ s. cond (eqb (word 0 w) a && same_side s side) None (freed s)) (λ s. slot_after a side None old None (word 0 w) s (own w s)) (λ s. merged (eqb (word 0 w) a && same_side s side) false (answering side old (word 0 w) s) false None None None (own w s) (λ p q. absurd (true≢false (sym q))))
        ∙ sym (reslotted-row (slot_after a side None old None))))

    -- two slots set
    module _ (n : Neighbor) (other : Option Neighbor) (apart : n.lane ≡ a → ⊥) where
      abbrev ans : Side
      ans = reciprocal_side side n.direction

      abbrev back : Neighbor
      back = record { lane = a; direction = n.direction }

      abbrev freed2 : Side → Option Neighbor
      freed2 s = cond (answering ans other (word 0 w) s) None (freed s)

      abbrev put : Side → Option Neighbor
      put s = cond (eqb (word 0 w) a && same_side s side) (Some n) (freed2 s)

      pub row-set : keyed n.lane (set_slot (slot_place ans) (Some back)) (keyed a (set_slot (slot_place side) (Some n)) (freed_by ans other (freed_by side old w)))
          ≡ lane_onto w (reslotted (slot_after a side (Some n) old other) (lane_of [] w))
      row-set =
          ap (λ z. keyed n.lane (set_slot (slot_place ans) (Some back)) (keyed a (set_slot (slot_place side) (Some n)) z))
          (ap (freed_by ans other) row-freed ∙ free-held w l freed own-after ans other)
          ∙ (ap (keyed n.lane (set_slot (slot_place ans) (Some back))) (put-keyed w l freed2 a side n)
          ∙ (put-keyed w l put n.lane ans back
          ∙ (slotted-same w (λ s. cond (eqb (word 0 w) n.lane && same_side s ans) (Some back) (put s)) (λ s. slot_after a side (Some n) old other (word 0 w) s (own w s)) same-slot
          ∙ sym (reslotted-row (slot_after a side (Some n) old other)))))
        where
          one_of : (s : Side) → (eqb (word 0 w) a && same_side s side) ≡ true → (eqb (word 0 w) n.lane && same_side s ans) ≡ true → ⊥
          one_of s p q =
              apart (sym (eqb-true (word 0 w) n.lane (and-fst (eqb (word 0 w) n.lane) (same_side s ans) q)) ∙ eqb-true (word 0 w) a (and-fst (eqb (word 0 w) a) (same_side s side) p))

          same-slot : (s : Side) → cond (eqb (word 0 w) n.lane && same_side s ans) (Some back) (put s) ≡ slot_after a side (Some n) old other (word 0 w) s (own w s)
          same-slot s =
              merged (eqb (word 0 w) a && same_side s side) (eqb (word 0 w) n.lane && same_side s ans) (answering side old (word 0 w) s) (answering ans other (word 0 w) s) (Some n) (Some back) None (own w s) (one_of s)

-- ---- a slot of the table, read and stored

-- what a lane has on a side stands in that side's slot
held-slot : (t : List ℕ) (i : ℕ) (side : Side) → slot_held t i side ≡ own (lane_at t i) side
unfolding lane_of
held-slot t i Left = refl
held-slot t i Right = refl

module _ (t : List ℕ) (i p : ℕ) (side : Side) (e : p ≡ slot_place side) where
  abbrev m : ℕ
  m = get_or t (1 + i * 52 + p) 0

  abbrev y : ℕ
  y = get_or t (1 + i * 52 + p + 1) 0

  mark-read : word (slot_place side) (lane_at t i) ≡ m
  mark-read = ap (λ k. word k (lane_at t i)) (sym e) ∙ sym (word_at t i p (omega (arith, slot_small side)))

  lane-read : word (suc (slot_place side)) (lane_at t i) ≡ y
  lane-read = ap (λ k. word (suc k) (lane_at t i)) (sym e) ∙ sym (next_in 52 t i p (omega (arith, slot_small side)))

  held-read : slot_held t i side ≡ cond (eqb m 0) None (cond (eqb m 1) (Some (same y)) (Some (opposing y)))
  held-read =
      held-slot t i side
      ∙ (ap (λ x. cond (eqb x 0) None (cond (eqb x 1) (Some (same (word (suc (slot_place side)) (lane_at t i)))) (Some (opposing (word (suc (slot_place side)) (lane_at t i)))))) mark-read
      ∙ ap (λ x. cond (eqb m 0) None (cond (eqb m 1) (Some (same x)) (Some (opposing x)))) lane-read)

  held_by : (a b : Bool) → eqb m 0 ≡ a → eqb m 1 ≡ b → slot_held t i side ≡ cond a None (cond b (Some (same y)) (Some (opposing y)))
  held_by a b f g =
      held-read
      ∙ (ap (λ x. cond x None (cond (eqb m 1) (Some (same y)) (Some (opposing y)))) f ∙ ap (λ x. cond a None (cond x (Some (same y)) (Some (opposing y)))) g)

  pub held_none : m ≡ 0 → None ≡ slot_held t i side
  held_none f = sym ((held_by true (eqb m 1) (eq-eqb m 0 f) refl))

  pub held_same : (n : Neighbor) → (m ≡ 0 → ⊥) → m ≡ 1 → n ≡ same y → Some n ≡ slot_held t i side
  held_same n f g q = ap (λ x. Some x) q ∙ sym ((held_by false true (ne_eqb m 0 f) (eq-eqb m 1 g)))

  pub held-opposite : (n : Neighbor) → (m ≡ 0 → ⊥) → (m ≡ 1 → ⊥) → n ≡ opposing y → Some n ≡ slot_held t i side
  held-opposite n f g q = ap (λ x. Some x) q ∙ sym ((held_by false false (ne_eqb m 0 f) (ne_eqb m 1 g)))

-- one word stored, and two
module _ {A : Type 0} (w : List A) (a : ℕ) where
  one_store : (x : A) → a < length w → set w a x ≡ over w a (x ∷ [])
  one_store x h =
      let r : a + 1 + 0 ≤ length w = omega arith in
      ap (λ z. set z a x) (sym (over-nil w (a + 1))) ∙ store-before w a [] x r

  two-stores : (x z : A) → a + 2 ≤ length w → set (set w a x) (a + 1) z ≡ over w a (x ∷ z ∷ [])
  two-stores x z h =
      let r : a < length w = omega arith in
      let s : a + 1 < length w = omega arith in
      ap (λ v. set v (a + 1) z) (one_store x r) ∙ store-behind w a (a + 1) (x ∷ []) z refl s

module _ (t : List ℕ) (h : searchable t ≡ true) where
  -- a slot's two words lie in the table
  pub slot-room : (i : ℕ) → i < word 0 t → (side : Side) (p : ℕ) → p ≡ slot_place side → 1 + i * 52 + p + 2 ≤ length t
  slot-room i l side p e = omega (arith, lane_room t h i l, slot_small side)

  slot-stored : (i : ℕ) → i < word 0 t → (side : Side) (v : Option Neighbor)
      → over t (1 + i * 52 + slot_place side) (slot_words v) ≡ on_rows 52 (keyed (id_at t i) (set_slot (slot_place side) v)) t
  slot-stored i l side v =
      let r = lane_room t h i l in
      let n = row_words t i r in
      let s : slot_place side + length (slot_words v) ≤ 52 = omega (arith, slot_small side, slot-few v) in
      over-row t i (slot_place side) (slot_words v) r s
      ∙ (named (lane_at t i) ∙ sym (one_lane t h (set_slot (slot_place side) v) i l (slot-length (lane_at t i) n side v)))
    where
      named : (w : List ℕ) → over t (1 + i * 52) (over w (slot_place side) (slot_words v)) ≡ over t (1 + i * 52) (set_slot (slot_place side) v w)
      named w = unfold set_slot in refl

  pub slot-freed : (i : ℕ) → i < word 0 t → (side : Side) (p : ℕ) → p ≡ slot_place side
      → set t (1 + i * 52 + p) 0 ≡ on_rows 52 (keyed (id_at t i) (set_slot (slot_place side) None)) t
  slot-freed i l side p e =
      one_store t (1 + i * 52 + p) 0 (omega (arith, slot-room i l side p e))
      ∙ (ap (λ k. over t (1 + i * 52 + k) (0 ∷ [])) e ∙ slot-stored i l side None)

  pub slot-put : (i : ℕ) → i < word 0 t → (side : Side) (p : ℕ) → p ≡ slot_place side → (n : Neighbor) (x : ℕ) → x ≡ direction_mark n.direction
      → set (set t (1 + i * 52 + p) x) (1 + i * 52 + p + 1) n.lane ≡ on_rows 52 (keyed (id_at t i) (set_slot (slot_place side) (Some n))) t
  slot-put i l side p e n x q =
      two-stores t (1 + i * 52 + p) x n.lane (slot-room i l side p e)
      ∙ (ap (λ k. over t (1 + i * 52 + k) (x ∷ n.lane ∷ [])) e
      ∙ (ap (λ z. over t (1 + i * 52 + slot_place side) (z ∷ n.lane ∷ [])) q ∙ slot-stored i l side (Some n)))

  -- ---- free_answer

  rows_same : on_rows 52 (λ w. w) t ≡ t
  unfolding on_rows
  rows_same =
      ap (λ z. word 0 t ∷ z) (rows_stay 52 lane_formed (λ w. w) (λ r l q. refl) (word 0 t) (drop 1 t) (lanes-room t h) (all-formed t h))
      ∙ sym (drop-cons t 0 0 (lanes-some t h))

  -- no row has an id that is not found
  not_there : (id j : ℕ) → place_of 52 t id ≡ None → j < word 0 t → id_at t j ≡ id → ⊥
  unfolding place_of
  not_there id j e l q =
      let ks = keys 52 (word 0 t) (drop 1 t) in
      let m : j < length ks = rw (length-keys 52 (word 0 t) (drop 1 t)) l in
      let k : get_or ks j 0 ≡ id = key-at 52 (word 0 t) j (drop 1 t) (omega arith) l ∙ (get_or-drop 1 t (j * 52) 0 ∙ (id-at t j ∙ q)) in
      lost j (sym e ∙ row-at id j ks (lanes-ascend t h) m k)
    where
      lost : (j : ℕ) → None ≡ Some j → ⊥
      lost j z = let f : ◌≡◌ {A = ℕ} 0 1 = cc in omega arith

  module _ (side : Side) (held : Option Neighbor) where
    pub freed-none : held ≡ None → t ≡ on_rows 52 (freed_by side held) t
    freed-none e = sym (ap (λ x. on_rows 52 (freed_by side x) t) e ∙ rows_same)

    module _ (n : Neighbor) (e : held ≡ Some n) where
      abbrev r : Side
      r = reciprocal_side side n.direction

      pub freed-lost : place_of 52 t n.lane ≡ None → t ≡ on_rows 52 (freed_by side held) t
      freed-lost q =
          sym (ap (λ x. on_rows 52 (freed_by side x) t) e
          ∙ (lanes-agree-at t h (keyed n.lane (set_slot (slot_place r) None)) (λ w. w) (λ j l. ap (λ b. cond b (set_slot (slot_place r) None (lane_at t j)) (lane_at t j)) (ne_eqb (id_at t j) n.lane (not_there n.lane j q l))) ∙ rows_same))

      module _ (j : ℕ) (q : place_of 52 t n.lane ≡ Some j) where
        pub found-row : j < word 0 t
        found-row = place-within 52 t n.lane j q

        pub freed-at : (p : ℕ) → p ≡ slot_place r → set t (1 + j * 52 + p) 0 ≡ on_rows 52 (freed_by side held) t
        freed-at p f =
            slot-freed j found-row r p f
            ∙ (ap (λ z. on_rows 52 (keyed z (set_slot (slot_place r) None)) t) (place-id 52 t n.lane j q) ∙ sym (ap (λ x. on_rows 52 (freed_by side x) t) e))

-- ---- one change of rows after another

module _ (t : List ℕ) (h : searchable t ≡ true) (g : List ℕ → List ℕ) (k : Keeps g) (u : List ℕ) (e : u ≡ on_rows 52 g t) where
  changed-search : searchable u ≡ true
  changed-search = ap searchable e ∙ lanes-kept t h g k

  changed-count : word 0 u ≡ word 0 t
  unfolding on_rows
  changed-count = ap (word 0) e

  changed-within : (i : ℕ) → i < word 0 t → i < word 0 u
  changed-within i l = rw changed-count l

  changed-id : (i : ℕ) → i < word 0 t → id_at u i ≡ id_at t i
  changed-id i l =
      ap (λ z. id_at z i) e
      ∙ (ap (word 0) (lane-changed t h g k i l) ∙ (k (lane_at t i) (row_words t i (lane_room t h i l)) (row-formed t h i l)).1.1)

  changed-next : (f : List ℕ → List ℕ) (v : List ℕ) → v ≡ on_rows 52 f u → v ≡ on_rows 52 (λ w. f (g w)) t
  changed-next f v q = q ∙ (ap (on_rows 52 f) e ∙ lanes-twice t h g f k)

-- ---- clear_slot

module _ (t : List ℕ) (h : searchable t ≡ true) (i : ℕ) (li : i < word 0 t) (side : Side) (old : Option Neighbor) (eo : old ≡ slot_held t i side)
    (t1 : List ℕ) (e1 : t1 ≡ on_rows 52 (freed_by side old) t) where
  pub clear-search : searchable t1 ≡ true
  clear-search = changed-search t h (freed_by side old) (freed-keeps side old) t1 e1

  pub clear_within : i < word 0 t1
  clear_within = changed-within t h (freed_by side old) (freed-keeps side old) t1 e1 i li

  pub cleared : (p : ℕ) → p ≡ slot_place side
      → set t1 (1 + i * 52 + p) 0 ≡ lanes_changed (reslotted (slot_after (id_at t i) side None (slot_held t i side) None)) t
  cleared p e =
      let a = id_at t i in
      let free = set_slot (slot_place side) None in
      let k = freed-keeps side old in
      let f = slot_after a side None (slot_held t i side) None in
      slot-freed t1 clear-search i clear_within side p e
      ∙ (ap (λ z. on_rows 52 (keyed z free) t1) (changed-id t h (freed_by side old) k t1 e1 i li)
      ∙ (changed-next t h (freed_by side old) k t1 e1 (keyed a free) (on_rows 52 (keyed a free) t1) refl
      ∙ (ap (λ x. on_rows 52 (λ w. keyed a free (freed_by side x w)) t) eo
      ∙ (lanes-agree t h (λ w. keyed a free (freed_by side (slot_held t i side) w)) (λ w. lane_onto w (reslotted f (lane_of [] w))) (λ w l q. row-cleared w l q a side (slot_held t i side))
      ∙ sym (lanes-changed t h (reslotted f) (λ l. refl))))))

-- ---- set_neighbor

module _ (t : List ℕ) (h : searchable t ≡ true) (i j : ℕ) (li : i < word 0 t) (lj : j < word 0 t) (apart : j ≡ i → ⊥) (side ans : Side) (d : NeighborDirection)
    (ea : ans ≡ reciprocal_side side d) (old other : Option Neighbor) (eo : old ≡ slot_held t i side) (er : other ≡ slot_held t j ans) where
  abbrev to : Neighbor
  to = beside_row t j d

  abbrev from : Neighbor
  from = beside_row t i d

  abbrev g1 : List ℕ → List ℕ
  g1 = freed_by side old

  abbrev g2 : List ℕ → List ℕ
  g2 w = freed_by ans other (g1 w)

  abbrev g3 : List ℕ → List ℕ
  g3 w = keyed (id_at t i) (set_slot (slot_place side) (Some to)) (g2 w)

  abbrev g4 : List ℕ → List ℕ
  g4 w = keyed (id_at t j) (set_slot (slot_place ans) (Some from)) (g3 w)

  k1 : Keeps g1
  k1 = freed-keeps side old

  k2 : Keeps g2
  k2 = keeps-twice g1 (freed_by ans other) k1 (freed-keeps ans other)

  k3 : Keeps g3
  k3 = keeps-twice g2 (keyed (id_at t i) (set_slot (slot_place side) (Some to))) k2 (keyed-keeps (id_at t i) (set_slot (slot_place side) (Some to)) (slot-keeps side (Some to)))

  module _ (t1 : List ℕ) (e1 : t1 ≡ on_rows 52 (freed_by side old) t) where
    pub set_search1 : searchable t1 ≡ true
    set_search1 = changed-search t h g1 k1 t1 e1

    module _ (t2 : List ℕ) (e2 : t2 ≡ on_rows 52 (freed_by ans other) t1) where
      at2 : t2 ≡ on_rows 52 g2 t
      at2 = changed-next t h g1 k1 t1 e1 (freed_by ans other) t2 e2

      pub set_may2 : (searchable t2 ≡ true) × (i < word 0 t2)
      set_may2 = (changed-search t h g2 k2 t2 at2, changed-within t h g2 k2 t2 at2 i li)

      module _ (t3 : List ℕ) (e3 : t3 ≡ on_rows 52 (keyed (id_at t2 i) (set_slot (slot_place side) (Some (record { lane = get_or t (1 + j * 52) 0; direction = d })))) t2) where
        at3 : t3 ≡ on_rows 52 g3 t
        at3 =
            changed-next t h g2 k2 t2 at2 (keyed (id_at t i) (set_slot (slot_place side) (Some to))) t3
            (e3
            ∙ (ap (λ z. on_rows 52 (keyed z (set_slot (slot_place side) (Some (record { lane = get_or t (1 + j * 52) 0; direction = d })))) t2) (changed-id t h g2 k2 t2 at2 i li)
            ∙ ap (λ z. on_rows 52 (keyed (id_at t i) (set_slot (slot_place side) (Some (record { lane = z; direction = d })))) t2) (id-at t j)))

        pub set_may3 : (searchable t3 ≡ true) × (j < word 0 t3)
        set_may3 = (changed-search t h g3 k3 t3 at3, changed-within t h g3 k3 t3 at3 j lj)

        module _ (t4 : List ℕ) (e4 : t4 ≡ on_rows 52 (keyed (id_at t3 j) (set_slot (slot_place ans) (Some (record { lane = get_or t (1 + i * 52) 0; direction = d })))) t3) where
          at4 : t4 ≡ on_rows 52 g4 t
          at4 =
              changed-next t h g3 k3 t3 at3 (keyed (id_at t j) (set_slot (slot_place ans) (Some from))) t4
              (e4
              ∙ (ap (λ z. on_rows 52 (keyed z (set_slot (slot_place ans) (Some (record { lane = get_or t (1 + i * 52) 0; direction = d })))) t3) (changed-id t h g3 k3 t3 at3 j lj)
              ∙ ap (λ z. on_rows 52 (keyed (id_at t j) (set_slot (slot_place ans) (Some (record { lane = z; direction = d })))) t3) (id-at t i)))

          -- the changes in terms of the records
          told : on_rows 52 g4 t
              ≡ on_rows 52 (λ w. keyed (id_at t j) (set_slot (slot_place (reciprocal_side side d)) (Some from)) (keyed (id_at t i) (set_slot (slot_place side) (Some to)) (freed_by (reciprocal_side side d) (slot_held t j (reciprocal_side side d)) (freed_by side (slot_held t i side) w)))) t
          told =
              ap (λ x. on_rows 52 (λ w. keyed (id_at t j) (set_slot (slot_place ans) (Some from)) (keyed (id_at t i) (set_slot (slot_place side) (Some to)) (freed_by ans other (freed_by side x w)))) t) eo
              ∙ (ap (λ x. on_rows 52 (λ w. keyed (id_at t j) (set_slot (slot_place ans) (Some from)) (keyed (id_at t i) (set_slot (slot_place side) (Some to)) (freed_by ans x (freed_by side (slot_held t i side) w)))) t) er
              ∙ ap (λ x. on_rows 52 (λ w. keyed (id_at t j) (set_slot (slot_place x) (Some from)) (keyed (id_at t i) (set_slot (slot_place side) (Some to)) (freed_by x (slot_held t j x) (freed_by side (slot_held t i side) w)))) t) ea)

          pub set_both : t4 ≡ lanes_changed (reslotted (slot_after (id_at t i) side (Some to) (slot_held t i side) (slot_held t j (reciprocal_side side d)))) t
          set_both =
              let f = slot_after (id_at t i) side (Some to) (slot_held t i side) (slot_held t j (reciprocal_side side d)) in
              at4
              ∙ (told
              ∙ (lanes-agree t h
              (λ w. keyed (id_at t j) (set_slot (slot_place (reciprocal_side side d)) (Some from)) (keyed (id_at t i) (set_slot (slot_place side) (Some to)) (freed_by (reciprocal_side side d) (slot_held t j (reciprocal_side side d)) (freed_by side (slot_held t i side) w))))
              (λ w. lane_onto w (reslotted f (lane_of [] w)))
              (λ w l q. row-set w l q (id_at t i) side (slot_held t i side) to (slot_held t j (reciprocal_side side d)) (λ z. apart (unique t h i j li lj z)))
              ∙ sym (lanes-changed t h (reslotted f) (λ l. refl))))
