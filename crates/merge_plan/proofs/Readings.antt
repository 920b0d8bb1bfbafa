-- What the words that are read say of two lanes: whether one follows the other, their joined centreline, what differs and which neighbour is dropped. Assumes nothing.
use Rattle.std.specs.Prelude.{Option, None, Some, Err, Ok}
use Rattle.rules.specs.Names.{Point3}
use mathlib.Core.Path.{◌≡◌, refl, sym, ap, ◌∙◌}
use Prim.Native.Nat.{ℕ, suc, ◌+◌, ◌-◌, ◌*◌, ◌≤◌, ◌<◌}
use native.Mathlib.Omega.{arith}
use mathlib.Core.Bool.{Bool, true, false, not, ◌&&◌, ◌||◌, cond}
use mathlib.Core.List.{List, [], ◌∷◌}
use lib.Dec.{eqb}
use lib.ListN.{length, get_or}
use lib.Ieee.{Float, binary64, of_bits, ne}
use borrow.Author.Tests.{eq-eqb, ne_eqb}
use Rattle.lists.specs.Select.{same_numbers}
use Rattle.lists.proofs.Booleans.{or_right, or-false, and-false}
use Rattle.polyline.specs.Polyline.{points, first, last, meeting}
use Rattle.entities.specs.Types.{same, opposing, lane_entity}
use Rattle.entities.specs.Records.{Line, Issue}
use Rattle.rules.specs.Names.{Side, Left, Right, Neighbor, Refusal, NeighborDropped}
use Rattle.rules.specs.Map.{names, neighbor_on}
use Rattle.rules.specs.Edit.{Res, warning, when}
use Rattle.rules.specs.Merge.{SidePlan, joined_center, speeds_differ, conflict, dropped}
use Rattle.tables.specs.View.{word, ids_at, option_at, slot_at, part, lane_of}
use Rattle.tables.specs.Formed.{stored, lane_formed}
use Rattle.row_tests.specs.Good.{all_rows}
use Rattle.store.proofs.Marks.{LaneMarks, lane-marks}
use Rattle.lookup.specs.Lookup.{row_at, centers_stored, count_of}
use Rattle.lookup.proofs.Laws.{word_in, next_in, row_line, row-passes}
use Rattle.lookup.proofs.Center.{center_stored, center_short}
use Rattle.merge_plan.specs.Deciding.{lane_in, counted, holds_only, follows, side_told, center_plan, both_plans, plan_told, speed_of, speed_words}
use Rattle.topology.specs.Topology.{slot_place}
use Rattle.merge_plan.specs.declared.Joined.{Joined}
use Rattle.merge_plan.proofs.Laws.{id-read, stored-long, met-few, joined-long}

-- ---- may they be merged

-- a list of one element, and another
pub only_one : (ids : List ℕ) (i : ℕ) → length ids ≡ 1 → eqb (get_or ids 0 0) i ≡ holds_only ids i
unfolding same_numbers
only_one [] i e = absurd (omega arith)
only_one (x ∷ []) i e = go (eqb x i)
  where
    go : (b : Bool) → b ≡ (b && true)
    go true = refl
    go false = refl
only_one (x ∷ y ∷ ids) i e = absurd (omega arith)

pub only-other : (ids : List ℕ) (i : ℕ) → (length ids ≡ 1 → ⊥) → false ≡ holds_only ids i
unfolding same_numbers
only-other [] i e = refl
only-other (x ∷ []) i e = absurd (e refl)
only-other (x ∷ y ∷ ids) i e = sym (and-false (eqb x i))

module _ (lanes : List ℕ) (i j : ℕ) where
  abbrev one : ℕ
  one = get_or lanes (1 + i * 52) 0

  abbrev two : ℕ
  two = get_or lanes (1 + j * 52) 0

  follows-read : follows (lane_in [] lanes i) (lane_in [] lanes j) ≡ (not (eqb one two) && (holds_only (ids_at 35 (row_at 52 lanes i)) two && holds_only (ids_at 18 (row_at 52 lanes j)) one))
  unfolding lane_of
  follows-read =
      let p : 0 < 52 = omega arith in
      rw (id-read 52 lanes i p, id-read 52 lanes j p)

  pub same-lane : one ≡ two → false ≡ follows (lane_in [] lanes i) (lane_in [] lanes j)
  same-lane e = sym (follows-read ∙ rw (eq-eqb one two e))

  pub other-lane : (one ≡ two → ⊥) → (ss ps : List ℕ) → ss ≡ ids_at 35 (row_at 52 lanes i) → ps ≡ ids_at 18 (row_at 52 lanes j)
      → (a b : Bool) → a ≡ holds_only ss two → b ≡ holds_only ps one → (a && b) ≡ follows (lane_in [] lanes i) (lane_in [] lanes j)
  other-lane n ss ps es ep a b ea eb = sym (follows-read ∙ rw (ne_eqb one two n, ea, eb, es, ep))

-- marks and counts of a row of a formed table
pub formed-row : (lanes : List ℕ) → all_rows 52 lane_formed lanes ≡ true → (i : ℕ) → i < word 0 lanes → LaneMarks (row_at 52 lanes i)
unfolding all_rows
formed-row lanes h i l = lane-marks (row_at 52 lanes i) (row-passes 52 lane_formed lanes h i l)

-- ---- the centreline

module _ (c : List Float) (lanes : List ℕ) (i : ℕ) where
  center_mark : get_or lanes (1 + i * 52 + 6) 0 ≡ word 6 (row_at 52 lanes i)
  center_mark = word_in 52 lanes i 6 (omega arith)

  pub no_center : get_or lanes (1 + i * 52 + 6) 0 ≡ 0 → (lane_in c lanes i).centerline ≡ None
  unfolding lane_of
  no_center z = let e : word 6 (row_at 52 lanes i) ≡ 0 = sym center_mark ∙ z in rw e

  module _ (z : get_or lanes (1 + i * 52 + 6) 0 ≡ 0 → ⊥) where
    pub center_there : (lane_in c lanes i).centerline ≡ Some (points (part c (get_or lanes (1 + i * 52 + 7) 0) (get_or lanes (1 + i * 52 + 7 + 1) 0)))
    unfolding lane_of
    center_there =
        let e : eqb (word 6 (row_at 52 lanes i)) 0 ≡ false = ne_eqb (word 6 (row_at 52 lanes i)) 0 (λ e. z (center_mark ∙ e)) in
        let p : 8 < 52 = omega arith in
        rw (e, row_line 52 7 c lanes i p)

    module _ (h : centers_stored c lanes ≡ true) (l : i < word 0 lanes) where
      pub center_lent : stored c (record { start = get_or lanes (1 + i * 52 + 7) 0; size = get_or lanes (1 + i * 52 + 7 + 1) 0 }) ≡ true
      center_lent =
          let e : 1 + i * 52 + 7 ≡ 1 + i * 52 + 6 + 1 = omega arith in
          rw e (center_stored c [] lanes i z h l)

      size-at : get_or lanes (1 + i * 52 + 7 + 1) 0 ≡ get_or lanes (1 + i * 52 + 8) 0
      size-at = let e : 1 + i * 52 + 7 + 1 ≡ 1 + i * 52 + 8 = omega arith in rw e

      -- as many points as the row says, and at most 256
      pub center_long : length (points (part c (get_or lanes (1 + i * 52 + 7) 0) (get_or lanes (1 + i * 52 + 7 + 1) 0))) ≡ get_or lanes (1 + i * 52 + 8) 0
      center_long = stored-long c (get_or lanes (1 + i * 52 + 7) 0) (get_or lanes (1 + i * 52 + 7 + 1) 0) center_lent ∙ size-at

      pub center_few : get_or lanes (1 + i * 52 + 8) 0 ≤ 256
      center_few =
          let e : 1 + i * 52 + 7 ≡ 1 + i * 52 + 6 + 1 = omega arith in
          let f = center_short c [] lanes i z h l (part c (get_or lanes (1 + i * 52 + 7) 0) (get_or lanes (1 + i * 52 + 7 + 1) 0)) (rw e) 768 (omega arith) in
          omega (arith, center_long)

module _ (join : Float) (c : List Float) (lanes : List ℕ) (i j : ℕ) where
  pub first_uncentered : get_or lanes (1 + i * 52 + 6) 0 ≡ 0 → None ≡ count_of (center_plan join c lanes i j)
  first_uncentered z = rw (no_center c lanes i z)

  pub second_uncentered : get_or lanes (1 + j * 52 + 6) 0 ≡ 0 → None ≡ count_of (center_plan join c lanes i j)
  second_uncentered z = go (lane_in c lanes i).centerline (lane_in c lanes j).centerline (no_center c lanes j z)
    where
      go : (o p : Option Line) → p ≡ None → None ≡ count_of (joined_center join o p)
      go None p e = refl
      go (Some l) p e = rw e

  module _ (h : centers_stored c lanes ≡ true) (l : i < word 0 lanes) (k : j < word 0 lanes)
      (y : get_or lanes (1 + i * 52 + 6) 0 ≡ 0 → ⊥) (z : get_or lanes (1 + j * 52 + 6) 0 ≡ 0 → ⊥)
      (xs ys : List Float) (ea : xs ≡ part c (get_or lanes (1 + i * 52 + 7) 0) (get_or lanes (1 + i * 52 + 7 + 1) 0)) (eb : ys ≡ part c (get_or lanes (1 + j * 52 + 7) 0) (get_or lanes (1 + j * 52 + 7 + 1) 0)) where
    first-long : length (points xs) ≡ get_or lanes (1 + i * 52 + 8) 0
    first-long = rw ea (center_long c lanes i y h l)

    second-long : length (points ys) ≡ get_or lanes (1 + j * 52 + 8) 0
    second-long = rw eb (center_long c lanes j z h k)

    module _ (end start : Option Point3) (ee : end ≡ last (points xs)) (es : start ≡ first (points ys)) (m : ℕ) (em : m ≡ meeting join end start) where
      -- points that are dropped are there
      pub centers-meet : m ≤ get_or lanes (1 + j * 52 + 8) 0
      centers-meet = met-few join (Some (points xs)) (Some (points ys)) (get_or lanes (1 + i * 52 + 8) 0) (get_or lanes (1 + j * 52 + 8) 0) first-long second-long end start ee es m em

      pub centers-joined : Some (get_or lanes (1 + i * 52 + 8) 0 + get_or lanes (1 + j * 52 + 8) 0 - m) ≡ count_of (center_plan join c lanes i j)
      centers-joined =
          rw (center_there c lanes i y, center_there c lanes j z, ← ea, ← eb)
          (ap Some (joined-long join (Some (points xs)) (Some (points ys)) (get_or lanes (1 + i * 52 + 8) 0) (get_or lanes (1 + j * 52 + 8) 0) first-long second-long end start ee es m em))

-- ---- both sides

module _ (l r : Res SidePlan) (x y : Res Joined) (ex : x ≡ side_told l) (ey : y ≡ side_told r) (center count : Option ℕ) (ec : center ≡ count) where
  pub left-refused : (z : Refusal) → x ≡ Err z → Err z ≡ plan_told count (both_plans l r)
  left-refused z e = go l (sym e ∙ ex)
    where
      go : (l : Res SidePlan) → Err z ≡ side_told l → Err z ≡ plan_told count (both_plans l r)
      go (Err s) f = cc
      go (Ok p) f = let z : ◌≡◌ {A = ℕ} 0 1 = cc in absurd (omega arith)

  module _ (a : Joined) (ea : x ≡ Ok a) where
    pub right-refused : (z : Refusal) → y ≡ Err z → Err z ≡ plan_told count (both_plans l r)
    right-refused z e = go l r (sym ea ∙ ex) (sym e ∙ ey)
      where
        go : (l r : Res SidePlan) → Ok a ≡ side_told l → Err z ≡ side_told r → Err z ≡ plan_told count (both_plans l r)
        go (Err s) r f g = let z : ◌≡◌ {A = ℕ} 0 1 = cc in absurd (omega arith)
        go (Ok p) (Err s) f g = cc
        go (Ok p) (Ok q) f g = let z : ◌≡◌ {A = ℕ} 0 1 = cc in absurd (omega arith)

    pub both-join : (b : Joined) → y ≡ Ok b → Ok (record { left = a; right = b; center = center }) ≡ plan_told count (both_plans l r)
    both-join b e = go l r (sym ea ∙ ex) (sym e ∙ ey)
      where
        go : (l r : Res SidePlan) → Ok a ≡ side_told l → Ok b ≡ side_told r → Ok (record { left = a; right = b; center = center }) ≡ plan_told count (both_plans l r)
        go (Err s) r f g = let z : ◌≡◌ {A = ℕ} 0 1 = cc in absurd (omega arith)
        go (Ok p) (Err s) f g = let z : ◌≡◌ {A = ℕ} 0 1 = cc in absurd (omega arith)
        go (Ok p) (Ok q) f g =
            let u : a ≡ counted p = cc in
            let v : b ≡ counted q = cc in
            rw (u, v, ec)

-- ---- what is warned of

cond-not : {A : Type 0} (b : Bool) (x y : A) → cond (not b) x y ≡ cond b y x
cond-not true x y = refl
cond-not false x y = refl

speed_at : (w : List ℕ) → option_at 9 w ≡ speed_of (word 9 w) (word 10 w)
speed_at w = cond-not (eqb (word 9 w) 0) (Some (word 10 w)) None

-- speed limits as they are read, with their marks
module _ (one x two y : ℕ) where
  pub first-unlimited : one ≡ 0 → not (eqb two 0) ≡ speed_words one x two y
  first-unlimited e = rw (eq-eqb one 0 e) (go (eqb two 0))
    where
      go : (b : Bool) → not b ≡ speeds_differ None (cond b None (Some y))
      go true = refl
      go false = refl

  module _ (n : one ≡ 0 → ⊥) where
    pub second-unlimited : two ≡ 0 → true ≡ speed_words one x two y
    second-unlimited e = rw (ne_eqb one 0 n, eq-eqb two 0 e)

    pub both-limited : (two ≡ 0 → ⊥) → (p q : Float) → p ≡ of_bits binary64 x → q ≡ of_bits binary64 y → ne p q ≡ speed_words one x two y
    both-limited m p q ep eq = rw (ne_eqb one 0 n, ne_eqb two 0 m, ep, eq)

module _ (lanes : List ℕ) (i j : ℕ) where
  read : (k n : ℕ) → k < 52 → get_or lanes (1 + n * 52 + k) 0 ≡ word k (row_at 52 lanes n)
  read k n h = word_in 52 lanes n k h

  abbrev differ : ℕ → Bool
  differ k = not (eqb (word k (row_at 52 lanes i)) (word k (row_at 52 lanes j)))

  differ_true : (k : ℕ) → k < 52 → (get_or lanes (1 + i * 52 + k) 0 ≡ get_or lanes (1 + j * 52 + k) 0 → ⊥) → differ k ≡ true
  differ_true k h n = rw (ne_eqb (word k (row_at 52 lanes i)) (word k (row_at 52 lanes j)) (λ e. n (read k i h ∙ (e ∙ sym (read k j h)))))

  differ-false : (k : ℕ) → k < 52 → get_or lanes (1 + i * 52 + k) 0 ≡ get_or lanes (1 + j * 52 + k) 0 → differ k ≡ false
  differ-false k h e = rw (eq-eqb (word k (row_at 52 lanes i)) (word k (row_at 52 lanes j)) (sym (read k i h) ∙ (e ∙ read k j h)))

  abbrev speeds : Bool
  speeds = speed_words (word 9 (row_at 52 lanes i)) (word 10 (row_at 52 lanes i)) (word 9 (row_at 52 lanes j)) (word 10 (row_at 52 lanes j))

  conflict-read : conflict (lane_in [] lanes i) (lane_in [] lanes j) ≡ (differ 1 || speeds || differ 12)
  unfolding lane_of
  conflict-read = rw (speed_at (row_at 52 lanes i), speed_at (row_at 52 lanes j))

  pub kinds-differ : (get_or lanes (1 + i * 52 + 1) 0 ≡ get_or lanes (1 + j * 52 + 1) 0 → ⊥) → true ≡ conflict (lane_in [] lanes i) (lane_in [] lanes j)
  kinds-differ n = sym (conflict-read ∙ rw (differ_true 1 (omega arith) n))

  pub turns-differ : (get_or lanes (1 + i * 52 + 12) 0 ≡ get_or lanes (1 + j * 52 + 12) 0 → ⊥) → true ≡ conflict (lane_in [] lanes i) (lane_in [] lanes j)
  turns-differ n = sym (conflict-read ∙ or_right (differ 1 || speeds) (differ 12) (differ_true 12 (omega arith) n))

  pub speeds_left : get_or lanes (1 + i * 52 + 1) 0 ≡ get_or lanes (1 + j * 52 + 1) 0 → get_or lanes (1 + i * 52 + 12) 0 ≡ get_or lanes (1 + j * 52 + 12) 0
      → (r : Bool) → r ≡ speed_words (get_or lanes (1 + i * 52 + 9) 0) (get_or lanes (1 + i * 52 + 9 + 1) 0) (get_or lanes (1 + j * 52 + 9) 0) (get_or lanes (1 + j * 52 + 9 + 1) 0)
      → r ≡ conflict (lane_in [] lanes i) (lane_in [] lanes j)
  speeds_left e f r s =
      let k : 9 < 52 = omega arith in
      let n : 10 < 52 = omega arith in
      let t : r ≡ speeds = rw (read 9 i k, read 9 j k, next_in 52 lanes i 9 n, next_in 52 lanes j 9 n) at s in
      t ∙ sym (conflict-read ∙ (rw (differ-false 1 (omega arith) e, differ-false 12 (omega arith) f) (or-false speeds)))

-- ---- neighbours

slot-on : (side : Side) (w : List ℕ) → neighbor_on side (lane_of [] w) ≡ slot_at (slot_place side) w
unfolding lane_of
slot-on Left w = refl
slot-on Right w = refl

names-slot : (k : ℕ) (w : List ℕ) (i : ℕ) → names (slot_at k w) i ≡ (not (eqb (word k w) 0) && eqb (word (suc k) w) i)
names-slot k w i = go (eqb (word k w) 0) (eqb (word k w) 1)
  where
    go : (a b : Bool) → names (cond a None (cond b (Some (same (word (suc k) w))) (Some (opposing (word (suc k) w))))) i ≡ (not a && eqb (word (suc k) w) i)
    go true b = refl
    go false true = refl
    go false false = refl

abbrev warned : ℕ → ℕ → Bool → List Issue
warned a n named = when (not named) (warning NeighborDropped (lane_entity a) (lane_entity n ∷ []))

dropped-slot : (a k : ℕ) (w : List ℕ) (f : Option Neighbor) → eqb (word k w) 0 ≡ false → dropped a (slot_at k w) f ≡ warned a (word (suc k) w) (names f (word (suc k) w))
dropped-slot a k w f e = rw e (go (eqb (word k w) 1))
  where
    go : (b : Bool) → dropped a (cond b (Some (same (word (suc k) w))) (Some (opposing (word (suc k) w)))) f ≡ warned a (word (suc k) w) (names f (word (suc k) w))
    go true = refl
    go false = refl

module _ (lanes : List ℕ) (i j k : ℕ) (side : Side) (ek : k ≡ slot_place side) where
  pub slot_small : suc k < 52
  slot_small = go side ek
    where
      go : (s : Side) → k ≡ slot_place s → suc k < 52
      go Left e = omega arith
      go Right e = omega arith

  mark-read : (n : ℕ) → get_or lanes (1 + n * 52 + k) 0 ≡ word k (row_at 52 lanes n)
  mark-read n = let p : k < 52 = omega (arith, slot_small) in word_in 52 lanes n k p

  lane-read : (n : ℕ) → get_or lanes (1 + n * 52 + k + 1) 0 ≡ word (suc k) (row_at 52 lanes n)
  lane-read n = next_in 52 lanes n k slot_small

  slot_in_lem : (n : ℕ) → neighbor_on side (lane_in [] lanes n) ≡ slot_at k (row_at 52 lanes n)
  slot_in_lem n = rw ek (slot-on side (row_at 52 lanes n))

  abbrev wanted : List Issue
  wanted = dropped (lane_in [] lanes i).id (neighbor_on side (lane_in [] lanes j)) (neighbor_on side (lane_in [] lanes i))

  -- the second lane has no neighbour there
  pub no_neighbor : get_or lanes (1 + j * 52 + k) 0 ≡ 0 → [] ≡ wanted
  no_neighbor z = let e : word k (row_at 52 lanes j) ≡ 0 = sym (mark-read j) ∙ z in rw (slot_in_lem j, e)

  module _ (z : get_or lanes (1 + j * 52 + k) 0 ≡ 0 → ⊥) (named : Bool)
      (en : named ≡ (not (eqb (get_or lanes (1 + i * 52 + k) 0) 0) && eqb (get_or lanes (1 + i * 52 + k + 1) 0) (get_or lanes (1 + j * 52 + k + 1) 0))) where
    wanted_read : wanted ≡ warned (get_or lanes (1 + i * 52) 0) (get_or lanes (1 + j * 52 + k + 1) 0) named
    unfolding lane_of
    wanted_read =
        let e : eqb (word k (row_at 52 lanes j)) 0 ≡ false = ne_eqb (word k (row_at 52 lanes j)) 0 (λ e. z (mark-read j ∙ e)) in
        let p : 0 < 52 = omega arith in
        let n : named ≡ names (slot_at k (row_at 52 lanes i)) (word (suc k) (row_at 52 lanes j)) =
        en ∙ rw (mark-read i, lane-read i, lane-read j) (sym (names-slot k (row_at 52 lanes i) (word (suc k) (row_at 52 lanes j)))) in
        rw (slot_in_lem j, slot_in_lem i, lane-read j, n, id-read 52 lanes i p) (dropped-slot (word 0 (row_at 52 lanes i)) k (row_at 52 lanes j) (slot_at k (row_at 52 lanes i)) e)

    -- the first lane names it too
    pub neighbor_kept : named ≡ true → [] ≡ wanted
    neighbor_kept t = sym (wanted_read ∙ rw t)

    -- or not
    pub neighbor_dropped : named ≡ false → warning NeighborDropped (lane_entity (get_or lanes (1 + i * 52) 0)) (lane_entity (get_or lanes (1 + j * 52 + k + 1) 0) ∷ []) ∷ [] ≡ wanted
    neighbor_dropped t = sym (wanted_read ∙ rw t)
