-- A lane's row with its links and neighbours replaced: its words. Assumes nothing.
use Rattle.std.specs.Prelude.{Option, None, Some}
use mathlib.Core.Path.{◌≡◌, refl, sym, ap, ◌∙◌}
use Prim.Native.Nat.{ℕ, zero, suc, ◌+◌, ◌≤◌, ◌<◌}
use native.Mathlib.Nat.{add-zero}
use native.Mathlib.Omega.{arith}
use mathlib.Core.Bool.{Bool, true, false, not, cond}
use mathlib.Core.List.{List, [], ◌∷◌, ◌++◌, append-nil}
use lib.ListN.{length, get_or, take, drop, length-drop, take-append-drop}
use lib.Seq.{get_or-drop, drop-drop, length-take-le, take_at, drop_at, drop-cons, take_all}
use lib.Dec.{eqb}
use lib.Ieee.{Float}
use Rattle.lists.specs.Rows.{over}
use Rattle.entities.specs.declared.Neighbor.{Neighbor}
use Rattle.entities.specs.Types.{same, opposing}
use Rattle.rules.specs.Edit.{relinked}
use Rattle.tables.specs.View.{word, mark, ids_at, slot_at, line_at, lane_of}
use Rattle.store.specs.Rows.{set_slot, set_list}
use Rattle.lists.proofs.Rows.{take-front, over_in, over-itself}
use Rattle.store.proofs.Marks.{LaneMarks}
use Rattle.store.specs.Store.{lane_onto, flag, present, number_or, direction_mark, slot_mark, slot_lane, ids_onto}

-- ---- a list of ids inside a row

-- written behind a part of known length
over-at : (a w l : List ℕ) (k : ℕ) → length a ≡ k → over (a ++ w) k l ≡ a ++ over w 0 l
unfolding over
over-at a w l k e =
    let z : 0 + length l ≡ length l = omega arith in
    rw (take_at a w k e, ← drop-drop (length l) k (a ++ w), drop_at a w k e, z)

over-cons : (x n : ℕ) (b ids : List ℕ) → over (x ∷ b) 0 (n ∷ ids) ≡ n ∷ over b 0 ids
unfolding over
over-cons x n b ids =
    let z : 0 + length ids ≡ length ids = omega arith in
    let y : 0 + suc (length ids) ≡ suc (length ids) = omega arith in
    rw (z, y)

-- behind a part a of known length stand a count and its slots b
pub list_written : (a b c ids : List ℕ) (x k : ℕ) → length a ≡ k → length ids ≤ length b → set_list k ids (a ++ (x ∷ b ++ c)) ≡ a ++ (ids_onto b ids ++ c)
unfolding set_list
list_written a b c ids x k e h =
    let i : 0 + suc (length ids) ≤ suc (length b) = omega arith in
    over-at a (x ∷ b ++ c) (length ids ∷ ids) k e
    ∙ ap (λ z. a ++ z) (over_in (x ∷ b) c 0 (length ids ∷ ids) i ∙ ap (λ z. z ++ c) (over-cons x (length ids) b ids))

-- ---- marks

flag-mark : (x : ℕ) → x ≤ 1 → flag (not (eqb x 0)) ≡ x
flag-mark zero h = refl
flag-mark (suc zero) h = refl
flag-mark (suc (suc x)) h = absurd (over-one x h)
  where
    over-one : (x : ℕ) → suc (suc x) ≤ 1 → ⊥
    over-one x h = omega arith

present-mark : {A : Type 0} (x : ℕ) (a : A) → x ≤ 1 → present (cond (not (eqb x 0)) (Some a) None) ≡ x
present-mark zero a h = refl
present-mark (suc zero) a h = refl
present-mark (suc (suc x)) a h = absurd (over-one x h)
  where
    over-one : (x : ℕ) → suc (suc x) ≤ 1 → ⊥
    over-one x h = omega arith

number-there : (b : Bool) (y : ℕ) → number_or y (cond b (Some y) None) ≡ y
number-there true y = refl
number-there false y = refl

-- a slot's words: a mark and a lane
abbrev held : ℕ → ℕ → Option Neighbor
held x y = cond (eqb x 0) None (cond (eqb x 1) (Some (same y)) (Some (opposing y)))

-- What is known of a row's fields, whatever its words.
pub record LaneRow (w : List ℕ) : Type 0 where
  pub relinked-row : LaneMarks w → (c : List Float) (ln rn : Option Neighbor) (qs rs : List ℕ) → length qs ≤ 16 → length rs ≤ 16
      → lane_onto w (relinked (lane_of c w) ln rn qs rs) ≡ set_slot 14 ln (set_slot 16 rn (set_list 18 qs (set_list 35 rs w)))
  pub linked-row : LaneMarks w → (c : List Float) (qs rs : List ℕ) → length qs ≤ 16 → length rs ≤ 16
      → lane_onto w (relinked (lane_of c w) (slot_at 14 w) (slot_at 16 w) qs rs) ≡ set_list 18 qs (set_list 35 rs w)
  pub own-left : LaneMarks w → set_slot 14 (slot_at 14 w) w ≡ w
  pub own-right : LaneMarks w → set_slot 16 (slot_at 16 w) w ≡ w
  pub own-before : LaneMarks w → set_list 18 (ids_at 18 w) w ≡ w
  pub own-after : LaneMarks w → set_list 35 (ids_at 35 w) w ≡ w
  pub clear-left : (v : Option Neighbor) → set_slot 14 v (set_slot 14 None w) ≡ set_slot 14 v w
  pub clear-right : (v : Option Neighbor) → set_slot 16 v (set_slot 16 None w) ≡ set_slot 16 v w
  pub commute : (u v : Option Neighbor) → set_slot 16 v (set_slot 14 u w) ≡ set_slot 14 u (set_slot 16 v w)
  pub before-kept : LaneMarks w → (rs : List ℕ) → length rs ≤ 16 → ids_at 18 (set_list 35 rs w) ≡ ids_at 18 w
  pub slotted-row : LaneMarks w → (c : List Float) (ln rn : Option Neighbor)
      → lane_onto w (relinked (lane_of c w) ln rn (ids_at 18 w) (ids_at 35 w)) ≡ set_slot 14 ln (set_slot 16 rn w)
  pub own-slots : LaneMarks w → set_slot 14 (slot_at 14 w) (set_slot 16 (slot_at 16 w) w) ≡ w
  pub again-left : (v ln rn : Option Neighbor) → slot_lane (slot_lane (word 15 w) ln) v ≡ slot_lane (word 15 w) v
      → set_slot 14 v (set_slot 14 ln (set_slot 16 rn w)) ≡ set_slot 14 v (set_slot 16 rn w)
  pub again-right : (v ln rn : Option Neighbor) → slot_lane (slot_lane (word 17 w) rn) v ≡ slot_lane (word 17 w) v
      → set_slot 16 v (set_slot 14 ln (set_slot 16 rn w)) ≡ set_slot 14 ln (set_slot 16 v w)

-- ---- a row of plain words

module _ (x0 x1 x2 x3 x4 x5 x6 x7 x8 x9 x10 x11 x12 x13 a b d e n m : ℕ) (ps ss : List ℕ) (lp : length ps ≡ 16) (ls : length ss ≡ 16) where
  abbrev behind : List ℕ
  behind = n ∷ ps ++ (m ∷ ss)

  abbrev row : List ℕ
  row = x0 ∷ x1 ∷ x2 ∷ x3 ∷ x4 ∷ x5 ∷ x6 ∷ x7 ∷ x8 ∷ x9 ∷ x10 ∷ x11 ∷ x12 ∷ x13 ∷ a ∷ b ∷ d ∷ e ∷ behind

  -- a row with the same first words
  abbrev with : ℕ → ℕ → ℕ → ℕ → List ℕ → List ℕ
  with a b d e rest = x0 ∷ x1 ∷ x2 ∷ x3 ∷ x4 ∷ x5 ∷ x6 ∷ x7 ∷ x8 ∷ x9 ∷ x10 ∷ x11 ∷ x12 ∷ x13 ∷ a ∷ b ∷ d ∷ e ∷ rest

  take-ps : take 16 (ps ++ (m ∷ ss)) ≡ ps
  take-ps = take_at ps (m ∷ ss) 16 lp

  drop-ss : drop 17 (ps ++ (m ∷ ss)) ≡ ss
  drop-ss = sym (drop-drop 1 16 (ps ++ (m ∷ ss))) ∙ ap (drop 1) (drop_at ps (m ∷ ss) 16 lp)

  take-ss : take 16 (drop 17 (ps ++ (m ∷ ss))) ≡ ss
  take-ss = let h : length ss ≤ 16 = omega arith in ap (take 16) drop-ss ∙ take_all 16 ss h

  word-m : get_or (ps ++ (m ∷ ss)) 16 0 ≡ m
  word-m = sym (get_or-drop 16 (ps ++ (m ∷ ss)) 0 0) ∙ ap (λ z. get_or z 0 0) (drop_at ps (m ∷ ss) 16 lp)

  set_after : (rs : List ℕ) → length rs ≤ 16 → set_list 35 rs row ≡ with a b d e (n ∷ ps ++ ids_onto ss rs)
  set_after rs k =
      let q : length rs ≤ length ss = rw ls k in
      let l : length (with a b d e (n ∷ ps)) ≡ 35 = rw lp in
      ap (λ z. set_list 35 rs (with a b d e (n ∷ ps ++ (m ∷ z)))) (sym (append-nil ss))
      ∙ (list_written (with a b d e (n ∷ ps)) ss [] rs m 35 l q ∙ ap (λ z. with a b d e (n ∷ ps ++ (length rs ∷ z))) (append-nil (over ss 0 rs)))

  set_both : (qs rs : List ℕ) → length qs ≤ 16 → length rs ≤ 16 → set_list 18 qs (set_list 35 rs row) ≡ with a b d e (ids_onto ps qs ++ ids_onto ss rs)
  set_both qs rs h k =
      let q : length qs ≤ length ps = rw lp h in
      ap (set_list 18 qs) (set_after rs k) ∙ list_written (with a b d e []) ps (ids_onto ss rs) qs n 18 refl q

  set-slots : (ln rn : Option Neighbor) (rest : List ℕ)
      → set_slot 14 ln (set_slot 16 rn (with a b d e rest)) ≡ with (slot_mark ln) (slot_lane b ln) (slot_mark rn) (slot_lane e rn) rest
  unfolding set_slot over
  set-slots None None rest = refl
  set-slots None (Some r) rest = refl
  set-slots (Some l) None rest = refl
  set-slots (Some l) (Some r) rest = refl

  set-left : (v : Option Neighbor) (rest : List ℕ) → set_slot 14 v (with a b d e rest) ≡ with (slot_mark v) (slot_lane b v) d e rest
  unfolding set_slot over
  set-left None rest = refl
  set-left (Some v) rest = refl

  set-right : (v : Option Neighbor) (rest : List ℕ) → set_slot 16 v (with a b d e rest) ≡ with a b (slot_mark v) (slot_lane e v) rest
  unfolding set_slot over
  set-right None rest = refl
  set-right (Some v) rest = refl

  -- what stands in a slot, written again
  slot-again : (x y : ℕ) → x ≤ 2 → (slot_mark (held x y) ≡ x) × (slot_lane y (held x y) ≡ y)
  slot-again zero y h = (refl, refl)
  slot-again (suc zero) y h = (refl, refl)
  slot-again (suc (suc zero)) y h = (refl, refl)
  slot-again (suc (suc (suc x))) y h = absurd (over-two x h)
    where
      over-two : (x : ℕ) → suc (suc (suc x)) ≤ 2 → ⊥
      over-two x h = omega arith

  module _ (f : LaneMarks row) where
    few-before : n ≤ length ps
    few-before = rw lp f.before

    few-after : m ≤ length ss
    few-after = rw (ls, ← word-m) f.after

    own-ids : ids_at 18 row ≡ take n ps
    own-ids = take-front n ps (m ∷ ss) few-before

    plain-relinked : (c : List Float) (ln rn : Option Neighbor) (qs rs : List ℕ) → length qs ≤ 16 → length rs ≤ 16
        → lane_onto row (relinked (lane_of c row) ln rn qs rs) ≡ set_slot 14 ln (set_slot 16 rn (set_list 18 qs (set_list 35 rs row)))
    unfolding lane_onto lane_of
    plain-relinked c ln rn qs rs h k =
        rw (set_both qs rs h k, set-slots ln rn (ids_onto ps qs ++ ids_onto ss rs), flag-mark x3 f.left-way, flag-mark x5 f.right-way, present-mark x6 (line_at c 7 row) f.center, present-mark x9 x10 f.speed, number-there (mark 9 row) x10, flag-mark x11 f.one_way, take-ps, take-ss)

    plain-linked : (c : List Float) (qs rs : List ℕ) → length qs ≤ 16 → length rs ≤ 16
        → lane_onto row (relinked (lane_of c row) (slot_at 14 row) (slot_at 16 row) qs rs) ≡ set_list 18 qs (set_list 35 rs row)
    plain-linked c qs rs h k =
        let l = slot-again a b f.left in
        let r = slot-again d e f.right in
        plain-relinked c (slot_at 14 row) (slot_at 16 row) qs rs h k
        ∙ (ap (λ z. set_slot 14 (slot_at 14 row) (set_slot 16 (slot_at 16 row) z)) (set_both qs rs h k)
        ∙ (set-slots (slot_at 14 row) (slot_at 16 row) (ids_onto ps qs ++ ids_onto ss rs) ∙ rw (l.0, l.1, r.0, r.1) (sym (set_both qs rs h k))))

    plain-left : set_slot 14 (slot_at 14 row) row ≡ row
    plain-left = set-left (slot_at 14 row) behind ∙ (let l = slot-again a b f.left in rw (l.0, l.1))

    plain-right : set_slot 16 (slot_at 16 row) row ≡ row
    plain-right = set-right (slot_at 16 row) behind ∙ (let r = slot-again d e f.right in rw (r.0, r.1))

    plain-before : set_list 18 (ids_at 18 row) row ≡ row
    plain-before =
        let h : length (take n ps) ≤ length ps = rw (length-take-le n ps few-before) few-before in
        ap (λ z. set_list 18 z row) own-ids
        ∙ (list_written (with a b d e []) ps (m ∷ ss) (take n ps) n 18 refl h ∙ rw (length-take-le n ps few-before, over-itself ps n few-before))

    plain-after : set_list 35 (ids_at 35 row) row ≡ row
    plain-after =
        let h : length (take m ss) ≤ 16 = rw (length-take-le m ss few-after, ← ls) few-after in
        let e : ids_at 35 row ≡ take m ss = rw (word-m, drop-ss) in
        ap (λ z. set_list 35 z row) e ∙ (set_after (take m ss) h ∙ rw (length-take-le m ss few-after, over-itself ss m few-after))

    plain-before-kept : (rs : List ℕ) → length rs ≤ 16 → ids_at 18 (set_list 35 rs row) ≡ ids_at 18 row
    plain-before-kept rs k = ap (ids_at 18) (set_after rs k) ∙ (take-front n ps (ids_onto ss rs) few-before ∙ sym own-ids)

    plain-slotted : (c : List Float) (ln rn : Option Neighbor)
        → lane_onto row (relinked (lane_of c row) ln rn (ids_at 18 row) (ids_at 35 row)) ≡ set_slot 14 ln (set_slot 16 rn row)
    plain-slotted c ln rn =
        let b : length (ids_at 18 row) ≤ 16 = rw (own-ids, length-take-le n ps few-before) f.before in
        let a : length (ids_at 35 row) ≤ 16 = rw (word-m, drop-ss, length-take-le m ss few-after, ← ls) few-after in
        plain-relinked c ln rn (ids_at 18 row) (ids_at 35 row) b a
        ∙ ap (λ z. set_slot 14 ln (set_slot 16 rn z)) (ap (set_list 18 (ids_at 18 row)) plain-after ∙ plain-before)

    plain-own-slots : set_slot 14 (slot_at 14 row) (set_slot 16 (slot_at 16 row) row) ≡ row
    plain-own-slots = ap (set_slot 14 (slot_at 14 row)) plain-right ∙ plain-left

  plain-clear-left : (v : Option Neighbor) → set_slot 14 v (set_slot 14 None row) ≡ set_slot 14 v row
  unfolding set_slot over
  plain-clear-left None = refl
  plain-clear-left (Some v) = refl

  plain-clear-right : (v : Option Neighbor) → set_slot 16 v (set_slot 16 None row) ≡ set_slot 16 v row
  unfolding set_slot over
  plain-clear-right None = refl
  plain-clear-right (Some v) = refl

  plain-commute : (u v : Option Neighbor) → set_slot 16 v (set_slot 14 u row) ≡ set_slot 14 u (set_slot 16 v row)
  unfolding set_slot over
  plain-commute None None = refl
  plain-commute None (Some v) = refl
  plain-commute (Some u) None = refl
  plain-commute (Some u) (Some v) = refl

  -- a slot written over what was written in it
  plain-again-left : (v ln rn : Option Neighbor) → slot_lane (slot_lane b ln) v ≡ slot_lane b v
      → set_slot 14 v (set_slot 14 ln (set_slot 16 rn row)) ≡ set_slot 14 v (set_slot 16 rn row)
  unfolding set_slot over
  plain-again-left (Some v) None None h = refl
  plain-again-left (Some v) None (Some r) h = refl
  plain-again-left (Some v) (Some l) None h = refl
  plain-again-left (Some v) (Some l) (Some r) h = refl
  plain-again-left None None None h = refl
  plain-again-left None None (Some r) h = refl
  plain-again-left None (Some l) None h = ap (λ z. with 0 z 0 e behind) h
  plain-again-left None (Some l) (Some r) h = ap (λ z. with 0 z (direction_mark r.direction) r.lane behind) h

  plain-again-right : (v ln rn : Option Neighbor) → slot_lane (slot_lane e rn) v ≡ slot_lane e v
      → set_slot 16 v (set_slot 14 ln (set_slot 16 rn row)) ≡ set_slot 14 ln (set_slot 16 v row)
  unfolding set_slot over
  plain-again-right (Some v) None None h = refl
  plain-again-right (Some v) None (Some r) h = refl
  plain-again-right (Some v) (Some l) None h = refl
  plain-again-right (Some v) (Some l) (Some r) h = refl
  plain-again-right None None None h = refl
  plain-again-right None (Some l) None h = refl
  plain-again-right None None (Some r) h = ap (λ z. with 0 b 0 z behind) h
  plain-again-right None (Some l) (Some r) h = ap (λ z. with (direction_mark l.direction) l.lane 0 z behind) h

  plain : LaneRow row
  plain =
      record {
        relinked-row = plain-relinked;
        linked-row = plain-linked;
        own-left = plain-left;
        own-right = plain-right;
        own-before = plain-before;
        own-after = plain-after;
        clear-left = plain-clear-left;
        clear-right = plain-clear-right;
        commute = plain-commute;
        before-kept = plain-before-kept;
        slotted-row = plain-slotted;
        own-slots = plain-own-slots;
        again-left = plain-again-left;
        again-right = plain-again-right;
      }

-- ---- every row of 52 words

-- the first n words from place k on
unfoldable tab : ℕ → ℕ → List ℕ → List ℕ
tab k zero w = []
tab k (suc n) w = get_or w k 0 ∷ tab (suc k) n w

tab-drop : (n k : ℕ) (w : List ℕ) → k + n ≤ length w → drop k w ≡ tab k n w ++ drop (k + n) w
unfolding tab
tab-drop zero k w h = rw add-zero
tab-drop (suc n) k w h =
    let i : k < length w = omega arith in
    let j : suc k + n ≤ length w = omega arith in
    let e : suc k + n ≡ k + suc n = omega arith in
    drop-cons w k 0 i ∙ ap (λ z. get_or w k 0 ∷ z) (tab-drop n (suc k) w j ∙ rw e)

pub lane_row : (w : List ℕ) → length w ≡ 52 → LaneRow w
unfolding tab
lane_row w h =
    let p = take 16 (drop 19 w) in
    let r = drop 36 w in
    let x : ℕ → ℕ = λ k. get_or w k 0 in
    let lp : length p ≡ 16 = length-take-le 16 (drop 19 w) (rw (length-drop, h) (omega arith)) in
    let lr : length r ≡ 16 = rw (length-drop, h) in
    let front : w ≡ tab 0 19 w ++ drop 19 w = tab-drop 19 0 w (rw h (omega arith)) in
    let middle : drop 19 w ≡ p ++ drop 35 w = sym (take-append-drop 16 (drop 19 w)) ∙ ap (λ z. p ++ z) (drop-drop 16 19 w) in
    let back : drop 35 w ≡ x 35 ∷ r = drop-cons w 35 0 (rw h (omega arith)) in
    let whole : w ≡ tab 0 19 w ++ (p ++ (x 35 ∷ r)) = front ∙ ap (λ z. tab 0 19 w ++ z) (middle ∙ ap (λ z. p ++ z) back) in
    moved (sym whole) (plain (x 0) (x 1) (x 2) (x 3) (x 4) (x 5) (x 6) (x 7) (x 8) (x 9) (x 10) (x 11) (x 12) (x 13) (x 14) (x 15) (x 16) (x 17) (x 18) (x 35) p r lp lr)
  where
    moved : {u v : List ℕ} → u ≡ v → LaneRow u → LaneRow v
    moved e l = rw (sym e) l
