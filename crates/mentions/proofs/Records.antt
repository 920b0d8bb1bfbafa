-- A record with its lists of lanes changed, written over its row, is the row with those lists changed. Assumes nothing.
use Rattle.std.specs.Prelude.{Option, None, Some}
use mathlib.Core.Path.{◌≡◌, refl, sym, ap, ◌∙◌}
use Prim.Native.Nat.{ℕ, zero, suc, ◌+◌, ◌≤◌, ◌<◌}
use native.Mathlib.Omega.{arith}
use mathlib.Core.Bool.{Bool, true, false, not, cond, ◌&&◌}
use mathlib.Core.List.{List, [], ◌∷◌, ◌++◌, append_assoc, append-nil}
use lib.Dec.{eqb, leb}
use lib.Ieee.{Float}
use lib.ListN.{length, get_or, take, drop, length-append, length-drop, take-append-drop, drop_of_length-le}
use lib.Seq.{get_or-drop, drop-drop, length-take-le, drop_at, drop-cons}
use borrow.Author.Tests.{leb-true, eqb-true}
use Rattle.lists.specs.Select.{without}
use Rattle.lists.proofs.Rows.{get_d_over-before, length_over}
use Rattle.lists.proofs.Select.{length_without}
use Rattle.rules.specs.Edit.{relinked}
use Rattle.rules.specs.Lane.{freed, forgetting, road_lanes, junction_lanes, rule_lanes}
use Rattle.entities.specs.declared.Neighbor.{Neighbor}
use Rattle.entities.specs.Types.{same, opposing}
use Rattle.tables.specs.View.{word, ids_at, ids_where, slot_at, lane_of, road_of, junction_of, rule_of}
use Rattle.tables.specs.Formed.{lane_formed, rule_formed}
use Rattle.rules.specs.Merge.{replace_lane}
use Rattle.rules.specs.Sound.{has_content}
use Rattle.store.specs.Store.{number_or, ids_onto, ids_or, lane_onto, road_onto, junction_onto, rule_onto}
use Rattle.store.specs.Rows.{slot_words, set_slot, set_list}
use Rattle.store.proofs.Marks.{LaneMarks, lane-marks}
use Rattle.store.proofs.LaneRow.{lane_row, list_written}
use Rattle.store.proofs.OtherRows.{words, words-front, part-front, part-last, ids-same, or_same, RuleCounts, rule-counts}
use Rattle.store.proofs.Back.{onto-length, lane-formed, lane-length}
use Rattle.mentions.specs.Naming.{slot_names, change_at, free_at, forget_at, lane_forgets, rule_changes, rule_forgets, rule_replaces}
use Rattle.mentions.proofs.Going.{shorter, RuleFits, rule_fits_lem, length-replace}

pub few-without : (a m : ℕ) (ids : List ℕ) → length ids ≤ m → length (without a ids) ≤ m
few-without a m ids h = omega (arith, length_without a ids)

-- ---- lanes

-- a slot that names the lane, and one that does not
freed-on : (a k : ℕ) (w : List ℕ) → slot_names a k w ≡ true → freed a (slot_at k w) ≡ None
freed-on a k w h = go (eqb (word k w) 0) (eqb (word k w) 1) h
  where
    go : (x y : Bool) → (not x && eqb (word (suc k) w) a) ≡ true → freed a (cond x None (cond y (Some (same (word (suc k) w))) (Some (opposing (word (suc k) w))))) ≡ None
    go true y h = refl
    go false true h = rw h
    go false false h = rw h

freed-off : (a k : ℕ) (w : List ℕ) → slot_names a k w ≡ false → freed a (slot_at k w) ≡ slot_at k w
freed-off a k w h = go (eqb (word k w) 0) (eqb (word k w) 1) h
  where
    go : (x y : Bool) → (not x && eqb (word (suc k) w) a) ≡ false
        → freed a (cond x None (cond y (Some (same (word (suc k) w))) (Some (opposing (word (suc k) w))))) ≡ cond x None (cond y (Some (same (word (suc k) w))) (Some (opposing (word (suc k) w))))
    go true y h = refl
    go false true h = rw h
    go false false h = rw h

-- a list written behind a word
list-behind : (w : List ℕ) (k j : ℕ) (ids : List ℕ) → j < k → k ≤ length w → word j (set_list k ids w) ≡ word j w
unfolding set_list
list-behind w k j ids h l = get_d_over-before w k (length ids ∷ ids) j 0 h l

list-long : (w : List ℕ) (k : ℕ) (ids : List ℕ) → k + suc (length ids) ≤ length w → length (set_list k ids w) ≡ length w
unfolding set_list
list-long w k ids h = length_over w k (length ids ∷ ids) h

slot-behind : (w : List ℕ) (k j : ℕ) (s : Option Neighbor) → j < k → k ≤ length w → word j (set_slot k s w) ≡ word j w
unfolding set_slot
slot-behind w k j s h l = get_d_over-before w k (slot_words s) j 0 h l

module _ (a : ℕ) (c : List Float) (w : List ℕ) (l : length w ≡ 52) (f : lane_formed w ≡ true) where
  abbrev marks : LaneMarks w
  marks = lane-marks w f

  abbrev qs : List ℕ
  qs = without a (ids_at 18 w)

  abbrev rs : List ℕ
  rs = without a (ids_at 35 w)

  few-before : length qs ≤ 16
  few-before = few-without a 16 (ids_at 18 w) (omega (arith, length-take-le (word 18 w) (drop 19 w) (rw length-drop (omega (arith, marks.before))), marks.before))

  few-after : length rs ≤ 16
  few-after = few-without a 16 (ids_at 35 w) (omega (arith, length-take-le (word 35 w) (drop 36 w) (rw length-drop (omega (arith, marks.after))), marks.after))

  -- the row with its links changed, as a lane written over it
  abbrev v : List ℕ
  v = set_list 18 qs (set_list 35 rs w)

  written : lane_onto w (relinked (lane_of c w) (slot_at 14 w) (slot_at 16 w) qs rs) ≡ v
  written = (lane_row w l).linked-row marks c qs rs few-before few-after

  long : length v ≡ 52
  long = ap length (sym written) ∙ lane-length w l (relinked (lane_of c w) (slot_at 14 w) (slot_at 16 w) qs rs) few-before few-after

  formed : lane_formed v ≡ true
  formed = ap lane_formed (sym written) ∙ lane-formed w l (relinked (lane_of c w) (slot_at 14 w) (slot_at 16 w) qs rs) few-before few-after

  word_kept : (j : ℕ) → j < 18 → word j v ≡ word j w
  word_kept j h = list-behind (set_list 35 rs w) 18 j qs h (omega (arith, other)) ∙ list-behind w 35 j rs (omega arith) (omega (arith, l))
    where
      other : length (set_list 35 rs w) ≡ 52
      other = list-long w 35 rs (omega (arith, l, few-after)) ∙ l

  slot_kept : (k : ℕ) → suc k < 18 → slot_at k v ≡ slot_at k w
  slot_kept k h = rw (word_kept k (omega arith), word_kept (suc k) h)

  names-kept : (k : ℕ) → suc k < 18 → slot_names a k v ≡ slot_names a k w
  names-kept k h = rw (word_kept k (omega arith), word_kept (suc k) h)

  links_forgotten : forget_at a 18 (forget_at a 35 w) ≡ v
  links_forgotten = ap (λ ids. set_list 18 (without a ids) (set_list 35 rs w)) ((lane_row w l).before-kept marks rs few-after)

  -- the right slot
  right : set_slot 16 (freed a (slot_at 16 w)) v ≡ free_at a 16 v
  right = go (slot_names a 16 w) refl
    where
      go : (b : Bool) → slot_names a 16 w ≡ b → set_slot 16 (freed a (slot_at 16 w)) v ≡ free_at a 16 v
      go true e = ap (λ s. set_slot 16 s v) (freed-on a 16 w e) ∙ ap (λ b. cond b (set_slot 16 None v) v) (sym (names-kept 16 (omega arith) ∙ e))
      go false e =
          ap (λ s. set_slot 16 s v) (freed-off a 16 w e ∙ sym (slot_kept 16 (omega arith)))
          ∙ ((lane_row v long).own-right (lane-marks v formed) ∙ ap (λ b. cond b (set_slot 16 None v) v) (sym (names-kept 16 (omega arith) ∙ e)))

  -- the left slot, which the right one does not touch
  left : (s : Option Neighbor) → set_slot 14 (freed a (slot_at 14 w)) (set_slot 16 s v) ≡ cond (slot_names a 14 w) (set_slot 14 None (set_slot 16 s v)) (set_slot 16 s v)
  left s = go (slot_names a 14 w) refl
    where
      go : (b : Bool) → slot_names a 14 w ≡ b → set_slot 14 (freed a (slot_at 14 w)) (set_slot 16 s v) ≡ cond b (set_slot 14 None (set_slot 16 s v)) (set_slot 16 s v)
      go true e = ap (λ x. set_slot 14 x (set_slot 16 s v)) (freed-on a 14 w e)
      go false e =
          ap (λ x. set_slot 14 x (set_slot 16 s v)) (freed-off a 14 w e ∙ sym (slot_kept 14 (omega arith)))
          ∙ (sym ((lane_row v long).commute (slot_at 14 v) s) ∙ ap (set_slot 16 s) ((lane_row v long).own-left (lane-marks v formed)))

  names-right : (s : Option Neighbor) → slot_names a 14 (set_slot 16 s v) ≡ slot_names a 14 w
  names-right s = ap (λ x. not (eqb x 0) && eqb (word 15 (set_slot 16 s v)) a) (before 14 (omega arith)) ∙ ap (λ x. not (eqb (word 14 w) 0) && eqb x a) (before 15 (omega arith))
    where
      before : (j : ℕ) → j < 16 → word j (set_slot 16 s v) ≡ word j w
      before j h = slot-behind v 16 j s h (omega (arith, long)) ∙ word_kept j (omega arith)

  pub lane-forgets : lane_onto w (forgetting a (lane_of c w)) ≡ lane_forgets a w
  lane-forgets =
      let s = freed a (slot_at 16 w) in
      row
      ∙ (left s
      ∙ (ap (λ b. cond b (set_slot 14 None (set_slot 16 s v)) (set_slot 16 s v)) (sym (names-right s))
      ∙ (ap (free_at a 14) right ∙ ap (λ x. free_at a 14 (free_at a 16 x)) (sym links_forgotten))))
    where
      row : lane_onto w (forgetting a (lane_of c w)) ≡ set_slot 14 (freed a (slot_at 14 w)) (set_slot 16 (freed a (slot_at 16 w)) v)
      row = unfold lane_of in (lane_row w l).relinked-row marks c (freed a (slot_at 14 w)) (freed a (slot_at 16 w)) qs rs few-before few-after

-- ---- roads, junctions, rules: a list of 64 slots

-- behind a part of k words stand a count and its m slots
list_on : (p w ids : List ℕ) (k m : ℕ) → length p ≡ k → length ids ≤ m → k + suc m ≤ length w
    → set_list k ids (p ++ drop k w) ≡ p ++ (ids_onto (take m (drop (suc k) w)) ids ++ drop (k + suc m) w)
list_on p w ids k m e h r =
    let b = take m (drop (suc k) w) in
    let n : length b ≡ m = length-take-le m (drop (suc k) w) (rw length-drop (omega arith)) in
    let z : k + suc m ≡ suc k + m = omega arith in
    let t : drop (k + suc m) w ≡ drop m (drop (suc k) w) = ap (λ j. drop j w) z ∙ sym (drop-drop m (suc k) w) in
    let d : drop k w ≡ word k w ∷ b ++ drop (k + suc m) w =
    drop-cons w k 0 (omega arith) ∙ ap (λ y. word k w ∷ y) (sym (take-append-drop m (drop (suc k) w)) ∙ ap (λ y. b ++ y) (sym t)) in
    ap (λ y. set_list k ids (p ++ y)) d ∙ list_written p b (drop (k + suc m) w) ids (word k w) k e (rw n h)

-- what is read behind it
ids-on : (p w : List ℕ) (k : ℕ) → length p ≡ k → ids_at k (p ++ drop k w) ≡ ids_at k w
ids-on p w k e =
    let z : k + 0 ≡ k = omega arith in
    let y : k + 1 ≡ suc k = omega arith in
    let d : drop k (p ++ drop k w) ≡ drop k w = drop_at p (drop k w) k e in
    let n : word k (p ++ drop k w) ≡ word k w =
    ap (λ j. get_or (p ++ drop k w) j 0) (sym z) ∙ (sym (get_or-drop k (p ++ drop k w) 0 0) ∙ (ap (λ v. get_or v 0 0) d ∙ (get_or-drop k w 0 0 ∙ ap (λ j. get_or w j 0) z))) in
    let t : drop (suc k) (p ++ drop k w) ≡ drop (suc k) w =
    ap (λ j. drop j (p ++ drop k w)) (sym y) ∙ (sym (drop-drop 1 k (p ++ drop k w)) ∙ (ap (drop 1) d ∙ (drop-drop 1 k w ∙ ap (λ j. drop j w) y))) in
    rw (n, t)

-- the first k words, one by one
front : (k : ℕ) (w : List ℕ) → k ≤ length w → w ≡ words 0 k w ++ drop k w
front k w h = let e : 0 + k ≡ k = omega arith in sym (ap (λ j. words 0 k w ++ drop j w) (sym e) ∙ words-front k 0 w (rw e h))

nothing-behind : (w : List ℕ) (k : ℕ) → length w ≡ k → drop k w ≡ []
nothing-behind w k e = let h : length w ≤ k = omega arith in drop_of_length-le w h

words-length : (k j : ℕ) (w : List ℕ) → length (words j k w) ≡ k
unfolding words
words-length zero j w = refl
words-length (suc k) j w = ap suc (words-length k (suc j) w)

-- the list at k of a row that ends with its m slots
last-list : (f : List ℕ → List ℕ) (k m : ℕ) (w : List ℕ) → length w ≡ k + suc m → length (f (ids_at k w)) ≤ m → words 0 k w ++ ids_onto (take m (drop (suc k) w)) (f (ids_at k w)) ≡ change_at f k w
last-list f k m w l h =
    let ids = f (ids_at k w) in
    let n : length (words 0 k w) ≡ k = words-length k 0 w in
    ap (λ y. words 0 k w ++ y) (sym (append-nil (ids_onto (take m (drop (suc k) w)) ids)) ∙ ap (λ y. ids_onto (take m (drop (suc k) w)) ids ++ y) (sym (nothing-behind w (k + suc m) l)))
    ∙ (sym (list_on (words 0 k w) w ids k m n h (omega arith)) ∙ ap (set_list k ids) (sym (front k w (omega arith))))

pub road_changes : (f : List ℕ → List ℕ) (w : List ℕ) → length w ≡ 68 → length (f (ids_at 3 w)) ≤ 64 → road_onto w (road_lanes f (road_of w)) ≡ change_at f 3 w
unfolding road_onto road_of words
road_changes f w l h = last-list f 3 64 w l h

pub junction_changes : (f : List ℕ → List ℕ) (w : List ℕ) → length w ≡ 69 → length (f (ids_at 4 w)) ≤ 64 → junction_onto w (junction_lanes f (junction_of w)) ≡ change_at f 4 w
unfolding junction_onto junction_of words
junction_changes f w l h = last-list f 4 64 w l h

pub road_forgets : (a : ℕ) (w : List ℕ) → length w ≡ 68 → leb (word 3 w) 64 ≡ true → road_onto w (road_lanes (without a) (road_of w)) ≡ forget_at a 3 w
road_forgets a w l f =
    let n = leb-true (word 3 w) 64 f in
    road_changes (without a) w l (omega (arith, shorter (without a) (length_without a) w 3 (omega arith)))

pub junction_forgets : (a : ℕ) (w : List ℕ) → length w ≡ 69 → leb (word 4 w) 64 ≡ true → junction_onto w (junction_lanes (without a) (junction_of w)) ≡ forget_at a 4 w
junction_forgets a w l f =
    let n = leb-true (word 4 w) 64 f in
    junction_changes (without a) w l (omega (arith, shorter (without a) (length_without a) w 4 (omega arith)))

-- ---- rules

module _ (f g : List ℕ → List ℕ) (w : List ℕ) (l : length w ≡ 330) (r : rule_formed w ≡ true) (fits : RuleFits f g w) where
  -- 65 words from place k on, as they are, and with the list changed
  abbrev kept : ℕ → List ℕ
  kept k = take 65 (drop k w)

  abbrev new : (List ℕ → List ℕ) → ℕ → List ℕ
  new h k = ids_onto (take 64 (drop (suc k) w)) (h (ids_at k w))

  new-long : (h : List ℕ → List ℕ) (k : ℕ) → length (h (ids_at k w)) ≤ 64 → k + 65 ≤ 330 → length (new h k) ≡ 65
  new-long h k n i = onto-length (take 64 (drop (suc k) w)) (h (ids_at k w)) 64 (length-take-le 64 (drop (suc k) w) (rw length-drop (omega arith))) n

  kept-long : (k : ℕ) → k + 65 ≤ 330 → length (kept k) ≡ 65
  kept-long k i = length-take-le 65 (drop k w) (rw length-drop (omega arith))

  -- the list at k changed in a row that is w from place k on
  change-on : (h : List ℕ → List ℕ) (p : List ℕ) (k : ℕ) → length p ≡ k → length (h (ids_at k w)) ≤ 64 → k + 65 ≤ 330 → change_at h k (p ++ drop k w) ≡ p ++ (new h k ++ drop (k + 65) w)
  change-on h p k e n i = ap (λ ids. set_list k (h ids) (p ++ drop k w)) (ids-on p w k e) ∙ list_on p w (h (ids_at k w)) k 64 e n (omega arith)

  abbrev head : List ℕ
  head = words 0 5 w

  counts : RuleCounts w
  counts = rule-counts w r

  first-changed : change_at f 5 w ≡ head ++ (new f 5 ++ drop 70 w)
  first-changed = ap (change_at f 5) (front 5 w (omega arith)) ∙ change-on f head 5 (words-length 5 0 w) fits.lanes (omega arith)

  -- a right of way has two lists more
  abbrev before : List ℕ
  before = head ++ (new f 5 ++ (kept 70 ++ kept 135))

  before-long : length before ≡ 200
  before-long =
      simp (length-append, words-length 5 0 w, new-long f 5 fits.lanes (omega arith), kept-long 70 (omega arith), kept-long 135 (omega arith))

  all_changed : word 1 w ≡ 3 → change_at g 265 (change_at g 200 (change_at f 5 w)) ≡ head ++ (new f 5 ++ (kept 70 ++ (kept 135 ++ (new g 200 ++ new g 265))))
  all_changed e =
      let u : change_at f 5 w ≡ before ++ drop 200 w =
      first-changed
      ∙ (ap (λ z. head ++ (new f 5 ++ z)) (sym (part-front 65 70 135 w refl) ∙ ap (λ z. kept 70 ++ z) (sym (part-front 65 135 200 w refl)))
      ∙ sym (regroup head (new f 5) (kept 70) (kept 135) (drop 200 w))) in
      let v : change_at g 200 (before ++ drop 200 w) ≡ (before ++ new g 200) ++ drop 265 w =
      change-on g before 200 before-long (fits.priority e) (omega arith) ∙ sym (append_assoc before (new g 200) (drop 265 w)) in
      let n : length (before ++ new g 200) ≡ 265 = omega (arith, length-append before (new g 200), before-long, new-long g 200 (fits.priority e) (omega arith)) in
      let x : change_at g 265 ((before ++ new g 200) ++ drop 265 w) ≡ (before ++ new g 200) ++ new g 265 =
      change-on g (before ++ new g 200) 265 n (fits.yielding e) (omega arith)
      ∙ ap (λ z. (before ++ new g 200) ++ z) (ap (λ z. new g 265 ++ z) (nothing-behind w 330 l) ∙ append-nil (new g 265)) in
      ap (λ z. change_at g 265 (change_at g 200 z)) u
      ∙ (ap (change_at g 265) v ∙ (x ∙ (append_assoc before (new g 200) (new g 265) ∙ regroup head (new f 5) (kept 70) (kept 135) (new g 200 ++ new g 265))))
    where
      regroup : (p q r s t : List ℕ) → (p ++ (q ++ (r ++ s))) ++ t ≡ p ++ (q ++ (r ++ (s ++ t)))
      regroup p q r s t = rw (append_assoc p (q ++ (r ++ s)) t, append_assoc q (r ++ s) t, append_assoc r s t)

  -- the record's row, list by list
  abbrev way : Bool → ℕ → List ℕ
  way b k = ids_or b (drop k w) (g (ids_where b k w))

  parts : (b : Bool) → eqb (word 1 w) 3 ≡ b → rule_onto w (rule_lanes f g (rule_of w)) ≡ head ++ (new f 5 ++ (kept 70 ++ (kept 135 ++ (way b 200 ++ way b 265))))
  unfolding rule_onto rule_of words
  parts b e =
      joined (content (has_content (word 1 w)) (word 2 w)) (crosswalk (eqb (word 1 w) 4) (word 4 w)) (ids-same 64 70 w counts.crosswalks (omega arith))
      (or_same (not (eqb (word 1 w) 5)) 135 w counts.stops (omega arith)) (ap (λ x. way x 200) e) (ap (λ x. way x 265) e)
    where
      joined : {x y u v : ℕ} {b c d e p q r s : List ℕ} → x ≡ u → y ≡ v → b ≡ p → c ≡ q → d ≡ r → e ≡ s
          → word 0 w ∷ word 1 w ∷ x ∷ word 3 w ∷ y ∷ new f 5 ++ (b ++ (c ++ (d ++ e))) ≡ word 0 w ∷ word 1 w ∷ u ∷ word 3 w ∷ v ∷ new f 5 ++ (p ++ (q ++ (r ++ s)))
      joined i j k l m n = rw (i, j, k, l, m, n)

      content : (b : Bool) (x : ℕ) → cond b (cond b x 0) x ≡ x
      content true x = refl
      content false x = refl

      crosswalk : (b : Bool) (x : ℕ) → number_or x (cond b (Some x) None) ≡ x
      crosswalk true x = refl
      crosswalk false x = refl

  way-new : (k : ℕ) → way true k ≡ new g k
  way-new k = let y : k + 1 ≡ suc k = omega arith in ap (λ z. ids_onto (take 64 z) (g (ids_at k w))) (drop-drop 1 k w ∙ ap (λ j. drop j w) y)

  tail-kept : kept 70 ++ (kept 135 ++ (kept 200 ++ kept 265)) ≡ drop 70 w
  tail-kept = rw (part-last 65 265 w l, part-front 65 200 265 w refl, part-front 65 135 200 w refl, part-front 65 70 135 w refl)

  pub rule-changes : rule_onto w (rule_lanes f g (rule_of w)) ≡ rule_changes f g w
  rule-changes = go (eqb (word 1 w) 3) refl
    where
      go : (b : Bool) → eqb (word 1 w) 3 ≡ b → rule_onto w (rule_lanes f g (rule_of w)) ≡ cond b (change_at g 265 (change_at g 200 (change_at f 5 w))) (change_at f 5 w)
      go true e =
          parts true e
          ∙ (ap (λ z. head ++ (new f 5 ++ (kept 70 ++ (kept 135 ++ (z ++ way true 265))))) (way-new 200)
          ∙ (ap (λ z. head ++ (new f 5 ++ (kept 70 ++ (kept 135 ++ (new g 200 ++ z))))) (way-new 265) ∙ sym (all_changed (eqb-true (word 1 w) 3 e))))
      go false e = parts false e ∙ (ap (λ z. head ++ (new f 5 ++ z)) tail-kept ∙ sym first-changed)

pub rule-forgets : (a : ℕ) (w : List ℕ) → length w ≡ 330 → rule_formed w ≡ true → rule_onto w (rule_lanes (without a) (without a) (rule_of w)) ≡ rule_forgets a w
rule-forgets a w l r = rule-changes (without a) (without a) w l r (rule_fits_lem w (l, r) (without a) (without a) (length_without a) (length_without a))

pub rule-replaces : (a b : ℕ) (w : List ℕ) → length w ≡ 330 → rule_formed w ≡ true → rule_onto w (rule_lanes (replace_lane a b) (replace_lane a b) (rule_of w)) ≡ rule_replaces a b w
unfolding rule_replaces
rule-replaces a b w l r =
    rule-changes (replace_lane a b) (replace_lane a b) w l r (rule_fits_lem w (l, r) (replace_lane a b) (replace_lane a b) (length-replace a b) (length-replace a b))
