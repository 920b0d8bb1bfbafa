-- What was read from a row, written there again, changes nothing. Assumes nothing.
use Rattle.std.specs.Prelude.{None, Some}
use mathlib.Core.Path.{◌≡◌, refl, sym, ap, ◌∙◌}
use Prim.Native.Nat.{ℕ, zero, suc, ◌+◌, ◌≤◌, ◌<◌}
use native.Mathlib.Nat.{add-zero}
use native.Mathlib.Omega.{arith}
use mathlib.Core.Bool.{Bool, true, false, not, cond, ◌&&◌, ◌||◌, true≢false}
use mathlib.Core.List.{List, [], ◌∷◌, ◌++◌, append-nil}
use lib.ListN.{length, get_or, take, drop, length-drop, take-append-drop, drop_of_length-le}
use lib.Seq.{drop-drop, length-take-le, drop-cons, take_all, take-take}
use lib.Dec.{eqb, leb}
use lib.Ieee.{Float}
use borrow.Author.Tests.{leb-true}
use Rattle.lists.specs.Rows.{over}
use Rattle.lists.proofs.Booleans.{and-fst, and-snd}
use Rattle.lists.proofs.Rows.{over-itself}
use Rattle.rules.specs.Sound.{has_content}
use Rattle.tables.specs.View.{word, ids_at, ids_where, lane_of, boundary_of, road_of, junction_of, rule_of}
use Rattle.tables.specs.Formed.{lane_formed, rule_formed}
use Rattle.store.specs.Store.{lane_onto, boundary_onto, road_onto, junction_onto, rule_onto, ids_onto, ids_or, number_or}
use Rattle.store.specs.Rows.{set_list}
use Rattle.store.proofs.Marks.{lane-marks}
use Rattle.store.proofs.LaneRow.{lane_row}

-- ---- a row in parts

-- n words from place k on
unfoldable pub words : ℕ → ℕ → List ℕ → List ℕ
words k zero w = []
words k (suc n) w = get_or w k 0 ∷ words (suc k) n w

pub words-front : (n k : ℕ) (w : List ℕ) → k + n ≤ length w → words k n w ++ drop (k + n) w ≡ drop k w
unfolding words
words-front zero k w h = rw add-zero
words-front (suc n) k w h =
    let i : k < length w = omega arith in
    let j : suc k + n ≤ length w = omega arith in
    let e : suc k + n ≡ k + suc n = omega arith in
    sym (drop-cons w k 0 i ∙ ap (λ z. get_or w k 0 ∷ z) (sym (words-front n (suc k) w j) ∙ rw e))

-- n words as they lie, and what follows
pub part-front : (n k m : ℕ) (w : List ℕ) → k + n ≡ m → take n (drop k w) ++ drop m w ≡ drop k w
part-front n k m w e = ap (λ z. take n (drop k w) ++ z) (ap (λ z. drop z w) (sym e) ∙ sym (drop-drop n k w)) ∙ take-append-drop n (drop k w)

-- the last n words
pub part-last : (n k : ℕ) (w : List ℕ) → length w ≡ k + n → take n (drop k w) ≡ drop k w
part-last n k w e = let h : length (drop k w) ≤ n = rw length-drop (omega arith) in take_all n (drop k w) h

-- ---- lists of ids

-- a list in m slots, written where it was read
module _ (m k : ℕ) (w : List ℕ) (few : word k w ≤ m) (room : suc k + m ≤ length w) where
  pub ids-length : length (ids_at k w) ≡ word k w
  ids-length = length-take-le (word k w) (drop (suc k) w) (rw length-drop (omega arith))

  pub ids-same : ids_onto (take m (drop (suc k) w)) (ids_at k w) ≡ take (suc m) (drop k w)
  ids-same =
      let i : k < length w = omega arith in
      let a : take (word k w) (take m (drop (suc k) w)) ≡ ids_at k w = take-take (word k w) m (drop (suc k) w) few in
      let l : length (take m (drop (suc k) w)) ≡ m = length-take-le m (drop (suc k) w) (rw length-drop (omega arith)) in
      let b : over (take m (drop (suc k) w)) 0 (ids_at k w) ≡ take m (drop (suc k) w) =
      ap (over (take m (drop (suc k) w)) 0) (sym a) ∙ over-itself (take m (drop (suc k) w)) (word k w) (rw l few) in
      let c : take (suc m) (drop k w) ≡ word k w ∷ take m (drop (suc k) w) = ap (take (suc m)) (drop-cons w k 0 i) in
      rw (ids-length, b) (sym c)

-- a list that the rule's kind may lack
pub or_same : (b : Bool) (k : ℕ) (w : List ℕ) → (b ≡ true → word k w ≤ 64) → k + 65 ≤ length w → ids_or b (drop k w) (ids_where b k w) ≡ take 65 (drop k w)
or_same false k w few room = refl
or_same true k w few room =
    let j : suc k + 64 ≤ length w = omega arith in
    let e : drop 1 (drop k w) ≡ drop (suc k) w = drop-drop 1 k w ∙ (let q : k + 1 ≡ suc k = omega arith in rw q) in
    ap (λ z. ids_onto (take 64 z) (ids_at k w)) e ∙ ids-same 64 k w (few refl) j

-- ---- the rows

pub boundary-same : (c : List Float) (w : List ℕ) → length w ≡ 5 → boundary_onto w (boundary_of c w) ≡ w
unfolding boundary_onto boundary_of words
boundary-same c w h =
    let k : length w ≤ 0 + 5 = omega arith in
    let e : drop (0 + 5) w ≡ [] = drop_of_length-le w k in
    let l : 0 + 5 ≤ length w = omega arith in
    sym (append-nil (words 0 5 w)) ∙ (ap (λ z. words 0 5 w ++ z) (sym e) ∙ words-front 5 0 w l)

pub road_same : (w : List ℕ) → length w ≡ 68 → word 3 w ≤ 64 → road_onto w (road_of w) ≡ w
unfolding road_onto road_of words
road_same w h few =
    ap (λ z. words 0 3 w ++ z) (ids-same 64 3 w few (omega arith) ∙ part-last 65 3 w h) ∙ words-front 3 0 w (omega arith)

pub junction_same : (w : List ℕ) → length w ≡ 69 → word 4 w ≤ 64 → junction_onto w (junction_of w) ≡ w
unfolding junction_onto junction_of words
junction_same w h few =
    ap (λ z. words 0 4 w ++ z) (ids-same 64 4 w few (omega arith) ∙ part-last 65 4 w h) ∙ words-front 4 0 w (omega arith)

-- a rule's counts, where its kind has the list
pub record RuleCounts (w : List ℕ) : Type 0 where
  pub lanes : word 5 w ≤ 64
  pub crosswalks : word 70 w ≤ 64
  pub stops : not (eqb (word 1 w) 5) ≡ true → word 135 w ≤ 64
  pub priority : eqb (word 1 w) 3 ≡ true → word 200 w ≤ 64
  pub yielding : eqb (word 1 w) 3 ≡ true → word 265 w ≤ 64

pub rule-counts : (w : List ℕ) → rule_formed w ≡ true → RuleCounts w
unfolding rule_formed
rule-counts w f =
    let own = leb (word 5 w) 64 && leb (word 70 w) 64 in
    let stops = eqb (word 1 w) 5 || leb (word 135 w) 64 in
    let ways = not (eqb (word 1 w) 3) || (leb (word 200 w) 64 && leb (word 265 w) 64) in
    let a = and-fst own stops (and-fst (own && stops) ways f) in
    let b = and-snd own stops (and-fst (own && stops) ways f) in
    let c = and-snd (own && stops) ways f in
    record {
      lanes = leb-true (word 5 w) 64 (and-fst (leb (word 5 w) 64) (leb (word 70 w) 64) a);
      crosswalks = leb-true (word 70 w) 64 (and-snd (leb (word 5 w) 64) (leb (word 70 w) 64) a);
      stops = λ e. leb-true (word 135 w) 64 (stop-count (eqb (word 1 w) 5) (leb (word 135 w) 64) b e);
      priority = λ e. leb-true (word 200 w) 64 (and-fst (leb (word 200 w) 64) (leb (word 265 w) 64) (way-count (eqb (word 1 w) 3) (leb (word 200 w) 64 && leb (word 265 w) 64) c e));
      yielding = λ e. leb-true (word 265 w) 64 (and-snd (leb (word 200 w) 64) (leb (word 265 w) 64) (way-count (eqb (word 1 w) 3) (leb (word 200 w) 64 && leb (word 265 w) 64) c e));
    }
  where
    stop-count : (x y : Bool) → (x || y) ≡ true → not x ≡ true → y ≡ true
    stop-count true y h e = absurd (true≢false (sym e))
    stop-count false y h e = h

    way-count : (x y : Bool) → (not x || y) ≡ true → x ≡ true → y ≡ true
    way-count true y h e = h
    way-count false y h e = absurd (true≢false (sym e))

pub rule-same : (w : List ℕ) → length w ≡ 330 → rule_formed w ≡ true → rule_onto w (rule_of w) ≡ w
unfolding rule_onto rule_of words
rule-same w h f =
    let n = rule-counts w f in
    let a = ids-same 64 5 w n.lanes (omega arith) in
    let b = ids-same 64 70 w n.crosswalks (omega arith) in
    let c = or_same (not (eqb (word 1 w) 5)) 135 w n.stops (omega arith) in
    let d = or_same (eqb (word 1 w) 3) 200 w n.priority (omega arith) in
    let e = or_same (eqb (word 1 w) 3) 265 w n.yielding (omega arith) in
    let x = content (has_content (word 1 w)) (word 2 w) in
    let y = crosswalk (eqb (word 1 w) 4) (word 4 w) in
    joined x y a b c d (e ∙ part-last 65 265 w h)
    ∙ (ap (λ z. words 0 5 w ++ z) (rw (part-front 65 200 265 w refl, part-front 65 135 200 w refl, part-front 65 70 135 w refl, part-front 65 5 70 w refl)) ∙ words-front 5 0 w (omega arith))
  where
    joined : {x y u v : ℕ} {a b c d e p q r s t : List ℕ} → x ≡ u → y ≡ v → a ≡ p → b ≡ q → c ≡ r → d ≡ s → e ≡ t
        → word 0 w ∷ word 1 w ∷ x ∷ word 3 w ∷ y ∷ a ++ (b ++ (c ++ (d ++ e))) ≡ word 0 w ∷ word 1 w ∷ u ∷ word 3 w ∷ v ∷ p ++ (q ++ (r ++ (s ++ t)))
    joined i j k l m n o = rw (i, j, k, l, m, n, o)

    content : (b : Bool) (x : ℕ) → cond b (cond b x 0) x ≡ x
    content true x = refl
    content false x = refl

    crosswalk : (b : Bool) (x : ℕ) → number_or x (cond b (Some x) None) ≡ x
    crosswalk true x = refl
    crosswalk false x = refl

pub lane-same : (c : List Float) (w : List ℕ) → length w ≡ 52 → lane_formed w ≡ true → lane_onto w (lane_of c w) ≡ w
unfolding lane_of
lane-same c w h f =
    let m = lane-marks w f in
    let r = lane_row w h in
    let a : length (ids_at 18 w) ≤ 16 = omega (arith, ids-length 16 18 w m.before (omega arith), m.before) in
    let b : length (ids_at 35 w) ≤ 16 = omega (arith, ids-length 16 35 w m.after (omega arith), m.after) in
    r.linked-row m c (ids_at 18 w) (ids_at 35 w) a b ∙ (ap (set_list 18 (ids_at 18 w)) (r.own-after m) ∙ r.own-before m)
