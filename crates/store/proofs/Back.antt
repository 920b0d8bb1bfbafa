-- Reading back what was written: rows, and whole maps. Assumes nothing.
use Rattle.std.specs.Prelude.{Option, None, Some}
use mathlib.Core.Path.{◌≡◌, refl, sym, ap, ◌∙◌}
use Prim.Native.Nat.{ℕ, zero, suc, ◌+◌, ◌*◌, ◌≤◌}
use native.Mathlib.Omega.{arith}
use mathlib.Core.Bool.{Bool, true, false, not, cond, ◌&&◌, ◌||◌, true≢false}
use mathlib.Core.List.{List, [], ◌∷◌, ◌++◌, map, append_assoc, append-nil}
use lib.ListN.{length, get_or, take, drop, length-append, length-drop, length-take}
use lib.Seq.{get_or-drop, drop-drop, length-take-le, take_at, drop_at}
use lib.Dec.{eqb, leb}
use lib.Ieee.{Float}
use borrow.Author.Tests.{eqb-true, le-leb}
use Rattle.lists.specs.Every.{all}
use Rattle.lists.specs.Rows.{reads, over}
use Rattle.lists.specs.Select.{keep, each, has}
use Rattle.lists.proofs.Booleans.{and-fst, and-snd, and_both}
use Rattle.lists.proofs.Rows.{length_over}
use Rattle.entities.specs.declared.BoundaryRef.{BoundaryRef}
use Rattle.entities.specs.declared.Neighbor.{Neighbor}
use Rattle.entities.specs.declared.NeighborDirection.{NeighborDirection}
use Rattle.entities.specs.declared.NeighborDirection.TheVariants.{Same, Opposite}
use Rattle.entities.specs.Types.{same, opposing}
use Rattle.entities.specs.Records.{Line, Lane, Boundary, Road, Junction, Rule, StopLine, Crosswalk, Map}
use Rattle.rules.specs.Sound.{has_content, stop_lines_fit, given, rule_legal}
use Rattle.tables.specs.View.{Tables, word, ids_at, ids_where, line_at, option_line_at, rows, view, lane_of, boundary_of, road_of, junction_of, rule_of}
use Rattle.tables.specs.Formed.{lane_formed, rule_formed}
use Rattle.store.proofs.Rows.{passing}
use Rattle.store.proofs.Marks.{marks-formed}
use Rattle.store.specs.Store.{flag, present, number_or, direction_mark, slot_mark, slot_lane, ids_onto, ids_or, lane_onto, boundary_onto, road_onto, junction_onto, rule_onto, writes, packed, store_rows, store}

-- ---- a list of ids, read behind what lies in front of it

-- at the front of a part
over-front : (p ids rest : List ℕ) → take (length ids) (over p 0 ids ++ rest) ≡ ids
unfolding over
over-front p ids rest =
    let d = drop (0 + length ids) p in
    ap (take (length ids)) (append_assoc ids d rest) ∙ take_at ids (d ++ rest) (length ids) refl

pub onto-length : (p ids : List ℕ) (m : ℕ) → length p ≡ m → length ids ≤ m → length (ids_onto p ids) ≡ suc m
onto-length p ids m e h =
    let i : 0 + length ids ≤ length p = omega arith in
    ap suc (length_over p 0 ids i ∙ e)

-- a count at place k, and what follows
ids-from : (k : ℕ) (w : List ℕ) (n : ℕ) (v : List ℕ) → drop k w ≡ n ∷ v → ids_at k w ≡ take n v
ids-from k w n v e =
    let z : k + 0 ≡ k = omega arith in
    let s : k + 1 ≡ suc k = omega arith in
    let a : get_or w k 0 ≡ n = ap (λ i. get_or w i 0) (sym z) ∙ (sym (get_or-drop k w 0 0) ∙ ap (λ x. get_or x 0 0) e) in
    let b : drop (suc k) w ≡ v = ap (λ i. drop i w) (sym s) ∙ (sym (drop-drop 1 k w) ∙ ap (drop 1) e) in
    rw (a, b)

pub ids-back : (k : ℕ) (w p ids rest : List ℕ) → drop k w ≡ ids_onto p ids ++ rest → ids_at k w ≡ ids
ids-back k w p ids rest e = ids-from k w (length ids) (over p 0 ids ++ rest) e ∙ over-front p ids rest

-- what lies behind a part of known length
behind : (k n m : ℕ) (w a b : List ℕ) → k + n ≡ m → length a ≡ n → drop k w ≡ a ++ b → drop m w ≡ b
behind k n m w a b q l e = ap (λ z. drop z w) (sym q) ∙ (sym (drop-drop n k w) ∙ (ap (drop n) e ∙ drop_at a b n l))

-- a list that the rule's kind may lack
or-length : (b : Bool) (w ids : List ℕ) → 65 ≤ length w → length ids ≤ 64 → length (ids_or b w ids) ≡ 65
or-length true w ids l h = onto-length (take 64 (drop 1 w)) ids 64 (length-take-le 64 (drop 1 w) (rw length-drop (omega arith))) h
or-length false w ids l h = length-take-le 65 w l

where_back : (b : Bool) (k : ℕ) (w v ids rest : List ℕ) → (b ≡ false → ids ≡ []) → drop k w ≡ ids_or b v ids ++ rest → ids_where b k w ≡ ids
where_back true k w v ids rest n e = ids-back k w (take 64 (drop 1 v)) ids rest e
where_back false k w v ids rest n e = sym (n refl)

-- the count of a list that was written
onto-count : (k : ℕ) (w p ids rest : List ℕ) → drop k w ≡ ids_onto p ids ++ rest → length ids ≤ 64 → leb (word k w) 64 ≡ true
onto-count k w p ids rest e h =
    let z : k + 0 ≡ k = omega arith in
    let a : get_or w k 0 ≡ length ids = ap (λ i. get_or w i 0) (sym z) ∙ (sym (get_or-drop k w 0 0) ∙ ap (λ x. get_or x 0 0) e) in
    le-leb (word k w) 64 (omega (arith, a, h))

-- the counts of lists that the kind may lack, of one and of two
or-one : (b : Bool) (k : ℕ) (w v ids rest : List ℕ) → drop k w ≡ ids_or (not b) v ids ++ rest → length ids ≤ 64 → (b || leb (word k w) 64) ≡ true
or-one true k w v ids rest e h = refl
or-one false k w v ids rest e h = onto-count k w (take 64 (drop 1 v)) ids rest e h

or-two : (b : Bool) (j k : ℕ) (w u v is ks rest more : List ℕ) → drop j w ≡ ids_or b u is ++ rest → drop k w ≡ ids_or b v ks ++ more
    → length is ≤ 64 → length ks ≤ 64 → (not b || (leb (word j w) 64 && leb (word k w) 64)) ≡ true
or-two true j k w u v is ks rest more d e g h = and_both (leb (word j w) 64) (leb (word k w) 64) (onto-count j w (take 64 (drop 1 u)) is rest d g) (onto-count k w (take 64 (drop 1 v)) ks more e h)
or-two false j k w u v is ks rest more d e g h = refl

none_left : (ids : List ℕ) → eqb (length ids) 0 ≡ true → ids ≡ []
none_left [] h = refl
none_left (x ∷ ids) h = absurd (apart (length ids) (eqb-true (suc (length ids)) 0 h))
  where
    apart : (n : ℕ) → suc n ≡ 0 → ⊥
    apart n e = omega arith

-- ---- single words

flag-back : (b : Bool) → not (eqb (flag b) 0) ≡ b
flag-back true = refl
flag-back false = refl

ref_back : (r : BoundaryRef) → record { boundary = r.boundary; reversed = not (eqb (flag r.reversed) 0) } ≡ r
ref_back r = ap (λ z. record { boundary = r.boundary; reversed = z }) (flag-back r.reversed)

number-back : (old : ℕ) (o : Option ℕ) → cond (not (eqb (present o) 0)) (Some (number_or old o)) None ≡ o
number-back old None = refl
number-back old (Some n) = refl

slot-back : (old : ℕ) (o : Option Neighbor) → cond (eqb (slot_mark o) 0) None (cond (eqb (slot_mark o) 1) (Some (same (slot_lane old o))) (Some (opposing (slot_lane old o)))) ≡ o
slot-back old None = refl
slot-back old (Some n) = go n.lane n.direction
  where
    go : (l : ℕ) (d : NeighborDirection)
        → (let o : Option Neighbor = Some (record { lane = l; direction = d }) in cond (eqb (slot_mark o) 0) None (cond (eqb (slot_mark o) 1) (Some (same (slot_lane old o))) (Some (opposing (slot_lane old o)))) ≡ o)
    go l Same = refl
    go l Opposite = refl

-- ---- rows

lane-fields : (i k u a : ℕ) {l m r s : BoundaryRef} {c d : Option Line} {v x : Option ℕ} {o p : Bool} {ln lm rn rm : Option Neighbor} {ps qs ss ts : List ℕ}
    → l ≡ m → r ≡ s → c ≡ d → v ≡ x → o ≡ p → ln ≡ lm → rn ≡ rm → ps ≡ qs → ss ≡ ts
    → ◌≡◌ {A = Lane} (record { id = i; kind = k; left = l; right = r; centerline = c; speed_limit = v; one_way = o; turn_direction = u; attributes = a; left_neighbor = ln; right_neighbor = rn; predecessors = ps; successors = ss })
    (record { id = i; kind = k; left = m; right = s; centerline = d; speed_limit = x; one_way = p; turn_direction = u; attributes = a; left_neighbor = lm; right_neighbor = rm; predecessors = qs; successors = ts })
lane-fields i k u a e1 e2 e3 e4 e5 e6 e7 e8 e9 = rw (e1, e2, e3, e4, e5, e6, e7, e8, e9)

pub lane-back : (c : List Float) (w : List ℕ) → length w ≡ 52 → (l : Lane) → length l.predecessors ≤ 16 → length l.successors ≤ 16
    → option_line_at c 6 (lane_onto w l) ≡ l.centerline → lane_of c (lane_onto w l) ≡ l
unfolding lane_onto lane_of
lane-back c w h l few many e =
    let ps = l.predecessors in
    let ss = l.successors in
    let p = take 16 (drop 19 w) in
    let s = take 16 (drop 36 w) in
    let row = lane_onto w l in
    let lp : length p ≡ 16 = length-take-le 16 (drop 19 w) (rw (length-drop, h) (omega arith)) in
    let a : drop 18 row ≡ ids_onto p ps ++ ids_onto s ss = refl in
    let b : drop 35 row ≡ ids_onto s ss = behind 18 17 35 row (ids_onto p ps) (ids_onto s ss) refl (onto-length p ps 16 lp few) a in
    lane-fields l.id l.kind l.turn_direction l.attributes (ref_back l.left) (ref_back l.right) e (number-back (word 10 w) l.speed_limit) (flag-back l.one_way)
    (slot-back (word 15 w) l.left_neighbor) (slot-back (word 17 w) l.right_neighbor) (ids-back 18 row p ps (ids_onto s ss) a) (ids-back 35 row s ss [] (b ∙ sym (append-nil (ids_onto s ss))))

pub lane-length : (w : List ℕ) → length w ≡ 52 → (l : Lane) → length l.predecessors ≤ 16 → length l.successors ≤ 16 → length (lane_onto w l) ≡ 52
unfolding lane_onto
lane-length w h l few many =
    let p = take 16 (drop 19 w) in
    let s = take 16 (drop 36 w) in
    let lp : length p ≡ 16 = length-take-le 16 (drop 19 w) (rw (length-drop, h) (omega arith)) in
    let ls : length s ≡ 16 = length-take-le 16 (drop 36 w) (rw (length-drop, h) (omega arith)) in
    let a = onto-length p l.predecessors 16 lp few in
    let b = onto-length s l.successors 16 ls many in
    let q = length-append (ids_onto p l.predecessors) (ids_onto s l.successors) in
    omega (arith, q, a, b)

-- the marks and counts of a row that was written
pub lane-formed : (w : List ℕ) → length w ≡ 52 → (l : Lane) → length l.predecessors ≤ 16 → length l.successors ≤ 16 → lane_formed (lane_onto w l) ≡ true
unfolding lane_onto
lane-formed w h l few many =
    let p = take 16 (drop 19 w) in
    let s = take 16 (drop 36 w) in
    let row = lane_onto w l in
    let lp : length p ≡ 16 = length-take-le 16 (drop 19 w) (rw (length-drop, h) (omega arith)) in
    let b : drop 35 row ≡ ids_onto s l.successors =
    behind 18 17 35 row (ids_onto p l.predecessors) (ids_onto s l.successors) refl (onto-length p l.predecessors 16 lp few) refl in
    let k : word 35 row ≡ length l.successors = sym (get_or-drop 35 row 0 0) ∙ ap (λ z. get_or z 0 0) b in
    marks-formed row
    (record {
      left-way = flag_small l.left.reversed;
      right-way = flag_small l.right.reversed;
      center = present-small l.centerline;
      speed = present-small l.speed_limit;
      one_way = flag_small l.one_way;
      left = slot_small l.left_neighbor;
      right = slot_small l.right_neighbor;
      before = few;
      after = omega (arith, k, many);
    })
  where
    flag_small : (b : Bool) → flag b ≤ 1
    flag_small true = omega arith
    flag_small false = omega arith

    present-small : {A : Type 0} (o : Option A) → present o ≤ 1
    present-small None = omega arith
    present-small (Some x) = omega arith

    way-small : (d : NeighborDirection) → direction_mark d ≤ 2
    way-small Same = omega arith
    way-small Opposite = omega arith

    slot_small : (o : Option Neighbor) → slot_mark o ≤ 2
    slot_small None = omega arith
    slot_small (Some n) = way-small n.direction

pub boundary-back : (c : List Float) (w : List ℕ) (b : Boundary) → line_at c 2 w ≡ b.geometry → boundary_of c (boundary_onto w b) ≡ b
unfolding boundary_onto boundary_of
boundary-back c w b e = ap (λ z. record { id = b.id; kind = b.kind; geometry = z; attributes = b.attributes }) e

pub boundary-length : (w : List ℕ) (b : Boundary) → length (boundary_onto w b) ≡ 5
unfolding boundary_onto
boundary-length w b = refl

pub road_back : (w : List ℕ) (r : Road) → road_of (road_onto w r) ≡ r
unfolding road_onto road_of
road_back w r =
    let p = take 64 (drop 4 w) in
    let a : ids_at 3 (road_onto w r) ≡ r.lanes = ids-back 3 (road_onto w r) p r.lanes [] (sym (append-nil (ids_onto p r.lanes))) in
    ap (λ z. record { id = r.id; name = r.name; attributes = r.attributes; lanes = z }) a

pub road_length : (w : List ℕ) → length w ≡ 68 → (r : Road) → length r.lanes ≤ 64 → length (road_onto w r) ≡ 68
unfolding road_onto
road_length w h r few =
    let p = take 64 (drop 4 w) in
    let lp : length p ≡ 64 = length-take-le 64 (drop 4 w) (rw (length-drop, h) (omega arith)) in
    let a = onto-length p r.lanes 64 lp few in
    omega (arith, a)

pub junction_back : (w : List ℕ) (j : Junction) → junction_of (junction_onto w j) ≡ j
unfolding junction_onto junction_of
junction_back w j =
    let p = take 64 (drop 5 w) in
    let a : ids_at 4 (junction_onto w j) ≡ j.lanes = ids-back 4 (junction_onto w j) p j.lanes [] (sym (append-nil (ids_onto p j.lanes))) in
    ap (λ z. record { id = j.id; name = j.name; outline = j.outline; attributes = j.attributes; lanes = z }) a

pub junction_length : (w : List ℕ) → length w ≡ 69 → (j : Junction) → length j.lanes ≤ 64 → length (junction_onto w j) ≡ 69
unfolding junction_onto
junction_length w h j few =
    let p = take 64 (drop 5 w) in
    let lp : length p ≡ 64 = length-take-le 64 (drop 5 w) (rw (length-drop, h) (omega arith)) in
    let a = onto-length p j.lanes 64 lp few in
    omega (arith, a)

-- the counts of rows that were written
pub road_formed : (w : List ℕ) (r : Road) → length r.lanes ≤ 64 → leb (word 3 (road_onto w r)) 64 ≡ true
unfolding road_onto
road_formed w r few = le-leb (length r.lanes) 64 few

pub junction_formed : (w : List ℕ) (j : Junction) → length j.lanes ≤ 64 → leb (word 4 (junction_onto w j)) 64 ≡ true
unfolding junction_onto
junction_formed w j few = le-leb (length j.lanes) 64 few

-- five lists of at most 64 ids
pub record RuleFew (r : Rule) : Type 0 where
  pub lanes : length r.lanes ≤ 64
  pub crosswalks : length r.controlled_crosswalks ≤ 64
  pub stops : length r.stop_lines ≤ 64
  pub priority : length r.priority ≤ 64
  pub yielding : length r.yielding ≤ 64

-- what a legal rule lacks by its kind
record Lacks (r : Rule) : Type 0 where
  content : cond (has_content r.kind) r.content 0 ≡ r.content
  stops : not (eqb r.kind 5) ≡ false → r.stop_lines ≡ []
  priority : eqb r.kind 3 ≡ false → r.priority ≡ []
  yielding : eqb r.kind 3 ≡ false → r.yielding ≡ []
  crosswalk : (old : ℕ) → cond (eqb r.kind 4) (Some (number_or old r.crosswalk)) None ≡ r.crosswalk

lacks : (r : Rule) → rule_legal r ≡ true → Lacks r
lacks r h =
    let a = leb r.kind 5 in
    let b = has_content r.kind || eqb r.content 0 in
    let c = stop_lines_fit r.kind (length r.stop_lines) in
    let d = eqb r.kind 3 || (eqb (length r.priority) 0 && eqb (length r.yielding) 0) in
    let e = cond (eqb r.kind 4) (given r.crosswalk) (not (given r.crosswalk)) in
    let h4 = and-fst (a && b && c && d) e h in
    let h3 = and-fst (a && b && c) d h4 in
    let h2 = and-fst (a && b) c h3 in
    record {
      content = contents (has_content r.kind) r.content (and-snd a b h2);
      stops = λ n. none_left r.stop_lines (fifth r.kind (length r.stop_lines) (eqb-true r.kind 5 (undone (eqb r.kind 5) n)) (and-snd (a && b) c h3));
      priority = λ n. none_left r.priority (and-fst (eqb (length r.priority) 0) (eqb (length r.yielding) 0) (other (eqb r.kind 3) (eqb (length r.priority) 0 && eqb (length r.yielding) 0) n (and-snd (a && b && c) d h4)));
      yielding = λ n. none_left r.yielding (and-snd (eqb (length r.priority) 0) (eqb (length r.yielding) 0) (other (eqb r.kind 3) (eqb (length r.priority) 0 && eqb (length r.yielding) 0) n (and-snd (a && b && c) d h4)));
      crosswalk = λ old. walk old (eqb r.kind 4) r.crosswalk (and-snd (a && b && c && d) e h);
    }
  where
    contents : (b : Bool) (x : ℕ) → (b || eqb x 0) ≡ true → cond b x 0 ≡ x
    contents true x h = refl
    contents false x h = sym (eqb-true x 0 h)

    undone : (b : Bool) → not b ≡ false → b ≡ true
    undone true h = refl
    undone false h = absurd (true≢false h)

    fifth : (k n : ℕ) → k ≡ 5 → stop_lines_fit k n ≡ true → eqb n 0 ≡ true
    fifth k n e h = rw e at h

    other : (b x : Bool) → b ≡ false → (b || x) ≡ true → x ≡ true
    other true x n h = absurd (true≢false n)
    other false x n h = h

    walk : (old : ℕ) (b : Bool) (o : Option ℕ) → cond b (given o) (not (given o)) ≡ true → cond b (Some (number_or old o)) None ≡ o
    walk old true None h = absurd (true≢false (sym h))
    walk old true (Some n) h = refl
    walk old false None h = refl
    walk old false (Some n) h = absurd (true≢false (sym h))

rule-fields : (i k a : ℕ) {x y : ℕ} {o p : Option ℕ} {l m c d s t q r u v : List ℕ} → x ≡ y → o ≡ p → l ≡ m → c ≡ d → s ≡ t → q ≡ r → u ≡ v
    → ◌≡◌ {A = Rule} (record { id = i; kind = k; content = x; attributes = a; crosswalk = o; lanes = l; controlled_crosswalks = c; stop_lines = s; priority = q; yielding = u })
    (record { id = i; kind = k; content = y; attributes = a; crosswalk = p; lanes = m; controlled_crosswalks = d; stop_lines = t; priority = r; yielding = v })
rule-fields i k a e1 e2 e3 e4 e5 e6 e7 = rw (e1, e2, e3, e4, e5, e6, e7)

module _ (w : List ℕ) (h : length w ≡ 330) (r : Rule) (n : RuleFew r) where
  abbrev p1 : List ℕ
  p1 = take 64 (drop 6 w)

  abbrev p2 : List ℕ
  p2 = take 64 (drop 71 w)

  abbrev part1 : List ℕ
  part1 = ids_onto p1 r.lanes

  abbrev part2 : List ℕ
  part2 = ids_onto p2 r.controlled_crosswalks

  abbrev part3 : List ℕ
  part3 = ids_or (not (eqb r.kind 5)) (drop 135 w) r.stop_lines

  abbrev part4 : List ℕ
  part4 = ids_or (eqb r.kind 3) (drop 200 w) r.priority

  abbrev part5 : List ℕ
  part5 = ids_or (eqb r.kind 3) (drop 265 w) r.yielding

  len1 : length part1 ≡ 65
  len1 = onto-length p1 r.lanes 64 (length-take-le 64 (drop 6 w) (rw (length-drop, h) (omega arith))) n.lanes

  len2 : length part2 ≡ 65
  len2 = onto-length p2 r.controlled_crosswalks 64 (length-take-le 64 (drop 71 w) (rw (length-drop, h) (omega arith))) n.crosswalks

  len3 : length part3 ≡ 65
  len3 = or-length (not (eqb r.kind 5)) (drop 135 w) r.stop_lines (rw (length-drop, h) (omega arith)) n.stops

  len4 : length part4 ≡ 65
  len4 = or-length (eqb r.kind 3) (drop 200 w) r.priority (rw (length-drop, h) (omega arith)) n.priority

  len5 : length part5 ≡ 65
  len5 = or-length (eqb r.kind 3) (drop 265 w) r.yielding (rw (length-drop, h) (omega arith)) n.yielding

  from1 : drop 5 (rule_onto w r) ≡ part1 ++ (part2 ++ (part3 ++ (part4 ++ part5)))
  unfolding rule_onto
  from1 = refl

  from2 : drop 70 (rule_onto w r) ≡ part2 ++ (part3 ++ (part4 ++ part5))
  from2 = behind 5 65 70 (rule_onto w r) part1 (part2 ++ (part3 ++ (part4 ++ part5))) refl len1 from1

  from3 : drop 135 (rule_onto w r) ≡ part3 ++ (part4 ++ part5)
  from3 = behind 70 65 135 (rule_onto w r) part2 (part3 ++ (part4 ++ part5)) refl len2 from2

  from4 : drop 200 (rule_onto w r) ≡ part4 ++ part5
  from4 = behind 135 65 200 (rule_onto w r) part3 (part4 ++ part5) refl len3 from3

  from5 : drop 265 (rule_onto w r) ≡ part5
  from5 = behind 200 65 265 (rule_onto w r) part4 part5 refl len4 from4

  pub rule-back : rule_legal r ≡ true → rule_of (rule_onto w r) ≡ r
  unfolding rule_of rule_onto
  rule-back legal =
      let k = lacks r legal in
      let a = ids-back 5 (rule_onto w r) p1 r.lanes (part2 ++ (part3 ++ (part4 ++ part5))) from1 in
      let b = ids-back 70 (rule_onto w r) p2 r.controlled_crosswalks (part3 ++ (part4 ++ part5)) from2 in
      let c = where_back (not (eqb r.kind 5)) 135 (rule_onto w r) (drop 135 w) r.stop_lines (part4 ++ part5) k.stops from3 in
      let d = where_back (eqb r.kind 3) 200 (rule_onto w r) (drop 200 w) r.priority part5 k.priority from4 in
      let e = where_back (eqb r.kind 3) 265 (rule_onto w r) (drop 265 w) r.yielding [] k.yielding (from5 ∙ sym (append-nil part5)) in
      rule-fields r.id r.kind r.attributes (twice (has_content r.kind) r.content (word 2 w) ∙ k.content) (k.crosswalk (word 4 w)) a b c d e
    where
      twice : (b : Bool) (x y : ℕ) → cond b (cond b x y) 0 ≡ cond b x 0
      twice true x y = refl
      twice false x y = refl

  pub rule-length : length (rule_onto w r) ≡ 330
  unfolding rule_onto
  rule-length =
      let a = length-append part1 (part2 ++ (part3 ++ (part4 ++ part5))) in
      let b = length-append part2 (part3 ++ (part4 ++ part5)) in
      let c = length-append part3 (part4 ++ part5) in
      let d = length-append part4 part5 in
      omega (arith, a, b, c, d, len1, len2, len3, len4, len5)

  -- the counts of a row that was written
  pub rule-formed : rule_formed (rule_onto w r) ≡ true
  unfolding rule_formed rule_onto
  rule-formed =
      let row = rule_onto w r in
      rw (
        le-leb (length r.lanes) 64 n.lanes,
        onto-count 70 row p2 r.controlled_crosswalks (part3 ++ (part4 ++ part5)) from2 n.crosswalks,
        or-one (eqb r.kind 5) 135 row (drop 135 w) r.stop_lines (part4 ++ part5) from3 n.stops,
        or-two (eqb r.kind 3) 200 265 row (drop 200 w) (drop 265 w) r.priority r.yielding part5 [] from4 (from5 ∙ sym (append-nil part5)) n.priority n.yielding,
      )

-- ---- tables

-- each record fits the row of s words that it is written over, in the order in which `writes` goes
unfoldable pub RowsFit : {R : Type 0} → ℕ → (List ℕ → R → Type 0) → List ℕ → List R → Type 0
RowsFit s ok w [] = s ≡ s
RowsFit s ok w (r ∷ rs) = ok (take s w) r × RowsFit s ok (drop s w) rs

-- records read from rows that pass, each changed, and records behind others
module _ {R : Type 0} (s : ℕ) (ok : List ℕ → R → Type 0) where
  pub rows_fit : (dec : List ℕ → R) (f : R → R) (good : List ℕ → Bool) → ((r : List ℕ) → length r ≡ s → good r ≡ true → ok r (f (dec r)))
      → (n : ℕ) (w : List ℕ) → n * s ≤ length w → passing s good n w → RowsFit s ok w (map f (reads s dec n w))
  unfolding RowsFit reads all
  rows_fit dec f good h zero w l a = refl
  rows_fit dec f good h (suc n) w l a =
      let i : s ≤ length w = omega arith in
      let j : n * s ≤ length (drop s w) = rw length-drop (omega arith) in
      let b = all (λ b. b) (reads s good n (drop s w)) in
      (h (take s w) (length-take-le s w i) (and-fst (good (take s w)) b a), rows_fit dec f good h n (drop s w) j (and-snd (good (take s w)) b a))

  pub rows-fit-append : (w : List ℕ) (rs qs : List R) → RowsFit s ok w rs → RowsFit s ok (drop (length rs * s) w) qs → RowsFit s ok w (rs ++ qs)
  unfolding RowsFit
  rows-fit-append w [] qs f g = let z : 0 * s ≡ 0 = omega arith in rw z at g
  rows-fit-append w (r ∷ rs) qs f g =
      let e : suc (length rs) * s ≡ s + length rs * s = omega arith in
      (f.0, rows-fit-append (drop s w) rs qs f.1 (rw drop-drop (rw e at g)))

-- kept rows have no more words than all
kept-length : (s : ℕ) (p : List ℕ → Bool) (n : ℕ) (w : List ℕ) → length (each (λ r. r) (keep p (reads s (λ r. r) n w))) ≤ n * s
unfolding each keep reads
kept-length s p zero w = omega arith
kept-length s p (suc n) w = go (p (take s w)) (kept-length s p n (drop s w))
  where
    rest : List (List ℕ)
    rest = keep p (reads s (λ r. r) n (drop s w))

    go : (b : Bool) → length (each (λ r. r) rest) ≤ n * s → length (each (λ r. r) (cond b (take s w ∷ rest) rest)) ≤ suc n * s
    go true i =
        let a = length-append (take s w) (each (λ r. r) rest) in
        let b = length-take s w in
        omega arith
    go false i = omega arith

pub packed-length : (s : ℕ) (ids : List ℕ) (n : ℕ) (w : List ℕ) → n * s ≤ length w → length (packed s ids n w) ≡ length w
unfolding packed
packed-length s ids n w h =
    let k = kept-length s (λ r. has (get_or r 0 0) ids) n w in
    length_over w 0 (each (λ r. r) (keep (λ r. has (get_or r 0 0) ids) (reads s (λ r. r) n w))) (omega arith)

module _ {R : Type 0} (s : ℕ) (onto : List ℕ → R → List ℕ) (dec : List ℕ → R) (ok : List ℕ → R → Type 0)
    (back : (w : List ℕ) → length w ≡ s → (r : R) → ok w r → (length (onto w r) ≡ s) × (dec (onto w r) ≡ r)) where
  writes-back : (w : List ℕ) (rs : List R) → length rs * s ≤ length w → RowsFit s ok w rs → reads s dec (length rs) (writes s onto w rs) ≡ rs
  unfolding writes reads RowsFit
  writes-back w [] l f = refl
  writes-back w (r ∷ rs) l f =
      let i : s ≤ length w = omega arith in
      let j : length rs * s ≤ length (drop s w) = rw length-drop (omega arith) in
      let b = back (take s w) (length-take-le s w i) r f.0 in
      let rest = writes s onto (drop s w) rs in
      rw (take_at (onto (take s w) r) rest s b.0, drop_at (onto (take s w) r) rest s b.0, b.1, writes-back (drop s w) rs j f.1)

  -- records written into a table are read from it
  pub rows_back : (key : R → ℕ) (t : List ℕ) (rs : List R) → word 0 t * s ≤ length (drop 1 t) → length rs * s ≤ length (drop 1 t)
      → RowsFit s ok (packed s (map key rs) (word 0 t) (drop 1 t)) rs → rows s dec (store_rows s onto key t rs) ≡ rs
  unfolding rows store_rows
  rows_back key t rs held room f =
      let w = packed s (map key rs) (word 0 t) (drop 1 t) in
      let l : length rs * s ≤ length w = rw (packed-length s (map key rs) (word 0 t) (drop 1 t) held) room in
      writes-back w rs l f

-- ---- what a map must keep to, to be read back

-- the table holds the rows it counts, and the new ones, each of which fits the row that it is written over
pub record TableFits (R : Type 0) (s : ℕ) (key : R → ℕ) (ok : List ℕ → R → Type 0) (t : List ℕ) (rs : List R) : Type 0 where
  pub held : word 0 t * s ≤ length (drop 1 t)
  pub room : length rs * s ≤ length (drop 1 t)
  pub rows : RowsFit s ok (packed s (map key rs) (word 0 t) (drop 1 t)) rs

abbrev pub LaneFits : List Float → List ℕ → Lane → Type 0
LaneFits c w l = (length l.predecessors ≤ 16) × (length l.successors ≤ 16) × (option_line_at c 6 (lane_onto w l) ≡ l.centerline)

abbrev pub BoundaryFits : List Float → List ℕ → Boundary → Type 0
BoundaryFits c w b = line_at c 2 w ≡ b.geometry

abbrev pub RuleFits : List ℕ → Rule → Type 0
RuleFits w r = RuleFew r × (rule_legal r ≡ true)

pub record Fits (t : Tables) (m : Map) : Type 0 where
  pub lanes : TableFits Lane 52 (λ l. l.id) (LaneFits t.coordinates) t.lanes m.lanes
  pub boundaries : TableFits Boundary 5 (λ b. b.id) (BoundaryFits t.coordinates) t.boundaries m.boundaries
  pub roads : TableFits Road 68 (λ r. r.id) (λ w r. length r.lanes ≤ 64) t.roads m.roads
  pub junctions : TableFits Junction 69 (λ j. j.id) (λ w j. length j.lanes ≤ 64) t.junctions m.junctions
  pub rules : TableFits Rule 330 (λ r. r.id) RuleFits t.rules m.rules
  pub stop_lines : m.stop_lines ≡ (view t).stop_lines
  pub crosswalks : m.crosswalks ≡ (view t).crosswalks

table-back : {R : Type 0} (s : ℕ) (onto : List ℕ → R → List ℕ) (dec : List ℕ → R) (ok : List ℕ → R → Type 0)
    → ((w : List ℕ) → length w ≡ s → (r : R) → ok w r → (length (onto w r) ≡ s) × (dec (onto w r) ≡ r))
    → (key : R → ℕ) (t : List ℕ) (rs : List R) → TableFits R s key ok t rs → rows s dec (store_rows s onto key t rs) ≡ rs
table-back s onto dec ok back key t rs f = rows_back s onto dec ok back key t rs f.held f.room f.rows

pub map-fields : {l k : List Lane} {b d : List Boundary} {r s : List Road} {j i : List Junction} {u v : List Rule} {x y : List StopLine} {p q : List Crosswalk}
    → l ≡ k → b ≡ d → r ≡ s → j ≡ i → u ≡ v → x ≡ y → p ≡ q
    → ◌≡◌ {A = Map} (record { lanes = l; boundaries = b; roads = r; junctions = j; rules = u; stop_lines = x; crosswalks = p })
    (record { lanes = k; boundaries = d; roads = s; junctions = i; rules = v; stop_lines = y; crosswalks = q })
map-fields e1 e2 e3 e4 e5 e6 e7 = rw (e1, e2, e3, e4, e5, e6, e7)

-- A map that fits is what the tables hold once it is stored.
pub view-store : (t : Tables) (m : Map) → Fits t m → view (store t m) ≡ m
unfolding view store
view-store t m f =
    let c = t.coordinates in
    map-fields
    (table-back 52 lane_onto (lane_of c) (LaneFits c) (λ w h l k. (lane-length w h l k.0 k.1, lane-back c w h l k.0 k.1 k.2)) (λ l. l.id) t.lanes m.lanes f.lanes)
    (table-back 5 boundary_onto (boundary_of c) (BoundaryFits c) (λ w h b k. (boundary-length w b, boundary-back c w b k)) (λ b. b.id) t.boundaries m.boundaries f.boundaries)
    (table-back 68 road_onto road_of (λ w r. length r.lanes ≤ 64) (λ w h r k. (road_length w h r k, road_back w r)) (λ r. r.id) t.roads m.roads f.roads)
    (table-back 69 junction_onto junction_of (λ w j. length j.lanes ≤ 64) (λ w h j k. (junction_length w h j k, junction_back w j)) (λ j. j.id) t.junctions m.junctions f.junctions)
    (table-back 330 rule_onto rule_of RuleFits (λ w h r k. (rule-length w h r k.0, rule-back w h r k.0 k.1)) (λ r. r.id) t.rules m.rules f.rules)
    (sym f.stop_lines) (sym f.crosswalks)
