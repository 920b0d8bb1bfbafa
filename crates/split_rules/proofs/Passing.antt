-- Marks of rules: a lane's, those of a rule's own lanes, and those of all rules, one rule behind the other. Assumes nothing.
use Rattle.std.specs.Prelude.{Option, None, Some}
use mathlib.Core.Path.{◌≡◌, refl, sym, ap, ◌∙◌}
use Prim.Native.Nat.{ℕ, zero, suc, ◌+◌, ◌-◌, ◌*◌, ◌≤◌, ◌<◌}
use native.Mathlib.Nat.{le_of_suc-le-suc, not-suc-le-zero}
use native.Mathlib.Numerals.{add-one}
use native.Mathlib.Omega.{arith}
use mathlib.Core.Bool.{Bool, true, false}
use mathlib.Core.List.{List, [], ◌∷◌, ◌++◌, map, map-append}
use lib.Ieee.{Float}
use lib.ListN.{length, get_or, set, take, drop, length-set, length-map, length-drop, drop_of_length-le, take-append-drop}
use lib.Seq.{take_all, take-suc, take-take, drop-cons, drop-drop, length-take-le}
use borrow.Rule.Slice.PartMut.{put_mid}
use Rattle.lists.specs.Rows.{over, keys, row_with}
use Rattle.lists.specs.Select.{any, has}
use Rattle.lists.proofs.Rows.{drop-take, length-reads, get_d_reads, length_over, over-nil, over_in, over-part, store-behind, found_within, one_found, row_within}
use Rattle.geometry.specs.Float.{zeroᶠ}
use Rattle.rules.specs.Names.{Point2}
use Rattle.rules.specs.Map.{rule_anchor}
use Rattle.tables.specs.View.{word, ids_at, rows, rule_of}
use Rattle.tables.specs.Formed.{counted, rule_formed}
use Rattle.row_tests.specs.Good.{all_rows}
use Rattle.row_tests.proofs.Formed.{rule-lanes}
use Rattle.row_tests.proofs.Tables.{table-some, table-few, row_room}
use Rattle.lookup.specs.Lookup.{row_at, place_of, crossed}
use Rattle.lookup.proofs.Laws.{word_in, row-passes}
use Rattle.split_half.specs.Half.{row_past}
use Rattle.split_marks.proofs.Marks.{Tested, test-begins, test-more, test-ends}
use Rattle.split_rules.specs.Past.{lane_past, anchor_of, is_there, marks_by, past_from, MarkingRow, Marking}

-- ---- a lane

any-default : {A : Type 0} (l : List A) (i : ℕ) (d e : A) → i < length l → get_or l i d ≡ get_or l i e
any-default [] i d e h = absurd (not-suc-le-zero h)
any-default (x ∷ l) zero d e h = refl
any-default (x ∷ l) (suc i) d e h = any-default l i d e (le_of_suc-le-suc h)

module _ (join : Float) (c : List Float) (lanes boundaries : List ℕ) (p : Point2) (cut : List ℕ) (stations : List Float) (anchor : Point2) (id : ℕ) (f : Option ℕ)
    (e : f ≡ row_with id (keys 1 (length cut) cut)) where
  abbrev past : Bool
  past = lane_past join c lanes boundaries p cut stations anchor id

  pub lane-uncut : f ≡ None → false ≡ past
  lane-uncut q = rw (one_found id cut f e, q)

  module _ (r : ℕ) (q : f ≡ Some r) where
    pub rank-within : r < length cut
    rank-within = found_within id cut r (one_found id cut f e ∙ q)

    module _ (g : Option ℕ) (d : g ≡ place_of 52 lanes id) where
      pub lane-absent : g ≡ None → false ≡ past
      lane-absent k = rw (one_found id cut f e, q, ← d, k)

      pub lane-there : (i : ℕ) → g ≡ Some i → length cut ≤ length stations → (b : Bool) (x : Float) → b ≡ row_past join c lanes boundaries p i (get_or stations r x) anchor → b ≡ past
      lane-there i k l b x h = rw (one_found id cut f e, q, ← d, k) (h ∙ ap (λ s. row_past join c lanes boundaries p i s anchor) (any-default stations r x zeroᶠ (omega (arith, rank-within))))

-- ---- a list of lanes

module _ (f : ℕ → Bool) (ids : List ℕ) (w : List Bool) where
  pub record Listed (i : ℕ) (v : List Bool) : Type 0 where
    pub same : length v ≡ length w
    pub written : v ≡ over w 0 (map f (take i ids))

  pub listed-none : Listed 0 w
  listed-none = record { same = refl; written = sym (over-nil w 0) }

  module _ (i : ℕ) (v : List Bool) (h : Listed i v) where
    pub listed_more : i < length ids → length ids ≤ length w → (b : Bool) → b ≡ f (get_or ids i 0) → Listed (i + 1) (set v i b)
    listed_more l k b e =
        let m : 0 + length (map f (take i ids)) ≡ i = omega (arith, length-map (take i ids) f, length-take-le i ids (omega arith)) in
        let z : map f (take (i + 1) ids) ≡ map f (take i ids) ++ (b ∷ []) = rw (add-one, take-suc ids i 0 l) (map-append f (take i ids) (get_or ids i 0 ∷ []) ∙ rw e) in
        record { same = length-set v i b ∙ h.same; written = ap (λ (z : List Bool). set z i b) h.written ∙ store-behind w 0 i (map f (take i ids)) b m (omega arith) ∙ ap (over w 0) (sym z) }

    pub listed-all : length ids ≤ i → v ≡ over w 0 (map f ids)
    listed-all l = h.written ∙ ap (λ z. over w 0 (map f z)) (take_all i ids l)

-- ---- a rule's row

module _ (t : List ℕ) (h : counted 512 330 t ≡ true) (i : ℕ) (d : i < word 0 t) (g : rule_formed (row_at 330 t i) ≡ true) where
  pub rule-there : 1 + i * 330 + 330 ≤ length t
  rule-there = row_room 512 330 t h i d

  -- the count of its lanes
  pub rule-count : get_or t (1 + i * 330 + 5 + 1 - 1) 0 ≡ word 5 (row_at 330 t i)
  rule-count = let s : 1 + i * 330 + 5 + 1 - 1 ≡ 1 + i * 330 + 5 = omega arith in rw s (word_in 330 t i 5 (omega arith))

  pub rule-few : get_or t (1 + i * 330 + 5 + 1 - 1) 0 ≤ 64
  rule-few = omega (arith, rule-count, rule-lanes (row_at 330 t i) g)

  -- the list, as it is lent
  pub ids-lent : (n : ℕ) → n ≡ get_or t (1 + i * 330 + 5 + 1 - 1) 0 → take (1 + i * 330 + 5 + 1 + n - (1 + i * 330 + 5 + 1)) (drop (1 + i * 330 + 5 + 1) t) ≡ ids_at 5 (row_at 330 t i)
  ids-lent n e =
      let m : 1 + i * 330 + 5 + 1 + n - (1 + i * 330 + 5 + 1) ≡ word 5 (row_at 330 t i) = omega (arith, e, rule-count) in
      let l : word 5 (row_at 330 t i) ≤ 330 - 6 = omega (arith, rule-lanes (row_at 330 t i) g) in
      let a : 1 + i * 330 + 6 ≡ 1 + i * 330 + 5 + 1 = omega arith in
      rw m (sym (rw (drop-take 6 330 (drop (1 + i * 330) t), take-take (word 5 (row_at 330 t i)) (330 - 6) (drop 6 (drop (1 + i * 330) t)) l, drop-drop, a)))

  pub ids_few : length (ids_at 5 (row_at 330 t i)) ≤ 64
  ids_few =
      let n = get_or t (1 + i * 330 + 5 + 1 - 1) 0 in
      let m : 1 + i * 330 + 5 + 1 + n - (1 + i * 330 + 5 + 1) ≡ n = omega arith in
      let k : n ≤ length (drop (1 + i * 330 + 5 + 1) t) = rw length-drop (omega (arith, rule-there, rule-few)) in
      omega (arith, ap length (rw m at (ids-lent n refl)), length-take-le n (drop (1 + i * 330 + 5 + 1) t) k, rule-few)

  -- whether it names a cut lane
  module _ (cut : List ℕ) (n : ℕ) (e : n ≡ get_or t (1 + i * 330 + 5 + 1 - 1) 0) (b : Bool)
      (f : b ≡ any (λ k. has k cut) (take (1 + i * 330 + 5 + 1 + n - (1 + i * 330 + 5 + 1)) (drop (1 + i * 330 + 5 + 1) t))) where
    named : any (λ k. has k cut) (ids_at 5 (row_at 330 t i)) ≡ b
    named = sym (f ∙ ap (any (λ k. has k cut)) (ids-lent n e))

    module _ (c : List Float) (stops crosswalks : List ℕ) where
      pub anchor_named : b ≡ true → (r : Option Point2) → r ≡ rule_anchor (crossed c stops crosswalks) (rule_of (row_at 330 t i)) → r ≡ anchor_of c stops crosswalks cut (row_at 330 t i)
      anchor_named q r k = rw (named, q) k

      pub anchor_other : b ≡ false → None ≡ anchor_of c stops crosswalks cut (row_at 330 t i)
      anchor_other q = rw (named, q)

module _ (join : Float) (c : List Float) (lanes boundaries : List ℕ) (p : Point2) (cut : List ℕ) (stations : List Float) (o : Option Point2) (ids : List ℕ) (w : List Bool) (r : Option Point2) (e : r ≡ o) where
  abbrev Ruled : Bool → List Bool → Type 0
  Ruled b v = (b ≡ is_there o) × (v ≡ over w 0 (marks_by join c lanes boundaries p cut stations o ids))

  pub rule-none : r ≡ None → Ruled false w
  rule-none q = rw (sym (sym q ∙ e)) (refl, sym (over-nil w 0))

  pub rule-some : (a : Point2) → r ≡ Some a → (v : List Bool) (l : List ℕ) → v ≡ over w 0 (map (lane_past join c lanes boundaries p cut stations a) l) → l ≡ ids → Ruled true v
  rule-some a q v l g k = rw (sym (sym q ∙ e)) (refl, g ∙ ap (λ z. over w 0 (map (lane_past join c lanes boundaries p cut stations a) z)) k)

-- ---- all rules

-- a part put back whose front was written over
part-over : (xs : List Bool) (a e : ℕ) (l : List Bool) → e ≤ length xs → a + length l ≤ e → (v : List Bool) → v ≡ over (take (e - a) (drop a xs)) 0 l → put_mid a (e - a) xs v ≡ over xs a l
part-over xs a e l h k v q =
    let d = drop a xs in
    let n : length (take (e - a) d) ≡ e - a = length-take-le (e - a) d (rw length-drop (omega arith)) in
    let z : a + 0 ≡ a = omega arith in
    ap (λ y. take a xs ++ (y ++ drop (e - a) d)) q
    ∙ ap (λ y. take a xs ++ y) (sym (over_in (take (e - a) d) (drop (e - a) d) 0 l (omega (arith, n))) ∙ ap (λ y. over y 0 l) (take-append-drop (e - a) d))
    ∙ (over-part xs a 0 l (omega arith) ∙ ap (λ y. over xs y l) z)

module _ (join : Float) (c : List Float) (lanes boundaries : List ℕ) (p : Point2) (cut : List ℕ) (stations : List Float) (t stops crosswalks : List ℕ) (a₀ w : List Bool) where
  abbrev rest : ℕ → List (List ℕ) → List Bool → List Bool
  rest = past_from join c lanes boundaries p cut stations stops crosswalks

  abbrev all : List (List ℕ)
  all = rows 330 (λ w. w) t

  abbrev anchored : List ℕ → Bool
  anchored w = is_there (anchor_of c stops crosswalks cut w)

  abbrev marks : ℕ → List Bool
  marks i = marks_by join c lanes boundaries p cut stations (anchor_of c stops crosswalks cut (row_at 330 t i)) (ids_at 5 (row_at 330 t i))

  -- the marks of the first i rules are written
  pub record Done (i : ℕ) (a v : List Bool) : Type 0 where
    pub tested : Tested 330 anchored t a₀ i a
    pub long : length v ≡ length w
    pub whole : rest 0 all w ≡ rest i (drop i all) v

  pub done_none : Done 0 a₀ w
  done_none = record { tested = test-begins 330 anchored t a₀; long = refl; whole = refl }

  many : length all ≡ word 0 t
  unfolding rows
  many = length-reads 330 (λ (w : List ℕ). w) (word 0 t) (drop 1 t)

  module _ (m : Marking c lanes boundaries cut stations t stops crosswalks a₀ w) where
    pub rules-some : 1 ≤ length t
    rules-some = table-some 512 330 t m.counts

    module _ (i : ℕ) (d : i < word 0 t) where
      pub rules-few : i < 512
      rules-few = omega (arith, table-few 512 330 t m.counts)

      pub marks-room : i * 64 + 64 ≤ length w
      marks-room = omega (arith, m.marks, row_within i (word 0 t) 64 d)

      formed : rule_formed (row_at 330 t i) ≡ true
      unfolding all_rows
      formed = row-passes 330 rule_formed t m.formed i d

      pub rule-may : (v : List Bool) → length v ≡ length w → MarkingRow c lanes boundaries cut stations t i stops crosswalks (take (i * 64 + 64 - i * 64) (drop (i * 64) v))
      rule-may v s =
          let e : i * 64 + 64 - i * 64 ≡ 64 = omega arith in
          let l : 64 ≤ length (drop (i * 64) v) = rw length-drop (omega (arith, marks-room)) in
          record {
            drawable = m.drawable;
            crossable = m.crossable;
            ascend = m.ascend;
            stationed = m.stationed;
            counts = m.counts;
            row = d;
            formed = formed;
            marks = rw e (length-take-le 64 (drop (i * 64) v) l);
          }

      marks-few : length (marks i) ≤ 64
      marks-few = go (anchor_of c stops crosswalks cut (row_at 330 t i))
        where
          go : (o : Option Point2) → length (marks_by join c lanes boundaries p cut stations o (ids_at 5 (row_at 330 t i))) ≤ 64
          go None = omega arith
          go (Some a) = rw length-map (ids_few t m.counts i d formed)

      pub done_more : (a v : List Bool) → Done i a v → (b : Bool) (u : List Bool)
          → (b ≡ anchored (row_at 330 t i)) × (u ≡ over (take (i * 64 + 64 - i * 64) (drop (i * 64) v)) 0 (marks i)) → Done (i + 1) (set a i b) (put_mid (i * 64) (i * 64 + 64 - i * 64) v u)
      unfolding past_from rows
      done_more a v h b u e =
          let q : put_mid (i * 64) (i * 64 + 64 - i * 64) v u ≡ over v (i * 64) (marks i) = part-over v (i * 64) (i * 64 + 64) (marks i) (omega (arith, h.long, marks-room)) (omega (arith, marks-few)) u e.1 in
          let l : i < length all = omega (arith, many) in
          let r : get_or all i [] ≡ row_at 330 t i = get_d_reads 330 (λ (r : List ℕ). r) (word 0 t) i (drop 1 t) [] d ∙ rw drop-drop in
          record {
            tested = test-more 330 anchored t a₀ i a h.tested d m.anchors b e.0;
            long = ap length q ∙ (length_over v (i * 64) (marks i) (omega (arith, h.long, marks-room, marks-few)) ∙ h.long);
            whole = h.whole ∙ rw (q, add-one i) (ap (λ z. rest i z v) (drop-cons all i [] l) ∙ rw r);
          }

  pub done_all : (i : ℕ) (a v : List Bool) → Done i a v → word 0 t ≤ i → (a ≡ over a₀ 0 (map anchored all)) × (v ≡ rest 0 all w)
  unfolding past_from
  done_all i a v h l = let k : length all ≤ i = omega (arith, many) in (test-ends 330 anchored t a₀ i a h.tested l, sym (h.whole ∙ rw (drop_of_length-le all k)))
