-- The lists of ids of roads, junctions and rules after a split fit where the tests of numbers say so. Assumes nothing.
use Rattle.std.specs.Prelude.{Option, None, Some}
use mathlib.Core.Path.{◌≡◌, refl, ap, ◌∙◌}
use Prim.Native.Nat.{ℕ, zero, suc, ◌+◌, ◌*◌, ◌≤◌, ◌<◌}
use native.Mathlib.Omega.{arith}
use mathlib.Core.Bool.{Bool, true, false, not, ◌&&◌, cond}
use mathlib.Core.List.{List, map}
use lib.Dec.{eqb, leb}
use lib.Ieee.{Float}
use lib.ListN.{length, get_or, take, drop, length-drop}
use lib.Seq.{drop-drop, length-take-le}
use borrow.Author.Tests.{eqb-true, eqb-false, leb-true, le-leb}
use Rattle.lists.specs.Every.{all}
use Rattle.lists.specs.Rows.{reads}
use Rattle.lists.specs.Select.{each, insert_after}
use Rattle.lists.proofs.Booleans.{and-fst, and-snd}
use Rattle.lists.proofs.Select.{all_map}
use Rattle.entities.specs.Records.{Rule, Map}
use Rattle.rules.specs.Names.{Point2}
use Rattle.rules.specs.Map.{rule_anchor}
use Rattle.rules.specs.Sound.{id_lists}
use Rattle.rules.specs.Lane.{road_lanes, junction_lanes, rule_lanes}
use Rattle.rules.specs.Split.{LanePlan, halves}
use Rattle.rules.specs.Turns.{follow_all}
use Rattle.laws.proofs.TurnsRows.{cut_in_turns}
use Rattle.tables.specs.View.{word, rows, ids_at, ids_where, road_of, junction_of, rule_of}
use Rattle.tables.specs.Formed.{counted, rule_formed}
use Rattle.row_tests.specs.Good.{all_rows}
use Rattle.row_tests.proofs.Formed.{rule-lanes, rule-crosswalks, rule-stops, rule-priority, rule-yielding}
use Rattle.row_tests.proofs.Relations.{all-reads}
use Rattle.store.proofs.Lists.{ids-many}
use Rattle.store.proofs.Rows.{passing}
use Rattle.lookup.specs.Lookup.{row_at}
use Rattle.split_named.proofs.Grown.{rows-room}
use Rattle.split_named.proofs.Words.{is_some, cut_ids, below}
use Rattle.split_room.specs.Fitting.{list_fits, own_fits, rule_fits, rules_fit}
use Rattle.split_limits.proofs.Lengths.{grown-many, own-added, own_same}

-- two tests that agree on rows that pass a third
tests_agree : (s : ℕ) (good p q : List ℕ → Bool) → ((w : List ℕ) → length w ≡ s → good w ≡ true → p w ≡ q w) → (n : ℕ) (w : List ℕ) → n * s ≤ length w → passing s good n w
    → all (λ b. b) (reads s p n w) ≡ all (λ b. b) (reads s q n w)
unfolding reads all
tests_agree s good p q e zero w l a = refl
tests_agree s good p q e (suc n) w l a =
    let i : s ≤ length w = omega arith in
    let k : n * s ≤ length (drop s w) = rw length-drop (omega arith) in
    let g = good (take s w) in
    let r = all (λ b. b) (reads s good n (drop s w)) in
    rw (e (take s w) (length-take-le s w i) (and-fst g r a), tests_agree s good p q e n (drop s w) k (and-snd g r a))

module _ (next : ℕ) (ps : List LanePlan) where
  -- a list with each second half after its first
  pub grown-fits : (k : ℕ) (w : List ℕ) → k + 1 + word k w ≤ length w → leb (length (insert_after (halves next ps) (ids_at k w))) 64 ≡ list_fits (cut_ids ps) k w
  grown-fits k w r = rw (grown-many next ps (ids_at k w), ids-many w k r)

  module _ (limit : ℕ) (t : List ℕ) where
    pub roads-fit : counted limit 68 t ≡ true → all_rows 68 (λ w. leb (word 3 w) 64) t ≡ true
        → all (λ r. leb (length r.lanes) 64) (map (road_lanes (insert_after (halves next ps))) (rows 68 road_of t)) ≡ all_rows 68 (list_fits (cut_ids ps) 3) t
    unfolding rows all_rows road_of
    roads-fit c h =
        all_map (λ r. leb (length r.lanes) 64) (road_lanes (insert_after (halves next ps))) (reads 68 road_of (word 0 t) (drop 1 t))
        ∙ (all-reads 68 road_of (λ r. leb (length (insert_after (halves next ps) r.lanes)) 64) (word 0 t) (drop 1 t)
        ∙ tests_agree 68 (λ w. leb (word 3 w) 64) (λ w. leb (length (insert_after (halves next ps) (ids_at 3 w))) 64) (list_fits (cut_ids ps) 3) (λ w l g. grown-fits 3 w (omega (arith, leb-true (word 3 w) 64 g)))
        (word 0 t) (drop 1 t) (rows-room limit 68 t c) h)

    pub junctions-fit : counted limit 69 t ≡ true → all_rows 69 (λ w. leb (word 4 w) 64) t ≡ true
        → all (λ j. leb (length j.lanes) 64) (map (junction_lanes (insert_after (halves next ps))) (rows 69 junction_of t)) ≡ all_rows 69 (list_fits (cut_ids ps) 4) t
    unfolding rows all_rows junction_of
    junctions-fit c h =
        all_map (λ j. leb (length j.lanes) 64) (junction_lanes (insert_after (halves next ps))) (reads 69 junction_of (word 0 t) (drop 1 t))
        ∙ (all-reads 69 junction_of (λ j. leb (length (insert_after (halves next ps) j.lanes)) 64) (word 0 t) (drop 1 t)
        ∙ tests_agree 69 (λ w. leb (word 4 w) 64) (λ w. leb (length (insert_after (halves next ps) (ids_at 4 w))) 64) (list_fits (cut_ids ps) 4) (λ w l g. grown-fits 4 w (omega (arith, leb-true (word 4 w) 64 g)))
        (word 0 t) (drop 1 t) (rows-room limit 69 t c) h)

-- ---- rules

module _ (join : Float) (m : Map) (next : ℕ) (ps : List LanePlan) (new : below next (cut_ids ps)) where
  own-fits : (o : Option Point2) (w : List ℕ) → 5 + 1 + word 5 w ≤ length w → word 5 w ≤ 64 → leb (length (follow_all join m o next ps (ids_at 5 w))) 64 ≡ own_fits (is_some o) (cut_ids ps) w
  own-fits None w r f = rw (own-added join m next ps (ids_at 5 w) new, ids-many w 5 r)
  own-fits (Some a) w r f = rw (own_same join m a next ps (ids_at 5 w), ids-many w 5 r) (le-leb (word 5 w) 64 f)

  -- a list that the kind of right of way alone has
  way-fits : (k : ℕ) (w : List ℕ) → (word 1 w ≡ 3 → k + 1 + word k w ≤ length w)
      → leb (length (insert_after (halves next ps) (ids_where (eqb (word 1 w) 3) k w))) 64 ≡ cond (eqb (word 1 w) 3) (list_fits (cut_ids ps) k w) true
  unfolding insert_after each
  way-fits k w r = go (eqb (word 1 w) 3) refl
    where
      go : (b : Bool) → eqb (word 1 w) 3 ≡ b → leb (length (insert_after (halves next ps) (ids_where b k w))) 64 ≡ cond b (list_fits (cut_ids ps) k w) true
      go true e = grown-fits next ps k w (r (eqb-true (word 1 w) 3 e))
      go false e = refl

  stops-fit : (w : List ℕ) → ((word 1 w ≡ 5 → ⊥) → 135 + 1 + word 135 w ≤ length w × word 135 w ≤ 64) → leb (length (ids_where (not (eqb (word 1 w) 5)) 135 w)) 64 ≡ true
  stops-fit w r = go (eqb (word 1 w) 5) refl
    where
      go : (b : Bool) → eqb (word 1 w) 5 ≡ b → leb (length (ids_where (not b) 135 w)) 64 ≡ true
      go true e = refl
      go false e = let h = r (eqb-false (word 1 w) 5 e) in rw (ids-many w 135 h.0) (le-leb (word 135 w) 64 h.1)

  five : (a k x y : Bool) {b c d p q : Bool} → b ≡ a → c ≡ true → d ≡ true → p ≡ cond k x true → q ≡ cond k y true → (b && (c && (d && (p && (q && true))))) ≡ (a && cond k (x && y) true)
  five a k x y e f g h i = rw (e, f, g, h, i) (go a k x y)
    where
      go : (a k x y : Bool) → (a && (cond k x true && (cond k y true && true))) ≡ (a && cond k (x && y) true)
      go false k x y = refl
      go true true true true = refl
      go true true true false = refl
      go true true false y = refl
      go true false x y = refl

  abbrev after : List ℕ → Rule
  after w = cut_in_turns join m next ps (halves next ps) (rule_of w)

  abbrev few : Rule → Bool
  few r = all (λ ids. leb (length ids) 64) (id_lists r)

  by_anchor : (o : Option Point2) (w : List ℕ) → length w ≡ 330 → rule_formed w ≡ true
      → few (rule_lanes (follow_all join m o next ps) (insert_after (halves next ps)) (rule_of w)) ≡ rule_fits (is_some o) (cut_ids ps) w
  unfolding rule_of all
  by_anchor o w l f =
      five (own_fits (is_some o) (cut_ids ps) w) (eqb (word 1 w) 3) (list_fits (cut_ids ps) 200 w) (list_fits (cut_ids ps) 265 w)
      (own-fits o w (omega (arith, rule-lanes w f)) (rule-lanes w f))
      (let e = rule-crosswalks w f in ap (λ n. leb n 64) (ids-many w 70 (omega arith)) ∙ le-leb (word 70 w) 64 e)
      (stops-fit w (λ n. let e = rule-stops w f n in (omega arith, e)))
      (way-fits 200 w (λ n. let e = rule-priority w f n in omega arith))
      (way-fits 265 w (λ n. let e = rule-yielding w f n in omega arith))

  rule_fits_lem : (w : List ℕ) → length w ≡ 330 → rule_formed w ≡ true → few (after w) ≡ rule_fits (is_some (rule_anchor m (rule_of w))) (cut_ids ps) w
  rule_fits_lem w l f = by_anchor (rule_anchor m (rule_of w)) w l f

  rows_fit : (anchored : List Bool) (i n : ℕ) (w : List ℕ) → n * 330 ≤ length w → passing 330 rule_formed n w
      → ((j : ℕ) → j < n → get_or anchored (i + j) false ≡ is_some (rule_anchor m (rule_of (take 330 (drop (j * 330) w)))))
      → all (λ b. b) (reads 330 (λ w. few (after w)) n w) ≡ rules_fit anchored (cut_ids ps) i (reads 330 (λ w. w) n w)
  unfolding reads all rules_fit
  rows_fit anchored i zero w l a k = refl
  rows_fit anchored i (suc n) w l a k =
      let s : 330 ≤ length w = omega arith in
      let r : n * 330 ≤ length (drop 330 w) = rw length-drop (omega arith) in
      let g = rule_formed (take 330 w) in
      let h = all (λ b. b) (reads 330 rule_formed n (drop 330 w)) in
      let z : i + 0 ≡ i = omega arith in
      let e : get_or anchored i false ≡ is_some (rule_anchor m (rule_of (take 330 w))) = rw z at (k 0 (omega arith)) in
      rw (
        e,
        rule_fits_lem (take 330 w) (length-take-le 330 w s) (and-fst g h a),
        rows_fit anchored (suc i) n (drop 330 w) r (and-snd g h a) (λ j l.
            let u : i + suc j ≡ suc i + j = omega arith in
            let v : suc j * 330 ≡ 330 + j * 330 = omega arith in
            rw drop-drop (rw (u, v) at (k (suc j) (omega arith)))),
      )

  -- where a mark says of each rule whether it has an anchor after the cut
  pub rules-fit : (limit : ℕ) (anchored : List Bool) (t : List ℕ) → counted limit 330 t ≡ true → all_rows 330 rule_formed t ≡ true
      → ((j : ℕ) → j < word 0 t → get_or anchored j false ≡ is_some (rule_anchor m (rule_of (row_at 330 t j))))
      → all (λ r. all (λ ids. leb (length ids) 64) (id_lists r)) (map (cut_in_turns join m next ps (halves next ps)) (rows 330 rule_of t)) ≡ rules_fit anchored (cut_ids ps) 0 (rows 330 (λ w. w) t)
  unfolding rows all_rows
  rules-fit limit anchored t c h k =
      all_map few (cut_in_turns join m next ps (halves next ps)) (reads 330 rule_of (word 0 t) (drop 1 t))
      ∙ (all-reads 330 rule_of (λ r. few (cut_in_turns join m next ps (halves next ps) r)) (word 0 t) (drop 1 t)
      ∙ rows_fit anchored 0 (word 0 t) (drop 1 t) (rows-room limit 330 t c) h (λ j l. let u : 0 + j ≡ j = omega arith in rw (u, drop-drop) (k j l)))
