-- Marks set: of one row, of one entity, of a list. Assumes nothing.
use Rattle.std.specs.Prelude.{Option, None, Some}
use mathlib.Core.Path.{◌≡◌, refl, sym, ap, ◌∙◌}
use mathlib.Core.Bool.{Bool, true, false, cond}
use mathlib.Core.List.{List, [], ◌∷◌, ◌++◌}
use Prim.Native.Nat.{ℕ, ◌+◌, ◌*◌, ◌≤◌, ◌<◌}
use native.Mathlib.Numerals.{add-one}
use native.Mathlib.Omega.{arith}
use lib.Dec.{eqb}
use lib.ListN.{length, get_or, set, take, drop, length-set, drop_of_length-le}
use lib.Seq.{drop-cons, get_or-take, get_or-drop}
use borrow.Author.Tests.{ne_eqb}
use Rattle.lists.proofs.Rows.{length-reads, get_d_reads}
use Rattle.tables.specs.View.{Tables, word, lane_words, boundary_words, road_words, junction_words, rule_words, stop_line_words, crosswalk_words}
use Rattle.lookup.specs.Lookup.{sorted_table, place_of}
use Rattle.lookup.proofs.Laws.{sorted-few}
use Rattle.job_marks.proofs.Sorted.{sorted-wider}
use Rattle.job_marks.specs.Marks.{lane_marks, boundary_marks, road_marks, junction_marks, stop_line_marks, crosswalk_marks, rule_marks, mark_at, mark_row, mark_one, pairs_in, mark_all}

-- ---- one row

module _ (s first id : ℕ) (t ms : List ℕ) where
  pub mark-found : (r : ℕ) → place_of s t id ≡ Some r → set ms (first + r) 1 ≡ mark_row s first t id ms
  unfolding mark_row
  mark-found r e = rw e

  pub mark-nothing : place_of s t id ≡ None → ms ≡ mark_row s first t id ms
  unfolding mark_row
  mark-nothing e = rw e

-- what marking asks: the marks of a table lie among all
pub may-mark : (limit s first : ℕ) (t ms : List ℕ) → 0 < s → limit ≤ 4096 → first + limit ≤ 6784 → sorted_table limit s t ≡ true → length ms ≡ 6784
    → (0 < s) × ((sorted_table 4096 s t ≡ true) × (first + word 0 t ≤ length ms))
may-mark limit s first t ms p l m h n = (p, (sorted-wider limit 4096 s t l h, omega (arith, sorted-few limit s t h)))

-- ---- as many marks as before

length_at : (first : ℕ) (f : Option ℕ) (ms : List ℕ) → length (mark_at first f ms) ≡ length ms
length_at first (Some r) ms = simp length-set
length_at first None ms = refl

pub length-row : (s first : ℕ) (t : List ℕ) (id : ℕ) (ms : List ℕ) → length (mark_row s first t id ms) ≡ length ms
unfolding mark_row
length-row s first t id ms = length_at first (place_of s t id) ms

either : (b : Bool) (xs ys : List ℕ) (n : ℕ) → length xs ≡ n → length ys ≡ n → length (cond b xs ys) ≡ n
either true xs ys n p q = p
either false xs ys n p q = q

pub length-one : (t : Tables) (kind id : ℕ) (ms : List ℕ) → length (mark_one t kind id ms) ≡ length ms
unfolding mark_one
length-one t kind id ms =
    let n = length ms in
    either (eqb kind 0) _ _ n (length-row lane_words lane_marks t.lanes id ms)
    (either (eqb kind 1) _ _ n (length-row boundary_words boundary_marks t.boundaries id ms)
    (either (eqb kind 2) _ _ n (length-row road_words road_marks t.roads id ms)
    (either (eqb kind 3) _ _ n (length-row junction_words junction_marks t.junctions id ms)
    (either (eqb kind 4) _ _ n (length-row stop_line_words stop_line_marks t.stop_lines id ms)
    (either (eqb kind 6) _ _ n (length-row crosswalk_words crosswalk_marks t.crosswalks id ms)
    (either (eqb kind 7) _ _ n (length-row rule_words rule_marks t.rules id ms) refl))))))

pub length-all : (t : Tables) (ps : List (ℕ × ℕ)) (ms : List ℕ) → length (mark_all t ps ms) ≡ length ms
unfolding mark_all
length-all t [] ms = refl
length-all t (p ∷ ps) ms = length-all t ps (mark_one t p.0 p.1 ms) ∙ length-one t p.0 p.1 ms

-- marks of one list over those of another
pub all_append : (t : Tables) (ps qs : List (ℕ × ℕ)) (ms : List ℕ) → mark_all t (ps ++ qs) ms ≡ mark_all t qs (mark_all t ps ms)
unfolding mark_all
all_append t [] qs ms = refl
all_append t (p ∷ ps) qs ms = all_append t ps qs (mark_one t p.0 p.1 ms)

-- ---- one entity, by its kind

module _ (t : Tables) (kind id : ℕ) (ms v : List ℕ) where
  pub mark-lane : kind ≡ 0 → v ≡ mark_row lane_words lane_marks t.lanes id ms → v ≡ mark_one t kind id ms
  unfolding mark_one
  mark-lane e q = rw e q

  pub mark-boundary : kind ≡ 1 → v ≡ mark_row boundary_words boundary_marks t.boundaries id ms → v ≡ mark_one t kind id ms
  unfolding mark_one
  mark-boundary e q = rw e q

  pub mark_road : kind ≡ 2 → v ≡ mark_row road_words road_marks t.roads id ms → v ≡ mark_one t kind id ms
  unfolding mark_one
  mark_road e q = rw e q

  pub mark_junction : kind ≡ 3 → v ≡ mark_row junction_words junction_marks t.junctions id ms → v ≡ mark_one t kind id ms
  unfolding mark_one
  mark_junction e q = rw e q

  pub mark-stop-line : kind ≡ 4 → v ≡ mark_row stop_line_words stop_line_marks t.stop_lines id ms → v ≡ mark_one t kind id ms
  unfolding mark_one
  mark-stop-line e q = rw e q

  pub mark-crosswalk : kind ≡ 6 → v ≡ mark_row crosswalk_words crosswalk_marks t.crosswalks id ms → v ≡ mark_one t kind id ms
  unfolding mark_one
  mark-crosswalk e q = rw e q

  pub mark-rule : kind ≡ 7 → v ≡ mark_row rule_words rule_marks t.rules id ms → v ≡ mark_one t kind id ms
  unfolding mark_one
  mark-rule e q = rw e q

  pub mark-other : (kind ≡ 0 → ⊥) → (kind ≡ 1 → ⊥) → (kind ≡ 2 → ⊥) → (kind ≡ 3 → ⊥) → (kind ≡ 4 → ⊥) → (kind ≡ 6 → ⊥) → (kind ≡ 7 → ⊥) → v ≡ ms → v ≡ mark_one t kind id ms
  unfolding mark_one
  mark-other a b c d e f g q = rw (ne_eqb kind 0 a, ne_eqb kind 1 b, ne_eqb kind 2 c, ne_eqb kind 3 d, ne_eqb kind 4 e, ne_eqb kind 6 f, ne_eqb kind 7 g) q

-- ---- a list: what is left, over the marks now, gives the whole

pub record Marking (t : Tables) (n : ℕ) (w ms₀ ms : List ℕ) (i : ℕ) : Type 0 where
  pub upto : i ≤ n
  pub many : length ms ≡ length ms₀
  pub whole : mark_all t (pairs_in n w) ms₀ ≡ mark_all t (drop i (pairs_in n w)) ms

module _ (t : Tables) (n : ℕ) (w ms₀ : List ℕ) where
  pub marking_begins : Marking t n w ms₀ ms₀ 0
  marking_begins = record { upto = omega arith; many = refl; whole = refl }

  pair-at : (i : ℕ) → i < n → drop i (pairs_in n w) ≡ (get_or w (i * 2) 0, get_or w (i * 2 + 1) 0) ∷ drop (i + 1) (pairs_in n w)
  unfolding pairs_in
  pair-at i l =
      let dec : List ℕ → ℕ × ℕ = λ r. (get_or r 0 0, get_or r 1 0) in
      let k : i < length (pairs_in n w) = rw (length-reads 2 dec n w) l in
      let z : i * 2 + 0 ≡ i * 2 = omega arith in
      let a : get_or (take 2 (drop (i * 2) w)) 0 0 ≡ get_or w (i * 2) 0 = get_or-take 2 (drop (i * 2) w) 0 0 (omega arith) ∙ (get_or-drop (i * 2) w 0 0 ∙ rw z) in
      let b : get_or (take 2 (drop (i * 2) w)) 1 0 ≡ get_or w (i * 2 + 1) 0 = get_or-take 2 (drop (i * 2) w) 1 0 (omega arith) ∙ get_or-drop (i * 2) w 1 0 in
      rw (add-one i, drop-cons (pairs_in n w) i (0, 0) k, get_d_reads 2 dec n i w (0, 0) l, a, b)

  module _ (ms : List ℕ) (i : ℕ) (m : Marking t n w ms₀ ms i) where
    pub marking-turns : i < n → (v : List ℕ) → v ≡ mark_one t (get_or w (i * 2) 0) (get_or w (i * 2 + 1) 0) ms → Marking t n w ms₀ v (i + 1)
    unfolding mark_all
    marking-turns l v e =
        record {
          upto = omega arith;
          many = ap length e ∙ (length-one t (get_or w (i * 2) 0) (get_or w (i * 2 + 1) 0) ms ∙ m.many);
          whole = m.whole ∙ (ap (λ ps. mark_all t ps ms) (pair-at i l) ∙ ap (mark_all t (drop (i + 1) (pairs_in n w))) (sym e));
        }

    pub marking-ends : n ≤ i → ms ≡ mark_all t (pairs_in n w) ms₀
    unfolding mark_all pairs_in
    marking-ends l =
        let dec : List ℕ → ℕ × ℕ = λ r. (get_or r 0 0, get_or r 1 0) in
        let k : length (pairs_in n w) ≤ i = rw (length-reads 2 dec n w) l in
        sym (m.whole ∙ ap (λ ps. mark_all t ps ms) (drop_of_length-le (pairs_in n w) k))
