-- Which rules differ where lanes are cut: one cut lane, one list, one row, and one turn over the table. Assumes nothing.
use mathlib.Core.Path.{◌≡◌, refl, sym, ap, ◌∙◌}
use Prim.Native.Nat.{ℕ, suc, ◌+◌, ◌-◌, ◌*◌, ◌≤◌, ◌<◌}
use native.Mathlib.Numerals.{add-one}
use native.Mathlib.Omega.{arith}
use mathlib.Core.Bool.{Bool, true, false, not, ◌&&◌, ◌||◌, cond, true≢false}
use mathlib.Core.List.{List, [], ◌∷◌, ◌++◌}
use lib.Dec.{eqb}
use lib.ListN.{length, get_or, set, take, drop, length-drop, drop_of_length-le}
use lib.Seq.{drop-cons, drop-drop, take-suc, take_all, length-take-le}
use borrow.Author.Tests.{eq-eqb, ne_eqb}
use Rattle.lists.specs.Rows.{over}
use Rattle.lists.specs.Select.{any, ascending, has, keep}
use Rattle.lists.proofs.Rows.{length-reads, get_d_reads, over-nil, length_over, store-behind, row_within}
use Rattle.tables.specs.View.{word, ids_at, rows}
use Rattle.tables.specs.Formed.{rule_formed}
use Rattle.row_tests.specs.Good.{all_rows}
use Rattle.row_tests.proofs.Formed.{rule-lanes, rule-priority, rule-yielding}
use Rattle.row_tests.proofs.Tables.{row_of, row_room, row-length, table-few, table-some}
use Rattle.store.proofs.Lists.{ids-many}
use Rattle.lookup.specs.Lookup.{row_at}
use Rattle.lookup.proofs.Laws.{row-passes}
use Rattle.mentions.proofs.Turns.{row-there}
use Rattle.mentions.proofs.Tests.{ids-lent}
use Rattle.follows.specs.Following.{first_place, own_differ, row_differs, marks_of, marks_from, rule_marks, Marking}
use Rattle.follows.proofs.Places.{place-has, place-lacks}
use Rattle.follows.proofs.Rules.{marks-lent}

-- ---- one of a list passes

module _ {A : Type 0} (p : A → Bool) (l : List A) where
  module _ (i : ℕ) (d : A) (h : i < length l) where
    step : any p (drop i l) ≡ (p (get_or l i d) || any p (drop (suc i) l))
    unfolding any
    step = rw (drop-cons l i d h)

    pub any_here : p (get_or l i d) ≡ true → any p (drop i l) ≡ true
    any_here e = step ∙ rw e

    pub any-on : p (get_or l i d) ≡ false → any p (drop i l) ≡ any p (drop (i + 1) l)
    any-on e = rw add-one (step ∙ rw e)

  pub any-over : (i : ℕ) → length l ≤ i → any p (drop i l) ≡ false
  unfolding any
  any-over i h = rw (drop_of_length-le l h)

-- some are kept where one passes
kept_any : {A : Type 0} (p : A → Bool) (l : List A) → not (eqb (length (keep p l)) 0) ≡ any p l
unfolding keep any
kept_any p [] = refl
kept_any p (x ∷ l) = go (p x) (kept_any p l)
  where
    go : (b : Bool) → not (eqb (length (keep p l)) 0) ≡ any p l → not (eqb (length (cond b (x ∷ keep p l) (keep p l))) 0) ≡ (b || any p l)
    go true e = ap not (ne_eqb (suc (length (keep p l))) 0 (λ q. omega arith))
    go false e = e

-- the count of those that pass, in the first n of a list
pub counted-any : (p : ℕ → Bool) (w : List ℕ) (k n r : ℕ) → k + 1 + n ≤ length w → r ≡ length (keep p (take n (take (length w - (k + 1)) (drop (k + 1) w)))) → not (eqb r 0) ≡ any p (take n (drop (suc k) w))
counted-any p w k n r h e =
    let s : k + 1 ≡ suc k = omega arith in
    let f : length (drop (suc k) w) ≤ length w - (k + 1) = rw (length-drop (suc k) w) (omega arith) in
    rw (e, s, take_all (length w - suc k) (drop (suc k) w) (rw s at f)) (kept_any p (take n (drop (suc k) w)))

-- ---- one cut lane in a rule's own lanes

module _ (anchored : Bool) (past : List Bool) (w : List ℕ) (p : (length w ≡ 330) × ((word 5 w ≤ 64) × (length past ≡ 64))) (x q : ℕ)
    (s : (q ≡ first_place x (take (6 + word 5 w - 6) (drop 6 w))) × (q ≤ length (take (6 + word 5 w - 6) (drop 6 w)))) where
  abbrev ids : List ℕ
  ids = ids_at 5 w

  abbrev test : Bool
  test = has x ids && cond anchored (get_or past (first_place x ids) false) true

  found : first_place x ids ≡ q
  found = sym (s.0 ∙ ap (first_place x) (ids-lent w 5 (word 5 w)))

  many : length ids ≡ word 5 w
  many = ids-many w 5 (omega (arith, p.0, p.1.0))

  module _ (l : q < word 5 w) where
    there : has x ids ≡ true
    there = place-has x ids (omega (arith, found, many))

    pub differs-behind : not anchored ≡ true → test ≡ true
    differs-behind a = rw there (go anchored a)
      where
        go : (b : Bool) → not b ≡ true → cond b (get_or past (first_place x ids) false) true ≡ true
        go true e = absurd (true≢false (sym e))
        go false e = refl

    pub differs-by : (m : Bool) → not anchored ≡ false → get_or past q false ≡ m → test ≡ m
    differs-by m a e = rw (there, found) (go anchored a)
      where
        go : (b : Bool) → not b ≡ false → cond b (get_or past q false) true ≡ m
        go true z = e
        go false z = absurd (true≢false z)

  pub differs-not : word 5 w ≤ q → test ≡ false
  differs-not l = rw (place-lacks x ids (omega (arith, found, many, s.1, ap length (ids-lent w 5 (word 5 w)))))

-- ---- a rule's row

module _ (anchored : Bool) (past : List Bool) (cut w : List ℕ) (o : Bool) (e : o ≡ own_differ anchored past cut (ids_at 5 w)) where
  pub row-own : o ≡ true → true ≡ row_differs anchored past cut w
  row-own q = rw (← e, q)

  module _ (n : o ≡ false) where
    pub row_other : (word 1 w ≡ 3 → ⊥) → false ≡ row_differs anchored past cut w
    row_other k = rw (← e, n, ne_eqb (word 1 w) 3 k)

    module _ (k : word 1 w ≡ 3) (a : Bool) (f : a ≡ any (λ i. has i cut) (ids_at 200 w)) where
      pub row-priority : a ≡ true → true ≡ row_differs anchored past cut w
      row-priority q = rw (← e, n, eq-eqb (word 1 w) 3 k, ← f, q)

      pub row-yielding : a ≡ false → (b : Bool) → b ≡ any (λ i. has i cut) (ids_at 265 w) → b ≡ row_differs anchored past cut w
      row-yielding q b g = rw (← e, n, eq-eqb (word 1 w) 3 k, ← f, q, ← g)

-- what the lists ask
module _ (w : List ℕ) (l : length w ≡ 330) (f : rule_formed w ≡ true) where
  pub own-may : (past : List Bool) → length past ≡ 64 → (length w ≡ 330) × ((word 5 w ≤ 64) × (length past ≡ 64))
  own-may past m = (l, (rule-lanes w f, m))

  module _ (cut : List ℕ) (up : ascending cut ≡ true) (k : word 1 w ≡ 3) where
    pub priority-asks : (ascending cut ≡ true) × ((201 + word 200 w ≤ length w) × (word 200 w ≤ 64))
    priority-asks = (up, (omega (arith, rule-priority w f k), rule-priority w f k))

    pub yielding-asks : (ascending cut ≡ true) × ((266 + word 265 w ≤ length w) × (word 265 w ≤ 64))
    yielding-asks = (up, (omega (arith, rule-yielding w f k), rule-yielding w f k))

-- ---- the table

module _ (anchored past : List Bool) (cut : List ℕ) where
  marks-length : (i : ℕ) (ws : List (List ℕ)) → length (marks_from anchored past cut i ws) ≡ length ws
  unfolding marks_from
  marks-length i [] = refl
  marks-length i (w ∷ ws) = ap suc (marks-length (suc i) ws)

  marks-more : (i : ℕ) (ws : List (List ℕ)) (w : List ℕ)
      → marks_from anchored past cut i (ws ++ (w ∷ [])) ≡ marks_from anchored past cut i ws ++ (row_differs (get_or anchored (i + length ws) false) (marks_of past (i + length ws)) cut w ∷ [])
  unfolding marks_from
  marks-more i [] w = let e : i + 0 ≡ i = omega arith in rw e
  marks-more i (v ∷ ws) w =
      let e : i + suc (length ws) ≡ suc i + length ws = omega arith in
      ap (λ (l : List Bool). row_differs (get_or anchored i false) (marks_of past i) cut v ∷ l) (marks-more (suc i) ws w ∙ rw e)

  module _ (t : List ℕ) (out : List Bool) where
    abbrev every_row : List (List ℕ)
    every_row = rows 330 (λ (w : List ℕ). w) t

    rows_long : length every_row ≡ word 0 t
    unfolding rows
    rows_long = length-reads 330 (λ (w : List ℕ). w) (word 0 t) (drop 1 t)

    pub record Marked (i : ℕ) (v : List Bool) : Type 0 where
      pub upto : i ≤ word 0 t
      pub written : v ≡ over out 0 (marks_from anchored past cut 0 (take i every_row))

    module _ (h : Marking anchored past cut t out) where
      pub mark-begins : Marked 0 out
      unfolding marks_from
      mark-begins = record { upto = omega arith; written = sym (over-nil out 0) }

      pub mark-some : 1 ≤ length t
      mark-some = table-some 512 330 t h.counts

      module _ (i : ℕ) (v : List Bool) (m : Marked i v) where
        front_long : length (take i every_row) ≡ i
        front_long = length-take-le i every_row (omega (arith, rows_long, m.upto))

        pub mark-long : length v ≡ length out
        mark-long = ap length m.written ∙ length_over out 0 (marks_from anchored past cut 0 (take i every_row)) (omega (arith, marks-length 0 (take i every_row), front_long, m.upto, h.room))

        module _ (l : i < word 0 t) where
          pub mark-few : i < 512
          mark-few = omega (arith, table-few 512 330 t h.counts)

          pub mark-room : 1 + i * 330 + 330 ≤ length t
          mark-room = row_room 512 330 t h.counts i l

          pub past_room : i * 64 + 64 ≤ length past
          past_room = omega (arith, h.places, row_within i (word 0 t) 64 l)

          pub mark-may : (ascending cut ≡ true) × ((length (row_of 330 t i) ≡ 330) × ((rule_formed (row_of 330 t i) ≡ true) × (length (take (i * 64 + 64 - i * 64) (drop (i * 64) past)) ≡ 64)))
          unfolding all_rows
          mark-may =
              let b : length (take (i * 64 + 64 - i * 64) (drop (i * 64) past)) ≡ 64 = ap length (marks-lent past i) ∙ length-take-le 64 (drop (i * 64) past) (rw length-drop (omega (arith, past_room))) in
              (h.ascend, (row-length 512 330 t h.counts i l, (rw (row-there 330 t i) (row-passes 330 rule_formed t h.formed i l), b)))

          row_is : get_or every_row i [] ≡ row_at 330 t i
          unfolding rows
          row_is = get_d_reads 330 (λ (w : List ℕ). w) (word 0 t) i (drop 1 t) [] l ∙ rw drop-drop

          pub mark-turn : (b : Bool) → b ≡ row_differs (get_or anchored i false) (take (i * 64 + 64 - i * 64) (drop (i * 64) past)) cut (row_of 330 t i) → Marked (i + 1) (set v i b)
          mark-turn b e =
              let here : b ≡ row_differs (get_or anchored i false) (marks_of past i) cut (row_at 330 t i) = e ∙ rw (marks-lent past i, row-there 330 t i) in
              let more : take (i + 1) every_row ≡ take i every_row ++ (row_at 330 t i ∷ []) = rw add-one (take-suc every_row i [] (omega (arith, rows_long)) ∙ rw row_is) in
              let z : 0 + length (take i every_row) ≡ i = omega (arith, front_long) in
              let made : marks_from anchored past cut 0 (take (i + 1) every_row) ≡ marks_from anchored past cut 0 (take i every_row) ++ (b ∷ []) =
              ap (marks_from anchored past cut 0) more ∙ marks-more 0 (take i every_row) (row_at 330 t i) ∙ rw (z, here) in
              record {
                upto = omega arith;
                written =
                    ap (λ (u : List Bool). set u i b) m.written
                    ∙ store-behind out 0 i (marks_from anchored past cut 0 (take i every_row)) b (omega (arith, marks-length 0 (take i every_row), front_long)) (omega (arith, h.room))
                    ∙ ap (over out 0) (sym made);
              }

        pub mark-ends : word 0 t ≤ i → v ≡ over out 0 (rule_marks anchored past cut t)
        mark-ends l = m.written ∙ ap (λ (ws : List (List ℕ)). over out 0 (marks_from anchored past cut 0 ws)) (take_all i every_row (omega (arith, rows_long)))
