-- Warnings of neighbours that are not cut: one slot, one row, and the marked rows in turn. Assumes nothing.
use Rattle.std.specs.Prelude.{Option, None, Some}
use mathlib.Core.Path.{◌≡◌, refl, sym, ap, ◌∙◌}
use Prim.Native.Nat.{ℕ, suc, ◌+◌, ◌*◌, ◌^◌, ◌≤◌, ◌<◌}
use native.Mathlib.Omega.{arith}
use mathlib.Core.Bool.{Bool, true, false, cond}
use mathlib.Core.List.{List, [], ◌∷◌, ◌++◌, append-nil, append_assoc}
use lib.Dec.{eqb}
use lib.ListN.{length, get_or, drop, length-append}
use borrow.Author.Tests.{eq-eqb, ne_eqb}
use Rattle.lists.specs.Every.{all}
use Rattle.lists.proofs.Every.{all_append, all_nil}
use Rattle.lists.specs.Rows.{keys, later, row_with}
use Rattle.lists.specs.Select.{find, numbered, second_of}
use Rattle.lists.proofs.Rows.{there, one_found}
use Rattle.entities.specs.Records.{Issue}
use Rattle.entities.specs.Types.{lane_entity, same, opposing}
use Rattle.entities.specs.declared.Neighbor.{Neighbor}
use Rattle.rules.specs.Names.{NeighborDropped}
use Rattle.rules.specs.Edit.{warning}
use Rattle.rules.specs.Split.{dropped_beside}
use Rattle.tables.specs.View.{word, slot_at, rows}
use Rattle.row_tests.proofs.Tables.{table-some, table-few, row_room}
use Rattle.lookup.specs.Lookup.{row_at}
use Rattle.lookup.proofs.Laws.{word_in, next_in}
use Rattle.report.specs.Report.{issues, warned_at}
use Rattle.report.specs.declared.Notice.{Notice}
use Rattle.report.specs.declared.Notice.TheVariants as N
use Rattle.report.proofs.Warnings.{few, short, issues-short}
use Rattle.split_plan.specs.Placing.{picked, marked_rows}
use Rattle.split_plan.proofs.Turns.{first_rows, no_rows, every_row, row_more, row-none, row-rest}
use Rattle.split_lists.specs.Changes.{row_dropped, rows_dropped, Beside}
use Rattle.split_lists.proofs.Noted.{Stand, none-noted, stand-long, note-room, note-more}

-- ---- one slot

-- a warning where an id has no number
unnumbered : List (ℕ × ℕ) → ℕ → List Issue → List Issue
unnumbered hs i is = elim (second_of hs i) [ None ↦ is | Some k ↦ [] ]

later-there : (r : Option ℕ) → there (later r) ≡ there r
later-there (Some i) = refl
later-there None = refl

beside-found : (next i : ℕ) (cut : List ℕ) (is : List Issue) → unnumbered (numbered next cut) i is ≡ cond (there (row_with i cut)) [] is
unfolding unnumbered numbered row_with find
beside-found next i [] is = refl
beside-found next i (k ∷ cut) is = go (eqb k i) (beside-found (suc next) i cut is)
  where
    number : Option (ℕ × ℕ) → List Issue
    number o = elim (elim o as (λ q. Option ℕ) [ None ↦ None | Some h ↦ Some h.1 ]) [ None ↦ is | Some k ↦ [] ]

    go : (b : Bool) → number (find (λ h. eqb h.0 i) (numbered (suc next) cut)) ≡ cond (there (row_with i cut)) [] is
        → number (cond b (Some (k, next)) (find (λ h. eqb h.0 i) (numbered (suc next) cut))) ≡ cond (there (cond b (Some 0) (later (row_with i cut)))) [] is
    go true e = refl
    go false e = e ∙ ap (λ b. cond b [] is) (sym (later-there (row_with i cut)))

module _ (cut lanes : List ℕ) (next second at : ℕ) where
  abbrev warned-of : ℕ → List Issue
  warned-of lane = warning NeighborDropped (lane_entity second) (lane_entity lane ∷ []) ∷ []

  pub slot-free : get_or lanes at 0 ≡ 0 → issues None ≡ dropped_beside (numbered next cut) second (slot_at at lanes)
  slot-free e = rw (eq-eqb (get_or lanes at 0) 0 e)

  module _ (e : get_or lanes at 0 ≡ 0 → ⊥) where
    slot_held : dropped_beside (numbered next cut) second (slot_at at lanes) ≡ unnumbered (numbered next cut) (get_or lanes (at + 1) 0) (warned-of (get_or lanes (at + 1) 0))
    unfolding unnumbered
    slot_held =
        let s : at + 1 ≡ suc at = omega arith in
        rw (ne_eqb (get_or lanes at 0) 0 e, s) (go (eqb (get_or lanes at 0) 1))
      where
        lane : ℕ
        lane = get_or lanes (suc at) 0

        go : (b : Bool) → dropped_beside (numbered next cut) second (cond b (Some (same lane)) (Some (opposing lane))) ≡ elim (second_of (numbered next cut) lane) [ None ↦ warned-of lane | Some k ↦ [] ]
        go true = refl
        go false = refl

    module _ (f : Option ℕ) (g : f ≡ row_with (get_or lanes (at + 1) 0) (keys 1 (length cut) cut)) where
      held : dropped_beside (numbered next cut) second (slot_at at lanes) ≡ cond (there f) [] (warned-of (get_or lanes (at + 1) 0))
      held =
          slot_held ∙ beside-found next (get_or lanes (at + 1) 0) cut (warned-of (get_or lanes (at + 1) 0))
          ∙ ap (λ r. cond (there r) [] (warned-of (get_or lanes (at + 1) 0))) (one_found (get_or lanes (at + 1) 0) cut f g)

      pub slot-cut : there f ≡ true → issues None ≡ dropped_beside (numbered next cut) second (slot_at at lanes)
      slot-cut q = sym (held ∙ rw q)

      pub slot-uncut : there f ≡ false → issues (Some (N.Pair NeighborDropped second (get_or lanes (at + 1) 0))) ≡ dropped_beside (numbered next cut) second (slot_at at lanes)
      slot-uncut q = sym (held ∙ rw q)

-- ---- one row

slot_in_lem : (t : List ℕ) (i k : ℕ) → suc k < 52 → slot_at (1 + i * 52 + k) t ≡ slot_at k (row_at 52 t i)
slot_in_lem t i k h =
    let o : suc (1 + i * 52 + k) ≡ 1 + i * 52 + k + 1 = omega arith in
    let a : word (1 + i * 52 + k) t ≡ word k (row_at 52 t i) = word_in 52 t i k (omega arith) in
    let b : word (suc (1 + i * 52 + k)) t ≡ word (suc k) (row_at 52 t i) = ap (λ n. word n t) o ∙ next_in 52 t i k h in
    rw (a, b)

module _ (cut t : List ℕ) (next second i : ℕ) (l r : Option Notice) (a : issues l ≡ dropped_beside (numbered next cut) second (slot_at (1 + i * 52 + 14) t)) (b : issues r ≡ dropped_beside (numbered next cut) second (slot_at (1 + i * 52 + 16) t)) where
  abbrev row : List Issue
  row = row_dropped cut next second (row_at 52 t i)

  row_is : issues l ++ issues r ≡ row
  row_is = rw (a, b, slot_in_lem t i 14 (omega arith), slot_in_lem t i 16 (omega arith))

  row_count : length row ≡ length (issues l) + length (issues r)
  row_count = sym (ap length row_is) ∙ length-append (issues l) (issues r)

  pub row-counted : (x y : ℕ) → x ≡ length (issues l) → y ≡ length (issues r) → (x + y ≡ length row) × (x + y ≤ 2)
  row-counted x y e f = (omega (arith, row_count), omega (arith, few l, few r))

  module _ (w : List ℕ) (at : ℕ) (room : (at + length row) * 10 ≤ length w) where
    pub left-room : (at + length (issues l)) * 10 ≤ length w
    left-room = omega (arith, row_count)

    module _ (n : ℕ) (v : List ℕ) (e : n ≡ at + length (issues l)) (p : v ≡ warned_at at w (issues l)) where
      left-noted : Stand w at ([] ++ issues l) v n
      left-noted = note-more w at [] w at (none-noted w at) (issues l) (omega (arith, row_count)) (issues-short l) n v e p

      pub right-room : (n + length (issues r)) * 10 ≤ length v
      right-room = note-room w at (issues l) v n left-noted (issues r) (omega (arith, row_count))

      pub row-noted : (m : ℕ) (u : List ℕ) → m ≡ n + length (issues r) → u ≡ warned_at n v (issues r) → (m ≡ at + length row) × (u ≡ warned_at at w row)
      row-noted m u f q = (
        omega (arith, row_count),
        (note-more w at (issues l) v n left-noted (issues r) (omega (arith, row_count)) (issues-short r) m u f q).words ∙ ap (warned_at at w) row_is,
      )

-- each warning names one other lane
module _ (cut : List ℕ) (next second : ℕ) where
  slot-short : (o : Option Neighbor) → all short (dropped_beside (numbered next cut) second o) ≡ true
  slot-short None = all_nil short
  slot-short (Some n) = go (second_of (numbered next cut) n.lane)
    where
      go : (o : Option ℕ) → all short (elim o as (λ q. List Issue) [ None ↦ warning NeighborDropped (lane_entity second) (lane_entity n.lane ∷ []) ∷ [] | Some k ↦ [] ]) ≡ true
      go None = issues-short (Some (N.Pair NeighborDropped second n.lane))
      go (Some k) = all_nil short

  row-short : (w : List ℕ) → all short (row_dropped cut next second w) ≡ true
  row-short w =
      all_append short (dropped_beside (numbered next cut) second (slot_at 14 w)) (dropped_beside (numbered next cut) second (slot_at 16 w)) (slot-short (slot_at 14 w)) (slot-short (slot_at 16 w))

-- ---- the marked rows

module _ (cut : List ℕ) (next : ℕ) where
  rows_append : (k : ℕ) (ws vs : List (List ℕ)) → rows_dropped cut next k (ws ++ vs) ≡ rows_dropped cut next k ws ++ rows_dropped cut next (k + length ws) vs
  unfolding rows_dropped
  rows_append k [] vs = let e : k + 0 ≡ k = omega arith in rw e
  rows_append k (w ∷ ws) vs =
      let e : suc k + length ws ≡ k + suc (length ws) = omega arith in
      ap (λ (is : List Issue). row_dropped cut next k w ++ is) (rows_append (suc k) ws vs ∙ rw e)
      ∙ sym (append_assoc (row_dropped cut next k w) (rows_dropped cut next (suc k) ws) (rows_dropped cut next (k + suc (length ws)) vs))

  rows-one : (k : ℕ) (w : List ℕ) → rows_dropped cut next k (w ∷ []) ≡ row_dropped cut next k w
  unfolding rows_dropped
  rows-one k w = append-nil (row_dropped cut next k w)

  rows-cons : (k : ℕ) (w : List ℕ) (ws : List (List ℕ)) → length (row_dropped cut next k w) ≤ length (rows_dropped cut next k (w ∷ ws))
  unfolding rows_dropped
  rows-cons k w ws = omega (arith, length-append (row_dropped cut next k w) (rows_dropped cut next (suc k) ws))

  module _ (seen : List Bool) (t : List ℕ) where
    -- the warnings of the marked rows before row i
    abbrev first_dropped : ℕ → List Issue
    first_dropped i = rows_dropped cut next next (first_rows seen t i)

    none_dropped : first_dropped 0 ≡ []
    unfolding rows_dropped
    none_dropped = rw (no_rows seen t)

    pub record Numbers (i second : ℕ) : Type 0 where
      pub upto : i ≤ word 0 t
      pub number : second ≡ next + length (first_rows seen t i)

    pub numbers-begin : Numbers 0 next
    numbers-begin = record { upto = omega arith; number = rw (no_rows seen t) (omega arith) }

    module _ (h : Beside cut next seen t) where
      pub beside-some : 1 ≤ length t
      beside-some = table-some 1024 52 t h.counts

      module _ (i second : ℕ) (g : Numbers i second) (l : i < word 0 t) where
        pub beside-few : i < 1024
        beside-few = omega (arith, table-few 1024 52 t h.counts)

        pub beside-room : 1 + i * 52 + 52 ≤ length t
        beside-room = row_room 1024 52 t h.counts i l

        pub numbers-none : get_or seen i false ≡ false → (z : ℕ) → z ≡ second → Numbers (i + 1) z
        numbers-none m z e = record { upto = omega arith; number = rw (row-none seen t i l h.marks_there m) (e ∙ g.number) }

        dropped-same : get_or seen i false ≡ false → first_dropped (i + 1) ≡ first_dropped i
        dropped-same m = ap (rows_dropped cut next next) (row-none seen t i l h.marks_there m)

        module _ (m : get_or seen i false ≡ true) where
          pub number-below : second + 1 < 2 ^ 64
          number-below =
              let rest = picked (drop (i + 1) seen) (drop (i + 1) (rows 52 (λ (w : List ℕ). w) t)) in
              omega (arith, g.number, h.ids, h.many, ap length (row-rest seen t i l h.marks_there m), length-append (first_rows seen t i) (row_at 52 t i ∷ rest))

          pub numbers-one : (z : ℕ) → z ≡ second + 1 → Numbers (i + 1) z
          numbers-one z e =
              record {
                upto = omega arith;
                number = rw (row_more seen t i l h.marks_there m) (omega (arith, g.number, length-append (first_rows seen t i) (row_at 52 t i ∷ [])));
              }

          abbrev here : List Issue
          here = row_dropped cut next second (row_at 52 t i)

          dropped-more : first_dropped (i + 1) ≡ first_dropped i ++ here
          dropped-more =
              ap (rows_dropped cut next next) (row_more seen t i l h.marks_there m) ∙ rows_append next (first_rows seen t i) (row_at 52 t i ∷ [])
              ∙ ap (λ (is : List Issue). first_dropped i ++ is) (rows-one (next + length (first_rows seen t i)) (row_at 52 t i) ∙ ap (λ k. row_dropped cut next k (row_at 52 t i)) (sym g.number))

          dropped-room : length (first_dropped i) + length here ≤ length (rows_dropped cut next next (marked_rows seen t))
          dropped-room =
              let k = next + length (first_rows seen t i) in
              let rest = picked (drop (i + 1) seen) (drop (i + 1) (rows 52 (λ (w : List ℕ). w) t)) in
              let e : rows_dropped cut next next (marked_rows seen t) ≡ first_dropped i ++ rows_dropped cut next k (row_at 52 t i ∷ rest) =
              ap (rows_dropped cut next next) (row-rest seen t i l h.marks_there m) ∙ rows_append next (first_rows seen t i) (row_at 52 t i ∷ rest) in
              let f : length here ≤ length (rows_dropped cut next k (row_at 52 t i ∷ rest)) = rw g.number (rows-cons k (row_at 52 t i) rest) in
              omega (arith, ap length e, length-append (first_dropped i) (rows_dropped cut next k (row_at 52 t i ∷ rest)))

    -- ---- counted

    pub record Counted (i count : ℕ) : Type 0 where
      pub few : count ≤ i * 2
      pub counted : count ≡ length (first_dropped i)

    pub count-begins : Counted 0 0
    count-begins = record { few = omega arith; counted = rw none_dropped }

    module _ (h : Beside cut next seen t) (i count : ℕ) (k : Counted i count) where
      pub count-ends : i ≤ word 0 t → word 0 t ≤ i → (count ≡ length (rows_dropped cut next next (marked_rows seen t))) × (count ≤ 2048)
      count-ends u l = (k.counted ∙ ap (λ (ws : List (List ℕ)). length (rows_dropped cut next next ws)) (every_row seen t i l), omega (arith, k.few, table-few 1024 52 t h.counts))

      module _ (second : ℕ) (g : Numbers i second) (l : i < word 0 t) where
        pub count_none : get_or seen i false ≡ false → (z : ℕ) → z ≡ count → Counted (i + 1) z
        count_none m z e = record { few = omega (arith, k.few); counted = e ∙ k.counted ∙ ap length (sym (dropped-same h i second g l m)) }

        pub count-one : get_or seen i false ≡ true → (r z : ℕ) → (r ≡ length (row_dropped cut next second (row_at 52 t i))) × (r ≤ 2) → z ≡ count + r → Counted (i + 1) z
        count-one m r z e f =
            record {
              few = omega (arith, k.few, e.1);
              counted = omega (arith, k.counted, e.0, ap length (dropped-more h i second g l m), length-append (first_dropped i) (row_dropped cut next second (row_at 52 t i)));
            }

    -- ---- written

    module _ (w : List ℕ) (from : ℕ) where
      abbrev pub Warned : ℕ → List ℕ → ℕ → Type 0
      Warned i v at = Stand w from (first_dropped i) v at

      pub warned-begins : Warned 0 w from
      warned-begins = rw none_dropped (none-noted w from)

      module _ (h : Beside cut next seen t) (room : (from + length (rows_dropped cut next next (marked_rows seen t))) * 10 ≤ length w) (i : ℕ) (v : List ℕ) (at : ℕ) (s : Warned i v at) where
        pub warned-ends : word 0 t ≤ i → v ≡ warned_at from w (rows_dropped cut next next (marked_rows seen t))
        warned-ends l = s.words ∙ ap (λ (ws : List (List ℕ)). warned_at from w (rows_dropped cut next next ws)) (every_row seen t i l)

        pub warned-length : word 0 t ≤ i → length v ≡ length w
        warned-length l = stand-long w from (first_dropped i) v at s (rw (every_row seen t i l) room)

        module _ (second : ℕ) (g : Numbers i second) (l : i < word 0 t) where
          pub warned-none : get_or seen i false ≡ false → (u : List ℕ) (z : ℕ) → u ≡ v → z ≡ at → Warned (i + 1) u z
          warned-none m u z a b = rw (a, b, dropped-same h i second g l m) s

          module _ (m : get_or seen i false ≡ true) where
            fits : (from + (length (first_dropped i) + length (row_dropped cut next second (row_at 52 t i)))) * 10 ≤ length w
            fits = omega (arith, dropped-room h i second g l m)

            pub warned-room : (at + length (row_dropped cut next second (row_at 52 t i))) * 10 ≤ length v
            warned-room = note-room w from (first_dropped i) v at s (row_dropped cut next second (row_at 52 t i)) fits

            pub warned-one : (r : ℕ) (u : List ℕ) (z : ℕ) (y : List ℕ) → (r ≡ at + length (row_dropped cut next second (row_at 52 t i))) × (u ≡ warned_at at v (row_dropped cut next second (row_at 52 t i)))
                → y ≡ u → z ≡ r → Warned (i + 1) y z
            warned-one r u z y e a b =
                rw (a, b, dropped-more h i second g l m)
                (note-more w from (first_dropped i) v at s (row_dropped cut next second (row_at 52 t i)) fits (row-short cut next second (row_at 52 t i)) r u e.0 e.1)
