-- Marks side by side, and as many entities as marks. Assumes nothing.
use mathlib.Core.Path.{◌≡◌, refl, sym, ap, ◌∙◌, subst}
use Prim.Native.Nat.{ℕ, suc, ◌+◌, ◌*◌, ◌≤◌}
use native.Mathlib.Omega.{arith}
use mathlib.Core.Bool.{Bool, true, false}
use mathlib.Core.List.{List, [], ◌∷◌, ◌++◌}
use lib.ListN.{length, take, drop, length-append, length-map}
use Rattle.lists.proofs.Rows.{length-reads}
use Rattle.rules.specs.Names.{EntityKind, LaneKind, BoundaryKind, RoadKind, JunctionKind, RuleKind}
use Rattle.rules.specs.Edit.{refs}
use Rattle.tables.specs.View.{word, rows}
use Rattle.report.specs.Report.{listed}
use Rattle.split_plan.specs.Placing.{picked}
use Rattle.split_marks.specs.Touched.{marked}
use Rattle.split_lists.specs.Changes.{marked_ids, modified_by}
use Rattle.split_touched.specs.Modified.{Rows, Marks, AsLong, blank, Told, touched_by, listed_by, modified_of, AllRows}

-- ---- as many as marks

many : {A : Type 0} (bs : List Bool) (xs : List A) → length (picked bs xs) ≡ marked (take (length xs) bs)
unfolding picked marked
many [] [] = refl
many [] (x ∷ xs) = refl
many (b ∷ bs) [] = refl
many (true ∷ bs) (x ∷ xs) = ap suc (many bs xs)
many (false ∷ bs) (x ∷ xs) = many bs xs

refs-many : (kind : EntityKind) (s : ℕ) (bs : List Bool) (t : List ℕ) → length (refs kind (marked_ids s bs t)) ≡ marked (take (word 0 t) bs)
unfolding rows
refs-many kind s bs t =
    length-map (marked_ids s bs t) (λ i. record { kind = kind; id = i })
    ∙ (length-map (picked bs (rows s (λ w. w) t)) (word 0) ∙ (many bs (rows s (λ w. w) t) ∙ ap (λ n. marked (take n bs)) (length-reads s (λ (w : List ℕ). w) (word 0 t) (drop 1 t))))

module _ (t : Rows) (w : Marks) where
  listed-many : length (listed_by t w)
      ≡ marked (take (word 0 t.lanes) w.lanes) + marked (take (word 0 t.boundaries) w.boundaries) + marked (take (word 0 t.roads) w.roads) + marked (take (word 0 t.junctions) w.junctions)
      + marked (take (word 0 t.rules) w.rules)
  unfolding modified_by
  listed-many =
      let a = refs LaneKind (marked_ids 52 w.lanes t.lanes) in
      let b = refs BoundaryKind (marked_ids 5 w.boundaries t.boundaries) in
      let c = refs RoadKind (marked_ids 68 w.roads t.roads) in
      let d = refs JunctionKind (marked_ids 69 w.junctions t.junctions) in
      let e = refs RuleKind (marked_ids 330 w.rules t.rules) in
      omega (
        arith,
        length-append a (b ++ (c ++ (d ++ e))),
        length-append b (c ++ (d ++ e)),
        length-append c (d ++ e),
        length-append d e,
        refs-many LaneKind 52 w.lanes t.lanes,
        refs-many BoundaryKind 5 w.boundaries t.boundaries,
        refs-many RoadKind 68 w.roads t.roads,
        refs-many JunctionKind 69 w.junctions t.junctions,
        refs-many RuleKind 330 w.rules t.rules,
      )

-- ---- marks as they were found

module _ (k : Told) (t : Rows) (w : Marks) (found : w ≡ touched_by k t blank) where
  pub counted-told : (a b c d e : ℕ) → a ≡ marked (take (word 0 t.lanes) w.lanes) → b ≡ marked (take (word 0 t.boundaries) w.boundaries) → c ≡ marked (take (word 0 t.roads) w.roads)
      → d ≡ marked (take (word 0 t.junctions) w.junctions) → e ≡ marked (take (word 0 t.rules) w.rules) → a + b + c + d + e ≡ length (modified_of k t)
  unfolding modified_of
  counted-told a b c d e ea eb ec ed ee = omega (arith, listed-many t w) ∙ ap (λ v. length (listed_by t v)) found

  pub listed-room : (m : List ℕ) → length (modified_of k t) * 2 ≤ length m → length (listed_by t w) * 2 ≤ length m
  unfolding modified_of
  listed-room m h = subst (λ v. length (listed_by t v) * 2 ≤ length m) (sym found) h

  pub listed-told : (m v : List ℕ) → v ≡ listed m (listed_by t w) → v ≡ listed m (modified_of k t)
  unfolding modified_of
  listed-told m v e = e ∙ ap (λ x. listed m (listed_by t x)) found

-- marks of the same lengths serve as well
pub rows-listed : (t : Rows) (v w : Marks) → AsLong v w → AllRows t v → AllRows t w
rows-listed t v w s h =
    record {
      lanes_listed = record { some_words = h.lanes_listed.some_words; narrow = h.lanes_listed.narrow; few = h.lanes_listed.few; counts = h.lanes_listed.counts; marks_there = omega (arith, h.lanes_listed.marks_there, s.lanes) };
      boundaries_listed =
          record { some_words = h.boundaries_listed.some_words; narrow = h.boundaries_listed.narrow; few = h.boundaries_listed.few; counts = h.boundaries_listed.counts; marks_there = omega (arith, h.boundaries_listed.marks_there, s.boundaries) };
      roads_listed = record { some_words = h.roads_listed.some_words; narrow = h.roads_listed.narrow; few = h.roads_listed.few; counts = h.roads_listed.counts; marks_there = omega (arith, h.roads_listed.marks_there, s.roads) };
      junctions_listed =
          record { some_words = h.junctions_listed.some_words; narrow = h.junctions_listed.narrow; few = h.junctions_listed.few; counts = h.junctions_listed.counts; marks_there = omega (arith, h.junctions_listed.marks_there, s.junctions) };
      rules_listed = record { some_words = h.rules_listed.some_words; narrow = h.rules_listed.narrow; few = h.rules_listed.few; counts = h.rules_listed.counts; marks_there = omega (arith, h.rules_listed.marks_there, s.rules) };
    }
