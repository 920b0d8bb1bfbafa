-- One turn of the loops over marked lanes, and their ends. Assumes nothing.
use Rattle.std.specs.Prelude.{Err, Ok}
use mathlib.Core.Path.{◌≡◌, refl, sym, ap, ◌∙◌}
use Prim.Native.Nat.{ℕ, ◌+◌, ◌*◌, ◌≤◌, ◌<◌}
use native.Mathlib.Omega.{arith}
use mathlib.Core.Bool.{Bool, true, false}
use mathlib.Core.List.{List, [], ◌∷◌, ◌++◌, map, map-append, append-nil}
use lib.Ieee.{Float}
use lib.ListN.{length, get_or, set, take, drop, length-append, length-map}
use lib.Seq.{take_all, take_at, drop-drop}
use Rattle.lists.specs.Rows.{over}
use Rattle.lists.proofs.Rows.{length-reads, get_d_reads, over-nil, store-behind}
use Rattle.rules.specs.Names.{Refusal}
use Rattle.rules.specs.Edit.{Res, ◌>>=◌, Passed, passed}
use Rattle.tables.specs.View.{word, rows}
use Rattle.row_tests.proofs.Lanes.{id-at}
use Rattle.lookup.specs.Lookup.{row_at}
use Rattle.split_plan.specs.Placing.{picked, marked_rows, all_of, good_of, all_pass, stations_told}
use Rattle.split_plan.proofs.Marked.{picked_none, Each, none, pick-one, pick-none, pick-rest, each_more, each-length, each_all, each-good, each-refused, good-refused, pass-more, pass-first}

-- what was told of one lane
pub at_told : (x : Res Float) (s : Float) → Ok s ≡ x → x ≡ Ok s
at_told (Err r) s e = let z : ◌≡◌ {A = ℕ} 0 1 = cc in absurd (omega arith)
at_told (Ok y) s e = let z : y ≡ s = cc in rw z

pub refused-told : (x : Res Float) (r : Refusal) → Err r ≡ x → x ≡ Err r
refused-told (Err q) r e = let z : q ≡ r = cc in rw z
refused-told (Ok y) r e = let z : ◌≡◌ {A = ℕ} 0 1 = cc in absurd (omega arith)

passed-told : (x : Res Passed) → (Ok passed) ≡ x → x ≡ Ok passed
passed-told (Err q) e = let z : ◌≡◌ {A = ℕ} 0 1 = cc in absurd (omega arith)
passed-told (Ok passed) e = refl

uncrossed_told : (x : Res Passed) (r : Refusal) → Err r ≡ x → x ≡ Err r
uncrossed_told (Err q) r e = let z : q ≡ r = cc in rw z
uncrossed_told (Ok y) r e = let z : ◌≡◌ {A = ℕ} 0 1 = cc in absurd (omega arith)

-- the marked rows before row j
abbrev pub first_rows : List Bool → List ℕ → ℕ → List (List ℕ)
first_rows s t j = picked s (take j (rows 52 (λ w. w) t))

module _ (s : List Bool) (t : List ℕ) where
  rows-length : length (rows 52 (λ (w : List ℕ). w) t) ≡ word 0 t
  unfolding rows
  rows-length = length-reads 52 (λ (w : List ℕ). w) (word 0 t) (drop 1 t)

  pub no_rows : first_rows s t 0 ≡ []
  no_rows = picked_none s

  pub every_row : (j : ℕ) → word 0 t ≤ j → first_rows s t j ≡ marked_rows s t
  every_row j h = ap (picked s) (take_all j (rows 52 (λ (w : List ℕ). w) t) (omega (arith, rows-length)))

  module _ (j : ℕ) (b : j < word 0 t) (c : word 0 t ≤ length s) where
    row_is : get_or (rows 52 (λ (w : List ℕ). w) t) j [] ≡ row_at 52 t j
    unfolding rows
    row_is = get_d_reads 52 (λ (w : List ℕ). w) (word 0 t) j (drop 1 t) [] b ∙ rw drop-drop

    within : j < length (rows 52 (λ (w : List ℕ). w) t)
    within = omega (arith, rows-length)

    pub row_more : get_or s j false ≡ true → first_rows s t (j + 1) ≡ first_rows s t j ++ (row_at 52 t j ∷ [])
    row_more m = pick-one s (rows 52 (λ (w : List ℕ). w) t) j [] within (omega arith) m ∙ rw row_is

    pub row-none : get_or s j false ≡ false → first_rows s t (j + 1) ≡ first_rows s t j
    row-none m = pick-none s (rows 52 (λ (w : List ℕ). w) t) j [] within (omega arith) m

    -- the rows behind it
    abbrev rest : List (List ℕ)
    rest = picked (drop (j + 1) s) (drop (j + 1) (rows 52 (λ (w : List ℕ). w) t))

    pub row-rest : get_or s j false ≡ true → marked_rows s t ≡ first_rows s t j ++ (row_at 52 t j ∷ rest)
    row-rest m = pick-rest s (rows 52 (λ (w : List ℕ). w) t) j [] within (omega arith) m ∙ rw row_is

-- ---- stations and ids

-- lists at entry, lists at the turn: m lanes of the rows before j have a station
pub record Written (f : List ℕ → Res Float) (s : List Bool) (t cut₀ : List ℕ) (stations₀ : List Float) (cut : List ℕ) (stations : List Float) (m j : ℕ) : Type 0 where
  pub each : Each f (first_rows s t j) (good_of f (first_rows s t j))
  pub counted : m ≡ length (first_rows s t j)
  pub ids : cut ≡ over cut₀ 0 (map (word 0) (first_rows s t j))
  pub values : stations ≡ over stations₀ 0 (good_of f (first_rows s t j))

pub written_none : (f : List ℕ → Res Float) (s : List Bool) (t cut₀ : List ℕ) (stations₀ : List Float) → Written f s t cut₀ stations₀ cut₀ stations₀ 0 0
unfolding good_of
written_none f s t cut₀ stations₀ =
    record {
      each = rw (no_rows s t) none;
      counted = rw (no_rows s t);
      ids = rw (no_rows s t) (sym (over-nil cut₀ 0));
      values = rw (no_rows s t) (sym (over-nil stations₀ 0));
    }

module _ (f : List ℕ → Res Float) (s : List Bool) (t cut₀ : List ℕ) (stations₀ : List Float) (cut : List ℕ) (stations : List Float) (m j : ℕ) (w : Written f s t cut₀ stations₀ cut stations m j) where
  abbrev before : List (List ℕ)
  before = first_rows s t j

  good_length : length (good_of f before) ≡ m
  good_length = each-length f w.each ∙ sym w.counted

  module _ (b : j < word 0 t) (c : word 0 t ≤ length s) where
    pub turn-none : get_or s j false ≡ false → Written f s t cut₀ stations₀ cut stations m (j + 1)
    turn-none q =
        let e : before ≡ first_rows s t (j + 1) = sym (row-none s t j b c q) in
        record {
          each = rw (← e) w.each;
          counted = w.counted ∙ ap length e;
          ids = w.ids ∙ ap (λ (l : List (List ℕ)). over cut₀ 0 (map (word 0) l)) e;
          values = w.values ∙ ap (λ (l : List (List ℕ)). over stations₀ 0 (good_of f l)) e;
        }

    module _ (q : get_or s j false ≡ true) where
      module _ (d : m < length cut₀) (e : m < length stations₀) (y : Float) (g : f (row_at 52 t j) ≡ Ok y) where
        now : Each f (first_rows s t (j + 1)) (good_of f before ++ (y ∷ []))
        now = rw (row_more s t j b c q) (each_more f w.each (row_at 52 t j) y g)

        good : good_of f (first_rows s t (j + 1)) ≡ good_of f before ++ (y ∷ [])
        unfolding good_of
        good = sym (ap (good_of f) (append-nil (first_rows s t (j + 1)))) ∙ each-good f now [] ∙ append-nil (good_of f before ++ (y ∷ []))

        pub turn_one : Written f s t cut₀ stations₀ (set cut m (get_or t (1 + j * 52) 0)) (set stations m y) (m + 1) (j + 1)
        turn_one =
            record {
              each = rw good now;
              counted = rw (row_more s t j b c q, length-append) (omega (arith, w.counted));
              ids =
                  ap (λ (v : List ℕ). set v m (get_or t (1 + j * 52) 0)) w.ids
                  ∙ store-behind cut₀ 0 m (map (word 0) before) (get_or t (1 + j * 52) 0) (omega (arith, length-map before (word 0), w.counted)) d
                  ∙ ap (over cut₀ 0) (ap (λ (x : ℕ). map (word 0) before ++ (x ∷ [])) (id-at t j) ∙ sym (ap (map (word 0)) (row_more s t j b c q) ∙ map-append (word 0) before (row_at 52 t j ∷ [])));
              values =
                  ap (λ (v : List Float). set v m y) w.values
                  ∙ store-behind stations₀ 0 m (good_of f before) y (omega (arith, good_length)) e
                  ∙ ap (over stations₀ 0) (sym good);
            }

      module _ (r : Refusal) (g : f (row_at 52 t j) ≡ Err r) where
        good-all : good_of f (marked_rows s t) ≡ good_of f before
        good-all =
            ap (good_of f) (row-rest s t j b c q) ∙ each-good f w.each (row_at 52 t j ∷ rest s t j b c)
            ∙ ap (λ (l : List Float). good_of f before ++ l) (good-refused f (row_at 52 t j) r (rest s t j b c) g) ∙ append-nil (good_of f before)

        pub turn-stops : (Err r ≡ stations_told (all_of f (marked_rows s t)))
            × ((cut ≡ over cut₀ 0 (map (word 0) (take (length (good_of f (marked_rows s t))) (marked_rows s t)))) × (stations ≡ over stations₀ 0 (good_of f (marked_rows s t))))
        turn-stops =
            let all : all_of f (marked_rows s t) ≡ Err r = ap (all_of f) (row-rest s t j b c q) ∙ each-refused f w.each (row_at 52 t j) r (rest s t j b c) g in
            let n : length before ≡ length (good_of f (marked_rows s t)) = sym (ap length good-all ∙ each-length f w.each) in
            let front : take (length (good_of f (marked_rows s t))) (marked_rows s t) ≡ before =
            ap (take (length (good_of f (marked_rows s t)))) (row-rest s t j b c q) ∙ take_at before (row_at 52 t j ∷ rest s t j b c) (length (good_of f (marked_rows s t))) n in
            (rw all, (w.ids ∙ ap (λ (l : List (List ℕ)). over cut₀ 0 (map (word 0) l)) (sym front), w.values ∙ ap (over stations₀ 0) (sym good-all)))

  pub turn-ends : word 0 t ≤ j → (Ok m ≡ stations_told (all_of f (marked_rows s t)))
      × ((cut ≡ over cut₀ 0 (map (word 0) (take (length (good_of f (marked_rows s t))) (marked_rows s t)))) × (stations ≡ over stations₀ 0 (good_of f (marked_rows s t))))
  turn-ends h =
      let here : first_rows s t j ≡ marked_rows s t = every_row s t j h in
      let n : length (marked_rows s t) ≤ length (good_of f (marked_rows s t)) = rw (← here) (omega (arith, each-length f w.each)) in
      let front : take (length (good_of f (marked_rows s t))) (marked_rows s t) ≡ before = take_all (length (good_of f (marked_rows s t))) (marked_rows s t) n ∙ sym here in
      let all : all_of f (marked_rows s t) ≡ Ok (good_of f before) = sym (ap (all_of f) here) ∙ each_all f w.each in
      (rw (all, good_length), (w.ids ∙ ap (λ (l : List (List ℕ)). over cut₀ 0 (map (word 0) l)) (sym front), w.values ∙ ap (λ (l : List (List ℕ)). over stations₀ 0 (good_of f l)) here))

-- ---- crossings

pub cross-begins : (f : List ℕ → Res Passed) (s : List Bool) (t : List ℕ) → all_pass f (first_rows s t 0) ≡ Ok passed
unfolding all_pass
cross-begins f s t = rw (no_rows s t)

module _ (f : List ℕ → Res Passed) (s : List Bool) (t : List ℕ) (j : ℕ) (v : all_pass f (first_rows s t j) ≡ Ok passed) where
  module _ (b : j < word 0 t) (c : word 0 t ≤ length s) where
    pub cross-none : get_or s j false ≡ false → all_pass f (first_rows s t (j + 1)) ≡ Ok passed
    cross-none q = rw (row-none s t j b c q) v

    pub cross-one : get_or s j false ≡ true → (Ok passed) ≡ f (row_at 52 t j) → all_pass f (first_rows s t (j + 1)) ≡ Ok passed
    unfolding all_pass
    cross-one q g = ap (all_pass f) (row_more s t j b c q) ∙ pass-more f (first_rows s t j) (row_at 52 t j ∷ []) v ∙ rw (passed-told (f (row_at 52 t j)) g)

    pub cross-stops : get_or s j false ≡ true → (r : Refusal) → Err r ≡ f (row_at 52 t j) → Err r ≡ all_pass f (marked_rows s t)
    cross-stops q r g =
        let e : all_pass f (marked_rows s t) ≡ (f (row_at 52 t j) >>= λ _. all_pass f (rest s t j b c)) =
        ap (all_pass f) (row-rest s t j b c q) ∙ pass-more f (first_rows s t j) (row_at 52 t j ∷ rest s t j b c) v ∙ pass-first f (row_at 52 t j) (rest s t j b c) in
        rw (e, uncrossed_told (f (row_at 52 t j)) r g)

  pub cross-ends : word 0 t ≤ j → (Ok passed) ≡ all_pass f (marked_rows s t)
  cross-ends h = let e : all_pass f (marked_rows s t) ≡ Ok passed = sym (ap (all_pass f) (every_row s t j h)) ∙ v in rw e
