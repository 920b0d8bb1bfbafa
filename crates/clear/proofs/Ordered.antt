-- Lines that lie in order share no point. Assumes nothing.
use mathlib.Core.Path.{◌≡◌, refl, sym, ap, ◌∙◌}
use mathlib.Core.Logic.{inl, ⊎_elim}
use mathlib.Core.Bool.{Bool, true, false, ◌&&◌, ◌||◌, true≢false}
use mathlib.Core.List.{List, [], ◌∷◌}
use Prim.Native.Nat.{ℕ, ◌+◌, ◌≤◌}
use native.Mathlib.Omega.{arith}
use lib.Dec.{eqb, leb}
use borrow.Author.Tests.{eq-eqb, le-leb, leb-true}
use Rattle.lists.specs.Every.{all}
use Rattle.lists.proofs.Booleans.{and_both, and-fst, and-snd, or_left, or_right}
use Rattle.lists.proofs.Every.{all_nil, all_cons, all_head, all_tail}
use Rattle.lists.proofs.Select.{all-weaken}
use Rattle.tables.specs.View.{Tables}
use Rattle.tables.specs.Formed.{Span, clear, all_clear, counted, spans}
use Rattle.apart.specs.Marks.{within, takeable, rest_takeable, rest_spans, line_spans}
use Rattle.apart.proofs.Marks.{or_cases, within-cases}
use Rattle.layout.proofs.Room.{within_more}
use Rattle.apart.proofs.Stored.{all-facts, spans-lines}
use Rattle.layout.specs.Layout.{line_tables, counted_lines}
use Rattle.order.specs.Order.{behind_all, in_order}
use Rattle.order.proofs.Heads.{Stored, line-cases, first_any, first-stored}

-- a line that has points starts at a point or behind it
abbrev starts_at : ℕ → Span → Bool
starts_at from t = eqb t.size 0 || leb from t.start

starts-later : (from at : ℕ) (ss : List Span) → from ≤ at → all (starts_at at) ss ≡ true → all (starts_at from) ss ≡ true
starts-later from at ss l h =
    all-weaken (starts_at at) (starts_at from) ss
    (λ t g. ⊎_elim (λ e. or_left (eqb t.size 0) (leb from t.start) e) (λ e. or_right (eqb t.size 0) (leb from t.start) (le-leb from t.start (let k = leb-true at t.start e in omega arith))) (or_cases (eqb t.size 0) (leb at t.start) g)) h

-- a line without points is clear of all; one is clear of those that start behind it
clear_none : (s : Span) (ss : List Span) → s.size ≡ 0 → all (clear s) ss ≡ true
unfolding all
clear_none s [] e = refl
clear_none s (t ∷ ss) e = rw (eq-eqb s.size 0 e) (clear_none s ss e)

clear-before : (s : Span) (ss : List Span) → all (starts_at (s.start + s.size)) ss ≡ true → all (clear s) ss ≡ true
clear-before s ss h =
    all-weaken (starts_at (s.start + s.size)) (clear s) ss (λ t g. go (eqb s.size 0) (eqb t.size 0) (leb (s.start + s.size) t.start) (leb (t.start + t.size) s.start) g) h
  where
    go : (a b c d : Bool) → (b || c) ≡ true → (a || b || c || d) ≡ true
    go true b c d h = refl
    go false true c d h = refl
    go false false true d h = refl
    go false false false d h = absurd (true≢false (sym h))

abbrev Clear : ℕ → ℕ → List Span → Type 0
Clear reach from ss = (all (starts_at from) ss ≡ true) × (all_clear ss ≡ true)

-- lines in order from a point on start there or behind it, and are clear of one another
ordered-clear : (reach from : ℕ) (ss : List Span) → all (within reach) ss ≡ true → behind_all reach from ss ≤ reach → Clear reach from ss
unfolding all_clear
ordered-clear reach from [] w h = (all_nil (starts_at from), refl)
ordered-clear reach from (s ∷ ss) w h =
    go (λ q g. ordered-clear reach q ss (all_tail (within reach) s ss w) g)
  where
    go : ((q : ℕ) → behind_all reach q ss ≤ reach → Clear reach q ss) → Clear reach from (s ∷ ss)
    go next = ⊎_elim (⊎_elim none far) stored (line-cases reach s)
      where
        none : s.size ≡ 0 → Clear reach from (s ∷ ss)
        none e =
            let r = next from (first_any reach from s ss (inl e) h) in
            (all_cons (starts_at from) s ss (or_left (eqb s.size 0) (leb from s.start) (eq-eqb s.size 0 e)) r.0, and_both (all (clear s) ss) (all_clear ss) (clear_none s ss e) r.1)

        far : (s.size ≡ 0 → ⊥) × (reach ≤ s.start) → Clear reach from (s ∷ ss)
        far e = ⊎_elim none (λ k. absurd (e.0 (omega arith))) (within-cases reach s (all_head (within reach) s ss w))

        stored : Stored reach s → Clear reach from (s ∷ ss)
        stored e =
            let f = first-stored reach from s ss e.0 e.1 h in
            let r = next (s.start + s.size) f.1.1 in (
              all_cons (starts_at from) s ss (or_right (eqb s.size 0) (leb from s.start) (le-leb from s.start f.0)) (starts-later from (s.start + s.size) ss (omega (arith, f.0)) r.0),
              and_both (all (clear s) ss) (all_clear ss) (clear-before s ss r.0) r.1,
            )

-- ---- the lines of tables

module _ (lanes boundaries stops crosswalks : List ℕ) (h : takeable 65536 lanes boundaries stops crosswalks ≡ true) where
  abbrev tables : Tables
  tables = line_tables lanes boundaries stops crosswalks []

  -- what the test of the order asks
  pub order-may : (counted_lines tables ≡ true) × (all (within 131072) (spans tables) ≡ true)
  unfolding counted_lines rest_takeable
  order-may =
      let f = all-facts 65536 lanes boundaries stops crosswalks h in
      let a = counted 1024 52 lanes in
      let b = counted 4096 5 boundaries in
      let c = counted 512 4 stops in
      let d = counted 128 7 crosswalks in
      let r = and-fst (c && d) (all (within 65536) (rest_spans stops crosswalks)) f.1.1.1 in (
        and_both (a && b && c) d (and_both (a && b) c (and_both a b f.0 f.1.0) (and-fst c d r)) (and-snd c d r),
        ap (all (within 131072)) (spans-lines tables) ∙ all-weaken (within 65536) (within 131072) (line_spans lanes boundaries stops crosswalks) (within_more 65536 131072 (omega arith)) f.1.1.0,
      )

  -- lines in order are clear of one another
  pub order_clears : (r : Bool) → r ≡ in_order 65536 (spans tables) → r ≡ true → true ≡ all_clear (line_spans lanes boundaries stops crosswalks)
  order_clears r e t =
      sym (ap all_clear (sym (spans-lines tables)) ∙ (ordered-clear 65536 0 (spans tables) (ap (all (within 65536)) (spans-lines tables) ∙ (all-facts 65536 lanes boundaries stops crosswalks h).1.1.0) (leb-true (behind_all 65536 0 (spans tables)) 65536 (sym e ∙ t))).1)
