-- The whole: what `settle` asks is what its parts ask, and what they leave is the layout. Assumes nothing.
use mathlib.Core.Path.{◌≡◌, sym, ap, ◌∙◌}
use mathlib.Core.Logic.{⊎_elim}
use mathlib.Core.Bool.{true, or-true}
use mathlib.Core.List.{List, [], ◌∷◌}
use Prim.Native.Nat.{ℕ, ◌+◌, ◌*◌, ◌/◌, ◌≤◌}
use native.Mathlib.Omega.{arith}
use lib.Dec.{eqb, leb}
use lib.ListN.{length}
use lib.Ieee.{Float}
use borrow.Author.Tests.{eq-eqb, le-leb, leb-true}
use Rattle.lists.specs.Every.{all}
use Rattle.lists.specs.Rows.{over}
use Rattle.lists.proofs.Every.{all_nil, all_cons, all_head, all_tail}
use Rattle.lists.proofs.Select.{all-weaken}
use Rattle.tables.specs.View.{Tables}
use Rattle.tables.specs.Formed.{Span, spans}
use Rattle.apart.specs.Marks.{within}
use Rattle.apart.proofs.Marks.{within_end}
use Rattle.layout.specs.Layout.{line_floats, points_in, counted_lines, gathered, sourced, pointing}
use Rattle.order.specs.Order.{behind_all}
use Rattle.in_place.specs.Settle.{down_all, up_all, started, lies, Movable, Placed, Settleable}
use Rattle.in_place.proofs.Moves.{lies-cases, length-sourced}
use Rattle.order.proofs.Heads.{Loose, Stored, line-cases, first_any, first-stored}
use Rattle.in_place.proofs.Settled.{Settles, settled}

-- ---- lines in order lie

module _ (reach n : ℕ) (s : Span) where
  lies-none : s.size ≡ 0 → lies reach n s ≡ true
  lies-none e = rw (eq-eqb s.size 0 e)

  lies-near : s.start + s.size ≤ reach → lies reach n s ≡ true
  lies-near h = rw (le-leb (s.start + s.size) reach h) (or-true (eqb s.size 0))

  lies-far : reach ≤ s.start → s.start + s.size ≤ reach + n → lies reach n s ≡ true
  lies-far h g = rw (le-leb reach s.start h, le-leb (s.start + s.size) (reach + n) g, or-true (leb (s.start + s.size) reach)) (or-true (eqb s.size 0))

first-lies : (reach n from : ℕ) (s : Span) (ss : List Span) → within (reach + n) s ≡ true → behind_all reach from (s ∷ ss) ≤ reach → (lies reach n s ≡ true) × ((q : ℕ) × (behind_all reach q ss ≤ reach))
first-lies reach n from s ss w o = ⊎_elim loose stored (line-cases reach s)
  where
    loose : Loose reach s → (lies reach n s ≡ true) × ((q : ℕ) × (behind_all reach q ss ≤ reach))
    loose e = (⊎_elim (lies-none reach n s) (λ f. lies-far reach n s f.1 (within_end (reach + n) s w f.0)) e, (from, first_any reach from s ss e o))

    stored : Stored reach s → (lies reach n s ≡ true) × ((q : ℕ) × (behind_all reach q ss ≤ reach))
    stored e = let i = first-stored reach from s ss e.0 e.1 o in (lies-near reach n s i.1.0, (s.start + s.size, i.1.1))

-- lines among all points that are in order
pub ordered-lie : (reach n from : ℕ) (ss : List Span) → all (within (reach + n)) ss ≡ true → behind_all reach from ss ≤ reach → all (lies reach n) ss ≡ true
ordered-lie reach n from [] h o = all_nil (lies reach n)
ordered-lie reach n from (s ∷ ss) h o =
    let f = first-lies reach n from s ss (all_head (within (reach + n)) s ss h) o in
    all_cons (lies reach n) s ss f.0 (ordered-lie reach n f.1.0 ss (all_tail (within (reach + n)) s ss h) f.1.1)

lies_more : (reach n m : ℕ) (s : Span) → n ≤ m → lies reach n s ≡ true → lies reach m s ≡ true
lies_more reach n m s l h = ⊎_elim (lies-none reach m s) (λ e. ⊎_elim (lies-near reach m s) (λ f. lies-far reach m s f.0 (further f.1)) e) (lies-cases reach n s h)
  where
    further : s.start + s.size ≤ reach + n → s.start + s.size ≤ reach + m
    further e = omega arith

-- ---- what the parts ask

-- neither lines nor counts see the coordinates
placed_pointing : (reach n : ℕ) (t : Tables) (c : List Float) → Placed reach n t → Placed reach n (pointing c t)
placed_pointing reach n t c p = record { counts = unfold counted_lines in p.counts; lines = unfold spans in p.lines }

module _ (reach : ℕ) (drawn : List Float) (t : Tables) (h : Settleable reach drawn t) where
  in_order : behind_all reach 0 (spans t) ≤ reach
  in_order = leb-true (behind_all reach 0 (spans t)) reach h.ordered

  lying : all (lies reach (length drawn / 3)) (spans t) ≡ true
  lying =
      let e : length (sourced reach t.coordinates drawn) / 3 ≡ reach + length drawn / 3 = omega (arith, length-sourced drawn reach t.coordinates h.layable.stored) in
      ordered-lie reach (length drawn / 3) 0 (spans t) (rw e at h.layable.gatherable.fits) in_order

  pub placed-down : Placed reach 65536 t
  placed-down =
      let n : length drawn / 3 ≤ 65536 = omega (arith, h.layable.few) in
      record { counts = h.layable.gatherable.counts; lines = all-weaken (lies reach (length drawn / 3)) (lies reach 65536) (spans t) (λ s. lies_more reach (length drawn / 3) 65536 s n) lying }

  pub movable_down : Movable reach [] t.coordinates (points_in (spans t))
  movable_down = record { near = h.layable.near; stored = h.layable.stored; few = omega arith; room = h.layable.gatherable.room }

  module _ (t₁ : Tables) (c₁ : List Float) (e₁ : t₁ ≡ pointing c₁ t) where
    pub up_asks : (end : ℕ) → length t₁.coordinates ≡ length t.coordinates → end ≡ points_in (spans t) → (Placed reach (length drawn / 3) t₁) × ((end ≡ points_in (spans t₁)) × (Movable reach drawn t₁.coordinates end))
    up_asks end l e =
        let n : length c₁ ≡ length t.coordinates = sym (ap (λ (z : Tables). length z.coordinates) e₁) ∙ l in
        rw e₁ (placed_pointing reach (length drawn / 3) t c₁ (record { counts = h.layable.gatherable.counts; lines = lying }), (unfold spans in e, record { near = h.layable.near; stored = omega (arith, h.layable.stored); few = h.layable.few; room = omega (arith, h.layable.gatherable.room) }))

    module _ (t₂ : Tables) (c₂ : List Float) (e₂ : t₂ ≡ pointing c₂ t₁) where
      pub starts_ask : (counted_lines t₂ ≡ true) × (points_in (spans t₂) * 3 ≤ length t.coordinates)
      starts_ask = rw (e₂, e₁) (unfold counted_lines in h.layable.gatherable.counts, unfold spans in h.layable.gatherable.room)

  -- ---- what they leave

  pub settled-tables : (t₁ t₂ t₃ : Tables) → t₁ ≡ pointing (down_all reach 0 (spans t) t.coordinates) t → t₂ ≡ pointing (up_all drawn reach 0 (spans t₁) t₁.coordinates) t₁
      → t₃ ≡ started t₂ → t₃ ≡ gathered (sourced reach t.coordinates drawn) t
  unfolding spans
  settled-tables t₁ t₂ t₃ d u r =
      let c₁ = down_all reach 0 (spans t) t.coordinates in
      let f : Settles drawn reach 0 0 (spans t) t.coordinates = record { stored = h.layable.stored; room = omega (arith, h.layable.gatherable.room); lying = lying; ordered = in_order } in
      r ∙ (ap started (u ∙ ap (λ z. pointing (up_all drawn reach 0 (spans z) z.coordinates) z) d) ∙ laid (up_all drawn reach 0 (spans t) c₁) (sourced reach t.coordinates drawn) (settled drawn reach (spans t) 0 0 t.coordinates f))
    where
      laid : (c₂ work : List Float) → c₂ ≡ over t.coordinates 0 (line_floats work (spans t)) → started (pointing c₂ t) ≡ gathered work t
      laid c₂ work e = unfold gathered in rw e
