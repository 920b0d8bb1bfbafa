-- The last steps of a split, from pieces that are listed to the end: what they ask, and that each ends as the next one does. Assumes nothing.
use Rattle.std.specs.Prelude.{Err}
use mathlib.Core.Path.{◌≡◌, sym, ap, ◌∙◌, subst}
use Prim.Native.Nat.{ℕ, ◌+◌, ◌^◌, ◌≤◌, ◌<◌}
use native.Mathlib.Omega.{arith}
use mathlib.Core.Bool.{Bool, true, false}
use mathlib.Core.List.{List}
use lib.Ieee.{Float}
use lib.ListN.{length, replicate, length-replicate}
use Rattle.lists.specs.Rows.{over}
use Rattle.rules.specs.Names.{Tolerance, Point2, NoRoom}
use Rattle.tables.specs.View.{Tables}
use Rattle.order.specs.Order.{column_of}
use Rattle.report.specs.Report.{counter_behind, Answer}
use Rattle.step.specs.Step.{Ended, ended}
use Rattle.split_lines.specs.Cut.{Measurable, chosen_lines, drawn_pieces, measured}
use Rattle.split_relay.specs.Relaying.{Cutting, cutting, drawn_points}
use Rattle.split_made.specs.declared.Drawn.{Drawn}
use Rattle.split_made.specs.Made.{Left, Makeable, fits_after, left, lined, split_made}
use Rattle.split_facts.specs.Splitting.{Measured, split_ends}
use Rattle.split_facts.proofs.Facts.{ids-small}
use Rattle.split_facts.proofs.Asks.{pieces_measurable, centers_measurable}
use Rattle.edit_split.specs.Parts.{MayAnchor, MayMake, Pieced, anchored_in, drawn_by, past_in, split_anchored, split_fits}
use Rattle.edit_split.proofs.Parts.{ends, may_anchor}

-- ---- room

module _ (d : Drawn) (k : Cutting) (anchored past : List Bool) (t : Tables) (q : Bool) (qe : q ≡ fits_after k anchored t) where
  pub no_room : (created modified deleted warnings : List ℕ) → q ≡ false → left t created modified deleted warnings (Err NoRoom) ≡ split_fits d k anchored past t created modified deleted warnings
  unfolding split_fits
  no_room created modified deleted warnings f = rw (sym qe ∙ f)

  module _ (h : q ≡ true) where
    pub make-asks : MayMake d k anchored past t → Makeable d k anchored past t
    make-asks m = m.makeable (sym qe ∙ h)

    pub fit-made : (created modified deleted warnings : List ℕ) (x : Left) → x ≡ split_made d k anchored past t created modified deleted warnings → x ≡ split_fits d k anchored past t created modified deleted warnings
    unfolding split_fits
    fit-made created modified deleted warnings x e = rw (sym qe ∙ h) e

-- ---- anchors

module _ (join : Float) (stations : List Float) (d : Drawn) (k : Cutting) (t : Tables) (anchored past : List Bool) (e : (anchored ≡ anchored_in k t) × (past ≡ past_in join stations k t)) where
  pub anchors-ask : MayAnchor join stations d k t → MayMake d k anchored past t
  anchors-ask m = subst (λ a. MayMake d k a past t) (sym e.0) (subst (λ p. MayMake d k (anchored_in k t) p t) (sym e.1) m.may_make)

  pub anchors-made : (created modified deleted warnings : List ℕ) (x : Left) → x ≡ split_fits d k anchored past t created modified deleted warnings → x ≡ split_anchored join stations d k t created modified deleted warnings
  unfolding split_anchored
  anchors-made created modified deleted warnings x f =
      f
      ∙ (ap (λ a. split_fits d k a past t created modified deleted warnings) e.0
      ∙ ap (λ p. split_fits d k (anchored_in k t) p t created modified deleted warnings) e.1)

-- ---- pieces and lines

module _ {tol : Tolerance} {counter : ℕ} {t : Tables} {own : ℕ} {p : Point2} {seen : List Bool} {cut : List ℕ} {stations : List Float} {ids : ℕ} {marks : List Bool} {pieces : List ℕ} {many reach : ℕ}
    (h : Pieced tol counter t own p seen cut stations ids marks pieces many reach) where
  abbrev points_1 : ℕ
  points_1 = length (drawn_pieces p (chosen_lines t.coordinates (column_of 5 2 false) marks t.boundaries))

  abbrev points_2 : ℕ
  points_2 = length (drawn_pieces p (chosen_lines t.coordinates (column_of 52 7 true) seen t.lanes))

  pub measure-asks : Measurable t.coordinates 5 2 false marks t.boundaries reach (replicate 3072 0) × Measurable t.coordinates 52 7 true seen t.lanes (reach + points_1) (replicate 1536 0)
  measure-asks = (
    subst (λ r. Measurable t.coordinates 5 2 false marks t.boundaries r (replicate 3072 0)) (sym h.reaches) (pieces_measurable h.number (replicate 3072 0) (length-replicate {A = ℕ} 3072 0)),
    subst (λ r. Measurable t.coordinates 52 7 true seen t.lanes (r + points_1) (replicate 1536 0)) (sym h.reaches) (centers_measurable h.number (replicate 1536 0) (length-replicate {A = ℕ} 1536 0)),
  )

  module _ (end : ℕ) (lines centers : List ℕ)
      (e : (end ≡ reach + points_1 + points_2)
      × ((lines ≡ over (replicate 3072 0) 0 (measured p reach (chosen_lines t.coordinates (column_of 5 2 false) marks t.boundaries)))
      × (centers ≡ over (replicate 1536 0) 0 (measured p (reach + points_1) (chosen_lines t.coordinates (column_of 52 7 true) seen t.lanes))))) where
    pub decided-asks : reach ≤ end
    decided-asks = omega (arith, e.0)

    module _ (d : Drawn) (is : d ≡ drawn_by counter own ids reach end) where
      abbrev k : Cutting
      k = cutting p reach seen cut (d.first + ids) marks pieces many lines centers

      pub next-fits : d.first + ids < 2 ^ 64
      next-fits = omega (arith, ids-small h.number, ap (λ (x : Drawn). x.first) is)

      known : Measured tol counter t own stations ids k
      known =
          record {
            number = h.number;
            next = ap (λ (x : Drawn). x.first + ids) is;
            reach = h.reaches;
            many = h.count;
            pieces = h.listed;
            lines = e.1.0;
            centers = e.1.1;
          }

      drawn-are : d.points ≡ drawn_points k (lined t)
      drawn-are = omega (arith, e.0, ap (λ (x : Drawn). x.points) is)

      pub measured-asks : MayAnchor tol.join stations d k t
      measured-asks = may_anchor known d (ap (λ (x : Drawn). x.own) is) (ap (λ (x : Drawn). x.ids) is) (ap (λ (x : Drawn). x.first) is) drawn-are (replicate 0 0) (replicate 0 0) (replicate 0 0) (replicate 0 0)

      -- what is left, with the counter that follows from the answer
      abbrev closing : Left → Ended
      closing x =
          ended
          (record { counter = counter_behind counter x.answer; tables = x.tables; created = x.created; modified = x.modified; deleted = x.deleted; warnings = x.warnings })
          x.answer

      pub pieces_end : (created modified deleted warnings : List ℕ) (u : Tables) (created₁ modified₁ deleted₁ warnings₁ : List ℕ) (r : Answer)
          → left u created₁ modified₁ deleted₁ warnings₁ r ≡ split_anchored tol.join stations d k t created modified deleted warnings
          → ended (record { counter = counter_behind counter r; tables = u; created = created₁; modified = modified₁; deleted = deleted₁; warnings = warnings₁ }) r
          ≡ split_ends tol own p seen cut stations (record { counter = counter; tables = t; created = created; modified = modified; deleted = deleted; warnings = warnings })
      pieces_end created modified deleted warnings u c m x w r f =
          ap closing f ∙ ends known d (ap (λ (x : Drawn). x.own) is) (ap (λ (x : Drawn). x.ids) is) (ap (λ (x : Drawn). x.first) is) drawn-are created modified deleted warnings
