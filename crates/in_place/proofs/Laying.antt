-- What bringing the lines to their places asks. Assumes nothing.
use mathlib.Core.Path.{◌≡◌, sym, ◌∙◌}
use Prim.Native.Nat.{ℕ, ◌/◌, ◌≤◌}
use native.Mathlib.Omega.{arith}
use mathlib.Core.Bool.{Bool, true}
use mathlib.Core.List.{List, []}
use lib.Ieee.{Float}
use lib.ListN.{length}
use Rattle.lists.specs.Every.{all}
use Rattle.tables.specs.Formed.{spans}
use Rattle.apart.specs.Marks.{within}
use Rattle.layout.specs.Layout.{sourced, line_tables, counted_lines}
use Rattle.layout.proofs.Room.{all_within_more}
use Rattle.layout.proofs.Sourced.{length-sourced}
use Rattle.order.specs.Order.{in_order}
use Rattle.in_place.specs.Settle.{Layable, Settleable}

module _ (l b s x : List ℕ) (c drawn : List Float) (reach : ℕ) (h : Layable reach drawn (line_tables l b s x c)) where
  pub order-asks : (reach ≤ 65536) × ((counted_lines (line_tables l b s x []) ≡ true) × (all (within 131072) (spans (line_tables l b s x [])) ≡ true))
  unfolding counted_lines spans
  order-asks =
      let n = length (sourced reach c drawn) / 3 in
      (h.near, (h.gatherable.counts, all_within_more n 131072 (spans (line_tables l b s x c)) (omega (arith, h.near, h.few, length-sourced reach c drawn h.stored)) h.gatherable.fits))

  pub settle-asks : (r : Bool) → r ≡ in_order reach (spans (line_tables l b s x [])) → r ≡ true → Settleable reach drawn (line_tables l b s x c)
  unfolding spans
  settle-asks r e t = record { layable = h; ordered = sym e ∙ t }
