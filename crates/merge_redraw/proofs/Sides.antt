-- What the sides of a merge do to the table of boundaries, and what the first lane takes over. Assumes nothing.
use Rattle.std.specs.Prelude.{Option, None, Some}
use mathlib.Core.Path.{◌≡◌, sym, ap, ◌∙◌}
use mathlib.Core.Bool.{true}
use mathlib.Core.List.{List}
use Prim.Native.Nat.{ℕ, ◌+◌, ◌*◌, ◌≤◌}
use native.Mathlib.Omega.{arith}
use lib.ListN.{length, get_or}
use Rattle.rules.specs.Names.{Side}
use Rattle.tables.specs.View.{ref_at}
use Rattle.entities.specs.declared.BoundaryRef.{BoundaryRef}
use Rattle.lookup.specs.Lookup.{row_at, place_of, side_word, sorted_table}
use Rattle.lookup.proofs.Laws.{sorted-row, place-within, word_in}
use Rattle.merge_plan.specs.declared.Joined.{Joined}
use Rattle.merge_redraw.specs.Relaying.{redrawn_of}
use Rattle.merge_redraw.specs.declared.Redrawn.{Redrawn}

-- the row of the first lane's boundary, where there is one
module _ (lanes : List ℕ) (i : ℕ) (side : Side) (b : List ℕ) (plan : Joined) (id start : ℕ) (sorted : sorted_table 4096 5 b ≡ true)
    (r : BoundaryRef) (re : r ≡ ref_at (side_word side) (row_at 52 lanes i)) (f : Option ℕ) (fe : f ≡ place_of 5 b r.boundary) where
  module _ (x : ℕ) (at : f ≡ Some x) where
    pub found-room : 1 + x * 5 + 5 ≤ length b
    found-room = sorted-row 4096 5 b sorted x (place-within 5 b r.boundary x (sym fe ∙ at))

    pub redrawn-found : ◌≡◌ {A = Redrawn} (record { plan = plan; boundary = r.boundary; id = id; kind = get_or b (1 + x * 5 + 1) 0; attributes = get_or b (1 + x * 5 + 4) 0; start = start }) (redrawn_of lanes i side b plan id start)
    redrawn-found =
        let p : place_of 5 b (ref_at (side_word side) (row_at 52 lanes i)).boundary ≡ Some x = ap (λ z. place_of 5 b z.boundary) (sym re) ∙ (sym fe ∙ at) in
        rw (p, word_in 5 b x 1 (omega arith), word_in 5 b x 4 (omega arith), re)

  pub redrawn-absent : f ≡ None → ◌≡◌ {A = Redrawn} (record { plan = plan; boundary = r.boundary; id = id; kind = 0; attributes = 0; start = start }) (redrawn_of lanes i side b plan id start)
  redrawn-absent none =
      let p : place_of 5 b (ref_at (side_word side) (row_at 52 lanes i)).boundary ≡ None = ap (λ z. place_of 5 b z.boundary) (sym re) ∙ (sym fe ∙ none) in
      rw (p, re)
