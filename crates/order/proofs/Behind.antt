-- Lines that lie one behind the other: line by line, column by column. Assumes nothing.
use mathlib.Core.Path.{◌≡◌, refl, sym, ap, ◌∙◌}
use mathlib.Core.Bool.{◌&&◌, cond}
use mathlib.Core.List.{List, [], ◌∷◌, ◌++◌}
use Prim.Native.Nat.{ℕ, suc, ◌+◌, ◌≤◌, ◌<◌}
use lib.Dec.{leb}
use borrow.Author.Tests.{eq-eqb, ne_eqb, le-leb, lt-leb}
use Rattle.tables.specs.View.{Tables}
use Rattle.tables.specs.Formed.{Span, spans}
use Rattle.layout.specs.Layout.{column_lines, boundary_lines_of, centerlines, stop_lines_of, left_edges_of, right_edges_of}
use Rattle.layout.proofs.Stages.{spans-columns}
use Rattle.order.specs.Order.{behind, behind_all, in_order}

-- ---- a line

module _ (reach from : ℕ) (s : Span) where
  pub behind-none : s.size ≡ 0 → behind reach from s ≡ from
  behind-none e = rw (eq-eqb s.size 0 e)

  pub behind-drawn : (s.size ≡ 0 → ⊥) → reach ≤ s.start → behind reach from s ≡ from
  behind-drawn e h = rw (ne_eqb s.size 0 e, le-leb reach s.start h)

  pub behind_test : (s.size ≡ 0 → ⊥) → s.start < reach → behind reach from s ≡ cond (leb from s.start && leb (s.start + s.size) reach) (s.start + s.size) (suc reach)
  behind_test e h = rw (ne_eqb s.size 0 e, lt-leb reach s.start h)

-- ---- lines

pub behind-append : (reach from : ℕ) (a b : List Span) → behind_all reach from (a ++ b) ≡ behind_all reach (behind_all reach from a) b
unfolding behind_all
behind-append reach from [] b = refl
behind-append reach from (s ∷ a) b = behind-append reach (behind reach from s) a b

pub behind_more : (reach from far far₁ : ℕ) (whole rest ls : List Span) (s : Span) → behind_all reach from whole ≡ behind_all reach far ls → ls ≡ s ∷ rest → far₁ ≡ behind reach far s
    → behind_all reach from whole ≡ behind_all reach far₁ rest
unfolding behind_all
behind_more reach from far far₁ whole rest ls s p q r = p ∙ rw (q, r)

pub behind-all : (reach from far : ℕ) (whole ls : List Span) → behind_all reach from whole ≡ behind_all reach far ls → ls ≡ [] → far ≡ behind_all reach from whole
unfolding behind_all
behind-all reach from far whole ls p q = sym (p ∙ rw q)

-- column by column
pub columns-behind : (t : Tables) (reach a b c d r : ℕ) → a ≡ behind_all reach 0 (column_lines boundary_lines_of t.boundaries) → b ≡ behind_all reach a (column_lines centerlines t.lanes)
    → c ≡ behind_all reach b (column_lines stop_lines_of t.stop_lines) → d ≡ behind_all reach c (column_lines left_edges_of t.crosswalks) → r ≡ behind_all reach d (column_lines right_edges_of t.crosswalks)
    → leb r reach ≡ in_order reach (spans t)
columns-behind t reach a b c d r p q u v w =
    let bs = column_lines boundary_lines_of t.boundaries in
    let cs = column_lines centerlines t.lanes in
    let ss = column_lines stop_lines_of t.stop_lines in
    let ls = column_lines left_edges_of t.crosswalks in
    let rs = column_lines right_edges_of t.crosswalks in
    ap (λ x. leb x reach) (sym (
    ap (behind_all reach 0) (spans-columns t)
    ∙ rw (behind-append reach 0 bs (cs ++ (ss ++ (ls ++ rs))), ← p, behind-append reach a cs (ss ++ (ls ++ rs)), ← q, behind-append reach b ss (ls ++ rs), ← u, behind-append reach c ls rs, ← v, ← w)))
