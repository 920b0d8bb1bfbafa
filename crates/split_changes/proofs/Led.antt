-- What a split lists as modified among lanes is the definition's: those that are cut, and those that a cut lane leads to. Assumes nothing.
use Rattle.std.specs.Prelude.{Some}
use mathlib.Core.Path.{◌≡◌, refl, ap, ◌∙◌, sym}
use Prim.Native.Nat.{ℕ}
use mathlib.Core.Bool.{Bool, true, false, ◌&&◌, ◌||◌}
use mathlib.Core.List.{List, [], ◌∷◌, ◌++◌, map}
use lib.Dec.{eqb}
use lib.Ieee.{Float}
use Rattle.lists.specs.Select.{any, has, keep, ascending}
use Rattle.lists.proofs.Select.{any-or, any_same, on_found}
use Rattle.entities.specs.Records.{Lane, Map}
use Rattle.rules.specs.Names.{LaneKind}
use Rattle.rules.specs.Map.{lane, lane_ids, leads_to}
use Rattle.rules.specs.Sound.{links_reciprocal}
use Rattle.rules.specs.Edit.{refs, lanes_where}
use Rattle.rules.proofs.Relations.{comes-found}
use Rattle.rules.proofs.Reciprocal.{links-agree}
use Rattle.laws.proofs.Links.{eqb_swap}
use Rattle.tables.specs.View.{rows, lane_of}
use Rattle.mentions.proofs.Filters.{ids_where_lem}
use Rattle.split_laws.proofs.Members.{in_found, keep_in}
use Rattle.split_marks.specs.Touched.{lane_touched, lane_marks}
use Rattle.split_lists.specs.Changes.{marked_ids}
use Rattle.split_changes.proofs.Touched.{marked-pass}

-- ---- lists of ids

none_any : {A : Type 0} (xs : List A) → any (λ x. false) xs ≡ false
unfolding any
none_any [] = refl
none_any (x ∷ xs) = none_any xs

has-any : (x : ℕ) (ys : List ℕ) → has x ys ≡ any (λ y. eqb y x) ys
unfolding any has
has-any x [] = refl
has-any x (y ∷ ys) = rw (eqb_swap x y, has-any x ys)

-- two lists share an id, whichever is searched
meets : (xs ys : List ℕ) → any (λ i. has i ys) xs ≡ any (λ i. has i xs) ys
unfolding any has
meets [] ys = sym (none_any ys)
meets (x ∷ xs) ys = sym (any-or (λ i. eqb i x) (λ i. has i xs) ys ∙ (ap (λ t. t || any (λ i. has i xs) ys) (sym (has-any x ys)) ∙ ap (λ t. has x ys || t) (sym (meets xs ys))))

-- some lane of a list of ids passes: one of the ids has a lane that does
any-cut : (p : Lane → Bool) (xs : List Lane) (cut : List ℕ) → any (λ g. has g.id cut && p g) xs ≡ any (λ i. any (λ g. eqb g.id i && p g) xs) cut
unfolding any has
any-cut p xs [] = none_any xs
any-cut p xs (i ∷ cut) =
    any_same (λ g. (eqb g.id i || has g.id cut) && p g) (λ g. (eqb g.id i && p g) || (has g.id cut && p g)) xs (λ g. spread (eqb g.id i) (has g.id cut) (p g))
    ∙ (any-or (λ g. eqb g.id i && p g) (λ g. has g.id cut && p g) xs ∙ ap (λ t. any (λ g. eqb g.id i && p g) xs || t) (any-cut p xs cut))
  where
    spread : (a b c : Bool) → ((a || b) && c) ≡ ((a && c) || (b && c))
    spread true b true = refl
    spread true true false = refl
    spread true false false = refl
    spread false b c = refl

-- ---- lanes

module _ (m : Map) (up : ascending (lane_ids m) ≡ true) (recip : links_reciprocal m ≡ true) (cut : List ℕ) where
  -- links are reciprocal: a cut lane leads to a lane that names it among its predecessors
  led : (l : Lane) → lane m l.id ≡ Some l → any (λ g. has g.id cut && has l.id g.successors) m.lanes ≡ any (λ i. has i cut) l.predecessors
  unfolding leads_to
  led l e =
      any-cut (λ g. has l.id g.successors) m.lanes cut
      ∙ (any_same (λ i. any (λ g. eqb g.id i && has l.id g.successors) m.lanes) (λ i. has i l.predecessors) cut
      (λ i. links-agree m recip i l.id ∙ (comes-found m i l.id up ∙ ap (on_found (λ k. has i k.predecessors)) e))
      ∙ meets cut l.predecessors)

  pub lanes-touched : (c : List Float) (t : List ℕ) (rest : List Bool) → m.lanes ≡ rows 52 (lane_of c) t
      → refs LaneKind (marked_ids 52 (lane_marks cut t ++ rest) t) ≡ lanes_where (λ l. has l.id cut || any (λ g. has g.id cut && has l.id g.successors) m.lanes) m.lanes
  unfolding lane
  lanes-touched c t rest e =
      ap (refs LaneKind)
      (marked-pass 52 (lane_touched cut) t rest
      ∙ (sym (ids_where_lem 52 (lane_of c) (λ l. l.id) named (lane_touched cut) t (λ w. unfold lane_of in refl) (λ w. unfold lane_of in refl))
      ∙ (ap (λ ls. map (λ l. l.id) (keep named ls)) (sym e)
      ∙ ap (map (λ l. l.id)) (keep_in named (λ l. has l.id cut || any (λ g. has g.id cut && has l.id g.successors) m.lanes) m.lanes
      (λ l i. ap (λ b. has l.id cut || b) (sym (led l (in_found (λ l. l.id) m.lanes l up i))))))))
    where
      named : Lane → Bool
      named l = has l.id cut || any (λ i. has i cut) l.predecessors
