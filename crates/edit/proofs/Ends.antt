-- The ends of the edits on a sound map, as the functions meet them. Assumes nothing.
use Rattle.report.specs.Report.{Answer}
use Rattle.std.specs.Prelude.{Option, None, Some}
use mathlib.Core.Path.{◌≡◌, sym, ap, ◌∙◌}
use Prim.Native.Nat.{ℕ, ◌≤◌, ◌<◌}
use mathlib.Core.Bool.{Bool, true}
use mathlib.Core.List.{List}
use borrow.Author.Tests.{ne_eqb}
use Rattle.lists.specs.Select.{has}
use Rattle.rules.specs.Names.{Tolerance, Side, Neighbor, LaneAbsent, OwnPartner}
use Rattle.rules.specs.Sound.{last_counter}
use Rattle.rules.specs.Edit as E
use Rattle.rules.specs.Ops as O
use Rattle.tables.specs.View.{Tables, word, lane_of}
use Rattle.tables.specs.Formed.{sound_tables}
use Rattle.row_tests.specs.Returned.{searchable, lane_at}
use Rattle.lookup.specs.Lookup.{place_of, sorted_table, all_stored, drawn}
use Rattle.lookup.proofs.Laws.{place-within, place-id}
use Rattle.topology.specs.Topology.{id_at, links_at}
use Rattle.sound_facts.proofs.Facts.{facts}
use Rattle.sound_facts.proofs.Found.{lanes-search, lanes_are_sorted}
use Rattle.step.specs.Step.{Lent, refusing, step}
use Rattle.relink.specs.Parts.{links_written, linking, unlinking, freeing, setting, Linkable}
use Rattle.edit.proofs.Steps.{spread}
use Rattle.edit.proofs.Beside.{set-other-absent, set-itself}
use Rattle.edit.proofs.Ready.{linkable, connect-ends, disconnect-ends, free-ends, set-ends}

module _ (counter : ℕ) (t : Tables) (h : sound_tables counter t ≡ true) where
  pub gap-may : (a b i j : ℕ) → place_of 52 t.lanes a ≡ Some i → place_of 52 t.lanes b ≡ Some j
      → (sorted_table 1024 52 t.lanes ≡ true)
      × ((i < word 0 t.lanes) × ((j < word 0 t.lanes) × ((sorted_table 4096 5 t.boundaries ≡ true) × (all_stored 5 2 t.coordinates t.boundaries ≡ true))))
  gap-may a b i j ea eb = (lanes_are_sorted counter t h, (place-within 52 t.lanes a i ea, (place-within 52 t.lanes b j eb, ((facts counter t h).boundaries, (facts counter t h).boundary_lines))))

  pub link-may : (a b i j : ℕ) → place_of 52 t.lanes a ≡ Some i → place_of 52 t.lanes b ≡ Some j → (x : Bool) → x ≡ has b (links_at t.lanes i 35) → Linkable t.lanes i j x
  link-may a b i j ea eb x e = rw e (linkable counter t h a b i j ea eb)

module _ (tol : Tolerance) (l : Lent) (h : sound_tables l.counter l.tables ≡ true) (k : l.counter ≤ last_counter) (a i : ℕ) (ea : place_of 52 l.tables.lanes a ≡ Some i) where
  abbrev L : List ℕ
  L = l.tables.lanes

  module _ (b j : ℕ) (eb : place_of 52 L b ≡ Some j) (lanes modified warnings : List ℕ) (r : Answer) (linked : Bool) (f : linked ≡ has b (links_at L i 35)) where
    pub connected : (a ≡ b → ⊥) → (gap : Bool)
        → gap ≡ E.gapped tol.gap (drawn l.tables.coordinates l.tables.boundaries) (lane_of l.tables.coordinates (lane_at L i)) (lane_of l.tables.coordinates (lane_at L j))
        → links_written lanes modified warnings r ≡ linking L i j linked gap l.modified l.warnings
        → spread l (links_written lanes modified warnings r) ≡ step tol (O.ConnectLanes a b) l
    connected ne gap g e =
        ap (spread l) e ∙ (rw (f, g) (sym (connect-ends tol l h k a b i j ea eb (ne_eqb a b ne))))

    pub disconnected : links_written lanes modified warnings r ≡ unlinking L i j linked l.modified l.warnings
        → spread l (links_written lanes modified warnings r) ≡ step tol (O.DisconnectLanes a b) l
    disconnected e = ap (spread l) e ∙ (rw f (sym (disconnect-ends tol l h k a b i j ea eb)))

  -- ---- neighbours

  module _ (side : Side) (new : Option Neighbor) where
    module _ (lanes modified warnings : List ℕ) (r : Answer) where
      pub freed : new ≡ None → links_written lanes modified warnings r ≡ freeing L i side l.modified l.warnings
          → spread l (links_written lanes modified warnings r) ≡ step tol (O.SetNeighbor a side new) l
      freed n e = ap (spread l) e ∙ (rw n (sym (free-ends tol l h k a side i ea)))

      pub besides : (n : Neighbor) (j : ℕ) → new ≡ Some n → place_of 52 L n.lane ≡ Some j → (n.lane ≡ a → ⊥)
          → links_written lanes modified warnings r ≡ setting L i side j n.direction l.modified l.warnings
          → spread l (links_written lanes modified warnings r) ≡ step tol (O.SetNeighbor a side new) l
      besides n j f en ne e = ap (spread l) e ∙ (rw f (sym (set-ends tol l h k a side i ea n j en (ne_eqb n.lane a ne))))

    -- the neighbour's lane is absent, or the lane itself
    pub beside-missing : (n : Neighbor) → new ≡ Some n → place_of 52 L n.lane ≡ None → refusing l (LaneAbsent n.lane) ≡ step tol (O.SetNeighbor a side new) l
    beside-missing n f e = rw f (set-other-absent tol l h k a side i ea n e)

    pub beside-itself : (n : Neighbor) (j : ℕ) → new ≡ Some n → place_of 52 L n.lane ≡ Some j → n.lane ≡ a → refusing l (OwnPartner a) ≡ step tol (O.SetNeighbor a side new) l
    beside-itself n j f en e = rw f (set-itself tol l h k a side i ea n j en e)

-- two rows of two lanes are two rows
pub rows-differ : (t : List ℕ) (a b i j : ℕ) → place_of 52 t a ≡ Some i → place_of 52 t b ≡ Some j → (b ≡ a → ⊥) → j ≡ i → ⊥
rows-differ t a b i j ea eb ne e = ne (sym (place-id 52 t b j eb) ∙ (ap (id_at t) e ∙ place-id 52 t a i ea))

module _ (counter : ℕ) (t : Tables) (h : sound_tables counter t ≡ true) where
  pub set-may : (a b i j : ℕ) → place_of 52 t.lanes a ≡ Some i → place_of 52 t.lanes b ≡ Some j → (b ≡ a → ⊥)
      → (searchable t.lanes ≡ true) × ((i < word 0 t.lanes) × ((j < word 0 t.lanes) × (j ≡ i → ⊥)))
  set-may a b i j ea eb ne =
      (lanes-search counter t h, (place-within 52 t.lanes a i ea, (place-within 52 t.lanes b j eb, rows-differ t.lanes a b i j ea eb ne)))
