-- Lanes, links and ends of lanes of a sound map, by their rows. Assumes nothing.
use Rattle.std.specs.Prelude.{Option, None, Some}
use mathlib.Core.Path.{◌≡◌, refl, sym, ap, ◌∙◌}
use Prim.Native.Nat.{ℕ, ◌<◌}
use mathlib.Core.Bool.{true}
use mathlib.Core.List.{List}
use lib.Ieee.{Float}
use Rattle.lists.specs.Select.{has, ascending}
use Rattle.lists.proofs.Booleans.{and-fst, and-snd}
use Rattle.lists.proofs.Select.{on_found}
use Rattle.entities.specs.Records.{Lane}
use Rattle.rules.specs.Map.{lane, boundary, oriented_boundary, leads_to, comes_from, lane_ids}
use Rattle.rules.specs.Sound.{sound}
use Rattle.rules.specs.Edit as E
use Rattle.rules.proofs.Facts.{sound-facts}
use Rattle.rules.proofs.Reciprocal.{links-agree}
use Rattle.rules.proofs.Relations.{leads-found, comes-found}
use Rattle.laws.proofs.Still.{ids_up}
use Rattle.tables.specs.View.{Tables, word, lane_of, view}
use Rattle.tables.specs.Formed.{formed, sound_tables}
use Rattle.row_tests.specs.Returned.{searchable, lane_at}
use Rattle.lookup.specs.Lookup.{place_of, sorted_table, drawn}
use Rattle.lookup.proofs.Laws.{find_at, find_none, place-within, searchable-sorted}
use Rattle.topology.specs.Topology.{links_at}
use Rattle.sound_facts.proofs.Stored.{lane-key}
use Rattle.sound_facts.proofs.Facts.{facts}

pub sound-map : (counter : ℕ) (t : Tables) → sound_tables counter t ≡ true → sound counter (view t) ≡ true
unfolding sound_tables
sound-map counter t h = and-snd (formed t) (sound counter (view t)) h

pub sound-formed : (counter : ℕ) (t : Tables) → sound_tables counter t ≡ true → formed t ≡ true
unfolding sound_tables
sound-formed counter t h = and-fst (formed t) (sound counter (view t)) h

module _ (t : Tables) where
  pub lane-there : (a i : ℕ) → place_of 52 t.lanes a ≡ Some i → lane (view t) a ≡ Some (lane_of t.coordinates (lane_at t.lanes i))
  unfolding lane view
  lane-there a i e = find_at 52 (lane_of t.coordinates) (λ l. l.id) (lane-key t.coordinates) t.lanes a i e

  pub lane-missing : (a : ℕ) → place_of 52 t.lanes a ≡ None → lane (view t) a ≡ None
  unfolding lane view
  lane-missing a e = find_none 52 (lane_of t.coordinates) (λ l. l.id) (lane-key t.coordinates) t.lanes a e

  -- gaps look at boundaries alone
  pub gapped-drawn : (tol : Float) (from to : Lane) → E.gapped tol (view t) from to ≡ E.gapped tol (drawn t.coordinates t.boundaries) from to
  unfolding E.gapped view oriented_boundary boundary
  gapped-drawn tol from to = refl

  module _ (counter : ℕ) (h : sound_tables counter t ≡ true) where
    pub lanes-up : ascending (lane_ids (view t)) ≡ true
    lanes-up = ids_up counter (view t) (sound-map counter t h)

    pub leads-by-row : (a b i : ℕ) → place_of 52 t.lanes a ≡ Some i → leads_to (view t) a b ≡ has b (links_at t.lanes i 35)
    unfolding lane_of
    leads-by-row a b i e = leads-found (view t) a b lanes-up ∙ ap (on_found (λ k. has b k.successors)) (lane-there a i e)

    pub comes-by-row : (a b j : ℕ) → place_of 52 t.lanes b ≡ Some j → comes_from (view t) a b ≡ has a (links_at t.lanes j 18)
    unfolding lane_of
    comes-by-row a b j e = comes-found (view t) a b lanes-up ∙ ap (on_found (λ k. has a k.predecessors)) (lane-there b j e)

    -- both lanes know of a link
    pub links-by-rows : (a b i j : ℕ) → place_of 52 t.lanes a ≡ Some i → place_of 52 t.lanes b ≡ Some j
        → has b (links_at t.lanes i 35) ≡ has a (links_at t.lanes j 18)
    links-by-rows a b i j e f =
        sym (leads-by-row a b i e) ∙ (links-agree (view t) (sound-facts counter (view t) (sound-map counter t h)).links a b ∙ comes-by-row a b j f)

-- ---- look-ups

-- a look-up that found its row, or none
pub found : (t : List ℕ) (a i : ℕ) (r : Option ℕ) → r ≡ place_of 52 t a → r ≡ Some i → place_of 52 t a ≡ Some i
found t a i r e f = sym e ∙ f

pub missing : (t : List ℕ) (a : ℕ) (r : Option ℕ) → r ≡ place_of 52 t a → r ≡ None → place_of 52 t a ≡ None
missing t a r e f = sym e ∙ f

module _ (counter : ℕ) (t : Tables) (h : sound_tables counter t ≡ true) where
  pub lanes-search : searchable t.lanes ≡ true
  lanes-search = (facts counter t h).lanes

  pub lanes_are_sorted : sorted_table 1024 52 t.lanes ≡ true
  lanes_are_sorted = searchable-sorted t.lanes lanes-search

  pub leads-may : (a i : ℕ) → place_of 52 t.lanes a ≡ Some i → (searchable t.lanes ≡ true) × (i < word 0 t.lanes)
  leads-may a i ea = (lanes-search, place-within 52 t.lanes a i ea)
