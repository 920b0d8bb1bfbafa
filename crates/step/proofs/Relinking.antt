-- connect, disconnect and set_neighbor keep lent memory. Assumes nothing.
use Rattle.std.specs.Prelude.{Option, Err, Ok}
use Rattle.entities.specs.declared.Neighbor.{Neighbor}
use mathlib.Core.Path.{◌≡◌, refl, ap, ◌∙◌, subst}
use mathlib.Core.Bool.{true, not, cond}
use mathlib.Core.List.{List, [], ◌∷◌, map}
use Prim.Native.Nat.{ℕ}
use lib.Dec.{eqb}
use lib.ListN.{length}
use Rattle.entities.specs.Records.{Lane, Issue}
use Rattle.rules.specs.Names.{Tolerance, Side, EntityRef, OwnPartner}
use Rattle.rules.specs.Map.{neighbor_on}
use Rattle.rules.specs.Sound.{sound}
use Rattle.rules.specs.Edit.{Res, ◌>>=◌, check, Edited, require_lane, require_neighbor, relinking, with_lanes, link_in, link_out, reslotted, slot_after, slot_in, same_slot, connect, disconnect, set_neighbor}
use Rattle.rules.specs.Ops as O
use Rattle.laws.proofs.Lawful.{yields, no-yield, connect-lawful, disconnect-lawful, set_neighbor_lawful}
use Rattle.tables.specs.View.{Tables, view}
use Rattle.tables.specs.Formed.{sound_tables}
use Rattle.store.specs.Store.{store}
use Rattle.sound_facts.proofs.Stored.{store-mapped}
use Rattle.sound_facts.proofs.Kept.{links-few, length-kept, view-mapped, kept-mapped}
use Rattle.sound_facts.proofs.Found.{sound-formed}
use Rattle.step.specs.Run.{lengths_of}
use Rattle.step.proofs.Keeping.{Keeps, Holds, Writable, Writes, writes-keep}

-- ---- lanes changed one by one, with their ids and centrelines left

mapped-held : (counter : ℕ) (t : Tables) → sound_tables counter t ≡ true → (f : Lane → Lane) → ((l : Lane) → (f l).id ≡ l.id) → ((l : Lane) → (f l).centerline ≡ l.centerline)
    → sound counter (with_lanes (map f (view t).lanes) (view t)) ≡ true → Holds store counter t (with_lanes (map f (view t).lanes) (view t))
mapped-held counter t s f same line sane =
    let fm = sound-formed counter t s in
    let few = links-few counter (view t) f sane in
    record {
      stays_sound = kept-mapped counter t s f same line sane;
      map-held = view-mapped t fm f same line few;
      lengths_left = ap lengths_of (store-mapped t fm f same) ∙ ap (λ n. with_lanes_long n t) (length-kept t fm f same line few);
    }
  where
    with_lanes_long : ℕ → Tables → List ℕ
    with_lanes_long n t =
        n ∷ length t.boundaries ∷ length t.roads ∷ length t.junctions ∷ length t.rules ∷ length t.stop_lines ∷ length t.crosswalks ∷ length t.coordinates ∷ []

relinking-writable : (counter : ℕ) (t : Tables) → sound_tables counter t ≡ true → (f : Lane → Lane) → ((l : Lane) → (f l).id ≡ l.id) → ((l : Lane) → (f l).centerline ≡ l.centerline)
    → (modified : List EntityRef) (ws : List Issue) (e : Edited) → ◌≡◌ {A = Res Edited} (Ok (relinking (with_lanes (map f (view t).lanes) (view t)) modified ws)) (Ok e) → Writable store counter t e
relinking-writable counter t s f same line modified ws e h = subst (Writable store counter t) (yields h) (λ sane room. mapped-held counter t s f same line sane)

-- ---- the three edits

-- what a step that yields goes on with
pub goes_on : {A B : Type 0} (x : Res A) (k : A → Res B) (e : B) → (x >>= k) ≡ Ok e → (a : A) × (k a ≡ Ok e)
goes_on (Ok a) k e h = (a, h)
goes_on (Err r) k e h = absurd (no-yield r e h)

module _ (tol : Tolerance) (a b : ℕ) where
  connect-writes : Writes tol (O.ConnectLanes a b)
  unfolding O.edit connect
  connect-writes counter t s e h =
      let (from, h1) = goes_on (require_lane (view t) a) _ e h in
      let (to, h2) = goes_on (require_lane (view t) b) _ e h1 in
      let (ok, h3) = goes_on (check (not (eqb a b)) (OwnPartner a)) _ e h2 in
      relinking-writable counter t s (link_in a b) (λ l. refl) (λ l. refl) _ _ e h3

  disconnect-writes : Writes tol (O.DisconnectLanes a b)
  unfolding O.edit disconnect
  disconnect-writes counter t s e h =
      let (from, h1) = goes_on (require_lane (view t) a) _ e h in
      let (to, h2) = goes_on (require_lane (view t) b) _ e h1 in
      relinking-writable counter t s (link_out a b) (λ l. refl) (λ l. refl) _ _ e h2

set_neighbor_writes : (tol : Tolerance) (a : ℕ) (side : Side) (new : Option Neighbor) → Writes tol (O.SetNeighbor a side new)
unfolding O.edit set_neighbor
set_neighbor_writes tol a side value counter t s e h =
    let new = value in
    let (l, h1) = goes_on (require_lane (view t) a) _ e h in
    let (ok, h2) = goes_on (require_neighbor (view t) a new) _ e h1 in
    let old = neighbor_on side l in
    relinking-writable counter t s (reslotted (λ i d was. cond (same_slot old new) was (slot_after a side new old (slot_in (view t) side new) i d was))) (λ l. refl) (λ l. refl) _ _ e h2

pub connect-keeps : (tol : Tolerance) (a b : ℕ) → Keeps tol (O.ConnectLanes a b)
connect-keeps tol a b = writes-keep tol (O.ConnectLanes a b) (connect-lawful tol a b) (connect-writes tol a b)

pub disconnect-keeps : (tol : Tolerance) (a b : ℕ) → Keeps tol (O.DisconnectLanes a b)
disconnect-keeps tol a b = writes-keep tol (O.DisconnectLanes a b) (disconnect-lawful tol a b) (disconnect-writes tol a b)

pub set_neighbor_keeps : (tol : Tolerance) (a : ℕ) (side : Side) (new : Option Neighbor) → Keeps tol (O.SetNeighbor a side new)
set_neighbor_keeps tol a side new = writes-keep tol (O.SetNeighbor a side new) (set_neighbor_lawful tol a side new) (set_neighbor_writes tol a side new)
