-- What changes of the lane table do to ids and to the relations `leads_to` and `comes_from`.
use mathlib.Core.Path.{◌≡◌, ◌∙◌}
use mathlib.Core.Bool.{Bool, true, ◌&&◌, ◌||◌}
use mathlib.Core.List.{List, ◌++◌, map}
use Prim.Native.Nat.{ℕ}
use lib.Dec.{eqb}
use Rattle.lists.specs.Select.{keep, any, has, ascending}
use Rattle.lists.proofs.Select.{any_append, any-map, any_same, any-keep, any-one, on_found, keys-map, keys-keep}
use Rattle.entities.specs.Records.{Lane, Map}
use Rattle.rules.specs.Map.{lane, leads_to, comes_from, lane_ids}
use Rattle.rules.specs.Edit.{with_lanes}

-- ---- look-ups: with ascending ids a relation is a test of the lane that is found

pub leads-found : (m : Map) (a b : ℕ) → ascending (lane_ids m) ≡ true → leads_to m a b ≡ on_found (λ l. has b l.successors) (lane m a)
unfolding leads_to lane
leads-found m a b h = any-one (λ l. l.id) a (λ l. has b l.successors) m.lanes h

pub comes-found : (m : Map) (a b : ℕ) → ascending (lane_ids m) ≡ true → comes_from m a b ≡ on_found (λ l. has a l.predecessors) (lane m b)
unfolding comes_from lane
comes-found m a b h = any-one (λ l. l.id) b (λ l. has a l.predecessors) m.lanes h

-- ---- a change of every lane that keeps its id

pub ids-map : (f : Lane → Lane) → ((l : Lane) → (f l).id ≡ l.id) → (m : Map) → lane_ids (with_lanes (map f m.lanes) m) ≡ lane_ids m
ids-map f h m = keys-map (λ l. l.id) f h m.lanes

-- the relation after the change is the test of the changed lanes
pub leads-map : (f : Lane → Lane) → ((l : Lane) → (f l).id ≡ l.id) → (m : Map) (a b : ℕ)
    → leads_to (with_lanes (map f m.lanes) m) a b ≡ any (λ l. eqb l.id a && has b (f l).successors) m.lanes
unfolding leads_to
leads-map f h m a b =
    any-map (λ l. eqb l.id a && has b l.successors) f m.lanes
    ∙ any_same (λ l. eqb (f l).id a && has b (f l).successors) (λ l. eqb l.id a && has b (f l).successors) m.lanes (λ l. rw (h l))

pub comes-map : (f : Lane → Lane) → ((l : Lane) → (f l).id ≡ l.id) → (m : Map) (a b : ℕ)
    → comes_from (with_lanes (map f m.lanes) m) a b ≡ any (λ l. eqb l.id b && has a (f l).predecessors) m.lanes
unfolding comes_from
comes-map f h m a b =
    any-map (λ l. eqb l.id b && has a l.predecessors) f m.lanes
    ∙ any_same (λ l. eqb (f l).id b && has a (f l).predecessors) (λ l. eqb l.id b && has a (f l).predecessors) m.lanes (λ l. rw (h l))

-- ---- lanes that go, and lanes that are appended

pub ids-keep : (p : Lane → Bool) (m : Map) → ascending (lane_ids m) ≡ true → ascending (lane_ids (with_lanes (keep p m.lanes) m)) ≡ true
ids-keep p m h = keys-keep (λ l. l.id) p m.lanes h

pub leads-keep : (p : Lane → Bool) (m : Map) (a b : ℕ)
    → leads_to (with_lanes (keep p m.lanes) m) a b ≡ any (λ l. p l && (eqb l.id a && has b l.successors)) m.lanes
unfolding leads_to
leads-keep p m a b = any-keep (λ l. eqb l.id a && has b l.successors) p m.lanes

pub comes-keep : (p : Lane → Bool) (m : Map) (a b : ℕ)
    → comes_from (with_lanes (keep p m.lanes) m) a b ≡ any (λ l. p l && (eqb l.id b && has a l.predecessors)) m.lanes
unfolding comes_from
comes-keep p m a b = any-keep (λ l. eqb l.id b && has a l.predecessors) p m.lanes

pub leads-append : (m : Map) (ls ks : List Lane) (a b : ℕ) → leads_to (with_lanes (ls ++ ks) m) a b ≡ (leads_to (with_lanes ls m) a b || leads_to (with_lanes ks m) a b)
unfolding leads_to
leads-append m ls ks a b = any_append (λ l. eqb l.id a && has b l.successors) ls ks

pub comes-append : (m : Map) (ls ks : List Lane) (a b : ℕ)
    → comes_from (with_lanes (ls ++ ks) m) a b ≡ (comes_from (with_lanes ls m) a b || comes_from (with_lanes ks m) a b)
unfolding comes_from
comes-append m ls ks a b = any_append (λ l. eqb l.id b && has a l.predecessors) ls ks
