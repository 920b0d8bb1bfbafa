-- set_neighbor on lent memory, by how it ends. Assumes nothing.
use Rattle.std.specs.Prelude.{Option, None, Some, Ok}
use mathlib.Core.Path.{◌≡◌, refl, sym, ap, ◌∙◌}
use Prim.Native.Nat.{ℕ, ◌≤◌}
use mathlib.Core.Bool.{Bool, true, false, not, cond, ◌&&◌, ◌||◌, true≢false}
use mathlib.Core.List.{List, [], ◌∷◌, ◌++◌, map}
use lib.Dec.{eqb}
use lib.Ieee.{Float}
use borrow.Author.Tests.{eq-eqb, eqb-true}
use Rattle.lists.specs.Select.{has, place, ascending}
use Rattle.lists.proofs.Booleans.{and-fst, and-snd, same_test}
use Rattle.lists.proofs.Select.{has-place, ascending-place}
use Rattle.entities.specs.Types.{lane_entity, reciprocal_side}
use Rattle.entities.specs.Records.{Lane, Map, Issue}
use Rattle.rules.specs.Names.{Tolerance, Side, Left, Right, Neighbor, BoundaryUnshared, LaneAbsent, OwnPartner, LaneKind}
use Rattle.rules.specs.Map.{lane, lane_ids, neighbor_on, boundary_on, names}
use Rattle.rules.specs.Sound.{fits_room, last_counter, neighbors_reciprocal, slot_returned, has_neighbor, holds}
use Rattle.rules.specs.Edit as E
use Rattle.rules.specs.Ops as O
use Rattle.rules.proofs.Facts.{sound-facts}
use Rattle.laws.proofs.Exact.{has_key, any-weaken}
use Rattle.laws.proofs.Connect.{found_all}
use Rattle.tables.specs.View.{Tables, ref_at, lane_of, view}
use Rattle.tables.specs.Formed.{sound_tables}
use Rattle.store.specs.Store.{store, room_of}
use Rattle.row_tests.specs.Returned.{lane_at}
use Rattle.lookup.specs.Lookup.{place_of, side_word}
use Rattle.lookup.proofs.Laws.{place-id, side-ref}
use Rattle.topology.specs.Topology.{lanes_changed, id_at, slot_held}
use Rattle.sound_facts.proofs.Stored.{with_lane_table}
use Rattle.sound_facts.proofs.Found.{sound-map, lane-there, lane-missing, lanes-up}
use Rattle.step.specs.Step.{Lent, step, state_of, refusing}
use Rattle.step.proofs.Steps.{step-refused}
use Rattle.relink.specs.Parts.{place_slot, slot_ids, unshared_issues, reslotting, freeing, setting}
use Rattle.edit.proofs.Steps.{step-relinking, spread}
use Rattle.edit.proofs.Named.{lanes_named}
use Rattle.edit.proofs.Connects.{found-id}

-- ---- the lanes whose slots are set or freed

slot_has : (o : Option Neighbor) (ids : List ℕ) (x : ℕ) → has x (place_slot o ids) ≡ (names o x || has x ids)
slot_has None ids x = refl
slot_has (Some n) ids x = has-place x n.lane ids ∙ ap (λ z. z || has x ids) (turned x n.lane)
  where
    turned : (x y : ℕ) → eqb x y ≡ eqb y x
    turned x y = same_test (eqb x y) (eqb y x) (λ e. eq-eqb y x (sym (eqb-true x y e))) (λ e. eq-eqb x y (sym (eqb-true y x e)))

slot-up : (o : Option Neighbor) (ids : List ℕ) → ascending ids ≡ true → ascending (place_slot o ids) ≡ true
slot-up None ids h = h
slot-up (Some n) ids h = ascending-place n.lane ids h

ids_up : (a : ℕ) (old new other : Option Neighbor) → ascending (slot_ids a old new other) ≡ true
ids_up a old new other =
    slot-up other (place_slot new (place_slot old (place a []))) (slot-up new (place_slot old (place a [])) (slot-up old (place a []) (ascending-place a [] (unfold ascending in refl))))

one_has : (a x : ℕ) → has x (place a []) ≡ (eqb x a || false)
unfolding has
one_has a x = has-place x a []

ids-has : (a : ℕ) (old new other : Option Neighbor) (x : ℕ) → (eqb x a || names old x || names new x || names other x) ≡ has x (slot_ids a old new other)
ids-has a old new other x =
    sym
    (slot_has other (place_slot new (place_slot old (place a []))) x
    ∙ (ap (λ z. names other x || z) (slot_has new (place_slot old (place a [])) x ∙ ap (λ z. names new x || z) (slot_has old (place a []) x ∙ ap (λ z. names old x || z) (one_has a x)))
    ∙ shuffled (names other x) (names new x) (names old x) (eqb x a)))
  where
    shuffled : (p q r s : Bool) → (p || (q || (r || (s || false)))) ≡ (s || r || q || p)
    shuffled p q r true = either p q r
      where
        either : (p q r : Bool) → (p || (q || (r || true))) ≡ true
        either true q r = refl
        either false true r = refl
        either false false true = refl
        either false false false = refl
    shuffled true true true false = refl
    shuffled true true false false = refl
    shuffled true false true false = refl
    shuffled true false false false = refl
    shuffled false true true false = refl
    shuffled false true false false = refl
    shuffled false false true false = refl
    shuffled false false false false = refl

-- ---- slots and boundaries do not see coordinates

held_any : (c : List Float) (t : List ℕ) (i : ℕ) (side : Side) → neighbor_on side (lane_of c (lane_at t i)) ≡ slot_held t i side
unfolding lane_of
held_any c t i Left = refl
held_any c t i Right = refl

-- ---- by the neighbour's lane

unshared-by : (m : Map) (l : Lane) (side : Side) (n : Neighbor) (o : Lane) → lane m n.lane ≡ Some o
    → E.unshared m l side (Some n)
    ≡ E.when (not (eqb (boundary_on side l).boundary (boundary_on (reciprocal_side side n.direction) o).boundary)) (E.warning BoundaryUnshared (lane_entity l.id) (lane_entity n.lane ∷ []))
unshared-by m l side n o e = rw (e, E.unshared)

slot-by : (m : Map) (side : Side) (n : Neighbor) (o : Lane) → lane m n.lane ≡ Some o → E.slot_in m side (Some n) ≡ neighbor_on (reciprocal_side side n.direction) o
slot-by m side n o e = rw (e, E.slot_in)

-- ---- lanes that a slot names are there

module _ (m : Map) (sane : neighbors_reciprocal m ≡ true) (a : ℕ) (la : Lane) (ea : lane m a ≡ Some la) where
  both-returned : (slot_returned m la.id Left la.left_neighbor && slot_returned m la.id Right la.right_neighbor) ≡ true
  unfolding lane neighbors_reciprocal
  both-returned =
      found_all (λ l. eqb l.id a) (λ l. slot_returned m l.id Left l.left_neighbor && slot_returned m l.id Right l.right_neighbor) m.lanes la ea sane

  returned-there : (i : ℕ) (side : Side) (n : Neighbor) → slot_returned m i side (Some n) ≡ true → has n.lane (lane_ids m) ≡ true
  unfolding has_neighbor
  returned-there i side n h =
      has_key (λ x. x.id) n.lane m.lanes
      ∙ any-weaken (λ l. eqb l.id n.lane && holds (neighbor_on (reciprocal_side side n.direction) l) i n.direction) (λ l. eqb n.lane l.id) m.lanes (λ l e.
      eq-eqb n.lane l.id (sym (eqb-true l.id n.lane (and-fst (eqb l.id n.lane) (holds (neighbor_on (reciprocal_side side n.direction) l) i n.direction) e)))) h

  slot-there : (side : Side) (n : Neighbor) → neighbor_on side la ≡ Some n → has n.lane (lane_ids m) ≡ true
  slot-there Left n e =
      returned-there la.id Left n
      (ap (slot_returned m la.id Left) (sym e) ∙ and-fst (slot_returned m la.id Left la.left_neighbor) (slot_returned m la.id Right la.right_neighbor) both-returned)
  slot-there Right n e =
      returned-there la.id Right n
      (ap (slot_returned m la.id Right) (sym e) ∙ and-snd (slot_returned m la.id Left la.left_neighbor) (slot_returned m la.id Right la.right_neighbor) both-returned)

  pub slot-named : (side : Side) (x : ℕ) → names (neighbor_on side la) x ≡ true → has x (lane_ids m) ≡ true
  slot-named side x h = go (neighbor_on side la) refl h
    where
      go : (o : Option Neighbor) → neighbor_on side la ≡ o → names o x ≡ true → has x (lane_ids m) ≡ true
      go None e q = absurd (true≢false (sym q))
      go (Some n) e q = ap (λ z. has z (lane_ids m)) (sym (eqb-true n.lane x q)) ∙ slot-there side n e

-- ---- set_neighbor

module _ (tol : Tolerance) (l : Lent) (h : sound_tables l.counter l.tables ≡ true) (k : l.counter ≤ last_counter) (a : ℕ) (side : Side) where
  abbrev t : Tables
  t = l.tables

  pub set-absent : (new : Option Neighbor) → place_of 52 t.lanes a ≡ None → refusing l (LaneAbsent a) ≡ step tol (O.SetNeighbor a side new) l
  set-absent new e = step-refused tol (O.SetNeighbor a side new) l h (LaneAbsent a) (unfold O.edit E.set_neighbor in rw (lane-missing t a e))

  module _ (i : ℕ) (ea : place_of 52 t.lanes a ≡ Some i) where
    abbrev from : Lane
    from = lane_of t.coordinates (lane_at t.lanes i)

    pub set-other-absent : (n : Neighbor) → place_of 52 t.lanes n.lane ≡ None → refusing l (LaneAbsent n.lane) ≡ step tol (O.SetNeighbor a side (Some n)) l
    set-other-absent n e = step-refused tol (O.SetNeighbor a side (Some n)) l h (LaneAbsent n.lane) (unfold O.edit E.set_neighbor in rw (lane-there t a i ea, lane-missing t n.lane e))

    pub set-itself : (n : Neighbor) (j : ℕ) → place_of 52 t.lanes n.lane ≡ Some j → n.lane ≡ a → refusing l (OwnPartner a) ≡ step tol (O.SetNeighbor a side (Some n)) l
    set-itself n j e f =
        step-refused tol (O.SetNeighbor a side (Some n)) l h (OwnPartner a) (unfold O.edit E.set_neighbor in rw (lane-there t a i ea, lane-there t n.lane j e, eq-eqb n.lane a f))

    abbrev old : Option Neighbor
    old = slot_held t.lanes i side

    -- the edit once it is decided what the other lane's slot held, and what is warned of
    module _ (new other : Option Neighbor) (is : List Issue) where
      abbrev turned : Lane → Lane
      turned = E.reslotted (λ x s was. cond (E.same_slot old new) was (E.slot_after a side new old other x s was))

      abbrev edited : Map
      edited = E.with_lanes (map turned (view t).lanes) (view t)

      abbrev chosen : Lane → Bool
      chosen x = not (E.same_slot old new) && (eqb x.id a || names old x.id || names new x.id || names other x.id)

      named : ((x : ℕ) → has x (slot_ids a old new other) ≡ true → has x (lane_ids (view t)) ≡ true)
          → (b : Bool) → E.lanes_where (λ x. not b && (eqb x.id a || names old x.id || names new x.id || names other x.id)) (view t).lanes ≡ E.refs LaneKind (cond b [] (slot_ids a old new other))
      named there b = lanes_named (view t) (λ x. not b && (eqb x a || names old x || names new x || names other x)) (cond b [] (slot_ids a old new other)) (lanes-up t l.counter h) (up b) (same b) (in_map b)
        where
          up : (b : Bool) → ascending (cond b [] (slot_ids a old new other)) ≡ true
          up true = unfold ascending in refl
          up false = ids_up a old new other

          same : (b : Bool) (x : ℕ) → (not b && (eqb x a || names old x || names new x || names other x)) ≡ has x (cond b [] (slot_ids a old new other))
          same true x = unfold has in refl
          same false x = ids-has a old new other x

          in_map : (b : Bool) (x : ℕ) → has x (cond b [] (slot_ids a old new other)) ≡ true → has x (lane_ids (view t)) ≡ true
          in_map true x g = absurd (true≢false (sym (unfold has in g)))
          in_map false x g = there x g

      set-done : (value : Option Neighbor) → O.edit tol (O.SetNeighbor a side value) (state_of l) ≡ Ok (E.relinking edited (E.lanes_where chosen (view t).lanes) (E.when (E.same_slot old new) (E.no_op a) ++ is))
          → ((x : ℕ) → has x (slot_ids a old new other) ≡ true → has x (lane_ids (view t)) ≡ true)
          → fits_room (room_of t) edited ≡ true
          → (true ≡ true → store t edited ≡ with_lane_table (cond (E.same_slot old new) t.lanes (lanes_changed (E.reslotted (E.slot_after a side new old other)) t.lanes)) t)
          → step tol (O.SetNeighbor a side value) l ≡ spread l (reslotting t.lanes i side new other is l.modified l.warnings)
      set-done value yields there room st =
          step-relinking tol (O.SetNeighbor a side value) l h edited (E.lanes_where chosen (view t).lanes) (E.when (E.same_slot old new) (E.no_op a) ++ is) yields k
          (cond (E.same_slot old new) [] (slot_ids a old new other)) (cond (E.same_slot old new) t.lanes (lanes_changed (E.reslotted (E.slot_after a side new old other)) t.lanes)) true
          (named there (E.same_slot old new)) room st
          ∙ rw (place-id 52 t.lanes a i ea)

    -- every lane named is there
    sane : neighbors_reciprocal (view t) ≡ true
    sane = (sound-facts l.counter (view t) (sound-map l.counter t h)).neighbors

    old-there : (x : ℕ) → names old x ≡ true → has x (lane_ids (view t)) ≡ true
    old-there x e = slot-named (view t) sane a from (lane-there t a i ea) side x (ap (λ z. names z x) (held_any t.coordinates t.lanes i side) ∙ e)

    all_there : (new other : Option Neighbor) → ((x : ℕ) → names new x ≡ true → has x (lane_ids (view t)) ≡ true) → ((x : ℕ) → names other x ≡ true → has x (lane_ids (view t)) ≡ true)
        → (x : ℕ) → has x (slot_ids a old new other) ≡ true → has x (lane_ids (view t)) ≡ true
    all_there new other n o x e = go (eqb x a) refl (names old x) refl (names new x) refl (names other x) refl (ids-has a old new other x ∙ e)
      where
        go : (p : Bool) → eqb x a ≡ p → (q : Bool) → names old x ≡ q → (r : Bool) → names new x ≡ r → (s : Bool) → names other x ≡ s
            → (eqb x a || names old x || names new x || names other x) ≡ true → has x (lane_ids (view t)) ≡ true
        go true p q f r g s u w = ap (λ z. has z (lane_ids (view t))) (eqb-true x a p) ∙ found-id (view t) a from (lane-there t a i ea)
        go false p true f r g s u w = old-there x f
        go false p false f true g s u w = n x g
        go false p false f false g true u w = o x u
        go false p false f false g false u w = absurd (true≢false (sym (rw (p, f, g, u) at w)))

    -- ---- a slot freed

    free-yields : O.edit tol (O.SetNeighbor a side None) (state_of l)
        ≡ Ok (E.relinking (edited None None []) (E.lanes_where (chosen None None []) (view t).lanes) (E.when (E.same_slot old None) (E.no_op a) ++ []))
    unfolding O.edit E.set_neighbor
    free-yields = rw (lane-there t a i ea, held_any t.coordinates t.lanes i side)

    pub free-done : fits_room (room_of t) (edited None None []) ≡ true
        → (true ≡ true → store t (edited None None []) ≡ with_lane_table (cond (E.same_slot old None) t.lanes (lanes_changed (E.reslotted (E.slot_after a side None old None)) t.lanes)) t)
        → step tol (O.SetNeighbor a side None) l ≡ spread l (freeing t.lanes i side l.modified l.warnings)
    free-done room st = set-done None None [] None free-yields (all_there None None nobody nobody) room st
      where
        nobody : (x : ℕ) → false ≡ true → has x (lane_ids (view t)) ≡ true
        nobody x e = absurd (true≢false (sym e))

    -- ---- a slot set

    module _ (n : Neighbor) (j : ℕ) (en : place_of 52 t.lanes n.lane ≡ Some j) (ne : eqb n.lane a ≡ false) where
      abbrev answer : Side
      answer = reciprocal_side side n.direction

      abbrev to : Lane
      to = lane_of t.coordinates (lane_at t.lanes j)

      abbrev other : Option Neighbor
      other = slot_held t.lanes j answer

      abbrev warned : List Issue
      warned = E.when (unshared_issues t.lanes i side j answer) (E.warning BoundaryUnshared (lane_entity (id_at t.lanes i)) (lane_entity (id_at t.lanes j) ∷ []))

      boundary-any : (s : Side) (r : ℕ) → (boundary_on s (lane_of t.coordinates (lane_at t.lanes r))).boundary ≡ (ref_at (side_word s) (lane_at t.lanes r)).boundary
      boundary-any s r = ap (λ z. z.boundary) (side-ref t.coordinates (lane_at t.lanes r) s)

      own-id : from.id ≡ id_at t.lanes i
      unfolding lane_of
      own-id = refl

      told : E.unshared (view t) from side (Some n) ≡ warned
      told = unshared-by (view t) from side n to (lane-there t n.lane j en) ∙ rw (boundary-any side i, boundary-any answer j, own-id, place-id 52 t.lanes n.lane j en)

      slot_in_lem : E.slot_in (view t) side (Some n) ≡ other
      slot_in_lem = slot-by (view t) side n to (lane-there t n.lane j en) ∙ held_any t.coordinates t.lanes j answer

      set-yields : O.edit tol (O.SetNeighbor a side (Some n)) (state_of l)
          ≡ Ok (E.relinking (edited (Some n) other warned) (E.lanes_where (chosen (Some n) other warned) (view t).lanes) (E.when (E.same_slot old (Some n)) (E.no_op a) ++ warned))
      unfolding O.edit E.set_neighbor
      set-yields = rw (lane-there t a i ea, lane-there t n.lane j en, ne, slot_in_lem, told, held_any t.coordinates t.lanes i side)

      pub set-slot-done : fits_room (room_of t) (edited (Some n) other warned) ≡ true
          → (true ≡ true → store t (edited (Some n) other warned) ≡ with_lane_table (cond (E.same_slot old (Some n)) t.lanes (lanes_changed (E.reslotted (E.slot_after a side (Some n) old other)) t.lanes)) t)
          → step tol (O.SetNeighbor a side (Some n)) l ≡ spread l (setting t.lanes i side j n.direction l.modified l.warnings)
      set-slot-done room st =
          set-done (Some n) other warned (Some n) set-yields (all_there (Some n) other new-there other-there) room st
          ∙ ap (λ z. spread l (reslotting t.lanes i side (Some (record { lane = z; direction = n.direction })) other warned l.modified l.warnings)) (sym (place-id 52 t.lanes n.lane j en))
        where
          new-there : (x : ℕ) → names (Some n) x ≡ true → has x (lane_ids (view t)) ≡ true
          new-there x e = ap (λ z. has z (lane_ids (view t))) (sym (eqb-true n.lane x e)) ∙ found-id (view t) n.lane to (lane-there t n.lane j en)

          other-there : (x : ℕ) → names other x ≡ true → has x (lane_ids (view t)) ≡ true
          other-there x e = slot-named (view t) sane n.lane to (lane-there t n.lane j en) answer x (ap (λ z. names z x) (held_any t.coordinates t.lanes j answer) ∙ e)
