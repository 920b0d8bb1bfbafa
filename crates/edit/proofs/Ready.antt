-- The edits of links and neighbours from a sound map: room and what is written back follow, so a call is what its rows make of it. Assumes nothing.
use Rattle.std.specs.Prelude.{Option, None, Some}
use mathlib.Core.Path.{◌≡◌, refl, sym, ap, ◌∙◌}
use Prim.Native.Nat.{ℕ, ◌≤◌}
use mathlib.Core.Bool.{Bool, true, false, cond, ◌&&◌, ◌||◌}
use mathlib.Core.List.{List, [], map}
use lib.Dec.{eqb, leb}
use lib.ListN.{length}
use lib.Ieee.{Float}
use Rattle.lists.specs.Every.{all}
use Rattle.lists.specs.Select.{has, place, without}
use Rattle.rules.specs.Names.{Tolerance, Side, Left, Right, Neighbor}
use Rattle.rules.specs.Sound.{fits_room, last_counter}
use Rattle.rules.specs.Edit as E
use Rattle.rules.specs.Ops as O
use Rattle.tables.specs.View.{Tables, word, ids_at, slot_at, lane_of, rows, view}
use Rattle.tables.specs.Formed.{sound_tables}
use Rattle.store.specs.Store.{store, lane_onto, room_of}
use Rattle.row_tests.specs.Returned.{lane_at}
use Rattle.lookup.specs.Lookup.{place_of, drawn}
use Rattle.lookup.proofs.Laws.{place-within, place-id}
use Rattle.topology.specs.Topology.{lanes_changed, id_at, links_at, slot_held}
use Rattle.topology.proofs.Table.{row_words, lanes-changed, lanes-stay}
use Rattle.row_tests.proofs.Lanes.{lane_room, row-formed}
use Rattle.store.proofs.OtherRows.{lane-same}
use Rattle.entities.specs.Types.{reciprocal_side}
use Rattle.sound_facts.proofs.Stored.{with_lane_table, store-relinked, onto-any}
use Rattle.sound_facts.proofs.Room.{room-relinked}
use Rattle.sound_facts.proofs.Facts.{Facts, facts}
use Rattle.step.specs.Step.{Lent, step}
use Rattle.relink.specs.Parts.{Linkable, link_room, linking, unlinking, freeing, setting}
use Rattle.edit.proofs.Steps.{spread}
use Rattle.sound_facts.proofs.Found.{sound-formed, links-by-rows}
use Rattle.edit.proofs.Fitting.{within, connect-room, disconnect-room, own_room}
use Rattle.edit.proofs.Beside.{free-done, set-slot-done}
use Rattle.edit.proofs.Connects.{connect-done, disconnect-done}

lanes-of : (t : Tables) → (view t).lanes ≡ rows 52 (lane_of t.coordinates) t.lanes
unfolding view
lanes-of t = refl

-- what is written of a lane whose links or neighbours change does not depend on coordinates
link-any : (c : List Float) (a b : ℕ) (w : List ℕ) → lane_onto w (E.link_in a b (lane_of c w)) ≡ lane_onto w (E.link_in a b (lane_of [] w))
unfolding lane_of
link-any c a b w =
    onto-any w c [] (slot_at 14 w) (slot_at 16 w) (cond (eqb (word 0 w) b) (place a (ids_at 18 w)) (ids_at 18 w)) (cond (eqb (word 0 w) a) (place b (ids_at 35 w)) (ids_at 35 w))

unlink_any : (c : List Float) (a b : ℕ) (w : List ℕ) → lane_onto w (E.link_out a b (lane_of c w)) ≡ lane_onto w (E.link_out a b (lane_of [] w))
unfolding lane_of
unlink_any c a b w =
    onto-any w c [] (slot_at 14 w) (slot_at 16 w) (cond (eqb (word 0 w) b) (without a (ids_at 18 w)) (ids_at 18 w)) (cond (eqb (word 0 w) a) (without b (ids_at 35 w)) (ids_at 35 w))

slots-any : (c : List Float) (f : ℕ → Side → Option Neighbor → Option Neighbor) (w : List ℕ) → lane_onto w (E.reslotted f (lane_of c w)) ≡ lane_onto w (E.reslotted f (lane_of [] w))
unfolding lane_of
slots-any c f w = onto-any w c [] (f (word 0 w) Left (slot_at 14 w)) (f (word 0 w) Right (slot_at 16 w)) (ids_at 18 w) (ids_at 35 w)

module _ (counter : ℕ) (t : Tables) (h : sound_tables counter t ≡ true) where
  abbrev known : Facts counter t
  known = facts counter t h

  module _ (a b i j : ℕ) (ea : place_of 52 t.lanes a ≡ Some i) (eb : place_of 52 t.lanes b ≡ Some j) where
    row-a : id_at t.lanes i ≡ a
    row-a = place-id 52 t.lanes a i ea

    row-b : id_at t.lanes j ≡ b
    row-b = place-id 52 t.lanes b j eb

    abbrev linked : Bool
    linked = has b (links_at t.lanes i 35)

    -- two lanes that are there can be linked and unlinked
    pub linkable : Linkable t.lanes i j linked
    linkable = (
      known.lanes,
      (
        place-within 52 t.lanes a i ea,
        (
          place-within 52 t.lanes b j eb,
          (
            ap (λ z. has z (links_at t.lanes i 35)) (sym row-b),
            (
              links-by-rows t counter h a b i j ea eb ∙ ap (λ z. has z (links_at t.lanes j 18)) (sym row-a),
              ((known.links-ascend i (place-within 52 t.lanes a i ea)).1, (known.links-ascend j (place-within 52 t.lanes b j eb)).0),
            ),
          ),
        ),
      ),
    )

    join-room : fits_room (room_of t) (E.with_lanes (map (E.link_in a b) (view t).lanes) (view t)) ≡ (linked || link_room t.lanes i j)
    join-room =
        room-relinked counter t h (λ l. l.left_neighbor) (λ l. l.right_neighbor) (λ l. (E.link_in a b l).predecessors) (λ l. (E.link_in a b l).successors)
        ∙ fit (connect-room t.coordinates t.lanes i j linked linkable)
      where
        fit : all (λ l. leb (length (E.link_in (id_at t.lanes i) (id_at t.lanes j) l).predecessors) 16 && leb (length (E.link_in (id_at t.lanes i) (id_at t.lanes j) l).successors) 16) (rows 52 (lane_of t.coordinates) t.lanes) ≡ (linked || link_room t.lanes i j)
            → all (λ l. leb (length (E.link_in a b l).predecessors) 16 && leb (length (E.link_in a b l).successors) 16) (view t).lanes ≡ (linked || link_room t.lanes i j)
        fit e = let f = rw (row-a, row-b) at e in ap (all (λ l. leb (length (E.link_in a b l).predecessors) 16 && leb (length (E.link_in a b l).successors) 16)) (lanes-of t) ∙ f

    part_room : fits_room (room_of t) (E.with_lanes (map (E.link_out a b) (view t).lanes) (view t)) ≡ true
    part_room =
        room-relinked counter t h (λ l. l.left_neighbor) (λ l. l.right_neighbor) (λ l. (E.link_out a b l).predecessors) (λ l. (E.link_out a b l).successors)
        ∙ fit (disconnect-room t.coordinates t.lanes i j linked linkable)
      where
        fit : all (λ l. leb (length (E.link_out (id_at t.lanes i) (id_at t.lanes j) l).predecessors) 16 && leb (length (E.link_out (id_at t.lanes i) (id_at t.lanes j) l).successors) 16) (rows 52 (lane_of t.coordinates) t.lanes) ≡ true
            → all (λ l. leb (length (E.link_out a b l).predecessors) 16 && leb (length (E.link_out a b l).successors) 16) (view t).lanes ≡ true
        fit e = let f = rw (row-a, row-b) at e in ap (all (λ l. leb (length (E.link_out a b l).predecessors) 16 && leb (length (E.link_out a b l).successors) 16)) (lanes-of t) ∙ f

    join-stored : store t (E.with_lanes (map (E.link_in a b) (view t).lanes) (view t)) ≡ with_lane_table (lanes_changed (E.link_in a b) t.lanes) t
    join-stored = store-relinked t (sound-formed counter t h) (E.link_in a b) (λ l. refl) (link-any t.coordinates a b)

    part-stored : store t (E.with_lanes (map (E.link_out a b) (view t).lanes) (view t)) ≡ with_lane_table (lanes_changed (E.link_out a b) t.lanes) t
    part-stored = store-relinked t (sound-formed counter t h) (E.link_out a b) (λ l. refl) (unlink_any t.coordinates a b)

  -- ---- slots

  module _ (f : ℕ → Side → Option Neighbor → Option Neighbor) where
    slots-room : fits_room (room_of t) (E.with_lanes (map (E.reslotted f) (view t).lanes) (view t)) ≡ true
    slots-room =
        room-relinked counter t h (λ l. f l.id Left l.left_neighbor) (λ l. f l.id Right l.right_neighbor) (λ l. l.predecessors) (λ l. l.successors)
        ∙ (ap (all within) (lanes-of t) ∙ own_room t.coordinates t.lanes known.lanes)

    slots-stored : store t (E.with_lanes (map (E.reslotted f) (view t).lanes) (view t)) ≡ with_lane_table (lanes_changed (E.reslotted f) t.lanes) t
    slots-stored = store-relinked t (sound-formed counter t h) (E.reslotted f) (λ l. refl) (slots-any t.coordinates f)

    -- slots that stay are not written
    slots-unless : (b : Bool) → lanes_changed (E.reslotted (λ x s was. cond b was (f x s was))) t.lanes ≡ cond b t.lanes (lanes_changed (E.reslotted f) t.lanes)
    slots-unless false = refl
    slots-unless true =
        lanes-changed t.lanes known.lanes (E.reslotted (λ x s was. was)) (λ l. refl)
        ∙ lanes-stay t.lanes known.lanes (λ w. lane_onto w (E.reslotted (λ x s was. was) (lane_of [] w))) (λ k l.
        lane-same [] (lane_at t.lanes k) (row_words t.lanes k (lane_room t.lanes known.lanes k l)) (row-formed t.lanes known.lanes k l))

module _ (tol : Tolerance) (l : Lent) (h : sound_tables l.counter l.tables ≡ true) (k : l.counter ≤ last_counter)
    (a b i j : ℕ) (ea : place_of 52 l.tables.lanes a ≡ Some i) (eb : place_of 52 l.tables.lanes b ≡ Some j) where
  abbrev L : List ℕ
  L = l.tables.lanes

  pub connect-ends : eqb a b ≡ false
      → step tol (O.ConnectLanes a b) l
      ≡ spread l (linking L i j (has b (links_at L i 35))
      (E.gapped tol.gap (drawn l.tables.coordinates l.tables.boundaries) (lane_of l.tables.coordinates (lane_at L i)) (lane_of l.tables.coordinates (lane_at L j)))
      l.modified l.warnings)
  connect-ends ne = connect-done tol l h k a b i ea j eb ne (join-room l.counter l.tables h a b i j ea eb) (λ r. join-stored l.counter l.tables h a b i j ea eb)

  pub disconnect-ends : step tol (O.DisconnectLanes a b) l ≡ spread l (unlinking L i j (has b (links_at L i 35)) l.modified l.warnings)
  disconnect-ends = disconnect-done tol l h k a b i ea j eb (part_room l.counter l.tables h a b i j ea eb) (λ r. part-stored l.counter l.tables h a b i j ea eb)

module _ (tol : Tolerance) (l : Lent) (h : sound_tables l.counter l.tables ≡ true) (k : l.counter ≤ last_counter)
    (a : ℕ) (side : Side) (i : ℕ) (ea : place_of 52 l.tables.lanes a ≡ Some i) where
  abbrev table : List ℕ
  table = l.tables.lanes

  abbrev slots_of : Option Neighbor → Option Neighbor → ℕ → Side → Option Neighbor → Option Neighbor
  slots_of new other = E.slot_after a side new (slot_held table i side) other

  reslot_stored : (new other : Option Neighbor)
      → store l.tables (E.with_lanes (map (E.reslotted (λ x s was. cond (E.same_slot (slot_held table i side) new) was (slots_of new other x s was))) (view l.tables).lanes) (view l.tables))
      ≡ with_lane_table (cond (E.same_slot (slot_held table i side) new) table (lanes_changed (E.reslotted (slots_of new other)) table)) l.tables
  reslot_stored new other =
      slots-stored l.counter l.tables h (λ x s was. cond (E.same_slot (slot_held table i side) new) was (slots_of new other x s was))
      ∙ ap (λ z. with_lane_table z l.tables) (slots-unless l.counter l.tables h (slots_of new other) (E.same_slot (slot_held table i side) new))

  pub free-ends : step tol (O.SetNeighbor a side None) l ≡ spread l (freeing table i side l.modified l.warnings)
  free-ends =
      free-done tol l h k a side i ea (slots-room l.counter l.tables h (λ x s was. cond (E.same_slot (slot_held table i side) None) was (slots_of None None x s was)))
      (λ r. reslot_stored None None)

  pub set-ends : (n : Neighbor) (j : ℕ) → place_of 52 table n.lane ≡ Some j → eqb n.lane a ≡ false
      → step tol (O.SetNeighbor a side (Some n)) l ≡ spread l (setting table i side j n.direction l.modified l.warnings)
  set-ends n j en ne =
      let other = slot_held table j (reciprocal_side side n.direction) in
      set-slot-done tol l h k a side i ea n j en ne
      (slots-room l.counter l.tables h (λ x s was. cond (E.same_slot (slot_held table i side) (Some n)) was (slots_of (Some n) other x s was)))
      (λ r. reslot_stored (Some n) other)
