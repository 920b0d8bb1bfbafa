-- connect and disconnect on lent memory, by how they end. Assumes nothing.
use Rattle.std.specs.Prelude.{None, Some, Ok}
use mathlib.Core.Path.{◌≡◌, refl, sym, ap, ◌∙◌}
use Prim.Native.Nat.{ℕ, ◌≤◌}
use mathlib.Core.Bool.{Bool, true, false, not, cond, ◌&&◌, ◌||◌, true≢false}
use mathlib.Core.List.{[], ◌∷◌, ◌++◌, map}
use lib.Dec.{eqb}
use borrow.Author.Tests.{eq-eqb, eqb-true}
use Rattle.lists.specs.Select.{has, place, ascending}
use Rattle.lists.proofs.Select.{has-place, ascending-place}
use Rattle.entities.specs.Types.{lane_entity}
use Rattle.entities.specs.Records.{Lane, Map}
use Rattle.rules.specs.Names.{Tolerance, GeometricGap, LaneAbsent, OwnPartner, LaneKind}
use Rattle.rules.specs.Map.{lane, lane_ids}
use Rattle.rules.specs.Sound.{fits_room, last_counter}
use Rattle.rules.specs.Edit as E
use Rattle.rules.specs.Ops as O
use Rattle.laws.proofs.Links.{found-any, lane-id}
use Rattle.laws.proofs.Exact.{has_key}
use Rattle.tables.specs.View.{Tables, lane_of, view}
use Rattle.tables.specs.Formed.{sound_tables}
use Rattle.store.specs.Store.{store, room_of}
use Rattle.row_tests.specs.Returned.{lane_at}
use Rattle.lookup.specs.Lookup.{place_of, drawn}
use Rattle.lookup.proofs.Laws.{place-id}
use Rattle.topology.specs.Topology.{lanes_changed, id_at, links_at}
use Rattle.sound_facts.proofs.Stored.{with_lane_table}
use Rattle.step.specs.Step.{Lent, step, state_of, refusing}
use Rattle.relink.specs.Parts.{pair_of, link_room, linking, unlinking}
use Rattle.step.proofs.Steps.{step-refused}
use Rattle.edit.proofs.Steps.{step-relinking, spread}
use Rattle.edit.proofs.Named.{lanes_named}
use Rattle.sound_facts.proofs.Found.{lane-there, lane-missing, gapped-drawn, lanes-up, leads-by-row}

-- ---- two lanes in id order

pair-has : (a b x : ℕ) → has x (pair_of a b) ≡ (eqb x b || eqb x a)
pair-has a b x = has-place x b (place a []) ∙ ap (λ z. eqb x b || z) (has-place x a [] ∙ last (eqb x a))
  where
    last : (y : Bool) → (y || has x []) ≡ y
    last y = unfold has in nothing y
      where
        nothing : (y : Bool) → (y || false) ≡ y
        nothing true = refl
        nothing false = refl

pair-up : (a b : ℕ) → ascending (pair_of a b) ≡ true
pair-up a b = ascending-place b (place a []) (ascending-place a [] (unfold ascending in refl))

-- a lane that is found is among the ids
pub found-id : (m : Map) (a : ℕ) (l : Lane) → lane m a ≡ Some l → has a (lane_ids m) ≡ true
unfolding lane
found-id m a l e = has_key (λ x. x.id) a m.lanes ∙ found-any (λ x. eqb x.id a) m.lanes l e (λ x. eqb a x.id) (eq-eqb a l.id (sym (lane-id m a l e)))

-- ---- connect

module _ (tol : Tolerance) (l : Lent) (h : sound_tables l.counter l.tables ≡ true) (k : l.counter ≤ last_counter) where
  abbrev t : Tables
  t = l.tables

  module _ (a b : ℕ) where
    pub connect-first-absent : place_of 52 t.lanes a ≡ None → refusing l (LaneAbsent a) ≡ step tol (O.ConnectLanes a b) l
    connect-first-absent e = step-refused tol (O.ConnectLanes a b) l h (LaneAbsent a) (unfold O.edit E.connect in rw (lane-missing t a e))

    pub disconnect-first-absent : place_of 52 t.lanes a ≡ None → refusing l (LaneAbsent a) ≡ step tol (O.DisconnectLanes a b) l
    disconnect-first-absent e = step-refused tol (O.DisconnectLanes a b) l h (LaneAbsent a) (unfold O.edit E.disconnect in rw (lane-missing t a e))

    module _ (i : ℕ) (ea : place_of 52 t.lanes a ≡ Some i) where
      pub connect-second-absent : place_of 52 t.lanes b ≡ None → refusing l (LaneAbsent b) ≡ step tol (O.ConnectLanes a b) l
      connect-second-absent e = step-refused tol (O.ConnectLanes a b) l h (LaneAbsent b) (unfold O.edit E.connect in rw (lane-there t a i ea, lane-missing t b e))

      pub disconnect-second-absent : place_of 52 t.lanes b ≡ None → refusing l (LaneAbsent b) ≡ step tol (O.DisconnectLanes a b) l
      disconnect-second-absent e = step-refused tol (O.DisconnectLanes a b) l h (LaneAbsent b) (unfold O.edit E.disconnect in rw (lane-there t a i ea, lane-missing t b e))

      module _ (j : ℕ) (eb : place_of 52 t.lanes b ≡ Some j) where
        abbrev from : Lane
        from = lane_of t.coordinates (lane_at t.lanes i)

        abbrev to : Lane
        to = lane_of t.coordinates (lane_at t.lanes j)

        pub connect-itself : a ≡ b → refusing l (OwnPartner a) ≡ step tol (O.ConnectLanes a b) l
        connect-itself e =
            step-refused tol (O.ConnectLanes a b) l h (OwnPartner a) (unfold O.edit E.connect in rw (lane-there t a i ea, lane-there t b j eb, eq-eqb a b e))

        -- the lanes named as modified
        named : (on : Bool) → E.lanes_where (λ x. on && E.either a b x) (view t).lanes ≡ E.refs LaneKind (cond on (pair_of a b) [])
        named on = lanes_named (view t) (λ x. on && (eqb x a || eqb x b)) (cond on (pair_of a b) []) (lanes-up t l.counter h) (up on) (same on) (there on)
          where
            up : (on : Bool) → ascending (cond on (pair_of a b) []) ≡ true
            up true = pair-up a b
            up false = unfold ascending in refl

            same : (on : Bool) (x : ℕ) → (on && (eqb x a || eqb x b)) ≡ has x (cond on (pair_of a b) [])
            same true x = turned (eqb x a) (eqb x b) ∙ sym (pair-has a b x)
              where
                turned : (p q : Bool) → (p || q) ≡ (q || p)
                turned true true = refl
                turned true false = refl
                turned false true = refl
                turned false false = refl
            same false x = unfold has in refl

            there : (on : Bool) (x : ℕ) → has x (cond on (pair_of a b) []) ≡ true → has x (lane_ids (view t)) ≡ true
            there true x g = one (eqb x b) refl (eqb x a) refl (sym (pair-has a b x) ∙ g)
              where
                one : (p : Bool) → eqb x b ≡ p → (q : Bool) → eqb x a ≡ q → (eqb x b || eqb x a) ≡ true → has x (lane_ids (view t)) ≡ true
                one true e q f o = ap (λ z. has z (lane_ids (view t))) (eqb-true x b e) ∙ found-id (view t) b to (lane-there t b j eb)
                one false e true f o = ap (λ z. has z (lane_ids (view t))) (eqb-true x a f) ∙ found-id (view t) a from (lane-there t a i ea)
                one false e false f o = absurd (true≢false (sym (rw (e, f) at o)))
            there false x g = absurd (true≢false (sym (unfold has in g)))

        abbrev linked : Bool
        linked = has b (links_at t.lanes i 35)

        abbrev gap : Bool
        gap = E.gapped tol.gap (drawn t.coordinates t.boundaries) from to

        connect-yields : eqb a b ≡ false
            → O.edit tol (O.ConnectLanes a b) (state_of l)
            ≡ Ok (E.relinking (E.with_lanes (map (E.link_in a b) (view t).lanes) (view t)) (E.lanes_where (λ x. not linked && E.either a b x) (view t).lanes)
            (E.when gap (E.warning GeometricGap (lane_entity a) (lane_entity b ∷ [])) ++ E.when linked (E.no_op a)))
        unfolding O.edit E.connect
        connect-yields ne = rw (lane-there t a i ea, lane-there t b j eb, ne, leads-by-row t l.counter h a b i ea, gapped-drawn t tol.gap from to)

        disconnect-yields : O.edit tol (O.DisconnectLanes a b) (state_of l)
            ≡ Ok (E.relinking (E.with_lanes (map (E.link_out a b) (view t).lanes) (view t)) (E.lanes_where (λ x. linked && E.either a b x) (view t).lanes)
            (E.when (not linked) (E.no_op a)))
        unfolding O.edit E.disconnect
        disconnect-yields = rw (lane-there t a i ea, lane-there t b j eb, leads-by-row t l.counter h a b i ea)

        abbrev joined : Map
        joined = E.with_lanes (map (E.link_in a b) (view t).lanes) (view t)

        abbrev parted : Map
        parted = E.with_lanes (map (E.link_out a b) (view t).lanes) (view t)

        row-a : id_at t.lanes i ≡ a
        row-a = place-id 52 t.lanes a i ea

        row-b : id_at t.lanes j ≡ b
        row-b = place-id 52 t.lanes b j eb

        pub connect-done : eqb a b ≡ false → fits_room (room_of t) joined ≡ (linked || link_room t.lanes i j)
            → ((linked || link_room t.lanes i j) ≡ true → store t joined ≡ with_lane_table (lanes_changed (E.link_in a b) t.lanes) t)
            → step tol (O.ConnectLanes a b) l ≡ spread l (linking t.lanes i j linked gap l.modified l.warnings)
        connect-done ne room st =
            step-relinking tol (O.ConnectLanes a b) l h joined (E.lanes_where (λ x. not linked && E.either a b x) (view t).lanes)
            (E.when gap (E.warning GeometricGap (lane_entity a) (lane_entity b ∷ [])) ++ E.when linked (E.no_op a)) (connect-yields ne) k
            (cond linked [] (pair_of a b)) (lanes_changed (E.link_in a b) t.lanes) (linked || link_room t.lanes i j)
            (named (not linked) ∙ ap (E.refs LaneKind) (other linked)) room st
            ∙ rw (row-a, row-b)
          where
            other : (x : Bool) → cond (not x) (pair_of a b) [] ≡ cond x [] (pair_of a b)
            other true = refl
            other false = refl

        pub disconnect-done : fits_room (room_of t) parted ≡ true → (true ≡ true → store t parted ≡ with_lane_table (lanes_changed (E.link_out a b) t.lanes) t)
            → step tol (O.DisconnectLanes a b) l ≡ spread l (unlinking t.lanes i j linked l.modified l.warnings)
        disconnect-done room st =
            step-relinking tol (O.DisconnectLanes a b) l h parted (E.lanes_where (λ x. linked && E.either a b x) (view t).lanes) (E.when (not linked) (E.no_op a))
            disconnect-yields k (cond linked (pair_of a b) []) (lanes_changed (E.link_out a b) t.lanes) true (named linked) room st
            ∙ rw (row-a, row-b)
