-- connect, disconnect and set_neighbor obey the law of an accepted call. Assumes nothing.
use Rattle.std.specs.Prelude.{Option, None, Some, Err, Ok}
use mathlib.Core.Path.{◌≡◌, refl, sym, ap, ◌∙◌, subst}
use mathlib.Core.Bool.{Bool, true, false, not, ◌&&◌, ◌||◌, cond, true≢false}
use mathlib.Core.List.{List, [], ◌∷◌, ◌++◌, map}
use Prim.Native.Nat.{ℕ}
use native.Mathlib.Omega.{arith}
use lib.Dec.{eqb}
use borrow.Author.Tests.{eq-eqb}
use Rattle.entities.specs.Types.{reciprocal_side, lane_entity}
use Rattle.entities.specs.declared.Tolerance.{Tolerance}
use Rattle.entities.specs.declared.Side.{Side}
use Rattle.entities.specs.declared.Neighbor.{Neighbor}
use Rattle.entities.specs.declared.Refusal.{Refusal}
use Rattle.entities.specs.declared.Refusal.TheVariants as R
use Rattle.entities.specs.declared.IssueCode.TheVariants as C
use Rattle.entities.specs.Records.{Lane, Map, Issue}
use Rattle.rules.specs.Map.{lane, leads_to, neighbor_on, names}
use Rattle.rules.specs.Sound.{sound}
use Rattle.rules.specs.Edit.{Res, ◌>>=◌, Passed, passed, check, require, Edited, require_lane, relinking, with_lanes, lanes_where, either, link_in, link_out, gapped, warning, no_op, when, connect, disconnect, set_neighbor, require_neighbor, same_slot, slot_in, slot_after, reslotted, unshared}
use Rattle.rules.specs.Ops.{ConnectLanes, DisconnectLanes, SetNeighbor, State, edit}
use Rattle.laws.proofs.Links.{connect-leads, disconnect-leads}
use Rattle.laws.proofs.Connect.{connect-sound, disconnect-sound}
use Rattle.laws.proofs.Still.{connect-exact, disconnect-exact, ids_up}
use Rattle.laws.proofs.Exact.{relink-exact}
use Rattle.laws.proofs.Slots.{held_at}
use Rattle.laws.proofs.Neighbors.{slots_of, slot_found, Named}
use Rattle.laws.proofs.SetNeighbor.{set-sound, set-exact, reslot_leads}
use Rattle.laws.proofs.Law.{Law, Lawful}
use Rattle.lists.proofs.Select.{map-itself}

-- ---- what a yielding step yields

pub yields : {A : Type 0} {x y : A} → ◌≡◌ {A = Res A} (Ok x) (Ok y) → x ≡ y
yields e = cc

pub no-yield : {A : Type 0} (r : Refusal) (y : A) → ◌≡◌ {A = Res A} (Err r) (Ok y) → ⊥
no-yield r y e = let z : ◌≡◌ {A = ℕ} 0 1 = cc in nothing z
  where
    nothing : ◌≡◌ {A = ℕ} 0 1 → ⊥
    nothing z = omega arith

-- a lane that is required and found
pub required : {B : Type 0} (m : Map) (i : ℕ) (k : Lane → Res B) (e : B) → (require_lane m i >>= k) ≡ Ok e → (l : Lane) × (lane m i ≡ Some l) × (k l ≡ Ok e)
required m i k e h = go (lane m i) refl
  where
    go : (o : Option Lane) → lane m i ≡ o → (l : Lane) × (lane m i ≡ Some l) × (k l ≡ Ok e)
    go None q = absurd (no-yield (R.LaneAbsent i) e (ap (λ o. require o (R.LaneAbsent i) >>= k) (sym q) ∙ h))
    go (Some l) q = (l, q, ap (λ o. require o (R.LaneAbsent i) >>= k) (sym q) ∙ h)

-- a test that is passed
pub checked : {B : Type 0} (b : Bool) (r : Refusal) (k : Passed → Res B) (e : B) → (check b r >>= k) ≡ Ok e → (b ≡ true) × (k passed ≡ Ok e)
checked true r k e h = (refl, h)
checked false r k e h = absurd (no-yield r e h)

-- ---- connect

module _ (tol : Tolerance) (a b : ℕ) where
  pub connect-lawful : Lawful tol (ConnectLanes a b)
  unfolding edit connect
  connect-lawful s sane e h =
      let m = s.map in
      let (from, ea, h1) = required m a (λ from. require_lane m b >>= (λ to. check (not (eqb a b)) (R.OwnPartner a) >>= (λ ok. outcome m from to))) e h in
      let (to, eb, h2) = required m b (λ to. check (not (eqb a b)) (R.OwnPartner a) >>= (λ ok. outcome m from to)) e h1 in
      let (distinct, h3) = checked (not (eqb a b)) (R.OwnPartner a) (λ ok. outcome m from to) e h2 in
      subst (λ x. Law (ConnectLanes a b) s x) (yields h3)
      (record {
        stays_sound = λ ids limits. connect-sound s.counter m a b from to ea eb sane limits;
        books = connect-leads m a b from ea;
        lists-exact = λ ids. connect-exact s.counter m sane a b (warnings m from to);
      })
    where
      warnings : Map → Lane → Lane → List Issue
      warnings m from to =
          when (gapped tol.gap m from to) (warning C.GeometricGap (lane_entity a) (lane_entity b ∷ [])) ++ when (leads_to m a b) (no_op a)

      outcome : Map → Lane → Lane → Res Edited
      outcome m from to =
          Ok (relinking (with_lanes (map (link_in a b) m.lanes) m) (lanes_where (λ l. not (leads_to m a b) && either a b l) m.lanes) (warnings m from to))

  -- ---- disconnect

  pub disconnect-lawful : Lawful tol (DisconnectLanes a b)
  unfolding edit disconnect
  disconnect-lawful s sane e h =
      let m = s.map in
      let (from, ea, h1) = required m a (λ from. require_lane m b >>= (λ to. outcome m)) e h in
      let (to, eb, h2) = required m b (λ to. outcome m) e h1 in
      subst (λ x. Law (DisconnectLanes a b) s x) (yields h2)
      (record {
        stays_sound = λ ids limits. disconnect-sound s.counter m a b sane limits;
        books = disconnect-leads m a b;
        lists-exact = λ ids. disconnect-exact s.counter m sane a b (when (not (leads_to m a b)) (no_op a));
      })
    where
      outcome : Map → Res Edited
      outcome m =
          Ok (relinking (with_lanes (map (link_out a b) m.lanes) m) (lanes_where (λ l. leads_to m a b && either a b l) m.lanes) (when (not (leads_to m a b)) (no_op a)))

-- ---- set_neighbor

-- what the definition reads of the map is its slots
old-slot : (m : Map) (a : ℕ) (l : Lane) → lane m a ≡ Some l → (side : Side) → slots_of m a side ≡ neighbor_on side l
unfolding slots_of
old-slot m a l e side = ap (λ o. slot_found o side) e

other-slot : (m : Map) (side : Side) (new : Option Neighbor) → held_at (slots_of m) side new ≡ slot_in m side new
unfolding slots_of
other-slot m side None = refl
other-slot m side (Some n) = go (lane m n.lane)
  where
    go : (o : Option Lane) → slot_found o (reciprocal_side side n.direction) ≡ elim o [ None ↦ None | Some l ↦ neighbor_on (reciprocal_side side n.direction) l ]
    go None = refl
    go (Some l) = refl

named : (m : Map) (a : ℕ) (new : Option Neighbor) {B : Type 0} (k : Passed → Res B) (e : B) → (require_neighbor m a new >>= k) ≡ Ok e → Named m a new × (k passed ≡ Ok e)
named m a None k e h = (tt, h)
named m a (Some n) k e h = go (lane m n.lane) refl
  where
    go : (o : Option Lane) → lane m n.lane ≡ o → Named m a (Some n) × (k passed ≡ Ok e)
    go None q = absurd (no-yield (R.LaneAbsent n.lane) e (ap (λ o. require o (R.LaneAbsent n.lane) >>= (λ l. check (not (eqb n.lane a)) (R.OwnPartner a)) >>= k) (sym q) ∙ h))
    go (Some l) q =
        let h1 = ap (λ o. require o (R.LaneAbsent n.lane) >>= (λ l. check (not (eqb n.lane a)) (R.OwnPartner a)) >>= k) (sym q) ∙ h in
        let (t, h2) = checked (not (eqb n.lane a)) (R.OwnPartner a) k e h1 in
        ((l, q, (λ u. true≢false (sym t ∙ ap not (eq-eqb n.lane a u)))), h2)

-- a slot that is set to what it holds: nothing changes
same-lanes : (m : Map) → with_lanes (map (reslotted (λ i s was. was)) m.lanes) m ≡ m
same-lanes m = ap (λ ls. with_lanes ls m) (map-itself m.lanes)

module _ (tol : Tolerance) (a : ℕ) (side : Side) (value : Option Neighbor) where
  abbrev new : Option Neighbor
  new = value

  -- the definition's outcome, by what the slots held and whether they are the same
  abbrev outcome_of : Map → Lane → Option Neighbor → Option Neighbor → Bool → Edited
  outcome_of m l old other same =
      relinking (with_lanes (map (reslotted (λ i s was. cond same was (slot_after a side new old other i s was))) m.lanes) m)
      (lanes_where (λ x. not same && (eqb x.id a || names old x.id || names new x.id || names other x.id)) m.lanes)
      (when same (no_op a) ++ unshared m l side new)

  law-of : (s : State) → sound s.counter s.map ≡ true → (l : Lane) → lane s.map a ≡ Some l → Named s.map a new → (same : Bool)
      → Law (SetNeighbor a side value) s (outcome_of s.map l (slots_of s.map a side) (held_at (slots_of s.map) side new) same)
  law-of s sane l ea nm true =
      record {
        stays_sound = λ ids limits. subst (λ n. sound s.counter n ≡ true) (sym (same-lanes s.map)) sane;
        books = reslot_leads s.map (λ i s was. was);
        lists-exact = λ ids.
            relink-exact s.map (reslotted (λ i s was. was)) (λ l. refl) (λ x. false) (ids_up s.counter s.map sane) (λ i l e t. refl)
            (no_op a ∷ unshared s.map l side new);
      }
  law-of s sane l ea nm false =
      record {
        stays_sound = λ ids limits. set-sound s.counter s.map sane a l ea side new nm limits;
        books = reslot_leads s.map (slot_after a side new (slots_of s.map a side) (held_at (slots_of s.map) side new));
        lists-exact = λ ids. set-exact s.counter s.map sane a l ea side new nm (unshared s.map l side new);
      }

  pub set_neighbor_lawful : Lawful tol (SetNeighbor a side value)
  unfolding edit set_neighbor
  set_neighbor_lawful s sane e h =
      let m = s.map in
      let (l, ea, h1) = required m a (λ l. require_neighbor m a new >>= (λ ok. outcome m l)) e h in
      let (nm, h2) = named m a new (λ ok. outcome m l) e h1 in
      subst (λ x. Law (SetNeighbor a side value) s x)
      (ap (λ old. outcome_of m l old (held_at (slots_of m) side new) (same_slot (neighbor_on side l) new)) (old-slot m a l ea side)
      ∙ (ap (λ other. outcome_of m l (neighbor_on side l) other (same_slot (neighbor_on side l) new)) (other-slot m side new) ∙ yields h2))
      (law-of s sane l ea nm (same_slot (neighbor_on side l) new))
    where
      outcome : Map → Lane → Res Edited
      outcome m l = Ok (outcome_of m l (neighbor_on side l) (slot_in m side new) (same_slot (neighbor_on side l) new))
