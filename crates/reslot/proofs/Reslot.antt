-- Slots of two rows set or freed: what they hold, the lanes named, and what a call leaves. Assumes nothing.
use Rattle.std.specs.Prelude.{Option, None, Some, Err}
use mathlib.Core.Path.{◌≡◌, refl, sym, ap, ◌∙◌}
use Prim.Native.Nat.{ℕ, ◌+◌, ◌*◌, ◌≤◌}
use native.Mathlib.Omega.{arith}
use mathlib.Core.Bool.{Bool, true, false, not, cond, ◌&&◌}
use mathlib.Core.List.{List, [], ◌∷◌, ◌++◌}
use lib.Dec.{eqb}
use lib.ListN.{length, get_or, take}
use lib.Seq.{length-take-le}
use Rattle.lists.specs.Select.{has, place, ascending}
use Rattle.lists.proofs.Select.{ascending-place}
use Rattle.entities.specs.Types.{lane_entity, reciprocal_side}
use Rattle.entities.specs.Records.{Issue}
use Rattle.rules.specs.Names.{Side, BoundaryRef, Neighbor, NeighborDirection, Same, Opposite, LaneKind, BoundaryUnshared, NoRoom}
use Rattle.rules.specs.Sound.{same_direction}
use Rattle.rules.specs.Edit as E
use Rattle.store.specs.Store.{direction_mark}
use Rattle.tables.specs.View.{ref_at}
use Rattle.row_tests.specs.Returned.{lane_at}
use Rattle.row_tests.proofs.Lanes.{id-at}
use Rattle.lookup.specs.Lookup.{side_word}
use Rattle.topology.specs.Topology.{id_at, lanes_changed, slot_held, beside_row}
use Rattle.report.specs.declared.Counts.{Counts}
use Rattle.report.specs.declared.Notice.{Notice}
use Rattle.report.specs.declared.Notice.TheVariants as N
use Rattle.report.specs.Report.{listed, warned, issues, report_fits, changed}
use Rattle.lists.proofs.Place.{place-present, length-place}
use Rattle.relink.specs.Parts as P
use Rattle.relink.proofs.Reported.{no-op-issues, pair-issues, nothing-up, done, full}

-- ---- what slots hold

marks-same : (a b : NeighborDirection) → eqb (direction_mark a) (direction_mark b) ≡ same_direction a b
marks-same Same Same = refl
marks-same Same Opposite = refl
marks-same Opposite Same = refl
marks-same Opposite Opposite = refl

pub holds-both : (slot : Option Neighbor) (n : Neighbor) (lane : ℕ) (d : NeighborDirection) (x y : ℕ) (r : Bool) → slot ≡ Some n → x ≡ direction_mark d → y ≡ direction_mark n.direction
    → r ≡ (eqb lane n.lane && eqb x y) → r ≡ E.same_slot slot (Some (record { lane = lane; direction = d }))
holds-both slot n lane d x y r e p q s = s ∙ rw (p, q, e, marks-same d n.direction)

pub two-boundaries : (t : List ℕ) (i : ℕ) (side : Side) (j : ℕ) (answer : Side) (x y : BoundaryRef) → x ≡ ref_at (side_word side) (lane_at t i) → y ≡ ref_at (side_word answer) (lane_at t j)
    → not (eqb x.boundary y.boundary) ≡ P.unshared_issues t i side j answer
two-boundaries t i side j answer x y p q =
    ap (λ z. not (eqb z.boundary y.boundary)) p ∙ ap (λ z. not (eqb (ref_at (side_word side) (lane_at t i)).boundary z.boundary)) q

-- ---- lanes named

pub none_named : (slot : Option Neighbor) (w : List ℕ) (n : ℕ) → slot ≡ None → n ≤ length w
    → (take n w ≡ P.place_slot slot (take n w)) × (n ≡ length (P.place_slot slot (take n w)))
none_named slot w n e h = rw e (refl, sym (length-take-le n w h))

pub one-named : (slot : Option Neighbor) (m : Neighbor) (w v : List ℕ) (n r : ℕ) → slot ≡ Some m → (take r v ≡ place m.lane (take n w)) × (r ≡ length (place m.lane (take n w)))
    → (take r v ≡ P.place_slot slot (take n w)) × (r ≡ length (P.place_slot slot (take n w)))
one-named slot m w v n r e p = rw e p

-- at most k ids, in order
abbrev Few : ℕ → List ℕ → Type 0
Few k ids = (length ids ≤ k) × (ascending ids ≡ true)

place-few : (k x : ℕ) (ids : List ℕ) → Few k ids → Few (k + 1) (place x ids)
place-few k x ids f = (go (has x ids) refl, ascending-place x ids f.1)
  where
    go : (b : Bool) → has x ids ≡ b → length (place x ids) ≤ k + 1
    go true h = rw (place-present x ids f.1 h) (omega (arith, f.0))
    go false h = omega (arith, length-place x ids h, f.0)

slot-few : (k : ℕ) (o : Option Neighbor) (ids : List ℕ) → Few k ids → Few (k + 1) (P.place_slot o ids)
slot-few k None ids f = (omega (arith, f.0), f.1)
slot-few k (Some n) ids f = place-few k n.lane ids f

-- the first n of w are at most k ids, in order
abbrev pub Named : ℕ → ℕ → List ℕ → Type 0
Named k n w = (length (take n w) ≡ n) × Few k (take n w)

pub first-named : (lane r : ℕ) (v w : List ℕ) → (take r v ≡ place lane (take 0 w)) × (r ≡ length (place lane (take 0 w))) → Named 1 r v
first-named lane r v w p = (ap length p.0 ∙ sym p.1, rw p.0 (place-few 0 lane [] (omega arith, nothing-up)))

pub next-named : (k n r : ℕ) (v w : List ℕ) (o : Option Neighbor) → Named k n w → (take r v ≡ P.place_slot o (take n w)) × (r ≡ length (P.place_slot o (take n w))) → Named (k + 1) r v
next-named k n r v w o f p = (ap length p.0 ∙ sym p.1, rw p.0 (slot-few k o (take n w) f.1))

pub named-few : (k n : ℕ) (w : List ℕ) → Named k n w → n ≤ k
named-few k n w f = omega (arith, f.0, f.1.0)

pub named-up : (k n : ℕ) (w : List ℕ) → Named k n w → ascending (take n w) ≡ true
named-up k n w f = f.1.1

pub all_named : (skip : Bool) (lane : ℕ) (old new other : Option Neighbor) (a b c r : ℕ) (w v1 v2 v3 v4 : List ℕ) → skip ≡ false → take a v1 ≡ place lane (take 0 w)
    → take b v2 ≡ P.place_slot old (take a v1) → take c v3 ≡ P.place_slot new (take b v2)
    → (take r v4 ≡ P.place_slot other (take c v3)) × (r ≡ length (P.place_slot other (take c v3)))
    → (take r v4 ≡ cond skip [] (P.slot_ids lane old new other)) × (r ≡ length (cond skip [] (P.slot_ids lane old new other)))
all_named skip lane old new other a b c r w v1 v2 v3 v4 s d e f p =
    let q : take c v3 ≡ P.slot_ids lane old new None = f ∙ ap (P.place_slot new) (e ∙ ap (P.place_slot old) d) in
    rw s (p.0 ∙ ap (P.place_slot other) q, p.1 ∙ ap (λ z. length (P.place_slot other z)) q)

pub ids_few : (skip : Bool) (lane : ℕ) (old new other : Option Neighbor) (n : ℕ) → n ≡ length (cond skip [] (P.slot_ids lane old new other)) → n ≤ 4
ids_few true lane old new other n e = omega (arith, e)
ids_few false lane old new other n e =
    let a = place-few 0 lane [] (omega arith, nothing-up) in
    let b = slot-few 1 old (place lane []) a in
    let c = slot-few 2 new (P.place_slot old (place lane [])) b in
    omega (arith, e, (slot-few 3 other (P.place_slot new (P.place_slot old (place lane []))) c).0)

-- ---- what a call leaves

pub unless : {A : Type 0} (b : Bool) (y : A) {x z : A} → b ≡ false → x ≡ z → x ≡ cond b y z
unless b y e f = rw e f

-- Before a report: the ids are counted and fit. After the call: with room the table, the lists and the counts make `whole`; without room nothing changes.
pub record Ends (t md ws : List ℕ) (n : ℕ) (ids : List ℕ) (told : List Issue) (r same : Bool) (after : List ℕ) (whole : P.Relinked) : Type 0 where
  pub counted : n ≡ length ids
  pub fitting : r ≡ true → report_fits (length ids) (length told) md ws ≡ true
  pub changed : r ≡ true → (t' md' ws' : List ℕ) (c : Counts) → t' ≡ cond same t after
      → (c ≡ record { created = 0; modified = length ids; deleted = 0; warnings = length told }) × ((md' ≡ listed md (E.refs LaneKind ids)) × (ws' ≡ warned ws told))
      → P.links_written t' md' ws' (changed c) ≡ whole
  pub refused : r ≡ false → P.links_written t md ws (Err NoRoom) ≡ whole

abbrev after_slot : List ℕ → ℕ → Side → Option Neighbor → Option Neighbor → List ℕ
after_slot t i side new other = lanes_changed (E.reslotted (E.slot_after (id_at t i) side new (slot_held t i side) other)) t

-- the slot of row i, with what it holds, the ids and the warnings as they are found
module _ (t : List ℕ) (i : ℕ) (side : Side) (new other : Option Neighbor) (is : List Issue) (md ws : List ℕ)
    (old : Option Neighbor) (same : Bool) (told : List Issue) (n : ℕ) (ids : List ℕ) (r : Bool)
    (eo : old ≡ slot_held t i side) (es : same ≡ E.same_slot old new) (et : told ≡ E.when same (E.no_op (get_or t (1 + i * 52) 0)) ++ is)
    (p : (ids ≡ cond same [] (P.slot_ids (get_or t (1 + i * 52) 0) old new other)) × (n ≡ length (cond same [] (P.slot_ids (get_or t (1 + i * 52) 0) old new other))))
    (er : r ≡ report_fits n (length told) md ws) where
  abbrev now-same : Bool
  now-same = E.same_slot (slot_held t i side) new

  abbrev after : List ℕ
  after = after_slot t i side new other

  abbrev named : List ℕ
  named = cond now-same [] (P.slot_ids (id_at t i) (slot_held t i side) new other)

  abbrev warnings : List Issue
  warnings = E.when now-same (E.no_op (id_at t i)) ++ is

  same-now : same ≡ now-same
  same-now = es ∙ ap (λ z. E.same_slot z new) eo

  ids-are : ids ≡ named
  ids-are =
      p.0
      ∙ (ap (λ z. cond z [] (P.slot_ids (get_or t (1 + i * 52) 0) old new other)) same-now
      ∙ (ap (λ z. cond now-same [] (P.slot_ids z old new other)) (id-at t i) ∙ ap (λ z. cond now-same [] (P.slot_ids (id_at t i) z new other)) eo))

  told_is : told ≡ warnings
  told_is = et ∙ (ap (λ z. E.when z (E.no_op (get_or t (1 + i * 52) 0)) ++ is) same-now ∙ ap (λ z. E.when now-same (E.no_op z) ++ is) (id-at t i))

  count : n ≡ length ids
  count = p.1 ∙ sym (ap length p.0)

  test : r ≡ (true && report_fits (length named) (length warnings) md ws)
  test = er ∙ (ap (λ z. report_fits z (length told) md ws) (count ∙ ap length ids-are) ∙ ap (λ z. report_fits (length named) (length z) md ws) told_is)

  reslot_ends : Ends t md ws n ids told r same after (P.reslotting t i side new other is md ws)
  reslot_ends =
      record {
        counted = count;
        fitting = λ q. ap (λ z. report_fits z (length told) md ws) (sym count) ∙ (sym er ∙ q);
        changed = λ q t' md' ws' c f g.
            done true (cond now-same t after) named t md ws warnings r test q t' md' ws' c (f ∙ ap (λ z. cond z t after) same-now)
            (g.0 ∙ rw (ids-are, told_is)) (g.1.0 ∙ ap (λ z. listed md (E.refs LaneKind z)) ids-are) (g.1.1 ∙ ap (warned ws) told_is);
        refused = λ q. full true (cond now-same t after) named t md ws warnings r test q;
      }

-- a slot freed
abbrev pub FreeEnds : List ℕ → ℕ → Side → List ℕ → List ℕ → Bool → Option Notice → ℕ → List ℕ → Bool → Type 0
FreeEnds t i side md ws free first n arr r = Ends t md ws n (take n arr) (issues first ++ issues None) r free (after_slot t i side None None) (P.freeing t i side md ws)

module _ (t : List ℕ) (i : ℕ) (side : Side) (md ws : List ℕ) (old : Option Neighbor) (free : Bool) (first : Option Notice) (n : ℕ) (arr : List ℕ) (r : Bool) where
  pub free-ends : old ≡ slot_held t i side → free ≡ E.same_slot old None → first ≡ cond free (Some (N.NoOp (get_or t (1 + i * 52) 0))) None
      → (take n arr ≡ cond free [] (P.slot_ids (get_or t (1 + i * 52) 0) old None None)) × (n ≡ length (cond free [] (P.slot_ids (get_or t (1 + i * 52) 0) old None None)))
      → r ≡ report_fits n (length (issues first ++ issues None)) md ws → FreeEnds t i side md ws free first n arr r
  free-ends eo es e1 p er =
      let held : old ≡ slot_held t i side = eo in
      let told = ap (λ z. issues z ++ []) e1 ∙ ap (λ z. z ++ []) (no-op-issues free (get_or t (1 + i * 52) 0)) in
      reslot_ends t i side None None [] md ws old free (issues first ++ issues None) n (take n arr) r held es told p er

-- a lane set beside another
abbrev pub SetEnds : List ℕ → ℕ → Side → ℕ → NeighborDirection → List ℕ → List ℕ → Bool → Option Notice → Option Notice → ℕ → List ℕ → Bool → Type 0
SetEnds t i side j d md ws set first second n arr r =
    Ends t md ws n (take n arr) (issues first ++ issues second) r set (after_slot t i side (Some (beside_row t j d)) (slot_held t j (reciprocal_side side d))) (P.setting t i side j d md ws)

module _ (t : List ℕ) (i : ℕ) (side : Side) (j : ℕ) (d : NeighborDirection) (md ws : List ℕ) (answer : Side) (old other : Option Neighbor) (set : Bool) (first : Option Notice) (apart : Bool) (second : Option Notice)
    (n : ℕ) (arr : List ℕ) (r : Bool) where
  abbrev a : ℕ
  a = get_or t (1 + i * 52) 0

  abbrev b : ℕ
  b = get_or t (1 + j * 52) 0

  -- the lane in row j, as it is read
  abbrev read : ℕ → Option Neighbor
  read z = Some (record { lane = z; direction = d })

  abbrev new : Option Neighbor
  new = Some (beside_row t j d)

  abbrev answered : Option Neighbor
  answered = slot_held t j (reciprocal_side side d)

  abbrev two : Bool
  two = P.unshared_issues t i side j (reciprocal_side side d)

  abbrev apartness : Bool → ℕ → ℕ → List Issue
  apartness x y z = E.when x (E.warning BoundaryUnshared (lane_entity y) (lane_entity z ∷ []))

  set-ids : other ≡ answered → cond set [] (P.slot_ids a old (read b) other) ≡ cond set [] (P.slot_ids a old new answered)
  set-ids h =
      ap (λ z. cond set [] (P.slot_ids a old (read z) other)) (id-at t j)
      ∙ ap (λ z. cond set [] (P.slot_ids a old new z)) h

  set-warned : answer ≡ reciprocal_side side d → apart ≡ P.unshared_issues t i side j answer → second ≡ cond apart (Some (N.Pair BoundaryUnshared a b)) None
      → issues second ≡ apartness two (id_at t i) (id_at t j)
  set-warned ea ep e2 =
      ap issues e2
      ∙ (pair-issues apart BoundaryUnshared a b
      ∙ (ap (λ z. apartness z a b) (ep ∙ ap (P.unshared_issues t i side j) ea) ∙ (ap (λ z. apartness two z b) (id-at t i) ∙ ap (apartness two (id_at t i)) (id-at t j))))

  pub set-ends : answer ≡ reciprocal_side side d → old ≡ slot_held t i side → other ≡ slot_held t j answer → set ≡ E.same_slot old (read b)
      → first ≡ cond set (Some (N.NoOp a)) None → apart ≡ P.unshared_issues t i side j answer → second ≡ cond apart (Some (N.Pair BoundaryUnshared a b)) None
      → (take n arr ≡ cond set [] (P.slot_ids a old (read b) other)) × (n ≡ length (cond set [] (P.slot_ids a old (read b) other)))
      → r ≡ report_fits n (length (issues first ++ issues second)) md ws → SetEnds t i side j d md ws set first second n arr r
  set-ends ea eo eh es e1 ep e2 p er =
      let held : old ≡ slot_held t i side = eo in
      let others : other ≡ answered = eh ∙ ap (slot_held t j) ea in
      let same : set ≡ E.same_slot old new = es ∙ ap (λ z. E.same_slot old (read z)) (id-at t j) in
      let told = ap (λ z. z ++ issues second) (ap issues e1 ∙ no-op-issues set a) ∙ ap (λ z. E.when set (E.no_op a) ++ z) (set-warned ea ep e2) in
      let ids = set-ids others in
      reslot_ends t i side new answered (apartness two (id_at t i) (id_at t j)) md ws old set (issues first ++ issues second) n (take n arr) r held same told
      (p.0 ∙ ids, p.1 ∙ ap length ids) er
