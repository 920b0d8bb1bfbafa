-- Roads, junctions and rules that a split leaves: their rows grow and follow as the result is stored, and have room. Assumes nothing.
use mathlib.Core.Path.{◌≡◌, refl, sym, ap, ◌∙◌, subst}
use mathlib.Core.Logic.{inl, inr}
use Prim.Native.Nat.{ℕ, suc, ◌≤◌, ◌<◌}
use native.Mathlib.Omega.{arith}
use mathlib.Core.Bool.{Bool, true, false, not, ◌&&◌, cond}
use mathlib.Core.List.{List, [], ◌∷◌, map}
use lib.Dec.{eqb, leb}
use lib.Ieee.{Float}
use lib.ListN.{length, get_or, replicate, length-take, length-replicate}
use borrow.Author.Tests.{le-leb, eqb-true}
use Rattle.lists.specs.Every.{all}
use Rattle.lists.specs.Rows.{over}
use Rattle.lists.specs.Select.{any, has, insert_after, numbered}
use Rattle.lists.proofs.Booleans.{and_both, and-fst, and-snd, neither}
use Rattle.lists.proofs.Select.{all_map, any-or}
use Rattle.entities.specs.declared.Tolerance.{Tolerance}
use Rattle.entities.specs.Records.{Road, Junction, Rule, Map}
use Rattle.rules.specs.Map.{rule_anchor}
use Rattle.rules.specs.Sound.{next_id, fits_room, within_limits, point_count, id_lists}
use Rattle.rules.specs.Lane.{road_lanes, junction_lanes}
use Rattle.rules.specs.Split as R
use Rattle.rules.specs.Split.{LanePlan, halves}
use Rattle.rules.specs.Turns.{swap_first, follow_all}
use Rattle.laws.proofs.TurnsRows.{cut_in_turns}
use Rattle.tables.specs.View.{Tables, word, rows, ids_at, ids_where, road_of, junction_of, rule_of, view}
use Rattle.tables.specs.Formed.{rule_formed}
use Rattle.row_tests.specs.Good.{all_rows}
use Rattle.row_tests.proofs.Formed.{rule-lanes, rule-priority, rule-yielding}
use Rattle.apart.proofs.Marks.{counted-more}
use Rattle.soundness.proofs.Rows.{every_row, rows-and}
use Rattle.store.specs.Store.{room_of, road_onto, junction_onto, rule_onto, store_rows}
use Rattle.store.specs.Laid.{laid}
use Rattle.store.specs.Rows.{on_rows}
use Rattle.lookup.specs.Lookup.{row_at}
use Rattle.lookup.proofs.Laws.{row-passes}
use Rattle.sound_facts.proofs.Room.{Limits, limits}
use Rattle.grows.specs.Growing.{grows_at, list_grows, Grows, Numbered}
use Rattle.follows.specs.Following.{followed_all, marks_of, rules_follow, rule_room, Follows}
use Rattle.split_rules.specs.Past.{anchored_by, past_by}
use Rattle.split_relay.specs.Relaying.{Cutting}
use Rattle.split_named.proofs.Words.{cut_ids, below, follow-words}
use Rattle.split_named.proofs.Grown.{halves-numbered, roads-grown, junctions-grown}
use Rattle.split_anchors.proofs.Accepted.{rules-after}
use Rattle.split_anchors.proofs.Followed.{Told}
use Rattle.split_facts.specs.Splitting.{lanes_in, plans_in, split_of, Planned, Measured, Anchored}
use Rattle.split_facts.proofs.Facts as F
use Rattle.split_facts.proofs.Lists.{cut_from, cut_after, next-is, halves_are, lanes-below, all_in_turns, rules-asks, marked_from, all_stations, rules-told}

-- the limits of a map that has room
pub room-limits : (t : Tables) (m : Map) → fits_room (room_of t) m ≡ true → Limits m
unfolding fits_room
room-limits t m h =
    let x = within_limits m in
    let y = leb (length m.lanes) (room_of t).lanes in
    let z = leb (length m.boundaries) (room_of t).boundaries in
    let u = leb (point_count m) (room_of t).points in
    limits m (and-fst x y (and-fst (x && y) z (and-fst (x && y && z) u h)))

-- ---- rules, one by one

-- a list that names no cut lane stays
swap-lacks : (i : ℕ) (by ids : List ℕ) → any (λ x. eqb x i) ids ≡ false → swap_first i by ids ≡ ids
unfolding swap_first any
swap-lacks i by [] e = refl
swap-lacks i by (x ∷ ids) e =
    let n = neither (eqb x i) (any (λ x. eqb x i) ids) e in
    rw (n.0, swap-lacks i by ids n.1)

stays : (past : List Bool) (next : ℕ) (cut ids : List ℕ) → any (λ x. has x cut) ids ≡ false → followed_all false past next cut ids ≡ ids
unfolding followed_all has
stays past next [] ids e = refl
stays past next (i ∷ cut) ids e =
    let n = neither (any (λ x. eqb x i) ids) (any (λ x. has x cut) ids) (sym (any-or (λ x. eqb x i) (λ x. has x cut) ids) ∙ e) in
    ap (followed_all false past (suc next) cut) (swap-lacks i (i ∷ next ∷ []) ids n.0) ∙ stays past (suc next) cut ids n.1

-- a rule whose lists are short after the cut has room
module _ (anchored : Bool) (past : List Bool) (next : ℕ) (cut w : List ℕ) (f : rule_formed w ≡ true) where
  grows_at_lem : (j : ℕ) → word j w ≤ 64 → leb (length (insert_after (numbered next cut) (ids_at j w))) 64 ≡ true → list_grows next cut j w ≡ true
  grows_at_lem j l e = and_both (leb (word j w) 64) (leb (length (insert_after (numbered next cut) (ids_at j w))) 64) (le-leb (word j w) 64 l) e

  room-told : leb (length (followed_all anchored past next cut (ids_at 5 w))) 64 ≡ true → leb (length (insert_after (numbered next cut) (ids_where (eqb (word 1 w) 3) 200 w))) 64 ≡ true
      → leb (length (insert_after (numbered next cut) (ids_where (eqb (word 1 w) 3) 265 w))) 64 ≡ true → rule_room anchored past next cut w ≡ true
  room-told o y z =
      let mine = leb (length (followed_all anchored past next cut (ids_at 5 w))) 64 in
      let ways : Bool → Bool = λ b. cond b (list_grows next cut 200 w && list_grows next cut 265 w) true in
      and_both (rule_formed w) (mine && ways (eqb (word 1 w) 3)) f (and_both mine (ways (eqb (word 1 w) 3)) o (go (eqb (word 1 w) 3) refl y z))
    where
      go : (b : Bool) → eqb (word 1 w) 3 ≡ b → leb (length (insert_after (numbered next cut) (ids_where b 200 w))) 64 ≡ true → leb (length (insert_after (numbered next cut) (ids_where b 265 w))) 64 ≡ true
          → cond b (list_grows next cut 200 w && list_grows next cut 265 w) true ≡ true
      go true e u v =
          let q = eqb-true (word 1 w) 3 e in
          and_both (list_grows next cut 200 w) (list_grows next cut 265 w) (grows_at_lem 200 (rule-priority w f q) u) (grows_at_lem 265 (rule-yielding w f q) v)
      go false e u v = refl

module _ (join : Float) (m : Map) (next : ℕ) (ps : List LanePlan) (b : below next (cut_ids ps)) where
  -- a rule that is marked, or names no cut lane, has room where its lists after the cut are short
  told-room : (anchored : Bool) (past : List Bool) (w : List ℕ) → rule_formed w ≡ true → Told join m next ps b anchored past w
      → all (λ is. leb (length is) 64) (id_lists (cut_in_turns join m next ps (numbered next (cut_ids ps)) (rule_of w))) ≡ true → rule_room anchored past next (cut_ids ps) w ≡ true
  unfolding all rule_of
  told-room anchored past w f k e =
      let g = insert_after (numbered next (cut_ids ps)) in
      let few : List ℕ → Bool = λ is. leb (length is) 64 in
      let a1 = few (follow_all join m (rule_anchor m (rule_of w)) next ps (ids_at 5 w)) in
      let a4 = few (g (ids_where (eqb (word 1 w) 3) 200 w)) in
      let a5 = few (g (ids_where (eqb (word 1 w) 3) 265 w)) in
      let a3 = few (ids_where (not (eqb (word 1 w) 5)) 135 w) in
      let a2 = few (ids_at 70 w) in
      let r4 = and-snd a3 (a4 && (a5 && true)) (and-snd a2 (a3 && (a4 && (a5 && true))) (and-snd a1 (a2 && (a3 && (a4 && (a5 && true)))) e)) in
      room-told anchored past next (cut_ids ps) w f (mine k (and-fst a1 (a2 && (a3 && (a4 && (a5 && true)))) e)) (and-fst a4 (a5 && true) r4) (and-fst a5 true (and-snd a4 (a5 && true) r4))
    where
      mine : Told join m next ps b anchored past w → leb (length (follow_all join m (rule_anchor m (rule_of w)) next ps (ids_at 5 w))) 64 ≡ true
          → leb (length (followed_all anchored past next (cut_ids ps) (ids_at 5 w))) 64 ≡ true
      mine (inl q) u =
          ap (λ is. leb (length is) 64)
          (sym (follow-words join m past (rule_anchor m (rule_of w)) next ps (ids_at 5 w) b q.marks ∙ ap (λ z. followed_all z past next (cut_ids ps) (ids_at 5 w)) (sym q.anchor)))
          ∙ u
      mine (inr (q, z)) u =
          let n : length (ids_at 5 w) ≤ 64 = rw length-take (omega (arith, rule-lanes w f)) in
          ap (λ c. leb (length (followed_all c past next (cut_ids ps) (ids_at 5 w))) 64) z
          ∙ (ap (λ is. leb (length is) 64) (stays past next (cut_ids ps) (ids_at 5 w) q) ∙ le-leb (length (ids_at 5 w)) 64 n)

module _ {tol : Tolerance} {counter : ℕ} {t : Tables} {own : ℕ} {stations : List Float} {ids : ℕ} {k : Cutting} (h : Measured tol counter t own stations ids k)
    (room : fits_room (room_of t) (split_of tol counter t own k.point k.seen k.cut stations).result ≡ true) where
  abbrev p : Planned tol counter t own k.point k.seen k.cut stations
  p = h.number.plan

  abbrev done : Map
  done = (split_of tol counter t own k.point k.seen k.cut stations).result

  pub lim : Limits (split_of tol counter t own k.point k.seen k.cut stations).result
  lim = room-limits t done room

  pub numbers : Numbered k.next k.cut
  numbers = record { ascend = F.cut_up p; ids = omega (arith, F.ids-small h.number, h.next) }

  -- ---- roads and junctions

  done-roads : (split_of tol counter t own k.point k.seen k.cut stations).result.roads ≡ map (road_lanes (insert_after (numbered k.next k.cut))) (rows 68 road_of t.roads)
  unfolding split_of R.cut view
  done-roads = ap (λ hs. map (road_lanes (insert_after hs)) (rows 68 road_of t.roads)) (halves_are h)

  done-junctions : (split_of tol counter t own k.point k.seen k.cut stations).result.junctions ≡ map (junction_lanes (insert_after (numbered k.next k.cut))) (rows 69 junction_of t.junctions)
  unfolding split_of R.cut view
  done-junctions = ap (λ hs. map (junction_lanes (insert_after hs)) (rows 69 junction_of t.junctions)) (halves_are h)

  roads-fit : all_rows 68 (list_grows k.next k.cut 3) t.roads ≡ true
  unfolding road_of
  roads-fit =
      let g = insert_after (numbered k.next k.cut) in
      let q : all_rows 68 (λ w. leb (length (g (ids_at 3 w))) 64) t.roads ≡ true =
      sym (every_row 68 road_of (λ r. leb (length (g r.lanes)) 64) t.roads)
      ∙ (sym (all_map (λ (r : Road). leb (length r.lanes) 64) (road_lanes g) (rows 68 road_of t.roads)) ∙ (ap (all (λ (r : Road). leb (length r.lanes) 64)) (sym done-roads) ∙ lim.road_lists)) in
      rows-and 68 (λ w. leb (word 3 w) 64) (λ w. leb (length (g (ids_at 3 w))) 64) t.roads
      ∙ and_both (all_rows 68 (λ w. leb (word 3 w) 64) t.roads) (all_rows 68 (λ w. leb (length (g (ids_at 3 w))) 64) t.roads) (F.known p).parts.roads q

  junctions-fit : all_rows 69 (list_grows k.next k.cut 4) t.junctions ≡ true
  unfolding junction_of
  junctions-fit =
      let g = insert_after (numbered k.next k.cut) in
      let q : all_rows 69 (λ w. leb (length (g (ids_at 4 w))) 64) t.junctions ≡ true =
      sym (every_row 69 junction_of (λ j. leb (length (g j.lanes)) 64) t.junctions)
      ∙ (sym (all_map (λ (j : Junction). leb (length j.lanes) 64) (junction_lanes g) (rows 69 junction_of t.junctions)) ∙ (ap (all (λ (j : Junction). leb (length j.lanes) 64)) (sym done-junctions) ∙ lim.junction_lists)) in
      rows-and 69 (λ w. leb (word 4 w) 64) (λ w. leb (length (g (ids_at 4 w))) 64) t.junctions
      ∙ and_both (all_rows 69 (λ w. leb (word 4 w) 64) t.junctions) (all_rows 69 (λ w. leb (length (g (ids_at 4 w))) 64) t.junctions) (F.known p).parts.junctions q

  pub roads-grow : Grows k.next k.cut 68 3 t.roads
  roads-grow = record { numbers = numbers; width = refl; narrow = omega arith; counts = counted-more 256 1024 68 t.roads (omega arith) (F.counts p).roads; rows = roads-fit }

  pub junctions-grow : Grows k.next k.cut 69 4 t.junctions
  junctions-grow = record { numbers = numbers; width = refl; narrow = omega arith; counts = counted-more 256 1024 69 t.junctions (omega arith) (F.counts p).junctions; rows = junctions-fit }

  pub roads-are : on_rows 68 (grows_at k.next k.cut 3) t.roads ≡ (laid t (split_of tol counter t own k.point k.seen k.cut stations).result).roads
  unfolding laid
  roads-are =
      sym (roads-grown k.next k.cut 256 t.roads (F.counts p).roads roads-fit)
      ∙ ap (store_rows 68 road_onto (λ (r : Road). r.id) t.roads) (sym done-roads)

  pub junctions-are : on_rows 69 (grows_at k.next k.cut 4) t.junctions ≡ (laid t (split_of tol counter t own k.point k.seen k.cut stations).result).junctions
  unfolding laid
  junctions-are =
      sym (junctions-grown k.next k.cut 256 t.junctions (F.counts p).junctions junctions-fit)
      ∙ ap (store_rows 69 junction_onto (λ (j : Junction). j.id) t.junctions) (sym done-junctions)

-- ---- rules

module _ {tol : Tolerance} {counter : ℕ} {t : Tables} {own : ℕ} {stations : List Float} {ids : ℕ} {k : Cutting} {anchored past : List Bool} (h : Measured tol counter t own stations ids k)
    (a : Anchored tol t stations k anchored past) (room : fits_room (room_of t) (split_of tol counter t own k.point k.seen k.cut stations).result ≡ true) where
  abbrev plan : Planned tol counter t own k.point k.seen k.cut stations
  plan = h.number.plan

  abbrev ps : List LanePlan
  ps = plans_in t k.point k.seen stations

  abbrev first : ℕ
  first = cut_from counter t k

  abbrev after : Map
  after = cut_after counter t k stations

  abbrev anchored_of : List ℕ → List Bool
  anchored_of cut = over (replicate 512 false) 0 (anchored_by t.coordinates t.stop_lines t.crosswalks cut t.rules)

  abbrev past_of : List ℕ → List Bool
  past_of cut = past_by tol.join t.coordinates t.lanes t.boundaries k.point cut stations t.stop_lines t.crosswalks t.rules (replicate 32768 false)

  done-rules : (split_of tol counter t own k.point k.seen k.cut stations).result.rules ≡ map (cut_in_turns tol.join after first ps (halves first ps)) (rows 330 rule_of t.rules)
  unfolding split_of R.cut view
  done-rules = all_in_turns h

  short : (i : ℕ) → i < word 0 t.rules → all (λ is. leb (length is) 64) (id_lists (cut_in_turns tol.join after first ps (numbered first (cut_ids ps)) (rule_of (row_at 330 t.rules i)))) ≡ true
  unfolding all_rows
  short i l =
      let few : Rule → Bool = λ r. all (λ is. leb (length is) 64) (id_lists r) in
      let c = cut_in_turns tol.join after first ps (halves first ps) in
      let q : all (λ r. few (c r)) (rows 330 rule_of t.rules) ≡ true = sym (all_map few c (rows 330 rule_of t.rules)) ∙ (ap (all few) (sym done-rules) ∙ (lim h room).rule-lists) in
      ap (λ hs. few (cut_in_turns tol.join after first ps hs (rule_of (row_at 330 t.rules i)))) (sym (halves-numbered first ps))
      ∙ row-passes 330 (λ w. few (c (rule_of w))) t.rules (sym (every_row 330 rule_of (λ r. few (c r)) t.rules) ∙ q) i l

  pub rules-follow : Follows anchored past k.next k.cut t.rules
  unfolding all_rows
  rules-follow =
      let f = rules-asks h a (replicate 512 false) (length-replicate 512 false) in
      record {
        numbers = numbers h room;
        counts = f.counts;
        anchors = f.anchors;
        marks = f.places;
        rows = λ i l.
            let w = row_at 330 t.rules i in
            ap (λ z. rule_room (get_or z i false) (marks_of past i) k.next k.cut w) a.anchors
            ∙ (ap (λ z. rule_room (get_or (anchored_of k.cut) i false) (marks_of z i) k.next k.cut w) a.sides
            ∙ (ap (λ n. rule_room (get_or (anchored_of k.cut) i false) (marks_of (past_of k.cut) i) n k.cut w) (sym (next-is h))
            ∙ (ap (λ cut. rule_room (get_or (anchored_of cut) i false) (marks_of (past_of cut) i) first cut w) (sym plan.ids)
            ∙ told-room tol.join after first ps (lanes-below h) (get_or (anchored_of (cut_ids ps)) i false) (marks_of (past_of (cut_ids ps)) i) w (row-passes 330 rule_formed t.rules f.formed i l) (rules-told h a i l) (short i l))));
      }

  follows-first : Follows (anchored_of (cut_ids ps)) (past_of (cut_ids ps)) first (cut_ids ps) t.rules
  follows-first =
      subst (λ cut. Follows (anchored_of cut) (past_of cut) first cut t.rules) (sym plan.ids)
      (subst (λ n. Follows (anchored_of k.cut) (past_of k.cut) n k.cut t.rules) (sym (next-is h))
      (subst (λ z. Follows (anchored_of k.cut) z k.next k.cut t.rules) a.sides (subst (λ z. Follows z past k.next k.cut t.rules) a.anchors rules-follow)))

  pub rules-are : rules_follow anchored past k.next k.cut t.rules ≡ (laid t (split_of tol counter t own k.point k.seen k.cut stations).result).rules
  unfolding laid view
  rules-are =
      ap (λ z. rules_follow z past k.next k.cut t.rules) a.anchors
      ∙ (ap (λ z. rules_follow (anchored_of k.cut) z k.next k.cut t.rules) a.sides
      ∙ (ap (λ n. rules_follow (anchored_of k.cut) (past_of k.cut) n k.cut t.rules) (sym (next-is h))
      ∙ (ap (λ cut. rules_follow (anchored_of cut) (past_of cut) first cut t.rules) (sym plan.ids)
      ∙ (sym (rules-after (view t) ps k.cut (lanes_in t k.seen) k.point (next_id counter) (F.accepted h.number) t.coordinates t.lanes t.boundaries refl refl stations (all_stations h a) tol.join
      t.stop_lines t.crosswalks refl refl t.rules (replicate 512 false) (replicate 32768 false) (marked_from h a) follows-first)
      ∙ ap (store_rows 330 rule_onto (λ (r : Rule). r.id) t.rules) (sym done-rules)))))
