-- Two lists of links written, one in each of two lanes, or both in one. Assumes nothing.
use mathlib.Core.Path.{◌≡◌, refl, sym, ap, ◌∙◌}
use mathlib.Core.Logic.{◌⊎◌, inl, inr, ⊎_elim}
use Prim.Native.Nat.{ℕ, suc, ◌+◌, ◌*◌, ◌≤◌, ◌<◌}
use native.Mathlib.Omega.{arith}
use mathlib.Core.Bool.{Bool, true, false, not, cond}
use mathlib.Core.List.{List, [], ◌∷◌}
use lib.ListN.{length, get_or, drop, length-take}
use lib.Seq.{get_or-drop}
use lib.Dec.{eqb}
use borrow.Author.Tests.{eqb-true}
use Rattle.lists.specs.Rows.{over}
use Rattle.lists.specs.Select.{place, without}
use Rattle.lists.proofs.Select.{length-keep}
use Rattle.lists.proofs.Rows.{length_over, get_d_over-before, get_d_over-behind, drop-from-over}
use Rattle.entities.specs.Records.{Lane}
use Rattle.rules.specs.Edit.{with_links, relinked, link_in, link_out}
use Rattle.tables.specs.View.{word, ids_at, slot_at, lane_of}
use Rattle.tables.specs.Formed.{lane_formed}
use Rattle.row_tests.specs.Returned.{searchable, lane_at}
use Rattle.row_tests.proofs.Lanes.{lane_room, row-formed, id-at}
use Rattle.store.specs.Store.{lane_onto}
use Rattle.store.specs.Rows.{on_rows, keyed, set_list}
use Rattle.store.proofs.Marks.{LaneMarks, lane-marks, marks-formed}
use Rattle.store.proofs.LaneRow.{LaneRow, lane_row}
use Rattle.topology.specs.Topology.{lanes_changed, id_at, links_at, link_words, Open}
use Rattle.lists.proofs.Place.{length-place}
use Rattle.topology.proofs.Links.{list_count}
use Rattle.topology.proofs.Table.{Keeps, over-row, row_words, lanes-agree-at, lanes-twice, one_lane, lanes-changed, lanes-kept, lane-changed, unique}

-- ---- a list written in a row

-- the first word written
pub word-written : (w : List ℕ) (a x : ℕ) (l : List ℕ) → a ≤ length w → get_or (over w a (x ∷ l)) a 0 ≡ x
word-written w a x l h =
    let e : a + 0 ≡ a = omega arith in
    ap (λ k. get_or (over w a (x ∷ l)) k 0) (sym e) ∙ (sym (get_or-drop a (over w a (x ∷ l)) 0 0) ∙ ap (λ z. get_or z 0 0) (drop-from-over w a (x ∷ l) h))

-- a field at k ≥ 18 written, in what a row says of its marks
module _ (w : List ℕ) (k : ℕ) (ids : List ℕ) (l : length w ≡ 52) (h : length ids ≤ 16) (low : 18 ≤ k) (high : k ≤ 35) where
  before : (x : ℕ) → x < k → word x (set_list k ids w) ≡ word x w
  unfolding set_list
  before x b = get_d_over-before w k (length ids ∷ ids) x 0 b (rw l (omega arith))

  here : word k (set_list k ids w) ≡ length ids
  unfolding set_list
  here = word-written w k (length ids) ids (rw l (omega arith))

  behind : (x : ℕ) → k + 17 ≤ x → word x (set_list k ids w) ≡ word x w
  unfolding set_list
  behind x b = get_d_over-behind w k (length ids ∷ ids) x 0 (omega arith) (rw l (omega arith))

  length-list : length (set_list k ids w) ≡ 52
  unfolding set_list
  length-list = length_over w k (length ids ∷ ids) (rw l (omega arith)) ∙ l

  marks-list : LaneMarks w → word 18 (set_list k ids w) ≤ 16 → word 35 (set_list k ids w) ≤ 16 → LaneMarks (set_list k ids w)
  marks-list m b a =
      record {
        left-way = rw (before 3 (omega arith)) m.left-way;
        right-way = rw (before 5 (omega arith)) m.right-way;
        center = rw (before 6 (omega arith)) m.center;
        speed = rw (before 9 (omega arith)) m.speed;
        one_way = rw (before 11 (omega arith)) m.one_way;
        left = rw (before 14 (omega arith)) m.left;
        right = rw (before 16 (omega arith)) m.right;
        before = b;
        after = a;
      }

pub list-keeps : (k : ℕ) (ids : List ℕ) → (k ≡ 18) ⊎ (k ≡ 35) → length ids ≤ 16 → Keeps (set_list k ids)
list-keeps k ids e h w l f = ⊎_elim (λ x. rw x first) (λ x. rw x second) e
  where
    m : LaneMarks w
    m = lane-marks w f

    first : (length (set_list 18 ids w) ≡ 52) × ((lane_formed (set_list 18 ids w) ≡ true) × (word 0 (set_list 18 ids w) ≡ word 0 w))
    first =
        let low : 18 ≤ 18 = omega arith in
        let high : 18 ≤ 35 = omega arith in
        let b : word 18 (set_list 18 ids w) ≤ 16 = rw (here w 18 ids l h low high) h in
        let a : word 35 (set_list 18 ids w) ≤ 16 = rw (behind w 18 ids l h low high 35 (omega arith)) m.after in
        (length-list w 18 ids l h low high, (marks-formed (set_list 18 ids w) (marks-list w 18 ids l h low high m b a), before w 18 ids l h low high 0 (omega arith)))

    second : (length (set_list 35 ids w) ≡ 52) × ((lane_formed (set_list 35 ids w) ≡ true) × (word 0 (set_list 35 ids w) ≡ word 0 w))
    second =
        let low : 18 ≤ 35 = omega arith in
        let high : 35 ≤ 35 = omega arith in
        let b : word 18 (set_list 35 ids w) ≤ 16 = rw (before w 35 ids l h low high 18 (omega arith)) m.before in
        let a : word 35 (set_list 35 ids w) ≤ 16 = rw (here w 35 ids l h low high) h in
        (length-list w 35 ids l h low high, (marks-formed (set_list 35 ids w) (marks-list w 35 ids l h low high m b a), before w 35 ids l h low high 0 (omega arith)))

pub keyed-keeps : (id : ℕ) (g : List ℕ → List ℕ) → Keeps g → Keeps (keyed id g)
keyed-keeps id g k w l f = go (eqb (word 0 w) id)
  where
    go : (b : Bool) → (length (cond b (g w) w) ≡ 52) × ((lane_formed (cond b (g w) w) ≡ true) × (word 0 (cond b (g w) w) ≡ word 0 w))
    go true = k w l f
    go false = (l, (f, refl))

-- a list that a row holds is as long as its count
pub ids_few : (w : List ℕ) (k : ℕ) → word k w ≤ 16 → length (ids_at k w) ≤ 16
ids_few w k h = rw (length-take (word k w) (drop (suc k) w)) (omega arith)

-- ---- both lists

-- lane a's successors become F of them, lane b's predecessors G of them
abbrev pub both_lists : ℕ → ℕ → (List ℕ → List ℕ) → (List ℕ → List ℕ) → Lane → Lane
both_lists a b f g l = with_links (cond (eqb l.id b) (g l.predecessors) l.predecessors) (cond (eqb l.id a) (f l.successors) l.successors) l

pub record_linked : (w : List ℕ) (a b : ℕ) (f g : List ℕ → List ℕ)
    → lane_onto w (relinked (lane_of [] w) (slot_at 14 w) (slot_at 16 w) (cond (eqb (word 0 w) b) (g (ids_at 18 w)) (ids_at 18 w)) (cond (eqb (word 0 w) a) (f (ids_at 35 w)) (ids_at 35 w)))
    ≡ lane_onto w (both_lists a b f g (lane_of [] w))
unfolding lane_of
record_linked w a b f g = refl

module _ (t : List ℕ) (h : searchable t ≡ true) (i j : ℕ) (li : i < word 0 t) (lj : j < word 0 t) (f g : List ℕ → List ℕ)
    (few-after : length (f (links_at t i 35)) ≤ 16) (few-before : length (g (links_at t j 18)) ≤ 16) where
  abbrev a : ℕ
  a = id_at t i

  abbrev b : ℕ
  b = id_at t j

  abbrev qs : List ℕ
  qs = f (links_at t i 35)

  abbrev ps : List ℕ
  ps = g (links_at t j 18)

  first-keeps : Keeps (keyed a (set_list 35 qs))
  first-keeps = keyed-keeps a (set_list 35 qs) (list-keeps 35 qs (inr refl) few-after)

  -- the table after the first list
  pub first-list : over t (1 + i * 52 + 35) (link_words qs) ≡ on_rows 52 (keyed a (set_list 35 qs)) t
  unfolding set_list
  first-list =
      let r = lane_room t h i li in
      let n = row_words t i r in
      over-row t i 35 (link_words qs) r (omega arith) ∙ sym (one_lane t h (set_list 35 qs) i li (list-keeps 35 qs (inr refl) few-after (lane_at t i) n (row-formed t h i li)).0)

  abbrev written : List ℕ
  written = on_rows 52 (keyed a (set_list 35 qs)) t

  pub first-kept : searchable written ≡ true
  first-kept = lanes-kept t h (keyed a (set_list 35 qs)) first-keeps

  pub first_count : word 0 written ≡ word 0 t
  unfolding on_rows
  first_count = refl

  -- a row after the first list has its own predecessors
  row_before : (k : ℕ) → k < word 0 t → ids_at 18 (lane_at written k) ≡ ids_at 18 (lane_at t k)
  row_before k l =
      ap (ids_at 18) (lane-changed t h (keyed a (set_list 35 qs)) first-keeps k l) ∙ go (eqb (word 0 (lane_at t k)) a)
    where
      go : (x : Bool) → ids_at 18 (cond x (set_list 35 qs (lane_at t k)) (lane_at t k)) ≡ ids_at 18 (lane_at t k)
      go true = (lane_row (lane_at t k) (row_words t k (lane_room t h k l))).before-kept (lane-marks (lane_at t k) (row-formed t h k l)) qs few-after
      go false = refl

  pub second-links : links_at written j 18 ≡ links_at t j 18
  second-links = row_before j lj

  pub second-id : id_at written j ≡ b
  second-id =
      let w = lane_at t j in
      ap (word 0) (lane-changed t h (keyed a (set_list 35 qs)) first-keeps j lj)
      ∙ (first-keeps w (row_words t j (lane_room t h j lj)) (row-formed t h j lj)).1.1

  -- the table after the second list
  second-list : over written (1 + j * 52 + 18) (link_words ps) ≡ on_rows 52 (keyed b (set_list 18 ps)) written
  unfolding set_list
  second-list =
      let l : j < word 0 written = rw first_count lj in
      let r = lane_room written first-kept j l in
      let n = row_words written j r in
      over-row written j 18 (link_words ps) r (omega arith)
      ∙ (sym (one_lane written first-kept (set_list 18 ps) j l (list-keeps 18 ps (inl refl) few-before (lane_at written j) n (row-formed written first-kept j l)).0)
      ∙ ap (λ z. on_rows 52 (keyed z (set_list 18 ps)) written) second-id)

  -- one row
  module _ (k : ℕ) (l : k < word 0 t) where
    abbrev w : List ℕ
    w = lane_at t k

    len : length w ≡ 52
    len = row_words t k (lane_room t h k l)

    formed : lane_formed w ≡ true
    formed = row-formed t h k l

    laws : LaneRow w
    laws = lane_row w len

    abbrev after : List ℕ
    after = cond (eqb (word 0 w) a) (f (ids_at 35 w)) (ids_at 35 w)

    abbrev prior : List ℕ
    prior = cond (eqb (word 0 w) b) (g (ids_at 18 w)) (ids_at 18 w)

    -- the first list, whether the row is lane a's or not
    one-after : (keyed a (set_list 35 qs) w ≡ set_list 35 after w) × (length after ≤ 16)
    one-after = go (eqb (word 0 w) a) refl
      where
        go : (x : Bool) → eqb (word 0 w) a ≡ x
            → (cond x (set_list 35 qs w) w ≡ set_list 35 (cond x (f (ids_at 35 w)) (ids_at 35 w)) w) × (length (cond x (f (ids_at 35 w)) (ids_at 35 w)) ≤ 16)
        go true e =
            let same : k ≡ i = unique t h i k li l (eqb-true (word 0 w) a e) in
            let q : f (ids_at 35 w) ≡ qs = ap (λ z. f (ids_at 35 (lane_at t z))) same in
            (ap (λ z. set_list 35 z w) (sym q), rw q few-after)
        go false e = (sym (laws.own-after (lane-marks w formed)), ids_few w 35 (lane-marks w formed).after)

    one_prior : (v : List ℕ) → length v ≡ 52 → lane_formed v ≡ true → word 0 v ≡ word 0 w → ids_at 18 v ≡ ids_at 18 w
        → (keyed b (set_list 18 ps) v ≡ set_list 18 prior v) × (length prior ≤ 16)
    one_prior v lv fv id ids = go (eqb (word 0 w) b) refl
      where
        test : eqb (word 0 v) b ≡ eqb (word 0 w) b
        test = ap (λ z. eqb z b) id

        go : (x : Bool) → eqb (word 0 w) b ≡ x
            → (keyed b (set_list 18 ps) v ≡ set_list 18 (cond x (g (ids_at 18 w)) (ids_at 18 w)) v) × (length (cond x (g (ids_at 18 w)) (ids_at 18 w)) ≤ 16)
        go true e =
            let same : k ≡ j = unique t h j k lj l (eqb-true (word 0 w) b e) in
            let q : g (ids_at 18 w) ≡ ps = ap (λ z. g (ids_at 18 (lane_at t z))) same in
            (ap (λ x. cond x (set_list 18 ps v) v) (test ∙ e) ∙ ap (λ z. set_list 18 z v) (sym q), rw q few-before)
        go false e = (
          ap (λ x. cond x (set_list 18 ps v) v) (test ∙ e) ∙ (sym ((lane_row v lv).own-before (lane-marks v fv)) ∙ ap (λ z. set_list 18 z v) ids),
          ids_few w 18 (lane-marks w formed).before,
        )

    one-row : keyed b (set_list 18 ps) (keyed a (set_list 35 qs) w) ≡ lane_onto w (both_lists a b f g (lane_of [] w))
    one-row =
        let x = one-after in
        let v = list-keeps 35 after (inr refl) x.1 w len formed in
        let ids = laws.before-kept (lane-marks w formed) after x.1 in
        let y = one_prior (set_list 35 after w) v.0 v.1.0 v.1.1 ids in
        ap (keyed b (set_list 18 ps)) x.0
        ∙ (y.0 ∙ (sym (laws.linked-row (lane-marks w formed) [] prior after y.1 x.1) ∙ record_linked w a b f g))

  -- both lists written are the records changed
  pub both-lists : over written (1 + j * 52 + 18) (link_words (g (links_at written j 18))) ≡ lanes_changed (both_lists a b f g) t
  both-lists =
      ap (λ z. over written (1 + j * 52 + 18) (link_words (g z))) second-links
      ∙ (second-list
      ∙ (lanes-twice t h (keyed a (set_list 35 qs)) (keyed b (set_list 18 ps)) first-keeps
      ∙ (lanes-agree-at t h (λ w. keyed b (set_list 18 ps) (keyed a (set_list 35 qs) w)) (λ w. lane_onto w (both_lists a b f g (lane_of [] w))) one-row
      ∙ sym (lanes-changed t h (both_lists a b f g) (λ l. refl)))))

-- ---- add_link and remove_link, with the ids as they are read

module _ (t : List ℕ) (h : searchable t ≡ true) (i j : ℕ) (li : i < word 0 t) (lj : j < word 0 t) where
  abbrev from : ℕ
  from = get_or t (1 + i * 52) 0

  abbrev to : ℕ
  to = get_or t (1 + j * 52) 0

  -- the two routines, over the ids as they stand in the rows
  both_read : (f g : ℕ → List ℕ → List ℕ) → length (f (id_at t j) (links_at t i 35)) ≤ 16 → length (g (id_at t i) (links_at t j 18)) ≤ 16
      → (t1 t2 : List ℕ) → t1 ≡ over t (1 + i * 52 + 35) (link_words (f to (links_at t i 35))) → t2 ≡ over t1 (1 + j * 52 + 18) (link_words (g from (links_at t1 j 18)))
      → ((searchable t1 ≡ true) × ((j < word 0 t1) × (links_at t1 j 18 ≡ links_at t j 18))) × (t2 ≡ lanes_changed (both_lists (id_at t i) (id_at t j) (f (id_at t j)) (g (id_at t i))) t)
  both_read f g m n t1 t2 e q =
      let u = f (id_at t j) in
      let v = g (id_at t i) in
      let r = on_rows 52 (keyed (id_at t i) (set_list 35 (u (links_at t i 35)))) t in
      let one : t1 ≡ r = e ∙ (ap (λ z. over t (1 + i * 52 + 35) (link_words (f z (links_at t i 35)))) (id-at t j) ∙ first-list t h i j li lj u v m n) in
      let two : t2 ≡ over r (1 + j * 52 + 18) (link_words (v (links_at r j 18))) = q ∙ (ap (λ z. over t1 (1 + j * 52 + 18) (link_words (g z (links_at t1 j 18)))) (id-at t i) ∙ ap (λ z. over z (1 + j * 52 + 18) (link_words (v (links_at z j 18)))) one) in (
        (rw one (first-kept t h i j li lj u v m n), (rw (one, first_count t h i j li lj u v m n) lj, rw one (second-links t h i j li lj u v m n))),
        two ∙ both-lists t h i j li lj u v m n,
      )

  module _ (oa : Open (links_at t i 35) (id_at t j)) (ob : Open (links_at t j 18) (id_at t i)) where
    few-a : length (place (id_at t j) (links_at t i 35)) ≤ 16
    few-a = omega (arith, length-place (id_at t j) (links_at t i 35) oa.1.1, oa.0)

    few-b : length (place (id_at t i) (links_at t j 18)) ≤ 16
    few-b = omega (arith, length-place (id_at t i) (links_at t j 18) ob.1.1, ob.0)

    pub add-first : Open (links_at t i 35) to
    add-first = rw (id-at t j) oa

    pub add-second : (t1 : List ℕ) → t1 ≡ over t (1 + i * 52 + 35) (link_words (place to (links_at t i 35)))
        → (searchable t1 ≡ true) × ((j < word 0 t1) × ((◌≡◌ {A = ℕ} 18 18 ⊎ ◌≡◌ {A = ℕ} 18 35) × Open (links_at t1 j 18) from))
    add-second t1 e =
        let s = (both_read place place few-a few-b t1 (over t1 (1 + j * 52 + 18) (link_words (place from (links_at t1 j 18)))) e refl).0 in
        (s.0, (s.1.0, (inl refl, rw (s.1.1, id-at t i) ob)))

    pub add-both : (t1 t2 : List ℕ) → t1 ≡ over t (1 + i * 52 + 35) (link_words (place to (links_at t i 35)))
        → t2 ≡ over t1 (1 + j * 52 + 18) (link_words (place from (links_at t1 j 18))) → t2 ≡ lanes_changed (link_in (id_at t i) (id_at t j)) t
    add-both t1 t2 e q = (both_read place place few-a few-b t1 t2 e q).1

  fewer : (id k : ℕ) (n : ℕ) → n < word 0 t → (k ≡ 18) ⊎ (k ≡ 35) → length (without id (links_at t n k)) ≤ 16
  unfolding without
  fewer id k n l e = omega (arith, length-keep (λ y. not (eqb id y)) (links_at t n k), (list_count t h n k l e).1)

  pub remove-second : (t1 : List ℕ) → t1 ≡ over t (1 + i * 52 + 35) (link_words (without to (links_at t i 35)))
      → (searchable t1 ≡ true) × ((j < word 0 t1) × (◌≡◌ {A = ℕ} 18 18 ⊎ ◌≡◌ {A = ℕ} 18 35))
  remove-second t1 e =
      let s = (both_read without without (fewer (id_at t j) 35 i li (inr refl)) (fewer (id_at t i) 18 j lj (inl refl)) t1 (over t1 (1 + j * 52 + 18) (link_words (without from (links_at t1 j 18)))) e refl).0 in
      (s.0, (s.1.0, inl refl))

  pub remove-both : (t1 t2 : List ℕ) → t1 ≡ over t (1 + i * 52 + 35) (link_words (without to (links_at t i 35)))
      → t2 ≡ over t1 (1 + j * 52 + 18) (link_words (without from (links_at t1 j 18))) → t2 ≡ lanes_changed (link_out (id_at t i) (id_at t j)) t
  remove-both t1 t2 e q = (both_read without without (fewer (id_at t j) 35 i li (inr refl)) (fewer (id_at t i) 18 j lj (inl refl)) t1 t2 e q).1
