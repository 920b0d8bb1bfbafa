-- A counted list of links in a row, written. Assumes nothing.
use mathlib.Core.Path.{◌≡◌, sym, ap, ◌∙◌}
use mathlib.Core.Logic.{◌⊎◌, ⊎_elim}
use Prim.Native.Nat.{ℕ, ◌+◌, ◌-◌, ◌*◌, ◌≤◌, ◌<◌}
use native.Mathlib.Omega.{arith}
use mathlib.Core.Bool.{true, false, not}
use lib.Dec.{eqb}
use mathlib.Core.List.{List, ◌∷◌}
use lib.ListN.{length, get_or, set, take, drop, length-drop}
use lib.Seq.{length-take-le, take-take}
use borrow.Rule.Slice.PartMut.{mid_of, put_mid}
use Rattle.lists.specs.Rows.{over}
use Rattle.lists.specs.Select.{has, place, without, ascending}
use Rattle.lists.proofs.Place.{length-place}
use Rattle.lists.proofs.Select.{length-keep}
use Rattle.store.proofs.Lists.{list-room, list_put}
use Rattle.tables.specs.View.{word}
use Rattle.row_tests.specs.Returned.{searchable, lane_at}
use Rattle.row_tests.proofs.Lanes.{word_at, ids_at_lem, links-within, row-formed}
use Rattle.row_tests.proofs.Formed.{lane-before, lane-after}
use Rattle.topology.specs.Topology.{links_at, link_words, Open}
use Rattle.topology.proofs.Table.{links-room}

-- a count is at most 16
list-few : (t : List ℕ) (h : searchable t ≡ true) (i k : ℕ) → i < word 0 t → (k ≡ 18) ⊎ (k ≡ 35) → get_or t (1 + i * 52 + k) 0 ≤ 16
list-few t h i k l e =
    let f = row-formed t h i l in
    ⊎_elim (λ x. rw x (rw (word_at t i 18 (omega arith)) (lane-before (lane_at t i) f))) (λ x. rw x (rw (word_at t i 35 (omega arith)) (lane-after (lane_at t i) f))) e

-- the list that the part holds
pub list-part : (t : List ℕ) (h : searchable t ≡ true) (i k : ℕ) → i < word 0 t → (k ≡ 18) ⊎ (k ≡ 35)
    → take (get_or t (1 + i * 52 + k) 0) (mid_of (1 + i * 52 + k + 1) (1 + i * 52 + k + 1 + 16 - (1 + i * 52 + k + 1)) t) ≡ links_at t i k
list-part t h i k l e =
    let w = links-within t h i l k e in
    let n = get_or t (1 + i * 52 + k) 0 in
    let a = 1 + i * 52 + k + 1 in
    let f : a + 16 - a ≡ 16 = omega arith in
    let g : a + n - a ≡ n = omega arith in
    let m : n ≤ 16 = list-few t h i k l e in
    ap (λ z. take n (take z (drop a t))) f
    ∙ (take-take n 16 (drop a t) m ∙ (ap (λ z. take z (drop a t)) (sym g) ∙ ids_at_lem t i k w))

-- how many it holds
pub list_count : (t : List ℕ) (h : searchable t ≡ true) (i k : ℕ) → i < word 0 t → (k ≡ 18) ⊎ (k ≡ 35)
    → (get_or t (1 + i * 52 + k) 0 ≡ length (links_at t i k)) × (length (links_at t i k) ≤ 16)
list_count t h i k l e =
    let r = links-room t h i k l e in
    let n = get_or t (1 + i * 52 + k) 0 in
    let a = 1 + i * 52 + k + 1 in
    let f : a + 16 - a ≡ 16 = omega arith in
    let m = list-few t h i k l e in
    let q : length (take 16 (drop a t)) ≡ 16 = length-take-le 16 (drop a t) (rw length-drop (omega arith)) in
    let u : length (take n (take 16 (drop a t))) ≡ n = length-take-le n (take 16 (drop a t)) (rw q m) in
    let v : links_at t i k ≡ take n (take 16 (drop a t)) = sym (list-part t h i k l e) ∙ ap (λ z. take n (take z (drop a t))) f in
    let w : length (links_at t i k) ≡ n = ap length v ∙ u in
    (sym w, rw w m)

-- ---- what the routines of lists ask and leave

module _ (t : List ℕ) (h : searchable t ≡ true) (i k : ℕ) (l : i < word 0 t) (e : (k ≡ 18) ⊎ (k ≡ 35)) where
  abbrev n : ℕ
  n = get_or t (1 + i * 52 + k) 0

  abbrev slots : List ℕ
  slots = mid_of (1 + i * 52 + k + 1) (1 + i * 52 + k + 1 + 16 - (1 + i * 52 + k + 1)) t

  room : 1 + i * 52 + k + 1 + 16 ≤ length t
  room = omega (arith, links-room t h i k l e)

  many : length slots ≡ 16
  many =
      let f : 1 + i * 52 + k + 1 + 16 - (1 + i * 52 + k + 1) ≡ 16 = omega arith in
      rw f (length-take-le 16 (drop (1 + i * 52 + k + 1) t) (rw length-drop (omega (arith, links-room t h i k l e))))

  pub insert-may : (id : ℕ) → Open (links_at t i k) id → (n < length slots) × ((ascending (take n slots) ≡ true) × (has id (take n slots) ≡ false))
  insert-may id o =
      let p = list-part t h i k l e in
      let q = list_count t h i k l e in
      (rw many (omega (arith, q.0, o.0)), (rw p o.1.0, rw p o.1.1))

  pub remove-may : n ≤ length slots
  remove-may = rw many (omega (arith, list-few t h i k l e))

  pub insert-leaves : (id : ℕ) (v : List ℕ) → Open (links_at t i k) id → v ≡ over slots 0 (place id (take n slots))
      → (1 + i * 52 + k < length (put_mid (1 + i * 52 + k + 1) (1 + i * 52 + k + 1 + 16 - (1 + i * 52 + k + 1)) t v))
      × (set (put_mid (1 + i * 52 + k + 1) (1 + i * 52 + k + 1 + 16 - (1 + i * 52 + k + 1)) t v) (1 + i * 52 + k) (n + 1) ≡ over t (1 + i * 52 + k) (link_words (place id (links_at t i k))))
  insert-leaves id v o f =
      let p = list-part t h i k l e in
      let q = list_count t h i k l e in
      let ids = place id (links_at t i k) in
      let m : length ids ≡ length (links_at t i k) + 1 = length-place id (links_at t i k) o.1.1 in
      let w : v ≡ over slots 0 ids = f ∙ ap (λ z. over slots 0 (place id z)) p in
      let x : n + 1 ≡ length ids = omega (arith, q.0) in
      let s : length ids ≤ 16 = omega (arith, o.0) in (
        list-room t v ids (1 + i * 52 + k) 16 room s w,
        list_put t v ids (1 + i * 52 + k) 16 room s w (n + 1) ∙ ap (λ z. over t (1 + i * 52 + k) (z ∷ ids)) x,
      )

  pub remove-leaves : (id r : ℕ) (v : List ℕ) → r ≡ length (without id (take n slots)) → v ≡ over slots 0 (without id (take n slots))
      → (1 + i * 52 + k < length (put_mid (1 + i * 52 + k + 1) (1 + i * 52 + k + 1 + 16 - (1 + i * 52 + k + 1)) t v))
      × (set (put_mid (1 + i * 52 + k + 1) (1 + i * 52 + k + 1 + 16 - (1 + i * 52 + k + 1)) t v) (1 + i * 52 + k) r ≡ over t (1 + i * 52 + k) (link_words (without id (links_at t i k))))
  unfolding without
  remove-leaves id r v c f =
      let p = list-part t h i k l e in
      let q = list_count t h i k l e in
      let ids = without id (links_at t i k) in
      let w : v ≡ over slots 0 ids = f ∙ ap (λ z. over slots 0 (without id z)) p in
      let x : r ≡ length ids = c ∙ ap (λ z. length (without id z)) p in
      let y = length-keep (λ y. not (eqb id y)) (links_at t i k) in
      let s : length ids ≤ 16 = omega (arith, y, q.1) in (
        list-room t v ids (1 + i * 52 + k) 16 room s w,
        list_put t v ids (1 + i * 52 + k) 16 room s w r ∙ ap (λ z. over t (1 + i * 52 + k) (z ∷ ids)) x,
      )
