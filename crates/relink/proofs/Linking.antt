-- Rows that can be linked: their lists, and a link that is there. Assumes nothing.
use mathlib.Core.Path.{◌≡◌, refl, sym, ap, ◌∙◌}
use mathlib.Core.Logic.{inl, inr}
use Prim.Native.Nat.{ℕ, ◌+◌, ◌*◌, ◌<◌}
use mathlib.Core.Bool.{Bool, true, false, cond, ◌&&◌, ◌||◌}
use mathlib.Core.List.{List, []}
use lib.Dec.{eqb, ltb}
use lib.ListN.{length, get_or}
use borrow.Author.Tests.{eqb-true, ltb-true}
use Rattle.lists.specs.Select.{place}
use Rattle.lists.proofs.Booleans.{and-fst, and-snd}
use Rattle.rules.specs.Edit.{link_in, relinked}
use Rattle.tables.specs.View.{word, ids_at, slot_at, lane_of}
use Rattle.row_tests.specs.Returned.{searchable, lane_at}
use Rattle.row_tests.proofs.Lanes.{lane_room, row-formed}
use Rattle.store.specs.Store.{lane_onto}
use Rattle.store.specs.Rows.{set_list}
use Rattle.store.proofs.Marks.{lane-marks}
use Rattle.store.proofs.LaneRow.{lane_row}
use Rattle.lists.proofs.Place.{place-present}
use Rattle.topology.specs.Topology.{lanes_changed, id_at, links_at, Open}
use Rattle.topology.proofs.Table.{row_words, lanes-changed, lanes-stay, unique}
use Rattle.topology.proofs.Links.{list_count}
use Rattle.topology.proofs.Linked.{record_linked, ids_few}
use Rattle.relink.specs.Parts.{Linkable, link_room}

module _ (t : List ℕ) (i j : ℕ) (linked : Bool) (p : Linkable t i j linked) where
  abbrev h : searchable t ≡ true
  h = p.0

  -- a link that is not there has room in both lists, and both lack it
  pub link_open : (linked || link_room t i j) ≡ true → linked ≡ false
      → (searchable t ≡ true) × ((i < word 0 t) × ((j < word 0 t) × (Open (links_at t i 35) (id_at t j) × Open (links_at t j 18) (id_at t i))))
  link_open r f =
      let q : link_room t i j ≡ true = rw f at r in
      let u = ltb-true (length (links_at t i 35)) 16 (and-fst (ltb (length (links_at t i 35)) 16) (ltb (length (links_at t j 18)) 16) q) in
      let v = ltb-true (length (links_at t j 18)) 16 (and-snd (ltb (length (links_at t i 35)) 16) (ltb (length (links_at t j 18)) 16) q) in
      (p.0, (p.1.0, (p.1.1.0, ((u, (p.1.1.1.1.1.0, sym p.1.1.1.0 ∙ f)), (v, (p.1.1.1.1.1.1, sym p.1.1.1.1.0 ∙ f))))))

  -- a link that is there is in its place
  pub link-there : linked ≡ true → t ≡ lanes_changed (link_in (id_at t i) (id_at t j)) t
  link-there f =
      sym (lanes-changed t h (link_in (id_at t i) (id_at t j)) (λ l. refl) ∙ lanes-stay t h (λ w. lane_onto w (link_in (id_at t i) (id_at t j) (lane_of [] w))) stay)
    where
      a : ℕ
      a = id_at t i

      b : ℕ
      b = id_at t j

      after : (k : ℕ) → k < word 0 t → (x : Bool) → eqb (word 0 (lane_at t k)) a ≡ x → cond x (place b (ids_at 35 (lane_at t k))) (ids_at 35 (lane_at t k)) ≡ ids_at 35 (lane_at t k)
      after k l true e =
          let same : k ≡ i = unique t h i k p.1.0 l (eqb-true (word 0 (lane_at t k)) a e) in
          let q : links_at t k 35 ≡ links_at t i 35 = ap (λ z. links_at t z 35) same in
          ap (place b) q ∙ (place-present b (links_at t i 35) p.1.1.1.1.1.0 (sym p.1.1.1.0 ∙ f) ∙ sym q)
      after k l false e = refl

      prior : (k : ℕ) → k < word 0 t → (x : Bool) → eqb (word 0 (lane_at t k)) b ≡ x → cond x (place a (ids_at 18 (lane_at t k))) (ids_at 18 (lane_at t k)) ≡ ids_at 18 (lane_at t k)
      prior k l true e =
          let same : k ≡ j = unique t h j k p.1.1.0 l (eqb-true (word 0 (lane_at t k)) b e) in
          let q : links_at t k 18 ≡ links_at t j 18 = ap (λ z. links_at t z 18) same in
          ap (place a) q ∙ (place-present a (links_at t j 18) p.1.1.1.1.1.1 (sym p.1.1.1.1.0 ∙ f) ∙ sym q)
      prior k l false e = refl

      stay : (k : ℕ) → k < word 0 t → lane_onto (lane_at t k) (link_in a b (lane_of [] (lane_at t k))) ≡ lane_at t k
      stay k l =
          let w = lane_at t k in
          let m = lane-marks w (row-formed t h k l) in
          let r = lane_row w (row_words t k (lane_room t h k l)) in
          let u = after k l (eqb (word 0 w) a) refl in
          let v = prior k l (eqb (word 0 w) b) refl in
          sym (record_linked w a b (place b) (place a))
          ∙ (ap (λ z. lane_onto w (relinked (lane_of [] w) (slot_at 14 w) (slot_at 16 w) z (cond (eqb (word 0 w) a) (place b (ids_at 35 w)) (ids_at 35 w)))) v
          ∙ (ap (λ z. lane_onto w (relinked (lane_of [] w) (slot_at 14 w) (slot_at 16 w) (ids_at 18 w) z)) u
          ∙ (r.linked-row m [] (ids_at 18 w) (ids_at 35 w) (ids_few w 18 m.before) (ids_few w 35 m.after)
          ∙ (ap (set_list 18 (ids_at 18 w)) (r.own-after m) ∙ r.own-before m))))

-- room for a link, by its counts
pub room-by-counts : (t : List ℕ) (i j : ℕ) (h : searchable t ≡ true) → i < word 0 t → j < word 0 t → (linked r : Bool) → linked ≡ false
    → r ≡ (ltb (get_or t (1 + i * 52 + 35) 0) 16 && ltb (get_or t (1 + j * 52 + 18) 0) 16) → r ≡ (linked || link_room t i j)
room-by-counts t i j h li lj linked r f e =
    e ∙ rw (f, (list_count t h i 35 li (inr refl)).0, (list_count t h j 18 lj (inl refl)).0)
