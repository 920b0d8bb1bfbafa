-- The boundaries that a merge leaves unused: each of the two lanes' four put in its place, if it goes. Assumes nothing.
use Rattle.std.specs.Prelude.{Option, None, Some}
use mathlib.Core.Path.{◌≡◌, refl, sym, ap, ◌∙◌}
use mathlib.Core.Bool.{Bool, true, false, not, cond, ◌&&◌, ◌||◌, or_assoc, or_comm, and-or_distrib_right}
use mathlib.Core.List.{List, []}
use Prim.Native.Nat.{ℕ, ◌+◌, ◌-◌, ◌*◌, ◌≤◌, ◌<◌}
use native.Mathlib.Omega.{arith}
use lib.Dec.{eqb}
use lib.ListN.{length, get_or, take, drop}
use lib.Seq.{length-take-le, drop-drop}
use borrow.Author.Tests.{eqb-true, eq-eqb}
use Rattle.lists.specs.Rows.{keys, over}
use Rattle.lists.specs.Select.{keep, has, place, ascending}
use Rattle.lists.proofs.Booleans.{same_test}
use Rattle.lists.proofs.Place.{place-present, length-place}
use Rattle.lists.proofs.Rows.{there as is_at, found-has, over-nil, over-itself, length_over, take-over, drop-over}
use Rattle.lists.proofs.Same.{ascending-same}
use Rattle.lists.proofs.Select.{has-keep, has-place, ascending-keep, ascending-place}
use Rattle.tables.specs.View.{word}
use Rattle.lookup.specs.Lookup.{row_at, row_uses, sorted_table, place_of, used_outside}
use Rattle.lookup.proofs.Laws.{sorted-ascends, sorted-row}
use Rattle.merge_plan.specs.declared.Joined.{Joined}
use Rattle.merge_plan.proofs.Laws.{id-read}
use Rattle.merge_gone.specs.Leaving.{Leaving, held, idle, there, goes, with_gone, gone_of}

-- the rows of both lanes lie within the table
pub both-rows : {lanes : List ℕ} {i j : ℕ} {boundaries : List ℕ} → Leaving lanes i j boundaries → (1 + i * 52 + 52 ≤ length lanes) × (1 + j * 52 + 52 ≤ length lanes)
both-rows {lanes} {i} {j} h = (sorted-row 1024 52 lanes h.lanes_are_sorted i h.first, sorted-row 1024 52 lanes h.lanes_are_sorted j h.second)

-- ---- a boundary that goes, as it is asked

module _ (lanes : List ℕ) (i j : ℕ) (l r : Joined) (boundaries : List ℕ) (b : ℕ) (f : Option ℕ) (found : f ≡ place_of 5 boundaries b) where
  present : there boundaries b ≡ is_at f
  unfolding place_of
  present = found-has b (keys 5 (word 0 boundaries) (drop 1 boundaries)) ∙ ap is_at (sym found)

  pub goes-missing : f ≡ None → false ≡ goes lanes i j l r boundaries b
  goes-missing e = sym (ap (λ z. z && idle lanes i j l r b) (present ∙ ap is_at e))

  pub goes-there : (k : ℕ) → f ≡ Some k → (h u e : Bool) → h ≡ held lanes i l r b → u ≡ used_outside lanes b (get_or lanes (1 + i * 52) 0) (get_or lanes (1 + j * 52) 0) → e ≡ (h || u)
      → not e ≡ goes lanes i j l r boundaries b
  goes-there k t h u e p q s =
      let z : 0 < 52 = omega arith in
      let v : u ≡ used_outside lanes b (word 0 (row_at 52 lanes i)) (word 0 (row_at 52 lanes j)) = q ∙ rw (id-read 52 lanes i z, id-read 52 lanes j z) in
      sym (ap (λ y. y && idle lanes i j l r b) (present ∙ ap is_at t) ∙ ap not (sym (s ∙ (ap (λ y. y || u) p ∙ ap (λ y. held lanes i l r b || y) v))))

-- ---- one put among the others

-- the first n of w
module _ (w : List ℕ) (n id : ℕ) (h : n < length w) (b g : Bool) (e : b ≡ g) where
  pub gone-added : b ≡ true → (v : List ℕ) (r : ℕ) → (v ≡ over w 0 (place id (take n w))) × (r ≡ length (place id (take n w)))
      → (r ≡ length (with_gone g id (take n w))) × (v ≡ over w 0 (with_gone g id (take n w)))
  gone-added t v r (p, q) = rw (← e, t) (q, p)

  pub gone-kept : b ≡ false → (n ≡ length (with_gone g id (take n w))) × (w ≡ over w 0 (with_gone g id (take n w)))
  gone-kept t = let j : n ≤ length w = omega arith in rw (← e, t) (sym (length-take-le n w j), sym (over-itself w n j))

with-up : (g : Bool) (x : ℕ) (ids : List ℕ) → ascending ids ≡ true → ascending (with_gone g x ids) ≡ true
with-up true x ids h = ascending-place x ids h
with-up false x ids h = h

with-long : (g : Bool) (x : ℕ) (ids : List ℕ) → ascending ids ≡ true → (length ids ≤ length (with_gone g x ids)) × (length (with_gone g x ids) ≤ length ids + 1)
with-long true x ids h = go (has x ids) refl
  where
    go : (b : Bool) → has x ids ≡ b → (length ids ≤ length (place x ids)) × (length (place x ids) ≤ length ids + 1)
    go true e = let l = ap length (place-present x ids h e) in (omega arith, omega arith)
    go false e = let l = length-place x ids e in (omega arith, omega arith)
with-long false x ids h = (omega arith, omega arith)

eqb-turned : (x y : ℕ) → eqb x y ≡ eqb y x
eqb-turned x y = same_test (eqb x y) (eqb y x) (λ e. eq-eqb y x (sym (eqb-true x y e))) (λ e. eq-eqb x y (sym (eqb-true y x e)))

-- y is among them, or is the one that is put there
with-has : (g : ℕ → Bool) (x y : ℕ) (ids : List ℕ) → has y (with_gone (g x) x ids) ≡ (has y ids || (eqb x y && g y))
with-has g x y ids = go (g x) refl (eqb x y) refl ∙ or_comm (eqb x y && g y) (has y ids)
  where
    go : (p : Bool) → g x ≡ p → (q : Bool) → eqb x y ≡ q → has y (cond p (place x ids) ids) ≡ ((eqb x y && g y) || has y ids)
    go true e true f = has-place y x ids ∙ rw (eqb-turned y x, f, sym (ap g (eqb-true x y f)) ∙ e)
    go true e false f = has-place y x ids ∙ rw (eqb-turned y x, f)
    go false e true f = rw (f, sym (ap g (eqb-true x y f)) ∙ e)
    go false e false f = rw f

-- ---- those that were put at the front of w

pub record Gathered (w v : List ℕ) (most n : ℕ) (ids : List ℕ) : Type 0 where
  pub up : ascending ids ≡ true
  pub count : n ≡ length ids
  pub few : n ≤ most
  pub list : v ≡ over w 0 ids

pub gathered_none : (w : List ℕ) → Gathered w w 0 0 []
unfolding ascending
gathered_none w = record { up = refl; count = refl; few = omega arith; list = sym (over-nil w 0) }

module _ {w v : List ℕ} {most n : ℕ} {ids : List ℕ} (h : Gathered w v most n ids) (room : most < length w) where
  fits : 0 + length ids ≤ length w
  fits = omega (arith, h.count, h.few)

  front : take n v ≡ ids
  front =
      let z : 0 + length ids ≡ length ids = omega arith in
      ap (λ k. take k v) h.count ∙ (ap (take (length ids)) h.list ∙ (rw z at (take-over w 0 ids fits)))

  pub gathered-room : (n < length v) × (ascending (take n v) ≡ true)
  gathered-room = (omega (arith, h.count, h.few, ap length h.list, length_over w 0 ids fits), ap ascending front ∙ h.up)

  -- a longer list written over a shorter one
  again : (new : List ℕ) → length ids ≤ length new → over (over w 0 ids) 0 new ≡ over w 0 new
  again new k =
      let m = length new - length ids in
      let e : 0 + length new ≡ 0 + length ids + m = omega arith in
      let d : drop (0 + length new) (over w 0 ids) ≡ drop (0 + length new) w =
      rw e (sym (drop-drop m (0 + length ids) (over w 0 ids)) ∙ (ap (drop m) (drop-over w 0 ids fits) ∙ drop-drop m (0 + length ids) w)) in
      joined (over w 0 ids) d
    where
      joined : (z : List ℕ) → drop (0 + length new) z ≡ drop (0 + length new) w → over z 0 new ≡ over w 0 new
      joined z d = unfold over in rw d

  pub gathered-more : (g : Bool) (x : ℕ) {r : ℕ} {u : List ℕ} → (r ≡ length (with_gone g x (take n v))) × (u ≡ over v 0 (with_gone g x (take n v))) → Gathered w u (most + 1) r (with_gone g x ids)
  gathered-more g x {r} {u} (p, q) =
      let new = with_gone g x ids in
      let l = with-long g x ids h.up in
      let c : r ≡ length new = p ∙ ap (λ z. length (with_gone g x z)) front in
      record {
        up = with-up g x ids h.up;
        count = c;
        few = omega (arith, c, l, h.count, h.few);
        list = q ∙ (ap (λ z. over v 0 (with_gone g x z)) front ∙ (ap (λ z. over z 0 new) h.list ∙ again new l.0));
      }

-- ---- the two lanes' four are those that go

module _ (lanes : List ℕ) (i j : ℕ) (l r : Joined) (boundaries : List ℕ) where
  abbrev ks : List ℕ
  ks = keys 5 (word 0 boundaries) (drop 1 boundaries)

  abbrev g : ℕ → Bool
  g = goes lanes i j l r boundaries

  abbrev four : ℕ → ℕ → ℕ → ℕ → List ℕ
  four a b c d = with_gone (g d) d (with_gone (g c) c (with_gone (g b) b (with_gone (g a) a [])))

  four-has : (a b c d y : ℕ) → has y (four a b c d) ≡ ((eqb a y || eqb b y || (eqb c y || eqb d y)) && g y)
  unfolding has
  four-has a b c d y =
      with-has g d y (with_gone (g c) c (with_gone (g b) b (with_gone (g a) a [])))
      ∙ (ap (λ z. z || (eqb d y && g y)) (with-has g c y (with_gone (g b) b (with_gone (g a) a [])))
      ∙ (ap (λ z. z || (eqb c y && g y) || (eqb d y && g y)) (with-has g b y (with_gone (g a) a []))
      ∙ (ap (λ z. z || (eqb b y && g y) || (eqb c y && g y) || (eqb d y && g y)) (with-has g a y [])
      ∙ spread (eqb a y) (eqb b y) (eqb c y) (eqb d y) (g y))))
    where
      spread : (p q s t u : Bool) → ((p && u) || (q && u) || (s && u) || (t && u)) ≡ ((p || q || (s || t)) && u)
      spread p q s t u =
          sym (ap (λ z. z && u) (sym (or_assoc (p || q) s t))
          ∙ (and-or_distrib_right (p || q || s) t u
          ∙ (ap (λ z. z || (t && u)) (and-or_distrib_right (p || q) s u) ∙ ap (λ z. z || (s && u) || (t && u)) (and-or_distrib_right p q u))))

  module _ (s : sorted_table 4096 5 boundaries ≡ true) (a b c d : ℕ) (ea : a ≡ word 2 (row_at 52 lanes i)) (eb : b ≡ word 4 (row_at 52 lanes i)) (ec : c ≡ word 2 (row_at 52 lanes j)) (ed : d ≡ word 4 (row_at 52 lanes j)) where
    four-gone : ascending (four a b c d) ≡ true → four a b c d ≡ gone_of lanes i j l r boundaries
    unfolding gone_of
    four-gone up =
        let u = row_at 52 lanes i in
        let v = row_at 52 lanes j in
        let own : ℕ → Bool = λ b. (row_uses b u || row_uses b v) && idle lanes i j l r b in
        ascending-same (four a b c d) (keep own ks) up (ascending-keep own ks (sorted-ascends 4096 5 boundaries s))
        (λ y. four-has a b c d y ∙ (named y ∙ (swap (row_uses y u || row_uses y v) (has y ks) (idle lanes i j l r y) ∙ sym (has-keep y own ks))))
      where
        named : (y : ℕ) → ((eqb a y || eqb b y || (eqb c y || eqb d y)) && g y) ≡ ((row_uses y (row_at 52 lanes i) || row_uses y (row_at 52 lanes j)) && g y)
        named y = rw (ea, eb, ec, ed)

        swap : (p q t : Bool) → (p && (q && t)) ≡ (q && (p && t))
        swap true true t = refl
        swap true false t = refl
        swap false true t = refl
        swap false false t = refl

    pub gathered-gone : {w v : List ℕ} {n : ℕ} → Gathered w v 4 n (four a b c d) → (n ≡ length (gone_of lanes i j l r boundaries)) × (v ≡ over w 0 (gone_of lanes i j l r boundaries))
    gathered-gone {w} h = let e = four-gone h.up in (h.count ∙ ap length e, h.list ∙ ap (over w 0) e)
