-- connect and disconnect: the lanes that are not reported are as they were, so the lists are exact.
use Rattle.std.specs.Prelude.{Some}
use mathlib.Core.Path.{◌≡◌, refl, sym, ap, ◌∙◌}
use mathlib.Core.Bool.{Bool, true, false, not, ◌&&◌, cond}
use mathlib.Core.List.{List, [], map}
use Prim.Native.Nat.{ℕ}
use lib.Dec.{eqb}
use borrow.Author.Tests.{eqb-true}
use Rattle.lists.specs.Select.{has, place, without, ascending}
use Rattle.lists.proofs.Booleans.{and-fst, and-snd, neither}
use Rattle.lists.proofs.Place.{place-present, without-absent}
use Rattle.lists.proofs.Select.{on_found}
use Rattle.entities.specs.Records.{Lane, Map, Issue}
use Rattle.rules.specs.Map.{lane, leads_to, lane_ids}
use Rattle.rules.specs.Sound.{links_ascend, ids_ascend, sound}
use Rattle.rules.specs.Edit.{link_in, link_out, either, lanes_where, with_lanes, with_links}
use Rattle.rules.specs.Demand.{Exact}
use Rattle.rules.proofs.Facts.{sound-facts}
use Rattle.rules.proofs.Reciprocal.{links-agree}
use Rattle.rules.proofs.Relations.{leads-found, comes-found}
use Rattle.laws.proofs.Links.{lane-id}
use Rattle.laws.proofs.Exact.{relink-exact}
use Rattle.laws.proofs.Connect.{found_all}

-- ---- the lanes that are not reported

head_of : (a b c d e f g : Bool) → (a && b && c && d && e && f && g) ≡ true → a ≡ true
head_of true b c d e f g t = refl
head_of false b c d e f g t = t

pub ids_up : (c : ℕ) (m : Map) → sound c m ≡ true → ascending (lane_ids m) ≡ true
unfolding ids_ascend
ids_up c m h =
    head_of (ascending (lane_ids m)) (ascending (map (λ b. b.id) m.boundaries)) (ascending (map (λ r. r.id) m.roads))
    (ascending (map (λ j. j.id) m.junctions)) (ascending (map (λ r. r.id) m.rules)) (ascending (map (λ s. s.id) m.stop_lines))
    (ascending (map (λ c. c.id) m.crosswalks)) (sound-facts c m h).ids

module _ (c : ℕ) (m : Map) (sane : sound c m ≡ true) where
  lists-up : (i : ℕ) (l : Lane) → lane m i ≡ Some l → (ascending l.predecessors && ascending l.successors) ≡ true
  unfolding lane links_ascend
  lists-up i l e = found_all (λ k. eqb k.id i) (λ k. ascending k.predecessors && ascending k.successors) m.lanes l e (sound-facts c m sane).links-ascend

  -- a link of a lane that is found
  succ-of : (i b : ℕ) (l : Lane) → lane m i ≡ Some l → leads_to m i b ≡ has b l.successors
  succ-of i b l e = leads-found m i b (ids_up c m sane) ∙ ap (on_found (λ k. has b k.successors)) e

  pred_of : (a i : ℕ) (l : Lane) → lane m i ≡ Some l → leads_to m a i ≡ has a l.predecessors
  pred_of a i l e = links-agree m (sound-facts c m sane).links a i ∙ comes-found m a i (ids_up c m sane) ∙ ap (on_found (λ k. has a k.predecessors)) e

  placed-still : (g : Bool) (x : ℕ) (ys : List ℕ) → ascending ys ≡ true → (g ≡ true → has x ys ≡ true) → cond g (place x ys) ys ≡ ys
  placed-still true x ys up h = place-present x ys up (h refl)
  placed-still false x ys up h = refl

  taken-still : (g : Bool) (x : ℕ) (ys : List ℕ) → (g ≡ true → has x ys ≡ false) → cond g (without x ys) ys ≡ ys
  taken-still true x ys h = without-absent x ys (h refl)
  taken-still false x ys h = refl

  -- Where a and b are linked, and in every lane but a and b, connecting changes nothing.
  connect-still : (a b i : ℕ) (l : Lane) → lane m i ≡ Some l → (not (leads_to m a b) && either a b l) ≡ false → link_in a b l ≡ l
  connect-still a b i l e t = go (leads_to m a b) refl
    where
      j : l.id ≡ i
      j = lane-id m i l e

      up : (ascending l.predecessors && ascending l.successors) ≡ true
      up = lists-up i l e

      go : (k : Bool) → leads_to m a b ≡ k → link_in a b l ≡ l
      go true h =
          let p = placed-still (eqb l.id b) a l.predecessors (and-fst (ascending l.predecessors) (ascending l.successors) up) (λ g.
          let u : i ≡ b = sym j ∙ eqb-true l.id b g in sym (pred_of a i l e) ∙ rw u h) in
          let q = placed-still (eqb l.id a) b l.successors (and-snd (ascending l.predecessors) (ascending l.successors) up) (λ g.
          let u : i ≡ a = sym j ∙ eqb-true l.id a g in sym (succ-of i b l e) ∙ rw u h) in
          ap (λ ps. with_links ps (cond (eqb l.id a) (place b l.successors) l.successors) l) p ∙ ap (λ ss. with_links l.predecessors ss l) q
      go false h =
          let n = neither (eqb l.id a) (eqb l.id b) (rw h at t) in
          ap (λ g. with_links (cond g (place a l.predecessors) l.predecessors) (cond (eqb l.id a) (place b l.successors) l.successors) l) n.1
          ∙ ap (λ g. with_links l.predecessors (cond g (place b l.successors) l.successors) l) n.0

  disconnect-still : (a b i : ℕ) (l : Lane) → lane m i ≡ Some l → (leads_to m a b && either a b l) ≡ false → link_out a b l ≡ l
  disconnect-still a b i l e t = go (leads_to m a b) refl
    where
      j : l.id ≡ i
      j = lane-id m i l e

      go : (k : Bool) → leads_to m a b ≡ k → link_out a b l ≡ l
      go true h =
          let n = neither (eqb l.id a) (eqb l.id b) (rw h at t) in
          ap (λ g. with_links (cond g (without a l.predecessors) l.predecessors) (cond (eqb l.id a) (without b l.successors) l.successors) l) n.1
          ∙ ap (λ g. with_links l.predecessors (cond g (without b l.successors) l.successors) l) n.0
      go false h =
          let p = taken-still (eqb l.id b) a l.predecessors (λ g.
          let u : i ≡ b = sym j ∙ eqb-true l.id b g in sym (pred_of a i l e) ∙ rw u h) in
          let q = taken-still (eqb l.id a) b l.successors (λ g.
          let u : i ≡ a = sym j ∙ eqb-true l.id a g in sym (succ-of i b l e) ∙ rw u h) in
          ap (λ ps. with_links ps (cond (eqb l.id a) (without b l.successors) l.successors) l) p ∙ ap (λ ss. with_links l.predecessors ss l) q

  -- ---- the lists

  pub connect-exact : (a b : ℕ) (ws : List Issue)
      → Exact m (record { created = []; modified = lanes_where (λ l. not (leads_to m a b) && either a b l) m.lanes; deleted = []; warnings = ws })
      (with_lanes (map (link_in a b) m.lanes) m)
  connect-exact a b ws = relink-exact m (link_in a b) (λ l. refl) (λ l. not (leads_to m a b) && either a b l) (ids_up c m sane) (connect-still a b) ws

  pub disconnect-exact : (a b : ℕ) (ws : List Issue)
      → Exact m (record { created = []; modified = lanes_where (λ l. leads_to m a b && either a b l) m.lanes; deleted = []; warnings = ws })
      (with_lanes (map (link_out a b) m.lanes) m)
  disconnect-exact a b ws = relink-exact m (link_out a b) (λ l. refl) (λ l. leads_to m a b && either a b l) (ids_up c m sane) (disconnect-still a b) ws
