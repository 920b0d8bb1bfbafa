-- A split's room test on the map is the tests of its parts: what stands kept its limits before. Assumes nothing.
use mathlib.Core.Path.{◌≡◌, refl, ap, ◌∙◌}
use Prim.Native.Nat.{ℕ, ◌+◌}
use mathlib.Core.Bool.{Bool, true, false, ◌&&◌}
use mathlib.Core.List.{List, map}
use lib.Dec.{leb}
use lib.ListN.{length, length-map}
use Rattle.lists.specs.Every.{all}
use Rattle.lists.specs.Select.{ascending}
use Rattle.entities.specs.Records.{Map}
use Rattle.rules.specs.Names.{Tolerance}
use Rattle.rules.specs.Sound.{Room, fits_room, within_limits, lines, point_count, id_lists}
use Rattle.rules.specs.Split.{LanePlan, Piece, halves, pieces_ids, cut}
use Rattle.sound_facts.proofs.Room.{limits}
use Rattle.split_named.proofs.Words.{cut_ids}
use Rattle.split_limits.proofs.Lengths.{lanes-many, boundaries-many}
use Rattle.split_limits.proofs.Links.{few, up, links-fit}

fails2 : (a b : Bool) → false ≡ (a && (b && false))
fails2 true true = refl
fails2 true false = refl
fails2 false b = refl

fails3 : (a b c : Bool) → false ≡ (a && (b && (c && false)))
fails3 true true true = refl
fails3 true true false = refl
fails3 true false c = refl
fails3 false b c = refl

fails1 : (a : Bool) → false ≡ (a && false)
fails1 true = refl
fails1 false = refl

-- limits and room in another order
sorted : (l b s p r j u x y z : Bool) → (l && b && true && true && true && true && true && s && p && true && r && j && u && x && y && z) ≡ ((l && x) && ((b && y) && (s && ((p && z) && (r && (j && u))))))
sorted false b s p r j u x y z = refl
sorted true false s p r j u x y z = fails1 x
sorted true true false p r j u x y z = fails2 x y
sorted true true true false r j u x y z = fails2 x y
sorted true true true true false j u x y z = fails3 x y z
sorted true true true true true false u x y z = fails3 x y z
sorted true true true true true true false x y z = fails3 x y z
sorted true true true true true true true true true true = refl
sorted true true true true true true true true true false = refl
sorted true true true true true true true true false z = refl
sorted true true true true true true true false y z = refl

six-shut : (l b s p r j u x y z : Bool) {c d e f g k : Bool} → c ≡ true → d ≡ true → e ≡ true → f ≡ true → g ≡ true → k ≡ true
    → (l && b && c && d && e && f && g && s && p && k && r && j && u && x && y && z) ≡ ((l && x) && ((b && y) && (s && ((p && z) && (r && (j && u))))))
six-shut l b s p r j u x y z p0 p1 p2 p3 p4 p5 = rw (p0, p1, p2, p3, p4, p5) (sorted l b s p r j u x y z)

module _ (tol : Tolerance) (start : ℕ) (m : Map) (own : ℕ) (group : List ℕ) (ps : List LanePlan) (xs : List Piece) (room : Room) where
  abbrev pub after : Map
  after = (cut tol start m own group ps xs).result

  pub fits-split : within_limits m ≡ true → ascending (cut_ids ps) ≡ true → all (λ l. few l && up l) m.lanes ≡ true → all (λ x. few x.of && up x.of) ps ≡ true
      → fits_room room (cut tol start m own group ps xs).result
      ≡ ((leb (length m.lanes + length ps) 1024 && leb (length m.lanes + length ps) room.lanes)
      && ((leb (length m.boundaries + pieces_ids xs) 4096 && leb (length m.boundaries + pieces_ids xs) room.boundaries)
      && (all (λ c. leb (length c) 256) (lines after)
      && ((leb (point_count after) 65536 && leb (point_count after) room.points)
      && (all (λ r. leb (length r.lanes) 64) after.roads && (all (λ j. leb (length j.lanes) 64) after.junctions && all (λ r. all (λ ids. leb (length ids) 64) (id_lists r)) after.rules))))))
  unfolding fits_room within_limits cut
  fits-split ok cuts linked planned =
      let f = limits m ok in
      let next = start + pieces_ids xs in
      let l = length m.lanes + length ps in
      let b = length m.boundaries + pieces_ids xs in
      rw (lanes-many m ps xs (halves next ps) next, boundaries-many m ps xs (halves next ps) next)
      (six-shut (leb l 1024) (leb b 4096) (all (λ c. leb (length c) 256) (lines after)) (leb (point_count after) 65536) (all (λ r. leb (length r.lanes) 64) after.roads) (all (λ j. leb (length j.lanes) 64) after.junctions)
      (all (λ r. all (λ ids. leb (length ids) 64) (id_lists r)) after.rules) (leb l room.lanes) (leb b room.boundaries) (leb (point_count after) room.points)
      (same m.roads _ 256 f.roads) (same m.junctions _ 256 f.junctions) (same m.rules _ 512 f.rules) f.stop_lines f.crosswalks (links-fit ps xs next cuts planned m linked))
    where
      same : {A : Type 0} (ys : List A) (g : A → A) (k : ℕ) → leb (length ys) k ≡ true → leb (length (map g ys)) k ≡ true
      same ys g k h = ap (λ n. leb n k) (length-map ys g) ∙ h
