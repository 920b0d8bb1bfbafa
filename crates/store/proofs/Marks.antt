-- What a formed lane row says of its marks and counts. Assumes nothing.
use mathlib.Core.Path.{◌≡◌}
use Prim.Native.Nat.{ℕ, ◌≤◌}
use mathlib.Core.Bool.{Bool, true, ◌&&◌}
use mathlib.Core.List.{List}
use lib.Dec.{leb}
use borrow.Author.Tests.{leb-true, le-leb}
use Rattle.lists.proofs.Booleans.{and-fst, and-snd}
use Rattle.tables.specs.View.{word}
use Rattle.tables.specs.Formed.{lane_formed}

pub record LaneMarks (w : List ℕ) : Type 0 where
  pub left-way : word 3 w ≤ 1
  pub right-way : word 5 w ≤ 1
  pub center : word 6 w ≤ 1
  pub speed : word 9 w ≤ 1
  pub one_way : word 11 w ≤ 1
  pub left : word 14 w ≤ 2
  pub right : word 16 w ≤ 2
  pub before : word 18 w ≤ 16
  pub after : word 35 w ≤ 16

nine : (a b c d e f g h i : Bool) → (a && b && c && d && e && f && g && h && i) ≡ true
    → (a ≡ true) × ((b ≡ true) × ((c ≡ true) × ((d ≡ true) × ((e ≡ true) × ((f ≡ true) × ((g ≡ true) × ((h ≡ true) × (i ≡ true))))))))
nine a b c d e f g h i t =
    let t8 = and-fst (a && b && c && d && e && f && g && h) i t in
    let t7 = and-fst (a && b && c && d && e && f && g) h t8 in
    let t6 = and-fst (a && b && c && d && e && f) g t7 in
    let t5 = and-fst (a && b && c && d && e) f t6 in
    let t4 = and-fst (a && b && c && d) e t5 in
    let t3 = and-fst (a && b && c) d t4 in
    let t2 = and-fst (a && b) c t3 in
    (and-fst a b t2, (and-snd a b t2, (and-snd (a && b) c t3, (and-snd (a && b && c) d t4, (and-snd (a && b && c && d) e t5, (and-snd (a && b && c && d && e) f t6, (and-snd (a && b && c && d && e && f) g t7, (and-snd (a && b && c && d && e && f && g) h t8, and-snd (a && b && c && d && e && f && g && h) i t))))))))

pub lane-marks : (w : List ℕ) → lane_formed w ≡ true → LaneMarks w
unfolding lane_formed
lane-marks w f =
    let p = nine (leb (word 3 w) 1) (leb (word 5 w) 1) (leb (word 6 w) 1) (leb (word 9 w) 1) (leb (word 11 w) 1) (leb (word 14 w) 2) (leb (word 16 w) 2) (leb (word 18 w) 16) (leb (word 35 w) 16) f in
    record {
      left-way = leb-true (word 3 w) 1 p.0;
      right-way = leb-true (word 5 w) 1 p.1.0;
      center = leb-true (word 6 w) 1 p.1.1.0;
      speed = leb-true (word 9 w) 1 p.1.1.1.0;
      one_way = leb-true (word 11 w) 1 p.1.1.1.1.0;
      left = leb-true (word 14 w) 2 p.1.1.1.1.1.0;
      right = leb-true (word 16 w) 2 p.1.1.1.1.1.1.0;
      before = leb-true (word 18 w) 16 p.1.1.1.1.1.1.1.0;
      after = leb-true (word 35 w) 16 p.1.1.1.1.1.1.1.1;
    }

pub marks-formed : (w : List ℕ) → LaneMarks w → lane_formed w ≡ true
unfolding lane_formed
marks-formed w m =
    rw (le-leb (word 3 w) 1 m.left-way, le-leb (word 5 w) 1 m.right-way, le-leb (word 6 w) 1 m.center, le-leb (word 9 w) 1 m.speed, le-leb (word 11 w) 1 m.one_way, le-leb (word 14 w) 2 m.left, le-leb (word 16 w) 2 m.right, le-leb (word 18 w) 16 m.before, le-leb (word 35 w) 16 m.after)
