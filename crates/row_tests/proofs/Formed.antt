-- What a formed row says of its lists: how long they are. Assumes nothing.
use mathlib.Core.Path.{◌≡◌}
use Prim.Native.Nat.{ℕ, ◌≤◌}
use mathlib.Core.Bool.{Bool, true, false, not, ◌&&◌, ◌||◌}
use mathlib.Core.List.{List}
use lib.Dec.{eqb, leb}
use borrow.Author.Tests.{leb-true, eq-eqb, ne_eqb}
use Rattle.lists.proofs.Booleans.{and-fst, and-snd}
use Rattle.tables.specs.View.{word}
use Rattle.tables.specs.Formed.{lane_formed, rule_formed}

-- each of two tests, by their numbers
first : (a : Bool) (x y : ℕ) → (a && leb x y) ≡ true → a ≡ true
first a x y h = and-fst a (leb x y) h

second : (a : Bool) (x y : ℕ) → (a && leb x y) ≡ true → x ≤ y
second a x y h = leb-true x y (and-snd a (leb x y) h)

module _ (w : List ℕ) (f : lane_formed w ≡ true) where
  abbrev marks : Bool
  marks = leb (word 3 w) 1 && leb (word 5 w) 1 && leb (word 6 w) 1 && leb (word 9 w) 1 && leb (word 11 w) 1 && leb (word 14 w) 2 && leb (word 16 w) 2

  abbrev plain : Bool
  plain = leb (word 3 w) 1 && leb (word 5 w) 1 && leb (word 6 w) 1 && leb (word 9 w) 1 && leb (word 11 w) 1

  slots : marks ≡ true
  unfolding lane_formed
  slots = first marks (word 18 w) 16 (first (marks && leb (word 18 w) 16) (word 35 w) 16 f)

  pub lane-left : word 14 w ≤ 2
  lane-left = second plain (word 14 w) 2 (first (plain && leb (word 14 w) 2) (word 16 w) 2 slots)

  pub lane-right : word 16 w ≤ 2
  lane-right = second (plain && leb (word 14 w) 2) (word 16 w) 2 slots

  pub lane-before : word 18 w ≤ 16
  unfolding lane_formed
  lane-before = second marks (word 18 w) 16 (first (marks && leb (word 18 w) 16) (word 35 w) 16 f)

  pub lane-after : word 35 w ≤ 16
  unfolding lane_formed
  lane-after = second (marks && leb (word 18 w) 16) (word 35 w) 16 f

-- the tests of the lists that a kind has, by their value
or_left : (a b : Bool) → a ≡ false → (a || b) ≡ true → b ≡ true
or_left a b e h = rw e at h

module _ (w : List ℕ) (f : rule_formed w ≡ true) where
  abbrev own : Bool
  own = leb (word 5 w) 64 && leb (word 70 w) 64

  abbrev stops : Bool
  stops = eqb (word 1 w) 5 || leb (word 135 w) 64

  abbrev ways : Bool
  ways = leb (word 200 w) 64 && leb (word 265 w) 64

  two : (own && stops) ≡ true
  unfolding rule_formed
  two = and-fst (own && stops) (not (eqb (word 1 w) 3) || ways) f

  pub rule-lanes : word 5 w ≤ 64
  rule-lanes = leb-true (word 5 w) 64 (and-fst (leb (word 5 w) 64) (leb (word 70 w) 64) (and-fst own stops two))

  pub rule-crosswalks : word 70 w ≤ 64
  rule-crosswalks = second (leb (word 5 w) 64) (word 70 w) 64 (and-fst own stops two)

  pub rule-stops : (word 1 w ≡ 5 → ⊥) → word 135 w ≤ 64
  rule-stops n = leb-true (word 135 w) 64 (or_left (eqb (word 1 w) 5) (leb (word 135 w) 64) (ne_eqb (word 1 w) 5 n) (and-snd own stops two))

  both_ways : word 1 w ≡ 3 → ways ≡ true
  unfolding rule_formed
  both_ways e =
      let k : not (eqb (word 1 w) 3) ≡ false = rw (eq-eqb (word 1 w) 3 e) in
      or_left (not (eqb (word 1 w) 3)) ways k (and-snd (own && stops) (not (eqb (word 1 w) 3) || ways) f)

  pub rule-priority : word 1 w ≡ 3 → word 200 w ≤ 64
  rule-priority e = leb-true (word 200 w) 64 (first (leb (word 200 w) 64) (word 265 w) 64 (both_ways e))

  pub rule-yielding : word 1 w ≡ 3 → word 265 w ≤ 64
  rule-yielding e = second (leb (word 200 w) 64) (word 265 w) 64 (both_ways e)
