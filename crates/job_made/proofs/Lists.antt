-- Room in the lists by numbers, and entities at the front of words. Assumes nothing.
use mathlib.Core.Path.{◌≡◌, refl, sym, ap, ◌∙◌}
use mathlib.Core.Bool.{Bool, true, ◌&&◌}
use mathlib.Core.List.{List, [], ◌∷◌}
use Prim.Native.Nat.{ℕ, zero, suc, ◌*◌, ◌/◌, ◌≤◌}
use native.Mathlib.Omega.{arith}
use lib.Dec.{leb}
use lib.ListN.{length, take}
use borrow.Author.Tests.{leb-true}
use Rattle.lists.specs.Rows.{over}
use Rattle.lists.specs.Select.{each}
use Rattle.lists.proofs.Booleans.{and-fst, and-snd}
use Rattle.rules.specs.Names.{EntityRef}
use Rattle.report.specs.Report.{entity_words, listed}
use Rattle.report.specs.declared.Counts.{Counts}
use Rattle.room.specs.Room.{lists_fit}
use Rattle.job_step.proofs.Area.{front-back}

-- ---- room

module _ (n : Counts) (created modified deleted warnings : List ℕ) (h : lists_fit n created modified deleted warnings ≡ true) where
  abbrev a : Bool
  a = leb n.created (length created / 2)

  abbrev b : Bool
  b = leb n.modified (length modified / 2)

  abbrev c : Bool
  c = leb n.deleted (length deleted / 2)

  abbrev d : Bool
  d = leb n.warnings (length warnings / 10)

  pub lists-long : (n.created * 2 ≤ length created) × ((n.modified * 2 ≤ length modified) × (n.deleted * 2 ≤ length deleted))
  lists-long =
      let first = leb-true n.created (length created / 2) (and-fst a b (and-fst (a && b) c (and-fst (a && b && c) d h))) in
      let second = leb-true n.modified (length modified / 2) (and-snd a b (and-fst (a && b) c (and-fst (a && b && c) d h))) in
      let third = leb-true n.deleted (length deleted / 2) (and-snd (a && b) c (and-fst (a && b && c) d h)) in
      (omega (arith, first), (omega (arith, second), omega (arith, third)))

  pub warnings-long : n.warnings * 10 ≤ length warnings
  warnings-long = let l = leb-true n.warnings (length warnings / 10) (and-snd (a && b && c) d h) in omega (arith, l)

-- ---- a list of entities at the front of words

abbrev pub Fronts : List EntityRef → List ℕ → Type 0
Fronts es w = take (length es * 2) w ≡ each entity_words es

words-length : (es : List EntityRef) → length (each entity_words es) ≡ length es * 2
unfolding each
words-length [] = refl
words-length (e ∷ es) = let q = words-length es in omega (arith, q)

pub fronted : (w : List ℕ) (es : List EntityRef) → Fronts es (listed w es)
unfolding listed
fronted w es = front-back w (each entity_words es) (length es * 2) (sym (words-length es))

taken-length : {A : Type 0} (k : ℕ) (w : List A) → length (take k w) ≤ length w
taken-length zero w = omega arith
taken-length (suc k) [] = omega arith
taken-length (suc k) (x ∷ w) = let q = taken-length k w in omega (arith, q)

module _ (es : List EntityRef) (m : ℕ) (from : List ℕ) (e : m ≡ length es) (f : Fronts es from) where
  pub fronts-long : m * 2 ≤ length from
  fronts-long =
      let l = taken-length (length es * 2) from in
      let q = ap length f ∙ words-length es in
      omega (arith, l, q, e)

  -- copied to another list it is written there
  pub fronts-copied : (to : List ℕ) → over to 0 (take (m * 2) from) ≡ listed to es
  unfolding listed
  fronts-copied to = ap (λ x. over to 0 (take (x * 2) from)) e ∙ ap (over to 0) f
