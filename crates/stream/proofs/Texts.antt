-- Digits and rows of numbers, written from a place on. Assumes nothing.
use mathlib.Core.Path.{◌≡◌, refl, sym, ap, ◌∙◌, subst}
use Prim.Native.Nat.{ℕ, zero, suc, ◌+◌, ◌-◌, ◌/◌, ◌%◌, ◌≤◌, ◌<◌}
use native.Mathlib.Nat.{add-zero, zero-add}
use native.Mathlib.Numerals.{add-one}
use native.Mathlib.Omega.{arith}
use mathlib.Core.Bool.{Bool, true, false, cond}
use mathlib.Core.List.{List, [], ◌∷◌, ◌++◌}
use lib.Dec.{ltb}
use lib.ListN.{length, get_or, set, drop, drop_of_length-le, length-append}
use lib.Seq.{drop-cons}
use borrow.Author.Tests.{lt-ltb, le-ltb}
use Rattle.lists.specs.Rows.{over}
use Rattle.lists.specs.Select.{each}
use Rattle.lists.proofs.Rows.{over-nil, over-over, store-behind}
use Rattle.stream.specs.Text.{decimal_in, spaced, row}

-- no more digits than asked for
pub few : (k n : ℕ) → length (decimal_in k n) ≤ k
unfolding decimal_in
few zero n = omega arith
few (suc k) n = by (ltb n 10) (few k (n / 10))
  where
    by : (b : Bool) → length (decimal_in k (n / 10)) ≤ k → length (cond b ((48 + n) ∷ []) (decimal_in k (n / 10) ++ ((48 + n % 10) ∷ []))) ≤ suc k
    by true h = omega arith
    by false h = simp length-append (omega arith)

-- `v` from place `at` on over w, and the place behind
abbrev pub Written : List ℕ → ℕ → List ℕ → List ℕ → ℕ → Type 0
Written w at l v next = (v ≡ over w at l) × (next ≡ at + length l)

-- a store behind what is written
pub one_more : (w : List ℕ) (at : ℕ) (l v : List ℕ) (next x : ℕ) → at + length l < length w → Written w at l v next → Written w at (l ++ (x ∷ [])) (set v next x) (next + 1)
one_more w at l v next x h p =
    let q : at + length l ≡ next = sym p.1 in
    let m : next < length w = omega arith in
    (ap (λ (u : List ℕ). set u next x) p.0 ∙ store-behind w at next l x q m, simp length-append (omega (arith, p.1)))

module _ (w : List ℕ) (at : ℕ) where
  pub nothing : Written w at [] w at
  nothing = (sym (over-nil w at), sym (add-zero at))

  pub no_digit : (k n : ℕ) → k ≡ 0 → Written w at (decimal_in k n) w at
  unfolding decimal_in
  no_digit k n e = rw e nothing

  pub one-digit : (k n x : ℕ) → (k ≡ 0 → ⊥) → n < 10 → x ≡ 48 + n → at + k ≤ length w → Written w at (decimal_in k n) (set w at x) (at + 1)
  unfolding decimal_in
  one-digit zero n x z h e l = absurd (z refl)
  one-digit (suc k) n x z h e l = rw (lt-ltb n 10 h, ← e) (one_more w at [] w at x (omega arith) nothing)

  pub more-digits : (k n x : ℕ) (v : List ℕ) (last : ℕ) → (k ≡ 0 → ⊥) → 10 ≤ n → x ≡ 48 + n % 10 → at + k ≤ length w → Written w at (decimal_in (k - 1) (n / 10)) v last
      → Written w at (decimal_in k n) (set v last x) (last + 1)
  unfolding decimal_in
  more-digits zero n x v last z h e l p = absurd (z refl)
  more-digits (suc k) n x v last z h e l p =
      let j : suc k - 1 ≡ k = omega arith in
      let q : Written w at (decimal_in k (n / 10)) v last = subst (λ (i : ℕ). Written w at (decimal_in i (n / 10)) v last) j p in
      rw (le-ltb n 10 h, ← e) (one_more w at (decimal_in k (n / 10)) v last x (omega (arith, few k (n / 10))) q)

  -- a blank, then the digits behind it
  pub blank : (n : ℕ) (v : List ℕ) (next : ℕ) → at + 21 ≤ length w → Written (set w at 32) (at + 1) (decimal_in 20 n) v next → Written w at (spaced n) v next
  blank n v next h p =
      let b : set w at 32 ≡ over w at (32 ∷ []) = (one_more w at [] w at 32 (omega arith) nothing).0 in
      (p.0 ∙ (ap (λ (u : List ℕ). over u (at + 1) (decimal_in 20 n)) b ∙ over-over w at (at + 1) (32 ∷ []) (decimal_in 20 n) refl (omega arith)), omega (arith, p.1))

-- ---- rows

-- from place `at` of v on, the numbers from i on are still to be written
abbrev pub Left : List ℕ → List ℕ → ℕ → List ℕ → ℕ → Type 0
Left ns v at w i = (over v at (row (drop i ns)) ≡ over w 0 (row ns)) × (at + length (row (drop i ns)) ≡ length (row ns))

pub row-begins : (ns w : List ℕ) → Left ns w 0 w 0
row-begins ns w = (refl, zero-add (length (row ns)))

pub short : (n : ℕ) → length (spaced n) ≤ 21
short n = omega (arith, few 20 n)

module _ (ns v w : List ℕ) (at i : ℕ) where
  pub row-turn : (u : List ℕ) (next : ℕ) → i < length ns → at + 21 ≤ length v → Written v at (spaced (get_or ns i 0)) u next → Left ns v at w i → Left ns u next w (i + 1)
  unfolding each
  row-turn u next h r p l =
      let rest = row (drop (i + 1) ns) in
      let x = spaced (get_or ns i 0) in
      let d : row (drop i ns) ≡ x ++ rest = rw (drop-cons ns i 0 h, add-one i) in
      let q : at + length x ≡ next = sym p.1 in
      let m : next ≤ length v = omega (arith, short (get_or ns i 0), q) in (
        ap (λ (z : List ℕ). over z next rest) p.0 ∙ (over-over v at next x rest q m ∙ (ap (over v at) (sym d) ∙ l.0)),
        omega (arith, q, l.1, length-append x rest, ap length d),
      )

  pub row_ends : length ns ≤ i → Left ns v at w i → (v ≡ over w 0 (row ns)) × (at ≡ length (row ns))
  unfolding each
  row_ends h l =
      let d : row (drop i ns) ≡ [] = rw (drop_of_length-le ns h) in
      (sym (over-nil v at) ∙ (ap (over v at) (sym d) ∙ l.0), sym (add-zero at) ∙ (ap (λ (z : List ℕ). at + length z) (sym d) ∙ l.1))
