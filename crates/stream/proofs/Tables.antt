-- One turn of reading a table, of any elements. Assumes nothing.
use Rattle.std.specs.Prelude.{min}
use mathlib.Core.Path.{◌≡◌, refl, sym, ap, ◌∙◌}
use Prim.Native.Nat.{ℕ, zero, suc, ◌+◌, ◌-◌, ◌≤◌, ◌<◌}
use native.Mathlib.Nat.{sub-zero, zero-add}
use native.Mathlib.Numerals.{add-one}
use native.Mathlib.Omega.{arith}
use mathlib.Core.List.{List, ◌++◌, append-nil}
use lib.ListN.{length, take, drop, set, length-append, length-drop}
use lib.Seq.{take-suc-set, take_all, append_snoc, length-take-le}
use Rattle.lists.specs.Rows.{over}
use Rattle.stream.specs.declared.Taken.{Taken}
use Rattle.stream.specs.declared.Part.{Part}
use Rattle.stream.specs.Numbers.{number_at, behind, read_by, behind_all, part}

module _ {A : Type 0} (f : ℕ → A) (s : List ℕ) where
  pub length-read : (k at : ℕ) → length (read_by f k s at) ≡ k
  unfolding read_by
  length-read zero at = refl
  length-read (suc k) at = ap suc (length-read k (behind s at))

  pub begins : (t : List A) (n at : ℕ) → take 0 t ++ read_by f (n - 0) s at ≡ read_by f n s at
  begins t n at = rw (sub-zero n)

  pub begins-behind : (n at : ℕ) → behind_all (n - 0) s at ≡ behind_all n s at
  begins-behind n at = rw (sub-zero n)

  -- Of n places those before i are read, and the stream is at `at`.
  module _ (n i at : ℕ) where
    -- the number there, into place i
    module _ (r : Taken) (h : i < n) (e : r ≡ record { value = number_at s at; next = behind s at }) where
      left : n - i ≡ suc (n - (i + 1))
      left = omega arith

      one-more : (t : List A) (v : A) → i < length t → v ≡ f r.value → take (i + 1) (set t i v) ++ read_by f (n - (i + 1)) s r.next ≡ take i t ++ read_by f (n - i) s at
      unfolding read_by
      one-more t v l p = rw (add-one i, take-suc-set t i v l, append_snoc, left, p, e, add-one i)

      one-behind : behind_all (n - (i + 1)) s r.next ≡ behind_all (n - i) s at
      unfolding behind_all
      one-behind = rw (left, e)

      pub turn : (t whole : List A) (v : A) → length t ≡ n → v ≡ f r.value → take i t ++ read_by f (n - i) s at ≡ whole
          → take (i + 1) (set t i v) ++ read_by f (n - (i + 1)) s r.next ≡ whole
      turn t whole v k p q = let l : i < length t = omega arith in one-more t v l p ∙ q

      pub turn-behind : (end : ℕ) → behind_all (n - i) s at ≡ end → behind_all (n - (i + 1)) s r.next ≡ end
      turn-behind end q = one-behind ∙ q

    module _ (h : n ≤ i) where
      none_left : n - i ≡ 0
      none_left = omega arith

      pub ends : (t whole : List A) → length t ≡ n → take i t ++ read_by f (n - i) s at ≡ whole → t ≡ whole
      unfolding read_by
      ends t whole k q =
          let l : length t ≤ i = omega arith in
          let e : t ≡ take i t ++ read_by f (n - i) s at = rw (none_left, take_all i t l) (sym (append-nil t)) in
          e ∙ q

      pub ends-behind : (end : ℕ) → behind_all (n - i) s at ≡ end → at ≡ end
      unfolding behind_all
      ends-behind end q = let e : at ≡ behind_all (n - i) s at = rw none_left in e ∙ q

-- ---- a table into the front of an array

module _ {A : Type 0} (f : ℕ → A) (s : List ℕ) (from : ℕ) (t v : List A) (n : Taken) (size next : ℕ) (p : n ≡ record { value = number_at s from; next = behind s from })
    (q : size ≡ min n.value (length t)) (h : size ≤ length t) (r : v ≡ read_by f (length (take size t)) s n.next)
    (b : next ≡ behind_all (length (take size t)) s n.next) where
  all-of-it : length (take size t) ≡ size
  all-of-it = length-take-le size t h

  behind-length : n.next ≡ behind s from
  behind-length = ap (λ (x : Taken). x.next) p

  words-read : v ≡ read_by f size s (behind s from)
  words-read = r ∙ rw (all-of-it, behind-length)

  pub part-told : ◌≡◌ {A = Part} (record { size = size; next = next }) (part (length t) s from)
  part-told =
      let e : size ≡ min (number_at s from) (length t) = q ∙ ap (λ (x : Taken). min x.value (length t)) p in
      let g : next ≡ behind_all size s (behind s from) = b ∙ rw (all-of-it, behind-length) in
      rw (g, e)

  pub part-over : v ++ drop size t ≡ over t 0 (read_by f size s (behind s from))
  unfolding over
  part-over = rw (words-read, length-read f s size (behind s from), zero-add size)

  pub part-counts : (size ≤ length (v ++ drop size t)) × (size ≡ length (take size (v ++ drop size t)))
  part-counts =
      let k : length v ≡ size = ap length words-read ∙ length-read f s size (behind s from) in
      let l : size ≤ length (v ++ drop size t) = simp (length-append, length-drop) (omega arith) in
      (l, sym (length-take-le size (v ++ drop size t) l))
