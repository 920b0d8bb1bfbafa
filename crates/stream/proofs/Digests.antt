-- One turn of a digest, of any elements. Assumes nothing.
use mathlib.Core.Path.{◌≡◌}
use Prim.Native.Nat.{ℕ, ◌+◌, ◌≤◌, ◌<◌}
use native.Mathlib.Numerals.{add-one}
use mathlib.Core.List.{List}
use lib.ListN.{length, get_or, drop, drop_of_length-le}
use lib.Seq.{drop-cons}
use Rattle.stream.specs.Digest.{mix, digest_by}

module _ {A : Type 0} (f : A → ℕ) (l : List A) (i state whole : ℕ) (p : digest_by f state (drop i l) ≡ whole) where
  pub taken_in : (x : A) (word next : ℕ) → i < length l → x ≡ get_or l i x → word ≡ f x → next ≡ mix state word → digest_by f next (drop (i + 1) l) ≡ whole
  unfolding digest_by
  taken_in x word next h here w e = rw (add-one, e, w, here) (rw (drop-cons l i x h) at p)

  pub all_in : length l ≤ i → state ≡ whole
  unfolding digest_by
  all_in h = rw (drop_of_length-le l h) at p
