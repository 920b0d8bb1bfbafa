use native.Mathlib.Omega.{arith}
use mathlib.Core.Path.{◌≡◌, sym, ap, ◌∙◌}
use mathlib.Core.List.{List}
use Prim.Native.Nat.{ℕ, ◌+◌, ◌≤◌}
use lib.ListN.{length, take}
use lib.Seq.{length-take-le}
use Rattle.lists.specs.Rows.{over}
use Rattle.job_made.specs.Made.{kept_words}
use Rattle.job_made.proofs.Keeping.{words-few, words-kept}
use Rattle.job_made.proofs.keep_front.Goals as goal

-- the front of the lent warnings, of m words
module _ (w : List ℕ) (m : ℕ) (e : m ≡ kept_words (length w)) where
  front_fits : m ≤ length w
  front_fits = let f = (words-few (length w)).0 in omega (arith, e, f)

  front_long : length (take m w) ≡ m
  front_long = length-take-le m w front_fits

  front-room : (z : List ℕ) → length z ≡ 25600 → 0 + length (take m w) ≤ length z
  front-room z l = let f = (words-few (length w)).1 in let t = front_long in omega (arith, e, f, t, l)

  front_kept : take m w ≡ take 5120 w
  front_kept = ap (λ n. take n w) e ∙ words-kept w

pub slice_bounds-copy-end : goal.slice_bounds-copy-end
slice_bounds-copy-end c = sym (front_long c.args.lists.now.warnings.now c.kept_words-m.result c.kept_words-m.ensures)

pub copy-requires : goal.copy-requires
copy-requires c = front-room c.args.lists.now.warnings.now c.kept_words-m.result c.kept_words-m.ensures c.args.kept.now c.requires

pub returns : goal.returns
returns c = c.copy.ensures ∙ ap (over c.args.kept.now 0) (front_kept c.args.lists.now.warnings.now c.kept_words-m.result c.kept_words-m.ensures)
