use mathlib.Core.Path.{refl}
use Prim.Native.Nat.{ℕ}
use lib.ListN.{length-replicate}
use Rattle.job_made.proofs.make.Goals as goal

pub keep_front-requires : goal.keep_front-requires
keep_front-requires c = length-replicate {A = ℕ} 25600 0

pub make_with-requires : goal.make_with-requires
make_with-requires c = (c.requires.0, (c.requires.1.0, (c.requires.1.1, (refl, (c.keep_front.ensures, (length-replicate {A = ℕ} 13568 0, (length-replicate {A = ℕ} 13568 0, length-replicate {A = ℕ} 13568 0)))))))
