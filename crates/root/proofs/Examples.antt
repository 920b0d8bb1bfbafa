-- Roots by computation: what `root` gives at a few doubles, written by their bit patterns. Assumes nothing.
use Rattle.std.proofs.Common.{◌≡◌, refl}
use lib.Ieee.{nan, binary64, of_bits}
use Rattle.root.specs.Root.{root}

root_4 : root (of_bits binary64 0x4010_0000_0000_0000) ≡ of_bits binary64 0x4000_0000_0000_0000
unfolding root of_bits
root_4 = refl

root_2 : root (of_bits binary64 0x4000_0000_0000_0000) ≡ of_bits binary64 0x3FF6_A09E_667F_3BCD
unfolding root of_bits
root_2 = refl

-- of the smallest positive double, 2 ^ -1074, it is 2 ^ -537
root-smallest : root (of_bits binary64 1) ≡ of_bits binary64 0x1E60_0000_0000_0000
unfolding root of_bits
root-smallest = refl

root-largest : root (of_bits binary64 0x7FEF_FFFF_FFFF_FFFF) ≡ of_bits binary64 0x5FEF_FFFF_FFFF_FFFF
unfolding root of_bits
root-largest = refl

root-below-zero : root (of_bits binary64 0xBFF0_0000_0000_0000) ≡ nan
unfolding root of_bits
root-below-zero = refl
