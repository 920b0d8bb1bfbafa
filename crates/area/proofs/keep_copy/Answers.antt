use native.Mathlib.Omega.{arith}
use Rattle.area.specs.Area.{copied}
use Rattle.area.proofs.Lengths.{fits-of}
use lib.Seq.{take-length}
use Rattle.area.proofs.keep_copy.Goals as goal

-- src/lib.rt:73:5
pub copy-requires : goal.copy-requires
copy-requires c = let f = (fits-of _ _ c.requires).lanes_fit in omega (arith, f)

-- src/lib.rt:74:5
pub copy-requires-2 : goal.copy-requires-2
copy-requires-2 c = let f = (fits-of _ _ c.requires).boundaries_fit in omega (arith, f)

-- src/lib.rt:75:5
pub copy-requires-3 : goal.copy-requires-3
copy-requires-3 c = let f = (fits-of _ _ c.requires).roads-fit in omega (arith, f)

-- src/lib.rt:76:5
pub copy-requires-4 : goal.copy-requires-4
copy-requires-4 c = let f = (fits-of _ _ c.requires).junctions-fit in omega (arith, f)

-- src/lib.rt:77:5
pub copy-requires-5 : goal.copy-requires-5
copy-requires-5 c = let f = (fits-of _ _ c.requires).rules-fit in omega (arith, f)

-- src/lib.rt:78:5
pub copy-requires-6 : goal.copy-requires-6
copy-requires-6 c = let f = (fits-of _ _ c.requires).stop-lines-fit in omega (arith, f)

-- src/lib.rt:79:5
pub copy-requires-7 : goal.copy-requires-7
copy-requires-7 c = let f = (fits-of _ _ c.requires).crosswalks-fit in omega (arith, f)

-- src/lib.rt:80:5
pub copy-requires-8 : goal.copy-requires-8
copy-requires-8 c = let f = (fits-of _ _ c.requires).coordinates-fit in (omega arith, omega (arith, f))

-- src/lib.rt:52:1
pub returns-clause-made : goal.returns-clause-made
unfolding copied
returns-clause-made c = rw (c.copy-8.ensures, c.copy-7.ensures, c.copy-6.ensures, c.copy-5.ensures, c.copy-4.ensures, c.copy-3.ensures, c.copy-2.ensures, c.copy.ensures, take-length)
