use native.Mathlib.Omega.{arith}
use Rattle.area.specs.Area.{put_back}
use Rattle.area.proofs.Lengths.{fits-of}
use Rattle.area.proofs.Lengths.{over-front-of}
use Rattle.area.proofs.put_back.Goals as goal

-- src/lib.rt:114:5
pub fill-requires : goal.fill-requires
fill-requires c = (fits-of _ _ c.requires).lanes_fit

-- src/lib.rt:115:5
pub fill-requires-2 : goal.fill-requires-2
fill-requires-2 c = (fits-of _ _ c.requires).boundaries_fit

-- src/lib.rt:116:5
pub fill-requires-3 : goal.fill-requires-3
fill-requires-3 c = (fits-of _ _ c.requires).roads-fit

-- src/lib.rt:117:5
pub fill-requires-4 : goal.fill-requires-4
fill-requires-4 c = (fits-of _ _ c.requires).junctions-fit

-- src/lib.rt:118:5
pub fill-requires-5 : goal.fill-requires-5
fill-requires-5 c = (fits-of _ _ c.requires).rules-fit

-- src/lib.rt:119:5
pub fill-requires-6 : goal.fill-requires-6
fill-requires-6 c = (fits-of _ _ c.requires).stop-lines-fit

-- src/lib.rt:120:5
pub fill-requires-7 : goal.fill-requires-7
fill-requires-7 c = (fits-of _ _ c.requires).crosswalks-fit

-- src/lib.rt:122:5
pub copy-requires : goal.copy-requires
copy-requires c = let f = (fits-of _ _ c.requires).coordinates-fit in (omega (arith, f), omega arith)

-- src/lib.rt:93:1
pub returns-clause-made : goal.returns-clause-made
unfolding put_back
returns-clause-made c = rw (c.copy.ensures, c.fill-7.ensures, c.fill-6.ensures, c.fill-5.ensures, c.fill-4.ensures, c.fill-3.ensures, c.fill-2.ensures, c.fill.ensures, over-front-of c.args.map.now.coordinates.now c.args.old.coordinates.now (fits-of _ _ c.requires).coordinates-fit)
