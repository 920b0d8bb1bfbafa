use borrow.Author.Rules.{rules}
use native.Mathlib.Omega.{arith}
use Rattle.merge_lists.proofs.Listed.{counts-small, counts_all}
use Rattle.merge_lists.proofs.count_modified.Goals as goal

-- src/lib.rt:88:5
pub overflow_add-result : goal.overflow_add-result
overflow_add-result c = let s = c in let a = s.args in let k = c.count-a in let m = c.count-b in let n = c.count-c in let o = c.count-d in omega (arith, counts-small a.second a.joined.now a.map.lanes.now a.map.roads.now a.map.junctions.now a.map.rules.now s.requires.0 s.requires.1 k.result m.result n.result o.result k.ensures m.ensures n.ensures o.ensures)

-- src/lib.rt:88:5
pub overflow_add-result-2 : goal.overflow_add-result-2
overflow_add-result-2 c = let s = c in let a = s.args in let k = c.count-a in let m = c.count-b in let n = c.count-c in let o = c.count-d in omega (arith, counts-small a.second a.joined.now a.map.lanes.now a.map.roads.now a.map.junctions.now a.map.rules.now s.requires.0 s.requires.1 k.result m.result n.result o.result k.ensures m.ensures n.ensures o.ensures)

-- src/lib.rt:88:5
pub overflow_add-result-3 : goal.overflow_add-result-3
overflow_add-result-3 c = let s = c in let a = s.args in let k = c.count-a in let m = c.count-b in let n = c.count-c in let o = c.count-d in omega (arith, counts-small a.second a.joined.now a.map.lanes.now a.map.roads.now a.map.junctions.now a.map.rules.now s.requires.0 s.requires.1 k.result m.result n.result o.result k.ensures m.ensures n.ensures o.ensures)

-- src/lib.rt:88:5
pub overflow_add-result-4 : goal.overflow_add-result-4
overflow_add-result-4 c = let s = c in let a = s.args in let k = c.count-a in let m = c.count-b in let n = c.count-c in let o = c.count-d in omega (arith, counts-small a.second a.joined.now a.map.lanes.now a.map.roads.now a.map.junctions.now a.map.rules.now s.requires.0 s.requires.1 k.result m.result n.result o.result k.ensures m.ensures n.ensures o.ensures)

-- src/lib.rt:73:1
pub returns : goal.returns
returns c = let s = c in let a = s.args in let k = c.count-a in let m = c.count-b in let n = c.count-c in let o = c.count-d in counts_all a.second a.joined.now a.map.lanes.now a.map.roads.now a.map.junctions.now a.map.rules.now s.requires.0 s.requires.1 k.result m.result n.result o.result k.ensures m.ensures n.ensures o.ensures
