-- `settling::settle` meets its contract: down, up, then the rows. Assumes nothing.
use native.Mathlib.Omega.{arith}
use Rattle.lent.specs.Lent.{lines_tables}
use Rattle.in_place.specs.Settle.{down_all, up_all}
use Rattle.tables.specs.Formed.{spans}
use Rattle.in_place.proofs.Whole.{placed-down, movable_down, up_asks, starts_ask, settled-tables}
use Rattle.settling.proofs.settle.Goals as goal

pub all_down-end-requires : goal.all_down-end-requires
all_down-end-requires c = let a = c.args in let t = lines_tables a.lines.now in (placed-down a.reach a.drawn.now t c.requires, movable_down a.reach a.drawn.now t c.requires)

pub all_up-requires : goal.all_up-requires
all_up-requires c =
    let a = c.args in
    let t = lines_tables a.lines.now in
    let g = c.all_down-end in
    up_asks a.reach a.drawn.now t c.requires (lines_tables g.new.lines) (down_all a.reach 0 (spans t) t.coordinates) g.ensures.made g.result g.ensures.same.coordinates_length g.ensures.ends

pub all_starts-requires : goal.all_starts-requires
all_starts-requires c =
    let a = c.args in
    let t = lines_tables a.lines.now in
    let d = c.all_down-end in
    let u = c.all_up in
    let t₁ = lines_tables d.new.lines in
    let e = starts_ask a.reach a.drawn.now t c.requires t₁ (down_all a.reach 0 (spans t) t.coordinates) d.ensures.made (lines_tables u.new.lines) (up_all a.drawn.now a.reach 0 (spans t₁) t₁.coordinates) u.ensures.made in
    (e.0, omega (arith, e.1, c.well_formed))

pub returns-clause-made : goal.returns-clause-made
returns-clause-made c =
    let a = c.args in
    let d = c.all_down-end in
    let u = c.all_up in
    settled-tables a.reach a.drawn.now (lines_tables a.lines.now) c.requires (lines_tables d.new.lines) (lines_tables u.new.lines) (lines_tables c.all_starts.new.lines) d.ensures.made u.ensures.made c.all_starts.ensures.made
