-- `replaces::replace` meets its contract: each rule is changed as the definition says. Assumes nothing.
use Rattle.std.proofs.Common.{◌≡◌, ◌∙◌, ap, sym, refl, length, rules}
use Rattle.tables.specs.Formed.{rule_formed}
use Rattle.row_tests.proofs.Tables.{row_of}
use Rattle.mentions.specs.declared.Rows.TheVariants.{Rules}
use Rattle.mentions.specs.Naming.{rule_replaces}
use Rattle.mentions.proofs.Turns.{formed-room, lent-formed, row-there}
use Rattle.replaces.proofs.replace.Goals as goal

pub each_row-requires-clause-room : goal.each_row-requires-clause-room
each_row-requires-clause-room c = formed-room Rules c.args.rules.now c.requires 330 refl

pub each_row-requires-clause-takes_rows : goal.each_row-requires-clause-takes_rows
each_row-requires-clause-takes_rows c = λ i k w e.
    let t = c.args.rules.now in
    let r : w.now ≡ row_of 330 t i = e ∙ sym (row-there 330 t i) in
    let f = lent-formed Rules t c.requires 330 refl i k in
    let n = ap length r ∙ f.0 in
    let g = ap rule_formed r ∙ f.1 in
    search rules

pub returns : goal.returns
returns c =
    let a = c.args in
    c.each_row.ensures (rule_replaces a.to a.from)
    (λ i k w v e p.
    let q : v.now ≡ rule_replaces a.to a.from w.now = search rules in
    q ∙ ap (rule_replaces a.to a.from) e)
