-- `edit::links::pair_unless` meets its contract. Assumes nothing.
use borrow.Author.Rules.{rules}
use mathlib.Core.Path.{◌≡◌}
use mathlib.Core.Bool.{true}
use Prim.Native.Nat.{◌<◌}
use native.Mathlib.Omega.{arith}
use lib.ListN.{length, take}
use Rattle.lists.specs.Select.{place, ascending}
use Rattle.report.proofs.Laws.{named-front}
use Rattle.relink.proofs.Reported.{nothing-up, pair-first, pair-second}
use Rattle.relink.proofs.links.pair_unless.Goals as goal
use Rattle.relink.proofs.links.pair_unless.Lts as lts
use Rattle.relink.proofs.links.pair_unless.Reads as reads
use Rattle.relink.proofs.links.pair_unless.Tie as tie

abbrev AtAfterNamedN : Type 0
AtAfterNamedN = lts.After-named tie.the-claims reads.Pre reads.Post

-- the first lane named, and the second
first : (c : AtAfterNamedN) → (take c.named-n.result c.named-n.new.ids ≡ place c.args.a (take 0 c.args.ids.now)) × (c.named-n.result ≡ length (place c.args.a (take 0 c.args.ids.now)))
first c =
    let s = c in
    named-front s.args.ids.now 0 s.args.a (omega (arith, s.requires)) c.named-n.new.ids c.named-n.result nothing-up c.named-n.ensures

may : (c : AtAfterNamedN) → (c.named-n.result < length c.named-n.new.ids) × (ascending (take c.named-n.result c.named-n.new.ids) ≡ true)
may c =
    let s = c in
    pair-first s.args.a c.named-n.result c.named-n.new.ids s.args.ids.now (first c).0 (first c).1 (omega (arith, s.requires, c.named-n.auto.ids))

pub named-n-requires : goal.named-n-requires
named-n-requires c = (omega (arith, c.requires), nothing-up)

pub named-requires : goal.named-requires
named-requires c = may c.before.before.before

pub returns : goal.returns
returns c =
    let one = c in
    let a = c.args in
    let m = c.named in
    pair-second a.skip a.a a.b one.named-n.result m.result m.new.ids one.named-n.new.ids a.ids.now c.if-skip.false (first c.before.before.before.before.before.before.before).0
    (named-front one.named-n.new.ids one.named-n.result a.b (may c.before.before.before.before.before.before.before).0 m.new.ids m.result (may c.before.before.before.before.before.before.before).1 m.ensures)
