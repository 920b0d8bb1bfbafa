use borrow.Author.Rules.{rules}
use borrow.Author.Tests.{eq-eqb, ne_eqb}
use Rattle.words.specs.Words.{command_by}
use Rattle.words.proofs.command.Goals as goal

-- src/lib.rt:97:9
pub returns-then-number-eq-SPLIT : goal.returns-then-number-eq-SPLIT
unfolding command_by
returns-then-number-eq-SPLIT c = rw (eq-eqb _ _ c.if-number-eq-SPLIT.true, c.split_at_of.ensures)

-- src/lib.rt:104:9
pub returns-then-number-eq-MERGE : goal.returns-then-number-eq-MERGE
unfolding command_by
returns-then-number-eq-MERGE c = rw (ne_eqb _ _ c.if-number-eq-SPLIT.false, eq-eqb _ _ c.if-number-eq-MERGE.true)

-- src/lib.rt:110:9
pub returns-then-number-eq-CONNECT : goal.returns-then-number-eq-CONNECT
unfolding command_by
returns-then-number-eq-CONNECT c = rw (ne_eqb _ _ c.if-number-eq-SPLIT.false, ne_eqb _ _ c.if-number-eq-MERGE.false, eq-eqb _ _ c.if-number-eq-CONNECT.true)

-- src/lib.rt:113:9
pub returns-then-number-eq-DISCONNECT : goal.returns-then-number-eq-DISCONNECT
unfolding command_by
returns-then-number-eq-DISCONNECT c = rw (ne_eqb _ _ c.if-number-eq-SPLIT.false, ne_eqb _ _ c.if-number-eq-MERGE.false, ne_eqb _ _ c.if-number-eq-CONNECT.false, eq-eqb _ _ c.if-number-eq-DISCONNECT.true)

-- src/lib.rt:116:9
pub returns-then-number-eq-SET_NEIGHBOR : goal.returns-then-number-eq-SET_NEIGHBOR
unfolding command_by
returns-then-number-eq-SET_NEIGHBOR c = rw (ne_eqb _ _ c.if-number-eq-SPLIT.false, ne_eqb _ _ c.if-number-eq-MERGE.false, ne_eqb _ _ c.if-number-eq-CONNECT.false, ne_eqb _ _ c.if-number-eq-DISCONNECT.false, eq-eqb _ _ c.if-number-eq-SET_NEIGHBOR.true, c.side_of.ensures, c.neighbor_of.ensures)

-- src/lib.rt:93:1
pub returns : goal.returns
unfolding command_by
returns c = rw (ne_eqb _ _ c.if-number-eq-SPLIT.false, ne_eqb _ _ c.if-number-eq-MERGE.false, ne_eqb _ _ c.if-number-eq-CONNECT.false, ne_eqb _ _ c.if-number-eq-DISCONNECT.false, ne_eqb _ _ c.if-number-eq-SET_NEIGHBOR.false)
