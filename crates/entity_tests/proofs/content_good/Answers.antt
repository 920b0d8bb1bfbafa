-- `map::sound::content_good` meets its contract. By the kind. Assumes nothing.
use borrow.Author.Tests.{le-leb, lt-leb, eq-eqb, ne_eqb}
use Rattle.entity_tests.proofs.content_good.Goals as goal

pub returns-then-kind-le-TRAFFIC_SIGN : goal.returns-then-kind-le-TRAFFIC_SIGN
returns-then-kind-le-TRAFFIC_SIGN c = rw (c.handle.ensures, le-leb c.args.kind 1 c.if-kind-le-TRAFFIC_SIGN.true)

pub returns-then-kind-eq-OTHER : goal.returns-then-kind-eq-OTHER
returns-then-kind-eq-OTHER c = rw (c.handle-then-kind-eq-OTHER.ensures, lt-leb c.args.kind 1 c.if-kind-le-TRAFFIC_SIGN.false, eq-eqb c.args.kind 5 c.if-kind-eq-OTHER.true)

pub returns : goal.returns
returns c = rw (lt-leb c.args.kind 1 c.if-kind-le-TRAFFIC_SIGN.false, ne_eqb c.args.kind 5 c.if-kind-eq-OTHER.false)
