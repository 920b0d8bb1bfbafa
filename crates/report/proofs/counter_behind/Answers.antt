use borrow.Author.Rules.{rules}
use mathlib.Core.Path.{ap, ◌∙◌}
use native.Mathlib.Omega.{arith}
use Rattle.rules.specs.Ops.{counter_after}
use Rattle.report.proofs.Counter.{counter-stays, counter-first, counter_next}
use Rattle.report.proofs.counter_behind.Goals as goal

-- src/lib.rt:104:13
pub returns-then-ids-eq0 : goal.returns-then-ids-eq0
returns-then-ids-eq0 c = counter-stays c.args.counter c.answer_counts-ids.result.created c.if-ids-eq0.true ∙ ap (λ n. counter_after c.args.counter n.created) c.answer_counts-ids.ensures

-- src/lib.rt:107:20
pub overflow_add-result : goal.overflow_add-result
overflow_add-result c = let e = counter-first c.args.counter c.answer_counts-ids.result.created c.if-counter-eq0.true c.if-ids-eq0.false ∙ ap (λ n. counter_after c.args.counter n.created) c.answer_counts-ids.ensures in omega (arith, e, c.requires)

-- src/lib.rt:107:13
pub returns-then-counter-eq0 : goal.returns-then-counter-eq0
returns-then-counter-eq0 c = counter-first c.args.counter c.answer_counts-ids.result.created c.if-counter-eq0.true c.if-ids-eq0.false ∙ ap (λ n. counter_after c.args.counter n.created) c.answer_counts-ids.ensures

-- src/lib.rt:109:9
pub overflow_add-result-2 : goal.overflow_add-result-2
overflow_add-result-2 c = let e = counter_next c.args.counter c.answer_counts-ids.result.created c.if-counter-eq0.false c.if-ids-eq0.false ∙ ap (λ n. counter_after c.args.counter n.created) c.answer_counts-ids.ensures in omega (arith, e, c.requires)

-- src/lib.rt:98:5
pub returns : goal.returns
returns c = counter_next c.args.counter c.answer_counts-ids.result.created c.if-counter-eq0.false c.if-ids-eq0.false ∙ ap (λ n. counter_after c.args.counter n.created) c.answer_counts-ids.ensures
