use borrow.Author.Rules.{rules}
use Rattle.words.proofs.Numbers.{all_told}
use Rattle.words.proofs.tell.Goals as goal

-- src/lib.rt:172:1
pub returns : goal.returns
returns c = all_told c.args.counter c.args.answer c.answer_entity-entity.result c.answer_counts-n.result c.answer_entity-entity.ensures c.answer_counts-n.ensures c.answer_number.ensures c.kind_word.ensures c.id_word.ensures c.second_word.ensures c.counter_behind.ensures
