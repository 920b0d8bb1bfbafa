use borrow.Author.Rules.{rules}
use Rattle.job_words.proofs.tell.Goals as goal

-- src/lib.rt:65:1
pub returns : goal.returns
returns c = rw (c.id_word.ensures, c.kind_word.ensures, c.job_own_number.ensures, c.job_place.ensures, c.job_number.ensures, c.job_counts-n.ensures, c.job_entity-entity.ensures)
