-- `split_pieces::ids_for` meets its contract. Assumes nothing.
use borrow.Author.Rules.{rules}
use mathlib.Core.Path.{sym, ◌∙◌, ap}
use Rattle.split_pieces.specs.Pieces.{ids_if}
use Rattle.split_pieces.proofs.ids_for.Goals as goal

pub returns-then-used_beyond : goal.returns-then-used_beyond
returns-then-used_beyond c = ap ids_if (sym c.if-used_beyond.true ∙ c.used_beyond.ensures)

pub returns : goal.returns
returns c = ap ids_if (sym c.if-used_beyond.false ∙ c.used_beyond.ensures)
