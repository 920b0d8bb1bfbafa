use borrow.Author.Rules.{rules}
use native.Mathlib.Omega.{arith}
use Prim.Native.Nat.{suc}
use native.Mathlib.Numerals.{add-one}
use mathlib.Core.Path.{sym, ap, ◌∙◌}
use Rattle.words.specs.Words.{kind_word}
use Rattle.words.proofs.Numbers.{kind-small}
use Rattle.words.proofs.kind_word.Goals as goal

-- src/lib.rt:147:13
pub overflow_add-result : goal.overflow_add-result
overflow_add-result c = omega (arith, c.from.ensures, kind-small c.in-Some.e.kind)

-- src/lib.rt:140:1
pub returns-in-Some : goal.returns-in-Some
returns-in-Some c = (add-one c.from.result ∙ ap suc c.from.ensures) ∙ sym (ap kind_word c.in-Some.is)
