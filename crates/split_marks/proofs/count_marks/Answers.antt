-- `split_marks::count_marks` meets its contract: the library's count is the definition's. Assumes nothing.
use Rattle.std.proofs.Common.{◌≡◌, ◌∙◌, sym, Bool, rules, tests, arith}
use Rattle.std.specs.List.{count_by}
use Rattle.std.proofs.lemmas.Iterator.{YieldsList-from_slice}
use Rattle.std.proofs.lemmas.Iterator.Consumers.{YieldsList-from_filter, count_from_yields_List}
use Rattle.std.proofs.lemmas.List.Sums.{length-filter, count_by-le-length}
use Rattle.split_marks.proofs.Marks.{marked-count}
use Rattle.split_marks.proofs.count_marks.Goals as goal

pub returns : goal.returns
returns c =
    let m = c.args.marks.now in
    let e : c.count.result ≡ count_by (λ (b : Bool). b) m = count_from_yields_List c.filter.result c.count.result c.count.ensures.ran (YieldsList-from_filter _ (λ (b : Bool). b) (YieldsList-from_slice m cc) c.filter.ensures.closure (λ x r q k. search (rules, tests))) ∙ length-filter (λ (b : Bool). b) m in
    (e ∙ sym (marked-count m), omega (arith, e, count_by-le-length (λ (b : Bool). b) m))
