-- Warnings that leave a slice as long as it was fill their rows. Assumes nothing.
use mathlib.Core.Path.{◌≡◌, refl, ap, ◌∙◌}
use mathlib.Core.Bool.{true}
use mathlib.Core.List.{List, [], ◌∷◌, ◌++◌}
use Prim.Native.Nat.{ℕ, ◌+◌, ◌*◌, ◌-◌, ◌≤◌}
use native.Mathlib.Omega.{arith}
use lib.ListN.{length, take, drop, length-append, length-drop}
use lib.Seq.{length-take-le}
use borrow.Author.Tests.{le-leb}
use Rattle.lists.specs.Rows.{over}
use Rattle.lists.specs.Every.{all}
use Rattle.lists.specs.Select.{each}
use Rattle.lists.proofs.Every.{all_cons}
use Rattle.entities.specs.Records.{Issue}
use Rattle.store.specs.Store.{flag, writes}
use Rattle.report.specs.Report.{entity_words, issue_onto, warned, warned_at}
use Rattle.report.proofs.Laws.{length-entities}
use Rattle.report.proofs.Warnings.{short}

row_words : (w : List ℕ) (i : Issue) → 10 ≤ length w → length (issue_onto (take 10 w) i) ≡ 6 + (length i.related * 2 + (4 - length i.related * 2))
unfolding issue_onto over
row_words w i h =
    let z = take 4 (drop 5 (take 10 w)) in
    let es = each entity_words i.related in
    let e : length (take 10 w) ≡ 10 = length-take-le 10 w h in
    let f : length z ≡ 4 = length-take-le 4 (drop 5 (take 10 w)) (rw length-drop (omega arith)) in
    let g : length (es ++ drop (0 + length es) z) ≡ length es + (4 - length es) = length-append es (drop (0 + length es) z) ∙ ap (λ n. length es + n) (length-drop (0 + length es) z ∙ omega arith) in
    let k : length ((es ++ drop (0 + length es) z) ++ (flag i.fix ∷ [])) ≡ length es + (4 - length es) + 1 =
    length-append (es ++ drop (0 + length es) z) (flag i.fix ∷ []) ∙ ap (λ n. n + 1) g in
    omega (arith, k, length-entities i.related)

warned-longer : (w : List ℕ) (is : List Issue) → length is * 10 ≤ length w → length w ≤ length (warned w is)
unfolding warned writes
warned-longer w [] h = omega arith
warned-longer w (i ∷ is) h =
    let d = length-drop 10 w in
    let more = warned-longer (drop 10 w) is (omega (arith, d, h)) in
    let n = length-append (issue_onto (take 10 w) i) (warned (drop 10 w) is) in
    let row = row_words w i (omega (arith, h)) in
    omega (arith, more, n, row, d, h)

pub short-by : (w : List ℕ) (is : List Issue) → length is * 10 ≤ length w → length (warned w is) ≤ length w → all short is ≡ true
unfolding warned writes
short-by w [] h l = unfold all in refl
short-by w (i ∷ is) h l =
    let d = length-drop 10 w in
    let room : length is * 10 ≤ length (drop 10 w) = omega (arith, d, h) in
    let more = warned-longer (drop 10 w) is room in
    let n = length-append (issue_onto (take 10 w) i) (warned (drop 10 w) is) in
    let row = row_words w i (omega (arith, h)) in
    all_cons short i is (le-leb (length i.related) 2 (omega (arith, more, n, row, d, h, l))) (short-by (drop 10 w) is room (omega (arith, n, row, d, h, l)))

-- the same of warnings from row `at` on
pub short-at : (at : ℕ) (w : List ℕ) (is : List Issue) → (at + length is) * 10 ≤ length w → length (warned_at at w is) ≡ length w → all short is ≡ true
unfolding warned_at
short-at at w is h l =
    let a = length-take-le (at * 10) w (omega (arith, h)) in
    let d = length-drop (at * 10) w in
    let n = length-append (take (at * 10) w) (warned (drop (at * 10) w) is) in
    short-by (drop (at * 10) w) is (omega (arith, h, d)) (omega (arith, h, l, a, d, n))
