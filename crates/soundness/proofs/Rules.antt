-- Row by row, the rules: what the definition asks, and what the test asks.
use Rattle.std.specs.Prelude.{None, Some}
use mathlib.Core.Path.{◌≡◌, refl, sym, ap, ◌∙◌}
use mathlib.Core.Bool.{Bool, true, false, not, ◌&&◌, ◌||◌, cond}
use mathlib.Core.List.{List, ◌++◌}
use Prim.Native.Nat.{ℕ, suc, ◌+◌, ◌-◌, ◌≤◌}
use native.Mathlib.Omega.{arith}
use lib.Dec.{eqb, leb, ltb}
use lib.ListN.{length, drop, length-drop}
use lib.Seq.{length-take-le}
use borrow.Author.Tests.{leb-true, eqb-true}
use Rattle.lists.specs.Every.{all}
use Rattle.lists.specs.Select.{distinct}
use Rattle.lists.proofs.Every.{all_split}
use Rattle.lists.proofs.Booleans.{and-fst, and-snd, same_test, not-not}
use Rattle.rules.specs.Sound.{handle_width, optional_id, rule_names, rule_legal, has_content, stop_lines_fit, given}
use Rattle.tables.specs.View.{word, ids_at, ids_where, rule_of}
use Rattle.tables.specs.Formed.{rule_formed}
use Rattle.row_tests.specs.Good.{ids_good, lanes_good, handle_good, rule_numbers, rule_lists, rule_good}
use Rattle.soundness.proofs.Pointwise.{and3, and5}

abbrev pub rule_asked : ℕ → List ℕ → Bool
rule_asked most w =
    rule_formed w
    && rule_legal (rule_of w)
    && (ltb (rule_of w).content handle_width && ltb (rule_of w).attributes handle_width)
    && all (λ i. leb i most) (rule_names (rule_of w))
    && (distinct (rule_of w).lanes && distinct (rule_of w).priority && distinct (rule_of w).yielding)

-- ---- a rule's kind

-- a list that the kind does not have names nothing
where_good : (most : ℕ) (b : Bool) (k : ℕ) (w : List ℕ) → ids_good most (ids_where b k w) ≡ (not b || ids_good most (ids_at k w))
unfolding all
where_good most true k w = refl
where_good most false k w = refl

crosswalk-named : (most : ℕ) (b : Bool) (i : ℕ) → all (λ j. leb j most) (optional_id (cond b (Some i) None)) ≡ (not b || leb i most)
unfolding all
crosswalk-named most true i = one (leb i most)
  where
    one : (b : Bool) → (b && true) ≡ b
    one true = refl
    one false = refl
crosswalk-named most false i = refl

-- lists one after the other
four : (p : ℕ → Bool) (a b c d : List ℕ) → all p (a ++ (b ++ (c ++ d))) ≡ (all p a && (all p b && (all p c && all p d)))
four p a b c d =
    all_split p a (b ++ (c ++ d)) ∙ ap (λ t. all p a && t) (all_split p b (c ++ d) ∙ ap (λ t. all p b && t) (all_split p c d))

six : (p : ℕ → Bool) (a b c d e f : List ℕ) → all p (a ++ (b ++ (c ++ (d ++ (e ++ f))))) ≡ (all p a && (all p b && (all p c && (all p d && (all p e && all p f)))))
six p a b c d e f =
    all_split p a (b ++ (c ++ (d ++ (e ++ f))))
    ∙ ap (λ t. all p a && t) (all_split p b (c ++ (d ++ (e ++ f))) ∙ ap (λ t. all p b && t) (four p c d e f))

rule-names : (most : ℕ) (w : List ℕ)
    → all (λ i. leb i most) (rule_names (rule_of w))
    ≡ (leb (word 0 w) most && ((not (eqb (word 1 w) 4) || leb (word 4 w) most)
    && (ids_good most (ids_at 5 w) && (ids_good most (ids_at 70 w) && ((eqb (word 1 w) 5 || ids_good most (ids_at 135 w))
    && ((not (eqb (word 1 w) 3) || ids_good most (ids_at 200 w)) && (not (eqb (word 1 w) 3) || ids_good most (ids_at 265 w))))))))
unfolding rule_of all
rule-names most w =
    ap (λ t. leb (word 0 w) most && t)
    (six (λ i. leb i most) (optional_id (cond (eqb (word 1 w) 4) (Some (word 4 w)) None)) (ids_at 5 w) (ids_at 70 w) (ids_where (not (eqb (word 1 w) 5)) 135 w)
    (ids_where (eqb (word 1 w) 3) 200 w) (ids_where (eqb (word 1 w) 3) 265 w)
    ∙ rw (
      crosswalk-named most (eqb (word 1 w) 4) (word 4 w),
      where_good most (not (eqb (word 1 w) 5)) 135 w,
      not-not (eqb (word 1 w) 5),
      where_good most (eqb (word 1 w) 3) 200 w,
      where_good most (eqb (word 1 w) 3) 265 w,
    ))

-- ---- what a rule's kind asks

-- the length of a list in a row that holds it
ids-length : (k : ℕ) (w : List ℕ) → suc k + word k w ≤ length w → length (ids_at k w) ≡ word k w
ids-length k w h = length-take-le (word k w) (drop (suc k) w) (let d : length (drop (suc k) w) ≡ length w - suc k = length-drop (suc k) w in omega arith)

content-fits : (b : Bool) (x : ℕ) → (b || eqb (cond b x 0) 0) ≡ true
content-fits true x = refl
content-fits false x = refl

ways-fit : (b : Bool) (w : List ℕ) → (b || (eqb (length (ids_where b 200 w)) 0 && eqb (length (ids_where b 265 w)) 0)) ≡ true
ways-fit true w = refl
ways-fit false w = refl

cross-fits : (b : Bool) (i : ℕ) → cond b (given (cond b (Some i) None)) (not (given (cond b (Some i) None))) ≡ true
cross-fits true i = refl
cross-fits false i = refl

-- what rule_formed says of the stop lines
formed-stops : (w : List ℕ) → rule_formed w ≡ true → eqb (word 1 w) 5 ≡ false → word 135 w ≤ 64
unfolding rule_formed
formed-stops w f e =
    let own = leb (word 5 w) 64 && leb (word 70 w) 64 in
    let stops = eqb (word 1 w) 5 || leb (word 135 w) 64 in
    let ways = not (eqb (word 1 w) 3) || (leb (word 200 w) 64 && leb (word 265 w) 64) in
    let (a, b, c) = and3 own stops ways f in
    leb-true (word 135 w) 64 (rw e at b)

stops_same : (w : List ℕ) → length w ≡ 330 → rule_formed w ≡ true
    → stop_lines_fit (word 1 w) (length (ids_where (not (eqb (word 1 w) 5)) 135 w)) ≡ (eqb (word 1 w) 5 || stop_lines_fit (word 1 w) (word 135 w))
stops_same w n f = go (eqb (word 1 w) 5) refl
  where
    go : (b : Bool) → eqb (word 1 w) 5 ≡ b → stop_lines_fit (word 1 w) (length (ids_where (not b) 135 w)) ≡ (b || stop_lines_fit (word 1 w) (word 135 w))
    go true e = ap (λ k. stop_lines_fit k 0) (eqb-true (word 1 w) 5 e)
    go false e =
        let l : word 135 w ≤ 64 = formed-stops w f e in
        let r : suc 135 + word 135 w ≤ length w = omega arith in
        ap (stop_lines_fit (word 1 w)) (ids-length 135 w r)

legal-same : (w : List ℕ) → length w ≡ 330 → rule_formed w ≡ true → rule_legal (rule_of w) ≡ (leb (word 1 w) 5 && (eqb (word 1 w) 5 || stop_lines_fit (word 1 w) (word 135 w)))
unfolding rule_of
legal-same w n f =
    let k = word 1 w in
    let stops = stop_lines_fit k (length (ids_where (not (eqb k 5)) 135 w)) in
    let ways = eqb k 3 || (eqb (length (ids_where (eqb k 3) 200 w)) 0 && eqb (length (ids_where (eqb k 3) 265 w)) 0) in
    let cross = cond (eqb k 4) (given (cond (eqb k 4) (Some (word 4 w)) None)) (not (given (cond (eqb k 4) (Some (word 4 w)) None))) in
    ap (λ t. leb k 5 && t && stops && ways && cross) (content-fits (has_content k) (word 2 w))
    ∙ (ap (λ t. leb k 5 && true && stops && t && cross) (ways-fit (eqb k 3) w)
    ∙ (ap (λ t. leb k 5 && true && stops && true && t) (cross-fits (eqb k 4) (word 4 w))
    ∙ (ap (λ t. leb k 5 && true && t && true && true) (stops_same w n f) ∙ strip (leb k 5) (eqb k 5 || stop_lines_fit k (word 135 w)))))
  where
    strip : (a b : Bool) → (a && true && b && true && true) ≡ (a && b)
    strip true true = refl
    strip true false = refl
    strip false b = refl

handle-same : (b : Bool) (x : ℕ) → ltb (cond b x 0) handle_width ≡ (not b || handle_good x)
handle-same true x = refl
handle-same false x = refl

-- the test's conjunction, and the definition's
turn : (I K N H X S A B C D : Bool)
    → (I && K && N && H && X && S && (A && B && C && D)) ≡ (K && S && (N && H) && (I && (X && (A && (B && (C && D))))))
turn I K N H X S A B C D =
    same_test (I && K && N && H && X && S && (A && B && C && D)) (K && S && (N && H) && (I && (X && (A && (B && (C && D))))))
    (λ h.
    let p = and-fst (I && K && N && H && X && S) (A && B && C && D) h in
    let q = and-snd (I && K && N && H && X && S) (A && B && C && D) h in
    let (i, k, n, hh, x) = and5 I K N H X (and-fst (I && K && N && H && X) S p) in
    let (a, b, c) = and3 A B C (and-fst (A && B && C) D q) in
    rw (i, k, n, hh, x, and-snd (I && K && N && H && X) S p, a, b, c, and-snd (A && B && C) D q))
    (λ h.
    let r = I && (X && (A && (B && (C && D)))) in
    let (ks, nh, ir) = and3 (K && S) (N && H) r h in
    let r1 = and-snd I (X && (A && (B && (C && D)))) ir in
    let r2 = and-snd X (A && (B && (C && D))) r1 in
    let r3 = and-snd A (B && (C && D)) r2 in
    let r4 = and-snd B (C && D) r3 in
    rw (
      and-fst I (X && (A && (B && (C && D)))) ir,
      and-fst K S ks,
      and-fst N H nh,
      and-snd N H nh,
      and-fst X (A && (B && (C && D))) r1,
      and-snd K S ks,
      and-fst A (B && (C && D)) r2,
      and-fst B (C && D) r3,
      and-fst C D r4,
      and-snd C D r4,
    ))

both_ways : (b x y : Bool) → (not b || (x && y)) ≡ ((not b || x) && (not b || y))
both_ways true x y = refl
both_ways false x y = refl

-- ---- no lane twice in a list

-- the names of the lists that the kind has
abbrev lists_named : ℕ → List ℕ → Bool
lists_named most w =
    ids_good most (ids_at 5 w)
    && ids_good most (ids_at 70 w)
    && (eqb (word 1 w) 5 || ids_good most (ids_at 135 w))
    && (not (eqb (word 1 w) 3) || (ids_good most (ids_at 200 w) && ids_good most (ids_at 265 w)))

abbrev lists_once : List ℕ → Bool
lists_once w = distinct (ids_at 5 w) && distinct (ids_where (eqb (word 1 w) 3) 200 w) && distinct (ids_where (eqb (word 1 w) 3) 265 w)

names-first : (a b c d e p q r : Bool) → (a && p && b && c && (d && q && (e && r))) ≡ (a && b && c && (d && e) && (p && q && r))
names-first a b c d e p q r =
    same_test (a && p && b && c && (d && q && (e && r))) (a && b && c && (d && e) && (p && q && r))
    (λ h.
    let (t, u, v, x, y) = and5 a p b c (d && q && (e && r)) h in
    let (i, j, k) = and3 d q (e && r) y in
    rw (t, u, v, x, i, j, and-fst e r k, and-snd e r k))
    (λ h.
    let (t, u, v, x, y) = and5 a b c (d && e) (p && q && r) h in
    let (i, j, k) = and3 p q r y in
    rw (t, u, v, and-fst d e x, and-snd d e x, i, j, k))

-- a list that the kind does not have names no lane twice
lists-once : (most : ℕ) (w : List ℕ) → rule_lists true most w ≡ (lists_named most w && lists_once w)
unfolding rule_lists distinct
lists-once most w = go (eqb (word 1 w) 3)
  where
    a : Bool
    a = ids_good most (ids_at 5 w)

    b : Bool
    b = ids_good most (ids_at 70 w)

    c : Bool
    c = eqb (word 1 w) 5 || ids_good most (ids_at 135 w)

    go : (k : Bool)
        → (lanes_good true most (ids_at 5 w) && b && c && (not k || (lanes_good true most (ids_at 200 w) && lanes_good true most (ids_at 265 w))))
        ≡ (a && b && c && (not k || (ids_good most (ids_at 200 w) && ids_good most (ids_at 265 w)))
        && (distinct (ids_at 5 w) && distinct (ids_where k 200 w) && distinct (ids_where k 265 w)))
    go true =
        names-first a b c (ids_good most (ids_at 200 w)) (ids_good most (ids_at 265 w)) (distinct (ids_at 5 w)) (distinct (ids_at 200 w)) (distinct (ids_at 265 w))
    go false = names-first a b c true true (distinct (ids_at 5 w)) true true

-- ---- the rule's row

pub rule-same : (most : ℕ) (w : List ℕ) → length w ≡ 330 → rule_good most w ≡ rule_asked most w
unfolding rule_good rule_numbers rule_of
rule-same most w n = go (rule_formed w) refl
  where
    named : Bool
    named =
        rule_legal (rule_of w) && (ltb (rule_of w).content handle_width && ltb (rule_of w).attributes handle_width) && all (λ i. leb i most) (rule_names (rule_of w))

    inner : rule_formed w ≡ true → (rule_numbers most w && lists_named most w) ≡ named
    inner f =
        let k = word 1 w in
        let I = leb (word 0 w) most in
        let K = leb k 5 in
        let N = not (has_content k) || handle_good (word 2 w) in
        let H = handle_good (word 3 w) in
        let X = not (eqb k 4) || leb (word 4 w) most in
        let S = eqb k 5 || stop_lines_fit k (word 135 w) in
        let A = ids_good most (ids_at 5 w) in
        let B = ids_good most (ids_at 70 w) in
        let C = eqb k 5 || ids_good most (ids_at 135 w) in
        turn I K N H X S A B C (not (eqb k 3) || (ids_good most (ids_at 200 w) && ids_good most (ids_at 265 w)))
        ∙ (ap (λ d. K && S && (N && H) && (I && (X && (A && (B && (C && d)))))) (both_ways (eqb k 3) (ids_good most (ids_at 200 w)) (ids_good most (ids_at 265 w)))
        ∙ (ap (λ t. K && S && (N && H) && t) (sym (rule-names most w))
        ∙ (ap (λ t. K && S && (t && H) && all (λ i. leb i most) (rule_names (rule_of w))) (sym (handle-same (has_content k) (word 2 w)))
        ∙ ap (λ t. t && (ltb (rule_of w).content handle_width && ltb (rule_of w).attributes handle_width) && all (λ i. leb i most) (rule_names (rule_of w))) (sym (legal-same w n f)))))

    assoc : (x y z : Bool) → (x && (y && z)) ≡ (x && y && z)
    assoc true y z = refl
    assoc false y z = refl

    go : (b : Bool) → rule_formed w ≡ b → (b && rule_numbers most w && rule_lists true most w)
        ≡ (b && rule_legal (rule_of w) && (ltb (rule_of w).content handle_width && ltb (rule_of w).attributes handle_width) && all (λ i. leb i most) (rule_names (rule_of w)) && lists_once w)
    go true e =
        ap (λ t. rule_numbers most w && t) (lists-once most w)
        ∙ (assoc (rule_numbers most w) (lists_named most w) (lists_once w) ∙ ap (λ t. t && lists_once w) (inner e))
    go false e = refl
