-- Warnings in rows of ten words. Assumes nothing.
use Rattle.std.specs.Prelude.{Option, None, Some}
use mathlib.Core.Path.{◌≡◌, refl, sym, ap, ◌∙◌}
use mathlib.Core.Bool.{Bool, true, ◌&&◌}
use mathlib.Core.List.{List, [], ◌∷◌, ◌++◌, append_assoc}
use Prim.Native.Nat.{ℕ, zero, suc, ◌+◌, ◌*◌, ◌/◌, ◌≤◌}
use native.Mathlib.Nat.{le_of_suc-le-suc, not-suc-le-zero, zero-add, div-mul-le_self, mul-le-mul_right}
use native.Mathlib.Omega.{arith}
use lib.Dec.{leb}
use lib.ListN.{length, set, take, drop, length-append, length-drop, take-append-drop}
use lib.Seq.{length-take-le, take-add, take_at, drop_at, drop-drop}
use borrow.Author.Tests.{leb-true}
use Rattle.lists.specs.Rows.{over}
use Rattle.lists.specs.Every.{all}
use Rattle.lists.specs.Select.{each}
use Rattle.lists.proofs.Booleans.{and-fst, and-snd}
use Rattle.lists.proofs.Every.{all_head, all_tail}
use Rattle.lists.proofs.Rows.{length_over}
use Rattle.entities.specs.Types.{kind_number, severity_number, code_number, lane_entity, boundary_entity}
use Rattle.entities.specs.Records.{Issue}
use Rattle.rules.specs.Names.{EntityKind, LaneKind, BoundaryKind, Severity, Warning, IssueCode, BoundaryUnshared}
use Rattle.rules.specs.Edit.{warning}
use Rattle.store.specs.Store.{flag, writes}
use Rattle.report.specs.declared.Notice.{Notice}
use Rattle.report.specs.declared.Notice.TheVariants.{NoOp as NoOpNotice, Pair, Unshared, Pieces}
use Rattle.report.proofs.Laws.{length-entities}
use Rattle.report.specs.Report.{entity_words, issue_onto, warned, warned_at, single, issue_of, issues, report_fits}

-- ---- a row's words

-- what is said of every list whose first n words are written out
abbrev Written : {A : Type 0} → ℕ → (List A → Type 0) → Type 0
Written {A} zero P = (rest : List A) → P rest
Written {A} (suc n) P = (x : A) → Written n (λ r. P (x ∷ r))

by-words : {A : Type 0} (n : ℕ) (P : List A → Type 0) → Written n P → (r : List A) → n ≤ length r → P r
by-words zero P f r h = f r
by-words (suc n) P f [] h = absurd (not-suc-le-zero h)
by-words (suc n) P f (x ∷ r) h = by-words n (λ r. P (x ∷ r)) (f x) r (le_of_suc-le-suc h)

-- stores one after the other, counted from place k on
abbrev pub stores : {A : Type 0} → List A → ℕ → List (ℕ × A) → List A
stores w k [] = w
stores w k (s ∷ more) = stores (set w (k + s.0) s.1) k more

set_in : {A : Type 0} (a b : List A) (i : ℕ) (x : A) → set (a ++ b) (length a + i) x ≡ a ++ set b i x
set_in [] b i x = rw zero-add
set_in (y ∷ a) b i x = let e : suc (length a) + i ≡ suc (length a + i) = omega arith in rw e (ap (λ z. y ∷ z) (set_in a b i x))

stores_in : {A : Type 0} (a b : List A) (l : List (ℕ × A)) → stores (a ++ b) (length a) l ≡ a ++ stores b 0 l
stores_in a b [] = refl
stores_in a b (s ∷ l) =
    ap (λ z. stores z (length a) l) (set_in a b s.0 s.1) ∙ (stores_in a (set b s.0 s.1) l ∙ ap (λ k. a ++ stores (set b k s.1) 0 l) (sym (zero-add s.0)))

-- stores that make a warning of the first row make it of row `at`
put-row : (w : List ℕ) (at : ℕ) (l : List (ℕ × ℕ)) (i : Issue) → at * 10 + 10 ≤ length w
    → ((r : List ℕ) → 10 ≤ length r → stores r 0 l ≡ warned r (i ∷ [])) → stores w (at * 10) l ≡ warned_at at w (i ∷ [])
unfolding warned_at
put-row w at l i h f =
    let a = take (at * 10) w in
    let r = drop (at * 10) w in
    let e : length a ≡ at * 10 = length-take-le (at * 10) w (omega arith) in
    let k : 10 ≤ length r = rw length-drop (omega arith) in
    ap (λ z. stores z (at * 10) l) (sym (take-append-drop (at * 10) w))
    ∙ (ap (λ n. stores (a ++ r) n l) (sym e) ∙ (stores_in a r l ∙ ap (λ z. a ++ z) (f r k)))

abbrev single_stores : ℕ → ℕ → ℕ → ℕ → ℕ → List (ℕ × ℕ)
single_stores s c k id f = (0, s) ∷ (1, c) ∷ (2, k) ∷ (3, id) ∷ (4, 0) ∷ (9, f) ∷ []

pub single-put : (w : List ℕ) (at : ℕ) (severity : Severity) (code : IssueCode) (kind : EntityKind) (id : ℕ) (fix : Bool) (s c k f : ℕ) → at * 10 + 10 ≤ length w
    → s ≡ severity_number severity → c ≡ code_number code → k ≡ kind_number kind → f ≡ flag fix
    → stores w (at * 10) (single_stores s c k id f) ≡ warned_at at w (single severity code kind id fix ∷ [])
unfolding warned writes issue_onto over each
single-put w at severity code kind id fix s c k f h p q u v =
    rw (p, q, u, v)
    (put-row w at (single_stores (severity_number severity) (code_number code) (kind_number kind) id (flag fix)) (single severity code kind id fix) h
    (by-words 10 (λ r. stores r 0 (single_stores (severity_number severity) (code_number code) (kind_number kind) id (flag fix)) ≡ warned r (single severity code kind id fix ∷ [])) (λ x0 x1 x2 x3 x4 x5 x6 x7 x8 x9 rest. refl)))

abbrev pair_stores : ℕ → ℕ → ℕ → ℕ → ℕ → ℕ → List (ℕ × ℕ)
pair_stores s c k lane j other = (0, s) ∷ (1, c) ∷ (2, k) ∷ (3, lane) ∷ (4, 1) ∷ (5, j) ∷ (6, other) ∷ (9, 0) ∷ []

pub pair_put : (w : List ℕ) (at : ℕ) (code : IssueCode) (lane other s c k j : ℕ) → at * 10 + 10 ≤ length w
    → s ≡ severity_number Warning → c ≡ code_number code → k ≡ kind_number LaneKind → j ≡ kind_number LaneKind
    → stores w (at * 10) (pair_stores s c k lane j other) ≡ warned_at at w (warning code (lane_entity lane) (lane_entity other ∷ []) ∷ [])
unfolding warned writes issue_onto over each
pair_put w at code lane other s c k j h p q u v =
    let i = warning code (lane_entity lane) (lane_entity other ∷ []) in
    rw (p, q, u, v)
    (put-row w at (pair_stores 1 (code_number code) 0 lane 0 other) i h
    (by-words 10 (λ r. stores r 0 (pair_stores 1 (code_number code) 0 lane 0 other) ≡ warned r (i ∷ [])) (λ x0 x1 x2 x3 x4 x5 x6 x7 x8 x9 rest. refl)))

abbrev pieces_stores : ℕ → ℕ → ℕ → ℕ → ℕ → ℕ → List (ℕ × ℕ)
pieces_stores s c k b x y = (0, s) ∷ (1, c) ∷ (2, k) ∷ (3, b) ∷ (4, 2) ∷ (5, k) ∷ (6, x) ∷ (7, k) ∷ (8, y) ∷ (9, 0) ∷ []

pub pieces-put : (w : List ℕ) (at b x y s c k : ℕ) → at * 10 + 10 ≤ length w → s ≡ severity_number Warning → c ≡ code_number BoundaryUnshared → k ≡ kind_number BoundaryKind
    → stores w (at * 10) (pieces_stores s c k b x y) ≡ warned_at at w (issue_of (Pieces b x y) ∷ [])
unfolding warned writes issue_onto over each
pieces-put w at b x y s c k h p q u =
    let i = warning BoundaryUnshared (boundary_entity b) (boundary_entity x ∷ boundary_entity y ∷ []) in
    let l = pieces_stores (severity_number Warning) (code_number BoundaryUnshared) (kind_number BoundaryKind) b x y in
    rw (p, q, u) (put-row w at l i h (by-words 10 (λ r. stores r 0 l ≡ warned r (i ∷ [])) (λ x0 x1 x2 x3 x4 x5 x6 x7 x8 x9 rest. refl)))

pub none-put : (at : ℕ) (w : List ℕ) → w ≡ warned_at at w []
unfolding warned_at warned writes
none-put at w = sym (take-append-drop (at * 10) w)

-- the same notice, matched
pub notice_put : (n m : Notice) (at : ℕ) (w v : List ℕ) → n ≡ m → v ≡ warned_at at w (issue_of m ∷ []) → v ≡ warned_at at w (issue_of n ∷ [])
notice_put n m at w v e p = rw e p

pub few : (n : Option Notice) → length (issues n) ≤ 1
few None = omega arith
few (Some n) = omega arith

-- ---- warnings one behind the other

-- a warning of at most two related entities
abbrev pub short : Issue → Bool
short i = leb (length i.related) 2

pub issues-short : (n : Option Notice) → all short (issues n) ≡ true
unfolding all
issues-short None = refl
issues-short (Some (NoOpNotice l)) = refl
issues-short (Some (Pair code l other)) = refl
issues-short (Some (Unshared b)) = refl
issues-short (Some (Pieces b x y)) = refl

-- it fills its row
ten_words : (w : List ℕ) (i : Issue) → short i ≡ true → 10 ≤ length w → length (issue_onto (take 10 w) i) ≡ 10
unfolding issue_onto
ten_words w i t h =
    let r = take 10 w in
    let z = take 4 (drop 5 r) in
    let es = each entity_words i.related in
    let few = leb-true (length i.related) 2 t in
    let e : length r ≡ 10 = length-take-le 10 w h in
    let f : length z ≡ 4 = length-take-le 4 (drop 5 r) (rw length-drop (omega arith)) in
    let g : length (over z 0 es) ≡ 4 = length_over z 0 es (omega (arith, length-entities i.related)) ∙ f in
    let k : length (over z 0 es ++ (flag i.fix ∷ [])) ≡ 5 = length-append (over z 0 es) (flag i.fix ∷ []) ∙ ap (λ n. n + 1) g in
    ap (λ n. suc (suc (suc (suc (suc n))))) k

-- what is warned behind rows that are full
behind-rows : (p rest : List ℕ) (m n : ℕ) (ys : List Issue) → length p ≡ m * 10 → warned_at (m + n) (p ++ rest) ys ≡ p ++ warned_at n rest ys
unfolding warned_at
behind-rows p rest m n ys e =
    let l : (m + n) * 10 ≡ m * 10 + n * 10 = omega arith in
    let d : drop (m * 10) (p ++ rest) ≡ rest = drop_at p rest (m * 10) e in
    let t : take (m * 10 + n * 10) (p ++ rest) ≡ p ++ take (n * 10) rest =
    take-add (m * 10) (n * 10) (p ++ rest) ∙ (ap (λ z. z ++ take (n * 10) (drop (m * 10) (p ++ rest))) (take_at p rest (m * 10) e) ∙ ap (λ z. p ++ take (n * 10) z) d) in
    let q : drop (m * 10 + n * 10) (p ++ rest) ≡ drop (n * 10) rest = sym (drop-drop (n * 10) (m * 10) (p ++ rest)) ∙ ap (drop (n * 10)) d in
    rw (l, t, q) (append_assoc p (take (n * 10) rest) (warned (drop (n * 10) rest) ys))

rows_left : (n : ℕ) (w : List ℕ) → suc n * 10 ≤ length w → n * 10 ≤ length (drop 10 w)
rows_left n w h = rw length-drop (omega arith)

pub warned-whole : (w : List ℕ) (is : List Issue) → warned_at 0 w is ≡ warned w is
unfolding warned_at
warned-whole w is = refl

pub warned-behind : (w : List ℕ) (is js : List Issue) → all short is ≡ true → length is * 10 ≤ length w → warned_at (length is) (warned w is) js ≡ warned w (is ++ js)
unfolding warned writes
warned-behind w [] js a h = unfold warned_at in refl
warned-behind w (i ∷ is) js a h =
    let r = issue_onto (take 10 w) i in
    let n : length r ≡ 1 * 10 = ten_words w i (all_head short i is a) (omega arith) in
    let e : suc (length is) ≡ 1 + length is = omega arith in
    ap (λ m. warned_at m (r ++ warned (drop 10 w) is) js) e
    ∙ (behind-rows r (warned (drop 10 w) is) 1 (length is) js n ∙ ap (λ z. r ++ z) (warned-behind (drop 10 w) is js (all_tail short i is a) (rows_left (length is) w h)))

pub length-warned : (w : List ℕ) (is : List Issue) → all short is ≡ true → length is * 10 ≤ length w → length (warned w is) ≡ length w
unfolding warned writes
length-warned w [] a h = refl
length-warned w (i ∷ is) a h =
    let r = issue_onto (take 10 w) i in
    let rest = warned (drop 10 w) is in
    omega (arith, length-append r rest, ten_words w i (all_head short i is a) (omega arith), length-warned (drop 10 w) is (all_tail short i is a) (rows_left (length is) w h), length-drop 10 w)

-- the same from row `at` on
module _ (at : ℕ) (w : List ℕ) (is : List Issue) (a : all short is ≡ true) (h : (at + length is) * 10 ≤ length w) where
  left : length is * 10 ≤ length (drop (at * 10) w)
  left = rw length-drop (omega arith)

  front : length (take (at * 10) w) ≡ at * 10
  front = length-take-le (at * 10) w (omega arith)

  pub warned-more : (js : List Issue) → warned_at (at + length is) (warned_at at w is) js ≡ warned_at at w (is ++ js)
  unfolding warned_at
  warned-more js =
      let p = take (at * 10) w in
      let rest = drop (at * 10) w in
      behind-rows p (warned rest is) at (length is) js front ∙ ap (λ z. p ++ z) (warned-behind rest is js a left)

  pub length-warned-at : length (warned_at at w is) ≡ length w
  unfolding warned_at
  length-warned-at =
      omega (arith, length-append (take (at * 10) w) (warned (drop (at * 10) w) is), length-warned (drop (at * 10) w) is a left, front, length-drop (at * 10) w)

-- ---- two notices

-- one behind the other from row 0 on
pub notices_put : (w v u : List ℕ) (n : ℕ) (f s : Option Notice) → length (issues f) * 10 ≤ length w → n ≡ 0 + length (issues f)
    → v ≡ warned_at 0 w (issues f) → u ≡ warned_at n v (issues s) → u ≡ warned w (issues f ++ issues s)
notices_put w v u n f s h c p q =
    q
    ∙ (ap (λ m. warned_at m v (issues s)) c
    ∙ (ap (λ z. warned_at (0 + length (issues f)) z (issues s)) p ∙ (warned-more 0 w (issues f) (issues-short f) (omega arith) (issues s) ∙ warned-whole w (issues f ++ issues s))))

-- ---- room

-- n rows of s words, where n is at most how often s goes into the length
pub room : (n l s : ℕ) → leb n (l / s) ≡ true → n * s ≤ l
room n l s t =
    let a : n * s ≤ l / s * s = mul-le-mul_right s (leb-true n (l / s) t) in
    omega (arith, a, div-mul-le_self l s)

pub fits-room : (ids ws : ℕ) (m w : List ℕ) → report_fits ids ws m w ≡ true → (ids * 2 ≤ length m) × (ws * 10 ≤ length w)
fits-room ids ws m w t =
    let a = leb ids (length m / 2) in
    let b = leb ws (length w / 10) in
    (room ids (length m) 2 (and-fst a b t), room ws (length w) 10 (and-snd a b t))

-- two notices within the room for both
pub notices_room : (f s : Option Notice) (l : ℕ) → length (issues f ++ issues s) * 10 ≤ l → (length (issues f) + length (issues s)) * 10 ≤ l
notices_room f s l h = rw (← length-append (issues f) (issues s)) h

-- the test by two counts
pub fits-counted : (ids x y : ℕ) (f s : Option Notice) (m w : List ℕ) (r : Bool) → x ≡ length (issues f) → y ≡ length (issues s)
    → r ≡ (leb ids (length m / 2) && leb (x + y) (length w / 10)) → r ≡ report_fits ids (length (issues f ++ issues s)) m w
fits-counted ids x y f s m w r p q e = rw (length-append (issues f) (issues s), ← p, ← q) e
