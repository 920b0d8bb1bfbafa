-- Rules stored with their lanes as they follow in turns are their rows in which the lanes follow, and differ where the rows do. Assumes nothing.
use Rattle.std.specs.Prelude.{Some}
use mathlib.Core.Path.{◌≡◌, refl, sym, ap, ◌∙◌}
use Prim.Native.Nat.{ℕ, zero, suc, ◌+◌, ◌*◌, ◌<◌}
use native.Mathlib.Nat.{zero-mul}
use native.Mathlib.Omega.{arith}
use mathlib.Core.Bool.{Bool, true, false, not, ◌&&◌, ◌||◌, cond}
use mathlib.Core.List.{List, ◌∷◌, map}
use lib.Dec.{eqb}
use lib.Ieee.{Float}
use lib.ListN.{length, get_or, take, drop}
use lib.Seq.{drop-drop}
use Rattle.lists.specs.Select.{any, each, has, insert_after, numbered, same_numbers}
use Rattle.entities.specs.Records.{Map, Rule}
use Rattle.rules.specs.Names.{Point2}
use Rattle.rules.specs.Map.{rule_anchor}
use Rattle.rules.specs.Split.{LanePlan, on_second, rule_differs}
use Rattle.rules.specs.Turns.{follow_all}
use Rattle.laws.proofs.TurnsRows.{cut_in_turns}
use Rattle.tables.specs.View.{word, ids_at, ids_where, rows, rule_of}
use Rattle.row_tests.proofs.Tables.{row-length}
use Rattle.lookup.specs.Lookup.{row_at}
use Rattle.store.specs.Store.{rule_onto, store_rows}
use Rattle.store.specs.Rows.{set_list, map_rows, on_rows}
use Rattle.store.proofs.Whole.{store-changed}
use Rattle.mentions.specs.Naming.{change_at}
use Rattle.mentions.proofs.Turns.{row-there}
use Rattle.mentions.proofs.Records.{rule-changes}
use Rattle.follows.specs.Following.{followed_all, rule_follows, marks_of, map_numbered, on_numbered, rules_follow, rule_room, Follows, row_differs}
use Rattle.follows.proofs.Rules.{rule-formed, rule-room}
use Rattle.split_named.proofs.Grown.{rows-room}
use Rattle.split_named.proofs.Words.{is_some, cut_ids, below, Marks, follow-words}
use Rattle.split_named.proofs.Differs.{gains_differ, own-differ}

-- ---- rows changed by their number

numbered-from : (s : ℕ) (g : ℕ → List ℕ → List ℕ) (h : List ℕ → List ℕ) (i n : ℕ) (w : List ℕ) → ((j : ℕ) → j < n → g (i + j) (take s (drop (j * s) w)) ≡ h (take s (drop (j * s) w)))
    → map_numbered s g i n w ≡ map_rows s h n w
unfolding map_numbered map_rows
numbered-from s g h i zero w e = refl
numbered-from s g h i (suc n) w e =
    let z : i + 0 ≡ i = omega arith in
    let a : g i (take s w) ≡ h (take s w) = rw (zero-mul, z) at (e 0 (omega arith)) in
    let b : map_numbered s g (suc i) n (drop s w) ≡ map_rows s h n (drop s w) =
    numbered-from s g h (suc i) n (drop s w) (λ j l.
    let k : suc j < suc n = omega arith in
    let q : suc j * s ≡ s + j * s = omega arith in
    let y : i + suc j ≡ suc i + j = omega arith in
    rw drop-drop (rw (q, y) at (e (suc j) k))) in
    rw (a, b)

pub numbered-rows : (s : ℕ) (g : ℕ → List ℕ → List ℕ) (h : List ℕ → List ℕ) (t : List ℕ) → ((i : ℕ) → i < word 0 t → g i (row_at s t i) ≡ h (row_at s t i))
    → on_numbered s g t ≡ on_rows s h t
unfolding on_numbered on_rows
numbered-rows s g h t e =
    ap (λ w. word 0 t ∷ w)
    (numbered-from s g h 0 (word 0 t) (drop 1 t) (λ j l.
    let z : 0 + j ≡ j = omega arith in
    let d : drop (j * s) (drop 1 t) ≡ drop (1 + j * s) t = drop-drop (j * s) 1 t in
    rw (z, d) (e j l)))

-- ---- one rule

-- its lists, of which the last two are empty where it is no right of way
lists-differ : (next : ℕ) (cut w ids : List ℕ) (way : Bool)
    → not (same_numbers (ids_at 5 w) ids && same_numbers (ids_where way 200 w) (insert_after (numbered next cut) (ids_where way 200 w)) && same_numbers (ids_where way 265 w) (insert_after (numbered next cut) (ids_where way 265 w)))
    ≡ (not (same_numbers (ids_at 5 w) ids) || (way && (any (λ i. has i cut) (ids_at 200 w) || any (λ i. has i cut) (ids_at 265 w))))
lists-differ next cut w ids true =
    let g = insert_after (numbered next cut) in
    let own = same_numbers (ids_at 5 w) ids in
    three own (same_numbers (ids_at 200 w) (g (ids_at 200 w))) (same_numbers (ids_at 265 w) (g (ids_at 265 w)))
    ∙ (ap (λ z. not own || (z || not (same_numbers (ids_at 265 w) (g (ids_at 265 w))))) (gains_differ next cut (ids_at 200 w))
    ∙ ap (λ z. not own || (any (λ i. has i cut) (ids_at 200 w) || z)) (gains_differ next cut (ids_at 265 w)))
  where
    three : (x y z : Bool) → not (x && y && z) ≡ (not x || (not y || not z))
    three true true z = refl
    three true false z = refl
    three false y z = refl
lists-differ next cut w ids false = unfold insert_after each same_numbers in alone (same_numbers (ids_at 5 w) ids)
  where
    alone : (x : Bool) → not (x && true && true) ≡ (not x || false)
    alone true = refl
    alone false = refl

-- the marks of a rule's row are right: it has an anchor or not, and with one each own lane that is cut says on which half the anchor lies
pub record RuleMarked (join : Float) (m : Map) (anchored : Bool) (past : List Bool) (next : ℕ) (ps : List LanePlan) (w : List ℕ) : Type 0 where
  pub anchor : anchored ≡ is_some (rule_anchor m (rule_of w))
  pub marks : (a : Point2) → rule_anchor m (rule_of w) ≡ Some a → Marks (λ x j. on_second join m x j a) past (ids_at 5 w) next ps

module _ (join : Float) (m : Map) (next : ℕ) (ps : List LanePlan) (b : below next (cut_ids ps)) where
  abbrev cut : List ℕ
  cut = cut_ids ps

  abbrev rule : Rule → Rule
  rule r = cut_in_turns join m next ps (numbered next cut) r

  module _ (anchored : Bool) (past : List Bool) (w : List ℕ) (k : RuleMarked join m anchored past next ps w) where
    own : follow_all join m (rule_anchor m (rule_of w)) next ps (ids_at 5 w) ≡ followed_all anchored past next cut (ids_at 5 w)
    own = follow-words join m past (rule_anchor m (rule_of w)) next ps (ids_at 5 w) b k.marks ∙ ap (λ a. followed_all a past next cut (ids_at 5 w)) (sym k.anchor)

    pub rule-followed : length w ≡ 330 → rule_room anchored past next cut w ≡ true → rule_onto w (rule (rule_of w)) ≡ rule_follows anchored past next cut w
    rule-followed l r =
        let f = follow_all join m (rule_anchor m (rule_of w)) next ps in
        let g = insert_after (numbered next cut) in
        let fits = rule-room anchored past next cut w r in
        rule-changes f g w l (rule-formed anchored past next cut w r) (record { lanes = rw own fits.lanes; priority = fits.priority; yielding = fits.yielding })
        ∙ ap (λ ids. cond (eqb (word 1 w) 3) (change_at g 265 (change_at g 200 (set_list 5 ids w))) (set_list 5 ids w)) own

    pub rule-differs : rule_differs (rule_of w) (rule (rule_of w)) ≡ row_differs anchored past cut w
    unfolding rule_of
    rule-differs =
        let ways = eqb (word 1 w) 3 && (any (λ i. has i cut) (ids_at 200 w) || any (λ i. has i cut) (ids_at 265 w)) in
        lists-differ next cut w (follow_all join m (rule_anchor m (rule_of w)) next ps (ids_at 5 w)) (eqb (word 1 w) 3)
        ∙ ap (λ z. z || ways) (ap (λ ids. not (same_numbers (ids_at 5 w) ids)) own ∙ own-differ past (ids_at 5 w) anchored next cut b)

-- ---- the table

pub rules-followed : (join : Float) (m : Map) (next : ℕ) (ps : List LanePlan) → below next (cut_ids ps) → (anchored past : List Bool) (t : List ℕ) → Follows anchored past next (cut_ids ps) t
    → ((i : ℕ) → i < word 0 t → RuleMarked join m (get_or anchored i false) (marks_of past i) next ps (row_at 330 t i))
    → store_rows 330 rule_onto (λ r. r.id) t (map (cut_in_turns join m next ps (numbered next (cut_ids ps))) (rows 330 rule_of t)) ≡ rules_follow anchored past next (cut_ids ps) t
unfolding on_rows
rules-followed join m next ps b anchored past t f k =
    let c = cut_in_turns join m next ps (numbered next (cut_ids ps)) in
    let g : ℕ → List ℕ → List ℕ = λ i w. rule_follows (get_or anchored i false) (marks_of past i) next (cut_ids ps) w in
    store-changed 330 rule_onto (λ r. r.id) rule_of t (rows-room 512 330 t f.counts) c (λ w. unfold rule_of in refl)
    ∙ sym (numbered-rows 330 g (λ w. rule_onto w (c (rule_of w))) t (λ i l.
    let n : length (row_at 330 t i) ≡ 330 = ap length (sym (row-there 330 t i)) ∙ row-length 512 330 t f.counts i l in
    sym (rule-followed join m next ps b (get_or anchored i false) (marks_of past i) (row_at 330 t i) (k i l) n (f.rows i l))))
