-- Rules whose marks are right, or that name no cut lane and are told to have no anchor, are stored as their lanes follow in turns. Assumes nothing.
use mathlib.Core.Path.{◌≡◌, refl, sym, ap, ◌∙◌}
use mathlib.Core.Logic.{◌⊎◌, inl, inr}
use Prim.Native.Nat.{ℕ, ◌<◌}
use mathlib.Core.Bool.{Bool, true, false, not, ◌&&◌, ◌||◌, cond, true≢false}
use mathlib.Core.List.{List, [], ◌∷◌, map}
use lib.Dec.{eqb, leb}
use lib.Ieee.{Float}
use lib.ListN.{length, get_or}
use Rattle.lists.specs.Every.{all}
use Rattle.lists.specs.Select.{any, has, insert_after, numbered, same_numbers}
use Rattle.lists.proofs.Booleans.{and-fst, and-snd, and_both, neither}
use Rattle.lists.proofs.Select.{has-any, any_same, any-or, lacks-places}
use Rattle.entities.specs.Records.{Map}
use Rattle.rules.specs.Map.{rule_anchor}
use Rattle.rules.specs.Split.{LanePlan, on_second, rule_differs}
use Rattle.laws.proofs.Links.{eqb_swap}
use Rattle.laws.proofs.SplitRows.{same-numbers}
use Rattle.laws.proofs.TurnsRows.{cut_in_turns}
use Rattle.tables.specs.View.{word, ids_at, rows, rule_of}
use Rattle.tables.specs.Formed.{rule_formed}
use Rattle.row_tests.proofs.Tables.{row-length}
use Rattle.lookup.specs.Lookup.{row_at}
use Rattle.store.specs.Store.{rule_onto, store_rows}
use Rattle.store.specs.Rows.{set_list, on_rows}
use Rattle.store.proofs.Whole.{store-changed}
use Rattle.mentions.specs.Naming.{change_at}
use Rattle.mentions.proofs.Turns.{row-there}
use Rattle.grows.specs.Growing.{list_grows}
use Rattle.follows.specs.Following.{first_place, followed_all, rule_follows, marks_of, rules_follow, rule_room, Follows, own_differ, row_differs}
use Rattle.split_named.proofs.Grown.{rows-room}
use Rattle.split_named.proofs.Words.{is_some, cut_ids, below}
use Rattle.split_named.proofs.Differs.{own-differ}
use Rattle.split_named.proofs.Rules.{numbered-rows, RuleMarked, rule-followed, rule-differs}
use Rattle.split_laws.proofs.Members.{In, all_in, in_map, in_numbered}
use Rattle.split_anchors.proofs.Told.{marks-each}

-- ---- a list that names no cut lane

module _ (ids : List ℕ) where
  lacks : (cut : List ℕ) → any (λ k. has k cut) ids ≡ false → all (λ i. not (has i ids)) cut ≡ true
  unfolding has all
  lacks [] h = refl
  lacks (i ∷ cut) h =
      let n = neither (any (λ k. eqb k i) ids) (any (λ k. has k cut) ids) (sym (any-or (λ k. eqb k i) (λ k. has k cut) ids) ∙ h) in
      let e : has i ids ≡ false = has-any i ids ∙ (any_same (eqb i) (λ k. eqb k i) ids (λ k. eqb_swap i k) ∙ n.0) in
      and_both (not (has i ids)) (all (λ i. not (has i ids)) cut) (ap not e) (lacks cut n.1)

  none_of : (g : ℕ → Bool) (cut : List ℕ) → all (λ i. not (has i ids)) cut ≡ true → any (λ i. has i ids && g i) cut ≡ false
  unfolding any all
  none_of g [] h = refl
  none_of g (i ∷ cut) h = go (has i ids) (and-fst (not (has i ids)) (all (λ i. not (has i ids)) cut) h) (none_of g cut (and-snd (not (has i ids)) (all (λ i. not (has i ids)) cut) h))
    where
      go : (b : Bool) → not b ≡ true → any (λ i. has i ids && g i) cut ≡ false → ((b && g i) || any (λ i. has i ids && g i) cut) ≡ false
      go true e r = absurd (true≢false (sym e))
      go false e r = r

  module _ (past : List Bool) (next : ℕ) (cut : List ℕ) (b : below next cut) (q : any (λ k. has k cut) ids ≡ false) where
    own-none : (a : Bool) → own_differ a past cut ids ≡ false
    own-none a = none_of (λ i. cond a (get_or past (first_place i ids) false) true) cut (lacks cut q)

    still : (a : Bool) → followed_all a past next cut ids ≡ ids
    still a = go (same_numbers ids (followed_all a past next cut ids)) refl (own-differ past ids a next cut b ∙ own-none a)
      where
        go : (x : Bool) → same_numbers ids (followed_all a past next cut ids) ≡ x → not x ≡ false → followed_all a past next cut ids ≡ ids
        go true e h = sym (same-numbers ids (followed_all a past next cut ids) e)
        go false e h = absurd (true≢false h)

-- ---- one rule

module _ (join : Float) (m : Map) (next : ℕ) (ps : List LanePlan) (b : below next (cut_ids ps)) where
  abbrev cut : List ℕ
  cut = cut_ids ps

  abbrev pub Told : Bool → List Bool → List ℕ → Type 0
  Told anchored past w = (RuleMarked join m anchored past next ps w) ⊎ ((any (λ k. has k cut) (ids_at 5 w) ≡ false) × (anchored ≡ false))

  module _ (past : List Bool) (w : List ℕ) (q : any (λ k. has k cut) (ids_at 5 w) ≡ false) where
    abbrev real : Bool
    real = is_some (rule_anchor m (rule_of w))

    unnamed : RuleMarked join m real past next ps w
    unnamed =
        record {
          anchor = refl;
          marks = λ a e.
              marks-each (λ x j. on_second join m x j a) past (ids_at 5 w) next ps (λ j x i k l z.
              absurd (lacks-places x.of.id (ids_at 5 w) k (absent x (in_map (λ x. x.of.id) ps x (in_numbered next ps j x i))) l (sym z)));
        }
      where
        absent : (x : LanePlan) → In x.of.id cut → has x.of.id (ids_at 5 w) ≡ false
        absent x i = go (has x.of.id (ids_at 5 w)) (all_in (λ k. not (has k (ids_at 5 w))) cut x.of.id i (lacks (ids_at 5 w) cut q))
          where
            go : (c : Bool) → not c ≡ true → c ≡ false
            go true e = absurd (true≢false (sym e))
            go false e = refl

    same : (a : Bool) → followed_all a past next cut (ids_at 5 w) ≡ followed_all false past next cut (ids_at 5 w)
    same a = still (ids_at 5 w) past next cut b q a ∙ sym (still (ids_at 5 w) past next cut b q false)

    unnamed-followed : length w ≡ 330 → rule_room false past next cut w ≡ true → rule_onto w (cut_in_turns join m next ps (numbered next cut) (rule_of w)) ≡ rule_follows false past next cut w
    unnamed-followed l r =
        let g = insert_after (numbered next cut) in
        rule-followed join m next ps b real past w unnamed l
        (ap (λ ids. rule_formed w && (leb (length ids) 64 && cond (eqb (word 1 w) 3) (list_grows next cut 200 w && list_grows next cut 265 w) true)) (same real) ∙ r)
        ∙ ap (λ ids. cond (eqb (word 1 w) 3) (change_at g 265 (change_at g 200 (set_list 5 ids w))) (set_list 5 ids w)) (same real)

    unnamed-differs : rule_differs (rule_of w) (cut_in_turns join m next ps (numbered next cut) (rule_of w)) ≡ row_differs false past cut w
    unnamed-differs =
        rule-differs join m next ps b real past w unnamed
        ∙ ap (λ z. z || (eqb (word 1 w) 3 && (any (λ i. has i cut) (ids_at 200 w) || any (λ i. has i cut) (ids_at 265 w))))
        (own-none (ids_at 5 w) past next cut b q real ∙ sym (own-none (ids_at 5 w) past next cut b q false))

  pub told-followed : (anchored : Bool) (past : List Bool) (w : List ℕ) → Told anchored past w → length w ≡ 330 → rule_room anchored past next cut w ≡ true
      → rule_onto w (cut_in_turns join m next ps (numbered next cut) (rule_of w)) ≡ rule_follows anchored past next cut w
  told-followed anchored past w (inl k) l r = rule-followed join m next ps b anchored past w k l r
  told-followed anchored past w (inr (q, e)) l r = rw e (unnamed-followed past w q l (rw e at r))

  pub told-differs : (anchored : Bool) (past : List Bool) (w : List ℕ) → Told anchored past w
      → rule_differs (rule_of w) (cut_in_turns join m next ps (numbered next cut) (rule_of w)) ≡ row_differs anchored past cut w
  told-differs anchored past w (inl k) = rule-differs join m next ps b anchored past w k
  told-differs anchored past w (inr (q, e)) = rw e (unnamed-differs past w q)

-- ---- the table

pub rules-told : (join : Float) (m : Map) (next : ℕ) (ps : List LanePlan) (b : below next (cut_ids ps)) (anchored past : List Bool) (t : List ℕ) → Follows anchored past next (cut_ids ps) t
    → ((i : ℕ) → i < word 0 t → Told join m next ps b (get_or anchored i false) (marks_of past i) (row_at 330 t i))
    → store_rows 330 rule_onto (λ r. r.id) t (map (cut_in_turns join m next ps (numbered next (cut_ids ps))) (rows 330 rule_of t)) ≡ rules_follow anchored past next (cut_ids ps) t
unfolding on_rows
rules-told join m next ps b anchored past t f k =
    let c = cut_in_turns join m next ps (numbered next (cut_ids ps)) in
    let g : ℕ → List ℕ → List ℕ = λ i w. rule_follows (get_or anchored i false) (marks_of past i) next (cut_ids ps) w in
    store-changed 330 rule_onto (λ r. r.id) rule_of t (rows-room 512 330 t f.counts) c (λ w. unfold rule_of in refl)
    ∙ sym (numbered-rows 330 g (λ w. rule_onto w (c (rule_of w))) t (λ i l.
    let n : length (row_at 330 t i) ≡ 330 = ap length (sym (row-there 330 t i)) ∙ row-length 512 330 t f.counts i l in
    sym (told-followed join m next ps b (get_or anchored i false) (marks_of past i) (row_at 330 t i) (k i l) n (f.rows i l))))
