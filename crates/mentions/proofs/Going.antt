-- Rows that forget a lane, and rules that read one as another: their words and their length. Assumes nothing.
use Rattle.std.specs.Prelude.{None}
use mathlib.Core.Path.{◌≡◌, refl, sym, ap, ◌∙◌}
use Prim.Native.Nat.{ℕ, suc, ◌+◌, ◌-◌, ◌≤◌, ◌<◌}
use native.Mathlib.Omega.{arith}
use mathlib.Core.Bool.{Bool, true, false, cond}
use mathlib.Core.List.{List, [], ◌∷◌, map}
use lib.Dec.{eqb}
use lib.ListN.{length, set, drop, length-map}
use lib.Seq.{drop-drop}
use borrow.Author.Tests.{eq-eqb, ne_eqb, eqb-true, leb-true}
use borrow.Rule.Slice.PartMut.{mid_of, put_mid}
use Rattle.lists.specs.Rows.{over}
use Rattle.lists.specs.Select.{has, without}
use Rattle.lists.proofs.Rows.{over-nil, length_over, drop-over, store-behind, get_d_over-before, get_d_over-behind}
use Rattle.lists.proofs.Select.{length_without}
use Rattle.rules.specs.Merge.{read, replace_lane}
use Rattle.tables.specs.View.{word, ids_at}
use Rattle.tables.specs.Formed.{lane_formed, rule_formed}
use Rattle.row_tests.proofs.Formed.{lane-before, lane-after, rule-lanes, rule-priority, rule-yielding}
use Rattle.store.specs.Rows.{set_slot, set_list}
use Rattle.store.proofs.Lists.{ids-many, list-again}
use Rattle.mentions.specs.declared.Rows.{Rows}
use Rattle.mentions.specs.declared.Rows.TheVariants.{Lanes, Roads, Junctions, Rules, Orphans}
use Rattle.mentions.specs.Naming.{row_words, row_formed, slot_names, change_at, forget_at, free_at, lane_forgets, rule_changes, rule_forgets, forgets, replace_at, rule_replaces}
use Rattle.mentions.proofs.Tests.{ids-lent}

-- ---- a slot

store-one : (w : List ℕ) (n x : ℕ) → n < length w → set w n x ≡ over w n (x ∷ [])
store-one w n x h =
    let e : n + length {A = ℕ} [] ≡ n = omega arith in
    ap (λ z. set z n x) (sym (over-nil w n)) ∙ store-behind w n n [] x e h

module _ (w : List ℕ) (k a : ℕ) (h : k + 2 ≤ length w) where
  module _ (b : Bool) (be : b ≡ slot_names a k w) where
    pub freed : b ≡ true → set w k 0 ≡ free_at a k w
    unfolding set_slot
    freed t = store-one w k 0 (omega arith) ∙ sym (ap (λ z. cond z (set_slot k None w) w) (sym be ∙ t))

    pub not-freed : b ≡ false → w ≡ free_at a k w
    not-freed t = sym (ap (λ z. cond z (set_slot k None w) w) (sym be ∙ t))

  pub free-length : length (free_at a k w) ≡ length w
  free-length = go (slot_names a k w)
    where
      go : (b : Bool) → length (cond b (set_slot k None w) w) ≡ length w
      go true = unfold set_slot in length_over w k (0 ∷ []) (omega arith)
      go false = refl

-- ---- a list

-- changed so that it stays within the row
module _ (f : List ℕ → List ℕ) (w : List ℕ) (k : ℕ) (room : k + 1 + length (f (ids_at k w)) ≤ length w) where
  abbrev ids : List ℕ
  ids = length (f (ids_at k w)) ∷ f (ids_at k w)

  pub change-length : length (change_at f k w) ≡ length w
  unfolding set_list
  change-length = length_over w k ids (omega arith)

  -- words before the list and behind it, and a list behind it
  pub word-before : (j : ℕ) → j < k → word j (change_at f k w) ≡ word j w
  unfolding set_list
  word-before j l = get_d_over-before w k ids j 0 l (omega arith)

  pub word-behind : (j : ℕ) → k + 1 + length (f (ids_at k w)) ≤ j → word j (change_at f k w) ≡ word j w
  unfolding set_list
  word-behind j l = get_d_over-behind w k ids j 0 (omega arith) (omega arith)

  pub ids-behind : (j : ℕ) → k + 1 + length (f (ids_at k w)) ≤ j → ids_at j (change_at f k w) ≡ ids_at j w
  unfolding set_list
  ids-behind j l =
      let n = k + length ids in
      let e : n + (suc j - n) ≡ suc j = omega arith in
      let d : drop (suc j) (over w k ids) ≡ drop (suc j) w =
      ap (λ m. drop m (over w k ids)) (sym e)
      ∙ (sym (drop-drop (suc j - n) n (over w k ids)) ∙ (ap (drop (suc j - n)) (drop-over w k ids (omega arith)) ∙ (drop-drop (suc j - n) n w ∙ ap (λ m. drop m w) e))) in
      rw (word-behind j l, d)

-- changed so that it grows no longer
abbrev pub Shortens : (List ℕ → List ℕ) → Type 0
Shortens f = (ids : List ℕ) → length (f ids) ≤ length ids

pub shorter : (f : List ℕ → List ℕ) → Shortens f → (w : List ℕ) (k : ℕ) → k + 1 + word k w ≤ length w → length (f (ids_at k w)) ≤ word k w
shorter f less w k h = omega (arith, less (ids_at k w), ids-many w k h)

pub forget-length : (w : List ℕ) (k a : ℕ) → k + 1 + word k w ≤ length w → length (forget_at a k w) ≡ length w
forget-length w k a h = change-length (without a) w k (omega (arith, shorter (without a) (length_without a) w k h))

-- ---- a lane's row

module _ (w : List ℕ) (a : ℕ) (f : (length w ≡ 52) × (lane_formed w ≡ true)) where
  pub after-room : 36 + word 35 w ≤ length w
  after-room = omega (arith, f.0, lane-after w f.1)

  module _ (v : List ℕ) (e : v ≡ forget_at a 35 w) where
    pub before-room : 19 + word 18 v ≤ length v
    before-room =
        let x : length v ≡ 52 = ap length e ∙ (forget-length w 35 a after-room ∙ f.0) in
        let r : 36 + length (without a (ids_at 35 w)) ≤ length w = omega (arith, shorter (without a) (length_without a) w 35 after-room, after-room) in
        let y : word 18 v ≡ word 18 w = ap (word 18) e ∙ word-before (without a) w 35 r 18 (omega arith) in
        omega (arith, lane-before w f.1)

    length-after : length v ≡ 52
    length-after = ap length e ∙ (forget-length w 35 a after-room ∙ f.0)

    module _ (u : List ℕ) (d : u ≡ forget_at a 18 v) where
      pub lists_length : length u ≡ 52
      lists_length = ap length d ∙ (forget-length v 18 a before-room ∙ length-after)

      module _ (p : List ℕ) (q : p ≡ free_at a 16 u) where
        pub right-length : length p ≡ 52
        right-length = ap length q ∙ (free-length u 16 a (omega (arith, lists_length)) ∙ lists_length)

        pub lane_forgot : (r : List ℕ) → r ≡ free_at a 14 p → r ≡ lane_forgets a w
        lane_forgot r z = z ∙ ap (free_at a 14) (q ∙ ap (free_at a 16) (d ∙ ap (forget_at a 18) e))

  pub lane-length : length (lane_forgets a w) ≡ 52
  lane-length =
      let p = free_at a 16 (forget_at a 18 (forget_at a 35 w)) in
      let l = right-length (forget_at a 35 w) refl (forget_at a 18 (forget_at a 35 w)) refl p refl in
      free-length p 14 a (omega arith) ∙ l

-- ---- a rule's row

-- changes that leave each list in its 64 slots
pub record RuleFits (f g : List ℕ → List ℕ) (w : List ℕ) : Type 0 where
  pub lanes : length (f (ids_at 5 w)) ≤ 64
  pub priority : word 1 w ≡ 3 → length (g (ids_at 200 w)) ≤ 64
  pub yielding : word 1 w ≡ 3 → length (g (ids_at 265 w)) ≤ 64

module _ (w : List ℕ) (r : (length w ≡ 330) × (rule_formed w ≡ true)) where
  pub lanes-room : 6 + word 5 w ≤ length w
  lanes-room = omega (arith, r.0, rule-lanes w r.1)

  pub rule_fits_lem : (f g : List ℕ → List ℕ) → Shortens f → Shortens g → RuleFits f g w
  rule_fits_lem f g less fewer =
      record {
        lanes = omega (arith, shorter f less w 5 lanes-room, rule-lanes w r.1);
        priority =
            λ n.
            let p = rule-priority w r.1 n in
            omega (arith, shorter g fewer w 200 (omega (arith, r.0)));
        yielding =
            λ n.
            let p = rule-yielding w r.1 n in
            omega (arith, shorter g fewer w 265 (omega (arith, r.0)));
      }

  module _ (f g : List ℕ → List ℕ) (fits : RuleFits f g w) where
    abbrev all : List ℕ
    all = change_at g 265 (change_at g 200 (change_at f 5 w))

    pub rule-changed-lanes : (v : List ℕ) → v ≡ change_at f 5 w → (word 1 w ≡ 3 → ⊥) → v ≡ rule_changes f g w
    rule-changed-lanes v e n = e ∙ sym (ap (λ z. cond z all (change_at f 5 w)) (ne_eqb (word 1 w) 3 n))

    written : 6 + length (f (ids_at 5 w)) ≤ length w
    written = omega (arith, r.0, fits.lanes)

    module _ (v : List ℕ) (e : v ≡ change_at f 5 w) (n : word 1 w ≡ 3) where
      length-lanes : length v ≡ 330
      length-lanes = ap length e ∙ (change-length f w 5 written ∙ r.0)

      later : (j : ℕ) → 70 ≤ j → word j v ≡ word j w
      later j l = ap (word j) e ∙ word-behind f w 5 written j (omega (arith, fits.lanes))

      later-ids : (j : ℕ) → 70 ≤ j → ids_at j v ≡ ids_at j w
      later-ids j l = ap (ids_at j) e ∙ ids-behind f w 5 written j (omega (arith, fits.lanes))

      pub priority-room : 201 + word 200 v ≤ length v
      priority-room = omega (arith, length-lanes, later 200 (omega arith), rule-priority w r.1 n)

      few-priority : length (g (ids_at 200 v)) ≤ 64
      few-priority = rw (later-ids 200 (omega arith)) (fits.priority n)

      module _ (u : List ℕ) (d : u ≡ change_at g 200 v) where
        length-priority : length u ≡ 330
        length-priority = ap length d ∙ (change-length g v 200 (omega (arith, length-lanes, few-priority)) ∙ length-lanes)

        pub yielding-room : 266 + word 265 u ≤ length u
        yielding-room =
            let x : word 265 u ≡ word 265 v = ap (word 265) d ∙ word-behind g v 200 (omega (arith, length-lanes, few-priority)) 265 (omega (arith, few-priority)) in
            omega (arith, length-priority, later 265 (omega arith), rule-yielding w r.1 n)

        pub rule-changed : (t : List ℕ) → t ≡ change_at g 265 u → t ≡ rule_changes f g w
        rule-changed t z = z ∙ (ap (change_at g 265) (d ∙ ap (change_at g 200) e) ∙ sym (ap (λ z. cond z all (change_at f 5 w)) (eq-eqb (word 1 w) 3 n)))

        yielding-length : length (change_at g 265 u) ≡ 330
        yielding-length =
            let i : ids_at 265 u ≡ ids_at 265 w =
            ap (ids_at 265) d ∙ (ids-behind g v 200 (omega (arith, length-lanes, few-priority)) 265 (omega (arith, few-priority)) ∙ later-ids 265 (omega arith)) in
            let l : length (g (ids_at 265 u)) ≤ 64 = rw i (fits.yielding n) in
            change-length g u 265 (omega (arith, length-priority)) ∙ length-priority

    pub rule-length : length (rule_changes f g w) ≡ 330
    rule-length = go (eqb (word 1 w) 3) refl
      where
        go : (b : Bool) → eqb (word 1 w) 3 ≡ b → length (cond b all (change_at f 5 w)) ≡ 330
        go true t = yielding-length (change_at f 5 w) refl (eqb-true (word 1 w) 3 t) (change_at g 200 (change_at f 5 w)) refl
        go false t = change-length f w 5 written ∙ r.0

-- ---- a rule in which a lane reads as another

pub length-replace : (a b : ℕ) → Shortens (replace_lane a b)
unfolding replace_lane
length-replace a b ids = go (has a ids)
  where
    go : (x : Bool) → length (cond x (without b ids) (map (read a b) ids)) ≤ length ids
    go true = length_without b ids
    go false = let e = length-map ids (read a b) in omega arith

-- the list at k, as it was tested and lent
module _ (w : List ℕ) (k a b : ℕ) (h : k + 1 + word k w ≤ length w) (t : Bool) (te : t ≡ has a (ids_at k w)) where
  pub replaced-there : (v : List ℕ) → t ≡ true → v ≡ set_list k (without b (ids_at k w)) w → v ≡ replace_at a b k w
  unfolding replace_lane
  replaced-there v e q = q ∙ sym (ap (λ z. set_list k (cond z (without b (ids_at k w)) (map (read a b) (ids_at k w))) w) (sym te ∙ e))

  pub replaced-read : (v : List ℕ) → t ≡ false → v ≡ map (read a b) (mid_of (k + 1) (k + 1 + word k w - (k + 1)) w)
      → put_mid (k + 1) (k + 1 + word k w - (k + 1)) w v ≡ replace_at a b k w
  unfolding replace_lane
  replaced-read v e q =
      let x : v ≡ map (read a b) (ids_at k w) = q ∙ ap (map (read a b)) (ids-lent w k (word k w)) in
      let n : length v ≡ word k w = ap length x ∙ (length-map (ids_at k w) (read a b) ∙ ids-many w k h) in
      list-again w v k h n
      ∙ (ap (λ z. set_list k z w) x ∙ sym (ap (λ z. set_list k (cond z (without b (ids_at k w)) (map (read a b) (ids_at k w))) w) (sym te ∙ e)))

pub replaces-length : (a b : ℕ) (w : List ℕ) → (length w ≡ 330) × (rule_formed w ≡ true) → length (rule_replaces a b w) ≡ 330
unfolding rule_replaces
replaces-length a b w r = rule-length w r (replace_lane a b) (replace_lane a b) (rule_fits_lem w r (replace_lane a b) (replace_lane a b) (length-replace a b) (length-replace a b))

-- ---- a row of any table

module _ (k : Rows) (w v : List ℕ) (a : ℕ) where
  pub forgets-lane : k ≡ Lanes → v ≡ lane_forgets a w → v ≡ forgets k a w
  unfolding forgets
  forgets-lane e f = rw e f

  pub forgets_road : k ≡ Roads → v ≡ forget_at a 3 w → v ≡ forgets k a w
  unfolding forgets
  forgets_road e f = rw e f

  pub forgets_junction : k ≡ Junctions → v ≡ forget_at a 4 w → v ≡ forgets k a w
  unfolding forgets
  forgets_junction e f = rw e f

  pub forgets-rule : k ≡ Rules → v ≡ rule_forgets a w → v ≡ forgets k a w
  unfolding forgets
  forgets-rule e f = rw e f

  pub forgets-orphan : k ≡ Orphans → v ≡ rule_forgets a w → v ≡ forgets k a w
  unfolding forgets
  forgets-orphan e f = rw e f

pub forgets-length : (k : Rows) (a : ℕ) (w : List ℕ) → (length w ≡ row_words k) × (row_formed k w ≡ true) → length (forgets k a w) ≡ row_words k
unfolding forgets
forgets-length Lanes a w f = lane-length w a f
forgets-length Roads a w f = forget-length w 3 a (omega (arith, f.0, leb-true (word 3 w) 64 f.1)) ∙ f.0
forgets-length Junctions a w f = forget-length w 4 a (omega (arith, f.0, leb-true (word 4 w) 64 f.1)) ∙ f.0
forgets-length Rules a w f = rule-length w f (without a) (without a) (rule_fits_lem w f (without a) (without a) (length_without a) (length_without a))
forgets-length Orphans a w f = rule-length w f (without a) (without a) (rule_fits_lem w f (without a) (without a) (length_without a) (length_without a))
