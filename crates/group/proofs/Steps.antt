-- The walk's steps: what holds of marks and queue when a row is entered, when both slots of a row were looked at, and at the end. Assumes nothing.
use Rattle.std.specs.Prelude.{Option, None, Some}
use mathlib.Core.Path.{◌≡◌, refl, sym, ap, ◌∙◌}
use Prim.Native.Nat.{ℕ, suc, ◌+◌, ◌<◌, ◌≤◌}
use native.Mathlib.Nat.{le_of_suc-le-suc, not-suc-le-zero, eq-or-lt_of_le}
use native.Mathlib.Omega.{arith}
use mathlib.Core.Bool.{Bool, true, false, not, ◌||◌, cond, true≢false}
use mathlib.Core.List.{List, [], ◌∷◌, ◌++◌, map}
use mathlib.Core.Logic.{◌⊎◌, inl, inr, ⊎_elim}
use lib.Dec.{eqb, ltb}
use lib.ListN.{length, get_or, set, take, drop, length-set, length-take, length-map}
use lib.Seq.{get_or-set_same, get_or-set_other, take-suc-set, get_or-take, ext_get_or, set_out}
use borrow.Author.Tests.{eqb-true, eqb-false, ltb-true, lt-ltb, ltb-false}
use Rattle.lists.specs.Every.{all}
use Rattle.lists.specs.Rows.{over}
use Rattle.lists.specs.Select.{has}
use Rattle.lists.proofs.Rows.{length-keys, length_over, get_d_over-behind}
use Rattle.lists.proofs.Booleans.{same_test, or_right, or_left}
use Rattle.lists.proofs.Select.{has-append}
use Rattle.tables.specs.View.{word}
use Rattle.row_tests.specs.Returned.{searchable, lane_at}
use Rattle.row_tests.proofs.Lanes.{lanes-few}
use Rattle.group.specs.Walk.{ids_of, group_at, slot_row, seen_within, marks, seen_marked, queued}
use Rattle.group.proofs.Laws.{has-at, has_somewhere, mark-again, marks-more, marks-room, marks-none, marks-few, unmarked, get_d_over-front, get_d_map_in}
use Rattle.group.proofs.Slots.{Shut, id-of, slot-leads, group-has-own, group-leads, marks-hold}

-- ---- marks and queue when a row is entered

mark-keeps : (f : Option ℕ) (s : List Bool) (x : ℕ) → get_or s x false ≡ true → get_or (seen_marked f s) x false ≡ true
mark-keeps None s x e = e
mark-keeps (Some r) s x e = go (eqb x r) refl
  where
    go : (b : Bool) → eqb x r ≡ b → get_or (set s r true) x false ≡ true
    go true q = let z : x ≡ r = eqb-true x r q in rw (mark-again s r (rw z at e)) e
    go false q = get_or-set_other s r x true false (eqb-false x r q) ∙ e

mark-sets : (f : Option ℕ) (s : List Bool) (x : ℕ) → f ≡ Some x → x < length s → get_or (seen_marked f s) x false ≡ true
mark-sets f s x e h = rw e (get_or-set_same s x true false h)

pub marked-length : (f : Option ℕ) (s : List Bool) → length (seen_marked f s) ≡ length s
marked-length None s = refl
marked-length (Some r) s = length-set s r true

pub queued-length : (f : Option ℕ) (s : List Bool) (n : ℕ) (q : List ℕ) → length (queued f s n q) ≡ length q
queued-length None s n q = refl
queued-length (Some r) s n q = go (get_or s r false)
  where
    go : (b : Bool) → length (cond b q (set q n r)) ≡ length q
    go true = refl
    go false = length-set q n r

queue-keeps : (f : Option ℕ) (s : List Bool) (n : ℕ) (q : List ℕ) (p : ℕ) → p < n → get_or (queued f s n q) p 0 ≡ get_or q p 0
queue-keeps None s n q p h = refl
queue-keeps (Some r) s n q p h = go (get_or s r false)
  where
    go : (b : Bool) → get_or (cond b q (set q n r)) p 0 ≡ get_or q p 0
    go true = refl
    go false = get_or-set_other q n p r 0 (λ e. omega arith)

marks-keep : (f : Option ℕ) (s : List Bool) → marks s ≤ marks (seen_marked f s)
marks-keep None s = omega arith
marks-keep (Some r) s = go (get_or s r false) refl (ltb r (length s)) refl
  where
    go : (a : Bool) → get_or s r false ≡ a → (b : Bool) → ltb r (length s) ≡ b → marks s ≤ marks (set s r true)
    go true e b f = rw (mark-again s r e) (omega arith)
    go false e true f = omega (arith, marks-more s r (ltb-true r (length s) f) e)
    go false e false f = rw (set_out s r true (ltb-false r (length s) f)) (omega arith)

-- what `enter` answers: nothing was found; the row was marked; the row is new
abbrev pub Entered : Option ℕ → List Bool → List ℕ → ℕ → List Bool → List ℕ → ℕ → Type 0
Entered f s q end s2 q2 end2 = (end2 ≡ marks (seen_marked f s)) × ((s2 ≡ seen_marked f s) × (q2 ≡ queued f s end q))

module _ (f : Option ℕ) (s : List Bool) (q : List ℕ) (end : ℕ) (e : end ≡ marks s) where
  pub entered-none : f ≡ None → Entered f s q end s q end
  entered-none n = rw n (e, (refl, refl))

  pub entered-again : (r : ℕ) → f ≡ Some r → get_or s r false ≡ true → Entered f s q end s q end
  entered-again r a m =
      let x : set s r true ≡ s = mark-again s r m in
      rw (a, m, x) (e, (refl, refl))

  pub entered-new : (r : ℕ) → f ≡ Some r → seen_within (length s) f ≡ true → get_or s r false ≡ false → Entered f s q end (set s r true) (set q end r) (end + 1)
  entered-new r a b m =
      let h : r < length s = ltb-true r (length s) (rw a at b) in
      let x : end + 1 ≡ marks (set s r true) = let k = marks-more s r h m in omega arith in
      rw (a, m) (x, (refl, refl))

  -- there is room for the row in the marks and, if it is new, in the queue
  pub enter-room : (r : ℕ) → f ≡ Some r → seen_within (length s) f ≡ true → r < length s
  enter-room r a b = ltb-true r (length s) (rw a at b)

  pub enter-end : (r : ℕ) → f ≡ Some r → seen_within (length s) f ≡ true → get_or s r false ≡ false → end < length s
  enter-end r a b m = rw e (marks-room s r (enter-room r a b) m)

-- ---- the walk of row i's group: `done` rows of the queue have been looked at, and it ends at `end`

pub record Walk (t : List ℕ) (i : ℕ) (s : List Bool) (q : List ℕ) (done end : ℕ) : Type 0 where
  pub counted : end ≡ marks s
  pub long : length q ≡ length s
  pub ahead : done ≤ end
  pub in_rows : (p : ℕ) → p < end → get_or q p 0 < word 0 t
  pub in_marks : (p : ℕ) → p < end → get_or s (get_or q p 0) false ≡ true
  pub listed : (r : ℕ) → get_or s r false ≡ true → has r (take end q) ≡ true
  pub reached : (r : ℕ) → get_or s r false ≡ true → has (word 0 (lane_at t r)) (group_at t i) ≡ true
  pub shut : (p : ℕ) → p < done → Shut t s (get_or q p 0)

module _ (t : List ℕ) (i : ℕ) where
  pub walk_begins : (s : List Bool) (q : List ℕ) → all not s ≡ true → length q ≡ length s → Walk t i s q 0 0
  walk_begins s q a e =
      record {
        counted = sym (marks-none s a);
        long = e;
        ahead = omega arith;
        in_rows = λ p h. absurd (not-suc-le-zero h);
        in_marks = λ p h. absurd (not-suc-le-zero h);
        listed = λ r m. absurd (true≢false (sym m ∙ unmarked s r a));
        reached = λ r m. absurd (true≢false (sym m ∙ unmarked s r a));
        shut = λ p h. absurd (not-suc-le-zero h);
      }

  module _ (s : List Bool) (q : List ℕ) (done end : ℕ) (w : Walk t i s q done end) where
    -- a row that is new
    enters-new : (r : ℕ) → r < length s → r < word 0 t → has (word 0 (lane_at t r)) (group_at t i) ≡ true → get_or s r false ≡ false
        → Walk t i (set s r true) (set q end r) done (marks (set s r true))
    enters-new r h b g n =
        let m : marks (set s r true) ≡ suc end = marks-more s r h n ∙ ap suc (sym w.counted) in
        let room : end < length q = omega (arith, marks-room s r h n, w.counted, w.long) in
        let old : (p : ℕ) → p < end → get_or (set q end r) p 0 ≡ get_or q p 0 = (λ p l. get_or-set_other q end p r 0 (λ e. omega arith)) in
        let last : (p : ℕ) → p ≡ end → get_or (set q end r) p 0 ≡ r = (λ p e. ap (λ (k : ℕ). get_or (set q end r) k 0) e ∙ get_or-set_same q end r 0 room) in
        let here : get_or (set s r true) r false ≡ true = get_or-set_same s r true false h in
        let now : take (suc end) (set q end r) ≡ take end q ++ (r ∷ []) = take-suc-set q end r room in
        rw m
        (record {
          counted = sym m;
          long = length-set q end r ∙ w.long ∙ sym (length-set s r true);
          ahead = omega (arith, w.ahead);
          in_rows = λ p l. ⊎_elim (λ e. rw (last p e) b) (λ k. rw (old p k) (w.in_rows p k)) (eq-or-lt_of_le (le_of_suc-le-suc l));
          in_marks = λ p l. ⊎_elim (λ e. rw (last p e) here) (λ k. rw (old p k) (mark-keeps (Some r) s (get_or q p 0) (w.in_marks p k))) (eq-or-lt_of_le (le_of_suc-le-suc l));
          listed = λ x e. rw now (has-append x (take end q) (r ∷ []) ∙ set_cases x (has x (take end q) || has x (r ∷ [])) e (λ z. or_right (has x (take end q)) (has x (r ∷ [])) (has-at (r ∷ []) 0 x (omega arith) (sym z))) (λ k. or_left (has x (take end q)) (has x (r ∷ [])) (w.listed x k)));
          reached = λ x e. set_cases x (has (word 0 (lane_at t x)) (group_at t i)) e (λ z. rw z g) (λ k. w.reached x k);
          shut = λ p l. rw (old p (omega (arith, w.ahead))) (λ k x c e. mark-keeps (Some r) s x (w.shut p l k x c e));
        })
      where
        -- what is marked now is the row, or was marked before
        set_cases : (x : ℕ) (c : Bool) → get_or (set s r true) x false ≡ true → (x ≡ r → c ≡ true) → (get_or s x false ≡ true → c ≡ true) → c ≡ true
        set_cases x c e f k = go (eqb x r) refl
          where
            go : (b : Bool) → eqb x r ≡ b → c ≡ true
            go true q = f (eqb-true x r q)
            go false q = k (sym (get_or-set_other s r x true false (eqb-false x r q)) ∙ e)

    -- a row that was found and is of the group is entered
    pub enters : (f : Option ℕ) → ((r : ℕ) → f ≡ Some r → (r < length s) × ((r < word 0 t) × (has (word 0 (lane_at t r)) (group_at t i) ≡ true)))
        → Walk t i (seen_marked f s) (queued f s end q) done (marks (seen_marked f s))
    enters None ok = rw (← w.counted) w
    enters (Some r) ok = go (get_or s r false) refl
      where
        go : (b : Bool) → get_or s r false ≡ b → Walk t i (set s r true) (cond b q (set q end r)) done (marks (set s r true))
        go true e = rw (mark-again s r e, ← w.counted) w
        go false e = let o = ok r refl in enters-new r o.0 o.1.0 o.1.1 e

    -- both slots of the next row have been looked at
    walked : done < end → Shut t s (get_or q done 0) → Walk t i s q (done + 1) end
    walked l z =
        record {
          counted = w.counted;
          long = w.long;
          ahead = omega arith;
          in_rows = w.in_rows;
          in_marks = w.in_marks;
          listed = w.listed;
          reached = w.reached;
          shut = λ p h. ⊎_elim (λ e. rw e z) (λ k. w.shut p k) (eq-or-lt_of_le (within-done p h));
        }
      where
        within-done : (p : ℕ) → p < done + 1 → p ≤ done
        within-done p h = omega arith

-- the walk with its 1,024 marks, the lane's own among them
abbrev pub Holds : List ℕ → ℕ → List Bool → List ℕ → ℕ → ℕ → Type 0
Holds t i s q done end = (length s ≡ 1024) × ((length q ≡ 1024) × ((get_or s i false ≡ true) × Walk t i s q done end))

-- what `enter` asks
abbrev May : Option ℕ → List Bool → List ℕ → ℕ → Type 0
May f s q end = (length q ≡ length s) × ((seen_within (length s) f ≡ true) × (end ≡ marks s))

-- ---- a turn of the loop, and its end

module _ (t : List ℕ) (h : searchable t ≡ true) (i : ℕ) (l : i < word 0 t) where
  -- the first row
  pub walk_first : (s : List Bool) (q : List ℕ) → all not s ≡ true → length q ≡ length s → word 0 t ≤ length s
      → Walk t i (seen_marked (Some i) s) (queued (Some i) s 0 q) 0 (marks (seen_marked (Some i) s))
  walk_first s q a e b =
      enters t i s q 0 0 (walk_begins t i s q a e) (Some i)
      (λ r z. let y : i ≡ r = cc in rw (← y) (omega arith, (l, group-has-own t h i l)))

  -- what a slot leads to is a row that has a mark
  pub slot_in_lem : (n k j : ℕ) → word 0 t ≤ n → seen_within n (slot_row t k j) ≡ true
  slot_in_lem n k j b = go (slot_row t k j) refl
    where
      go : (f : Option ℕ) → slot_row t k j ≡ f → seen_within n f ≡ true
      go None e = refl
      go (Some x) e = lt-ltb x n (omega (arith, (slot-leads t h k j x e).0))

  -- a slot of a row that is marked
  slot_turn : (s : List Bool) (q : List ℕ) (done end : ℕ) → Walk t i s q done end → word 0 t ≤ length s → (k j : ℕ) → (k ≡ 14) ⊎ (k ≡ 16) → j < word 0 t → get_or s j false ≡ true
      → (f : Option ℕ) → f ≡ slot_row t k j → Walk t i (seen_marked f s) (queued f s end q) done (marks (seen_marked f s))
  slot_turn s q done end w b k j c d e f z =
      enters t i s q done end w f
      (λ r y. let g = group-leads t h i l k j r c d (w.reached j e) (sym z ∙ y) in (omega (arith, g.0), g))

  module _ (s : List Bool) (q : List ℕ) (done end : ℕ) (w : Walk t i s q done end) (b : word 0 t ≤ length s) (n : done < end) (f g : Option ℕ) (ef : f ≡ slot_row t 14 (get_or q done 0)) (eg : g ≡ slot_row t 16 (get_or q done 0)) where
    left : Walk t i (seen_marked f s) (queued f s end q) done (marks (seen_marked f s))
    left = slot_turn s q done end w b 14 (get_or q done 0) (inl refl) (w.in_rows done n) (w.in_marks done n) f ef

    right : Walk t i (seen_marked g (seen_marked f s)) (queued g (seen_marked f s) (marks (seen_marked f s)) (queued f s end q)) done (marks (seen_marked g (seen_marked f s)))
    right =
        slot_turn (seen_marked f s) (queued f s end q) done (marks (seen_marked f s)) left (rw (marked-length f s) b) 16 (get_or q done 0) (inr refl) (w.in_rows done n)
        (mark-keeps f s (get_or q done 0) (w.in_marks done n)) g eg

    -- the row is still there, and both of its slots lead to marked rows
    ends : (done < marks (seen_marked f s)) × (done < marks (seen_marked g (seen_marked f s)))
    ends =
        let x : end ≤ marks (seen_marked f s) = rw w.counted (marks-keep f s) in
        let y = marks-keep g (seen_marked f s) in
        (omega arith, omega arith)

    same_row : get_or (queued g (seen_marked f s) (marks (seen_marked f s)) (queued f s end q)) done 0 ≡ get_or q done 0
    same_row = queue-keeps g (seen_marked f s) (marks (seen_marked f s)) (queued f s end q) done ends.0 ∙ queue-keeps f s end q done n

    both-shut : Shut t (seen_marked g (seen_marked f s)) (get_or q done 0)
    both-shut k x c e =
        let m : x < length s = omega (arith, (slot-leads t h k (get_or q done 0) x e).0) in
        ⊎_elim
        (λ (z : k ≡ 14). mark-keeps g (seen_marked f s) x (mark-sets f s x (ef ∙ rw z at e) m))
        (λ (z : k ≡ 16). mark-sets g (seen_marked f s) x (eg ∙ rw z at e) (rw (marked-length f s) m))
        c

    both-turns : Walk t i (seen_marked g (seen_marked f s)) (queued g (seen_marked f s) (marks (seen_marked f s)) (queued f s end q)) (done + 1) (marks (seen_marked g (seen_marked f s)))
    both-turns =
        walked t i (seen_marked g (seen_marked f s)) (queued g (seen_marked f s) (marks (seen_marked f s)) (queued f s end q)) done (marks (seen_marked g (seen_marked f s))) right ends.1 (rw same_row both-shut)

    pub turn : (s1 s2 : List Bool) (q1 q2 : List ℕ) (e1 e2 : ℕ) → s1 ≡ seen_marked f s → q1 ≡ queued f s end q → e1 ≡ marks (seen_marked f s)
        → s2 ≡ seen_marked g s1 → q2 ≡ queued g s1 e1 q1 → e2 ≡ marks (seen_marked g s1) → Walk t i s2 q2 (done + 1) e2
    turn s1 s2 q1 q2 e1 e2 a1 a2 a3 c1 c2 c3 = rw (c1, c2, c3, a1, a2, a3) both-turns

  -- ---- the end: the marks are the group's

  module _ (s0 s : List Bool) (q : List ℕ) (done end : ℕ) (w : Walk t i s q done end) (a : all not s0 ≡ true) (e : length s ≡ length s0) (b : word 0 t ≤ length s) (own : get_or s i false ≡ true) (n : end ≤ done) where
    all-shut : (r : ℕ) → get_or s r false ≡ true → (r < word 0 t) × Shut t s r
    all-shut r m =
        has_somewhere ((r < word 0 t) × Shut t s r) r (take end q) (w.listed r m)
        (λ p g z.
        let few : p < end = omega (arith, length-take end q) in
        let y : get_or q p 0 ≡ r = sym (get_or-take end q p 0 few) ∙ z in
        rw (← y) (w.in_rows p few, w.shut p (omega arith)))

    marked-is : (r : ℕ) → r < word 0 t → get_or s r false ≡ has (word 0 (lane_at t r)) (group_at t i)
    marked-is r d =
        same_test (get_or s r false) (has (word 0 (lane_at t r)) (group_at t i)) (w.reached r) (marks-hold t h i l s own (λ x _ m. (all-shut x m).1) r d)

    marked-not : (r : ℕ) → word 0 t ≤ r → get_or s r false ≡ false
    marked-not r d = go (get_or s r false) refl
      where
        go : (x : Bool) → get_or s r false ≡ x → x ≡ false
        go false z = refl
        go true z = absurd (omega (arith, (all-shut r z).0))

    abbrev told : List Bool
    told = map (λ k. has k (group_at t i)) (ids_of t)

    told-length : length told ≡ word 0 t
    told-length = length-map (ids_of t) (λ k. has k (group_at t i)) ∙ length-keys 52 (word 0 t) (drop 1 t)

    pub walk_ends : s ≡ over s0 0 told
    walk_ends =
        ext_get_or false s (over s0 0 told) (e ∙ sym (length_over s0 0 told (omega (arith, told-length))))
        (λ r d. go r (ltb r (word 0 t)) refl)
      where
        go : (r : ℕ) (x : Bool) → ltb r (word 0 t) ≡ x → get_or s r false ≡ get_or (over s0 0 told) r false
        go r true z =
            let d : r < word 0 t = ltb-true r (word 0 t) z in
            marked-is r d ∙ sym (get_d_over-front s0 told r false (omega (arith, told-length)) ∙ get_d_map_in (λ k. has k (group_at t i)) (ids_of t) r 0 false (omega (arith, length-keys 52 (word 0 t) (drop 1 t))) ∙ ap (λ k. has k (group_at t i)) (id-of t h r d))
        go r false z =
            let d : word 0 t ≤ r = ltb-false r (word 0 t) z in
            marked-not r d ∙ sym (get_d_over-behind s0 0 told r false (omega (arith, told-length)) (omega (arith, told-length)) ∙ unmarked s0 r a)

  -- ---- the same as the code has it

  few : word 0 t ≤ 1024
  few = lanes-few t h

  pub may-first : (s : List Bool) (q : List ℕ) → length s ≡ 1024 → all not s ≡ true → length q ≡ 1024 → May (Some i) s q 0
  may-first s q a b c = (c ∙ sym a, (rw a (lt-ltb i 1024 (omega (arith, few))), sym (marks-none s b)))

  pub begun : (s s1 : List Bool) (q q1 : List ℕ) (e1 : ℕ) → length s ≡ 1024 → all not s ≡ true → length q ≡ 1024 → Entered (Some i) s q 0 s1 q1 e1 → Holds t i s1 q1 0 e1
  begun s s1 q q1 e1 a b c d =
      let z : length q ≡ length s = c ∙ sym a in
      let w = walk_first s q b z (rw a few) in
      let x : length s1 ≡ 1024 = ap length d.1.0 ∙ marked-length (Some i) s ∙ a in
      let y : length q1 ≡ 1024 = ap length d.1.1 ∙ queued-length (Some i) s 0 q ∙ c in
      (x, (y, (rw d.1.0 (mark-sets (Some i) s i refl (rw a (omega (arith, few)))), rw (d.0, d.1.0, d.1.1) w)))

  module _ (s : List Bool) (q : List ℕ) (done end : ℕ) (w : Holds t i s q done end) where
    room : word 0 t ≤ length s
    room = rw w.0 few

    pub walk-fits : done < end → done < 1024
    walk-fits n = omega (arith, w.1.1.1.counted, marks-few s, w.0)

    pub row_in : done < end → get_or q done 0 < word 0 t
    row_in n = w.1.1.1.in_rows done n

    pub may-left : (f : Option ℕ) → f ≡ slot_row t 14 (get_or q done 0) → May f s q end
    may-left f e = (w.1.0 ∙ sym w.0, (rw e (slot_in_lem (length s) 14 (get_or q done 0) room), w.1.1.1.counted))

    pub queue-stays : (f : Option ℕ) (s1 : List Bool) (q1 : List ℕ) (e1 : ℕ) → Entered f s q end s1 q1 e1 → 1024 ≡ length q1
    queue-stays f s1 q1 e1 d = sym (ap length d.1.1 ∙ queued-length f s end q ∙ w.1.0)

    pub may-right : (f g : Option ℕ) (s1 : List Bool) (q1 : List ℕ) (e1 : ℕ) → Entered f s q end s1 q1 e1 → g ≡ slot_row t 16 (get_or q done 0) → May g s1 q1 e1
    may-right f g s1 q1 e1 d e =
        let x : length s1 ≡ length s = ap length d.1.0 ∙ marked-length f s in
        let y : length q1 ≡ length q = ap length d.1.1 ∙ queued-length f s end q in
        (y ∙ w.1.0 ∙ sym (x ∙ w.0), (rw (x, e) (slot_in_lem (length s) 16 (get_or q done 0) room), d.0 ∙ ap marks (sym d.1.0)))

    pub turned : (f g : Option ℕ) (s1 s2 : List Bool) (q1 q2 : List ℕ) (e1 e2 : ℕ) → done < end → f ≡ slot_row t 14 (get_or q done 0) → g ≡ slot_row t 16 (get_or q done 0)
        → Entered f s q end s1 q1 e1 → Entered g s1 q1 e1 s2 q2 e2 → Holds t i s2 q2 (done + 1) e2
    turned f g s1 s2 q1 q2 e1 e2 n ef eg d k =
        let x : length s2 ≡ 1024 = ap length k.1.0 ∙ marked-length g s1 ∙ ap length d.1.0 ∙ marked-length f s ∙ w.0 in
        let y : length q2 ≡ 1024 = ap length k.1.1 ∙ queued-length g s1 e1 q1 ∙ ap length d.1.1 ∙ queued-length f s end q ∙ w.1.0 in
        let o1 : get_or s1 i false ≡ true = rw d.1.0 (mark-keeps f s i w.1.1.0) in
        let o2 : get_or s2 i false ≡ true = rw k.1.0 (mark-keeps g s1 i o1) in
        (x, (y, (o2, turn s q done end w.1.1.1 room n f g ef eg s1 s2 q1 q2 e1 e2 d.1.0 d.1.1 d.0 k.1.0 k.1.1 k.0)))

    pub ended : (s0 : List Bool) → length s0 ≡ 1024 → all not s0 ≡ true → end ≤ done → s ≡ over s0 0 (map (λ k. has k (group_at t i)) (ids_of t))
    ended s0 a b n = walk_ends s0 s q done end w.1.1.1 b (w.0 ∙ sym a) room w.1.1.0 n
