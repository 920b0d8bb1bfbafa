-- THE LAW of this crate (`settled`): lines that lie in order, moved down from the front on and brought up from the back on, are the lines laid out from where they
-- lay. Assumes nothing.
use mathlib.Core.Path.{◌≡◌, refl, sym, ap, ◌∙◌}
use mathlib.Core.Logic.{inl, inr, ⊎_elim}
use mathlib.Core.Bool.{Bool, true, false}
use mathlib.Core.List.{List, [], ◌∷◌, ◌++◌}
use Prim.Native.Nat.{ℕ, ◌+◌, ◌*◌, ◌/◌, ◌≤◌, ◌<◌}
use native.Mathlib.Omega.{arith}
use lib.Dec.{eqb, leb}
use lib.ListN.{length, length-append}
use lib.Ieee.{Float}
use borrow.Author.Tests.{eq-eqb, le-leb, leb-true, leb-false}
use Rattle.lists.specs.Every.{all}
use Rattle.lists.specs.Rows.{over}
use Rattle.lists.specs.Select.{each}
use Rattle.lists.proofs.Every.{all_nil, all_cons, all_head, all_tail}
use Rattle.lists.proofs.Booleans.{or_right}
use Rattle.lists.proofs.Rows.{over-nil, over-over, over-ahead, length_over}
use Rattle.tables.specs.View.{part}
use Rattle.tables.specs.Formed.{Span}
use Rattle.apart.specs.Marks.{within}
use Rattle.layout.specs.Layout.{line_floats, points_in, sourced}
use Rattle.layout.proofs.Column.{length-laid}
use Rattle.order.specs.Order.{behind_all}
use Rattle.order.proofs.Heads.{Loose, Stored, line-cases, first_any, first-stored}
use Rattle.in_place.specs.Settle.{down_one, down_all, up_one, up_all, lies}
use Rattle.in_place.proofs.Moves.{lies-cases, part_none, part-empty, part-before, part-behind, length-sourced, read-stored, read-drawn, down-none, down-drawn, down-stays, down-moved, up_none, up-drawn, up-stays, up-placed}

module _ (drawn : List Float) (reach : ℕ) where
  abbrev source : List Float → List Float
  source c = sourced reach c drawn

  -- what is written before the next line of lines in order changes none of them
  module _ (c : List Float) (a : ℕ) (x : List Float) (f : reach * 3 ≤ length c) (g : a + length x ≤ length c) where
    abbrev v : List Float
    v = over c a x

    same_line : (from : ℕ) (s : Span) (ss : List Span) → a + length x ≤ from * 3 → behind_all reach from (s ∷ ss) ≤ reach
        → (part (source v) s.start s.size ≡ part (source c) s.start s.size) × ((q : ℕ) × ((a + length x ≤ q * 3) × (behind_all reach q ss ≤ reach)))
    same_line from s ss h o = ⊎_elim any stored (line-cases reach s)
      where
        l : reach * 3 ≤ length v
        l = rw (length_over c a x g) f

        any : Loose reach s
            → (part (source v) s.start s.size ≡ part (source c) s.start s.size) × ((q : ℕ) × ((a + length x ≤ q * 3) × (behind_all reach q ss ≤ reach)))
        any e =
            (⊎_elim (part_none (source v) (source c) s.start s.start s.size) (λ z. read-drawn drawn reach v l s.start s.size z.1 ∙ sym (read-drawn drawn reach c f s.start s.size z.1)) e, (from, (h, first_any reach from s ss e o)))

        stored : Stored reach s
            → (part (source v) s.start s.size ≡ part (source c) s.start s.size) × ((q : ℕ) × ((a + length x ≤ q * 3) × (behind_all reach q ss ≤ reach)))
        stored e =
            let i = first-stored reach from s ss e.0 e.1 o in
            (read-stored drawn reach v l s.start s.size i.1.0 ∙ (part-behind c s.start s.size a x (omega arith) g ∙ sym (read-stored drawn reach c f s.start s.size i.1.0)), (s.start + s.size, (omega arith, i.1.1)))

    pub unread : (from : ℕ) (ss : List Span) → a + length x ≤ from * 3 → behind_all reach from ss ≤ reach → line_floats (source v) ss ≡ line_floats (source c) ss
    unfolding line_floats each
    unread from [] h o = refl
    unread from (s ∷ ss) h o =
        let e = same_line from s ss h o in
        let r = unread e.1.0 ss e.1.1.0 e.1.1.1 in
        rw e.0 (ap (λ z. part (source c) s.start s.size ++ z) r)

  -- lines that lie are lines among all points
  pub lies_within : (n : ℕ) (s : Span) → lies reach n s ≡ true → within (reach + n) s ≡ true
  lies_within n s h = ⊎_elim (λ e. rw (eq-eqb s.size 0 e)) (λ e. or_right (eqb s.size 0) (leb (s.start + s.size) (reach + n)) (le-leb (s.start + s.size) (reach + n) (⊎_elim (λ z. omega arith) (λ z. z.1) e))) (lies-cases reach n s h)

  pub all-lie-within : (n : ℕ) (ss : List Span) → all (lies reach n) ss ≡ true → all (within (reach + n)) ss ≡ true
  all-lie-within n [] h = all_nil (within (reach + n))
  all-lie-within n (s ∷ ss) h = all_cons (within (reach + n)) s ss (lies_within n s (all_head (lies reach n) s ss h)) (all-lie-within n ss (all_tail (lies reach n) s ss h))

  length-lines : (c : List Float) (ss : List Span) → reach * 3 ≤ length c → all (lies reach (length drawn / 3)) ss ≡ true → length (line_floats (source c) ss) ≡ points_in ss * 3
  length-lines c ss f h =
      let e : length (source c) / 3 ≡ reach + length drawn / 3 = omega (arith, length-sourced drawn reach c f) in
      length-laid (source c) ss (rw e (all-lie-within (length drawn / 3) ss h))

  -- ---- down and up

  -- lines that may be settled from point `at` on
  pub record Settles (from at : ℕ) (ss : List Span) (c : List Float) : Type 0 where
    pub stored : reach * 3 ≤ length c
    pub room : (at + points_in ss) * 3 ≤ length c
    pub lying : all (lies reach (length drawn / 3)) ss ≡ true
    pub ordered : behind_all reach from ss ≤ reach

  abbrev Law : ℕ → List Span → List Float → Type 0
  Law at ss c = up_all drawn reach at ss (down_all reach at ss c) ≡ over c (at * 3) (line_floats (source c) ss)

  -- the first line, if the law holds of the others
  module _ (from at : ℕ) (s : Span) (ss : List Span) (c : List Float) (h : Settles from at (s ∷ ss) c) (rest : (q : ℕ) (d : List Float) → Settles q (at + s.size) ss d → Law (at + s.size) ss d) where
    abbrev line : List Float
    line = part (source c) s.start s.size

    abbrev others : List Float
    others = line_floats (source c) ss

    points : points_in (s ∷ ss) ≡ s.size + points_in ss
    points = unfold points_in in refl

    laid : line_floats (source c) (s ∷ ss) ≡ line ++ others
    laid = unfold line_floats each in refl

    lain : all (lies reach (length drawn / 3)) ss ≡ true
    lain = all_tail (lies reach (length drawn / 3)) s ss h.lying

    length-others : length others ≡ points_in ss * 3
    length-others = length-lines c ss h.stored lain

    length-line : length line ≡ s.size * 3
    length-line = omega (arith, length-lines c (s ∷ ss) h.stored h.lying, ap length laid, length-append line others, length-others, points)

    after : (q : ℕ) (d : List Float) → length d ≡ length c → behind_all reach q ss ≤ reach → Law (at + s.size) ss d
    after q d e o = rest q d (record { stored = omega (arith, h.stored); room = omega (arith, h.room, points); lying = lain; ordered = o })

    -- it stays, and is brought to its place when the others are at theirs
    ahead : down_one reach at s c ≡ c → (q : ℕ) → behind_all reach q ss ≤ reach
        → up_one drawn reach at s (over c ((at + s.size) * 3) others) ≡ over (over c ((at + s.size) * 3) others) (at * 3) line → Law at (s ∷ ss) c
    unfolding up_all down_all
    ahead d q o u =
        rw (d, after q c refl o, laid) (u ∙ over-ahead c (at * 3) ((at + s.size) * 3) line others (omega (arith, length-line)) (omega (arith, length-others, h.room, points)))

    -- it is moved first, and the others are brought to their places
    moved : down_one reach at s c ≡ over c (at * 3) line → (q : ℕ) → behind_all reach q ss ≤ reach → at + s.size ≤ q → ((d : List Float) → up_one drawn reach at s d ≡ d) → Law at (s ∷ ss) c
    unfolding up_all down_all
    moved d q o i u =
        let g : at * 3 + length line ≤ length c = omega (arith, length-line, h.room, points) in
        let w = over c (at * 3) line in
        let r = after q w (length_over c (at * 3) line g) o in
        let e : line_floats (source w) ss ≡ others = unread c (at * 3) line h.stored g q ss (omega (arith, length-line)) o in
        rw (d, u, r, e, laid) (over-over c (at * 3) ((at + s.size) * 3) line others (omega (arith, length-line)) (omega (arith, h.room, points)))

    settle-none : s.size ≡ 0 → Law at (s ∷ ss) c
    settle-none e =
        let v = over c ((at + s.size) * 3) others in
        let z : line ≡ [] = part-empty (source c) s.start s.size e in
        ahead (down-none reach at s c e) from (first_any reach from s ss (inl e) h.ordered) (up_none reach at s v drawn e ∙ rw z (sym (over-nil v (at * 3))))

    settle-drawn : (s.size ≡ 0 → ⊥) × (reach ≤ s.start) → Law at (s ∷ ss) c
    settle-drawn e =
        let v = over c ((at + s.size) * 3) others in
        ahead (down-drawn reach at s c e.1) from (first_any reach from s ss (inr e) h.ordered) (up-drawn reach at s v drawn e.0 e.1 ∙ ap (over v (at * 3)) (sym (read-drawn drawn reach c h.stored s.start s.size e.1)))

    settle-stored : Stored reach s → Law at (s ∷ ss) c
    settle-stored e = go (leb s.start at) refl
      where
        i : (from ≤ s.start) × ((s.start + s.size ≤ reach) × (behind_all reach (s.start + s.size) ss ≤ reach))
        i = first-stored reach from s ss e.0 e.1 h.ordered

        same : part c s.start s.size ≡ line
        same = sym (read-stored drawn reach c h.stored s.start s.size i.1.0)

        v : List Float
        v = over c ((at + s.size) * 3) others

        go : (b : Bool) → leb s.start at ≡ b → Law at (s ∷ ss) c
        go true b =
            let l : s.start ≤ at = leb-true s.start at b in
            let k : length v ≡ length c = length_over c ((at + s.size) * 3) others (omega (arith, length-others, h.room, points)) in
            let p : part v s.start s.size ≡ part c s.start s.size = part-before c s.start s.size ((at + s.size) * 3) others (omega arith) (omega (arith, h.room, points)) in
            ahead (down-stays reach at s c l) (s.start + s.size) i.1.1 (up-placed reach at s v drawn e.0 e.1 l (omega (arith, h.stored, i.1.0)) ∙ ap (over v (at * 3)) (p ∙ same))
        go false b =
            let l : at < s.start = leb-false s.start at b in
            moved (down-moved reach at s c e.0 e.1 l ∙ ap (over c (at * 3)) same) (s.start + s.size) i.1.1 (omega arith) (λ d. up-stays reach at s d drawn e.0 e.1 (omega arith))

    settle-first : Law at (s ∷ ss) c
    settle-first = ⊎_elim (λ e. ⊎_elim settle-none settle-drawn e) settle-stored (line-cases reach s)

  -- THE LAW
  pub settled : (ss : List Span) (from at : ℕ) (c : List Float) → Settles from at ss c → up_all drawn reach at ss (down_all reach at ss c) ≡ over c (at * 3) (line_floats (sourced reach c drawn) ss)
  settled [] from at c h = unfold up_all down_all line_floats each in sym (over-nil c (at * 3))
  settled (s ∷ ss) from at c h = settle-first from at s ss c h (λ q d. settled ss q (at + s.size) d)
