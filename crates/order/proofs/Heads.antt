-- The first of lines that lie in order: what is known of it, and of those behind it. Assumes nothing.
use mathlib.Core.Path.{◌≡◌, refl}
use mathlib.Core.Logic.{◌⊎◌, inl, inr, ⊎_elim}
use mathlib.Core.Bool.{Bool, true, false, ◌&&◌, cond}
use mathlib.Core.List.{List, [], ◌∷◌}
use Prim.Native.Nat.{ℕ, suc, ◌+◌, ◌≤◌, ◌<◌}
use native.Mathlib.Omega.{arith}
use lib.Dec.{eqb, leb}
use borrow.Author.Tests.{leb-true, leb-false, eqb-true, eqb-false}
use Rattle.tables.specs.Formed.{Span}
use Rattle.order.specs.Order.{behind, behind_all}
use Rattle.order.proofs.Behind.{behind-none, behind-drawn, behind_test}

-- a line that has no point or is drawn; one that has points and starts before `reach`
abbrev pub Loose : ℕ → Span → Type 0
Loose reach s = (s.size ≡ 0) ⊎ ((s.size ≡ 0 → ⊥) × (reach ≤ s.start))

abbrev pub Stored : ℕ → Span → Type 0
Stored reach s = (s.size ≡ 0 → ⊥) × (s.start < reach)

pub line-cases : (reach : ℕ) (s : Span) → Loose reach s ⊎ Stored reach s
line-cases reach s = go (eqb s.size 0) refl (leb reach s.start) refl
  where
    go : (a : Bool) → eqb s.size 0 ≡ a → (b : Bool) → leb reach s.start ≡ b → Loose reach s ⊎ Stored reach s
    go true p b q = inl (inl (eqb-true s.size 0 p))
    go false p true q = inl (inr (eqb-false s.size 0 p, leb-true reach s.start q))
    go false p false q = inr (eqb-false s.size 0 p, leb-false reach s.start q)

-- a line in order leaves the point behind it
behind-stored : (reach from : ℕ) (s : Span) → (s.size ≡ 0 → ⊥) → s.start < reach
    → (behind reach from s ≡ suc reach) ⊎ ((from ≤ s.start) × ((s.start + s.size ≤ reach) × (behind reach from s ≡ s.start + s.size)))
behind-stored reach from s n h = rw (behind_test reach from s n h) (go (leb from s.start) refl (leb (s.start + s.size) reach) refl)
  where
    go : (a : Bool) → leb from s.start ≡ a → (b : Bool) → leb (s.start + s.size) reach ≡ b
        → (cond (a && b) (s.start + s.size) (suc reach) ≡ suc reach) ⊎ ((from ≤ s.start) × ((s.start + s.size ≤ reach) × (cond (a && b) (s.start + s.size) (suc reach) ≡ s.start + s.size)))
    go true p true q = inr (leb-true from s.start p, (leb-true (s.start + s.size) reach q, refl))
    go true p false q = inl refl
    go false p b q = inl refl

-- behind a point behind `reach` no line is in order
lost : (reach from : ℕ) (ss : List Span) → reach < from → reach < behind_all reach from ss
unfolding behind_all
lost reach from [] h = h
lost reach from (s ∷ ss) h =
    lost reach (behind reach from s) ss (⊎_elim {B = Stored reach s} (⊎_elim (λ e. rw (behind-none reach from s e) h) (λ e. rw (behind-drawn reach from s e.0 e.1) h)) (λ e. ⊎_elim (λ f. rw f (omega arith)) (λ f. absurd (omega arith)) (behind-stored reach from s e.0 e.1)) (line-cases reach s))

-- the first of lines in order
pub first_any : (reach from : ℕ) (s : Span) (ss : List Span) → Loose reach s → behind_all reach from (s ∷ ss) ≤ reach → behind_all reach from ss ≤ reach
unfolding behind_all
first_any reach from s ss a h =
    let e : behind reach from s ≡ from = ⊎_elim (behind-none reach from s) (λ e. behind-drawn reach from s e.0 e.1) a in
    rw e at h

pub first-stored : (reach from : ℕ) (s : Span) (ss : List Span) → (s.size ≡ 0 → ⊥) → s.start < reach → behind_all reach from (s ∷ ss) ≤ reach
    → (from ≤ s.start) × ((s.start + s.size ≤ reach) × (behind_all reach (s.start + s.size) ss ≤ reach))
unfolding behind_all
first-stored reach from s ss n g h =
    ⊎_elim (λ e. absurd (out e)) (λ e. (e.0, (e.1.0, rw e.1.1 at h))) (behind-stored reach from s n g)
  where
    out : behind reach from s ≡ suc reach → ⊥
    out e = omega (arith, lost reach (behind reach from s) ss (omega arith))
