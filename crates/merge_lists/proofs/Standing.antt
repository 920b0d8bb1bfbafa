-- Entities written one kind behind the other into a lent list. Assumes nothing.
use mathlib.Core.Path.{◌≡◌, refl, sym, ap, ◌∙◌}
use Prim.Native.Nat.{ℕ, ◌+◌, ◌*◌, ◌≤◌}
use native.Mathlib.Omega.{arith}
use mathlib.Core.List.{List, [], ◌++◌}
use lib.ListN.{length, length-append, length-map}
use Rattle.lists.specs.Rows.{over}
use Rattle.lists.specs.Select.{each}
use Rattle.lists.proofs.Rows.{over-over, length_over}
use Rattle.lists.proofs.Select.{each_append}
use Rattle.rules.specs.Names.{EntityKind, EntityRef}
use Rattle.rules.specs.Edit.{refs}
use Rattle.report.specs.Report.{entity_words, listed}
use Rattle.report.proofs.Laws.{length-entities, listed_nil}

pub length-refs : (q : EntityKind) (ids : List ℕ) → length (refs q ids) ≡ length ids
length-refs q ids = length-map ids (λ (i : ℕ). record { kind = q; id = i })

-- the list v is w with `es` written at its front, and `at` is the place behind them
abbrev pub Stands : List ℕ → List EntityRef → List ℕ → ℕ → Type 0
Stands w es v at = (at ≡ length es) × (v ≡ listed w es)

pub none-stand : (w : List ℕ) → Stands w [] w 0
none-stand w = (refl, sym (listed_nil w))

-- entities of one kind written behind those that stand there
module _ (w : List ℕ) (es : List EntityRef) (v : List ℕ) (at : ℕ) (s : Stands w es v at) (q : EntityKind) (ids : List ℕ) (room : (length es + length ids) * 2 ≤ length w) where
  pub stand-room : (at + length ids) * 2 ≤ length v
  unfolding listed
  stand-room = omega (arith, s.0, ap length s.1, length_over w 0 (each entity_words es) (omega (arith, length-entities es)))

  pub stand-more : (n : ℕ) (u : List ℕ) → n ≡ at + length ids → u ≡ over v (at * 2) (each entity_words (refs q ids)) → Stands w (es ++ refs q ids) u n
  unfolding listed
  stand-more n u e f =
      let m : n ≡ length (es ++ refs q ids) = omega (arith, s.0, length-append es (refs q ids), length-refs q ids) in
      let l : 0 + length (each entity_words es) ≡ at * 2 = omega (arith, s.0, length-entities es) in
      let h : at * 2 ≤ length w = omega (arith, s.0) in (
        m,
        f
            ∙ (ap (λ z. over z (at * 2) (each entity_words (refs q ids))) s.1
            ∙ (over-over w 0 (at * 2) (each entity_words es) (each entity_words (refs q ids)) l h ∙ ap (over w 0) (sym (each_append entity_words es (refs q ids))))),
      )
