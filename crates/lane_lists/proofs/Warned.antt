-- The warnings of a removal: a row of ten words for each rule that is left with no lane. Assumes nothing.
use mathlib.Core.Path.{◌≡◌, refl, sym, ap, ◌∙◌}
use Prim.Native.Nat.{ℕ, ◌+◌, ◌*◌, ◌≤◌, ◌<◌}
use native.Mathlib.Omega.{arith}
use mathlib.Core.Bool.{Bool, true, false}
use mathlib.Core.List.{List, [], ◌∷◌, map, map-append}
use lib.ListN.{length, length-map}
use Rattle.lists.specs.Every.{all}
use Rattle.entities.specs.Records.{Issue}
use Rattle.rules.specs.Edit.{when}
use Rattle.store.specs.Store.{writes}
use Rattle.tables.specs.View.{word}
use Rattle.row_tests.proofs.Tables.{row_of}
use Rattle.report.specs.Report.{warned, warned_at, orphan_rule}
use Rattle.report.proofs.Warnings.{short, none-put, warned-behind, length-warned}
use Rattle.mentions.specs.declared.Rows.TheVariants.{Orphans}
use Rattle.mentions.specs.Naming.{names_lane, naming}
use Rattle.mentions.proofs.Turns.{named_of, named_none, named-all, named_more, named_count, named-within}

-- ---- one warning, or none

module _ (w : List ℕ) (at x : ℕ) (b : Bool) where
  pub warn_room : (at + length (when b x)) * 10 ≤ length w → b ≡ true → at * 10 + 10 ≤ length w
  warn_room h t = let z : length (when b x) ≡ 1 = rw t in omega arith

  pub warn_on : (v : List ℕ) → b ≡ true → v ≡ warned_at at w (orphan_rule x ∷ []) → (at + 1 ≡ at + length (when b x)) × (v ≡ warned_at at w (map orphan_rule (when b x)))
  warn_on v t e = rw t (refl, e)

  pub warn_off : b ≡ false → (at ≡ at + length (when b x)) × (w ≡ warned_at at w (map orphan_rule (when b x)))
  warn_off t = rw t (omega arith, none-put at w)

-- ---- the warnings of the first i rows

-- each fills its row
orphans_short : (xs : List ℕ) → all short (map orphan_rule xs) ≡ true
unfolding all
orphans_short [] = refl
orphans_short (x ∷ xs) = orphans_short xs

pub record Warned (a : ℕ) (t w₀ w : List ℕ) (i place : ℕ) : Type 0 where
  pub upto : i ≤ word 0 t
  pub many : place ≡ length (named_of Orphans a t i)
  pub words : w ≡ warned w₀ (map orphan_rule (named_of Orphans a t i))

module _ (a : ℕ) (t w₀ : List ℕ) (room : length (naming Orphans a t) * 10 ≤ length w₀) where
  pub warned-none : Warned a t w₀ w₀ 0 0
  unfolding warned writes
  warned-none =
      record {
        upto = omega arith;
        many = sym (ap length (named_none Orphans a t));
        words = sym (ap (λ z. warned w₀ (map orphan_rule z)) (named_none Orphans a t));
      }

  module _ (w : List ℕ) (i place : ℕ) (m : Warned a t w₀ w i place) where
    abbrev warnings : List Issue
    warnings = map orphan_rule (named_of Orphans a t i)

    many : length warnings ≡ length (named_of Orphans a t i)
    many = length-map (named_of Orphans a t i) orphan_rule

    within : length warnings * 10 ≤ length w₀
    within = omega (arith, many, named-within Orphans a t i m.upto)

    pub warned-length : length w ≡ length w₀
    warned-length = ap length m.words ∙ length-warned w₀ warnings (orphans_short (named_of Orphans a t i)) within

    module _ (l : i < word 0 t) (b : Bool) (be : b ≡ names_lane Orphans a (row_of 330 t i)) where
      pub warned-room : (place + length (when b (word (1 + i * 330) t))) * 10 ≤ length w
      warned-room = omega (arith, warned-length, m.many, named_count Orphans a t 330 refl i b be, named-within Orphans a t (i + 1) (omega arith))

      pub warned-turn : (v : List ℕ) (r : ℕ) → r ≡ place + length (when b (word (1 + i * 330) t)) → v ≡ warned_at place w (map orphan_rule (when b (word (1 + i * 330) t))) → Warned a t w₀ v (i + 1) r
      warned-turn v r re ve =
          let ids = named_of Orphans a t i in
          let new = when b (word (1 + i * 330) t) in
          record {
            upto = omega arith;
            many = omega (arith, m.many, named_count Orphans a t 330 refl i b be);
            words =
                ve
                ∙ (ap (λ n. warned_at n w (map orphan_rule new)) (m.many ∙ sym many)
                ∙ (ap (λ z. warned_at (length warnings) z (map orphan_rule new)) m.words
                ∙ (warned-behind w₀ warnings (map orphan_rule new) (orphans_short ids) within
                ∙ ap (warned w₀) (sym (map-append orphan_rule ids new) ∙ ap (map orphan_rule) (sym (named_more Orphans a t 330 refl i b be))))));
          }

    pub warned-all : word 0 t ≤ i → w ≡ warned w₀ (map orphan_rule (naming Orphans a t))
    warned-all h = m.words ∙ ap (λ z. warned w₀ (map orphan_rule z)) (named-all Orphans a t i (omega (arith, m.upto)))
