-- A walk over lines that take their points: what is left of it. Assumes nothing.
use mathlib.Core.Path.{◌≡◌, refl, sym, ◌∙◌}
use mathlib.Core.Bool.{Bool, true, false, false≢true}
use mathlib.Core.List.{List, [], ◌∷◌, ◌++◌}
use Prim.Native.Nat.{ℕ, ◌+◌, ◌-◌, ◌*◌, ◌≤◌, ◌<◌}
use lib.ListN.{length, get_or, take, drop}
use lib.Seq.{drop-drop}
use Rattle.lists.specs.Every.{all}
use Rattle.lists.specs.Rows.{reads}
use Rattle.lists.specs.Select.{each}
use Rattle.lists.proofs.Every.{all_split}
use Rattle.lists.proofs.Booleans.{and-fst, and-snd}
use Rattle.tables.specs.Formed.{Span, span_at, center_span}
use Rattle.apart.specs.Marks.{apart_by, marked_all, within}
use Rattle.apart.proofs.Marks.{reads-step, span-at, joined, apart-append, marked_append}

-- the marks were m₀ before all of `whole`, and are m before `rest`
pub record Left (m₀ : List Bool) (whole : List Span) (m : List Bool) (rest : List Span) : Type 0 where
  pub long : length m ≡ length m₀
  pub fits : all (within (length m₀)) rest ≡ true
  pub apart : apart_by m₀ whole ≡ apart_by m rest
  pub marks : marked_all m₀ whole ≡ marked_all m rest

pub left-start : (m : List Bool) (whole rest : List Span) → whole ≡ rest → all (within (length m)) whole ≡ true → Left m whole m rest
left-start m whole rest e h = record { long = refl; fits = rw e at h; apart = rw e; marks = rw e }

module _ (m₀ : List Bool) (whole : List Span) (m : List Bool) where
  -- the lines `a` are next
  module _ (a rest : List Span) (l : Left m₀ whole m (a ++ rest)) where
    pub left-fits : all (within (length m)) a ≡ true
    left-fits = rw l.long (and-fst (all (within (length m₀)) a) (all (within (length m₀)) rest) (sym (all_split (within (length m₀)) a rest) ∙ l.fits))

    pub left_step : (x : List Bool) → length x ≡ length m → apart_by m a ≡ true → x ≡ marked_all m a → Left m₀ whole x rest
    left_step x n t e =
        record {
          long = n ∙ l.long;
          fits = and-snd (all (within (length m₀)) a) (all (within (length m₀)) rest) (sym (all_split (within (length m₀)) a rest) ∙ l.fits);
          apart = l.apart ∙ apart-append m a rest ∙ rw (t, e);
          marks = l.marks ∙ marked_append m a rest ∙ rw e;
        }

    pub left-stop : apart_by m a ≡ false → apart_by m₀ whole ≡ false
    left-stop f = l.apart ∙ apart-append m a rest ∙ rw f

  pub left-done : (rest : List Span) → rest ≡ [] → Left m₀ whole m rest → (true ≡ apart_by m₀ whole) × (m ≡ marked_all m₀ whole)
  unfolding apart_by marked_all
  left-done rest e l = (sym (l.apart ∙ rw e), sym (l.marks ∙ rw e))

  pub left-all : (rest : List Span) → Left m₀ whole m rest → all (within (length m)) rest ≡ true
  left-all rest l = rw l.long l.fits

  -- the next row of a column
  pub left-row : (t : List ℕ) (row k n i : ℕ) → k + 2 ≤ row → i < n
      → Left m₀ whole m (reads row (span_at k) (n - i) (drop (i * row) (drop 1 t)))
      → Left m₀ whole m (record { start = get_or t (1 + i * row + k) 0; size = get_or t (1 + i * row + k + 1) 0 } ∷ reads row (span_at k) (n - (i + 1)) (drop ((i + 1) * row) (drop 1 t)))
  left-row t row k n i h g l = rw (← span-at t row k i h, ← reads-step row (span_at k) n i (drop 1 t) g) l

  -- the next lane's centreline
  pub left_lane : (t : List ℕ) (n i d : ℕ) → d ≡ 52 → i < n
      → Left m₀ whole m (joined (reads 52 center_span (n - i) (drop (i * 52) (drop 1 t))))
      → Left m₀ whole m (center_span (take d (drop (1 + i * 52) t)) ++ joined (reads 52 center_span (n - (i + 1)) (drop ((i + 1) * 52) (drop 1 t))))
  unfolding each
  left_lane t n i d e g l = rw e (rw (reads-step 52 center_span n i (drop 1 t) g, drop-drop (i * 52) 1 t) at l)

-- a test that failed
pub never : {A : Type 0} → false ≡ true → A
never h = absurd (false≢true h)
