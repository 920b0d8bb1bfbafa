-- What edits come to behind others that were made before them. Assumes nothing.
use mathlib.Core.Path.{◌≡◌, refl, ap}
use mathlib.Core.List.{List, [], ◌∷◌, ◌++◌}
use Prim.Native.Nat.{ℕ}
use Rattle.entities.specs.declared.Refusal.{Refusal}
use Rattle.entities.specs.Records.{ChangeSet}
use Rattle.jobs.specs.Job.{Run, done, stopped, preceded}

-- with the change sets of those before, in order
unfoldable pub preceded_by : {S : Type 0} → List ChangeSet → Run S → Run S
preceded_by [] r = r
preceded_by (cs ∷ css) r = preceded cs (preceded_by css r)

module _ {S : Type 0} where
  pub preceded-last : (css : List ChangeSet) (cs : ChangeSet) (r : Run S) → preceded_by (css ++ (cs ∷ [])) r ≡ preceded_by css (preceded cs r)
  unfolding preceded_by
  preceded-last [] cs r = refl
  preceded-last (x ∷ css) cs r = ap (preceded x) (preceded-last css cs r)

  pub preceded-done : (css : List ChangeSet) (s : S) (ds : List ChangeSet) → preceded_by css (done s ds) ≡ done s (css ++ ds)
  unfolding preceded_by
  preceded-done [] s ds = refl
  preceded-done (x ∷ css) s ds = ap (preceded x) (preceded-done css s ds)

  pub preceded-stopped : (css : List ChangeSet) (place : ℕ) (r : Refusal) → preceded_by {S = S} css (stopped place r) ≡ stopped place r
  unfolding preceded_by
  preceded-stopped [] place r = refl
  preceded-stopped (x ∷ css) place r = ap (preceded x) (preceded-stopped css place r)
