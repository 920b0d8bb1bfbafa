-- What a job comes to, by what its run came to. Assumes nothing.
use Rattle.jobs.specs.declared.Done.{Done}
use Rattle.jobs.specs.declared.RefusedEdit.{RefusedEdit}
use Rattle.std.specs.Prelude.{Err, Ok, Result}
use mathlib.Core.Path.{◌≡◌, refl, sym, ap, ◌∙◌, subst}
use mathlib.Core.Bool.{true, false, cond}
use mathlib.Core.List.{List}
use Prim.Native.Nat.{ℕ}
use Rattle.rules.specs.Names.{Refusal}
use Rattle.tables.specs.View.{Tables}
use Rattle.report.specs.declared.Counts.{Counts}
use Rattle.room.specs.Room.{lists_fit}
use Rattle.jobs.specs.declared.JobRefusal.TheVariants.{NoRoom, EditRefused}
use Rattle.job_net.specs.Net.{NetListed, net_counts}
use Rattle.job_decided.specs.declared.JobEnd.{JobEnd}
use Rattle.job_decided.specs.Decided.{DecidedAs, Sorted, job_end}

pub done-sorted : (t old : Tables) (a : Result Done RefusedEdit) (k told : ℕ) → a ≡ Ok (record { counter = k; warnings = told }) → Sorted a t old → Sorted (Ok (record { counter = k; warnings = told })) t old
done-sorted t old a k told e h = subst (λ z. Sorted z t old) e h

module _ (counter : ℕ) (t old : Tables) (ms all-created all-modified all-deleted created modified deleted warnings : List ℕ) where
  abbrev Ends : Result Done RefusedEdit → JobEnd → List ℕ → List ℕ → List ℕ → Type 0
  Ends a r c m d = DecidedAs counter t old ms all-created all-modified all-deleted a created modified deleted warnings r c m d

  pub ends-refused : (a : Result Done RefusedEdit) (p : ℕ) (x : Refusal) (c m d : List ℕ) → a ≡ Err (record { place = p; refusal = x }) → Ends a (job_end counter (Err (EditRefused p x))) c m d
  ends-refused a p x c m d e = subst (λ z. Ends z (job_end counter (Err (EditRefused p x))) c m d) (sym e) refl

  module _ (a : Result Done RefusedEdit) (k told : ℕ) (e : a ≡ Ok (record { counter = k; warnings = told })) (n : Counts) (c m d : List ℕ) (h : NetListed t old ms told all-created all-modified all-deleted n c m d) where
    abbrev net : Counts
    net = net_counts t old ms told

    -- the lists are written either way
    pub ends-made : lists_fit n created modified deleted warnings ≡ true → Ends a (job_end k (Ok n)) c m d
    ends-made f =
        let g : lists_fit net created modified deleted warnings ≡ true = subst (λ z. lists_fit z created modified deleted warnings ≡ true) h.0 f in
        subst (λ z. Ends z (job_end k (Ok n)) c m d) (sym e)
        (ap (λ z. job_end k (Ok z)) h.0 ∙ sym (ap (λ b. cond b (job_end k (Ok net)) (job_end counter (Err NoRoom))) g), h.1)

    pub ends-short : lists_fit n created modified deleted warnings ≡ false → Ends a (job_end counter (Err NoRoom)) c m d
    ends-short f =
        let g : lists_fit net created modified deleted warnings ≡ false = subst (λ z. lists_fit z created modified deleted warnings ≡ false) h.0 f in
        subst (λ z. Ends z (job_end counter (Err NoRoom)) c m d) (sym e) (sym (ap (λ b. cond b (job_end k (Ok net)) (job_end counter (Err NoRoom))) g), h.1)
