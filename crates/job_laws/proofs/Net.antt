-- The net change set of a job that is made is exact between its two ends. Assumes nothing.
use mathlib.Core.Path.{◌≡◌, refl, sym, ap, ◌∙◌}
use mathlib.Core.Bool.{Bool, true, false, not, ◌&&◌, true≢false}
use mathlib.Core.List.{List}
use Prim.Native.Nat.{ℕ}
use borrow.Author.Tests.{not-true}
use Rattle.lists.specs.Select.{keep, any}
use Rattle.lists.proofs.Booleans.{and_both, and-fst, and-snd, and-false, neither}
use Rattle.entities.specs.declared.Tolerance.{Tolerance}
use Rattle.entities.specs.declared.EntityRef.{EntityRef}
use Rattle.entities.specs.Records.{Map, ChangeSet}
use Rattle.rules.specs.Sound.{sound, Room}
use Rattle.rules.specs.Ops.{Command, State}
use Rattle.rules.specs.Demand.{entities, among, appeared, vanished, row, sorted, apart_from, Exact}
use Rattle.rules.proofs.Facts.{sound-facts}
use Rattle.laws.proofs.Part.{part-keep}
use Rattle.laws.proofs.Order.{sorted_part}
use Rattle.laws.proofs.Entities.{keys_of, entities-sorted}
use Rattle.jobs.specs.Job.{done, edits, listed_by, net}
use Rattle.job_laws.proofs.Once.{once-kept}
use Rattle.job_laws.proofs.Edits.{Trail, here, onward, trail, edits-sound}
use Rattle.job_laws.proofs.Past.{Past, present-past, past-stays, absent-next}
use Rattle.job_laws.proofs.Among.{among-keep, kept-apart}

-- ---- along the edits

module _ (tol : Tolerance) (room : Room) (e : EntityRef) where
  absent-stays : {cs : List Command} {s t : State} {css : List ChangeSet} → Trail tol room cs s t css → sound s.counter s.map ≡ true → Past s e
      → among e (entities s.map) ≡ false → among e (entities t.map) ≡ false
  absent-stays here sane past gone = gone
  absent-stays (onward {c = c} {s = s} x h l) sane past gone =
      let k = once-kept tol room c s sane x h in
      absent-stays l k.sound-left (past-stays tol c s x k e past) (absent-next tol c s x k e past gone)

  -- what stands at both ends and no edit lists as modified is what it was
  rows_same : {cs : List Command} {s t : State} {css : List ChangeSet} → Trail tol room cs s t css → sound s.counter s.map ≡ true
      → among e (entities s.map) ≡ true → among e (entities t.map) ≡ true → listed_by css e ≡ false → row s.map e ≡ row t.map e
  unfolding listed_by any
  rows_same here sane first last unlisted = refl
  rows_same (onward {c = c} {s = s} {t = t} {css = css} x h l) sane first last unlisted =
      let k = once-kept tol room c s sane x h in
      let (own, later) = neither (among e x.changes.modified) (listed_by css e) unlisted in
      let past = past-stays tol c s x k e (present-past s sane e first) in
      let stands = standing (among e (entities x.result)) (λ gone. true≢false (sym last ∙ absent-stays l k.sound-left past gone)) in
      k.exact.unmodified_same e first stands own ∙ rows_same l k.sound-left stands last later
    where
      standing : (b : Bool) → (b ≡ false → ⊥) → b ≡ true
      standing true h = refl
      standing false h = absurd (h refl)

-- ---- the net lists

module _ (m n : Map) (up : sorted (entities m) ≡ true) (up' : sorted (entities n) ≡ true) (css : List ChangeSet)
    (rows : (e : EntityRef) → among e (entities m) ≡ true → among e (entities n) ≡ true → listed_by css e ≡ false → row m e ≡ row n e) where
  abbrev new : EntityRef → Bool
  new e = not (among e (entities m))

  abbrev gone : EntityRef → Bool
  gone e = not (among e (entities n))

  abbrev changed : EntityRef → Bool
  changed e = among e (entities n) && listed_by css e

  -- what is new is in no list of what was there
  new_apart : (p : EntityRef → Bool) → apart_from (keep new (entities n)) (keep p (entities m)) ≡ true
  new_apart p = kept-apart new (entities n) (keep p (entities m)) (λ e t. among-keep e p (entities m) ∙ ap (λ b. b && p e) (not-true (among e (entities m)) t))

  changed-apart : apart_from (keep changed (entities m)) (keep gone (entities m)) ≡ true
  changed-apart =
      kept-apart changed (entities m) (keep gone (entities m))
      (λ e t. among-keep e gone (entities m) ∙ (ap (λ b. among e (entities m) && not b) (and-fst (among e (entities n)) (listed_by css e) t) ∙ and-false (among e (entities m))))

  net-lists : Exact m (net m n css) n
  unfolding net vanished appeared
  net-lists =
      record {
        created_is = refl;
        deleted_is = refl;
        modified_survives = survives;
        unmodified_same = λ e a b t. rows e a b (unlisted e (listed_by css e) a b (sym (among-keep e changed (entities m)) ∙ t));
        created_sorted = sorted_part (part-keep new (entities n)) up';
        modified_sorted = sorted_part (part-keep changed (entities m)) up;
        deleted_sorted = sorted_part (part-keep gone (entities m)) up;
        disjoint =
            and_both (apart_from (keep new (entities n)) (keep changed (entities m)) && apart_from (keep new (entities n)) (keep gone (entities m)))
            (apart_from (keep changed (entities m)) (keep gone (entities m)))
            (and_both (apart_from (keep new (entities n)) (keep changed (entities m))) (apart_from (keep new (entities n)) (keep gone (entities m))) (new_apart changed) (new_apart gone))
            changed-apart;
      }
    where
      survives : (e : EntityRef) → among e (keep changed (entities m)) ≡ true → (among e (entities m) ≡ true) × (among e (entities n) ≡ true)
      survives e t =
          let u = sym (among-keep e changed (entities m)) ∙ t in
          (and-fst (among e (entities m)) (changed e) u, and-fst (among e (entities n)) (listed_by css e) (and-snd (among e (entities m)) (changed e) u))

      unlisted : (e : EntityRef) (b : Bool) → among e (entities m) ≡ true → among e (entities n) ≡ true → (among e (entities m) && (among e (entities n) && b)) ≡ false → b ≡ false
      unlisted e b p q t = sym (rw (p, q)) ∙ t

pub net-exact : (tol : Tolerance) (room : Room) (place : ℕ) (cs : List Command) (s t : State) (css : List ChangeSet) → sound s.counter s.map ≡ true
    → edits tol room place cs s ≡ done t css → Exact s.map (net s.map t.map css) t.map
net-exact tol room place cs s t css sane made =
    let up : (s : State) → sound s.counter s.map ≡ true → sorted (entities s.map) ≡ true =
    λ s h. entities-sorted s.map (keys_of s.map (sound-facts s.counter s.map h).ids) in
    net-lists s.map t.map (up s sane) (up t (edits-sound tol room place cs s t css sane made)) css
    (λ e a b h. rows_same tol room e (trail tol room place cs s t css made) sane a b h)
