-- What is gone stays gone, because no id is given twice: an entity that stands in a sound map has an id below the next one, and what an edit creates has
-- ids from the next one on. Assumes nothing.
use mathlib.Core.Path.{◌≡◌, refl, sym, ap, ◌∙◌}
use mathlib.Core.Bool.{Bool, true, false, not, ◌&&◌, ◌||◌, cond}
use mathlib.Core.List.{List, [], ◌∷◌}
use Prim.Native.Nat.{ℕ, ◌+◌, ◌≤◌, ◌<◌, max}
use native.Mathlib.Omega.{arith}
use native.Mathlib.Nat.{le-max_left}
use lib.Dec.{eqb, leb, ltb}
use lib.ListN.{length}
use borrow.Author.Tests.{eqb-true, eqb-false, leb-true, ltb-true, lt-ltb}
use Rattle.lists.specs.Every.{all}
use Rattle.lists.specs.Select.{any}
use Rattle.lists.proofs.Booleans.{or_right}
use Rattle.lists.proofs.Select.{any-implies-all, all-has}
use Rattle.entities.specs.declared.Tolerance.{Tolerance}
use Rattle.entities.specs.declared.EntityRef.{EntityRef}
use Rattle.rules.specs.Sound.{sound, ids_named, next_id, last_counter, counter_above}
use Rattle.rules.specs.Edit.{Edited}
use Rattle.rules.specs.Ops.{Command, State, accepted_as, counter_after}
use Rattle.rules.specs.Demand.{entities, same_entity, among, appeared}
use Rattle.rules.proofs.Facts.{sound-facts}
use Rattle.laws.proofs.Entities.{ids_of, among-kind}
use Rattle.laws.proofs.Allocated.{allocated}
use Rattle.job_laws.proofs.Once.{OnceKept}
use Rattle.job_laws.proofs.Fresh.{created-from}
use Rattle.job_laws.proofs.Among.{same-is, among-keep, named-pass}

-- ---- ids that will not be given

-- No later edit creates this entity: its id is below the next one, or no id is left.
abbrev pub Past : State → EntityRef → Type 0
Past s e = (eqb s.counter last_counter || ltb e.id (next_id s.counter)) ≡ true

-- so it is with what stands in a sound map
pub present-past : (s : State) → sound s.counter s.map ≡ true → (e : EntityRef) → among e (entities s.map) ≡ true → Past s e
unfolding counter_above
present-past s sane e t = go (eqb s.counter last_counter) (sound-facts s.counter s.map sane).counter-above
  where
    go : (b : Bool) → (b || all (λ i. ltb i (next_id s.counter)) (ids_named s.map)) ≡ true → (b || ltb e.id (next_id s.counter)) ≡ true
    go true h = refl
    go false h =
        all-has (λ i. ltb i (next_id s.counter)) e.id (ids_of s.map e.kind) (named-pass (λ i. ltb i (next_id s.counter)) s.map h e.kind)
        (sym (among-kind s.map e) ∙ t)

-- where ids are wanted and left, the id is below the next one
past-below : (counter ids i last : ℕ) → (eqb counter last || ltb i (next_id counter)) ≡ true → leb (counter_after counter ids) last ≡ true → eqb ids 0 ≡ false → i < next_id counter
past-below counter ids i last h left wanted = go (eqb counter last) refl h
  where
    full : counter ≡ last → max counter 1 + ids ≤ last → (ids ≡ 0 → ⊥) → ⊥
    full e l z = let u : counter ≤ max counter 1 = le-max_left counter 1 in z (omega arith)

    go : (b : Bool) → eqb counter last ≡ b → (b || ltb i (next_id counter)) ≡ true → i < next_id counter
    go true e t =
        let l : leb (next_id counter + ids) last ≡ true = ap (λ b. leb (cond b counter (next_id counter + ids)) last) (sym wanted) ∙ left in
        absurd (full (eqb-true counter last e) (leb-true (next_id counter + ids) last l) (eqb-false ids 0 wanted))
    go false e t = ltb-true i (next_id counter) t

module _ (tol : Tolerance) (c : Command) (s : State) (x : Edited) (k : OnceKept tol c s x) (e : EntityRef) (past : Past s e) where
  below_next : eqb x.ids 0 ≡ false → e.id < next_id s.counter
  below_next = past-below s.counter x.ids e.id last_counter past k.ids_are_left

  -- the counter only grows
  pub past-stays : Past (accepted_as s x).state e
  past-stays = go (eqb x.ids 0) refl
    where
      grown : (i n k : ℕ) → i < n → i < max (n + k) 1
      grown i n k h = let u : n + k ≤ max (n + k) 1 = le-max_left (n + k) 1 in omega arith

      go : (b : Bool) → eqb x.ids 0 ≡ b
          → (eqb (cond b s.counter (next_id s.counter + x.ids)) last_counter || ltb e.id (next_id (cond b s.counter (next_id s.counter + x.ids)))) ≡ true
      go true h = past
      go false h =
          let after = next_id s.counter + x.ids in
          or_right (eqb after last_counter) (ltb e.id (next_id after))
          (lt-ltb e.id (next_id after) (grown e.id (next_id s.counter) x.ids (below_next h)))

  not-created : among e x.changes.created ≡ false
  not-created = go (eqb x.ids 0) refl
    where
      none : (es : List EntityRef) → length es ≡ 0 → among e es ≡ false
      none [] h = unfold among any in refl
      none (f ∷ es) h = absurd (omega arith)

      from : e.id < next_id s.counter → (f : EntityRef) → leb (next_id s.counter) f.id ≡ true → same_entity e f ≡ true → false ≡ true
      from l f h t =
          let u = leb-true (next_id s.counter) f.id h in
          let v : f.id ≡ e.id = ap (λ g. g.id) (same-is e f t) in
          absurd (omega arith)

      go : (b : Bool) → eqb x.ids 0 ≡ b → among e x.changes.created ≡ false
      go true h = none x.changes.created (allocated tol c s x k.edited ∙ eqb-true x.ids 0 h)
      go false h = apart (among e x.changes.created) refl
        where
          apart : (b : Bool) → among e x.changes.created ≡ b → b ≡ false
          apart false t = refl
          apart true t =
              sym (any-implies-all (same_entity e) (λ f. leb (next_id s.counter) f.id) false x.changes.created (created-from tol c s x k.edited) (from (below_next h))
              (unfold among in t))

  -- absent before, absent behind
  pub absent-next : among e (entities s.map) ≡ false → among e (entities x.result) ≡ false
  unfolding appeared
  absent-next gone = go (among e (entities x.result)) (among e (entities s.map)) gone
      (sym (among-keep e (λ f. not (among f (entities s.map))) (entities x.result)) ∙ (ap (among e) (sym k.exact.created_is) ∙ not-created))
    where
      go : (a b : Bool) → b ≡ false → (a && not b) ≡ false → a ≡ false
      go false b h t = refl
      go true false h t = t
      go true true h t = h
