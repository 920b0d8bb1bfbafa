-- The edits of a job that is made, one after the other: they keep soundness, and leave what their calls leave. Assumes nothing.
use Rattle.std.specs.Prelude.{Err, Ok}
use mathlib.Core.Path.{◌≡◌, refl, sym, ap, ◌∙◌, subst}
use mathlib.Core.Bool.{true}
use mathlib.Core.List.{List, [], ◌∷◌}
use Prim.{Unit, tt}
use Prim.Native.Nat.{ℕ, suc}
use Rattle.entities.specs.declared.Tolerance.{Tolerance}
use Rattle.entities.specs.Records.{ChangeSet}
use Rattle.rules.specs.Sound.{sound, Room}
use Rattle.rules.specs.Edit.{Res, Edited}
use Rattle.rules.specs.Ops.{Command, State, Call, accepted_as, after}
use Rattle.jobs.specs.Job.{edit_once, Run, done, stopped, preceded, edits}
use Rattle.job_laws.specs.Deeds.{lengths, edit_calls}
use Rattle.job_laws.proofs.Once.{once_call, once-kept}

-- from a state to another by these commands, each accepted, with these change sets
pub data Trail (tol : Tolerance) (room : Room) : List Command → State → State → List ChangeSet → Type 0 where
  here : {s : State} → Trail tol room [] s s []
  onward : {c : Command} {cs : List Command} {s t : State} {css : List ChangeSet} (e : Edited) → edit_once tol room c s ≡ Ok e
      → Trail tol room cs (accepted_as s e).state t css → Trail tol room (c ∷ cs) s t (e.changes ∷ css)

module _ (tol : Tolerance) (room : Room) where
  -- what edits come to has a trail, where they are all made
  abbrev Trailed : List Command → State → Run State → Type 0
  Trailed cs s (done t css) = Trail tol room cs s t css
  Trailed cs s (stopped place r) = Unit

  trailed : (place : ℕ) (cs : List Command) (s : State) → Trailed cs s (edits tol room place cs s)
  unfolding edits
  trailed place [] s = here
  trailed place (c ∷ cs) s = go (edit_once tol room c s) refl (trailed (suc place) cs)
    where
      more : (e : Edited) → edit_once tol room c s ≡ Ok e → (r : Run State) → Trailed cs (accepted_as s e).state r → Trailed (c ∷ cs) s (preceded e.changes r)
      more e h (done t css) l = onward e h l
      more e h (stopped p r) l = tt

      go : (r : Res Edited) → edit_once tol room c s ≡ r → ((t : State) → Trailed cs t (edits tol room (suc place) cs t))
          → Trailed (c ∷ cs) s
          (elim r [ Err r ↦ stopped place r | Ok e ↦ preceded e.changes (edits tol room (suc place) cs (accepted_as s e).state) ])
      go (Err r) h l = tt
      go (Ok e) h l = more e h (edits tol room (suc place) cs (accepted_as s e).state) (l (accepted_as s e).state)

  pub trail : (place : ℕ) (cs : List Command) (s t : State) (css : List ChangeSet) → edits tol room place cs s ≡ done t css → Trail tol room cs s t css
  trail place cs s t css h = subst (Trailed cs s) h (trailed place cs s)

  trail-sound : {cs : List Command} {s t : State} {css : List ChangeSet} → Trail tol room cs s t css → sound s.counter s.map ≡ true → sound t.counter t.map ≡ true
  trail-sound here sane = sane
  trail-sound (onward {c = c} {s = s} e h l) sane = trail-sound l (once-kept tol room c s sane e h).sound-left

  -- by what the first edit comes to
  abbrev calls_of : Command → List Command → State → Res Edited → List Call
  calls_of c cs s x =
      elim x [ Err r ↦ [] | Ok e ↦ record { command = c; lists = lengths e.changes } ∷ edit_calls tol room cs (accepted_as s e).state ]

  trail-after : {cs : List Command} {s t : State} {css : List ChangeSet} → Trail tol room cs s t css → sound s.counter s.map ≡ true → t ≡ after tol room (edit_calls tol room cs s) s
  unfolding edit_calls after
  trail-after here sane = refl
  trail-after (onward {c = c} {cs = cs} {s = s} {t = t} e h l) sane =
      let rest = edit_calls tol room cs (accepted_as s e).state in
      let r : t ≡ after tol room rest (accepted_as s e).state = trail-after l (once-kept tol room c s sane e h).sound-left in
      r
      ∙ (ap (λ o. after tol room rest o.state) (sym (once_call tol room c s sane e h))
      ∙ ap (λ x. after tol room (calls_of c cs s x) s) (sym h))

  module _ (place : ℕ) (cs : List Command) (s t : State) (css : List ChangeSet) (sane : sound s.counter s.map ≡ true) (made : edits tol room place cs s ≡ done t css) where
    pub edits-sound : sound t.counter t.map ≡ true
    edits-sound = trail-sound (trail place cs s t css made) sane

    pub edits-after : t ≡ after tol room (edit_calls tol room cs s) s
    edits-after = trail-after (trail place cs s t css made) sane
