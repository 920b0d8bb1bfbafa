-- The edits of a job on lent memory, beside the same edits on the map that it holds. Assumes nothing.
use Rattle.std.specs.Prelude.{Err, Ok}
use mathlib.Core.Path.{◌≡◌, refl, sym, ap, ◌∙◌, subst}
use mathlib.Core.Bool.{true}
use mathlib.Core.List.{List, [], ◌∷◌}
use Prim.{Unit, tt}
use Prim.Native.Nat.{ℕ, suc}
use Rattle.entities.specs.declared.Refusal.{Refusal}
use Rattle.entities.specs.Records.{ChangeSet}
use Rattle.rules.specs.Names.{Tolerance}
use Rattle.rules.specs.Edit.{Res, Edited}
use Rattle.rules.specs.Ops.{Command, State, accepted_as}
use Rattle.tables.specs.Formed.{sound_tables}
use Rattle.store.specs.Store.{room_of}
use Rattle.step.specs.Run.{Held, map_in, lengths_of}
use Rattle.step.proofs.Keeping.{room-same}
use Rattle.jobs.specs.Job.{Run, done, stopped, preceded, edit_once, edits}
use Rattle.job_step.specs.Job.{written, table_edits}
use Rattle.job_step.proofs.Turn.{Turned, turn-keeps}

-- ---- one edit of them

module _ (tol : Tolerance) (place : ℕ) (c : Command) (cs : List Command) (h : Held) where
  pub edits-refused : (r : Refusal) → edit_once tol (room_of h.tables) c (map_in h) ≡ Err r → table_edits tol place (c ∷ cs) h ≡ stopped place r
  unfolding table_edits
  edits-refused r y = rw (y, table_edits)

  pub edits-yield : (e : Edited) → edit_once tol (room_of h.tables) c (map_in h) ≡ Ok e
      → table_edits tol place (c ∷ cs) h ≡ preceded e.changes (table_edits tol (suc place) cs (written c h e))
  unfolding table_edits
  edits-yield e y = rw (y, table_edits)

-- ---- all of them

-- what they come to on lent memory, told of its map
abbrev pub on_maps : Run Held → Run State
on_maps (done h css) = done (map_in h) css
on_maps (stopped place r) = stopped place r

-- what is left is sound, and as long as it was
abbrev pub Stays : Held → Held → Type 0
Stays h k = (sound_tables k.counter k.tables ≡ true) × (lengths_of k.tables ≡ lengths_of h.tables)

abbrev pub Left : Held → Run Held → Type 0
Left h (done k css) = Stays h k
Left h (stopped place r) = Unit

on-maps-preceded : (cs : ChangeSet) (r : Run Held) → on_maps (preceded cs r) ≡ preceded cs (on_maps r)
on-maps-preceded cs (done h css) = refl
on-maps-preceded cs (stopped place r) = refl

left-preceded : (h k : Held) → lengths_of k.tables ≡ lengths_of h.tables → (cs : ChangeSet) (r : Run Held) → Left k r → Left h (preceded cs r)
left-preceded h k e cs (done j css) l = (l.0, l.1 ∙ e)
left-preceded h k e cs (stopped place r) l = tt

module _ (tol : Tolerance) where
  abbrev Beside : ℕ → List Command → Held → Type 0
  Beside place cs h = (on_maps (table_edits tol place cs h) ≡ edits tol (room_of h.tables) place cs (map_in h)) × Left h (table_edits tol place cs h)

  -- the rest, behind an edit that was made
  behind : (place : ℕ) (c : Command) (cs : List Command) (h : Held) (e : Edited) → Turned c h e → Beside place cs (written c h e)
      → (on_maps (preceded e.changes (table_edits tol place cs (written c h e)))
      ≡ preceded e.changes (edits tol (room_of h.tables) place cs (accepted_as (map_in h) e).state))
      × Left h (preceded e.changes (table_edits tol place cs (written c h e)))
  behind place c cs h e t (same, left) =
      let k = written c h e in
      let r = table_edits tol place cs k in
      let there : on_maps r ≡ edits tol (room_of h.tables) place cs (accepted_as (map_in h) e).state =
      same
      ∙ (ap (λ x. edits tol x place cs (map_in k)) (room-same k.tables h.tables t.lengths_left)
      ∙ ap (edits tol (room_of h.tables) place cs) t.map_left) in
      (on-maps-preceded e.changes r ∙ ap (preceded e.changes) there, left-preceded h k t.lengths_left e.changes r left)

  pub edits-beside : (place : ℕ) (cs : List Command) (h : Held) → sound_tables h.counter h.tables ≡ true
      → (on_maps (table_edits tol place cs h) ≡ edits tol (room_of h.tables) place cs (map_in h)) × Left h (table_edits tol place cs h)
  unfolding table_edits edits
  edits-beside place [] h sane = (refl, (sane, refl))
  edits-beside place (c ∷ cs) h sane = go (edit_once tol (room_of h.tables) c (map_in h)) refl (edits-beside (suc place) cs)
    where
      go : (x : Res Edited) → edit_once tol (room_of h.tables) c (map_in h) ≡ x → ((k : Held) → sound_tables k.counter k.tables ≡ true → Beside (suc place) cs k)
          → Beside place (c ∷ cs) h
      go (Err r) y rest = rw (edits-refused tol place c cs h r y, y, edits) (refl, tt)
      go (Ok e) y rest = let t = turn-keeps tol c h sane e y in rw (edits-yield tol place c cs h e y, y, edits) (behind (suc place) c cs h e t (rest (written c h e) t.stays_sound))

  module _ (place : ℕ) (cs : List Command) (h : Held) (sane : sound_tables h.counter h.tables ≡ true) where
    pub edits-stopped : (p : ℕ) (r : Refusal) → table_edits tol place cs h ≡ stopped p r → edits tol (room_of h.tables) place cs (map_in h) ≡ stopped p r
    edits-stopped p r e = sym (edits-beside place cs h sane).0 ∙ ap on_maps e

    pub edits-done : (k : Held) (css : List ChangeSet) → table_edits tol place cs h ≡ done k css
        → (edits tol (room_of h.tables) place cs (map_in h) ≡ done (map_in k) css) × Stays h k
    edits-done k css e =
        let (same, left) = edits-beside place cs h sane in
        (sym same ∙ ap on_maps e, subst (Left h) e left)
