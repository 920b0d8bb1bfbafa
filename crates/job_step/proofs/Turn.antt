-- One edit of a job on lent memory, beside the call that makes it: refused as the call is, written as the call writes, and what it keeps. Assumes nothing.
use Rattle.std.specs.Prelude.{Err, Ok}
use mathlib.Core.Path.{◌≡◌, ap, ◌∙◌, subst}
use mathlib.Core.Bool.{true, ◌&&◌}
use Prim.Native.Nat.{ℕ, ◌*◌, ◌/◌, ◌≤◌}
use native.Mathlib.Omega.{arith}
use lib.Dec.{leb}
use lib.ListN.{length, replicate, length-replicate}
use borrow.Author.Tests.{leb-true, le-leb}
use Rattle.lists.proofs.Booleans.{and-fst, and-snd}
use Rattle.entities.specs.declared.Refusal.{Refusal}
use Rattle.entities.specs.Records.{ChangeSet}
use Rattle.rules.specs.Names.{Tolerance}
use Rattle.rules.specs.Sound.{Lists, sound, last_counter}
use Rattle.rules.specs.Edit.{Edited}
use Rattle.rules.specs.Ops.{Command, fits_lists, accepted_as}
use Rattle.rules.proofs.Facts.{sound-facts}
use Rattle.laws.proofs.Claim.{lawful}
use Rattle.tables.specs.Formed.{sound_tables}
use Rattle.store.specs.Store.{room_of}
use Rattle.sound_facts.proofs.Found.{sound-map}
use Rattle.list_limits.specs.Enough.{enough}
use Rattle.list_limits.proofs.Fits.{enough-fits}
use Rattle.step.specs.Step.{Lent, lists_of, state_of, refusing, changing, closing, step}
use Rattle.step.specs.Run.{Held, map_in, lengths_of}
use Rattle.step.proofs.Keeping.{closed, call_kept, Kept, outcome}
use Rattle.step.proofs.Claim.{keeps}
use Rattle.jobs.specs.Job.{edit_once}
use Rattle.job_laws.proofs.Once.{once-refused, once-listed, once-kept}
use Rattle.job_step.specs.Job.{written}

-- ---- lists

-- what each list needs, from what they all have
fits-longer : (few ls : Lists) (cs : ChangeSet) → fits_lists few cs ≡ true
    → few.created ≤ ls.created → few.modified ≤ ls.modified → few.deleted ≤ ls.deleted → length cs.warnings ≤ ls.warnings → fits_lists ls cs ≡ true
fits-longer few ls cs h created modified deleted warnings =
    let a = leb (length cs.created) few.created in
    let b = leb (length cs.modified) few.modified in
    let c = leb (length cs.deleted) few.deleted in
    let abc = and-fst (a && b && c) (leb (length cs.warnings) few.warnings) h in
    let ab = and-fst (a && b) c abc in
    rw (
      longer (length cs.created) few.created ls.created (and-fst a b ab) created,
      longer (length cs.modified) few.modified ls.modified (and-snd a b ab) modified,
      longer (length cs.deleted) few.deleted ls.deleted (and-snd (a && b) c abc) deleted,
      le-leb (length cs.warnings) ls.warnings warnings,
    )
  where
    longer : (n few m : ℕ) → leb n few ≡ true → few ≤ m → leb n m ≡ true
    longer n few m h k = let i = leb-true n few h in le-leb n m (omega arith)

-- lent memory with lists that are as long as these changes need
abbrev roomy : Held → ChangeSet → Lent
roomy h cs =
    record {
      counter = h.counter;
      tables = h.tables;
      created = replicate (length cs.created * 2) 0;
      modified = replicate (length cs.modified * 2) 0;
      deleted = replicate (length cs.deleted * 2) 0;
      warnings = replicate (length cs.warnings * 10) 0;
    }

roomy-fits : (h : Held) (cs : ChangeSet) → fits_lists (lists_of (roomy h cs)) cs ≡ true
roomy-fits h cs = rw (pairs (length cs.created), pairs (length cs.modified), pairs (length cs.deleted), tens (length cs.warnings))
  where
    pairs : (n : ℕ) → leb n (length {A = ℕ} (replicate (n * 2) 0) / 2) ≡ true
    pairs n = rw (length-replicate {A = ℕ} (n * 2) 0) (le-leb n (n * 2 / 2) (omega arith))

    tens : (n : ℕ) → leb n (length {A = ℕ} (replicate (n * 10) 0) / 10) ≡ true
    tens n = rw (length-replicate {A = ℕ} (n * 10) 0) (le-leb n (n * 10 / 10) (omega arith))

-- ---- the call

module _ (tol : Tolerance) (c : Command) (l : Lent) (sane : sound_tables l.counter l.tables ≡ true) where
  map-sound : sound l.counter (state_of l).map ≡ true
  map-sound = sound-map l.counter l.tables sane

  pub turn-refused : (r : Refusal) → edit_once tol (room_of l.tables) c (state_of l) ≡ Err r → step tol c l ≡ refusing l r
  turn-refused r h = closed tol c l sane ∙ ap (λ o. closing c l o.state o.answer) (once-refused tol (room_of l.tables) c (state_of l) map-sound (lists_of l) r h)

  module _ (e : Edited) (h : edit_once tol (room_of l.tables) c (state_of l) ≡ Ok e) where
    pub turn-yields : fits_lists (lists_of l) e.changes ≡ true → step tol c l ≡ changing c l (accepted_as (state_of l) e).state e.changes e.second
    turn-yields fits =
        closed tol c l sane ∙ ap (λ o. closing c l o.state o.answer) (once-listed tol (room_of l.tables) c (state_of l) map-sound (lists_of l) e h fits)

    few : fits_lists enough e.changes ≡ true
    few =
        let k = once-kept tol (room_of l.tables) c (state_of l) map-sound e h in
        enough-fits tol c (state_of l) map-sound e k.edited (sound-facts (accepted_as (state_of l) e).state.counter e.result k.sound-left).limits

    -- "refuse no edit": lists of enough places for all but the warnings, and of as many for these as there are
    pub enough-entities : enough.created ≤ length l.created / 2 → enough.modified ≤ length l.modified / 2 → enough.deleted ≤ length l.deleted / 2
        → length e.changes.warnings ≤ length l.warnings / 10 → fits_lists (lists_of l) e.changes ≡ true
    enough-entities created modified deleted warnings = fits-longer enough (lists_of l) e.changes few created modified deleted warnings

    pub few-warnings : length e.changes.warnings ≤ enough.warnings
    few-warnings =
        leb-true (length e.changes.warnings) enough.warnings
        (and-snd
        (leb (length e.changes.created) enough.created && leb (length e.changes.modified) enough.modified && leb (length e.changes.deleted) enough.deleted)
        (leb (length e.changes.warnings) enough.warnings) few)

-- ---- what an edit that yields keeps

pub record Turned (c : Command) (h : Held) (e : Edited) : Type 0 where
  pub stays_sound : sound_tables (written c h e).counter (written c h e).tables ≡ true
  pub map_left : map_in (written c h e) ≡ (accepted_as (map_in h) e).state
  pub lengths_left : lengths_of (written c h e).tables ≡ lengths_of h.tables
  pub counter-fits : (written c h e).counter ≤ last_counter

pub turn-keeps : (tol : Tolerance) (c : Command) (h : Held) → sound_tables h.counter h.tables ≡ true → (e : Edited)
    → edit_once tol (room_of h.tables) c (map_in h) ≡ Ok e → Turned c h e
turn-keeps tol c h sane e y =
    let l = roomy h e.changes in
    let fits = roomy-fits h e.changes in
    let view-sound = sound-map h.counter h.tables sane in
    let ends = once-listed tol (room_of h.tables) c (map_in h) view-sound (lists_of l) e y fits in
    let k = subst (λ x. Kept l (outcome tol c l) x.lent) (turn-yields tol c l sane e y fits) (call_kept tol c l sane (lawful tol c) (keeps tol c)) in
    let ids = (once-kept tol (room_of h.tables) c (map_in h) view-sound e y).ids_are_left in
    record {
      stays_sound = k.stays_sound;
      map_left = k.map_left ∙ ap (λ o. o.state) ends;
      lengths_left = k.lengths_left;
      counter-fits = leb-true (written c h e).counter last_counter ids;
    }
