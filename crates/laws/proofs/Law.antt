-- The law of one accepted call, and demand 3 over every list of calls whose commands obey it.
use Rattle.std.specs.Prelude.{Err, Ok}
use mathlib.Core.Path.{◌≡◌, refl, sym, ap, ◌∙◌, subst}
use mathlib.Core.Bool.{Bool, true, false, ◌&&◌, cond}
use mathlib.Core.List.{List, [], ◌∷◌}
use Prim.{Unit}
use Prim.Native.Nat.{ℕ}
use lib.Dec.{leb}
use lib.ListN.{length}
use Rattle.entities.specs.declared.Tolerance.{Tolerance}
use Rattle.entities.specs.declared.Refusal.{Refusal}
use Rattle.entities.specs.declared.Refusal.TheVariants as R
use Rattle.entities.specs.Records.{Map}
use Rattle.rules.specs.Map.{leads_to}
use Rattle.rules.specs.Sound.{sound, Room, fits_room, within_limits, last_counter, point_count}
use Rattle.rules.specs.Edit.{Res, ◌>>=◌, check, Edited}
use Rattle.rules.specs.Ops.{Command, State, Call, Outcome, edit, counter_after, fits_lists, refused_as, accepted_as, listable, outcome_of, finish, step_map, after}
use Rattle.rules.specs.Book.{Book, entry, booked, book_after}
use Rattle.rules.specs.Demand.{Exact, Told, AllTold, Demand3}
use Rattle.rules.proofs.Facts.{sound-facts}
use Rattle.rules.proofs.Reciprocal.{links-agree, neighbors-agree}

-- ---- one accepted call

-- It keeps soundness, books its links, and its lists are exact. The first and the last want that the counter has the ids (LastCounter.antt says why).
pub record Law (c : Command) (s : State) (e : Edited) : Type 0 where
  pub stays_sound : leb (counter_after s.counter e.ids) last_counter ≡ true → within_limits e.result ≡ true
      → sound (counter_after s.counter e.ids) e.result ≡ true
  pub books : (x y : ℕ) → leads_to e.result x y ≡ entry c s.map e.changes (leads_to s.map) x y
  pub lists-exact : leb (counter_after s.counter e.ids) last_counter ≡ true → Exact s.map e.changes e.result

-- A command obeys the law on every sound map.
abbrev pub Lawful : Tolerance → Command → Type 0
Lawful tol c = (s : State) → sound s.counter s.map ≡ true → (e : Edited) → edit tol c s ≡ Ok e → Law c s e

-- ---- one call, refused or not

-- what a call leaves: it is sound, its links are the book's, and its answer tells the truth
pub record Kept (tol : Tolerance) (room : Room) (c : Call) (s : State) (o : Outcome) : Type 0 where
  pub sound-left : sound o.state.counter o.state.map ≡ true
  pub book-left : (x y : ℕ) → leads_to o.state.map x y ≡ booked c.command s.map o.answer (leads_to s.map) x y
  pub told : Told s o

fits-limits : (room : Room) (m : Map) → fits_room room m ≡ true → within_limits m ≡ true
unfolding fits_room
fits-limits room m h = head_of (within_limits m) (leb (length m.lanes) room.lanes) (leb (length m.boundaries) room.boundaries) (leb (point_count m) room.points) h
  where
    head_of : (a b c d : Bool) → (a && b && c && d) ≡ true → a ≡ true
    head_of true b c d t = refl
    head_of false b c d t = t

module _ (tol : Tolerance) (room : Room) (c : Call) (s : State) (sane : sound s.counter s.map ≡ true) (law : Lawful tol c.command) where
  refused-kept : (r : Refusal) → Kept tol room c s (refused_as s r)
  refused-kept r = record { sound-left = sane; book-left = λ x y. refl; told = refl }

  accepted-kept : (e : Edited) → edit tol c.command s ≡ Ok e → leb (counter_after s.counter e.ids) last_counter ≡ true
      → fits_room room e.result ≡ true → Kept tol room c s (accepted_as s e)
  accepted-kept e h ids fits =
      let l = law s sane e h in
      record {
        sound-left = l.stays_sound ids (fits-limits room e.result fits);
        book-left = l.books;
        told = l.lists-exact ids;
      }

  -- the three tests, one after the other
  finish-kept : (r : Res Edited) → edit tol c.command s ≡ r → Kept tol room c s (finish room c.lists s r)
  finish-kept (Err r) h = refused-kept r
  finish-kept (Ok e) h = settles (leb (counter_after s.counter e.ids) last_counter) (fits_room room e.result) refl refl
    where
      lists : leb (counter_after s.counter e.ids) last_counter ≡ true → fits_room room e.result ≡ true → (l : Bool)
          → Kept tol room c s (outcome_of s (check l R.NoRoom >>= (λ _. Ok e)))
      lists a b false = refused-kept R.NoRoom
      lists a b true = accepted-kept e h a b

      settles : (p q : Bool) → leb (counter_after s.counter e.ids) last_counter ≡ p → fits_room room e.result ≡ q
          → Kept tol room c s (outcome_of s (listable c.lists (check p R.NoIds >>= (λ _. (check q R.NoRoom >>= (λ _. Ok e))))))
      settles false q a b = refused-kept R.NoIds
      settles true false a b = refused-kept R.NoRoom
      settles true true a b = lists a b (fits_lists c.lists e.changes)

  pub step_kept : Kept tol room c s (step_map tol room c s)
  unfolding step_map
  step_kept = subst (λ b. Kept tol room c s (cond b (finish room c.lists s (edit tol c.command s)) (refused_as s R.Unsound))) (sym sane) (finish-kept (edit tol c.command s) refl)

-- ---- every list of calls

abbrev pub AllLawful : Tolerance → List Call → Type 0
AllLawful tol [] = Unit
AllLawful tol (c ∷ cs) = Lawful tol c.command × AllLawful tol cs

after-sound : (tol : Tolerance) (room : Room) (calls : List Call) (s : State) → sound s.counter s.map ≡ true → AllLawful tol calls
    → sound (after tol room calls s).counter (after tol room calls s).map ≡ true
unfolding after
after-sound tol room [] s sane ls = sane
after-sound tol room (c ∷ cs) s sane ls = after-sound tol room cs (step_map tol room c s).state (step_kept tol room c s sane ls.0).sound-left ls.1

all_told : (tol : Tolerance) (room : Room) (calls : List Call) (s : State) → sound s.counter s.map ≡ true → AllLawful tol calls → AllTold tol room calls s
unfolding AllTold
all_told tol room [] s sane ls = refl
all_told tol room (c ∷ cs) s sane ls =
    let k = step_kept tol room c s sane ls.0 in
    (k.told, all_told tol room cs (step_map tol room c s).state k.sound-left ls.1)

-- two books that agree on every pair are one
same-book : (k l : Book) → ((x y : ℕ) → k x y ≡ l x y) → k ≡ l
same-book k l h = λ i x y. h x y i

all-booked : (tol : Tolerance) (room : Room) (calls : List Call) (s : State) → sound s.counter s.map ≡ true → AllLawful tol calls
    → (a b : ℕ) → leads_to (after tol room calls s).map a b ≡ book_after tol room calls s (leads_to s.map) a b
unfolding after book_after
all-booked tol room [] s sane ls a b = refl
all-booked tol room (c ∷ cs) s sane ls a b =
    let k = step_kept tol room c s sane ls.0 in
    let o = step_map tol room c s in
    all-booked tol room cs o.state k.sound-left ls.1 a b
    ∙ ap (λ book. book_after tol room cs o.state book a b)
    (same-book (leads_to o.state.map) (booked c.command s.map o.answer (leads_to s.map)) k.book-left)

-- Demand 3, for every list of calls whose commands are lawful.
pub demand_3 : (tol : Tolerance) (room : Room) (s : State) → sound s.counter s.map ≡ true → (calls : List Call) → AllLawful tol calls → Demand3 tol room s calls
demand_3 tol room s sane calls ls =
    let end = after tol room calls s in
    let facts = sound-facts end.counter end.map (after-sound tol room calls s sane ls) in
    record {
      stays_sound = after-sound tol room calls s sane ls;
      links_reciprocal = links-agree end.map facts.links;
      neighbors_reciprocal = neighbors-agree end.map facts.neighbors;
      stays_repeat_free = facts.once;
      links_booked = all-booked tol room calls s sane ls;
      lists_told = all_told tol room calls s sane ls;
    }
