-- Faults put together, and what it says that there is none. Assumes nothing.
use mathlib.Core.Path.{◌≡◌, refl, ◌∙◌}
use mathlib.Core.Bool.{Bool, true, false, ◌&&◌, cond}
use mathlib.Core.List.{List, [], ◌∷◌}
use Prim.Native.Nat.{ℕ, ◌≤◌, ◌<◌}
use native.Mathlib.Omega.{arith}
use lib.Dec.{ltb}
use lib.ListN.{length}
use borrow.Author.Tests.{ltb-true, ltb-false}
use Rattle.std.specs.Prelude.{Option, None, Some, is_some, unwrap_or}
use Rattle.std.specs.Option.{option_or}
use Rattle.lists.specs.Every.{all}
use Rattle.row_faults.specs.declared.Clause.{Clause}
use Rattle.row_faults.specs.declared.Clause.TheVariants.{Counts}
use Rattle.row_faults.specs.declared.Table.{Table}
use Rattle.row_faults.specs.Clauses.{clause_number}
use Rattle.row_faults.specs.First.{first_false}
use Rattle.row_faults.proofs.First.{none-fails, one-fails}
use Rattle.faults.specs.declared.Fault.{Fault}
use Rattle.faults.specs.Faults.{fault_at, no_fault, fault_in}

-- ---- a fault as it is told

-- the first failing test f of n
pub told_in : (clause : Clause) (table : Table) (f n : ℕ) (l : List Bool) (r : Option Fault) → f ≡ first_false l → length l ≡ n
    → r ≡ cond (ltb f n) (Some (fault_at clause table f)) None → r ≡ fault_in clause table l
unfolding fault_in
told_in clause table f n l r e m q = go (ltb f n) refl
  where
    go : (b : Bool) → ltb f n ≡ b → r ≡ cond (all (λ b. b) l) None (Some (fault_at clause table (first_false l)))
    go true h = let k : f < n = ltb-true f n h in q ∙ rw (h, one-fails l (omega arith), e)
    go false h = let k : n ≤ f = ltb-false f n h in q ∙ rw (h, none-fails l (omega arith))

-- one test
pub told-passed : (clause : Clause) (table : Table) (b : Bool) → b ≡ true → None ≡ fault_in clause table (b ∷ [])
unfolding fault_in all
told-passed clause table b e = rw e

pub told-failed : (clause : Clause) (table : Table) (b : Bool) → b ≡ false → Some (fault_at clause table 0) ≡ fault_in clause table (b ∷ [])
unfolding fault_in all first_false
told-failed clause table b e = rw e

-- ---- no fault

module _ (clause : Clause) (table : Table) (l : List Bool) where
  pub fault-none : fault_in clause table l ≡ None → all (λ b. b) l ≡ true
  unfolding fault_in
  fault-none e = go (all (λ b. b) l) e
    where
      go : (b : Bool) → cond b None (Some (fault_at clause table (first_false l))) ≡ None → b ≡ true
      go true q = refl
      go false q = cc

  pub none-fault : all (λ b. b) l ≡ true → fault_in clause table l ≡ None
  unfolding fault_in
  none-fault e = rw e

pub one_none : (clause : Clause) (table : Table) (b : Bool) → fault_in clause table (b ∷ []) ≡ None → b ≡ true
unfolding all
one_none clause table true e = refl
one_none clause table false e = fault-none clause table (false ∷ []) e

pub none-one : (clause : Clause) (table : Table) (b : Bool) → b ≡ true → fault_in clause table (b ∷ []) ≡ None
unfolding all
none-one clause table b e = none-fault clause table (b ∷ []) (rw e)

-- ---- one after the other

pub some-first : (f g : Option Fault) → is_some f ≡ true → f ≡ option_or f g
some-first None g h = cc
some-first (Some x) g h = refl

pub is-none : (f : Option Fault) → is_some f ≡ false → f ≡ None
is-none None h = refl
is-none (Some x) h = cc

pub none-second : (f g : Option Fault) → f ≡ None → g ≡ option_or f g
none-second f g h = rw h

pub or-none : (f g : Option Fault) → option_or f g ≡ None → (f ≡ None) × (g ≡ None)
or-none None g e = (refl, e)
or-none (Some x) g e = cc

pub none-or : (f g : Option Fault) → f ≡ None → g ≡ None → option_or f g ≡ None
none-or f g h k = rw h k

-- three, four and seven in a row
or3 : (a b c : Option Fault) → option_or (option_or a b) c ≡ option_or a (option_or b c)
or3 None b c = refl
or3 (Some x) b c = refl

or4 : (a b c d : Option Fault) → option_or (option_or (option_or a b) c) d ≡ option_or a (option_or b (option_or c d))
or4 None b c d = or3 b c d
or4 (Some x) b c d = refl

or7 : (a b c d e f g : Option Fault)
    → option_or (option_or (option_or (option_or (option_or (option_or a b) c) d) e) f) g ≡ option_or a (option_or b (option_or c (option_or d (option_or e (option_or f g)))))
or7 None None None d e f g = or4 d e f g
or7 None None (Some x) d e f g = refl
or7 None (Some x) c d e f g = refl
or7 (Some x) b c d e f g = refl

pub three : {a b c a' b' c' p r : Option Fault} → a ≡ a' → b ≡ b' → c ≡ c' → p ≡ option_or a b → r ≡ option_or p c → r ≡ option_or a' (option_or b' c')
three {a' = x} {b' = y} {c' = z} h1 h2 h3 e1 e2 = rw (e2, e1, h1, h2, h3) (or3 x y z)

pub four : {a b c d a' b' c' d' p q r : Option Fault} → a ≡ a' → b ≡ b' → c ≡ c' → d ≡ d' → p ≡ option_or a b → q ≡ option_or p c → r ≡ option_or q d
    → r ≡ option_or a' (option_or b' (option_or c' d'))
four {a' = x} {b' = y} {c' = z} {d' = w} h1 h2 h3 h4 e1 e2 e3 = rw (e3, e2, e1, h1, h2, h3, h4) (or4 x y z w)

pub seven : {a b c d e f g a' b' c' d' e' f' g' p q s t u r : Option Fault} → a ≡ a' → b ≡ b' → c ≡ c' → d ≡ d' → e ≡ e' → f ≡ f' → g ≡ g'
    → p ≡ option_or a b → q ≡ option_or p c → s ≡ option_or q d → t ≡ option_or s e → u ≡ option_or t f → r ≡ option_or u g
    → r ≡ option_or a' (option_or b' (option_or c' (option_or d' (option_or e' (option_or f' g')))))
seven {a' = x} {b' = y} {c' = z} {d' = w} {e' = v} {f' = k} {g' = l} h1 h2 h3 h4 h5 h6 h7 e1 e2 e3 e4 e5 e6 =
    rw (e6, e5, e4, e3, e2, e1, h1, h2, h3, h4, h5, h6, h7) (or7 x y z w v k l)

-- ---- as it is told: a clause of 0 is no fault

abbrev pub Told : Option Fault → Type 0
Told f = (unwrap_or f no_fault).clause ≡ 0 → f ≡ None

clause-some : (k : Clause) → clause_number k ≡ 0 → ⊥
clause-some Counts e = omega arith
clause-some _ e = omega arith

pub in-told : (clause : Clause) (table : Table) (l : List Bool) → Told (fault_in clause table l)
unfolding fault_in
in-told clause table l = go (all (λ b. b) l)
  where
    go : (b : Bool) → Told (cond b None (Some (fault_at clause table (first_false l))))
    go true h = refl
    go false h = absurd (clause-some clause h)

pub or-told : (f g : Option Fault) → Told f → Told g → Told (option_or f g)
or-told None g h k = k
or-told (Some x) g h k = h

pub seven-told : {a b c d e f g : Option Fault} → Told a → Told b → Told c → Told d → Told e → Told f → Told g
    → Told (option_or a (option_or b (option_or c (option_or d (option_or e (option_or f g))))))
seven-told {a = x} {b = y} {c = z} {d = w} {e = v} {f = k} {g = l} h1 h2 h3 h4 h5 h6 h7 =
    or-told x _ h1 (or-told y _ h2 (or-told z _ h3 (or-told w _ h4 (or-told v _ h5 (or-told k l h6 h7)))))

-- seven tables
pub record Seven (a b c d e f g : Option Fault) : Type 0 where
  pub lanes : a ≡ None
  pub boundaries : b ≡ None
  pub roads : c ≡ None
  pub junctions : d ≡ None
  pub rules : e ≡ None
  pub stop_lines : f ≡ None
  pub crosswalks : g ≡ None

pub seven-none : (a b c d e f g : Option Fault) → option_or a (option_or b (option_or c (option_or d (option_or e (option_or f g))))) ≡ None → Seven a b c d e f g
seven-none a b c d e f g h =
    let (h1, r1) = or-none a (option_or b (option_or c (option_or d (option_or e (option_or f g))))) h in
    let (h2, r2) = or-none b (option_or c (option_or d (option_or e (option_or f g)))) r1 in
    let (h3, r3) = or-none c (option_or d (option_or e (option_or f g))) r2 in
    let (h4, r4) = or-none d (option_or e (option_or f g)) r3 in
    let (h5, r5) = or-none e (option_or f g) r4 in
    let (h6, h7) = or-none f g r5 in
    record { lanes = h1; boundaries = h2; roads = h3; junctions = h4; rules = h5; stop_lines = h6; crosswalks = h7 }

pub none-seven : (a b c d e f g : Option Fault) → Seven a b c d e f g → option_or a (option_or b (option_or c (option_or d (option_or e (option_or f g))))) ≡ None
none-seven a b c d e f g h =
    none-or a (option_or b (option_or c (option_or d (option_or e (option_or f g))))) h.lanes
    (none-or b (option_or c (option_or d (option_or e (option_or f g)))) h.boundaries
    (none-or c (option_or d (option_or e (option_or f g))) h.roads
    (none-or d (option_or e (option_or f g)) h.junctions (none-or e (option_or f g) h.rules (none-or f g h.stop_lines h.crosswalks)))))

pub seven-and : {a b c d e f g : Bool} → a ≡ true → b ≡ true → c ≡ true → d ≡ true → e ≡ true → f ≡ true → g ≡ true → (a && b && c && d && e && f && g) ≡ true
seven-and h1 h2 h3 h4 h5 h6 h7 = rw (h1, h2, h3, h4, h5, h6, h7)
