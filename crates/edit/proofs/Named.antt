-- The lanes named as modified are an ascending list of ids. Assumes nothing.
use mathlib.Core.Path.{◌≡◌, sym, ap, ◌∙◌}
use Prim.Native.Nat.{ℕ}
use mathlib.Core.Bool.{Bool, true, ◌&&◌}
use mathlib.Core.List.{List, map}
use lib.Dec.{eqb}
use borrow.Author.Tests.{eqb-true}
use Rattle.lists.specs.Select.{keep, any, has, ascending}
use Rattle.lists.proofs.Booleans.{and_both, and-fst, and-snd, same_test}
use Rattle.lists.proofs.Same.{ascending-same}
use Rattle.lists.proofs.Select.{any-implies, keys-keep}
use Rattle.entities.specs.Records.{Map}
use Rattle.rules.specs.Names.{LaneKind}
use Rattle.rules.specs.Map.{lane_ids}
use Rattle.rules.specs.Edit.{refs, lanes_where}
use Rattle.laws.proofs.Exact.{has_kept, has_key, any-weaken}

-- lanes chosen by their ids
pub lanes_named : (m : Map) (p : ℕ → Bool) (ids : List ℕ) → ascending (lane_ids m) ≡ true → ascending ids ≡ true
    → ((x : ℕ) → p x ≡ has x ids) → ((x : ℕ) → has x ids ≡ true → has x (lane_ids m) ≡ true)
    → lanes_where (λ l. p l.id) m.lanes ≡ refs LaneKind ids
lanes_named m p ids up order same there = ap (refs LaneKind) (ascending-same (map (λ l. l.id) (keep (λ l. p l.id) m.lanes)) ids (keys-keep (λ l. l.id) (λ l. p l.id) m.lanes up) order both)
  where
    chosen : (x : ℕ) → has x (map (λ l. l.id) (keep (λ l. p l.id) m.lanes)) ≡ any (λ l. p l.id && eqb x l.id) m.lanes
    chosen x = has_kept (λ l. l.id) (λ l. p l.id) x m.lanes

    to : (x : ℕ) → any (λ l. p l.id && eqb x l.id) m.lanes ≡ true → has x ids ≡ true
    to x h =
        any-implies (λ l. p l.id && eqb x l.id) (has x ids) m.lanes (λ l t.
        let q : p l.id ≡ true = and-fst (p l.id) (eqb x l.id) t in
        let e : x ≡ l.id = eqb-true x l.id (and-snd (p l.id) (eqb x l.id) t) in
        sym (same x) ∙ (ap p e ∙ q)) h

    from : (x : ℕ) → has x ids ≡ true → any (λ l. p l.id && eqb x l.id) m.lanes ≡ true
    from x h =
        any-weaken (λ l. eqb x l.id) (λ l. p l.id && eqb x l.id) m.lanes (λ l t.
        let e : x ≡ l.id = eqb-true x l.id t in
        and_both (p l.id) (eqb x l.id) (ap p (sym e) ∙ (same x ∙ h)) t) (sym (has_key (λ l. l.id) x m.lanes) ∙ there x h)

    both : (x : ℕ) → has x (map (λ l. l.id) (keep (λ l. p l.id) m.lanes)) ≡ has x ids
    both x = chosen x ∙ same_test (any (λ l. p l.id && eqb x l.id) m.lanes) (has x ids) (to x) (from x)
