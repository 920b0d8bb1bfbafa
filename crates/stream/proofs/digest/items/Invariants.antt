use mathlib.Core.Path.{◌≡◌}
use Prim.Native.Nat.{◌≤◌}
use lib.ListN.{length, drop}
use Rattle.stream.specs.Digest.{digest_by}
use Rattle.stream.proofs.digest.items.Given as goal

abbrev pub invariant-loop-item : goal.invariant-loop-item
invariant-loop-item g l =
    let f = g.T.Item.to_word in
    (l.item-index ≤ length l.list) × (digest_by f l.state (drop l.item-index l.list) ≡ digest_by f l.start l.list)
