use Rattle.std.proofs.Common.{◌<◌, ◌^◌, arith}
use Rattle.step.proofs.Counter.{counter-word}
use Rattle.yard.proofs.apply.Goals as goal

-- What a call leaves of the counter is a word.
pub returns : goal.returns
returns c =
    let h : c.args.counter < 2 ^ 64 = omega arith in
    counter-word c.preset.result c.args.command _ _ c.apply.result c.apply.ensures h
