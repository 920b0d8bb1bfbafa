use Rattle.std.proofs.Common.{◌<◌, ◌^◌, arith}
use Rattle.step.proofs.Counter.{counter-word}
use Rattle.replay.proofs.make_call.Goals as goal

-- What a call leaves of the counter is a word.
pub tell-requires : goal.tell-requires
tell-requires c =
    let h : c.args.counter < 2 ^ 64 = omega arith in
    counter-word c.preset.result c.command_of.result _ _ c.apply-answer.result c.apply-answer.ensures h
