use Rattle.stream.proofs.digest.tables.Goals as goal

-- src/digest.rt:44:1
pub returns : goal.returns
returns c = cc
