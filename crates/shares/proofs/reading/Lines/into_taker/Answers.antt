use Rattle.shares.proofs.reading.Lines.into_taker.Goals as goal

pub returns : goal.returns
returns g c = λ text to. (to.lines, to.parts, to.told)
