use Rattle.ninja_asked.proofs.written.noted_in.Goals as goal

pub returns : goal.returns
returns c = (c.in_ok-read.read.1, c.in_ok-read.ensures)
