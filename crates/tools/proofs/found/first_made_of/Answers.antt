use Rattle.tools.proofs.found.first_made_of.Goals as goal

pub returns-in-Some : goal.returns-in-Some
returns-in-Some c = record { read = c.in_ok-read.read; is = c.in_ok-read.ensures; first = c.in-Some.ensures }
