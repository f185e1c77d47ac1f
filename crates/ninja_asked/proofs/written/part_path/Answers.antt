use Rattle.ninja_asked.proofs.written.part_path.Goals as goal

pub returns-clause-parts : goal.returns-clause-parts
returns-clause-parts g c = λ all keeps. record { written = c.in_ok-written.written; found = c.in_ok-written.ensures.found all keeps; left = c.in_ok-put.ensures.left; others = c.in_ok-put.ensures.others }
