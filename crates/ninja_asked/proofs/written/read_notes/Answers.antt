use Rattle.ninja_asked.proofs.written.read_notes.Goals as goal

pub returns-in-Some-clause-some : goal.returns-in-Some-clause-some
returns-in-Some-clause-some g c =
    let told = c.in_ok-noted_in-in-Some.ensures in
    (told.1.0, told.1.2)
