use Rattle.host.proofs.content.hand_piece.Goals as goal

pub returns-in_ok-take-in-Ok : goal.returns-in_ok-take-in-Ok
returns-in_ok-take-in-Ok g c = λ taken. (_, c.in_ok-take-in-Ok.ensures taken.0 taken.1)
