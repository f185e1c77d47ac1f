use Rattle.host.proofs.content.hand_content.Goals as goal

pub pieces-init : goal.pieces-init
pieces-init g c = λ taken. taken

pub pieces-preserved : goal.pieces-preserved
pieces-preserved g c = λ taken. c.in_ok-hand_piece.ensures (c.pieces.invariant taken)
