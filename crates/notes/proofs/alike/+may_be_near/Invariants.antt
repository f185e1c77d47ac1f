use Rattle.notes.proofs.alike.+may_be_near.Given as goal

abbrev pub decreases-may_be_near : goal.decreases-may_be_near
decreases-may_be_near l = l.most
