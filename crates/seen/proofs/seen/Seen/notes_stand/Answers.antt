use Rattle.seen.proofs.seen.Seen.notes_stand.Goals as goal

pub returns : goal.returns
returns g c = c.args.self.now.retold.stand
