use Rattle.host.proofs.logs.Logs.read_into.Goals as goal

pub returns-in_default : goal.returns-in_default
returns-in_default g c = λ taken. taken

pub returns : goal.returns
returns g c = c.in_ok-length.ensures
