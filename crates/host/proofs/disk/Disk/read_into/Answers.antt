use Rattle.host.proofs.disk.Disk.read_into.Goals as goal

pub returns-then-is_log : goal.returns-then-is_log
returns-then-is_log g c = c.in_ok-read_into.ensures

pub returns-in_default : goal.returns-in_default
returns-in_default g c = λ taken. taken

pub returns : goal.returns
returns g c = c.in_ok-hand_content.ensures
