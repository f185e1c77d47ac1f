use Rattle.theory.proofs.Looks.{looks_nothing}
use Rattle.stand_in.proofs.Telling.{asks_looks}
use Rattle.stand_in.proofs.due.show_one.Goals as goal

pub returns-in-Some : goal.returns-in-Some
returns-in-Some g c = asks_looks g.S.Texts.tells (λ (u : Unit {0}). Unit {0}) (g.S.Texts.world c.args.site.now) (g.S.Texts.world c.show_command.new.site) c.show_command.result c.show_command.ensures

pub returns-in-None : goal.returns-in-None
returns-in-None g c = looks_nothing g.S.Texts.tells (g.S.Texts.world c.args.site.now)
