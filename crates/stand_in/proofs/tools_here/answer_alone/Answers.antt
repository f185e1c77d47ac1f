use Rattle.theory.proofs.Looks.{looks_then}
use Rattle.stand_in.proofs.tools_here.answer_alone.Goals as goal

pub answer_read-requires : goal.answer_read-requires
answer_read-requires g c = record { running = c.in_ok-declared.ensures.read.since.unrefused.goes_on }

pub returns-in_err-answer_read : goal.returns-in_err-answer_read
returns-in_err-answer_read g c = record {
  looks = λ none. looks_then g.S.Texts.tells (g.S.Texts.world c.args.site.now) (g.S.Texts.world c.read_alone.new.site) (g.S.Texts.world c.answer_read.new.site) c.read_alone.ensures.looks (c.answer_read.ensures.looks none);
}

pub returns : goal.returns
returns g c = record {
  looks = λ none. looks_then g.S.Texts.tells (g.S.Texts.world c.args.site.now) (g.S.Texts.world c.read_alone.new.site) (g.S.Texts.world c.answer_read.new.site) c.read_alone.ensures.looks (c.answer_read.ensures.looks none);
}
