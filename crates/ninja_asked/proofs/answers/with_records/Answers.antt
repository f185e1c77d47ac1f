use Rattle.theory.proofs.Looks.{looks_then}
use Rattle.ninja_asked.proofs.answers.with_records.Goals as goal

pub returns-then-eq : goal.returns-then-eq
returns-then-eq g c = record {
  looks = λ none. looks_then g.S.Texts.tells (g.S.Texts.world c.args.site.now) (g.S.Texts.world c.read_joined.new.site) (g.S.Texts.world c.queried.new.site) c.read_joined.ensures.looks c.queried.ensures;
}

pub returns : goal.returns
returns g c = record {
  looks = λ none. looks_then g.S.Texts.tells (g.S.Texts.world c.args.site.now) (g.S.Texts.world c.read_joined.new.site) (g.S.Texts.world c.with_logs.new.site) c.read_joined.ensures.looks (c.with_logs.ensures none);
}
