use Rattle.std.proofs.Common.{◌∷◌, ◌∙◌, [], ℕ, List, refl, subst, arith}
use Rattle.std.proofs.lemmas.List.{take_all}
use Rattle.theory.proofs.SiteCalls.{unrefused_none, unrefused_call, unrefused_then}
use Rattle.judge.proofs.LooksStay.{looked_none}
use Rattle.judge.specs.Summed.{HasJoined}
use Rattle.judge.proofs.Summing.{joined_none, joined_more}
use Rattle.judge.proofs.looks.Looks.add_aliases.Goals as goal

pub loop-path-init : goal.loop-path-init
loop-path-init g c = record {
  looked = looked_none g.S.Texts.tells c.args.graph.now (g.S.Texts.world c.args.site.now) c.args.self.now;
  unrefused = unrefused_none (g.S.Texts.world c.args.site.now) c.requires.running;
  answers = refl;
  summed = c.requires.summed;
  marked = λ marked. marked;
  joined = joined_none c.args.graph.now c.args.changed.now c.args.self.now.seen.items c.args.inputs.now;
}

pub returns-in_err-add_alias-clause-looked : goal.returns-in_err-add_alias-clause-looked
returns-in_err-add_alias-clause-looked g c =
    (c.looks_follow.ensures.follow g.S.Texts.tells (g.S.Texts.world c.args.site.now) (g.S.Texts.world c.loop-path.site) (g.S.Texts.world c.add_alias.new.site)).looked c.args.graph.now c.args.self.now c.loop-path.self c.add_alias.new.self
    c.loop-path.invariant.looked c.add_alias.ensures.looked

pub loop-path-preserved : goal.loop-path-preserved
loop-path-preserved g c =
    let tells = g.S.Texts.tells in
    let graph = c.args.graph.now in
    let flags = c.args.changed.now in
    let a = g.S.Texts.world c.args.site.now in
    let b = g.S.Texts.world c.loop-path.site in
    let d = g.S.Texts.world c.add_alias.new.site in
    let seen = c.loop-path.self.seen.items in
    let new = c.add_alias.new.self.seen.items in
    record {
      looked = (c.looks_follow.ensures.follow tells a b d).looked graph c.args.self.now c.loop-path.self c.add_alias.new.self c.loop-path.invariant.looked c.add_alias.ensures.looked;
      unrefused = unrefused_then a b d c.loop-path.invariant.unrefused (unrefused_call b d _ c.in_ok-add_alias.ensures.cause);
      answers = c.add_alias.ensures.answers ∙ c.loop-path.invariant.answers;
      summed = c.add_alias.ensures.summed;
      marked = λ marked. c.add_alias.ensures.marked (c.loop-path.invariant.marked marked);
      joined = joined_more graph flags seen new c.add_alias.ensures.looked.stays c.args.paths.now c.loop-path.path-index c.path-item.result c.loop-path-test.true c.args.inputs.now c.loop-path.inputs c.add_alias.new.inputs c.loop-path.invariant.joined
          (subst (λ (p : ℕ). HasJoined graph flags new (p ∷ []) c.loop-path.inputs c.add_alias.new.inputs) c.path-item.is c.in_ok-add_alias.ensures.joined);
    }

pub returns-clause-joined : goal.returns-clause-joined
returns-clause-joined g c =
    subst (λ (l : List ℕ). HasJoined c.args.graph.now c.args.changed.now c.loop-path.self.seen.items l c.args.inputs.now c.loop-path.inputs)
    (take_all c.loop-path.path-index c.args.paths.now (omega arith)) c.loop-path.invariant.joined

pub returns-in_err-add_alias-clause-marked : goal.returns-in_err-add_alias-clause-marked
returns-in_err-add_alias-clause-marked g c marked = c.add_alias.ensures.marked (c.loop-path.invariant.marked marked)

pub returns-in_err-add_alias-clause-answers : goal.returns-in_err-add_alias-clause-answers
returns-in_err-add_alias-clause-answers g c = c.add_alias.ensures.answers ∙ c.loop-path.invariant.answers
