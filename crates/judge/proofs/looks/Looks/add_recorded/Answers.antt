use Rattle.std.proofs.Common.{◌<◌, ◌∷◌, [], ℕ, List, length, sym, subst, arith, true, ◌∙◌, refl}
use Rattle.std.proofs.lemmas.List.{take_all}
use Rattle.theory.proofs.SiteCalls.{unrefused_none, unrefused_call, unrefused_then}
use Rattle.judge.proofs.LooksStay.{looked_none}
use Rattle.judge.specs.Facts.{HasTaken}
use Rattle.judge.proofs.Reasons.{at_has}
use Rattle.judge.proofs.Summing.{taken_none, taken_more}
use Rattle.judge.proofs.looks.Looks.add_recorded.Goals as goal

pub loop-path-init : goal.loop-path-init
loop-path-init g c = record {
  sums = refl;
  looked = looked_none g.S.Texts.tells c.args.graph.now (g.S.Texts.world c.args.site.now) c.args.self.now;
  unrefused = unrefused_none (g.S.Texts.world c.args.site.now) c.requires.running;
  taken = taken_none c.args.graph.now c.args.changed.now true c.args.self.now.seen.items c.args.inputs.now;
}

pub add_recorded_path-requires-clause-within : goal.add_recorded_path-requires-clause-within
add_recorded_path-requires-clause-within g c =
    subst (λ (p : ℕ). p < length c.args.graph.now.manifest.paths) (sym {A = ℕ} c.path-item.is)
    (c.requires.within _ (at_has c.args.paths.now c.loop-path.path-index c.path-item.result c.loop-path-test.true))

pub returns-in_err-add_recorded_path-clause-looked : goal.returns-in_err-add_recorded_path-clause-looked
returns-in_err-add_recorded_path-clause-looked g c =
    (c.looks_follow.ensures.follow g.S.Texts.tells (g.S.Texts.world c.args.site.now) (g.S.Texts.world c.loop-path.site) (g.S.Texts.world c.add_recorded_path.new.site)).looked c.args.graph.now c.args.self.now c.loop-path.self c.add_recorded_path.new.self
    c.loop-path.invariant.looked c.add_recorded_path.ensures.looked

pub loop-path-preserved : goal.loop-path-preserved
loop-path-preserved g c =
    let tells = g.S.Texts.tells in
    let graph = c.args.graph.now in
    let flags = c.args.changed.now in
    let a = g.S.Texts.world c.args.site.now in
    let b = g.S.Texts.world c.loop-path.site in
    let d = g.S.Texts.world c.add_recorded_path.new.site in
    let seen = c.loop-path.self.seen.items in
    let new = c.add_recorded_path.new.self.seen.items in
    record {
      sums = c.add_recorded_path.ensures.sums ∙ c.loop-path.invariant.sums;
      looked = (c.looks_follow.ensures.follow tells a b d).looked graph c.args.self.now c.loop-path.self c.add_recorded_path.new.self c.loop-path.invariant.looked c.add_recorded_path.ensures.looked;
      unrefused = unrefused_then a b d c.loop-path.invariant.unrefused (unrefused_call b d _ c.in_ok-add_recorded_path.ensures.cause);
      taken = taken_more graph flags true seen new c.add_recorded_path.ensures.looked.stays c.args.paths.now c.loop-path.path-index c.path-item.result c.loop-path-test.true c.args.inputs.now c.loop-path.taken c.add_recorded_path.new.inputs c.loop-path.invariant.taken
          (subst (λ (p : ℕ). HasTaken graph flags true new (p ∷ []) c.loop-path.taken c.add_recorded_path.new.inputs) c.path-item.is c.in_ok-add_recorded_path.ensures.taken);
    }

pub returns-clause-taken : goal.returns-clause-taken
returns-clause-taken g c =
    subst (λ (l : List ℕ). HasTaken c.args.graph.now c.args.changed.now true c.loop-path.self.seen.items l c.args.inputs.now c.loop-path.taken)
    (take_all c.loop-path.path-index c.args.paths.now (omega arith)) c.loop-path.invariant.taken

pub returns-in_err-add_recorded_path-clause-sums : goal.returns-in_err-add_recorded_path-clause-sums
returns-in_err-add_recorded_path-clause-sums g c = c.add_recorded_path.ensures.sums ∙ c.loop-path.invariant.sums
