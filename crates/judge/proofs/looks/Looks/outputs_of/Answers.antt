use Rattle.std.proofs.Common.{◌≡◌, ◌<◌, ◌∙◌, ℕ, List, length, map, sym, ap, subst, arith, refl}
use Rattle.std.proofs.lemmas.List.{take_all}
use Rattle.model.specs.OutOfDate.{deps_start}
use Rattle.model.specs.Records.{in_force, deps_in_force}
use Rattle.theory.proofs.SiteCalls.{unrefused_none, unrefused_call, unrefused_then}
use Rattle.paths.specs.Told.{text_at}
use Rattle.judge.specs.Answers.{seen_output}
use Rattle.judge.specs.Facts.{AreAsked}
use Rattle.judge.specs.Seen.{look_at, look_of}
use Rattle.judge.specs.Summaries.{AreOutputs}
use Rattle.judge.proofs.Answered.{asked_more, outputs_more}
use Rattle.judge.proofs.Reasons.{at_has}
use Rattle.judge.proofs.LooksStay.{looked_none}
use Rattle.judge.proofs.Known.{takes_known}
use Rattle.judge.proofs.looks.Looks.outputs_of.Goals as goal

pub loop-path-init : goal.loop-path-init
loop-path-init g c = record {
  sums = refl;
  looked = looked_none g.S.Texts.tells c.args.graph.now (g.S.Texts.world c.args.site.now) c.args.self.now;
  unrefused = unrefused_none (g.S.Texts.world c.args.site.now) c.requires.running;
  asked = tt;
  outputs = λ rs ds of. c.new-outputs.ensures c.args.act.now;
}

pub stamp_of-requires-clause-within : goal.stamp_of-requires-clause-within
stamp_of-requires-clause-within g c =
    subst (λ (p : ℕ). p < length c.args.graph.now.manifest.paths) (sym {A = ℕ} c.path-item.is)
    (c.requires.within _ (at_has c.args.paths.now c.loop-path.path-index c.path-item.result c.loop-path-test.true))

pub returns-in_err-stamp-clause-looked : goal.returns-in_err-stamp-clause-looked
returns-in_err-stamp-clause-looked g c =
    (c.looks_follow.ensures.follow g.S.Texts.tells (g.S.Texts.world c.args.site.now) (g.S.Texts.world c.loop-path.site) (g.S.Texts.world c.stamp_of.new.site)).looked c.args.graph.now c.args.self.now c.loop-path.self c.stamp_of.new.self
    c.loop-path.invariant.looked c.stamp_of.ensures.looked

pub loop-path-preserved : goal.loop-path-preserved
loop-path-preserved g c =
    let tells = g.S.Texts.tells in
    let graph = c.args.graph.now in
    let a = g.S.Texts.world c.args.site.now in
    let b = g.S.Texts.world c.loop-path.site in
    let d = g.S.Texts.world c.stamp_of.new.site in
    let seen = c.loop-path.self.seen.items in
    let new = c.stamp_of.new.self.seen.items in
    let noted = subst (λ (p : ℕ). look_at new p ≡ look_of c.in_ok-stamp.stamp) c.path-item.is c.in_ok-stamp.ensures.seen in
    record {
      sums = c.stamp_of.ensures.sums ∙ c.loop-path.invariant.sums;
      looked = (c.looks_follow.ensures.follow tells a b d).looked graph c.args.self.now c.loop-path.self c.stamp_of.new.self c.loop-path.invariant.looked c.stamp_of.ensures.looked;
      unrefused = unrefused_then a b d c.loop-path.invariant.unrefused (unrefused_call b d _ c.in_ok-stamp.ensures.cause);
      asked = asked_more seen new c.stamp_of.ensures.looked.stays c.args.paths.now c.loop-path.path-index c.path-item.result c.loop-path-test.true c.loop-path.invariant.asked c.in_ok-stamp.stamp noted;
      outputs = λ rs ds of. outputs_more graph.manifest.paths rs ds c.args.act.now seen new c.stamp_of.ensures.looked.stays c.args.paths.now c.loop-path.path-index c.path-item.result c.loop-path-test.true c.loop-path.outputs c.add.new.self
          c.loop-path.invariant.asked (c.loop-path.invariant.outputs rs ds of) c.in_ok-stamp.stamp noted
          (takes_known graph.manifest.paths c.args.paths.now rs ds c.args.records.now of c.args.act.now _ (at_has c.args.paths.now c.loop-path.path-index c.path-item.result c.loop-path-test.true) c.in_ok-stamp.stamp
          _ _ (λ within. c.made.ensures.made rs of.first of.known (subst (λ (p : ℕ). p < length of.first) (sym {A = ℕ} c.path-item.is) within) ∙ ap (λ (p : ℕ). in_force rs (text_at of.first p)) c.path-item.is)
          (λ within. c.deps_start.ensures ds of.first of.told (subst (λ (p : ℕ). p < length of.first) (sym {A = ℕ} c.path-item.is) within) ∙ ap (λ (p : ℕ). deps_start (deps_in_force ds (text_at of.first p))) c.path-item.is)
          c.loop-path.outputs c.add.new.self c.add.ensures);
    }

pub returns-clause-outputs : goal.returns-clause-outputs
returns-clause-outputs g c =
    let whole = take_all c.loop-path.path-index c.args.paths.now (omega arith) in
    record {
      asked = subst (AreAsked c.loop-path.self.seen.items) whole c.loop-path.invariant.asked;
      are = λ rs ds of.
          subst (λ (l : List ℕ). AreOutputs c.args.act.now (map (seen_output c.args.graph.now.manifest.paths rs ds c.loop-path.self.seen.items) l) c.loop-path.outputs) whole (c.loop-path.invariant.outputs rs ds of);
    }

pub returns-in_err-stamp-clause-sums : goal.returns-in_err-stamp-clause-sums
returns-in_err-stamp-clause-sums g c = c.stamp_of.ensures.sums ∙ c.loop-path.invariant.sums
