use Rattle.std.proofs.Common.{◌≡◌, ℕ, ◌<◌, true, List, length, sym, ◌∙◌, ap, subst, inl, inr, arith, refl}
use Rattle.std.proofs.lemmas.Bool.{false≢true}
use Rattle.std.proofs.lemmas.List.{take_all, length-set}
use Rattle.model.specs.Graph.{has_number}
use Rattle.theory.proofs.SiteCalls.{unrefused_none, unrefused_call, unrefused_then}
use Rattle.judge.specs.declared.looks.Looks.{Looks}
use Rattle.judge.specs.Seen.{look_at, look_of, is_asked}
use Rattle.judge.proofs.Numbers.{item_has, there_last}
use Rattle.judge.proofs.LooksStay.{looked_none, looked_then, asked_now}
use Rattle.judge.proofs.looks.Looks.ask.Goals as goal

pub loop-path-init : goal.loop-path-init
loop-path-init g c = record {
  sums = refl;
  looked = looked_none g.S.Texts.tells c.args.graph.now (g.S.Texts.world c.args.site.now) c.args.self.now;
  unrefused = unrefused_none (g.S.Texts.world c.args.site.now) c.requires.running;
  asked = λ p none. absurd (false≢true none);
}

pub stamp-requires-clause-fits : goal.stamp-requires-clause-fits
stamp-requires-clause-fits g c = c.loop-path.invariant.looked.fits ∙ c.requires.fits

pub stamp-requires-clause-within : goal.stamp-requires-clause-within
stamp-requires-clause-within g c =
    subst (λ (p : ℕ). p < length c.args.graph.now.manifest.paths) (sym {A = ℕ} c.path-item.is)
    (c.requires.within _ (item_has c.args.paths.now c.loop-path.path-index c.path-item.result c.loop-path-test.true))

pub returns-in_err-stamp-clause-looked : goal.returns-in_err-stamp-clause-looked
returns-in_err-stamp-clause-looked g c = looked_then g.S.Texts.tells c.args.graph.now (g.S.Texts.world c.args.site.now) (g.S.Texts.world c.loop-path.site) (g.S.Texts.world c.stamp.new.site) c.args.self.now c.loop-path.self c.stamp.new.self c.loop-path.invariant.looked (record {
  looks = c.stamp.ensures.looks;
  fits = ap (λ (l : Looks). length l.seen.items) c.in_err-stamp.ensures.err;
  seen = c.stamp.ensures.kept;
  stays = c.stamp.ensures.stays;
})

pub loop-path-preserved : goal.loop-path-preserved
loop-path-preserved g c =
    let graph = c.args.graph.now in
    let a = g.S.Texts.world c.args.site.now in
    let b = g.S.Texts.world c.loop-path.site in
    let d = g.S.Texts.world c.stamp.new.site in
    let place = c.loop-path.path-index in
    let path = c.path-item.result in
    let within : path < length c.loop-path.self.seen.items =
    subst (λ (n : ℕ). path < n) (sym (c.loop-path.invariant.looked.fits ∙ c.requires.fits)) (subst (λ (p : ℕ). p < length graph.manifest.paths) (sym {A = ℕ} c.path-item.is) (c.requires.within _ (item_has c.args.paths.now place path c.loop-path-test.true))) in
    record {
      sums = c.stamp.ensures.sums ∙ c.loop-path.invariant.sums;
      looked = looked_then g.S.Texts.tells graph a b d c.args.self.now c.loop-path.self c.stamp.new.self c.loop-path.invariant.looked (record {
        looks = c.stamp.ensures.looks;
        fits = ap length c.in_ok-stamp.ensures.seen ∙ length-set c.loop-path.self.seen.items path (look_of c.in_ok-stamp.field-0);
        seen = c.stamp.ensures.kept;
        stays = c.stamp.ensures.stays;
      });
      unrefused = unrefused_then a b d c.loop-path.invariant.unrefused (unrefused_call b d _ c.in_ok-stamp.ensures.cause);
      asked = λ p h. elim (there_last c.args.paths.now place path c.loop-path-test.true p h) [
        | inl before ↦
            let was = c.loop-path.invariant.asked p before in
            ap is_asked (c.stamp.ensures.stays p was) ∙ was
        | inr here ↦
            subst (λ (q : ℕ). is_asked (look_at c.stamp.new.self.seen.items q) ≡ true) (c.path-item.is ∙ sym {A = ℕ} here) (asked_now c.loop-path.self.seen.items c.stamp.new.self.seen.items path c.in_ok-stamp.field-0 within c.in_ok-stamp.ensures.seen)
      ];
    }

pub returns-clause-asked : goal.returns-clause-asked
returns-clause-asked g c =
    subst (λ (l : List ℕ). (p : ℕ) → has_number l p ≡ true → is_asked (look_at c.loop-path.self.seen.items p) ≡ true) (take_all c.loop-path.path-index c.args.paths.now (omega arith)) c.loop-path.invariant.asked

pub returns-in_err-stamp-clause-sums : goal.returns-in_err-stamp-clause-sums
returns-in_err-stamp-clause-sums g c = c.stamp.ensures.sums ∙ c.loop-path.invariant.sums
