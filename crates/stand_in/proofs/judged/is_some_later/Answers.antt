use Rattle.std.proofs.Common.{ℕ, Bool, true, false, Option, None, Some, Result, Ok, Err, IsSome, ◌≡◌, refl, sym, ap, ◌∙◌}
use Rattle.std.proofs.lemmas.Bool.{true≢false}
use Rattle.stand_in.proofs.Calls.{still_err, still_nothing, still_says, still_then, still_unsaid}
use Rattle.stand_in.proofs.judged.is_some_later.Goals as goal

pub loop-path-init : goal.loop-path-init
loop-path-init g c = still_nothing g.S.Texts.tells (g.S.Texts.world c.args.site.now)

pub returns-in_err-is_later : goal.returns-in_err-is_later
returns-in_err-is_later g c = still_err g.S.Texts.tells (λ (b : Bool). b ≡ false) (λ (b : Bool). b ≡ false) (g.S.Texts.world c.args.site.now) (g.S.Texts.world c.loop-path.site) (g.S.Texts.world c.is_later.new.site) c.in_err-is_later.field-0.0 c.from_residual.result c.loop-path.invariant c.in_err-is_later.ensures c.from_residual.ensures.1

pub returns-then-branch : goal.returns-then-branch
returns-then-branch g c = still_unsaid g.S.Texts.tells (λ (b : Bool). b ≡ false) (λ (b : Bool). b ≡ false) (g.S.Texts.world c.args.site.now) (g.S.Texts.world c.loop-path.site) (g.S.Texts.world c.is_later.new.site) c.in_ok-is_later.field-0 true c.loop-path.invariant c.in_ok-is_later.ensures (λ is. true≢false is)

pub loop-path-preserved : goal.loop-path-preserved
loop-path-preserved g c = still_then g.S.Texts.tells (λ (b : Bool). b ≡ false) (g.S.Texts.world c.args.site.now) (g.S.Texts.world c.loop-path.site) (g.S.Texts.world c.is_later.new.site) c.in_ok-is_later.field-0 c.loop-path.invariant c.in_ok-is_later.ensures c.if-branch.false

pub returns : goal.returns
returns g c = still_says g.S.Texts.tells (λ (b : Bool). b ≡ false) (g.S.Texts.world c.args.site.now) (g.S.Texts.world c.loop-path.site) false c.loop-path.invariant
