use Rattle.std.proofs.Common.{ℕ, Bool, true, false, Option, None, Some, Result, Ok, Err, IsSome, ◌≡◌, refl, sym, ap, ◌∙◌}
use Rattle.std.proofs.lemmas.Bool.{true≢false}
use Rattle.stand_in.proofs.Calls.{still_err, still_nothing, still_says, still_then, still_unsaid}
use Rattle.stand_in.proofs.Edges.{edge_by}
use Rattle.stand_in.proofs.regenerating.would_run.Goals as goal

pub is_out_of_date-requires : goal.is_out_of_date-requires
is_out_of_date-requires g c = edge_by c.args.declared.now c.args.above.now.generators.items c.as_slice-generator-items.result.now c.loop-generator.generator-index c.generator-item.result c.as_slice-generator-items.ensures.value c.requires c.loop-generator-test.true c.generator-item.is

pub loop-generator-init : goal.loop-generator-init
loop-generator-init g c = still_nothing g.S.Texts.tells (g.S.Texts.world c.args.site.now)

pub returns-in_err-is_out_of_date : goal.returns-in_err-is_out_of_date
returns-in_err-is_out_of_date g c = still_err g.S.Texts.tells (λ (b : Bool). b ≡ false) (λ (b : Bool). b ≡ false) (g.S.Texts.world c.args.site.now) (g.S.Texts.world c.loop-generator.site) (g.S.Texts.world c.is_out_of_date.new.site) c.in_err-is_out_of_date.field-0.0 c.from_residual.result c.loop-generator.invariant c.in_err-is_out_of_date.ensures c.from_residual.ensures.1

pub returns-then-branch : goal.returns-then-branch
returns-then-branch g c = still_unsaid g.S.Texts.tells (λ (b : Bool). b ≡ false) (λ (b : Bool). b ≡ false) (g.S.Texts.world c.args.site.now) (g.S.Texts.world c.loop-generator.site) (g.S.Texts.world c.is_out_of_date.new.site) c.in_ok-is_out_of_date.field-0 true c.loop-generator.invariant c.in_ok-is_out_of_date.ensures (λ is. true≢false is)

pub loop-generator-preserved : goal.loop-generator-preserved
loop-generator-preserved g c = still_then g.S.Texts.tells (λ (b : Bool). b ≡ false) (g.S.Texts.world c.args.site.now) (g.S.Texts.world c.loop-generator.site) (g.S.Texts.world c.is_out_of_date.new.site) c.in_ok-is_out_of_date.field-0 c.loop-generator.invariant c.in_ok-is_out_of_date.ensures c.if-branch.false

pub returns : goal.returns
returns g c = still_says g.S.Texts.tells (λ (b : Bool). b ≡ false) (g.S.Texts.world c.args.site.now) (g.S.Texts.world c.loop-generator.site) false c.loop-generator.invariant
