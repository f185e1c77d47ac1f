use Rattle.std.proofs.Common.{ℕ, Bool, true, false, Option, None, Some, Result, Ok, Err, IsSome, ◌≡◌, refl, sym, ap, ◌∙◌}
use Rattle.std.proofs.lemmas.Bool.{true≢false}
use Rattle.stand_in.specs.declared.regenerating.Regenerated.{Regenerated}
use Rattle.stand_in.specs.declared.regenerating.Regenerated.TheVariants.{Nothing, Ran, Failed}
use Rattle.stand_in.proofs.Calls.{asks_nothing, asks_so, ran_err, ran_none, ran_on, ran_two, ran_two_err}
use Rattle.stand_in.proofs.Edges.{edge_by}
use Rattle.stand_in.proofs.regenerating.regenerate.Goals as goal

pub loop-generator-init : goal.loop-generator-init
loop-generator-init g c = asks_nothing g.S.Texts.tells (λ (b : Bool). b ≡ false) (g.S.Texts.world c.args.site.now) false

pub is_out_of_date-requires : goal.is_out_of_date-requires
is_out_of_date-requires g c = edge_by c.args.declared.now c.args.above.now.generators.items c.as_slice-generator-items.result.now c.loop-generator.generator-index c.generator-item.result c.as_slice-generator-items.ensures.value c.requires c.loop-generator-test.true c.generator-item.is

pub returns-in_err-is_out_of_date : goal.returns-in_err-is_out_of_date
returns-in_err-is_out_of_date g c = ran_err g.S.Texts.tells (λ (b : Bool). b ≡ false) (λ (r : Regenerated). r ≡ Nothing) (g.S.Texts.world c.args.site.now) (g.S.Texts.world c.loop-generator.site) (g.S.Texts.world c.is_out_of_date.new.site) c.loop-generator.some c.in_err-is_out_of_date.field-0.0 c.from_residual.result c.loop-generator.invariant c.in_err-is_out_of_date.ensures c.from_residual.ensures.1

pub loop-generator-preserved-then-not-branch : goal.loop-generator-preserved-then-not-branch
loop-generator-preserved-then-not-branch g c = ran_none g.S.Texts.tells (g.S.Texts.world c.args.site.now) (g.S.Texts.world c.loop-generator.site) (g.S.Texts.world c.is_out_of_date.new.site) c.loop-generator.some c.in_ok-is_out_of_date.field-0 c.loop-generator.invariant c.in_ok-is_out_of_date.ensures c.if-not-branch.true

pub returns-in_err-run_one : goal.returns-in_err-run_one
returns-in_err-run_one g c = ran_two_err g.S.Texts.tells Bool (λ (b : Bool). b ≡ false) (λ (r : Regenerated). r ≡ Nothing) (g.S.Texts.world c.args.site.now) (g.S.Texts.world c.loop-generator.site) (g.S.Texts.world c.is_out_of_date.new.site) (g.S.Texts.world c.run_one.new.site) c.loop-generator.some c.in_ok-is_out_of_date.field-0 c.in_err-run_one.field-0.0 c.from_residual-in_err-run_one.result c.loop-generator.invariant c.in_ok-is_out_of_date.ensures c.in_err-run_one.ensures c.from_residual-in_err-run_one.ensures.1

pub returns-then-not-branch-2 : goal.returns-then-not-branch-2
returns-then-not-branch-2 g c = ran_two g.S.Texts.tells (λ (b : Bool). b ≡ false) (λ (r : Regenerated). r ≡ Nothing) (g.S.Texts.world c.args.site.now) (g.S.Texts.world c.loop-generator.site) (g.S.Texts.world c.is_out_of_date.new.site) (g.S.Texts.world c.run_one.new.site) c.loop-generator.some c.in_ok-is_out_of_date.field-0 c.in_ok-run_one.field-0 Failed c.loop-generator.invariant c.in_ok-is_out_of_date.ensures c.in_ok-run_one.ensures (λ is. cc)

pub loop-generator-preserved : goal.loop-generator-preserved
loop-generator-preserved g c = ran_two g.S.Texts.tells (λ (b : Bool). b ≡ false) (λ (b : Bool). b ≡ false) (g.S.Texts.world c.args.site.now) (g.S.Texts.world c.loop-generator.site) (g.S.Texts.world c.is_out_of_date.new.site) (g.S.Texts.world c.run_one.new.site) c.loop-generator.some c.in_ok-is_out_of_date.field-0 c.in_ok-run_one.field-0 true c.loop-generator.invariant c.in_ok-is_out_of_date.ensures c.in_ok-run_one.ensures (λ is. true≢false is)

pub returns-then-not-some : goal.returns-then-not-some
returns-then-not-some g c = asks_so g.S.Texts.tells (λ (b : Bool). b ≡ false) (λ (r : Regenerated). r ≡ Nothing) (g.S.Texts.world c.args.site.now) (g.S.Texts.world c.loop-generator.site) c.loop-generator.some Nothing c.loop-generator.invariant (λ is. c.if-not-some.true)

pub returns-in_err-old : goal.returns-in_err-old
returns-in_err-old g c = ran_err g.S.Texts.tells (λ (b : Bool). b ≡ false) (λ (r : Regenerated). r ≡ Nothing) (g.S.Texts.world c.args.site.now) (g.S.Texts.world c.loop-generator.site) (g.S.Texts.world c.is_last_old.new.site) c.loop-generator.some c.in_err-old.field-0.0 c.from_residual-in_err-old.result c.loop-generator.invariant c.in_err-old.ensures c.from_residual-in_err-old.ensures.1

pub returns : goal.returns
returns g c = ran_on g.S.Texts.tells (λ (b : Bool). b ≡ false) (λ (r : Regenerated). r ≡ Nothing) (g.S.Texts.world c.args.site.now) (g.S.Texts.world c.loop-generator.site) (g.S.Texts.world c.is_last_old.new.site) c.loop-generator.some c.in_ok-old.old (Ran c.in_ok-old.old) c.loop-generator.invariant c.in_ok-old.ensures (λ is. cc)
