use Rattle.std.proofs.Common.{inr}
use Rattle.tools.proofs.Removed.{removes_nothing, removes_one}
use Rattle.tools.proofs.cleaning.remove_there.Goals as goal

pub returns-in_err-stat : goal.returns-in_err-stat
returns-in_err-stat g c = removes_nothing g.S.Texts.tells c.args.only_count c.args.path.now (g.S.Texts.world c.args.site.now) (g.S.Texts.world c.stat.new.self) c.stat.ensures.looks

pub returns-then-is_none : goal.returns-then-is_none
returns-then-is_none g c = removes_nothing g.S.Texts.tells c.args.only_count c.args.path.now (g.S.Texts.world c.args.site.now) (g.S.Texts.world c.stat.new.self) c.stat.ensures.looks

pub returns-in_err-count-in-Ok : goal.returns-in_err-count-in-Ok
returns-in_err-count-in-Ok g c = removes_one g.S.Texts.tells c.args.only_count c.args.path.now (g.S.Texts.world c.args.site.now) (g.S.Texts.world c.stat.new.self) (g.S.Texts.world c.remove.new.self) c.if-only_count.false c.stat.ensures.looks (inr c.in-Ok.ensures.writes)

pub returns-in_ok-count-in-Ok : goal.returns-in_ok-count-in-Ok
returns-in_ok-count-in-Ok g c = removes_one g.S.Texts.tells c.args.only_count c.args.path.now (g.S.Texts.world c.args.site.now) (g.S.Texts.world c.stat.new.self) (g.S.Texts.world c.remove.new.self) c.if-only_count.false c.stat.ensures.looks (inr c.in-Ok.ensures.writes)

pub returns-in_err-push-in-Err : goal.returns-in_err-push-in-Err
returns-in_err-push-in-Err g c = removes_one g.S.Texts.tells c.args.only_count c.args.path.now (g.S.Texts.world c.args.site.now) (g.S.Texts.world c.stat.new.self) (g.S.Texts.world c.remove.new.self) c.if-only_count.false c.stat.ensures.looks c.in-Err.ensures.err

pub returns-in_ok-push-in-Err : goal.returns-in_ok-push-in-Err
returns-in_ok-push-in-Err g c = removes_one g.S.Texts.tells c.args.only_count c.args.path.now (g.S.Texts.world c.args.site.now) (g.S.Texts.world c.stat.new.self) (g.S.Texts.world c.remove.new.self) c.if-only_count.false c.stat.ensures.looks c.in-Err.ensures.err

pub returns-in_err-count : goal.returns-in_err-count
returns-in_err-count g c = removes_nothing g.S.Texts.tells c.args.only_count c.args.path.now (g.S.Texts.world c.args.site.now) (g.S.Texts.world c.stat.new.self) c.stat.ensures.looks

pub returns-then-only_count : goal.returns-then-only_count
returns-then-only_count g c = removes_nothing g.S.Texts.tells c.args.only_count c.args.path.now (g.S.Texts.world c.args.site.now) (g.S.Texts.world c.stat.new.self) c.stat.ensures.looks

pub returns-in_err-from_str-in-Err : goal.returns-in_err-from_str-in-Err
returns-in_err-from_str-in-Err g c = removes_one g.S.Texts.tells c.args.only_count c.args.path.now (g.S.Texts.world c.args.site.now) (g.S.Texts.world c.stat.new.self) (g.S.Texts.world c.remove.new.self) c.if-only_count.false c.stat.ensures.looks c.in-Err.ensures.err
