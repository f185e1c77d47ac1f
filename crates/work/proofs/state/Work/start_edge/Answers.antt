use Rattle.std.proofs.Common.{suc, refl, sym, subst}
use Rattle.records.specs.declared.records.Records.{Records}
use Rattle.judge.specs.Answers.{TellSame}
use Rattle.theory.proofs.SiteCalls.{looks_then}
use Rattle.work.proofs.Results.{on_err, ok_then}
use Rattle.work.proofs.Launched.{err_then}
use Rattle.work.proofs.Begins.{declared_once, declared_some, next_command, cut_looking, cut_beginning, begun_now}
use Rattle.work.proofs.After.{after_then, after_looks, after_writes, some_after}
use Rattle.work.proofs.state.Work.start_edge.Goals as goal

pub returns-in_err-make_folders-clause-cut : goal.returns-in_err-make_folders-clause-cut
returns-in_err-make_folders-clause-cut g c =
    on_err c.from_residual.result (λ course suits goes on.
    cut_looking g.S.Texts.tells course c.args.self.now.graph suits c.log_stays.ensures c.args.self.now (g.S.Texts.world c.args.site.now) c.args.edge on goes c.requires.next
    (g.S.Texts.world c.make_folders.new.site) c.make_folders.ensures.looks)

pub returns-in_err-start-clause-cut : goal.returns-in_err-start-clause-cut
returns-in_err-start-clause-cut g c =
    on_err c.from_residual-in_err-start.result (λ course suits goes on.
    cut_looking g.S.Texts.tells course c.args.self.now.graph suits c.log_stays.ensures c.args.self.now (g.S.Texts.world c.args.site.now) c.args.edge on goes c.requires.next
    (g.S.Texts.world c.start.new.site)
    (looks_then g.S.Texts.tells (g.S.Texts.world c.args.site.now) (g.S.Texts.world c.make_folders.new.site) (g.S.Texts.world c.start.new.site) c.make_folders.ensures.looks c.start.ensures.looks))

pub begin-requires-clause-once : goal.begin-requires-clause-once
begin-requires-clause-once g c =
    let going = c.requires.going in
    declared_once g.S.Texts.tells going.course c.args.self.now.graph going.suits

pub begin-requires-clause-some : goal.begin-requires-clause-some
begin-requires-clause-some g c =
    let going = c.requires.going in
    declared_some g.S.Texts.tells going.course c.args.self.now.graph going.suits (suc c.args.edge)
    (next_command g.S.Texts.tells going.course c.args.self.now.graph going.suits c.log_stays.ensures c.args.self.now (g.S.Texts.world c.args.site.now) c.args.edge going.on going.is c.requires.next)

pub returns-in_err-begin-clause-cut : goal.returns-in_err-begin-clause-cut
returns-in_err-begin-clause-cut g c =
    on_err c.from_residual-in_err-begin.result (λ course suits goes on.
    cut_beginning g.S.Texts.tells course c.args.self.now.graph suits c.log_stays.ensures c.args.self.now (g.S.Texts.world c.args.site.now) c.args.edge on goes c.requires.next
    (g.S.Texts.world c.start.new.site) (g.S.Texts.world c.begin.new.site)
    (looks_then g.S.Texts.tells (g.S.Texts.world c.args.site.now) (g.S.Texts.world c.make_folders.new.site) (g.S.Texts.world c.start.new.site) c.make_folders.ensures.looks c.start.ensures.looks)
    c.begin.ensures.writes c.in_err-begin.ensures.err)

pub launch-requires-clause-begun : goal.launch-requires-clause-begun
launch-requires-clause-begun g c =
    let going = c.requires.going in
    record {
      course = going.course;
      suits = going.suits;
      begun = begun_now g.S.Texts.tells going.course c.args.self.now.graph going.suits c.log_stays.ensures c.args.self.now (g.S.Texts.world c.args.site.now) c.args.edge going.on going.is c.requires.next
          (g.S.Texts.world c.start.new.site) (g.S.Texts.world c.begin.new.site)
          (looks_then g.S.Texts.tells (g.S.Texts.world c.args.site.now) (g.S.Texts.world c.make_folders.new.site) (g.S.Texts.world c.start.new.site) c.make_folders.ensures.looks c.start.ensures.looks)
          c.begin.ensures.writes c.begin.new.self c.start.new.self c.begin.ensures.same c.begin.ensures.places c.begin.ensures.deps_places c.in_ok-begin.ensures.ok;
    }

pub returns-clause-on : goal.returns-clause-on
returns-clause-on g c =
    ok_then c.launch.result c.launch.ensures.on (λ so course suits goes on.
    so course suits
    (begun_now g.S.Texts.tells course c.args.self.now.graph suits c.log_stays.ensures c.args.self.now (g.S.Texts.world c.args.site.now) c.args.edge on goes c.requires.next
    (g.S.Texts.world c.start.new.site) (g.S.Texts.world c.begin.new.site)
    (looks_then g.S.Texts.tells (g.S.Texts.world c.args.site.now) (g.S.Texts.world c.make_folders.new.site) (g.S.Texts.world c.start.new.site) c.make_folders.ensures.looks c.start.ensures.looks)
    c.begin.ensures.writes c.begin.new.self c.start.new.self c.begin.ensures.same c.begin.ensures.places c.begin.ensures.deps_places c.in_ok-begin.ensures.ok))

pub returns-clause-cut : goal.returns-clause-cut
returns-clause-cut g c =
    err_then c.launch.result c.launch.ensures.cut (λ so course suits goes on.
    so course suits
    (begun_now g.S.Texts.tells course c.args.self.now.graph suits c.log_stays.ensures c.args.self.now (g.S.Texts.world c.args.site.now) c.args.edge on goes c.requires.next
    (g.S.Texts.world c.start.new.site) (g.S.Texts.world c.begin.new.site)
    (looks_then g.S.Texts.tells (g.S.Texts.world c.args.site.now) (g.S.Texts.world c.make_folders.new.site) (g.S.Texts.world c.start.new.site) c.make_folders.ensures.looks c.start.ensures.looks)
    c.begin.ensures.writes c.begin.new.self c.start.new.self c.begin.ensures.same c.begin.ensures.places c.begin.ensures.deps_places c.in_ok-begin.ensures.ok))

pub returns-in_err-make_folders-clause-grows : goal.returns-in_err-make_folders-clause-grows
returns-in_err-make_folders-clause-grows g c = after_looks g.S.Texts.tells (g.S.Texts.world c.args.site.now) (g.S.Texts.world c.make_folders.new.site) c.make_folders.ensures.looks

pub returns-in_err-start-clause-grows : goal.returns-in_err-start-clause-grows
returns-in_err-start-clause-grows g c = after_then g.S.Texts.tells (g.S.Texts.world c.args.site.now) (g.S.Texts.world c.make_folders.new.site) (g.S.Texts.world c.start.new.site) (after_looks g.S.Texts.tells (g.S.Texts.world c.args.site.now) (g.S.Texts.world c.make_folders.new.site) c.make_folders.ensures.looks) (after_looks g.S.Texts.tells (g.S.Texts.world c.make_folders.new.site) (g.S.Texts.world c.start.new.site) c.start.ensures.looks)

pub returns-in_err-begin-clause-grows : goal.returns-in_err-begin-clause-grows
returns-in_err-begin-clause-grows g c = after_then g.S.Texts.tells (g.S.Texts.world c.args.site.now) (g.S.Texts.world c.start.new.site) (g.S.Texts.world c.begin.new.site) (after_then g.S.Texts.tells (g.S.Texts.world c.args.site.now) (g.S.Texts.world c.make_folders.new.site) (g.S.Texts.world c.start.new.site) (after_looks g.S.Texts.tells (g.S.Texts.world c.args.site.now) (g.S.Texts.world c.make_folders.new.site) c.make_folders.ensures.looks) (after_looks g.S.Texts.tells (g.S.Texts.world c.make_folders.new.site) (g.S.Texts.world c.start.new.site) c.start.ensures.looks)) (after_writes g.S.Texts.tells c.args.self.now.records.logs.build_log.path (g.S.Texts.world c.start.new.site) (g.S.Texts.world c.begin.new.site) c.begin.ensures.writes)

pub returns-clause-grows : goal.returns-clause-grows
returns-clause-grows g c = after_then g.S.Texts.tells (g.S.Texts.world c.args.site.now) (g.S.Texts.world c.begin.new.site) (g.S.Texts.world c.launch.new.site) (after_then g.S.Texts.tells (g.S.Texts.world c.args.site.now) (g.S.Texts.world c.start.new.site) (g.S.Texts.world c.begin.new.site) (after_then g.S.Texts.tells (g.S.Texts.world c.args.site.now) (g.S.Texts.world c.make_folders.new.site) (g.S.Texts.world c.start.new.site) (after_looks g.S.Texts.tells (g.S.Texts.world c.args.site.now) (g.S.Texts.world c.make_folders.new.site) c.make_folders.ensures.looks) (after_looks g.S.Texts.tells (g.S.Texts.world c.make_folders.new.site) (g.S.Texts.world c.start.new.site) c.start.ensures.looks)) (after_writes g.S.Texts.tells c.args.self.now.records.logs.build_log.path (g.S.Texts.world c.start.new.site) (g.S.Texts.world c.begin.new.site) c.begin.ensures.writes)) c.launch.ensures.grows

pub returns-clause-some : goal.returns-clause-some
returns-clause-some g c = ok_then c.launch.result c.launch.ensures.some (λ some. some_after g.S.Texts.tells (g.S.Texts.world c.args.site.now) (g.S.Texts.world c.begin.new.site) (g.S.Texts.world c.launch.new.site) (after_then g.S.Texts.tells (g.S.Texts.world c.args.site.now) (g.S.Texts.world c.start.new.site) (g.S.Texts.world c.begin.new.site) (after_then g.S.Texts.tells (g.S.Texts.world c.args.site.now) (g.S.Texts.world c.make_folders.new.site) (g.S.Texts.world c.start.new.site) (after_looks g.S.Texts.tells (g.S.Texts.world c.args.site.now) (g.S.Texts.world c.make_folders.new.site) c.make_folders.ensures.looks) (after_looks g.S.Texts.tells (g.S.Texts.world c.make_folders.new.site) (g.S.Texts.world c.start.new.site) c.start.ensures.looks)) (after_writes g.S.Texts.tells c.args.self.now.records.logs.build_log.path (g.S.Texts.world c.start.new.site) (g.S.Texts.world c.begin.new.site) c.begin.ensures.writes)) some c.launch.ensures.grows)

-- the log is written at its end, and tells what it told
pub returns-in_err-make_folders-clause-told : goal.returns-in_err-make_folders-clause-told
returns-in_err-make_folders-clause-told g c = record { build_log = refl; deps_log = refl; places = refl; deps_places = refl }

pub returns-in_err-start-clause-told : goal.returns-in_err-start-clause-told
returns-in_err-start-clause-told g c = record { build_log = refl; deps_log = refl; places = refl; deps_places = refl }

pub returns-in_err-begin-clause-told : goal.returns-in_err-begin-clause-told
returns-in_err-begin-clause-told g c = record { build_log = c.begin.ensures.same.build_log.log; deps_log = c.begin.ensures.same.deps_log.log; places = c.begin.ensures.places; deps_places = c.begin.ensures.deps_places }

pub returns-clause-told : goal.returns-clause-told
returns-clause-told g c =
    subst (λ (records : Records). TellSame c.args.self.now.records records) (sym {A = Records} c.launch.ensures.records)
    (record { build_log = c.begin.ensures.same.build_log.log; deps_log = c.begin.ensures.same.deps_log.log; places = c.begin.ensures.places; deps_places = c.begin.ensures.deps_places })
