use Rattle.std.proofs.Common.{◌≡◌, true, IfSome, inr, refl, subst}
use Rattle.theory.proofs.SiteCalls.{unrefused_call}
use Rattle.graph.specs.Told.{declared_by}
use Rattle.paths.specs.Told.{text_at}
use Rattle.judge.specs.declared.lack.Found.{Found}
use Rattle.judge.specs.Lacks.{IsFound, lack_in, IfPresent, HasDue, IsLackOf, IsAskedFor}
use Rattle.work.proofs.Telling.{missing_told, source_told, needed_told}
use Rattle.work.proofs.state.Work.check_sources.Goals as goal

pub returns-in_ok-missing-in-Missing-clause-lacking : goal.returns-in_ok-missing-in-Missing-clause-lacking
returns-in_ok-missing-in-Missing-clause-lacking g c =
    let graph = c.args.self.now.graph in
    let lack = c.in-Missing.lack in
    let missing = c.in_ok-missing-in-Missing.field-0 in
    let named = subst (λ (f : Found). IfSome (lack_in f) (IsLackOf graph)) c.in-Missing.is c.in_ok-lack.ensures.within in
    inr record {
      missing = missing;
      says = refl;
      unrefused = unrefused_call (g.S.Texts.world c.args.site.now) (g.S.Texts.world c.sources.new.site) _ c.in_ok-lack.ensures.cause;
      named = source_told (declared_by graph).edges (text_at graph.manifest.paths lack.path) missing.path lack.needed_by missing.needed_by
          c.in_ok-missing-in-Missing.ensures.path c.in_ok-missing-in-Missing.ensures.needed_by named.source named.input;
      needed = λ store targets before under_way.
          needed_told graph c.args.self.now.cone store targets lack.path missing.path lack.needed_by missing.needed_by
          c.in_ok-missing-in-Missing.ensures.path c.in_ok-missing-in-Missing.ensures.needed_by named.source named.input
          (subst (λ (f : Found). IfSome (lack_in f) (λ l. IsAskedFor c.args.self.now.cone l.path l.needed_by)) c.in-Missing.is c.in_ok-lack.ensures.asked) under_way.listed under_way.numbers;
      is = λ store targets before under_way keeps tell set kept seen has files alike.
          missing_told (declared_by graph).edges store before targets files (text_at graph.manifest.paths lack.path) missing.path lack.needed_by missing.needed_by
          c.in_ok-missing-in-Missing.ensures.path c.in_ok-missing-in-Missing.ensures.needed_by
          (subst (λ (f : Found). IsFound graph store before targets files (lack_in f)) c.in-Missing.is
          (c.in_ok-lack.ensures.found store targets before under_way keeps tell set kept seen has files alike));
    }

pub sources-requires-clause-known : goal.sources-requires-clause-known
sources-requires-clause-known g c = c.requires.known.known

pub sources-requires-clause-kept : goal.sources-requires-clause-kept
sources-requires-clause-kept g c = c.requires.known.kept

pub returns-in_err-lack-clause-known : goal.returns-in_err-lack-clause-known
returns-in_err-lack-clause-known g c = record { known = c.sources.ensures.known; kept = c.sources.ensures.kept }

pub returns-in_err-missing-in-Missing-clause-known : goal.returns-in_err-missing-in-Missing-clause-known
returns-in_err-missing-in-Missing-clause-known g c = record { known = c.sources.ensures.known; kept = c.sources.ensures.kept }

pub returns-in_ok-missing-in-Missing-clause-known : goal.returns-in_ok-missing-in-Missing-clause-known
returns-in_ok-missing-in-Missing-clause-known g c = record { known = c.sources.ensures.known; kept = c.sources.ensures.kept }

pub returns-in-Present-clause-known : goal.returns-in-Present-clause-known
returns-in-Present-clause-known g c = record { known = c.sources.ensures.known; kept = c.sources.ensures.kept }

pub returns-in-Present-clause-flags : goal.returns-in-Present-clause-flags
returns-in-Present-clause-flags g c =
    let looks = c.sources.new.self in
    subst (λ (f : Found). IfPresent f (λ due. looks.sums.answers.dues.known ≡ true → looks.sums.answers.dues.flags.items ≡ due)) c.in-Present.is c.in_ok-lack.ensures.flags

pub returns-in-Present-clause-sources : goal.returns-in-Present-clause-sources
returns-in-Present-clause-sources g c store targets before under_way keeps tell set kept seen has files alike =
    subst (λ (f : Found). IsFound c.args.self.now.graph store before targets files (lack_in f)) c.in-Present.is
    (c.in_ok-lack.ensures.found store targets before under_way keeps tell set kept seen has files alike)

pub returns-in-Present-clause-due : goal.returns-in-Present-clause-due
returns-in-Present-clause-due g c =
    subst (λ (f : Found). IfPresent f (λ due. HasDue g.S.Texts.tells c.args.self.now.graph c.args.self.now.records c.args.self.now.cone c.args.self.now.plan (g.S.Texts.world c.args.site.now) (g.S.Texts.world c.sources.new.site) c.args.self.now.looks due)) c.in-Present.is c.in_ok-lack.ensures.due
