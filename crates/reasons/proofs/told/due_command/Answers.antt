use Rattle.std.proofs.Common.{[], length, sym, subst}
use Rattle.graph.specs.ReadingOf.{IsReadingOf, edges_in}
use Rattle.judge.specs.declared.sums.Sums.{Sums}
use Rattle.judge.specs.Summed.{AreSums}
use Rattle.reasons.proofs.Telling.{within_of}
use Rattle.reasons.proofs.told.due_command.Goals as goal

pub ask_for-requires-clause-edges : goal.ask_for-requires-clause-edges
ask_for-requires-clause-edges g c = within_of (length c.args.graph.now.manifest.lines) (edges_in c.in_ok-reading.reading) c.edges_of-edges.result.now c.edges_of-edges.ensures c.in_ok-reading.ensures.within

pub told_of-requires-clause-edges : goal.told_of-requires-clause-edges
told_of-requires-clause-edges g c = within_of (length c.args.graph.now.manifest.lines) (edges_in c.in_ok-reading.reading) c.edges_of-edges.result.now c.edges_of-edges.ensures c.in_ok-reading.ensures.within

pub returns-in_err-ask_for-clause-looked : goal.returns-in_err-ask_for-clause-looked
returns-in_err-ask_for-clause-looked g c =
    (c.looks_follow.ensures.follow g.S.Texts.tells (g.S.Texts.world c.args.site.now) (g.S.Texts.world c.reason.new.site) (g.S.Texts.world c.ask_for.new.site)).looked c.args.graph.now c.args.looks.now c.reason.new.self c.ask_for.new.looks
    c.reason.ensures.looked c.ask_for.ensures.looked

pub returns-in_err-ask_for-clause-summed : goal.returns-in_err-ask_for-clause-summed
returns-in_err-ask_for-clause-summed g c = subst (λ (s : Sums). AreSums c.args.graph.now [] c.ask_for.new.looks.seen.items s) (sym {A = Sums} c.ask_for.ensures.sums)
    (c.sums_follow.ensures.sums c.args.graph.now [] c.reason.new.self.seen.items c.ask_for.new.looks.seen.items c.ask_for.ensures.looked.stays c.reason.new.self.sums c.reason.ensures.summed)

pub returns-clause-looked : goal.returns-clause-looked
returns-clause-looked g c =
    (c.looks_follow.ensures.follow g.S.Texts.tells (g.S.Texts.world c.args.site.now) (g.S.Texts.world c.reason.new.site) (g.S.Texts.world c.ask_for.new.site)).looked c.args.graph.now c.args.looks.now c.reason.new.self c.ask_for.new.looks
    c.reason.ensures.looked c.ask_for.ensures.looked

pub returns-clause-summed : goal.returns-clause-summed
returns-clause-summed g c = subst (λ (s : Sums). AreSums c.args.graph.now [] c.ask_for.new.looks.seen.items s) (sym {A = Sums} c.ask_for.ensures.sums)
    (c.sums_follow.ensures.sums c.args.graph.now [] c.reason.new.self.seen.items c.ask_for.new.looks.seen.items c.ask_for.ensures.looked.stays c.reason.new.self.sums c.reason.ensures.summed)

pub returns-clause-why : goal.returns-clause-why
returns-clause-why g c =
    let tells = g.S.Texts.tells in
    let graph = c.args.graph.now in
    let a = g.S.Texts.world c.args.site.now in
    let b = g.S.Texts.world c.reason.new.site in
    let d = g.S.Texts.world c.ask_for.new.site in
    record {
      within = c.requires.within;
      found = c.in_ok-found.found;
      judged = record {
        from = a;
        to = b;
        first = c.args.looks.now;
        second = c.reason.new.self;
        earlier = (c.looks_follow.ensures.follow tells a a a).none graph c.args.looks.now;
        asked = c.reason.ensures.looked;
        later = c.ask_for.ensures.looked;
        answer = c.in_ok-found.ensures.reason;
      };
      there = d;
      seen = c.ask_for.new.looks;
      earlier = (c.looks_follow.ensures.follow tells a b d).looked graph c.args.looks.now c.reason.new.self c.ask_for.new.looks c.reason.ensures.looked c.ask_for.ensures.looked;
      later = (c.looks_follow.ensures.follow tells d d d).none graph c.ask_for.new.looks;
      edges = c.edges_of-edges.result.now;
      read = subst (IsReadingOf graph c.args.edge) (sym c.edges_of-edges.ensures) c.in_ok-reading.ensures;
      outputs = c.in_ok-ask_for.ensures.outputs;
      regular = c.in_ok-ask_for.ensures.regular;
      recorded = c.in_ok-ask_for.ensures.recorded;
      firm = c.args.firm.now;
      told = c.told_of.ensures.told;
    }
