use Rattle.std.proofs.Common.{◌≡◌, [], true, false, refl, sym, ◌∙◌, ap, is_some, rules}
use Rattle.std.proofs.lemmas.Bool.{false≢true}
use Rattle.graph.specs.Links.{links_of}
use Rattle.judge.specs.declared.answers.Answers.{Answers}
use Rattle.judge.specs.declared.sums.Sums.{Sums}
use Rattle.judge.specs.Dues.{reads_due}
use Rattle.judge.proofs.Answered.{answers_with, depfile_then, known_kept, reason_found}
use Rattle.judge.proofs.FoundDues.{clean_found}
use Rattle.judge.proofs.LooksStay.{looked_then, looked_cleared}
use Rattle.judge.proofs.Taking.{looked_still}
use Rattle.judge.proofs.looks.Looks.is_command_due.Goals as goal

pub returns-then-reads_due-clause-ruled : goal.returns-then-reads_due-clause-ruled
returns-then-reads_due-clause-ruled g c =
    let flagged : reads_due (links_of c.args.graph.now) c.args.due.now c.args.edge ≡ true = search rules in
    record {
      depfile = false;
      ruled = record { reads = λ so. refl; found = λ none. absurd (false≢true (sym none ∙ flagged)) };
      there = λ none. absurd (false≢true (sym none ∙ flagged));
    }

pub returns-then-reads_due-clause-clean : goal.returns-then-reads_due-clause-clean
returns-then-reads_due-clause-clean g c is = absurd (false≢true (sym is))

pub returns-in_err-depfile-clause-looked : goal.returns-in_err-depfile-clause-looked
returns-in_err-depfile-clause-looked g c =
    looked_still g.S.Texts.tells c.args.graph.now (g.S.Texts.world c.args.site.now) (g.S.Texts.world c.depfile_of.new.site) c.args.self.now
    (c.looks_follow.ensures.stay g.S.Texts.tells (g.S.Texts.world c.args.site.now) (g.S.Texts.world c.depfile_of.new.site)) c.depfile_of.ensures.looks

-- ---- what was found before

pub returns-in-Some-clause-looked : goal.returns-in-Some-clause-looked
returns-in-Some-clause-looked g c =
    looked_still g.S.Texts.tells c.args.graph.now (g.S.Texts.world c.args.site.now) (g.S.Texts.world c.depfile_of.new.site) c.args.self.now
    (c.looks_follow.ensures.stay g.S.Texts.tells (g.S.Texts.world c.args.site.now) (g.S.Texts.world c.depfile_of.new.site)) c.depfile_of.ensures.looks

pub returns-in-Some-clause-ruled : goal.returns-in-Some-clause-ruled
returns-in-Some-clause-ruled g c =
    let none : reads_due (links_of c.args.graph.now) c.args.due.now c.args.edge ≡ false = search rules in
    record {
      depfile = c.in_ok-depfile.depfile;
      ruled = record {
        reads = λ so. absurd (false≢true (sym none ∙ so));
        found = λ so. c.requires.known c.args.edge (record { depfile = c.in_ok-depfile.depfile; due = c.in-Some.known }) c.in-Some.ensures;
      };
      there = λ so. c.in_ok-depfile.ensures.there;
    }

pub returns-in-Some-clause-clean : goal.returns-in-Some-clause-clean
returns-in-Some-clause-clean g c =
    let tells = g.S.Texts.tells in
    let graph = c.args.graph.now in
    let a = g.S.Texts.world c.args.site.now in
    let h = g.S.Texts.world c.depfile_of.new.site in
    let none : reads_due (links_of graph) c.args.due.now c.args.edge ≡ false = search rules in
    let was = c.requires.known c.args.edge (record { depfile = c.in_ok-depfile.depfile; due = c.in-Some.known }) c.in-Some.ensures in
    let still = looked_still tells graph a h c.args.self.now (c.looks_follow.ensures.stay tells a h) c.depfile_of.ensures.looks in
    clean_found c.looks_follow.ensures.follow c.looks_follow.ensures.stay tells graph c.lists_stand.ensures c.args.records.now c.args.due.now c.args.edge c.requires.command none a h c.args.self.now was.reason c.in-Some.known (sym was.is)
    (reason_found tells graph c.lists_stand.ensures c.args.records.now [] c.args.edge c.in_ok-depfile.depfile was.reason a h c.args.self.now c.args.self.now still c.in_ok-depfile.ensures.there was.seen) c.depfile_of.ensures.looks

-- ---- what is found now

pub returns-in_err-found-clause-looked : goal.returns-in_err-found-clause-looked
returns-in_err-found-clause-looked g c =
    let tells = g.S.Texts.tells in
    let a = g.S.Texts.world c.args.site.now in
    let h = g.S.Texts.world c.depfile_of.new.site in
    looked_then tells c.args.graph.now a h (g.S.Texts.world c.reason_by.new.site) c.args.self.now c.args.self.now c.reason_by.new.self
    (looked_still tells c.args.graph.now a h c.args.self.now (c.looks_follow.ensures.stay tells a h) c.depfile_of.ensures.looks) c.reason_by.ensures.looked

pub returns-in_err-found-clause-known : goal.returns-in_err-found-clause-known
returns-in_err-found-clause-known g c = known_kept c.args.graph.now c.args.records.now c.args.self.now c.reason_by.new.self c.reason_by.ensures.looked.stays c.reason_by.ensures.answers c.requires.known

pub returns-clause-looked : goal.returns-clause-looked
returns-clause-looked g c =
    let tells = g.S.Texts.tells in
    let graph = c.args.graph.now in
    let a = g.S.Texts.world c.args.site.now in
    let h = g.S.Texts.world c.depfile_of.new.site in
    let d = g.S.Texts.world c.reason_by.new.site in
    let looks = c.reason_by.new.self in
    let sums : Sums = record { alloc = looks.sums.alloc; by_edge = looks.sums.by_edge; passing = looks.sums.passing; answers = c.note.new.self } in
    looked_then tells graph a d d c.args.self.now looks (record { seen = looks.seen; sums = sums })
    (looked_then tells graph a h d c.args.self.now c.args.self.now looks (looked_still tells graph a h c.args.self.now (c.looks_follow.ensures.stay tells a h) c.depfile_of.ensures.looks) c.reason_by.ensures.looked)
    (looked_cleared tells graph d looks sums)

pub returns-clause-summed : goal.returns-clause-summed
returns-clause-summed g c = c.reason_by.ensures.summed

pub returns-clause-known : goal.returns-clause-known
returns-clause-known g c =
    let is : c.is_some-stale.result ≡ is_some c.in_ok-found.found = search rules in
    answers_with c.args.graph.now c.args.records.now c.reason_by.new.self.seen.items c.args.edge (record { depfile = c.in_ok-depfile.depfile; due = c.is_some-stale.result }) c.reason_by.new.self.sums.answers c.note.new.self c.note.ensures.with_it
    (record { reason = c.in_ok-found.found; is = sym is; seen = c.in_ok-found.ensures.reason })
    (known_kept c.args.graph.now c.args.records.now c.args.self.now c.reason_by.new.self c.reason_by.ensures.looked.stays c.reason_by.ensures.answers c.requires.known)

pub returns-clause-ruled : goal.returns-clause-ruled
returns-clause-ruled g c =
    let tells = g.S.Texts.tells in
    let a = g.S.Texts.world c.args.site.now in
    let h = g.S.Texts.world c.depfile_of.new.site in
    let d = g.S.Texts.world c.reason_by.new.site in
    let none : reads_due (links_of c.args.graph.now) c.args.due.now c.args.edge ≡ false = search rules in
    let is : c.is_some-stale.result ≡ is_some c.in_ok-found.found = search rules in
    record {
      depfile = c.in_ok-depfile.depfile;
      ruled = record {
        reads = λ so. absurd (false≢true (sym none ∙ so));
        found = λ so. record { reason = c.in_ok-found.found; is = sym is; seen = c.in_ok-found.ensures.reason };
      };
      there = λ so.
          depfile_then c.looks_follow.ensures.follow c.looks_follow.ensures.stay tells c.args.graph.now c.args.edge c.in_ok-depfile.depfile a h d c.args.self.now c.depfile_of.ensures.looks c.reason_by.ensures.looked.looks c.in_ok-depfile.ensures.there;
    }

pub returns-clause-clean : goal.returns-clause-clean
returns-clause-clean g c =
    let tells = g.S.Texts.tells in
    let graph = c.args.graph.now in
    let a = g.S.Texts.world c.args.site.now in
    let h = g.S.Texts.world c.depfile_of.new.site in
    let d = g.S.Texts.world c.reason_by.new.site in
    let none : reads_due (links_of graph) c.args.due.now c.args.edge ≡ false = search rules in
    let is : c.is_some-stale.result ≡ is_some c.in_ok-found.found = search rules in
    let looked = looked_then tells graph a h d c.args.self.now c.args.self.now c.reason_by.new.self (looked_still tells graph a h c.args.self.now (c.looks_follow.ensures.stay tells a h) c.depfile_of.ensures.looks) c.reason_by.ensures.looked in
    let there = depfile_then c.looks_follow.ensures.follow c.looks_follow.ensures.stay tells graph c.args.edge c.in_ok-depfile.depfile a h d c.args.self.now c.depfile_of.ensures.looks c.reason_by.ensures.looked.looks c.in_ok-depfile.ensures.there in
    clean_found c.looks_follow.ensures.follow c.looks_follow.ensures.stay tells graph c.lists_stand.ensures c.args.records.now c.args.due.now c.args.edge c.requires.command none a d c.args.self.now c.in_ok-found.found c.is_some-stale.result is
    (reason_found tells graph c.lists_stand.ensures c.args.records.now [] c.args.edge c.in_ok-depfile.depfile c.in_ok-found.found a d c.args.self.now c.reason_by.new.self looked there c.in_ok-found.ensures.reason) looked.looks

-- ---- the flags that are kept

pub returns-in_err-found-clause-dues : goal.returns-in_err-found-clause-dues
returns-in_err-found-clause-dues g c = ap (λ (a : Answers). a.dues) c.reason_by.ensures.answers

pub returns-clause-dues : goal.returns-clause-dues
returns-clause-dues g c = c.note.ensures.dues ∙ ap (λ (a : Answers). a.dues) c.reason_by.ensures.answers
