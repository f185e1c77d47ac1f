use Rattle.std.proofs.Common.{◌≡◌, ◌<◌, List, Bool, Option, Some, None, IfSome, Vec, Global, length, sym, ◌∙◌, ap, subst}
use Rattle.judge.specs.declared.lack.Lack.{Lack}
use Rattle.judge.specs.Lacks.{HasDue, IsLackOf, NamesDue}
use Rattle.judge.proofs.CleanEdges.{clean_first}
use Rattle.judge.proofs.FilesStay.{looked_then}
use Rattle.judge.proofs.Finding.{due_told, all_found, asked_by}
use Rattle.judge.proofs.KeptSources.{answers_kept, kept_again, asks_none}
use Rattle.judge.proofs.LooksStay.{looked_none}
use Rattle.judge.proofs.NumbersAsTexts.{all_of}
use Rattle.judge.proofs.RuledDues.{ruled_are_due, ruled_are_clean}
use Rattle.judge.proofs.SourcesSeen.{FindsAt, first_none, lacks_of}
use Rattle.judge.proofs.looks.Looks.sources_again.Goals as goal

pub due_again-requires-clause-ruled : goal.due_again-requires-clause-ruled
due_again-requires-clause-ruled g c = c.requires.kept.but

pub due_again-requires-clause-asked : goal.due_again-requires-clause-asked
due_again-requires-clause-asked g c = asks_none c.args.graph.now c.args.cone.now c.args.plan.now c.args.self.now.sums.answers.dues c.requires.kept.asks

pub due_again-requires-clause-lacks : goal.due_again-requires-clause-lacks
due_again-requires-clause-lacks g c = c.requires.kept.lacks

pub returns-in_err-due_again-clause-kept : goal.returns-in_err-due_again-clause-kept
returns-in_err-due_again-clause-kept g c on = record { but = c.due_again.ensures.kept; asks = c.requires.kept.asks; lacks = c.due_again.ensures.lacks }

pub lack_again-requires-clause-due : goal.lack_again-requires-clause-due
lack_again-requires-clause-due g c = c.due_again.ensures.kept.room.fits

pub lack_again-requires-clause-lacks : goal.lack_again-requires-clause-lacks
lack_again-requires-clause-lacks g c =
    lacks_of c.args.graph.now c.args.cone.now c.due_again.new.self.seen.items c.due_again.new.self.sums.answers.dues c.due_again.ensures.lacks c.in_ok-due_again.ensures.none

pub returns-in_err-lack-clause-looked : goal.returns-in_err-lack-clause-looked
returns-in_err-lack-clause-looked g c =
    looked_then c.looks_follow.ensures.follow g.S.Texts.tells c.args.graph.now (g.S.Texts.world c.args.site.now) (g.S.Texts.world c.due_again.new.site) (g.S.Texts.world c.lack_again.new.site) c.args.self.now c.due_again.new.self c.lack_again.new.self c.due_again.ensures.looked c.lack_again.ensures.looked

pub returns-in_err-lack-clause-known : goal.returns-in_err-lack-clause-known
returns-in_err-lack-clause-known g c =
    answers_kept c.args.graph.now c.args.records.now c.due_again.new.self c.lack_again.new.self c.lack_again.ensures.looked.stays c.lack_again.ensures.answers.answers c.due_again.ensures.known

pub returns-in_err-lack-clause-kept : goal.returns-in_err-lack-clause-kept
returns-in_err-lack-clause-kept g c on =
    let answers = c.lack_again.ensures.answers in
    kept_again c.args.graph.now c.args.records.now c.args.cone.now c.args.plan.now c.due_again.new.self.seen.items c.lack_again.new.self.seen.items c.lack_again.ensures.looked.stays c.due_again.new.self.sums.answers.dues c.lack_again.new.self.sums.answers.dues
    answers.known answers.flags answers.todo c.due_again.ensures.kept c.requires.kept.asks c.due_again.ensures.lacks c.lack_again.ensures.lacks

pub returns-in-Some-clause-looked : goal.returns-in-Some-clause-looked
returns-in-Some-clause-looked g c =
    looked_then c.looks_follow.ensures.follow g.S.Texts.tells c.args.graph.now (g.S.Texts.world c.args.site.now) (g.S.Texts.world c.due_again.new.site) (g.S.Texts.world c.lack_again.new.site) c.args.self.now c.due_again.new.self c.lack_again.new.self c.due_again.ensures.looked c.lack_again.ensures.looked

pub returns-in-Some-clause-known : goal.returns-in-Some-clause-known
returns-in-Some-clause-known g c =
    answers_kept c.args.graph.now c.args.records.now c.due_again.new.self c.lack_again.new.self c.lack_again.ensures.looked.stays c.lack_again.ensures.answers.answers c.due_again.ensures.known

pub returns-in-Some-clause-kept : goal.returns-in-Some-clause-kept
returns-in-Some-clause-kept g c on =
    let answers = c.lack_again.ensures.answers in
    kept_again c.args.graph.now c.args.records.now c.args.cone.now c.args.plan.now c.due_again.new.self.seen.items c.lack_again.new.self.seen.items c.lack_again.ensures.looked.stays c.due_again.new.self.sums.answers.dues c.lack_again.new.self.sums.answers.dues
    answers.known answers.flags answers.todo c.due_again.ensures.kept c.requires.kept.asks c.due_again.ensures.lacks c.lack_again.ensures.lacks

pub returns-in_err-due-in-None-clause-looked : goal.returns-in_err-due-in-None-clause-looked
returns-in_err-due-in-None-clause-looked g c =
    looked_then c.looks_follow.ensures.follow g.S.Texts.tells c.args.graph.now (g.S.Texts.world c.args.site.now) (g.S.Texts.world c.due_again.new.site) (g.S.Texts.world c.lack_again.new.site) c.args.self.now c.due_again.new.self c.lack_again.new.self c.due_again.ensures.looked c.lack_again.ensures.looked

pub returns-in_err-due-in-None-clause-known : goal.returns-in_err-due-in-None-clause-known
returns-in_err-due-in-None-clause-known g c =
    answers_kept c.args.graph.now c.args.records.now c.due_again.new.self c.lack_again.new.self c.lack_again.ensures.looked.stays c.lack_again.ensures.answers.answers c.due_again.ensures.known

pub returns-in_err-due-in-None-clause-kept : goal.returns-in_err-due-in-None-clause-kept
returns-in_err-due-in-None-clause-kept g c on =
    let answers = c.lack_again.ensures.answers in
    kept_again c.args.graph.now c.args.records.now c.args.cone.now c.args.plan.now c.due_again.new.self.seen.items c.lack_again.new.self.seen.items c.lack_again.ensures.looked.stays c.due_again.new.self.sums.answers.dues c.lack_again.new.self.sums.answers.dues
    answers.known answers.flags answers.todo c.due_again.ensures.kept c.requires.kept.asks c.due_again.ensures.lacks c.lack_again.ensures.lacks

pub returns-in_ok-due-in-None-clause-looked : goal.returns-in_ok-due-in-None-clause-looked
returns-in_ok-due-in-None-clause-looked g c =
    looked_then c.looks_follow.ensures.follow g.S.Texts.tells c.args.graph.now (g.S.Texts.world c.args.site.now) (g.S.Texts.world c.due_again.new.site) (g.S.Texts.world c.lack_again.new.site) c.args.self.now c.due_again.new.self c.lack_again.new.self c.due_again.ensures.looked c.lack_again.ensures.looked

pub returns-in_ok-due-in-None-clause-known : goal.returns-in_ok-due-in-None-clause-known
returns-in_ok-due-in-None-clause-known g c =
    answers_kept c.args.graph.now c.args.records.now c.due_again.new.self c.lack_again.new.self c.lack_again.ensures.looked.stays c.lack_again.ensures.answers.answers c.due_again.ensures.known

pub returns-in_ok-due-in-None-clause-kept : goal.returns-in_ok-due-in-None-clause-kept
returns-in_ok-due-in-None-clause-kept g c on =
    let answers = c.lack_again.ensures.answers in
    kept_again c.args.graph.now c.args.records.now c.args.cone.now c.args.plan.now c.due_again.new.self.seen.items c.lack_again.new.self.seen.items c.lack_again.ensures.looked.stays c.due_again.new.self.sums.answers.dues c.lack_again.new.self.sums.answers.dues
    answers.known answers.flags answers.todo c.due_again.ensures.kept c.requires.kept.asks c.due_again.ensures.lacks c.lack_again.ensures.lacks

pub returns-in-Some-clause-found : goal.returns-in-Some-clause-found
returns-in-Some-clause-found g c store targets before way =
    let tells = g.S.Texts.tells in
    let follow = c.looks_follow.ensures.follow in
    let stay = c.looks_follow.ensures.stay in
    let graph = c.args.graph.now in
    let records = c.args.records.now in
    let cone = c.args.cone.now in
    let plan = c.args.plan.now in
    let a = g.S.Texts.world c.args.site.now in
    let b = g.S.Texts.world c.due_again.new.site in
    let d = g.S.Texts.world c.lack_again.new.site in
    let one = c.args.self.now in
    let two = c.due_again.new.self in
    let due = two.sums.answers.dues.flags.items in
    let none = looked_none tells graph a one in
    all_found follow stay tells graph c.lists_stand.ensures records cone plan store targets before way c.requires.targets a a one b d one two c.lack_again.new.self none c.due_again.ensures.looked c.lack_again.ensures.looked due
    (ruled_are_due follow stay tells graph c.lists_stand.ensures records cone plan a b one two c.due_again.ensures.looked due c.in_ok-due_again.ensures.ruled store targets before way)
    (first_none tells graph c.lists_stand.ensures a a one one none cone.targets.items (all_of (λ p. p < length graph.manifest.paths) cone.targets.items c.requires.targets) c.requires.kept.lacks.targets) (Some c.in-Some.lack)
    (subst (λ (found : Option Lack). FindsAt tells graph b d two due found) c.in-Some.is c.in_ok-lack.ensures.found)

pub returns-in_ok-due-in-None-clause-found : goal.returns-in_ok-due-in-None-clause-found
returns-in_ok-due-in-None-clause-found g c store targets before way =
    let tells = g.S.Texts.tells in
    let follow = c.looks_follow.ensures.follow in
    let stay = c.looks_follow.ensures.stay in
    let graph = c.args.graph.now in
    let records = c.args.records.now in
    let cone = c.args.cone.now in
    let plan = c.args.plan.now in
    let a = g.S.Texts.world c.args.site.now in
    let b = g.S.Texts.world c.due_again.new.site in
    let d = g.S.Texts.world c.lack_again.new.site in
    let one = c.args.self.now in
    let two = c.due_again.new.self in
    let due = two.sums.answers.dues.flags.items in
    let none = looked_none tells graph a one in
    all_found follow stay tells graph c.lists_stand.ensures records cone plan store targets before way c.requires.targets a a one b d one two c.lack_again.new.self none c.due_again.ensures.looked c.lack_again.ensures.looked due
    (ruled_are_due follow stay tells graph c.lists_stand.ensures records cone plan a b one two c.due_again.ensures.looked due c.in_ok-due_again.ensures.ruled store targets before way)
    (first_none tells graph c.lists_stand.ensures a a one one none cone.targets.items (all_of (λ p. p < length graph.manifest.paths) cone.targets.items c.requires.targets) c.requires.kept.lacks.targets) None
    (subst (λ (found : Option Lack). FindsAt tells graph b d two due found) c.in-None.is c.in_ok-lack.ensures.found)

pub returns-in_ok-due-in-None-clause-due : goal.returns-in_ok-due-in-None-clause-due
returns-in_ok-due-in-None-clause-due g c =
    let tells = g.S.Texts.tells in
    let follow = c.looks_follow.ensures.follow in
    let stay = c.looks_follow.ensures.stay in
    let graph = c.args.graph.now in
    let records = c.args.records.now in
    let cone = c.args.cone.now in
    let plan = c.args.plan.now in
    let a = g.S.Texts.world c.args.site.now in
    let b = g.S.Texts.world c.due_again.new.site in
    let d = g.S.Texts.world c.lack_again.new.site in
    let one = c.args.self.now in
    let two = c.due_again.new.self in
    let due = two.sums.answers.dues.flags.items in
    let none = looked_none tells graph a one in
    let same : c.in_ok-due-in-None.due.items ≡ due =
    c.in_ok-due-in-None.ensures ∙ (c.as_slice.ensures.value ∙ ap (λ (v : Vec Bool Global). v.items) c.lack_again.ensures.answers.flags) in
    subst (λ (l : List Bool). HasDue tells graph records cone plan a d one l) (sym {A = List Bool} same)
    (record {
      fits = c.due_again.ensures.kept.room.fits;
      due = λ store targets before way.
          due_told follow stay tells graph c.lists_stand.ensures records cone plan store targets before way c.requires.targets a a one b d one two c.lack_again.new.self none c.due_again.ensures.looked c.lack_again.ensures.looked due
          (ruled_are_due follow stay tells graph c.lists_stand.ensures records cone plan a b one two c.due_again.ensures.looked due c.in_ok-due_again.ensures.ruled store targets before way);
      clean = λ e listed not_due unjudged.
          clean_first follow stay tells graph records e a b d one c.lack_again.ensures.looked.looks
          (ruled_are_clean follow stay tells graph c.lists_stand.ensures records cone plan a b one two c.due_again.ensures.looked due c.in_ok-due_again.ensures.ruled e listed not_due unjudged);
    })

pub returns-in_ok-due-in-None-clause-flags : goal.returns-in_ok-due-in-None-clause-flags
returns-in_ok-due-in-None-clause-flags g c on = sym (c.in_ok-due-in-None.ensures ∙ c.as_slice.ensures.value)

pub returns-in-Some-clause-asked : goal.returns-in-Some-clause-asked
returns-in-Some-clause-asked g c =
    asked_by c.args.cone.now c.due_again.new.self.sums.answers.dues.flags.items c.due_again.ensures.kept.flagged c.in-Some.lack
    (subst (λ (o : Option Lack). IfSome o (λ lack. NamesDue c.due_again.new.self.sums.answers.dues.flags.items lack.needed_by)) c.in-Some.is c.in_ok-lack.ensures.named)

pub returns-in-Some-clause-within : goal.returns-in-Some-clause-within
returns-in-Some-clause-within g c = subst (λ (o : Option Lack). IfSome o (IsLackOf c.args.graph.now)) c.in-Some.is c.in_ok-lack.ensures.within
