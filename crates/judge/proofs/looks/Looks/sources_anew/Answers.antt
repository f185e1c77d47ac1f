use Rattle.std.proofs.Common.{◌≡◌, List, ℕ, Bool, true, Option, Some, None, IfSome, Vec, Global, sym, ◌∙◌, ap, subst}
use Rattle.std.proofs.lemmas.Bool.{false≢true}
use Rattle.model.specs.Graph.{has_number}
use Rattle.judge.specs.Dues.{due_at, AreSourcesIn}
use Rattle.judge.specs.Seen.{look_at}
use Rattle.judge.specs.KeptDues.{AreSourcesSeen, AreKeptRight, HasBegunWith}
use Rattle.judge.specs.declared.dues.Dues.{Dues}
use Rattle.judge.specs.declared.looks.Look.{Look}
use Rattle.judge.specs.declared.lack.Lack.{Lack}
use Rattle.judge.specs.declared.sums.Sums.{Sums}
use Rattle.judge.proofs.Answered.{known_kept}
use Rattle.judge.specs.Lacks.{IsFirstIn, IsFoundOfDue, IsSourceOf, IsLackOf, NamesDue}
use Rattle.judge.proofs.CleanEdges.{clean_first, clean_second}
use Rattle.judge.proofs.Finding.{target_found, due_told, all_found, asked_by}
use Rattle.judge.proofs.FilesStay.{looked_then}
use Rattle.judge.proofs.KeptSources.{looked_same, answers_kept, kept_begins}
use Rattle.judge.proofs.SourcesSeen.{sources_stay, none_given}
use Rattle.judge.proofs.looks.Looks.sources_anew.Goals as goal

pub returns-in_err-due-in-None-clause-looked : goal.returns-in_err-due-in-None-clause-looked
returns-in_err-due-in-None-clause-looked g c =
    looked_then c.looks_follow.ensures.follow g.S.Texts.tells c.args.graph.now (g.S.Texts.world c.args.site.now) (g.S.Texts.world c.first_missing.new.site) (g.S.Texts.world c.due_edges.new.site) c.args.self.now c.first_missing.new.self c.due_edges.new.self c.first_missing.ensures.looked c.due_edges.ensures.looked

pub returns-in_err-lack-in-None-clause-looked : goal.returns-in_err-lack-in-None-clause-looked
returns-in_err-lack-in-None-clause-looked g c =
    looked_then c.looks_follow.ensures.follow g.S.Texts.tells c.args.graph.now (g.S.Texts.world c.args.site.now) (g.S.Texts.world c.due_edges.new.site) (g.S.Texts.world c.lack_of_due.new.site) c.args.self.now c.due_edges.new.self c.lack_of_due.new.self (looked_then c.looks_follow.ensures.follow g.S.Texts.tells c.args.graph.now (g.S.Texts.world c.args.site.now) (g.S.Texts.world c.first_missing.new.site) (g.S.Texts.world c.due_edges.new.site) c.args.self.now c.first_missing.new.self c.due_edges.new.self c.first_missing.ensures.looked c.due_edges.ensures.looked) c.lack_of_due.ensures.looked

pub returns-in-Some-2-clause-looked : goal.returns-in-Some-2-clause-looked
returns-in-Some-2-clause-looked g c =
    looked_then c.looks_follow.ensures.follow g.S.Texts.tells c.args.graph.now (g.S.Texts.world c.args.site.now) (g.S.Texts.world c.due_edges.new.site) (g.S.Texts.world c.lack_of_due.new.site) c.args.self.now c.due_edges.new.self c.lack_of_due.new.self (looked_then c.looks_follow.ensures.follow g.S.Texts.tells c.args.graph.now (g.S.Texts.world c.args.site.now) (g.S.Texts.world c.first_missing.new.site) (g.S.Texts.world c.due_edges.new.site) c.args.self.now c.first_missing.new.self c.due_edges.new.self c.first_missing.ensures.looked c.due_edges.ensures.looked) c.lack_of_due.ensures.looked

pub returns-in-None-2-clause-looked : goal.returns-in-None-2-clause-looked
returns-in-None-2-clause-looked g c =
    looked_same g.S.Texts.tells c.args.graph.now (g.S.Texts.world c.args.site.now) (g.S.Texts.world c.lack_of_due.new.site) c.args.self.now c.lack_of_due.new.self c.keep.new.self c.keep.ensures.seen
    (looked_then c.looks_follow.ensures.follow g.S.Texts.tells c.args.graph.now (g.S.Texts.world c.args.site.now) (g.S.Texts.world c.due_edges.new.site) (g.S.Texts.world c.lack_of_due.new.site) c.args.self.now c.due_edges.new.self c.lack_of_due.new.self (looked_then c.looks_follow.ensures.follow g.S.Texts.tells c.args.graph.now (g.S.Texts.world c.args.site.now) (g.S.Texts.world c.first_missing.new.site) (g.S.Texts.world c.due_edges.new.site) c.args.self.now c.first_missing.new.self c.due_edges.new.self c.first_missing.ensures.looked c.due_edges.ensures.looked) c.lack_of_due.ensures.looked)

pub returns-in-Some-clause-found : goal.returns-in-Some-clause-found
returns-in-Some-clause-found g c store targets before way =
    let graph = c.args.graph.now in
    target_found c.looks_follow.ensures.follow c.looks_follow.ensures.stay g.S.Texts.tells graph c.lists_stand.ensures c.args.records.now c.args.cone.now c.args.plan.now store targets before way c.requires.targets (g.S.Texts.world c.args.site.now) (g.S.Texts.world c.first_missing.new.site) c.args.self.now c.in-Some.path
    (λ told set kept seen files same fit. subst (λ (l : List ℕ). IsFirstIn graph l files (Some c.in-Some.path)) c.as_slice-targets.ensures.value (subst (IsFirstIn graph c.as_slice-targets.result.now files) c.in-Some.is (c.in_ok-path.ensures.first told set kept seen files same (subst (AreSourcesIn set graph) (sym {A = List ℕ} c.as_slice-targets.ensures.value) fit))))

pub returns-in-Some-2-clause-found : goal.returns-in-Some-2-clause-found
returns-in-Some-2-clause-found g c store targets before way =
    let graph = c.args.graph.now in
    all_found c.looks_follow.ensures.follow c.looks_follow.ensures.stay g.S.Texts.tells graph c.lists_stand.ensures c.args.records.now c.args.cone.now c.args.plan.now store targets before way c.requires.targets (g.S.Texts.world c.args.site.now) (g.S.Texts.world c.first_missing.new.site) c.args.self.now (g.S.Texts.world c.due_edges.new.site) (g.S.Texts.world c.lack_of_due.new.site) c.first_missing.new.self c.due_edges.new.self c.lack_of_due.new.self c.first_missing.ensures.looked c.due_edges.ensures.looked c.lack_of_due.ensures.looked c.in_ok-due-in-None.due.items (c.in_ok-due-in-None.ensures.due store targets before way)
    (λ told set kept seen files same fit. subst (λ (l : List ℕ). IsFirstIn graph l files None) c.as_slice-targets.ensures.value (subst (IsFirstIn graph c.as_slice-targets.result.now files) c.in-None.is (c.in_ok-path.ensures.first told set kept seen files same (subst (AreSourcesIn set graph) (sym {A = List ℕ} c.as_slice-targets.ensures.value) fit)))) (Some c.in-Some-2.lack)
    (λ told set kept seen files same fit.
    subst (λ (l : List Bool). IsFoundOfDue graph l files (Some c.in-Some-2.lack)) c.deref.ensures.value (subst (IsFoundOfDue graph c.deref.result.now files) c.in-Some-2.is (c.in_ok-lack-in-None.ensures.found told set kept seen files same fit)))

pub returns-in-None-2-clause-found : goal.returns-in-None-2-clause-found
returns-in-None-2-clause-found g c store targets before way =
    let graph = c.args.graph.now in
    all_found c.looks_follow.ensures.follow c.looks_follow.ensures.stay g.S.Texts.tells graph c.lists_stand.ensures c.args.records.now c.args.cone.now c.args.plan.now store targets before way c.requires.targets (g.S.Texts.world c.args.site.now) (g.S.Texts.world c.first_missing.new.site) c.args.self.now (g.S.Texts.world c.due_edges.new.site) (g.S.Texts.world c.lack_of_due.new.site) c.first_missing.new.self c.due_edges.new.self c.lack_of_due.new.self c.first_missing.ensures.looked c.due_edges.ensures.looked c.lack_of_due.ensures.looked c.in_ok-due-in-None.due.items (c.in_ok-due-in-None.ensures.due store targets before way)
    (λ told set kept seen files same fit. subst (λ (l : List ℕ). IsFirstIn graph l files None) c.as_slice-targets.ensures.value (subst (IsFirstIn graph c.as_slice-targets.result.now files) c.in-None.is (c.in_ok-path.ensures.first told set kept seen files same (subst (AreSourcesIn set graph) (sym {A = List ℕ} c.as_slice-targets.ensures.value) fit)))) None
    (λ told set kept seen files same fit.
    subst (λ (l : List Bool). IsFoundOfDue graph l files None) c.deref.ensures.value (subst (IsFoundOfDue graph c.deref.result.now files) c.in-None-2.is (c.in_ok-lack-in-None.ensures.found told set kept seen files same fit)))

pub returns-in-None-2-clause-due : goal.returns-in-None-2-clause-due
returns-in-None-2-clause-due g c = record {
  fits = c.in_ok-due-in-None.ensures.fits;
  due = λ store targets before way.
      let graph = c.args.graph.now in
      due_told c.looks_follow.ensures.follow c.looks_follow.ensures.stay g.S.Texts.tells graph c.lists_stand.ensures c.args.records.now c.args.cone.now c.args.plan.now store targets before way c.requires.targets (g.S.Texts.world c.args.site.now) (g.S.Texts.world c.first_missing.new.site) c.args.self.now (g.S.Texts.world c.due_edges.new.site) (g.S.Texts.world c.lack_of_due.new.site) c.first_missing.new.self c.due_edges.new.self c.lack_of_due.new.self c.first_missing.ensures.looked c.due_edges.ensures.looked c.lack_of_due.ensures.looked c.in_ok-due-in-None.due.items (c.in_ok-due-in-None.ensures.due store targets before way);
  clean = λ e listed not_due unjudged.
      let tells = g.S.Texts.tells in
      let graph = c.args.graph.now in
      let old = g.S.Texts.world c.args.site.now in
      let mid = g.S.Texts.world c.due_edges.new.site in
      clean_first c.looks_follow.ensures.follow c.looks_follow.ensures.stay tells graph c.args.records.now e old mid (g.S.Texts.world c.lack_of_due.new.site) c.args.self.now c.lack_of_due.ensures.looked.looks
      (clean_second c.looks_follow.ensures.follow c.looks_follow.ensures.stay tells graph c.args.records.now e old (g.S.Texts.world c.first_missing.new.site) mid c.args.self.now c.first_missing.new.self c.first_missing.ensures.looked c.due_edges.ensures.looked.looks
      (c.in_ok-due-in-None.ensures.clean e listed not_due unjudged));
}

pub returns-in-Some-clause-within : goal.returns-in-Some-clause-within
returns-in-Some-clause-within g c =
    let named = subst (λ (o : Option ℕ). IfSome o (IsSourceOf c.args.graph.now c.as_slice-targets.result.now)) c.in-Some.is c.in_ok-path.ensures.within in
    record { path = named.within; edge = tt; source = named.source; input = tt }

pub returns-in-Some-clause-asked : goal.returns-in-Some-clause-asked
returns-in-Some-clause-asked g c =
    let named = subst (λ (o : Option ℕ). IfSome o (IsSourceOf c.args.graph.now c.as_slice-targets.result.now)) c.in-Some.is c.in_ok-path.ensures.within in
    subst (λ (l : List ℕ). has_number l c.in-Some.path ≡ true) c.as_slice-targets.ensures.value named.listed

pub returns-in-Some-2-clause-asked : goal.returns-in-Some-2-clause-asked
returns-in-Some-2-clause-asked g c =
    let named = subst (λ (o : Option Lack). IfSome o (λ lack. NamesDue c.deref.result.now lack.needed_by)) c.in-Some-2.is c.in_ok-lack-in-None.ensures.named in
    asked_by c.args.cone.now c.in_ok-due-in-None.due.items c.in_ok-due-in-None.ensures.listed c.in-Some-2.lack
    (subst (λ (l : List Bool). NamesDue l c.in-Some-2.lack.needed_by) c.deref.ensures.value named)

pub returns-in-Some-2-clause-within : goal.returns-in-Some-2-clause-within
returns-in-Some-2-clause-within g c = subst (λ (o : Option Lack). IfSome o (IsLackOf c.args.graph.now)) c.in-Some-2.is c.in_ok-lack-in-None.ensures.within

pub returns-in_err-path-clause-known : goal.returns-in_err-path-clause-known
returns-in_err-path-clause-known g c =
    known_kept c.args.graph.now c.args.records.now c.args.self.now c.first_missing.new.self c.first_missing.ensures.looked.stays (ap (λ (s : Sums). s.answers) c.first_missing.ensures.sums) c.requires.known

pub returns-in-Some-clause-known : goal.returns-in-Some-clause-known
returns-in-Some-clause-known g c =
    known_kept c.args.graph.now c.args.records.now c.args.self.now c.first_missing.new.self c.first_missing.ensures.looked.stays (ap (λ (s : Sums). s.answers) c.first_missing.ensures.sums) c.requires.known

pub due_edges-requires-clause-known : goal.due_edges-requires-clause-known
due_edges-requires-clause-known g c =
    known_kept c.args.graph.now c.args.records.now c.args.self.now c.first_missing.new.self c.first_missing.ensures.looked.stays (ap (λ (s : Sums). s.answers) c.first_missing.ensures.sums) c.requires.known

pub returns-in_err-due-in-None-clause-known : goal.returns-in_err-due-in-None-clause-known
returns-in_err-due-in-None-clause-known g c =
    c.due_edges.ensures.known

pub returns-in_err-lack-in-None-clause-known : goal.returns-in_err-lack-in-None-clause-known
returns-in_err-lack-in-None-clause-known g c =
    known_kept c.args.graph.now c.args.records.now c.due_edges.new.self c.lack_of_due.new.self c.lack_of_due.ensures.looked.stays (ap (λ (s : Sums). s.answers) c.lack_of_due.ensures.sums) c.due_edges.ensures.known

pub returns-in-Some-2-clause-known : goal.returns-in-Some-2-clause-known
returns-in-Some-2-clause-known g c =
    known_kept c.args.graph.now c.args.records.now c.due_edges.new.self c.lack_of_due.new.self c.lack_of_due.ensures.looked.stays (ap (λ (s : Sums). s.answers) c.lack_of_due.ensures.sums) c.due_edges.ensures.known

pub returns-in-None-2-clause-known : goal.returns-in-None-2-clause-known
returns-in-None-2-clause-known g c =
    answers_kept c.args.graph.now c.args.records.now c.lack_of_due.new.self c.keep.new.self (λ p asked. ap (λ (v : Vec Look Global). look_at v.items p) c.keep.ensures.seen) c.keep.ensures.answers
    (known_kept c.args.graph.now c.args.records.now c.due_edges.new.self c.lack_of_due.new.self c.lack_of_due.ensures.looked.stays (ap (λ (s : Sums). s.answers) c.lack_of_due.ensures.sums) c.due_edges.ensures.known)

-- ---- flags that are kept

pub returns-in_err-path-clause-kept : goal.returns-in_err-path-clause-kept
returns-in_err-path-clause-kept g c on = absurd (false≢true (sym c.requires.anew ∙ (sym (ap (λ (s : Sums). s.answers.dues.known) c.first_missing.ensures.sums) ∙ on)))

pub returns-in-Some-clause-kept : goal.returns-in-Some-clause-kept
returns-in-Some-clause-kept g c on = absurd (false≢true (sym c.requires.anew ∙ (sym (ap (λ (s : Sums). s.answers.dues.known) c.first_missing.ensures.sums) ∙ on)))

pub returns-in_err-due-in-None-clause-kept : goal.returns-in_err-due-in-None-clause-kept
returns-in_err-due-in-None-clause-kept g c on =
    absurd (false≢true (sym c.requires.anew ∙ (sym (ap (λ (s : Sums). s.answers.dues.known) c.first_missing.ensures.sums) ∙ (sym (ap (λ (d : Dues). d.known) c.due_edges.ensures.dues) ∙ on))))

pub returns-in_err-lack-in-None-clause-kept : goal.returns-in_err-lack-in-None-clause-kept
returns-in_err-lack-in-None-clause-kept g c on =
    absurd (false≢true (sym c.requires.anew ∙ (sym (ap (λ (s : Sums). s.answers.dues.known) c.first_missing.ensures.sums) ∙ (sym (ap (λ (d : Dues). d.known) c.due_edges.ensures.dues) ∙ (sym (ap (λ (s : Sums). s.answers.dues.known) c.lack_of_due.ensures.sums) ∙ on)))))

pub returns-in-Some-2-clause-kept : goal.returns-in-Some-2-clause-kept
returns-in-Some-2-clause-kept g c on =
    absurd (false≢true (sym c.requires.anew ∙ (sym (ap (λ (s : Sums). s.answers.dues.known) c.first_missing.ensures.sums) ∙ (sym (ap (λ (d : Dues). d.known) c.due_edges.ensures.dues) ∙ (sym (ap (λ (s : Sums). s.answers.dues.known) c.lack_of_due.ensures.sums) ∙ on)))))

pub returns-in-None-2-clause-kept : goal.returns-in-None-2-clause-kept
returns-in-None-2-clause-kept g c on =
    let graph = c.args.graph.now in
    let records = c.args.records.now in
    let cone = c.args.cone.now in
    let plan = c.args.plan.now in
    let one = c.first_missing.new.self in
    let two = c.due_edges.new.self in
    let three = c.lack_of_due.new.self in
    let four = c.keep.new.self in
    let due = c.in_ok-due-in-None.due.items in
    let begun = subst (λ (l : List Bool). HasBegunWith graph cone l four.sums.answers.dues) c.deref-in-None-2.ensures.value (c.keep.ensures.kept on) in
    let targets : AreSourcesSeen graph one.seen.items cone.targets.items = subst (λ (l : List ℕ). AreSourcesSeen graph one.seen.items l) c.as_slice-targets.ensures.value (none_given c.in_ok-path.field-0 c.in-None.is c.in_ok-path.ensures.there) in
    let edges = none_given c.in_ok-lack-in-None.field-0 c.in-None-2.is c.in_ok-lack-in-None.ensures.there in
    let later = looked_then c.looks_follow.ensures.follow g.S.Texts.tells graph (g.S.Texts.world c.first_missing.new.site) (g.S.Texts.world c.due_edges.new.site) (g.S.Texts.world c.lack_of_due.new.site) one two three c.due_edges.ensures.looked c.lack_of_due.ensures.looked in
    subst (λ (v : Vec Look Global). AreKeptRight graph records cone plan v.items four.sums.answers.dues) (sym c.keep.ensures.seen)
    (kept_begins g.S.Texts.tells graph records cone plan (g.S.Texts.world c.first_missing.new.site) (g.S.Texts.world c.due_edges.new.site) two.seen.items three.seen.items c.lack_of_due.ensures.looked.stays due c.requires.placed c.in_ok-due-in-None.ensures.fits
    (c.in_ok-due-in-None.ensures.ruled c.requires.placed.ordered) four.sums.answers.dues begun (sources_stay graph one.seen.items three.seen.items later.stays cone.targets.items targets)
    (λ e is. edges e (subst (λ (l : List Bool). due_at l e ≡ true) (sym {A = List Bool} c.deref.ensures.value) is)))

pub returns-in-None-2-clause-flags : goal.returns-in-None-2-clause-flags
returns-in-None-2-clause-flags g c on = (c.keep.ensures.kept on).begins.flags ∙ c.deref-in-None-2.ensures.value
