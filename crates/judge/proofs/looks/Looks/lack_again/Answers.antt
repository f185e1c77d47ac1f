use Rattle.std.proofs.Common.{◌≡◌, ◌<◌, ℕ, Bool, List, true, Option, Some, None, IfSome, Vec, Global, slice_set, length, false, refl, sym, ◌∙◌, ap, subst, arith}
use Rattle.theory.proofs.SiteCalls.{unrefused_none, unrefused_call, unrefused_then}
use Rattle.judge.specs.declared.dues.Dues.{Dues}
use Rattle.judge.specs.declared.sums.Sums.{Sums}
use Rattle.judge.specs.Dues.{due_at}
use Rattle.judge.specs.Lacks.{IsSourceFor}
use Rattle.judge.specs.KeptDues.{AreSourcesSeen, LacksNoneOf}
use Rattle.judge.proofs.FilesStay.{looked_then}
use Rattle.judge.proofs.Lacking.{edge_found}
use Rattle.judge.proofs.LooksStay.{looked_none, looked_cleared}
use Rattle.judge.proofs.RuledAgain.{left_from, removed_less}
use Rattle.judge.proofs.SourcesSeen.{FindsAt, lacks_of_stay, lacks_less, below_none, none_given}
use Rattle.graph.specs.Links.{links_of}
use Rattle.judge.proofs.looks.Looks.lack_again.Goals as goal

pub loop-place-init : goal.loop-place-init
loop-place-init g c = record {
  looked = looked_none g.S.Texts.tells c.args.graph.now (g.S.Texts.world c.args.site.now) c.args.self.now;
  unrefused = unrefused_none (g.S.Texts.world c.args.site.now) c.requires.running;
  answers = record { answers = refl; known = refl; flags = refl; todo = refl };
  lacks = c.requires.lacks;
}

pub edge-edge-requires : goal.edge-edge-requires
edge-edge-requires g c = c.loop-place.invariant.lacks.room.within c.in-Some.place c.in-Some.ensures.is

pub missing_of_kept-requires-clause-within : goal.missing_of_kept-requires-clause-within
missing_of_kept-requires-clause-within g c =
    let low = c.loop-place.invariant.lacks.room.within c.in-Some.place c.in-Some.ensures.is in
    subst (λ (e : ℕ). e < length c.args.graph.now.manifest.lines) (sym {A = ℕ} c.edge-edge.ensures) low

pub missing_of_kept-requires-clause-due : goal.missing_of_kept-requires-clause-due
missing_of_kept-requires-clause-due g c = ap (λ (v : Vec Bool Global). length v.items) c.loop-place.invariant.answers.flags ∙ c.requires.due

-- ---- one is missing, or the site failed

pub returns-in_err-path-clause-looked : goal.returns-in_err-path-clause-looked
returns-in_err-path-clause-looked g c =
    looked_then c.looks_follow.ensures.follow g.S.Texts.tells c.args.graph.now (g.S.Texts.world c.args.site.now) (g.S.Texts.world c.loop-place.site) (g.S.Texts.world c.missing_of_kept.new.site) c.args.self.now c.loop-place.self c.missing_of_kept.new.self c.loop-place.invariant.looked c.missing_of_kept.ensures.looked

pub returns-in-Some-2-clause-looked : goal.returns-in-Some-2-clause-looked
returns-in-Some-2-clause-looked g c =
    looked_then c.looks_follow.ensures.follow g.S.Texts.tells c.args.graph.now (g.S.Texts.world c.args.site.now) (g.S.Texts.world c.loop-place.site) (g.S.Texts.world c.missing_of_kept.new.site) c.args.self.now c.loop-place.self c.missing_of_kept.new.self c.loop-place.invariant.looked c.missing_of_kept.ensures.looked

pub returns-in_err-path-clause-answers : goal.returns-in_err-path-clause-answers
returns-in_err-path-clause-answers g c =
    let was = c.loop-place.invariant.answers in
    record {
      answers = ap (λ (s : Sums). s.answers.known) c.missing_of_kept.ensures.sums ∙ was.answers;
      known = ap (λ (s : Sums). s.answers.dues.known) c.missing_of_kept.ensures.sums ∙ was.known;
      flags = ap (λ (s : Sums). s.answers.dues.flags) c.missing_of_kept.ensures.sums ∙ was.flags;
      todo = ap (λ (s : Sums). s.answers.dues.todo) c.missing_of_kept.ensures.sums ∙ was.todo;
    }

pub returns-in-Some-2-clause-answers : goal.returns-in-Some-2-clause-answers
returns-in-Some-2-clause-answers g c =
    let was = c.loop-place.invariant.answers in
    record {
      answers = ap (λ (s : Sums). s.answers.known) c.missing_of_kept.ensures.sums ∙ was.answers;
      known = ap (λ (s : Sums). s.answers.dues.known) c.missing_of_kept.ensures.sums ∙ was.known;
      flags = ap (λ (s : Sums). s.answers.dues.flags) c.missing_of_kept.ensures.sums ∙ was.flags;
      todo = ap (λ (s : Sums). s.answers.dues.todo) c.missing_of_kept.ensures.sums ∙ was.todo;
    }

pub returns-in_err-path-clause-lacks : goal.returns-in_err-path-clause-lacks
returns-in_err-path-clause-lacks g c =
    subst (λ (s : Sums). LacksNoneOf c.args.graph.now c.missing_of_kept.new.self.seen.items s.answers.dues) (sym {A = Sums} c.missing_of_kept.ensures.sums)
    (lacks_of_stay c.args.graph.now c.loop-place.self.seen.items c.missing_of_kept.new.self.seen.items c.missing_of_kept.ensures.looked.stays c.loop-place.self.sums.answers.dues c.loop-place.invariant.lacks)

pub returns-in-Some-2-clause-lacks : goal.returns-in-Some-2-clause-lacks
returns-in-Some-2-clause-lacks g c =
    subst (λ (s : Sums). LacksNoneOf c.args.graph.now c.missing_of_kept.new.self.seen.items s.answers.dues) (sym {A = Sums} c.missing_of_kept.ensures.sums)
    (lacks_of_stay c.args.graph.now c.loop-place.self.seen.items c.missing_of_kept.new.self.seen.items c.missing_of_kept.ensures.looked.stays c.loop-place.self.sums.answers.dues c.loop-place.invariant.lacks)

pub returns-in-Some-2-clause-found : goal.returns-in-Some-2-clause-found
returns-in-Some-2-clause-found g c =
    let tells = g.S.Texts.tells in
    let graph = c.args.graph.now in
    let old = g.S.Texts.world c.args.site.now in
    let mid = g.S.Texts.world c.loop-place.site in
    let new = g.S.Texts.world c.missing_of_kept.new.site in
    let flags : c.loop-place.self.sums.answers.dues.flags.items ≡ c.args.self.now.sums.answers.dues.flags.items = ap (λ (v : Vec Bool Global). v.items) c.loop-place.invariant.answers.flags in
    subst (λ (l : List Bool). FindsAt tells graph old new c.args.self.now l (Some (record { path = c.in-Some-2.path; needed_by = Some c.edge-edge.result }))) flags
    (edge_found c.looks_follow.ensures.follow c.looks_follow.ensures.stay tells graph old mid new c.args.self.now c.loop-place.self c.loop-place.invariant.looked c.missing_of_kept.ensures.looked.looks c.loop-place.self.sums.answers.dues.flags.items c.in-Some.place
    (below_none tells graph c.lists_stand.ensures old mid c.args.self.now c.loop-place.self c.loop-place.invariant.looked c.loop-place.self.sums.answers.dues c.loop-place.invariant.lacks c.in-Some.place c.in-Some.ensures.lowest) c.edge-edge.result c.edge-edge.ensures
    c.in_ok-path.field-0 c.in_ok-path.ensures.first c.in-Some-2.path (cc))

pub returns-in-Some-2-clause-within : goal.returns-in-Some-2-clause-within
returns-in-Some-2-clause-within g c =
    let is : c.in_ok-path.field-0 ≡ Some c.in-Some-2.path = cc in
    let named = subst (λ (o : Option ℕ). IfSome o (IsSourceFor c.args.graph.now c.edge-edge.result)) is c.in_ok-path.ensures.within in
    let low = c.loop-place.invariant.lacks.room.within c.in-Some.place c.in-Some.ensures.is in
    record { path = named.within; edge = subst (λ (e : ℕ). e < length c.args.graph.now.manifest.lines) (sym {A = ℕ} c.edge-edge.ensures) low; source = named.source; input = named.input }

pub returns-in-Some-2-clause-named : goal.returns-in-Some-2-clause-named
returns-in-Some-2-clause-named g c =
    let is : c.in_ok-path.field-0 ≡ Some c.in-Some-2.path = cc in
    let flags : c.loop-place.self.sums.answers.dues.flags.items ≡ c.args.self.now.sums.answers.dues.flags.items = ap (λ (v : Vec Bool Global). v.items) c.loop-place.invariant.answers.flags in
    subst (λ (l : List Bool). due_at l c.edge-edge.result ≡ true) flags
    (subst (λ (o : Option ℕ). IfSome o (λ path. due_at c.loop-place.self.sums.answers.dues.flags.items c.edge-edge.result ≡ true)) is c.in_ok-path.ensures.marked)

-- ---- none is missing of this edge

pub remove-requires : goal.remove-requires
remove-requires g c =
    let low = c.loop-place.invariant.lacks.room.within c.in-Some.place c.in-Some.ensures.is in
    let room = c.loop-place.invariant.lacks.room.room in
    let same = ap (λ (s : Sums). length s.answers.dues.fresh) c.missing_of_kept.ensures.sums in
    omega (arith, low, room, same)

pub loop-place-preserved : goal.loop-place-preserved
loop-place-preserved g c =
    let tells = g.S.Texts.tells in
    let graph = c.args.graph.now in
    let old = g.S.Texts.world c.args.site.now in
    let mid = g.S.Texts.world c.loop-place.site in
    let new = g.S.Texts.world c.missing_of_kept.new.site in
    let one = c.loop-place.self in
    let two = c.missing_of_kept.new.self in
    let was = c.loop-place.invariant.answers in
    let k = c.in-Some.place in
    let low = c.loop-place.invariant.lacks.room.within k c.in-Some.ensures.is in
    let room = c.loop-place.invariant.lacks.room.room in
    let dues : Dues = record { known = two.sums.answers.dues.known; flags = two.sums.answers.dues.flags; todo = two.sums.answers.dues.todo; fresh = c.remove.new.self } in
    let sums : Sums = record { alloc = two.sums.alloc; by_edge = two.sums.by_edge; passing = two.sums.passing; answers = record { known = two.sums.answers.known; dues = dues } } in
    let sources = subst (λ (e : ℕ). due_at one.sums.answers.dues.flags.items e ≡ true → AreSourcesSeen graph two.seen.items ((links_of graph).inputs e)) c.edge-edge.ensures (none_given c.in_ok-path.field-0 (cc) c.in_ok-path.ensures.there) in
    record {
      looked = looked_then c.looks_follow.ensures.follow tells graph old new new c.args.self.now two (record { seen = two.seen; sums = sums })
          (looked_then c.looks_follow.ensures.follow tells graph old mid new c.args.self.now one two c.loop-place.invariant.looked c.missing_of_kept.ensures.looked) (looked_cleared tells graph new two sums);
      unrefused = unrefused_then old mid new c.loop-place.invariant.unrefused (unrefused_call mid new _ c.in_ok-path.ensures.cause);
      answers = record {
        answers = ap (λ (s : Sums). s.answers.known) c.missing_of_kept.ensures.sums ∙ was.answers;
        known = ap (λ (s : Sums). s.answers.dues.known) c.missing_of_kept.ensures.sums ∙ was.known;
        flags = ap (λ (s : Sums). s.answers.dues.flags) c.missing_of_kept.ensures.sums ∙ was.flags;
        todo = ap (λ (s : Sums). s.answers.dues.todo) c.missing_of_kept.ensures.sums ∙ was.todo;
      };
      lacks = lacks_less graph two.seen.items one.sums.answers.dues dues k (ap (λ (s : Sums). s.answers.dues.flags.items) c.missing_of_kept.ensures.sums)
          (c.remove.ensures ∙ ap (λ (s : Sums). slice_set s.answers.dues.fresh k false) c.missing_of_kept.ensures.sums) sources
          (lacks_of_stay graph one.seen.items two.seen.items c.missing_of_kept.ensures.looked.stays one.sums.answers.dues c.loop-place.invariant.lacks) (omega (arith, low, room));
    }

pub loop-place-smaller : goal.loop-place-smaller
loop-place-smaller g c =
    let one = c.loop-place.self in
    let low = c.loop-place.invariant.lacks.room.within c.in-Some.place c.in-Some.ensures.is in
    let room = c.loop-place.invariant.lacks.room.room in
    subst (λ (l : List Bool). left_from l < left_from one.sums.answers.dues.fresh)
    (sym {A = List Bool} (c.remove.ensures ∙ ap (λ (s : Sums). slice_set s.answers.dues.fresh c.in-Some.place false) c.missing_of_kept.ensures.sums))
    (removed_less one.sums.answers.dues.fresh c.in-Some.place c.in-Some.ensures (omega (arith, low, room)))

-- ---- none is

pub returns-clause-found : goal.returns-clause-found
returns-clause-found g c =
    let tells = g.S.Texts.tells in
    let graph = c.args.graph.now in
    let old = g.S.Texts.world c.args.site.now in
    let mid = g.S.Texts.world c.loop-place.site in
    let flags : c.loop-place.self.sums.answers.dues.flags.items ≡ c.args.self.now.sums.answers.dues.flags.items = ap (λ (v : Vec Bool Global). v.items) c.loop-place.invariant.answers.flags in
    subst (λ (l : List Bool). FindsAt tells graph old mid c.args.self.now l None) flags
    (below_none tells graph c.lists_stand.ensures old mid c.args.self.now c.loop-place.self c.loop-place.invariant.looked c.loop-place.self.sums.answers.dues c.loop-place.invariant.lacks (length graph.manifest.lines) (λ e lt. c.in_default.ensures e))
