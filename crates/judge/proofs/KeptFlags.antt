-- Flags that are kept are right over what a run does between two turns.
use Rattle.std.proofs.Common.{◌≡◌, inl, inr, ℕ, suc, ◌<◌, ◌≤◌, ◌≢◌, Bool, true, false, List, [], ◌∷◌, Option, Some, None, if◌then◌else◌, length, refl, sym, ◌∙◌, ap, subst, arith}
use Rattle.std.proofs.lemmas.Bool.{false≢true, cases_Bool}
use Rattle.model.specs.declared.graph.Deps.{Deps}
use Rattle.model.specs.declared.graph.Edge.{Edge}
use Rattle.model.specs.declared.act.Act.{Act}
use Rattle.model.specs.Graph.{has_number, edge_at}
use Rattle.model.specs.Records.{Store}
use Rattle.model.specs.Schedule.{Step}
use Rattle.theory.proofs.Growth.{cases_named}
use Rattle.theory.proofs.Lists.{has_number-one, has_number-left, has_number-right, has_number-cases, same_some, some_none}
use Rattle.graph.specs.declared.cone.Cone.{Cone}
use Rattle.graph.specs.declared.graph.Graph.{Graph}
use Rattle.graph.specs.Linked.{StandFor}
use Rattle.graph.specs.Links.{links_of, needs_at, users_at}
use Rattle.graph.specs.Told.{declared_by}
use Rattle.plan.specs.declared.plan.Plan.{Plan}
use Rattle.plan.specs.declared.step.Standing.{Standing}
use Rattle.plan.specs.Flags.{has}
use Rattle.plan.specs.Standing.{standing_at}
use Rattle.records.specs.declared.records.Records.{Records}
use Rattle.judge.specs.declared.dues.Dues.{Dues}
use Rattle.judge.specs.declared.looks.Look.{Look}
use Rattle.judge.specs.Answers.{HasGrownBy, StandBoth, AreKnownStill, TellSame}
use Rattle.judge.specs.Seen.{StaysKnown}
use Rattle.judge.specs.UnderWay.{IsUnderWay, judged_due, was_due}
use Rattle.judge.specs.Dues.{due_at, AreListed}
use Rattle.judge.specs.Ruled.{IsRuled, ComeAfterMakers}
use Rattle.judge.specs.KeptDues.{place_of, edge_of_place, NotesEdges, NotesGrown, AsksNowhere, AreRuledBut, LacksNoneBut, IsSourceSeen, AreKeptRight, HasMakersFirst, TellsSameBut}
use Rattle.judge.proofs.AfterMakers.{after_makers}
use Rattle.judge.proofs.Answered.{answer_told}
use Rattle.judge.proofs.LoadedAnswers.{count_same, ruled_again, maker_kept, all_same, made_same, phony_same}
use Rattle.judge.proofs.NotedPlaces.{needs_user}
use Rattle.judge.proofs.NumbersAsTexts.{same_or_other, at_has}
use Rattle.judge.proofs.RuledAgain.{place_is}
use Rattle.judge.proofs.RuledStays.{ruled_seen}
use Rattle.judge.proofs.SourcesSeen.{lacks_stay, lacks_noted, unset_before}

-- ---- what was seen stays

pub dues_stay : (graph : Graph) (records : Records) (cone : Cone) (plan : Plan) (old new : List Look) → StaysKnown old new → (dues : Dues) → AreRuledBut graph records cone plan old dues → AreRuledBut graph records cone plan new dues
dues_stay graph records cone plan old new stays dues but = record {
  room = but.room;
  flagged = but.flagged;
  each = λ k lt out.
      let was = but.each k lt out in
      record { depfile = was.depfile; ruled = ruled_seen old new stays graph dues.flags.items records plan was.depfile (edge_of_place cone k) was.ruled };
}

pub kept_stay : (graph : Graph) (records : Records) (cone : Cone) (plan : Plan) (old new : List Look) → StaysKnown old new → (dues : Dues) → AreKeptRight graph records cone plan old dues → AreKeptRight graph records cone plan new dues
kept_stay graph records cone plan old new stays dues was = record { but = dues_stay graph records cone plan old new stays dues was.but; asks = was.asks; lacks = lacks_stay graph old new stays cone dues was.lacks }

-- ---- the records tell the same

dues_told : (graph : Graph) (old new : Records) → TellSame old new → (cone : Cone) (plan : Plan) (seen : List Look) (dues : Dues) → AreRuledBut graph old cone plan seen dues → AreRuledBut graph new cone plan seen dues
dues_told graph old new same cone plan seen dues but = record {
  room = but.room;
  flagged = but.flagged;
  each = λ k lt out.
      let was = but.each k lt out in
      let e = edge_of_place cone k in
      record {
        depfile = was.depfile;
        ruled = record {
          judged = was.ruled.judged;
          alias = was.ruled.alias;
          command = λ none plain.
              let command = was.ruled.command none plain in
              record { reads = command.reads; found = λ so. answer_told old new same graph seen e (record { depfile = was.depfile; due = due_at dues.flags.items e }) (command.found so) };
        };
      };
}

pub kept_told : (graph : Graph) (old new : Records) → TellSame old new → (cone : Cone) (plan : Plan) (seen : List Look) (dues : Dues) → AreKeptRight graph old cone plan seen dues → AreKeptRight graph new cone plan seen dues
kept_told graph old new same cone plan seen dues was = record { but = dues_told graph old new same cone plan seen dues was.but; asks = was.asks; lacks = was.lacks }

-- ---- an edge is judged

ruled_planned : (graph : Graph) (records : Records) (plan next : Plan) (e : ℕ) → judged_due graph next e ≡ judged_due graph plan e → (seen : List Look) (due : List Bool) (depfile : Bool) → IsRuled graph records plan seen due depfile e
    → IsRuled graph records next seen due depfile e
ruled_planned graph records plan next e same seen due depfile ruled = record {
  judged = λ was told. ruled.judged was (sym same ∙ told);
  alias = λ none phony. ruled.alias (sym same ∙ none) phony;
  command = λ none plain. ruled.command (sym same ∙ none) plain;
}

-- it is noted
dues_judged : (graph : Graph) (records : Records) (cone : Cone) (plan next : Plan) (e : ℕ) → TellsSameBut graph plan next e → (seen : List Look) (old new : Dues) → NotesEdges cone (e ∷ []) old new
    → AreRuledBut graph records cone plan seen old → AreRuledBut graph records cone next seen new
dues_judged graph records cone plan next e told seen old new notes but = record {
  room = record {
    fits = ap (λ (l : List Bool). length l) notes.flags ∙ but.room.fits;
    sized = but.room.sized;
    room = subst (λ (n : ℕ). length cone.order.items ≤ n) (sym {A = ℕ} notes.fits) but.room.room;
    within = λ k now. elim (notes.only k now) [
      | inl was ↦ but.room.within k was
      | inr among ↦ subst (λ (n : ℕ). n < length cone.order.items) among.place (cone.placed among.edge among.listed).0
    ];
    marks = but.room.marks;
    ordered = but.room.ordered;
  };
  flagged = λ q marked. but.flagged q (sym (ap (λ (l : List Bool). due_at l q) notes.flags) ∙ marked);
  each = λ k lt out.
      let was = but.each k lt (unset_before old.todo new.todo notes.more k out) in
      let q = edge_of_place cone k in
      let other : q ≡ e → ⊥ = λ same.
      false≢true (sym out ∙ subst (λ (n : ℕ). has new.todo n ≡ true) (place_is (links_of graph) cone but.room.ordered k lt)
      (notes.all q (subst (λ (n : ℕ). has_number (e ∷ []) n ≡ true) (sym {A = ℕ} same) (has_number-one e)) (at_has cone.order.items k 0 lt))) in
      record {
        depfile = was.depfile;
        ruled = subst (λ (l : List Bool). IsRuled graph records next seen l was.depfile q) (sym notes.flags) (ruled_planned graph records plan next q (told q other) seen old.flags.items was.depfile was.ruled);
      };
}

pub kept_judged : (graph : Graph) (records : Records) (cone : Cone) (plan next : Plan) (e : ℕ) → TellsSameBut graph plan next e → (seen : List Look) (old new : Dues) → NotesEdges cone (e ∷ []) old new
    → AreKeptRight graph records cone plan seen old → AreKeptRight graph records cone next seen new
kept_judged graph records cone plan next e told seen old new notes was = record {
  but = dues_judged graph records cone plan next e told seen old new notes was.but;
  asks = was.asks;
  lacks = lacks_noted graph cone seen (e ∷ []) old new notes was.lacks;
}

-- it was not due, and is clean
dues_clean : (graph : Graph) (records : Records) (cone : Cone) (plan next : Plan) (e : ℕ) → TellsSameBut graph plan next e → was_due (standing_at next.standings.items e) ≡ Some false → (seen : List Look) (dues : Dues) → due_at dues.flags.items e ≡ false
    → AreRuledBut graph records cone plan seen dues → AreRuledBut graph records cone next seen dues
dues_clean graph records cone plan next e told clean seen dues flag but = record {
  room = but.room;
  flagged = but.flagged;
  each = λ k lt out.
      let was = but.each k lt out in
      let q = edge_of_place cone k in
      record { depfile = was.depfile; ruled = at_edge q was.depfile was.ruled };
}
  where
    -- a phony edge is not judged
    here : (depfile : Bool) → IsRuled graph records plan seen dues.flags.items depfile e → IsRuled graph records next seen dues.flags.items depfile e
    here depfile ruled = by_kind ((links_of graph).phony e) refl
      where
        by_kind : (b : Bool) → (links_of graph).phony e ≡ b → IsRuled graph records next seen dues.flags.items depfile e
        by_kind true phony =
            let now = ap (λ (b : Bool). if b then None else was_due (standing_at next.standings.items e)) phony in
            let before = ap (λ (b : Bool). if b then None else was_due (standing_at plan.standings.items e)) phony in
            ruled_planned graph records plan next e (now ∙ sym before) seen dues.flags.items depfile ruled
        by_kind false plain =
            let now : judged_due graph next e ≡ Some false = ap (λ (b : Bool). if b then None else was_due (standing_at next.standings.items e)) plain ∙ clean in
            record {
              judged = λ was so. flag ∙ same_some false was (sym now ∙ so);
              alias = λ none phony. absurd (some_none false (sym now ∙ none));
              command = λ none plain. absurd (some_none false (sym now ∙ none));
            }

    at_edge : (q : ℕ) (depfile : Bool) → IsRuled graph records plan seen dues.flags.items depfile q → IsRuled graph records next seen dues.flags.items depfile q
    at_edge q depfile ruled = elim (same_or_other e q) [
      | inl same ↦
          subst (λ (n : ℕ). IsRuled graph records next seen dues.flags.items depfile n) (sym {A = ℕ} same)
          (here depfile (subst (λ (n : ℕ). IsRuled graph records plan seen dues.flags.items depfile n) same ruled))
      | inr other ↦ ruled_planned graph records plan next q (told q other) seen dues.flags.items depfile ruled
    ]

pub kept_clean : (graph : Graph) (records : Records) (cone : Cone) (plan next : Plan) (e : ℕ) → TellsSameBut graph plan next e → was_due (standing_at next.standings.items e) ≡ Some false → (seen : List Look) (dues : Dues) → due_at dues.flags.items e ≡ false
    → AreKeptRight graph records cone plan seen dues → AreKeptRight graph records cone next seen dues
kept_clean graph records cone plan next e told clean seen dues flag was = record { but = dues_clean graph records cone plan next e told clean seen dues flag was.but; asks = was.asks; lacks = was.lacks }

-- ---- a build under way

pub placed_first : (graph : Graph) → StandFor (declared_by graph).edges graph.manifest.paths (links_of graph) → (records : Records) (cone : Cone) (plan : Plan) (store : Store) (targets : List (List ℕ)) (before : List Step)
    → IsUnderWay graph records cone plan store targets before → HasMakersFirst graph cone
placed_first graph stands records cone plan store targets before way = record {
  sized = let fits = way.listed.fits in let same = stands.fits in omega (arith, fits, same, cone.marks.ok.0);
  marks = way.listed.marked;
  ordered = after_makers graph stands records cone plan store targets before way;
}

-- ---- a load

module _ (edges : List ℕ) (old new : Graph) (grown : HasGrownBy edges old new) (both : StandBoth old new) (was is : Records) (cone : Cone) (plan next : Plan) (store other_store : Store) (targets other_targets : List (List ℕ)) (steps : List Step)
    (way : IsUnderWay old was cone plan store targets steps) (way_then : IsUnderWay new is cone next other_store other_targets steps)
  where
    abbrev few : List Edge
    few = (declared_by old).edges

    abbrev many : List Edge
    many = (declared_by new).edges

    after : ComeAfterMakers (links_of new) cone.order.items
    after = after_makers new both.after is cone next other_store other_targets steps way_then

    -- the plan tells of other edges what it told
    told_same : (e : ℕ) → has_number cone.order.items e ≡ true → has_number edges e ≡ false → judged_due new next e ≡ judged_due old plan e
    told_same e listed other =
        ap (λ (b : Bool). if b then None else was_due (standing_at next.standings.items e)) (phony_same edges old new grown both e other) ∙ by_phony ((links_of old).phony e) refl
      where
        by_phony : (b : Bool) → (links_of old).phony e ≡ b → (if b then None else was_due (standing_at next.standings.items e)) ≡ (if (links_of old).phony e then None else was_due (standing_at plan.standings.items e))
        by_phony true phony = sym (ap (λ (b : Bool). if b then None else was_due (standing_at plan.standings.items e)) phony)
        by_phony false plain =
            let before = way.stands e listed (sym (both.before.phony_is e) ∙ plain) in
            let now = way_then.stands e listed (sym (both.after.phony_is e) ∙ (phony_same edges old new grown both e other ∙ plain)) in
            ap was_due (now ∙ sym {A = Standing} before) ∙ sym (ap (λ (b : Bool). if b then None else was_due (standing_at plan.standings.items e)) plain)

    module _ (before dues : Dues) (notes : NotesGrown new cone edges before dues) where
      -- an edge of which nothing is noted is another one
      other_at : (k : ℕ) → k < length cone.order.items → has dues.todo k ≡ false → has_number edges (edge_of_place cone k) ≡ false
      other_at k lt out = elim (cases_Bool (has_number edges (edge_of_place cone k))) [
        | inl there ↦
            absurd (false≢true (sym out ∙ subst (λ (n : ℕ). has dues.todo n ≡ true) (place_is (links_of new) cone after k lt) (notes.all (edge_of_place cone k) there (at_has cone.order.items k 0 lt))))
        | inr away ↦ away
      ]

      needs_same : (e p : ℕ) → has_number edges e ≡ false → has_number (needs_at (links_of old) e) p ≡ true → has_number (needs_at (links_of new) e) p ≡ true
      needs_same e p other needed = elim (has_number-cases ((links_of old).inputs e) ((links_of old).recorded e) p needed) [
        | inl input ↦
            has_number-left ((links_of new).inputs e) ((links_of new).recorded e) p (subst (λ (l : List ℕ). has_number l p ≡ true) (sym {A = List ℕ} (all_same edges old new grown both e other)) input)
        | inr recorded ↦
            has_number-right ((links_of new).inputs e) ((links_of new).recorded e) p (subst (λ (l : List ℕ). has_number l p ≡ true) (sym {A = List ℕ} (grown.recorded e other)) recorded)
      ]

      -- what no edge made, and one makes now, is made by an edge of the file
      made_now : (p m : ℕ) → (links_of old).maker p ≡ None → (links_of new).maker p ≡ Some m → has_number edges m ≡ true
      made_now p m none made = elim (cases_Bool (has_number edges m)) [
        | inl there ↦ there
        | inr away ↦
            let outputs : has_number ((links_of old).outputs m) p ≡ true = subst (λ (l : List ℕ). has_number l p ≡ true) (made_same edges old new grown both m away) (new.making.made p m made) in
            absurd (some_none m (sym (old.making.all p m outputs) ∙ none))
      ]

      -- no source that an edge needs of which nothing is noted has got a maker
      no_maker : (k p : ℕ) → k < length cone.order.items → has dues.todo k ≡ false → has_number (needs_at (links_of old) (edge_of_place cone k)) p ≡ true → (links_of old).maker p ≡ None → (links_of new).maker p ≡ None
      no_maker k p lt out needed none = by_maker ((links_of new).maker p) refl
        where
          by_maker : (o : Option ℕ) → (links_of new).maker p ≡ o → (links_of new).maker p ≡ None
          by_maker None made = made
          by_maker (Some m) made =
              let q = edge_of_place cone k in
              let outputs = new.making.made p m made in
              let uses = needs_user new p (users_at new p) (λ e. new.using.counted p e (both.after.outputs_within m p outputs)) q (needs_same q p (other_at k lt out) needed) in
              absurd (false≢true (sym out ∙ subst (λ (n : ℕ). has dues.todo n ≡ true) (place_is (links_of new) cone after k lt) (notes.users m (made_now p m none made) p q outputs uses (at_has cone.order.items k 0 lt))))

      dues_loaded : AreKnownStill old new was is → (seen : List Look) → AreRuledBut old was cone plan seen before → AreRuledBut new is cone next seen dues
      dues_loaded still seen but = record {
        room = record {
          fits = ap (λ (l : List Bool). length l) notes.flags ∙ (but.room.fits ∙ sym (count_same edges old new grown both));
          sized = but.room.sized ∙ sym (count_same edges old new grown both);
          room = subst (λ (n : ℕ). length cone.order.items ≤ n) (sym {A = ℕ} notes.fits) but.room.room;
          within = λ k now. elim (notes.only k now) [
            | inl noted ↦ but.room.within k noted
            | inr low ↦ low
          ];
          marks = but.room.marks;
          ordered = after;
        };
        flagged = λ q marked. but.flagged q (sym (ap (λ (l : List Bool). due_at l q) notes.flags) ∙ marked);
        each = λ k lt out.
            let kept = but.each k lt (unset_before before.todo dues.todo notes.more k out) in
            let q = edge_of_place cone k in
            let other = other_at k lt out in
            record {
              depfile = kept.depfile;
              ruled = subst (λ (l : List Bool). IsRuled new is next seen l kept.depfile q) (sym notes.flags)
                  (ruled_again edges old new grown both q other (λ p needed source. no_maker k p lt out needed source) before.flags.items was is still plan next (told_same q (at_has cone.order.items k 0 lt) other) seen kept.depfile kept.ruled);
            };
      }

      -- a source now was one before
      source_before : (p : ℕ) → (links_of new).maker p ≡ None → (links_of old).maker p ≡ None
      source_before p none = by_maker ((links_of old).maker p) refl
        where
          by_maker : (o : Option ℕ) → (links_of old).maker p ≡ o → (links_of old).maker p ≡ None
          by_maker None made = made
          by_maker (Some m) made = absurd (some_none m (sym (maker_kept edges old new grown both p m (both.before.outputs_within m p (old.making.made p m made)) made) ∙ none))

      seen_then : (seen : List Look) (p : ℕ) → IsSourceSeen old seen p → IsSourceSeen new seen p
      seen_then seen p so none = so (source_before p none)

      lacks_loaded : (seen : List Look) → AreListed cone.order.items before.flags.items → LacksNoneBut old cone seen before → LacksNoneBut new cone seen dues
      lacks_loaded seen flagged lacks = record {
        room = record {
          room = let same = count_same edges old new grown both in let room = lacks.room.room in let size = ap (λ (l : List Bool). length l) notes.fresh in omega (arith, same, room, size);
          within = λ e now. let low = lacks.room.within e (sym (ap (λ (l : List Bool). has l e) notes.fresh) ∙ now) in let same = count_same edges old new grown both in omega (arith, low, same);
        };
        targets = λ p listed. seen_then seen p (lacks.targets p listed);
        edges = λ e due out fresh p input.
            let marked : due_at before.flags.items e ≡ true = sym (ap (λ (l : List Bool). due_at l e) notes.flags) ∙ due in
            let listed = flagged e marked in
            let other : has_number edges e ≡ false = elim (cases_Bool (has_number edges e)) [
              | inl there ↦ absurd (false≢true (sym out ∙ notes.all e there listed))
              | inr away ↦ away
            ] in
            seen_then seen p
            (lacks.edges e marked (unset_before before.todo dues.todo notes.more (place_of cone e) out) (sym (ap (λ (l : List Bool). has l e) notes.fresh) ∙ fresh) p
            (subst (λ (l : List ℕ). has_number l p ≡ true) (all_same edges old new grown both e other) input));
      }

      -- an edge has the depfile that it had, and leaves it where it left it
      same_act : (i : ℕ) → (edge_at many i).act ≡ (edge_at few i).act
      same_act i = elim (cases_named (edge_at few i).dyndep grown.file) [
        | inl named ↦ ap (λ (e : Edge). e.act) (grown.grown.named i named).2
        | inr other ↦ ap (λ (e : Edge). e.act) (grown.grown.others i other)
      ]

      same_deps : (i : ℕ) → (edge_at many i).deps ≡ (edge_at few i).deps
      same_deps i = elim (cases_named (edge_at few i).dyndep grown.file) [
        | inl named ↦ ap (λ (e : Edge). e.deps) (grown.grown.named i named).2
        | inr other ↦ ap (λ (e : Edge). e.deps) (grown.grown.others i other)
      ]

      same_kind : (i : ℕ) → (edge_at many i).phony ≡ (edge_at few i).phony
      same_kind i = elim (cases_named (edge_at few i).dyndep grown.file) [
        | inl named ↦ ap (λ (e : Edge). e.phony) (grown.grown.named i named).2
        | inr other ↦ ap (λ (e : Edge). e.phony) (grown.grown.others i other)
      ]

      asks_loaded : AsksNowhere old cone → AsksNowhere new cone
      asks_loaded asks k lt plain named unset =
          let i = suc (edge_of_place cone k) in
          asks k lt (both.before.phony_is (edge_of_place cone k) ∙ (sym (same_kind i) ∙ (sym (both.after.phony_is (edge_of_place cone k)) ∙ plain)))
          (subst (λ (a : Act). a.depfile ≢ []) (same_act i) named) (sym {A = Deps} (same_deps i) ∙ unset)

      pub kept_loaded : AreKnownStill old new was is → (seen : List Look) → AreKeptRight old was cone plan seen before → AreKeptRight new is cone next seen dues
      kept_loaded still seen right = record { but = dues_loaded still seen right.but; asks = asks_loaded right.asks; lacks = lacks_loaded seen right.but.flagged right.lacks }
