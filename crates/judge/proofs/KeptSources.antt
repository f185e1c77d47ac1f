-- Flags that are kept from now on, and what was found by flags that were kept.
use Rattle.std.proofs.Common.{◌≡◌, ℕ, ◌≤◌, Bool, true, false, List, Option, None, Vec, Global, length, sym, ◌∙◌, ap, subst, arith}
use Rattle.std.specs.Prelude.{slice_index_or}
use Rattle.std.proofs.lemmas.Bool.{false≢true}
use Rattle.model.specs.World.{World}
use Rattle.graph.specs.declared.cone.Cone.{Cone}
use Rattle.graph.specs.declared.graph.Graph.{Graph}
use Rattle.graph.specs.Links.{links_of}
use Rattle.plan.specs.declared.plan.Plan.{Plan}
use Rattle.plan.specs.Flags.{has}
use Rattle.records.specs.declared.records.Records.{Records}
use Rattle.judge.specs.declared.answers.Answer.{Answer}
use Rattle.judge.specs.declared.dues.Dues.{Dues}
use Rattle.judge.specs.declared.looks.Look.{Look}
use Rattle.judge.specs.declared.looks.Looks.{Looks}
use Rattle.judge.specs.Answers.{KnowsRight}
use Rattle.judge.specs.Looking.{HasLooked}
use Rattle.judge.specs.Seen.{look_at, AreSeenOf, StaysKnown}
use Rattle.judge.specs.Dues.{due_at, AreListed}
use Rattle.judge.specs.Ruled.{AreRuledFound, IsRuled}
use Rattle.judge.specs.KeptDues.{edge_of_place, HasMakersFirst, HasBegunWith, AreSourcesSeen, KeepsAnswers, AreRuledBut, LacksNoneBut, LacksNoneOf, AsksNowhere, AskForNone, AreKeptRight}
use Rattle.judge.proofs.Answered.{answers_stay}
use Rattle.judge.proofs.KeptFlags.{dues_stay}
use Rattle.judge.proofs.NumbersAsTexts.{at_has}
use Rattle.judge.proofs.RuledStays.{ruled_seen}
use Rattle.judge.proofs.SourcesSeen.{lacks_back}

-- ---- looks of which just what is kept beside them is another

pub looked_same : (tells : Bool) (graph : Graph) (a b : World) (first one two : Looks) → two.seen ≡ one.seen → HasLooked tells graph a b first one → HasLooked tells graph a b first two
looked_same tells graph a b first one two same looked = record {
  looks = looked.looks;
  fits = ap (λ (v : Vec Look Global). length v.items) same ∙ looked.fits;
  seen = λ told quiet kept seen. subst (λ (v : Vec Look Global). AreSeenOf quiet graph.manifest.paths b.history v.items) (sym same) (looked.seen told quiet kept seen);
  stays = λ p asked. ap (λ (v : Vec Look Global). look_at v.items p) same ∙ looked.stays p asked;
}

pub answers_kept : (graph : Graph) (records : Records) (old new : Looks) → StaysKnown old.seen.items new.seen.items → KeepsAnswers old.sums.answers new.sums.answers → KnowsRight graph records old → KnowsRight graph records new
answers_kept graph records old new stays same right e answer at =
    answers_stay graph records old.seen.items new.seen.items stays old.sums.answers right e answer (sym (ap (λ (v : Vec (Option Answer) Global). slice_index_or v.items e None) same) ∙ at)

-- ---- flags are kept from now on

module _ (tells : Bool) (graph : Graph) (records : Records) (cone : Cone) (plan : Plan) (a b : World) (first last : List Look) (stays : StaysKnown first last) (due : List Bool) (placed : HasMakersFirst graph cone) (fits : length due ≡ length graph.manifest.lines)
    (are : AreRuledFound tells graph records plan a b first due cone.order.items) (dues : Dues) (begun : HasBegunWith graph cone due dues)
  where
    begins_but : AreRuledBut graph records cone plan last dues
    begins_but = record {
      room = record {
        fits = ap (λ (l : List Bool). length l) begun.begins.flags ∙ fits;
        sized = placed.sized;
        room = let room = begun.begins.room in omega (arith, room, cone.order.ok.0);
        within = λ k noted. absurd (false≢true (sym (begun.begins.none k) ∙ noted));
        marks = placed.marks;
        ordered = placed.ordered;
      };
      flagged = subst (AreListed cone.order.items) (sym begun.begins.flags) are.flagged;
      each = λ k lt out.
          let e = edge_of_place cone k in
          let found = are.each e (at_has cone.order.items k 0 lt) in
          record {
            depfile = found.depfile;
            ruled = subst (λ (l : List Bool). IsRuled graph records plan last l found.depfile e) (sym begun.begins.flags) (ruled_seen first last stays graph due records plan found.depfile e found.ruled);
          };
    }

    begins_lacks : AreSourcesSeen graph last cone.targets.items → ((e : ℕ) → due_at due e ≡ true → AreSourcesSeen graph last ((links_of graph).inputs e)) → LacksNoneBut graph cone last dues
    begins_lacks targets edges = record {
      room = record {
        room = let asking = begun.begins.asking in omega (arith, asking, fits);
        within = λ e fresh. absurd (false≢true (sym (begun.begins.old e) ∙ fresh));
      };
      targets = targets;
      edges = λ e is out fresh. edges e (sym (ap (λ (l : List Bool). due_at l e) begun.begins.flags) ∙ is);
    }

    pub kept_begins : AreSourcesSeen graph last cone.targets.items → ((e : ℕ) → due_at due e ≡ true → AreSourcesSeen graph last ((links_of graph).inputs e)) → AreKeptRight graph records cone plan last dues
    kept_begins targets edges = record { but = begins_but; asks = begun.asks; lacks = begins_lacks targets edges }

-- ---- flags that were kept

-- sources were asked for
pub kept_again : (graph : Graph) (records : Records) (cone : Cone) (plan : Plan) (seen new : List Look) → StaysKnown seen new → (old dues : Dues) → dues.known ≡ old.known → dues.flags ≡ old.flags → dues.todo ≡ old.todo
    → AreRuledBut graph records cone plan seen old → AsksNowhere graph cone → LacksNoneBut graph cone seen old → LacksNoneOf graph new dues → AreKeptRight graph records cone plan new dues
kept_again graph records cone plan seen new stays old dues known flags todo but asks was now = record {
  but = ruled_then;
  asks = asks;
  lacks = lacks_back graph cone seen new stays old dues (ap (λ (v : Vec Bool Global). v.items) flags) was now;
}
  where
    stayed : AreRuledBut graph records cone plan new old
    stayed = dues_stay graph records cone plan seen new stays old but

    ruled_then : AreRuledBut graph records cone plan new dues
    ruled_then = record {
      room = record {
        fits = ap (λ (v : Vec Bool Global). length v.items) flags ∙ stayed.room.fits;
        sized = stayed.room.sized;
        room = subst (λ (l : List Bool). length cone.order.items ≤ length l) (sym {A = List Bool} todo) stayed.room.room;
        within = λ k noted. stayed.room.within k (sym (ap (λ (l : List Bool). has l k) todo) ∙ noted);
        marks = stayed.room.marks;
        ordered = stayed.room.ordered;
      };
      flagged = λ q marked. stayed.flagged q (sym (ap (λ (v : Vec Bool Global). due_at v.items q) flags) ∙ marked);
      each = λ k lt out.
          let was_so = stayed.each k lt (sym (ap (λ (l : List Bool). has l k) todo) ∙ out) in
          record {
            depfile = was_so.depfile;
            ruled = subst (λ (v : Vec Bool Global). IsRuled graph records plan new v.items was_so.depfile (edge_of_place cone k)) (sym flags) was_so.ruled;
          };
    }

-- no edge asks for a depfile
pub asks_none : (graph : Graph) (cone : Cone) (plan : Plan) (dues : Dues) → AsksNowhere graph cone → AskForNone graph cone plan dues
asks_none graph cone plan dues asks k lt out anew = asks k lt
