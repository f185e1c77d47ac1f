-- What no command makes is known as it was when a command has ended.
use Rattle.std.proofs.Common.{◌≡◌, ℕ, Bool, List, true, false, not, sym, ◌∙◌, ap, subst}
use Rattle.std.proofs.lemmas.Bool.{false≢true, false_from_ne_true}
use Rattle.model.specs.World.{World}
use Rattle.model.specs.Graph.{has_number}
use Rattle.graph.specs.declared.graph.Graph.{Graph}
use Rattle.graph.specs.Links.{links_of}
use Rattle.judge.specs.declared.looks.Looks.{Looks}
use Rattle.judge.specs.Seen.{is_asked, StaysKnown}
use Rattle.judge.specs.Summed.{AreSums}
use Rattle.judge.specs.Lasting.{has_command, is_made, KeepsUnmade, AreMarked, SumsFollow}
use Rattle.work.specs.declared.state.Work.{Work}
use Rattle.work.specs.Going.{HasEnded}

-- what the edge of a command makes, a command makes
made_by : (graph : Graph) (e p : ℕ) → (links_of graph).phony e ≡ false → has_number ((links_of graph).outputs e) p ≡ true → is_made (links_of graph) p ≡ true
made_by graph e p command output = ap (has_command (links_of graph)) (graph.making.all p e output) ∙ ap not command

no_output : (graph : Graph) (e p : ℕ) → (links_of graph).phony e ≡ false → is_made (links_of graph) p ≡ false → has_number ((links_of graph).outputs e) p ≡ false
no_output graph e p command free = false_from_ne_true (has_number ((links_of graph).outputs e) p) (λ output. false≢true (sym free ∙ made_by graph e p command output))

pub ended_keeps : (tells : Bool) (graph : Graph) (e : ℕ) (ok : Bool) (was now : World) (old new : Work) → (links_of graph).phony e ≡ false → HasEnded tells graph e ok was now old new
    → KeepsUnmade graph old.plan.changed.items old.looks.seen.items new.plan.changed.items new.looks.seen.items
ended_keeps tells graph e ok was now old new command ended = record {
  looks = λ p free asked.
      let others = ended.forgets.others p (no_output graph e p command free) in
      ended.looked.stays p (ap is_asked others ∙ asked) ∙ others;
  flags = λ p free. ended.unchanged p (no_output graph e p command free);
}

-- where more was asked for alone, sums and marks that stayed are right by that
pub sums_asked : SumsFollow → (graph : Graph) (flags : List Bool) (old new : Looks) → StaysKnown old.seen.items new.seen.items → new.sums ≡ old.sums
    → AreSums graph flags old.seen.items old.sums → AreSums graph flags new.seen.items new.sums
sums_asked follow graph flags old new stays same right = subst (AreSums graph flags new.seen.items) (sym same) (follow.sums graph flags old.seen.items new.seen.items stays old.sums right)

pub marks_asked : SumsFollow → (graph : Graph) (flags : List Bool) (old new : Looks) → StaysKnown old.seen.items new.seen.items → new.sums ≡ old.sums
    → AreMarked graph flags old.seen.items old.sums → AreMarked graph flags new.seen.items new.sums
marks_asked follow graph flags old new stays same right = subst (AreMarked graph flags new.seen.items) (sym same) (follow.marks graph flags old.seen.items new.seen.items stays old.sums right)
