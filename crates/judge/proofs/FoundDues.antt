-- Whether a command is due of which it was found why it has to run, if it has to, and which reads nothing that a due edge makes.
use Rattle.std.proofs.Common.{◌≡◌, ℕ, suc, Bool, false, List, [], Option, is_some, sym, ◌∙◌, subst}
use Rattle.model.specs.declared.reason.Reason.{Reason}
use Rattle.model.specs.World.{World}
use Rattle.model.specs.Calls.{OnlyLooks}
use Rattle.model.specs.Graph.{has_number}
use Rattle.model.specs.Schedule.{judged_in}
use Rattle.theory.proofs.Orderly.{kept_orderly}
use Rattle.graph.specs.declared.graph.Graph.{Graph}
use Rattle.graph.specs.Linked.{StandFor}
use Rattle.graph.specs.Links.{links_of}
use Rattle.graph.specs.Told.{declared_by}
use Rattle.records.specs.declared.records.Records.{Records}
use Rattle.judge.specs.declared.looks.Looks.{Looks}
use Rattle.judge.specs.Dues.{IsDueEdge, IsFoundClean, OfBuild, reads_due}
use Rattle.judge.specs.Judged.{IsReasonFound}
use Rattle.judge.specs.Quiet.{IfQuiet}
use Rattle.judge.proofs.CleanEdges.{nothing, clean_later}
use Rattle.judge.proofs.CommandDues.{due_by_reason, may_be_judged, reason_then, paths_of_clean}
use Rattle.judge.proofs.FilesStay.{Follow, Stay}

module _ (follow : Follow) (stay : Stay) (tells : Bool) (graph : Graph) (stands : StandFor (declared_by graph).edges graph.manifest.paths (links_of graph)) (records : Records) (due : List Bool) (e : ℕ)
    (plain : (links_of graph).phony e ≡ false) (none : reads_due (links_of graph) due e ≡ false) (old new : World) (seen : Looks) (reason : Option Reason) (is : Bool) (told : is ≡ is_some reason)
    (found : IsReasonFound tells graph records old new seen [] e reason)
  where
    pub due_found : OfBuild graph records (λ store targets before. has_number (judged_in before) (suc e) ≡ false → IfQuiet tells graph store targets before old new seen (λ files. IsDueEdge graph store before due e files is))
    due_found store targets before known_by orderly unjudged keeps tell set kept are has files alike known =
        let command = sym (stands.phony_is e) ∙ plain in
        let steps = kept_orderly (declared_by graph).edges before orderly in
        let paths = paths_of_clean graph stands store before steps files due e (known_by.in_use (suc e)) command unjudged known none targets set has in
        let answer =
        (found store.records store.deps known_by.known (keeps (suc e) command unjudged) tell set kept are).0 store [] files
        (may_be_judged graph store known_by.in_use before set new.history files alike (suc e) command unjudged paths) in
        let by_files = reason_then graph store known_by.in_use before set new.history files alike (suc e) command unjudged paths reason answer in
        let decided = due_by_reason graph stands store before steps files due e (known_by.in_use (suc e)) command unjudged known none reason by_files in
        ((λ so. decided.0 (sym told ∙ so)), (λ is_due. told ∙ decided.1 is_due))

    pub clean_found : OnlyLooks tells old new → is ≡ false → IsFoundClean tells graph records old new seen e
    clean_found looks not_due =
        clean_later follow stay tells graph records e old new seen looks (subst (λ (r : Option Reason). IsReasonFound tells graph records old new seen [] e r) (nothing reason (sym told ∙ not_due)) found)
