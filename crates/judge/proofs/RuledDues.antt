-- Flags that are what the rule says tell which edges are due.
use Rattle.std.proofs.Common.{◌≡◌, ◌↔◌, inl, inr, ℕ, zero, suc, ◌+◌, ◌≤◌, ◌<◌, Bool, true, false, List, [], ◌∷◌, Option, Some, None, map, length, take, get_or, refl, sym, ◌∙◌, ap, subst, arith}
use Rattle.std.proofs.lemmas.Bool.{false≢true, cases_Bool, false_from_ne_true}
use Rattle.std.proofs.lemmas.List.{take_all, take_more}
use Rattle.model.specs.declared.graph.Edge.{Edge}
use Rattle.model.specs.World.{World}
use Rattle.model.specs.Graph.{has_number}
use Rattle.model.specs.OutOfDate.{IsDue}
use Rattle.model.specs.Records.{Store, recorded_inputs}
use Rattle.model.specs.Schedule.{Step, out_of_date_in}
use Rattle.theory.specs.Order.{AreMakersFirst}
use Rattle.theory.proofs.Lists.{has_number-cases, has_number-is}
use Rattle.theory.proofs.Orderly.{IsKept, kept_orderly}
use Rattle.graph.specs.declared.cone.Cone.{Cone}
use Rattle.graph.specs.declared.graph.Graph.{Graph}
use Rattle.graph.specs.Linked.{StandFor}
use Rattle.graph.specs.Links.{links_of}
use Rattle.graph.specs.Told.{declared_by}
use Rattle.plan.specs.declared.plan.Plan.{Plan}
use Rattle.records.specs.declared.records.Records.{Records}
use Rattle.judge.specs.declared.looks.Looks.{Looks}
use Rattle.judge.specs.Looking.{HasLooked}
use Rattle.judge.specs.Quiet.{IfQuiet}
use Rattle.judge.specs.UnderWay.{IsUnderWay, judged_due}
use Rattle.judge.specs.Dues.{due_at, reads_due, AreMakersKnown, AreDue, IsFoundClean, AreFoundClean}
use Rattle.judge.specs.Ruled.{IsRuledFound, AreRuledFound}
use Rattle.judge.proofs.Answered.{reason_found}
use Rattle.judge.proofs.AliasDues.{alias_due}
use Rattle.judge.proofs.CommandDues.{due_by_flags}
use Rattle.judge.proofs.DueEdges.{makers_known_by}
use Rattle.judge.proofs.FilesStay.{Follow, Stay}
use Rattle.judge.proofs.FoundDues.{due_found, clean_found}
use Rattle.judge.proofs.Judging.{due_by_standing, judged_as, unjudged_as, awaits_none}
use Rattle.judge.proofs.Lacking.{outputs_known, regular_known}
use Rattle.judge.proofs.NumbersAsTexts.{at_has}
use Rattle.judge.proofs.RuledAliases.{alias_ruled}

-- ---- what a call found

module _ (follow : Follow) (stay : Stay) (tells : Bool) (graph : Graph) (stands : StandFor (declared_by graph).edges graph.manifest.paths (links_of graph)) (records : Records) (cone : Cone) (plan : Plan) (old new : World) (first last : Looks)
    (looked : HasLooked tells graph old new first last) (due : List Bool) (are : AreRuledFound tells graph records plan old new last.seen.items due cone.order.items)
  where
    abbrev edges : List Edge
    edges = (declared_by graph).edges

    abbrev order : List ℕ
    order = cone.order.items

    pub ruled_are_due : (store : Store) (targets : List (List ℕ)) (before : List Step) → IsUnderWay graph records cone plan store targets before
        → IfQuiet tells graph store targets before old new first (λ files. AreDue edges store before files order due)
    ruled_are_due store targets before way keeps told set kept seen has_all files alike e = (
      (λ is. let listed = are.flagged e is in (listed, (each e listed).0 is)),
      (λ both. (each e both.0).1 both.1),
    )
      where
        steps : IsKept edges before
        steps = kept_orderly edges before way.orderly

        makers_first : AreMakersFirst edges (recorded_inputs store edges) [] (map suc order)
        makers_first = way.listed.ordered

        -- one edge, of whose makers it is known
        decided : (q : ℕ) → has_number order q ≡ true → AreMakersKnown edges store before files due (suc q) → (due_at due q ≡ true) ↔ IsDue edges store before files (suc q)
        decided q listed known = by_judged (judged_due graph plan q) refl
          where
            found : IsRuledFound tells graph records plan old new last.seen.items due q
            found = are.each q listed

            by_judged : (was : Option Bool) → judged_due graph plan q ≡ was → (due_at due q ≡ true) ↔ IsDue edges store before files (suc q)
            by_judged (Some was) is =
                subst (λ (b : Bool). (b ≡ true) ↔ IsDue edges store before files (suc q)) (sym (found.ruled.judged was is))
                (due_by_standing edges before steps (suc q) store files was (judged_as graph stands plan before q (way.stands q listed) was is))
            by_judged None is = elim (cases_Bool ((links_of graph).phony q)) [
              | inl alias ↦
                  let phony = sym (stands.phony_is q) ∙ alias in
                  let fresh = false_from_ne_true (has_number (out_of_date_in before) (suc q)) (λ out. false≢true (sym (steps.judged (suc q) (steps.out_of_date (suc q) out)) ∙ phony)) in
                  let same =
                  alias_ruled graph set new.history files last.seen.items (looked.seen told set kept seen) alike.paths due q (due_at due q) (found.ruled.alias is alias)
                  (outputs_known graph stands store targets before set has_all q fresh) (regular_known graph stands store targets before set has_all q) in
                  let says = alias_due edges graph.manifest.paths (links_of graph) files stands store before steps due q phony known in
                  ((λ so. says.0 (sym same ∙ so)), (λ is_due. same ∙ says.1 is_due))
              | inr plain ↦
                  let command = sym (stands.phony_is q) ∙ plain in
                  let unjudged = unjudged_as graph stands plan before q (way.stands q listed) steps is command in
                  let ruled = found.ruled.command is plain in
                  elim (cases_Bool (reads_due (links_of graph) due q)) [
                    | inl flagged ↦ ((λ so. due_by_flags graph stands store before steps files due q (way.known.in_use (suc q)) command unjudged known flagged), (λ is_due. ruled.reads flagged))
                    | inr none ↦
                        let answer = ruled.found none in
                        let there = found.there (record { unjudged = is; command = plain; unread = none }) in
                        due_found follow stay tells graph stands records due q plain none old new first answer.reason (due_at due q) (sym answer.is)
                        (reason_found tells graph stands records [] q found.depfile answer.reason old new first last looked there answer.seen) store targets before way.known way.orderly unjudged keeps told set kept seen has_all files alike known
                  ]
            ]

        -- one more after another
        front : (k : ℕ) → k ≤ length order → (q : ℕ) → has_number (take k order) q ≡ true → (due_at due q ≡ true) ↔ IsDue edges store before files (suc q)
        front zero low q listed = absurd (false≢true listed)
        front (suc k) low q listed =
            let more : suc k ≡ k + 1 = omega arith in
            let within : k < length order = omega (arith, low) in
            let longer = ap (λ (n : ℕ). take n order) more ∙ take_more order k 0 within in
            elim (has_number-cases (take k order) (get_or order k 0 ∷ []) q (subst (λ (l : List ℕ). has_number l q ≡ true) longer listed)) [
              | inl early ↦ front k (omega (arith, low)) q early
              | inr here ↦
                  subst (λ (n : ℕ). (due_at due n ≡ true) ↔ IsDue edges store before files (suc n)) (has_number-is (get_or order k 0) q here)
                  (decided (get_or order k 0) (at_has order k 0 within) (makers_known_by edges store before files order makers_first k within due (front k (omega (arith, low)))))
            ]

        each : (q : ℕ) → has_number order q ≡ true → (due_at due q ≡ true) ↔ IsDue edges store before files (suc q)
        each q listed = front (length order) (omega arith) q (subst (λ (l : List ℕ). has_number l q ≡ true) (sym (take_all (length order) order (omega arith))) listed)

    -- of the rest that was not judged no reason was found
    pub ruled_are_clean : AreFoundClean tells graph records plan old new first order due
    ruled_are_clean e listed not_due awaits = by_judged (judged_due graph plan e) refl
      where
        by_judged : (was : Option Bool) → judged_due graph plan e ≡ was → IsFoundClean tells graph records old new first e
        by_judged (Some was) is = absurd (awaits_none graph plan e was awaits is)
        by_judged None is =
            let found = are.each e listed in
            let ruled = found.ruled.command is awaits.0 in
            elim (cases_Bool (reads_due (links_of graph) due e)) [
              | inl flagged ↦ absurd (false≢true (sym not_due ∙ ruled.reads flagged))
              | inr none ↦
                  let answer = ruled.found none in
                  let there = found.there (record { unjudged = is; command = awaits.0; unread = none }) in
                  clean_found follow stay tells graph stands records due e awaits.0 none old new first answer.reason (due_at due e) (sym answer.is)
                  (reason_found tells graph stands records [] e found.depfile answer.reason old new first last looked there answer.seen) looked.looks not_due
            ]
