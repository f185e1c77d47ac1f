-- What was found of commands by what was seen of paths is so of files, and stays.
use Rattle.std.proofs.Common.{◌≡◌, ◌≢◌, inl, inr, ℕ, suc, ◌+◌, ◌<◌, ◌≤◌, Bool, true, false, IsTrue, List, [], ◌∷◌, ◌++◌, Option, Some, None, bytes_eq, map, length, take, get_or, refl, sym, ◌∙◌, ap, subst}
use Rattle.std.specs.List.{flat_map}
use Rattle.std.proofs.lemmas.List.{take_more, map-append}
use Rattle.theory.proofs.Lists.{all_append}
use Rattle.model.specs.declared.act.Act.{Act}
use Rattle.model.specs.declared.event.Moment.{Moment}
use Rattle.model.specs.declared.graph.Edge.{Edge}
use Rattle.model.specs.declared.reason.Reason.{Reason}
use Rattle.model.specs.declared.record.Record.{Record}
use Rattle.model.specs.declared.record.DepsRecord.{DepsRecord}
use Rattle.model.specs.World.{World}
use Rattle.model.specs.Calls.{OnlyLooks}
use Rattle.model.specs.Graph.{edge_at}
use Rattle.model.specs.Judgement.{OutputFacts, InputFacts}
use Rattle.model.specs.OutOfDate.{deps_start}
use Rattle.model.specs.Records.{in_force, deps_in_force}
use Rattle.paths.specs.declared.manifest.Command.{Command}
use Rattle.paths.specs.Told.{text_at}
use Rattle.graph.specs.declared.graph.Graph.{Graph}
use Rattle.graph.specs.Linked.{StandFor}
use Rattle.graph.specs.Links.{links_of}
use Rattle.graph.specs.Told.{declared_by}
use Rattle.log_text.specs.BuildLog.{Keeps, makings}
use Rattle.log_text.specs.DepsLog.{Keeps as KeepsDeps, tolds}
use Rattle.records.specs.declared.records.Records.{Records}
use Rattle.records.specs.Held.{ArePlaces}
use Rattle.records.specs.Known.{AreKnown, IsOf, IsOfDeps}
use Rattle.judge.specs.declared.answers.Answer.{Answer}
use Rattle.judge.specs.declared.answers.Answers.{Answers}
use Rattle.judge.specs.declared.input_facts.Inputs.{Inputs}
use Rattle.judge.specs.declared.looks.Look.{Look}
use Rattle.judge.specs.declared.looks.Looks.{Looks}
use Rattle.judge.specs.declared.output_facts.Outputs.{Outputs}
use Rattle.judge.specs.Seen.{look_at, look_of, is_asked, StaysKnown, AreKept, AreSeenOf}
use Rattle.judge.specs.Looking.{HasLooked}
use Rattle.judge.specs.Summaries.{AreOutputs, AreInputs, TakesOutput}
use Rattle.judge.specs.Facts.{output_at, stamp_at, all_inputs, AreIn, AreAsked, HasOutputs, HasInputs, HasDepfile, HasTaken, IsReadBy, IsReadAmong, seen_stamp, seen_inputs}
use Rattle.judge.specs.Judged.{DoesCommand, IsAnswer, IsReasonFound}
use Rattle.judge.specs.Answers.{seen_output, AreMadeSeen, AreReadSeen, IsReasonSeen, IsAnswerSeen, AreAnswers, answer_at, KnowsWith, KnowsRight, IsDepfileFound, TellSame}
use Rattle.judge.proofs.Answering.{is_answer}
use Rattle.judge.proofs.FilesStay.{Follow, Stay}
use Rattle.judge.proofs.Known.{known_of}
use Rattle.judge.proofs.LooksStay.{asked_look}
use Rattle.judge.proofs.NumbersAsTexts.{same_or_other}
use Rattle.judge.proofs.Reasons.{flat_has, has_flat}
use Rattle.judge.proofs.Summing.{Stays, asked_stays, inputs_same, seen_are, stamp_by}
use Rattle.judge.proofs.Taking.{looked_still, depfile_later}

-- ---- outputs, one more after another

module _ (paths : List (List ℕ)) (rs : List Record) (ds : List DepsRecord) where
  -- with this stamp
  abbrev output_with : ℕ → Option ℕ → OutputFacts
  output_with p stamp = record { stamp = stamp; made = in_force rs (text_at paths p); deps_start = deps_start (deps_in_force ds (text_at paths p)) }

  -- they are the same by what was seen since
  outputs_same : (seen new : List Look) → Stays seen new → (ns : List ℕ) → AreAsked seen ns → map (seen_output paths rs ds seen) ns ≡ map (seen_output paths rs ds new) ns
  outputs_same seen new stays [] asked = refl
  outputs_same seen new stays (n ∷ ns) asked =
      ap (λ (look : Look). output_with n (seen_stamp look) ∷ map (seen_output paths rs ds seen) ns) (sym (stays n asked.0))
      ∙ ap (λ (l : List OutputFacts). seen_output paths rs ds new n ∷ l) (outputs_same seen new stays ns asked.1)

  -- and by the files that were seen
  outputs_are : (set : List ℕ → Bool) (files : List Moment) (seen : List Look) → AreSeenOf set paths files seen → (ns : List ℕ) → AreAsked seen ns → AreIn set paths ns
      → map (seen_output paths rs ds seen) ns ≡ map (output_at paths rs ds files) ns
  outputs_are set files seen are [] asked within = refl
  outputs_are set files seen are (n ∷ ns) asked within =
      ap (λ (stamp : Option ℕ). output_with n stamp ∷ map (seen_output paths rs ds seen) ns) (stamp_by (stamp_at paths files n) (look_at seen n) (are n asked.0 within.0))
      ∙ ap (λ (l : List OutputFacts). output_at paths rs ds files n ∷ l) (outputs_are set files seen are ns asked.1 within.1)

  pub outputs_more : (act : Act) (seen new : List Look) → Stays seen new → (xs : List ℕ) (k d : ℕ) → k < length xs → (old outputs : Outputs) → AreAsked seen (take k xs)
      → AreOutputs act (map (seen_output paths rs ds seen) (take k xs)) old → (stamp : Option ℕ) → look_at new (get_or xs k d) ≡ look_of stamp → TakesOutput act (output_with (get_or xs k d) stamp) old outputs
      → AreOutputs act (map (seen_output paths rs ds new) (take (k + 1) xs)) outputs
  outputs_more act seen new stays xs k d lt old outputs asked are stamp noted takes =
      let x = get_or xs k d in
      subst (λ (l : List OutputFacts). AreOutputs act l outputs)
      (ap (λ (s : Option ℕ). map (seen_output paths rs ds new) (take k xs) ++ output_with x s ∷ []) (sym (stamp_by stamp (look_at new x) noted))
      ∙ (sym (map-append (seen_output paths rs ds new) (take k xs) (x ∷ [])) ∙ ap (map (seen_output paths rs ds new)) (sym (take_more xs k d lt))))
      (takes (map (seen_output paths rs ds new) (take k xs)) (subst (λ (l : List OutputFacts). AreOutputs act l old) (outputs_same seen new stays (take k xs) asked) are))

pub asked_more : (seen new : List Look) → Stays seen new → (xs : List ℕ) (k d : ℕ) → k < length xs → AreAsked seen (take k xs) → (stamp : Option ℕ) → look_at new (get_or xs k d) ≡ look_of stamp
    → AreAsked new (take (k + 1) xs)
asked_more seen new stays xs k d lt asked stamp noted =
    subst (AreAsked new) (sym (take_more xs k d lt))
    (all_append (λ p. is_asked (look_at new p) ≡ true) (take k xs) (get_or xs k d ∷ []) (asked_stays seen new stays (take k xs) asked) (ap is_asked noted ∙ asked_look stamp, tt))

-- ---- inputs

-- what is named by edges is named by one of their lists
pub among_by : (graph : Graph) (e : ℕ) (edges : List ℕ) → IsReadBy graph e edges → IsReadAmong graph e (flat_map (links_of graph).regular edges)
among_by graph e edges read view p = (
  (λ is.
      let at = (read view p).0 is in
      record { path = at.path; listed = has_flat (links_of graph).regular edges at.edge at.path at.listed at.input; text = at.text; counts = at.counts }),
  (λ is.
      let at = flat_has (links_of graph).regular edges is.path is.listed in
      (read view p).1 (record { edge = at.0; listed = at.1; path = is.path; input = at.2; text = is.text; counts = is.counts })),
)

-- what an edge reads, and what was recorded of it, was taken in after nothing
pub read_seen : (graph : Graph) (flags : List Bool) (seen : List Look) (e : ℕ) (edges : List ℕ) (none read all : Inputs) → StandFor (declared_by graph).edges graph.manifest.paths (links_of graph) → IsReadBy graph e edges → AreInputs [] none
    → HasTaken graph flags false seen (flat_map (links_of graph).regular edges) none read → HasTaken graph flags true seen ((links_of graph).recorded e) read all → AreReadSeen graph flags seen e all
read_seen graph flags seen e edges none read all stands by of first second = record {
  numbers = flat_map (links_of graph).regular edges;
  within = λ p h. let at = flat_has (links_of graph).regular edges p h in stands.regular_within at.0 p at.2;
  read = among_by graph e edges by;
  asked = first.asked;
  recorded = second.asked;
  are = second.takes (seen_inputs graph flags false seen (flat_map (links_of graph).regular edges)) (first.takes [] of);
}

-- ---- by the files that were seen

module _ (graph : Graph) (stands : StandFor (declared_by graph).edges graph.manifest.paths (links_of graph)) (records : Records) (flags : List Bool) (seen : List Look) (e : ℕ) (depfile : Bool) (reason : Option Reason)
    (by : IsReasonSeen graph records flags seen e depfile reason) (set : List ℕ → Bool) (files : List Moment) (are : AreSeenOf set graph.manifest.paths files seen)
  where
    has_outputs : (rs : List Record) (ds : List DepsRecord) → AreKnown graph rs ds records → HasOutputs graph (edge_at (declared_by graph).edges (suc e)).act rs ds ((links_of graph).outputs e) by.outputs set files
    has_outputs rs ds known within =
        subst (λ (l : List OutputFacts). AreOutputs (edge_at (declared_by graph).edges (suc e)).act l by.outputs) (outputs_are graph.manifest.paths rs ds set files seen are ((links_of graph).outputs e) by.made.asked within)
        (by.made.are rs ds (known_of graph rs ds records known e ((links_of graph).outputs e) refl))

    has_inputs : HasInputs graph flags by.read.numbers e by.inputs set files
    has_inputs in_read in_recorded =
        subst (λ (l : List InputFacts). AreInputs (l ++ all_inputs graph flags true files ((links_of graph).recorded e)) by.inputs) (seen_are graph flags false set files seen are by.read.numbers by.read.asked in_read)
        (subst (λ (l : List InputFacts). AreInputs (seen_inputs graph flags false seen by.read.numbers ++ l) by.inputs) (seen_are graph flags true set files seen are ((links_of graph).recorded e) by.read.recorded in_recorded)
        by.read.are)

    answer_seen : (rs : List Record) (ds : List DepsRecord) → AreKnown graph rs ds records
        → HasDepfile (edge_at (declared_by graph).edges (suc e)).act (edge_at (declared_by graph).edges (suc e)).deps depfile files → IsAnswer graph rs ds flags e reason set files
    answer_seen rs ds known there =
        is_answer graph stands e by.read.numbers by.read.within by.read.read rs ds flags by.outputs by.inputs depfile reason set files (has_outputs rs ds known) has_inputs there by.told by.stale

-- what was seen when a call ended that only looks gives the reason that it found
pub reason_found : (tells : Bool) (graph : Graph) (stands : StandFor (declared_by graph).edges graph.manifest.paths (links_of graph)) (records : Records) (flags : List Bool) (e : ℕ) (depfile : Bool) (reason : Option Reason)
    (old new : World) (before after : Looks) → HasLooked tells graph old new before after → IsDepfileFound tells graph e depfile old new → IsReasonSeen graph records flags after.seen.items e depfile reason
    → IsReasonFound tells graph records old new before flags e reason
reason_found tells graph stands records flags e depfile reason old new before after looked there by rs ds known keeps told set kept seen =
    answer_seen graph stands records flags after.seen.items e depfile reason by set new.history (looked.seen told set kept seen) rs ds known (there told keeps)

-- the depfile of the command of the edge is that of the edge
pub depfile_by : (tells : Bool) (graph : Graph) (e : ℕ) (is : Bool) (old new : World) (command : Command) → DoesCommand graph e command
    → (IsTrue tells → (command.act.depfile ≢ [] → AreKept (bytes_eq command.act.depfile) old.history new.history) → HasDepfile command.act command.deps is new.history) → IsDepfileFound tells graph e is old new
depfile_by tells graph e is old new command does said told keeps =
    subst (λ (edge : Edge). HasDepfile edge.act edge.deps is new.history) (sym does)
    (said told (subst (λ (edge : Edge). edge.act.depfile ≢ [] → AreKept (bytes_eq edge.act.depfile) old.history new.history) does (keeps told)))

-- whether the depfile is there, after a second call
pub depfile_then : Follow → Stay → (tells : Bool) (graph : Graph) (e : ℕ) (is : Bool) (a b c : World) (looks : Looks) → OnlyLooks tells a b → OnlyLooks tells b c → IsDepfileFound tells graph e is a b → IsDepfileFound tells graph e is a c
depfile_then follow stay tells graph e is a b c looks first second there told keeps =
    depfile_later tells graph a b c looks looks (follow tells a b c) (stay tells b c) (looked_still tells graph a b looks (stay tells a b) first) second
    (edge_at (declared_by graph).edges (suc e)).act (edge_at (declared_by graph).edges (suc e)).deps is told (keeps told) (λ kept. there told (λ tell. kept))

-- ---- answers that are kept

same_answer : (a b : Answer) → Some a ≡ Some b → a ≡ b
same_answer a b is = cc

pub no_answer : (a : Answer) → None ≡ Some a → ⊥
no_answer a is = cc

-- outputs that were taken in are so by what was seen since
pub made_stays : (graph : Graph) (records : Records) (seen new : List Look) → Stays seen new → (act : Act) (ns : List ℕ) (outputs : Outputs) → AreMadeSeen graph records act seen ns outputs → AreMadeSeen graph records act new ns outputs
made_stays graph records seen new stays act ns outputs made = record {
  asked = asked_stays seen new stays ns made.asked;
  are = λ rs ds of. subst (λ (l : List OutputFacts). AreOutputs act l outputs) (outputs_same graph.manifest.paths rs ds seen new stays ns made.asked) (made.are rs ds of);
}

-- and so is a reason
reason_stays : (graph : Graph) (records : Records) (flags : List Bool) (seen new : List Look) → Stays seen new → (e : ℕ) (depfile : Bool) (reason : Option Reason) → IsReasonSeen graph records flags seen e depfile reason
    → IsReasonSeen graph records flags new e depfile reason
reason_stays graph records flags seen new stays e depfile reason by = record {
  outputs = by.outputs;
  inputs = by.inputs;
  made = made_stays graph records seen new stays (edge_at (declared_by graph).edges (suc e)).act ((links_of graph).outputs e) by.outputs by.made;
  read = record {
    numbers = by.read.numbers;
    within = by.read.within;
    read = by.read.read;
    asked = asked_stays seen new stays by.read.numbers by.read.asked;
    recorded = asked_stays seen new stays ((links_of graph).recorded e) by.read.recorded;
    are =
        subst (λ (l : List InputFacts). AreInputs (l ++ seen_inputs graph flags true new ((links_of graph).recorded e)) by.inputs) (inputs_same graph flags false seen new stays by.read.numbers by.read.asked)
        (subst (λ (l : List InputFacts). AreInputs (seen_inputs graph flags false seen by.read.numbers ++ l) by.inputs) (inputs_same graph flags true seen new stays ((links_of graph).recorded e) by.read.recorded)
        by.read.are);
  };
  told = by.told;
  stale = by.stale;
}

pub answer_stays : (graph : Graph) (records : Records) (seen new : List Look) → StaysKnown seen new → (e : ℕ) (answer : Answer) → IsAnswerSeen graph records seen e answer → IsAnswerSeen graph records new e answer
answer_stays graph records seen new stays e answer was = record { reason = was.reason; is = was.is; seen = reason_stays graph records [] seen new stays e answer.depfile was.reason was.seen }

pub answers_stay : (graph : Graph) (records : Records) (seen new : List Look) → StaysKnown seen new → (answers : Answers) → AreAnswers graph records seen answers → AreAnswers graph records new answers
answers_stay graph records seen new stays answers right e answer is = answer_stays graph records seen new stays e answer (right e answer is)

-- and so it is of the same answers
pub known_kept : (graph : Graph) (records : Records) (old new : Looks) → StaysKnown old.seen.items new.seen.items → new.sums.answers ≡ old.sums.answers → KnowsRight graph records old → KnowsRight graph records new
known_kept graph records old new stays same right =
    subst (λ (answers : Answers). AreAnswers graph records new.seen.items answers) (sym {A = Answers} same) (answers_stay graph records old.seen.items new.seen.items stays old.sums.answers right)

-- with one more, which is right
pub answers_with : (graph : Graph) (records : Records) (seen : List Look) (e : ℕ) (answer : Answer) (old new : Answers) → KnowsWith e answer old new → IsAnswerSeen graph records seen e answer → AreAnswers graph records seen old
    → AreAnswers graph records seen new
answers_with graph records seen e answer old new with_it noted right q found is = elim (same_or_other e q) [
  | inl here ↦
      let at : answer_at new e ≡ Some found = subst (λ (n : ℕ). answer_at new n ≡ Some found) here is in
      subst (λ (n : ℕ). IsAnswerSeen graph records seen n found) (sym here) (elim with_it.this [
        | inl this ↦ subst (IsAnswerSeen graph records seen e) (same_answer answer found (sym this ∙ at)) noted
        | inr was ↦ right e found (sym was ∙ at)
      ])
  | inr other ↦ right q found (sym (with_it.others q other) ∙ is)
]

pub answers_none : (graph : Graph) (records : Records) (seen : List Look) (answers : Answers) → ((e : ℕ) → answer_at answers e ≡ None) → AreAnswers graph records seen answers
answers_none graph records seen answers none e answer is = absurd (no_answer answer (sym (none e) ∙ is))

-- ---- records that tell the same

module _ (old new : Records) (same : TellSame old new) where
  of_before : (rs : List Record) (paths : List (List ℕ)) → IsOf rs paths new → IsOf rs paths old
  of_before rs paths is = record {
    keeps = subst (Keeps rs) same.build_log is.keeps;
    fits = subst (λ (l : List (Option ℕ)). length l ≤ length paths) same.places is.fits;
    made = subst (ArePlaces makings in_force rs paths) same.places is.made;
  }

  of_deps_before : (ds : List DepsRecord) (paths : List (List ℕ)) → IsOfDeps ds paths new → IsOfDeps ds paths old
  of_deps_before ds paths is = record {
    keeps = subst (KeepsDeps ds) same.deps_log is.keeps;
    fits = subst (λ (l : List (Option ℕ)). length l ≤ length paths) same.deps_places is.fits;
    told = subst (ArePlaces tolds deps_in_force ds paths) same.deps_places is.told;
  }

  pub answer_told : (graph : Graph) (seen : List Look) (e : ℕ) (answer : Answer) → IsAnswerSeen graph old seen e answer → IsAnswerSeen graph new seen e answer
  answer_told graph seen e answer was =
      let by = was.seen in
      record {
        reason = was.reason;
        is = was.is;
        seen = record {
          outputs = by.outputs;
          inputs = by.inputs;
          made = record {
            asked = by.made.asked;
            are = λ rs ds of. by.made.are rs ds (record { first = of.first; more = of.more; grown = of.grown; within = of.within; known = of_before rs of.first of.known; told = of_deps_before ds of.first of.told });
          };
          read = by.read;
          told = by.told;
          stale = by.stale;
        };
      }

  pub answers_told : (graph : Graph) (seen : List Look) (answers : Answers) → AreAnswers graph old seen answers → AreAnswers graph new seen answers
  answers_told graph seen answers right e answer is = answer_told graph seen e answer (right e answer is)
