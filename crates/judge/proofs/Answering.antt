-- The facts that were taken in give the answer for an edge.
use Rattle.std.proofs.Common.{◌≡◌, ◌≢◌, ◌⊎◌, inl, inr, ℕ, suc, ◌<◌, not, Bool, true, false, List, [], ◌++◌, Option, Some, None, IsSome, map, length, refl, sym, ◌∙◌, ap, subst}
use Rattle.std.specs.Prelude.{is_some}
use Rattle.std.proofs.lemmas.Bool.{false≢true, or_cases, or_left, or_right}
use Rattle.std.proofs.lemmas.List.{map-append}
use Rattle.model.specs.declared.graph.Deps.TheVariants.{Unset}
use Rattle.model.specs.declared.reason.Reason.{Reason}
use Rattle.model.specs.declared.graph.Edge.{Edge}
use Rattle.model.specs.declared.event.Moment.{Moment}
use Rattle.model.specs.declared.record.Record.{Record}
use Rattle.model.specs.declared.record.DepsRecord.{DepsRecord}
use Rattle.model.specs.World.{File, file_at, stamp_of, content_of, view_of}
use Rattle.model.specs.Graph.{has, has_number, edge_at, outputs}
use Rattle.model.specs.Records.{Store}
use Rattle.model.specs.OutOfDate.{Counted, ListsCounted, output_facts, input_facts}
use Rattle.model.specs.Judgement.{OutputFacts, InputFacts, reason_of}
use Rattle.theory.proofs.Lists.{has_number-left, has_number-right, has_number-cases}
use Rattle.paths.specs.Told.{text_at, texts_at}
use Rattle.graph.specs.declared.graph.Graph.{Graph}
use Rattle.graph.specs.Linked.{StandFor}
use Rattle.graph.specs.Links.{links_of}
use Rattle.graph.specs.Alias.{counts_if_present}
use Rattle.graph.specs.Told.{declared_by}
use Rattle.judge.specs.declared.input_facts.Inputs.{Inputs}
use Rattle.judge.specs.declared.output_facts.Outputs.{Outputs}
use Rattle.judge.specs.Summaries.{AreOutputs, AreInputs}
use Rattle.judge.specs.Answers.{facts_for}
use Rattle.judge.specs.Facts.{flag_at, output_at, stamp_at, all_inputs, AreIn, HasOutputs, HasInputs, HasDepfile, IsReadAmong}
use Rattle.judge.specs.Judged.{HasPathsOf, AreRecordedOf, MayBeJudgedBy, MayBeStaleBy, IsReasonFor, IsStaleFor, IsAnswer, everything}
use Rattle.judge.proofs.Reasons.{reason_same, outputs_same, takes, taken, taken_inputs, taken_has, has_taken, has_text, number_of, are_in}

there : (file : Option File) → is_some (stamp_of file) ≡ true → IsSome (content_of file)
there None is = absurd (false≢true is)
there (Some file) is = refl

stamped : (file : Option File) → IsSome (content_of file) → is_some (stamp_of file) ≡ true
stamped None is = absurd (false≢true is)
stamped (Some file) is = refl

not_true : (b : Bool) → not b ≡ true → b ≡ false
not_true true is = absurd (false≢true is)
not_true false is = refl

not_false : (b : Bool) → b ≡ false → not b ≡ true
not_false b is = ap not is

-- the same facts have the same reason, whether the depfile is there where that counts for nothing
same_reason : (edge : Edge) (one two : Bool) → (edge.act.depfile ≢ [] → edge.deps ≡ Unset → one ≡ two) → (xs ys : List OutputFacts) → xs ≡ ys → (ins outs : List InputFacts) → ins ≡ outs
    → reason_of (facts_for edge one xs ins) ≡ reason_of (facts_for edge two ys outs)
same_reason edge one two same xs ys outputs ins outs inputs =
    ap (λ (l : List InputFacts). reason_of (facts_for edge one xs l)) inputs
    ∙ (ap (λ (l : List OutputFacts). reason_of (facts_for edge one l outs)) outputs
    ∙ reason_same edge.act edge.restat edge.deps one two ys outs same)

module _ (graph : Graph) (stands : StandFor (declared_by graph).edges graph.manifest.paths (links_of graph)) (e : ℕ) (regs : List ℕ)
    (regs_within : (n : ℕ) → has_number regs n ≡ true → n < length graph.manifest.paths) (read : IsReadAmong graph e regs)
  where
    abbrev recs : List ℕ
    recs = (links_of graph).recorded e

    recs_within : (n : ℕ) → has_number recs n ≡ true → n < length graph.manifest.paths
    recs_within n h = stands.recorded_within e n h

    module _ (files : List Moment) where
      abbrev both : List ℕ
      both = taken graph files false regs ++ taken graph files true recs

      counts_so : (n : ℕ) → takes graph files false n ≡ true → (counts_if_present (links_of graph) n ≡ false) ⊎ IsSome (view_of files (text_at graph.manifest.paths n))
      counts_so n is = elim (or_cases (is_some (stamp_at graph.manifest.paths files n)) (not (counts_if_present (links_of graph) n)) is) [
        | inl here ↦ inr (there (file_at files (text_at graph.manifest.paths n)) here)
        | inr other ↦ inl (not_true (counts_if_present (links_of graph) n) other)
      ]

      so_counts : (n : ℕ) → (counts_if_present (links_of graph) n ≡ false) ⊎ IsSome (view_of files (text_at graph.manifest.paths n)) → takes graph files false n ≡ true
      so_counts n is = elim is [
        | inl other ↦ or_right (is_some (stamp_at graph.manifest.paths files n)) (not (counts_if_present (links_of graph) n)) (not_false (counts_if_present (links_of graph) n) other)
        | inr here ↦ or_left (is_some (stamp_at graph.manifest.paths files n)) (not (counts_if_present (links_of graph) n)) (stamped (file_at files (text_at graph.manifest.paths n)) here)
      ]

      module _ (store : Store) (in_use : AreRecordedOf graph store (suc e)) where
        pub counted : ListsCounted (declared_by graph).edges store files (suc e) (texts_at graph.manifest.paths both)
        counted p = (listed, all)
          where
            listed : has (texts_at graph.manifest.paths both) p ≡ true → Counted (declared_by graph).edges store files (suc e) p
            listed h =
                let n = number_of graph.manifest.paths both p h in
                elim (has_number-cases (taken graph files false regs) (taken graph files true recs) n.0 n.1) [
                  | inl named ↦
                      let is = taken_has graph files false regs n.0 named in
                      inl ((read (view_of files) p).1 (record {
                        path = n.0;
                        listed = is.0;
                        text = n.2;
                        counts = subst (λ (q : List ℕ). (counts_if_present (links_of graph) n.0 ≡ false) ⊎ IsSome (view_of files q)) n.2 (counts_so n.0 is.1);
                      }))
                  | inr found ↦
                      inr (in_use p ∙ subst (λ (q : List ℕ). has (texts_at graph.manifest.paths recs) q ≡ true) n.2 (has_text graph.manifest.paths recs n.0 (taken_has graph files true recs n.0 found).0))
                ]

            all : Counted (declared_by graph).edges store files (suc e) p → has (texts_at graph.manifest.paths both) p ≡ true
            all is = elim is [
              | inl named ↦
                  let at = (read (view_of files) p).0 named in
                  let counts = subst (λ (q : List ℕ). (counts_if_present (links_of graph) at.path ≡ false) ⊎ IsSome (view_of files q)) (sym at.text) at.counts in
                  subst (λ (q : List ℕ). has (texts_at graph.manifest.paths both) q ≡ true) at.text
                  (has_text graph.manifest.paths both at.path
                  (has_number-left (taken graph files false regs) (taken graph files true recs) at.path
                  (has_taken graph files false regs at.path at.listed (so_counts at.path counts))))
              | inr found ↦
                  let n = number_of graph.manifest.paths recs p (sym (in_use p) ∙ found) in
                  subst (λ (q : List ℕ). has (texts_at graph.manifest.paths both) q ≡ true) n.2
                  (has_text graph.manifest.paths both n.0 (has_number-right (taken graph files false regs) (taken graph files true recs) n.0 (has_taken graph files true recs n.0 n.1 refl)))
            ]

    -- the set has the paths of these numbers
    module _ (store : Store) (in_use : AreRecordedOf graph store (suc e)) (set : List ℕ → Bool) (has_paths : HasPathsOf (declared_by graph).edges store (suc e) set) where
      outputs_in : AreIn set graph.manifest.paths ((links_of graph).outputs e)
      outputs_in =
          are_in set graph.manifest.paths ((links_of graph).outputs e)
          (λ n h. has_paths.made (text_at graph.manifest.paths n) (ap (λ (l : List (List ℕ)). has l (text_at graph.manifest.paths n)) (sym (stands.outputs_are e)) ∙ has_text graph.manifest.paths ((links_of graph).outputs e) n h))

      regs_in : AreIn set graph.manifest.paths regs
      regs_in =
          are_in set graph.manifest.paths regs
          (λ n h. has_paths.read (text_at graph.manifest.paths n) ((read everything (text_at graph.manifest.paths n)).1 (record { path = n; listed = h; text = refl; counts = inr refl })))

      recs_in : AreIn set graph.manifest.paths recs
      recs_in = are_in set graph.manifest.paths recs (λ n h. has_paths.recorded (text_at graph.manifest.paths n) (in_use (text_at graph.manifest.paths n) ∙ has_text graph.manifest.paths recs n h))

    -- the paths that are taken in, in the words of the model
    module _ (rs : List Record) (ds : List DepsRecord) (flags : List Bool) (store : Store) (ran : List ℕ) (old files : List Moment) (set : List ℕ → Bool) (may : MayBeJudgedBy graph rs ds flags store ran old files (suc e) set) where
      abbrev edges : List Edge
      edges = (declared_by graph).edges

      abbrev paths : List (List ℕ)
      paths = graph.manifest.paths

      abbrev outs : List ℕ
      outs = (links_of graph).outputs e

      outs_are : map (output_at paths rs ds files) outs ≡ map (output_facts store old) (outputs (edge_at edges (suc e)))
      outs_are =
          outputs_same paths rs ds store old files may.records may.deps outs
          (λ n h. may.untouched (text_at paths n) (ap (λ (l : List (List ℕ)). has l (text_at paths n)) (sym (stands.outputs_are e)) ∙ has_text paths outs n h))
          ∙ ap (map (output_facts store old)) (stands.outputs_are e)

      -- a path that is taken in counts, so that its flag is right
      flagged : (n : ℕ) → n < length paths → has_number (both files) n ≡ true → flag_at flags n ≡ (input_facts edges ran old files (text_at paths n)).changed
      flagged n lt h = may.flagged n lt ((counted files store may.recorded (text_at paths n)).0 (has_text paths (both files) n h))

      all_are : all_inputs graph flags false files regs ++ all_inputs graph flags true files recs ≡ map (input_facts edges ran old files) (texts_at paths (both files))
      all_are =
          ap (λ (l : List InputFacts). l ++ all_inputs graph flags true files recs)
          (taken_inputs graph files flags edges ran old false regs
          (λ n h. flagged n (regs_within n (taken_has graph files false regs n h).0) (has_number-left (taken graph files false regs) (taken graph files true recs) n h)))
          ∙ (ap (λ (l : List InputFacts). map (input_facts edges ran old files) (texts_at paths (taken graph files false regs)) ++ l)
          (taken_inputs graph files flags edges ran old true recs
          (λ n h. flagged n (recs_within n (taken_has graph files true recs n h).0) (has_number-right (taken graph files false regs) (taken graph files true recs) n h)))
          ∙ (sym (map-append (input_facts edges ran old files) (texts_at paths (taken graph files false regs)) (texts_at paths (taken graph files true recs)))
          ∙ ap (map (input_facts edges ran old files)) (sym (map-append (text_at paths) (taken graph files false regs) (taken graph files true recs)))))

    abbrev edge : Edge
    edge = edge_at (declared_by graph).edges (suc e)

    -- what the edge makes, where its outputs keep their files
    module _ (rs : List Record) (ds : List DepsRecord) (store : Store) (old files : List Moment) (set : List ℕ → Bool) (may : MayBeStaleBy graph rs ds store old files (suc e) set) where
      abbrev numbers : List ℕ
      numbers = (links_of graph).outputs e

      is_made : (n : ℕ) → has_number numbers n ≡ true → has (outputs edge) (text_at graph.manifest.paths n) ≡ true
      is_made n h = ap (λ (l : List (List ℕ)). has l (text_at graph.manifest.paths n)) (sym (stands.outputs_are e)) ∙ has_text graph.manifest.paths numbers n h

      made_in : AreIn set graph.manifest.paths numbers
      made_in = are_in set graph.manifest.paths numbers (λ n h. may.made (text_at graph.manifest.paths n) (is_made n h))

      made_are : map (output_at graph.manifest.paths rs ds files) numbers ≡ map (output_facts store old) (outputs edge)
      made_are = outputs_same graph.manifest.paths rs ds store old files may.records may.deps numbers (λ n h. may.untouched (text_at graph.manifest.paths n) (is_made n h))
          ∙ ap (map (output_facts store old)) (stands.outputs_are e)

    is_stale : (rs : List Record) (ds : List DepsRecord) (made : Outputs) (depfile : Bool) (reason : Option Reason) (set : List ℕ → Bool) (files : List Moment)
        → HasOutputs graph edge.act rs ds ((links_of graph).outputs e) made set files → HasDepfile edge.act edge.deps depfile files
        → ((outs : List OutputFacts) → AreOutputs edge.act outs made → is_some (reason_of (facts_for edge depfile outs [])) ≡ true → is_some reason ≡ true)
        → IsStaleFor graph rs ds e reason set files
    is_stale rs ds made depfile reason set files of_outputs of_depfile judged store old may stale =
        judged (map (output_at graph.manifest.paths rs ds files) ((links_of graph).outputs e)) (of_outputs (made_in rs ds store old files set may))
        (ap (λ (r : Option Reason). is_some r)
        (same_reason edge depfile (is_some (file_at old edge.act.depfile)) (λ named unset. of_depfile named unset ∙ ap (λ (f : Option File). is_some f) (may.depfile named))
        (map (output_at graph.manifest.paths rs ds files) ((links_of graph).outputs e)) (map (output_facts store old) (outputs edge)) (made_are rs ds store old files set may) [] [] refl) ∙ stale)

    is_reason : (rs : List Record) (ds : List DepsRecord) (flags : List Bool) (made : Outputs) (inputs : Inputs) (depfile : Bool) (reason : Option Reason) (set : List ℕ → Bool) (files : List Moment)
        → HasOutputs graph edge.act rs ds ((links_of graph).outputs e) made set files → HasInputs graph flags regs e inputs set files → HasDepfile edge.act edge.deps depfile files
        → ((outs : List OutputFacts) (ins : List InputFacts) → AreOutputs edge.act outs made → AreInputs ins inputs → reason ≡ reason_of (facts_for edge depfile outs ins))
        → IsReasonFor graph rs ds flags e reason set files
    is_reason rs ds flags made inputs depfile reason set files of_outputs of_inputs of_depfile judged store ran old may = record {
      read = texts_at graph.manifest.paths (both files);
      counted = counted files store may.recorded;
      is =
          judged (map (output_at graph.manifest.paths rs ds files) ((links_of graph).outputs e)) (all_inputs graph flags false files regs ++ all_inputs graph flags true files recs)
          (of_outputs (outputs_in store may.recorded set may.paths)) (of_inputs (regs_in store may.recorded set may.paths) (recs_in store may.recorded set may.paths))
          ∙ same_reason edge depfile (is_some (file_at old edge.act.depfile)) (λ named unset. of_depfile named unset ∙ ap (λ (f : Option File). is_some f) (may.depfile named))
          (map (output_at graph.manifest.paths rs ds files) ((links_of graph).outputs e)) (map (output_facts store old) (outputs edge)) (outs_are rs ds flags store ran old files set may)
          (all_inputs graph flags false files regs ++ all_inputs graph flags true files recs)
          (map (input_facts (declared_by graph).edges ran old files) (texts_at graph.manifest.paths (both files))) (all_are rs ds flags store ran old files set may);
    }

    -- so it is of all that was taken in
    pub is_answer : (rs : List Record) (ds : List DepsRecord) (flags : List Bool) (made : Outputs) (inputs : Inputs) (depfile : Bool) (reason : Option Reason) (set : List ℕ → Bool) (files : List Moment)
        → HasOutputs graph edge.act rs ds ((links_of graph).outputs e) made set files → HasInputs graph flags regs e inputs set files → HasDepfile edge.act edge.deps depfile files
        → ((outs : List OutputFacts) (ins : List InputFacts) → AreOutputs edge.act outs made → AreInputs ins inputs → reason ≡ reason_of (facts_for edge depfile outs ins))
        → ((outs : List OutputFacts) → AreOutputs edge.act outs made → is_some (reason_of (facts_for edge depfile outs [])) ≡ true → is_some reason ≡ true)
        → IsAnswer graph rs ds flags e reason set files
    is_answer rs ds flags made inputs depfile reason set files of_outputs of_inputs of_depfile judged stale =
        (is_reason rs ds flags made inputs depfile reason set files of_outputs of_inputs of_depfile judged, is_stale rs ds made depfile reason set files of_outputs of_depfile stale)
