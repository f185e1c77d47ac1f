-- What a success leaves to do: of an edge that was judged clean nothing.
use Rattle.std.proofs.Common.{◌≡◌, ◌⊎◌, ◌↔◌, ℕ, ◌&&◌, cond, Bool, true, false, IsTrue, List, [], ◌∷◌, ◌++◌, map, Option, Some, None, is_some, bytes_eq, refl, sym, ◌∙◌, ap, subst}
use Rattle.std.specs.List.{list_all}
use Rattle.std.proofs.lemmas.Bool.{false_from_ne_true, or_left, or_right}
use Rattle.model.specs.declared.act.Act.{Act}
use Rattle.model.specs.declared.graph.Deps.{Deps}
use Rattle.model.specs.declared.graph.Edge.{Edge}
use Rattle.model.specs.declared.reason.Reason.{Reason}
use Rattle.model.specs.declared.record.DepsRecord.{DepsRecord}
use Rattle.model.specs.World.{World, File, file_at, stamp_of, view_of, IsIdle}
use Rattle.model.specs.Graph.{has, has_number, edge_at, maker, outputs, IsMadeOnce}
use Rattle.model.specs.Outcome.{Behaviour}
use Rattle.model.specs.Reading.{IsRead}
use Rattle.model.specs.Records.{Told, Store, LogFormat, OwnFiles, Made, in_force, deps_in_force, is_known, paths_in, all_paths_in, recorded_inputs}
use Rattle.model.specs.Judgement.{OutputFacts, InputFacts, is_same_number, holds, all_reasons, reason_of}
use Rattle.model.specs.OutOfDate.{deps_start, output_facts, is_made_anew, input_facts, facts_of, IsVerdict}
use Rattle.model.specs.Schedule.{Step, clean_in, started_in, out_of_date_in}
use Rattle.model.specs.Premises.{FilesAreKept}
use Rattle.model.specs.SingleBuild.{Asked, task_of}
use Rattle.theory.specs.Run.{IsRunOrRest}
use Rattle.theory.proofs.Lists.{all_has, bytes_same, map_same}
use Rattle.theory.proofs.Makers.{one_maker}
use Rattle.theory.proofs.Orderly.{IsKept, kept_orderly}
use Rattle.theory.specs.Logged.{IsLogged}
use Rattle.theory.proofs.Verdicts.{any_none, none_holds}
use Rattle.theory.proofs.Explained.{some_or_none}
use Rattle.theory.proofs.Kept.{clean_stays, depfile_stays}
use Rattle.theory.proofs.Recorded.{kept_both}

-- ---- recorded inputs of stores that tell the same

all_same : (f g : List ℕ → Bool) (ps : List (List ℕ)) → ((p : List ℕ) → has ps p ≡ true → f p ≡ g p) → list_all f ps ≡ list_all g ps
all_same f g [] same = refl
all_same f g (p ∷ ps) same =
    ap (λ (b : Bool). b && list_all f ps) (same p (or_left (bytes_eq p p) (has ps p) (bytes_same p)))
    ∙ ap (λ (b : Bool). g p && b) (all_same f g ps (λ q h. same q (or_right (bytes_eq p q) (has ps q) h)))

paths_same : (few many : List DepsRecord) (outs : List (List ℕ)) → ((o : List ℕ) → has outs o ≡ true → deps_in_force many o ≡ deps_in_force few o) → all_paths_in many outs ≡ all_paths_in few outs
paths_same few many [] same = refl
paths_same few many (o ∷ outs) same =
    ap (λ (found : Option Told). paths_in found ++ all_paths_in many outs) (same o (or_left (bytes_eq o o) (has outs o) (bytes_same o)))
    ∙ ap (λ (ps : List (List ℕ)). paths_in (deps_in_force few o) ++ ps) (paths_same few many outs (λ q h. same q (or_right (bytes_eq o q) (has outs q) h)))

recorded_same : (few many : Store) (edges : List Edge) (i : ℕ) → ((o : List ℕ) → has (outputs (edge_at edges i)) o ≡ true → (in_force many.records o ≡ in_force few.records o) × (deps_in_force many.deps o ≡ deps_in_force few.deps o))
    → recorded_inputs many edges i ≡ recorded_inputs few edges i
recorded_same few many edges i same =
    ap (λ (ps : List (List ℕ)). cond (edge_at edges i).phony [] (cond (is_some (edge_at edges i).dyndep) [] ps))
    (ap (λ (b : Bool). cond b (all_paths_in many.deps (outputs (edge_at edges i))) [])
    (all_same (λ o. is_known (edge_at edges i).act (in_force many.records o) (deps_in_force many.deps o)) (λ o. is_known (edge_at edges i).act (in_force few.records o) (deps_in_force few.deps o)) (outputs (edge_at edges i))
    (λ o h. ap (λ (m : Option Made). is_known (edge_at edges i).act m (deps_in_force many.deps o)) (same o h).0 ∙ ap (λ (d : Option Told). is_known (edge_at edges i).act (in_force few.records o) d) (same o h).1))
    ∙ ap (λ (ps : List (List ℕ)). cond (list_all (λ o. is_known (edge_at edges i).act (in_force few.records o) (deps_in_force few.deps o)) (outputs (edge_at edges i))) ps [])
    (paths_same few.deps many.deps (outputs (edge_at edges i)) (λ o h. (same o h).1)))

-- ---- where nothing counts as run, nothing was made anew

pub anew_none : (edges : List Edge) (same : Bool) (m : Option ℕ) → is_made_anew edges [] same m ≡ false
anew_none edges same None = refl
anew_none edges same (Some j) = refl

-- whether a depfile is there does not matter to an act that names none
no_depfile : (act : Act) (restat : Bool) (deps : Deps) (a b : Bool) (outs : List OutputFacts) (ins : List InputFacts) → act.depfile ≡ []
    → reason_of (record { act = act; restat = restat; deps = deps; depfile = a; outputs = outs; inputs = ins }) ≡ reason_of (record { act = act; restat = restat; deps = deps; depfile = b; outputs = outs; inputs = ins })
no_depfile act restat deps a b outs ins none = rw none refl

module _ (tells : Bool) (B : Behaviour) (format : LogFormat) (own : OwnFiles) (asked : Asked) (entry exit : Store) (steps : List Step) (old now : World)
    (tell : IsTrue tells) (idle : IsIdle old.events) (rest : IsRunOrRest tells own (task_of asked entry) steps old now) (once : IsMadeOnce asked.graph.edges)
    (files : FilesAreKept own asked.graph.edges old.history now.history) (logged : IsLogged B asked.graph.edges steps None entry exit old now) where
  all : IsKept asked.graph.edges steps
  all = kept_orderly asked.graph.edges steps rest.orderly

  none_some : (i : ℕ) → None ≡ Some i → ⊥
  none_some i is = cc

  -- an edge that was judged clean keeps its records
  clean_records : (i : ℕ) → has_number (clean_in steps) i ≡ true → (o : List ℕ) → has (outputs (edge_at asked.graph.edges i)) o ≡ true → (in_force exit.records o ≡ in_force entry.records o) × (deps_in_force exit.deps o ≡ deps_in_force entry.deps o)
  clean_records i clean o makes = kept_both tells B format own asked entry exit steps None old now tell idle rest once logged o (λ k also. (
    false_from_ne_true (has_number (started_in steps) k) (λ started. all.apart i clean
        (subst (λ (n : ℕ). has_number (out_of_date_in steps) n ≡ true) (one_maker asked.graph.edges o k i once also makes) (all.started k started))),
    none_some k,
  ))

  -- it is clean by the records and the files of the exit
  pub clean_left : (i : ℕ) (ran : List ℕ) → has_number (clean_in steps) i ≡ true → IsVerdict asked.graph.edges entry ran old.history now.history i false → IsVerdict asked.graph.edges exit [] now.history now.history i false
  clean_left i ran clean verdict = record {
    read = verdict.read;
    counted = λ p. subst (λ (ps : List (List ℕ)). (has verdict.read p ≡ true) ↔ (IsRead asked.graph.edges (view_of now.history) i p ⊎ (has ps p ≡ true))) (sym (recorded_same entry exit asked.graph.edges i (clean_records i clean))) (verdict.counted p);
    verdict = verdict.verdict ∙ ap (λ (r : Option Reason). is_some r) (same_outputs ∙ (same_inputs ∙ same_depfile));
  }
    where
      e : Edge
      e = edge_at asked.graph.edges i

      changed : (p : List ℕ) → has verdict.read p ≡ true → (input_facts asked.graph.edges ran old.history now.history p).changed ≡ false
      changed p h = all_has (λ x. (input_facts asked.graph.edges ran old.history now.history x).changed ≡ false) verdict.read p
          (any_none (λ (x : InputFacts). x.changed) (input_facts asked.graph.edges ran old.history now.history) verdict.read
          (none_holds (λ reason. holds (facts_of asked.graph.edges entry ran old.history now.history i verdict.read) reason) all_reasons (sym verdict.verdict)).1.1.1.1.0) h

      same_outputs : reason_of (facts_of asked.graph.edges entry ran old.history now.history i verdict.read) ≡ reason_of (record {
        act = (edge_at asked.graph.edges i).act;
        restat = (edge_at asked.graph.edges i).restat;
        deps = (edge_at asked.graph.edges i).deps;
        depfile = is_some (file_at old.history (edge_at asked.graph.edges i).act.depfile);
        outputs = map (output_facts exit now.history) (outputs (edge_at asked.graph.edges i));
        inputs = map (input_facts asked.graph.edges ran old.history now.history) verdict.read;
      })
      same_outputs = ap (λ (os : List OutputFacts). reason_of (record {
        act = (edge_at asked.graph.edges i).act;
        restat = (edge_at asked.graph.edges i).restat;
        deps = (edge_at asked.graph.edges i).deps;
        depfile = is_some (file_at old.history (edge_at asked.graph.edges i).act.depfile);
        outputs = os;
        inputs = map (input_facts asked.graph.edges ran old.history now.history) verdict.read;
      })) (map_same (output_facts entry old.history) (output_facts exit now.history) (outputs (edge_at asked.graph.edges i)) (λ o makes.
          let both = clean_records i clean o makes in
          ap (λ (f : Option File). record { stamp = stamp_of f; made = in_force entry.records o; deps_start = deps_start (deps_in_force entry.deps o) }) (sym (clean_stays tells own (task_of asked entry) steps old now idle rest tell once files i o clean makes))
          ∙ (ap (λ (m : Option Made). record { stamp = stamp_of (file_at now.history o); made = m; deps_start = deps_start (deps_in_force entry.deps o) }) (sym both.0)
          ∙ ap (λ (d : Option Told). record { stamp = stamp_of (file_at now.history o); made = in_force exit.records o; deps_start = deps_start d }) (sym both.1))))

      same_inputs : reason_of (record {
        act = (edge_at asked.graph.edges i).act;
        restat = (edge_at asked.graph.edges i).restat;
        deps = (edge_at asked.graph.edges i).deps;
        depfile = is_some (file_at old.history (edge_at asked.graph.edges i).act.depfile);
        outputs = map (output_facts exit now.history) (outputs (edge_at asked.graph.edges i));
        inputs = map (input_facts asked.graph.edges ran old.history now.history) verdict.read;
      }) ≡ reason_of (record {
        act = (edge_at asked.graph.edges i).act;
        restat = (edge_at asked.graph.edges i).restat;
        deps = (edge_at asked.graph.edges i).deps;
        depfile = is_some (file_at old.history (edge_at asked.graph.edges i).act.depfile);
        outputs = map (output_facts exit now.history) (outputs (edge_at asked.graph.edges i));
        inputs = map (input_facts asked.graph.edges [] now.history now.history) verdict.read;
      })
      same_inputs = ap (λ (is : List InputFacts). reason_of (record {
        act = (edge_at asked.graph.edges i).act;
        restat = (edge_at asked.graph.edges i).restat;
        deps = (edge_at asked.graph.edges i).deps;
        depfile = is_some (file_at old.history (edge_at asked.graph.edges i).act.depfile);
        outputs = map (output_facts exit now.history) (outputs (edge_at asked.graph.edges i));
        inputs = is;
      })) (map_same (input_facts asked.graph.edges ran old.history now.history) (input_facts asked.graph.edges [] now.history now.history) verdict.read (λ p h.
          ap (λ (b : Bool). record { stamp = stamp_of (file_at now.history p); changed = b })
          (changed p h ∙ sym (anew_none asked.graph.edges (is_same_number (stamp_of (file_at now.history p)) (stamp_of (file_at now.history p))) (maker asked.graph.edges p)))))

      same_depfile : reason_of (record {
        act = (edge_at asked.graph.edges i).act;
        restat = (edge_at asked.graph.edges i).restat;
        deps = (edge_at asked.graph.edges i).deps;
        depfile = is_some (file_at old.history (edge_at asked.graph.edges i).act.depfile);
        outputs = map (output_facts exit now.history) (outputs (edge_at asked.graph.edges i));
        inputs = map (input_facts asked.graph.edges [] now.history now.history) verdict.read;
      }) ≡ reason_of (facts_of asked.graph.edges exit [] now.history now.history i verdict.read)
      same_depfile = some_or_none (edge_at asked.graph.edges i).act.depfile
          (λ none. no_depfile (edge_at asked.graph.edges i).act (edge_at asked.graph.edges i).restat (edge_at asked.graph.edges i).deps (is_some (file_at old.history (edge_at asked.graph.edges i).act.depfile)) (is_some (file_at now.history (edge_at asked.graph.edges i).act.depfile))
          (map (output_facts exit now.history) (outputs (edge_at asked.graph.edges i))) (map (input_facts asked.graph.edges [] now.history now.history) verdict.read) none)
          (λ some. ap (λ (f : Option File). reason_of (record {
            act = (edge_at asked.graph.edges i).act;
            restat = (edge_at asked.graph.edges i).restat;
            deps = (edge_at asked.graph.edges i).deps;
            depfile = is_some f;
            outputs = map (output_facts exit now.history) (outputs (edge_at asked.graph.edges i));
            inputs = map (input_facts asked.graph.edges [] now.history now.history) verdict.read;
          })) (sym (depfile_stays tells own (task_of asked entry) steps old now idle rest tell once files i (all.judged i (all.clean i clean)) some (λ out. all.apart i clean out))))
