-- Reading build files, and what a build of them would report.
use Rattle.std.proofs.Common.{◌≡◌, inl, inr, ℕ, Bool, IsTrue, List, [], ◌++◌, OnOk, IfErr, IsErrAnd, Result, Ok, Err, refl, sym, ap, ◌∙◌, subst, append-nil, arith}
use Rattle.model.specs.declared.act.Act.{Act}
use Rattle.std.specs.Result.{IsErrOf}
use Rattle.std.proofs.lemmas.Bool.{false≢true}
use Rattle.model.specs.declared.fault.SiteFault.TheVariants.{Device, Memory}
use Rattle.model.specs.declared.graph.BuildGraph.{BuildGraph}
use Rattle.model.specs.declared.outcome.Outcome.{Outcome}
use Rattle.model.specs.Calls.{HasCause, OnlyLooks}
use Rattle.model.specs.Graph.{IsMadeOnce}
use Rattle.model.specs.SingleBuild.{NamesOther}
use Rattle.model.specs.World.{View, World}
use Rattle.theory.specs.Seen.{Looked}
use Rattle.theory.proofs.SiteCalls.{unrefused_call}
use Rattle.paths.specs.declared.manifest.Manifest.{Manifest}
use Rattle.paths.specs.Told.{graph_of}
use Rattle.graph.specs.declared.graph.Graph.{Graph}
use Rattle.graph.specs.Told.{declared_by, recorded_by}
use Rattle.manifest.specs.declared.described.Described.{Described}
use Rattle.manifest.specs.declared.fault.ReadError.{ReadError}
use Rattle.manifest.specs.declared.fault.ReadError.TheVariants as read
use Rattle.manifest.specs.Answer.{IsGraph, ReadsFile, site_part}
use Rattle.tools.specs.declared.declared.Declared.{Declared}
use Rattle.builder.specs.Asked.{AreTargets, IsFolder}
use Rattle.builder.specs.Build.{Builds}
use Rattle.work.specs.Ends.{unread}
use Rattle.builder.specs.Parts.{IsReportOfNoGraph}
use Rattle.work.specs.declared.report.Report.{Report}
use Rattle.work.specs.declared.report.Report.TheVariants.{Fault}
use Rattle.stand_in.specs.Moves.{WasReadHere, WasUnreadAlone, WasUnreadHere}

-- what the site has part in, whatever was read
site_cause : (T U : Type 0) (old new : World) (error : ReadError) → HasCause old new (site_part {T = T} (Err error)) → HasCause old new (site_part {T = U} (Err error))
site_cause T U old new read.Memory cause = cause
site_cause T U old new (read.Site fault) cause = cause
site_cause T U old new (read.Refused fault) cause = cause

if_no_fault : (T P : Type 0) (error : ReadError) → P → OnOk (site_part {T = T} (Err error)) P
if_no_fault T P read.Memory is = is
if_no_fault T P (read.Site fault) is = tt
if_no_fault T P (read.Refused fault) is = is

no_targets : AreTargets [] []
no_targets = tt

module _ (tells : Bool) (outcome : Act → View → Outcome) (name : List ℕ) (old new : World) (looks : OnlyLooks tells old new) where
  -- the files were not read
  pub unread_here : (error : ReadError) (report : Report) → report ≡ unread error → HasCause old new (site_part {T = Manifest} (Err error)) → (IsTrue tells → ReadsFile name old.history new.history (Err error)) → WasUnreadHere tells outcome name old new report
  unread_here error report is cause file = λ idle limits.
      inl record { error = error; is = is; looks = looks; cause = site_cause Manifest BuildGraph old new error cause; file = λ tell. if_no_fault BuildGraph (ReadsFile name old.history new.history (Err error)) error (file tell) }

  -- they were, and there was no memory for what came behind that
  pub unread_memory : (report : Report) → report ≡ Fault Memory → HasCause {T = Unit {0}} old new (Ok tt) → WasUnreadHere tells outcome name old new report
  unread_memory report is cause = λ idle limits. inl record { error = read.Memory; is = is; looks = looks; cause = cause; file = λ tell. tt }

  module _ (manifest : Manifest) (formed : IsGraph (graph_of manifest)) (file : IsTrue tells → ReadsFile name old.history new.history (Ok (graph_of manifest))) (cause : HasCause {T = Unit {0}} old new (Ok tt)) where
    looked : Looked tells old new
    looked = record { looks = looks; unrefused = unrefused_call old new tt cause }

    -- its edges make no graph
    pub unread_graph : (folder : List ℕ) (told report : Report) → IsFolder manifest.builddir folder → IsReportOfNoGraph folder manifest told → report ≡ told → WasUnreadHere tells outcome name old new report
    unread_graph folder told report in_folder no_graph is = λ idle limits.
        inr record {
          graph = graph_of manifest;
          formed = formed;
          file = record { read = new; looked = looked; file = file; since = λ tell. ([], sym (append-nil new.history)) };
          targets = [];
          canonical = no_targets;
          folder = folder;
          in_folder = in_folder;
          grown = (graph_of manifest).edges;
          builds = λ own format depfile dyndep depfiles dyndeps reads owned.
              subst (λ (r : Report). Builds tells (record { outcome = outcome; depfile = depfile; dyndep = dyndep }) format own (graph_of manifest) folder limits [] [] (graph_of manifest).edges old new r) (sym is)
              (no_graph tells (record { outcome = outcome; depfile = depfile; dyndep = dyndep }) format own limits [] [] old new idle looked);
        }

    -- they make one, of which nothing is recorded
    pub read_graph : (graph : Graph) (described : Described) → graph.manifest ≡ manifest → IsMadeOnce (graph_of manifest).edges → ((path : List ℕ) → NamesOther (graph_of manifest).edges path → ⊥) → ((i : ℕ) → recorded_by graph i ≡ [])
        → WasReadHere tells name old new (record { graph = graph; described = described })
    read_graph graph described is once inputs recorded = record {
      formed = subst (λ (m : Manifest). IsGraph (graph_of m)) (sym is) formed;
      linked = record {
        once = subst (λ (m : Manifest). IsMadeOnce (graph_of m).edges) (sym is) once;
        inputs = subst (λ (m : Manifest). (path : List ℕ) → NamesOther (graph_of m).edges path → ⊥) (sym is) inputs;
        unrecorded = recorded;
      };
      file = subst (λ (m : Manifest). IsTrue tells → ReadsFile name old.history new.history (Ok (graph_of m))) (sym is) file;
      looked = looked;
    }

-- what is passed on says the same
pub unread_by : {T : Type 0} {tells : Bool} {outcome : Act → View → Outcome} {name : List ℕ} {old new : World} {report : Report} (r : Result T Report) → WasUnreadHere tells outcome name old new report → IsErrAnd r (λ (told : Report). told ≡ report) → IfErr r (WasUnreadHere tells outcome name old new)
unread_by (Ok value) is passed = tt
unread_by {tells = tells} {outcome = outcome} {name = name} {old = old} {new = new} (Err told) is passed = subst (λ (r : Report). WasUnreadHere tells outcome name old new r) (sym passed) is

-- the files were read, and there was no memory for what came behind that
pub unread_since : (tells : Bool) (outcome : Act → View → Outcome) (name : List ℕ) (old new : World) (declared : Declared) (report : Report) → WasReadHere tells name old new declared → report ≡ Fault Memory → WasUnreadHere tells outcome name old new report
unread_since tells outcome name old new declared report was is = unread_memory tells outcome name old new was.looked.looks report is
    (record {
      grows = let same = was.looked.unrefused.failures in omega (arith, same);
      device = λ refused. absurd (no_error refused);
      others = λ other. was.looked.unrefused.failures;
      stopped = was.looked.unrefused.goes_on;
      after_stop = λ stopped. absurd (false≢true (sym was.looked.unrefused.began ∙ stopped));
      earlier = was.looked.unrefused.earlier;
    })
  where
    no_error : IsErrOf {T = Unit {0}} (Ok tt) Device → ⊥
    no_error refused = cc

pub unread_alone : {T : Type 0} (tells : Bool) (outcome : Act → View → Outcome) (name : List ℕ) (old entry new : World) (declared : Declared) (r : Result T Report) → OnlyLooks tells old entry → WasReadHere tells name entry new declared → IsErrAnd r (λ (told : Report). told ≡ Fault Memory)
    → IfErr r (WasUnreadAlone tells outcome name old new)
unread_alone tells outcome name old entry new declared (Ok value) before was passed = tt
unread_alone tells outcome name old entry new declared (Err report) before was passed = (entry, before, unread_since tells outcome name entry new declared report was passed)
