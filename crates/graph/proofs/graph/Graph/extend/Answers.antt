use Rattle.std.proofs.Common.{◌≡◌, ◌∙◌, ◌<◌, ℕ, List, Option, map, refl, sym, ap, subst, length, get_or, arith}
use Rattle.std.specs.Prelude.{All}
use Rattle.paths.specs.declared.manifest.Action.{Action}
use Rattle.paths.specs.Told.{texts_at}
use Rattle.graph.specs.declared.back.LoadedEdge.{LoadedEdge}
use Rattle.graph.specs.declared.choice.Choice.{Choice}
use Rattle.graph.specs.declared.loaded.Parts.{Parts}
use Rattle.graph.specs.Chosen.{chosen_edges, choice_in, AreRising, IsWithin}
use Rattle.graph.specs.Extended.{addition_of}
use Rattle.graph.specs.Gains.{HaveGainedBy, HaveGrown}
use Rattle.graph.specs.Held.{AreMakers, AreUsers, StandOnce}
use Rattle.graph.specs.LoadedEdges.{numbers_in}
use Rattle.graph.specs.InTurn.{AreGivenTo}
use Rattle.graph.specs.Statements.{AreChosen, AreGrownLines, AreLoadedActions}
use Rattle.graph.specs.Back.{loaded_all, AreLoadedEdges}
use Rattle.graph.proofs.Ends.{none_twice}
use Rattle.graph.proofs.Lone.{grown_alone}
use Rattle.graph.proofs.Extending.{is_grown, dyndeps_loaded, recorded_loaded, recorded_same, by_number, defaults_same, refused}
use Rattle.graph.proofs.Same.{same_graph, same_manifest}
use Rattle.graph.proofs.TakingBack.{undone_by, loaded_are, paths_back}
use Rattle.graph.proofs.Undoing.{loaded_each, loaded_once}
use Rattle.graph.proofs.graph.Graph.extend.Goals as goal

pub loaded_edges-requires : goal.loaded_edges-requires
loaded_edges-requires c k d low =
    let graph = c.args.self.now in
    let within : All (IsWithin (length graph.manifest.lines) (length c.args.additions.now)) c.deref.result.now =
    subst (All (IsWithin (length graph.manifest.lines) (length c.args.additions.now))) (sym {A = List Choice} c.deref.ensures.value) c.in_ok-chosen.ensures.within in
    let edge = (within k d low).edge in
    let fits = graph.manifest.fits in
    subst (λ (l : List Action). (get_or c.deref.result.now k d).edge < length l) (sym {A = List Action} c.as_slice.ensures) (omega (arith, edge, fits))

pub load-requires-clause-makers : goal.load-requires-clause-makers
load-requires-clause-makers c = subst (AreMakers c.args.self.now.manifest) (sym {A = List (Option ℕ)} c.replace-makers.ensures.value) c.args.self.now.making

pub load-requires-clause-users : goal.load-requires-clause-users
load-requires-clause-users c =
    let graph = c.args.self.now in
    (graph.recorded, graph.recording, subst (AreUsers graph.manifest graph.recorded) (sym {A = List (List ℕ)} c.replace-users.ensures.value) graph.using)

pub load-requires-clause-rising : goal.load-requires-clause-rising
load-requires-clause-rising c = subst (λ (l : List Choice). AreRising (chosen_edges l)) (sym {A = List Choice} c.deref-2.ensures.value) c.in_ok-chosen.ensures.rising

pub load-requires-clause-within : goal.load-requires-clause-within
load-requires-clause-within c =
    let graph = c.args.self.now in
    subst (All (IsWithin (length graph.manifest.lines) (length c.args.additions.now))) (sym {A = List Choice} c.deref-2.ensures.value) c.in_ok-chosen.ensures.within

pub invariant_of-self : goal.invariant_of-self
invariant_of-self c =
    let graph = c.args.self.now in
    let now = c.load.new.manifest in
    let loaded = c.in-Ok.ensures.loaded in
    record {
      apart = c.in-Ok.ensures.apart;
      making = c.in-Ok.ensures.makers;
      dyndeps = dyndeps_loaded graph (map addition_of c.args.additions.now) (choice_in c.deref-2.result.now) loaded.gains now.lines now.actions loaded.lines loaded.actions;
      recording = recorded_loaded graph now loaded.paths loaded.lines.fits;
      using = c.in-Ok.ensures.users graph.recorded graph.recording (subst (AreUsers graph.manifest graph.recorded) (sym {A = List (List ℕ)} c.replace-users.ensures.value) graph.using);
    }

pub returns-in-Ok-clause-loaded : goal.returns-in-Ok-clause-loaded
returns-in-Ok-clause-loaded c =
    let graph = c.args.self.now in
    let now = c.load.new.manifest in
    let loaded = c.in-Ok.ensures.loaded in
    let additions = map addition_of c.args.additions.now in
    let once = none_twice graph.manifest graph.makers graph.making graph.apart in
    let are : AreChosen graph c.args.file additions (choice_in c.deref-2.result.now) =
    subst (λ (l : List Choice). AreChosen graph c.args.file additions (choice_in l)) (sym {A = List Choice} c.deref-2.ensures.value) c.in_ok-chosen.ensures.chosen in
    record {
      grown = is_grown graph once c.args.file c.requires additions (choice_in c.deref-2.result.now) are now.paths loaded.paths loaded.gains loaded.gained now.lines loaded.lines now.actions loaded.actions;
      once = none_twice now c.load.new.parts.makers c.in-Ok.ensures.makers c.in-Ok.ensures.apart;
      pools = loaded.pools;
      defaults = ap (texts_at now.paths) loaded.defaults ∙ defaults_same graph now.paths loaded.paths;
      builddir = loaded.builddir;
      lines = loaded.lines.fits;
      added = loaded.paths.added;
      paths = loaded.paths.grows;
      named = loaded.named;
      numbers = refl;
      recorded = by_number _ _ refl (recorded_same graph now.paths loaded.paths);
    }

pub returns-in-Ok-clause-before : goal.returns-in-Ok-clause-before
returns-in-Ok-clause-before c =
    let graph = c.args.self.now in
    let now = c.load.new.manifest in
    let loaded = c.in-Ok.ensures.loaded in
    let additions = map addition_of c.args.additions.now in
    let chosen = c.in_ok-chosen.chosen.items in
    let edges = c.in_ok-edges.edges.items in
    let are : AreChosen graph c.args.file additions (choice_in chosen) = c.in_ok-chosen.ensures.chosen in
    let actions : AreLoadedActions graph.manifest.actions (choice_in chosen) additions now.actions =
    subst (λ (l : List Choice). AreLoadedActions graph.manifest.actions (choice_in l) additions now.actions) c.deref-2.ensures.value loaded.actions in
    let are_edges : edges ≡ loaded_all graph.manifest.actions chosen = c.in_ok-edges.ensures ∙ (ap (loaded_all c.as_slice.result.now) c.deref.ensures.value ∙ ap (λ (l : List Action). loaded_all l chosen) c.as_slice.ensures) in
    let kept : AreLoadedEdges graph.manifest.actions (choice_in chosen) edges =
    subst (AreLoadedEdges graph.manifest.actions (choice_in chosen)) (sym {A = List LoadedEdge} are_edges) (loaded_each graph.manifest.actions chosen c.in_ok-chosen.ensures.rising) in
    record {
      manifest = record {
        lines = subst (λ (l : List Choice). AreGivenTo c.in-Ok.gains.items l graph.manifest.lines now.lines) c.deref-2.ensures.value c.in-Ok.ensures.given;
        paths = c.len-known.ensures.count;
        more = loaded.paths;
        actions = undone_by graph c.args.file c.requires additions (choice_in chosen) are edges kept now.actions actions;
        named = loaded.named;
        pools = loaded.pools;
        defaults = loaded.defaults;
        builddir = loaded.builddir;
      };
      of = refl;
      makers = c.len-made.ensures;
      gained = subst (λ (l : List Choice). HaveGainedBy c.in-Ok.gains.items l graph.makers c.load.new.parts.makers) c.deref-2.ensures.value
          (subst (λ (l : List (Option ℕ)). HaveGainedBy c.in-Ok.gains.items c.deref-2.result.now l c.load.new.parts.makers) c.replace-makers.ensures.value c.in-Ok.ensures.gained);
      outputs = c.in-Ok.ensures.outputs;
      users = subst (λ (l : List Choice). HaveGrown c.in-Ok.gains.items l graph.users c.load.new.parts.users) c.deref-2.ensures.value
          (subst (λ (l : List (List ℕ)). HaveGrown c.in-Ok.gains.items c.deref-2.result.now l c.load.new.parts.users) c.replace-users.ensures.value c.in-Ok.ensures.grown);
      inputs = c.in-Ok.ensures.inputs;
      once = subst (λ (l : List LoadedEdge). StandOnce (numbers_in l)) (sym {A = List LoadedEdge} are_edges) (loaded_once graph.manifest.actions chosen c.in_ok-chosen.ensures.rising);
      recorded = refl;
      edges = loaded_are graph c.args.file c.requires additions (choice_in chosen) are edges kept;
    }

pub returns-in-Ok-clause-alone : goal.returns-in-Ok-clause-alone
returns-in-Ok-clause-alone c =
    let graph = c.args.self.now in
    let now = c.load.new.manifest in
    let loaded = c.in-Ok.ensures.loaded in
    let additions = map addition_of c.args.additions.now in
    let chosen = c.in_ok-chosen.chosen.items in
    let edges = c.in_ok-edges.edges.items in
    let are : AreChosen graph c.args.file additions (choice_in chosen) = c.in_ok-chosen.ensures.chosen in
    let lines : AreGrownLines graph.manifest.lines (choice_in chosen) loaded.gains now.lines =
    subst (λ (l : List Choice). AreGrownLines graph.manifest.lines (choice_in l) loaded.gains now.lines) c.deref-2.ensures.value loaded.lines in
    let actions : AreLoadedActions graph.manifest.actions (choice_in chosen) additions now.actions =
    subst (λ (l : List Choice). AreLoadedActions graph.manifest.actions (choice_in l) additions now.actions) c.deref-2.ensures.value loaded.actions in
    let are_edges : edges ≡ loaded_all graph.manifest.actions chosen = c.in_ok-edges.ensures ∙ (ap (loaded_all c.as_slice.result.now) c.deref.ensures.value ∙ ap (λ (l : List Action). loaded_all l chosen) c.as_slice.ensures) in
    let kept : AreLoadedEdges graph.manifest.actions (choice_in chosen) edges =
    subst (AreLoadedEdges graph.manifest.actions (choice_in chosen)) (sym {A = List LoadedEdge} are_edges) (loaded_each graph.manifest.actions chosen c.in_ok-chosen.ensures.rising) in
    grown_alone graph _ c.args.file additions (choice_in chosen) loaded.gains edges lines actions kept (loaded_are graph c.args.file c.requires additions (choice_in chosen) are edges kept) refl

pub returns-in-Err-clause-fault : goal.returns-in-Err-clause-fault
returns-in-Err-clause-fault c =
    let graph = c.args.self.now in
    let additions = map addition_of c.args.additions.now in
    let once = none_twice graph.manifest graph.makers graph.making graph.apart in
    let are : AreChosen graph c.args.file additions (choice_in c.deref-2.result.now) =
    subst (λ (l : List Choice). AreChosen graph c.args.file additions (choice_in l)) (sym {A = List Choice} c.deref-2.ensures.value) c.in_ok-chosen.ensures.chosen in
    refused graph once c.args.file c.requires additions (choice_in c.deref-2.result.now) are c.in-Err.fault c.in-Err.ensures.fault

pub returns-in-Err-clause-err : goal.returns-in-Err-clause-err
returns-in-Err-clause-err c =
    let graph = c.args.self.now in
    let more = c.in-Err.ensures.err in
    same_graph _ graph record {
      manifest = same_manifest _ graph.manifest record {
        paths = c.truncate.ensures ∙ paths_back graph.manifest.paths c.load.new.manifest.paths c.len-known.result more.paths c.len-known.ensures.count;
        named = more.named;
        lines = more.lines;
        actions = more.actions;
        pools = more.pools;
        defaults = more.defaults;
        builddir = more.builddir;
      };
      makers = ap (λ (p : Parts). p.makers) c.in-Err.ensures.kept ∙ c.replace-makers.ensures.value;
      recorded = refl;
      users = ap (λ (p : Parts). p.users) c.in-Err.ensures.kept ∙ c.replace-users.ensures.value;
    }
