use Rattle.std.proofs.Common.{◌≡◌, ◌∙◌, ◌<◌, ◌≤◌, ◌++◌, ℕ, List, take, drop, sym, ap, subst, length, arith}
use Rattle.paths.specs.declared.line.Line.{Line}
use Rattle.paths.specs.declared.manifest.Action.{Action}
use Rattle.paths.specs.declared.manifest.Manifest.{Manifest}
use Rattle.graph.specs.declared.back.LoadedEdge.{LoadedEdge}
use Rattle.graph.specs.declared.choice.Choice.{Choice}
use Rattle.graph.specs.declared.loaded.Gain.{Gain}
use Rattle.graph.specs.Back.{AreUndoneBy, IsManifestBefore}
use Rattle.graph.specs.InTurn.{AreGivenTo}
use Rattle.graph.proofs.TakingBack.{paths_back, actions_back}
use Rattle.graph.proofs.Same.{HaveSameParts, Parts, parts_of, same_manifest, held_for}
use Rattle.graph.proofs.back.restore.Goals as goal

pub shrink_lines-requires : goal.shrink_lines-requires
shrink_lines-requires c = (
  c.requires.0.lines,
  subst (λ (l : List Choice). AreGivenTo c.deref-2.result.now l c.requires.0.lines c.args.manifest.now.lines) (sym {A = List Choice} c.deref.ensures.value)
      (subst (λ (l : List Gain). AreGivenTo l c.args.before.now.chosen.items c.requires.0.lines c.args.manifest.now.lines) (sym {A = List Gain} c.deref-2.ensures.value) c.requires.1.lines),
)

pub unload-requires : goal.unload-requires
unload-requires c = (
  c.requires.0.actions,
  subst (λ (l : List LoadedEdge). AreUndoneBy c.args.before.now.file l c.deref_mut.result.now c.requires.0.actions) (sym {A = List LoadedEdge} c.deref-3.ensures.value)
      (subst (λ (l : List Action). AreUndoneBy c.args.before.now.file c.args.before.now.edges.items l c.requires.0.actions) (sym {A = List Action} (c.deref_mut.ensures.value ∙ (c.into_vec-actions.ensures ∙ c.replace.ensures.value))) c.requires.1.actions),
)

pub returns : goal.returns
returns c was is =
    let first : c.deref_mut.result.now ≡ c.args.manifest.now.actions = c.deref_mut.ensures.value ∙ (c.into_vec-actions.ensures ∙ c.replace.ensures.value) in
    let undone : c.unload.new.actions ≡ was.actions =
    c.unload.ensures was.actions (subst (λ (l : List LoadedEdge). AreUndoneBy c.args.before.now.file l c.deref_mut.result.now was.actions) (sym {A = List LoadedEdge} c.deref-3.ensures.value)
    (subst (λ (l : List Action). AreUndoneBy c.args.before.now.file c.args.before.now.edges.items l was.actions) (sym {A = List Action} first) is.actions)) in
    let vec = c.into_vec-actions.result in
    let size : length c.unload.new.actions ≡ length vec.items = ap length undone ∙ (is.actions.fits ∙ ap length (sym {A = List Action} (c.into_vec-actions.ensures ∙ c.replace.ensures.value))) in
    same_manifest _ was record {
      paths = c.truncate.ensures ∙ paths_back was.paths c.args.manifest.now.paths c.args.before.now.paths is.more is.paths;
      named = is.named;
      lines = c.shrink_lines.ensures was.lines
          (subst (λ (l : List Choice). AreGivenTo c.deref-2.result.now l was.lines c.args.manifest.now.lines) (sym {A = List Choice} c.deref.ensures.value)
          (subst (λ (l : List Gain). AreGivenTo l c.args.before.now.chosen.items was.lines c.args.manifest.now.lines) (sym {A = List Gain} c.deref-2.ensures.value) is.lines));
      actions = c.from_vec.ensures ∙ (actions_back vec.len vec.items c.unload.new.actions (omega (arith, vec.ok.0)) size ∙ undone);
      pools = is.pools;
      defaults = is.defaults;
      builddir = is.builddir;
    }

pub invariant_of-manifest : goal.invariant_of-manifest
invariant_of-manifest c =
    let is = c.requires.1 in
    let was = c.requires.0 in
    let first : c.deref_mut.result.now ≡ c.args.manifest.now.actions = c.deref_mut.ensures.value ∙ (c.into_vec-actions.ensures ∙ c.replace.ensures.value) in
    let undone : c.unload.new.actions ≡ was.actions =
    c.unload.ensures was.actions (subst (λ (l : List LoadedEdge). AreUndoneBy c.args.before.now.file l c.deref_mut.result.now was.actions) (sym {A = List LoadedEdge} c.deref-3.ensures.value)
    (subst (λ (l : List Action). AreUndoneBy c.args.before.now.file c.args.before.now.edges.items l was.actions) (sym {A = List Action} first) is.actions)) in
    let vec = c.into_vec-actions.result in
    let size : length c.unload.new.actions ≡ length vec.items = ap length undone ∙ (is.actions.fits ∙ ap length (sym {A = List Action} (c.into_vec-actions.ensures ∙ c.replace.ensures.value))) in
    let actions : c.from_vec.result ≡ was.actions = c.from_vec.ensures ∙ (actions_back vec.len vec.items c.unload.new.actions (omega (arith, vec.ok.0)) size ∙ undone) in
    let paths : c.truncate.new.self ≡ was.paths = c.truncate.ensures ∙ paths_back was.paths c.args.manifest.now.paths c.args.before.now.paths is.more is.paths in
    let lines : c.shrink_lines.new.lines ≡ was.lines =
    c.shrink_lines.ensures was.lines
    (subst (λ (l : List Choice). AreGivenTo c.deref-2.result.now l was.lines c.args.manifest.now.lines) (sym {A = List Choice} c.deref.ensures.value)
    (subst (λ (l : List Gain). AreGivenTo l c.args.before.now.chosen.items was.lines c.args.manifest.now.lines) (sym {A = List Gain} c.deref-2.ensures.value) is.lines)) in
    let named = is.named in
    let pools = is.pools in
    let defaults = is.defaults in
    let builddir = is.builddir in
    let now : Parts = record {
      paths = c.truncate.new.self;
      named = c.args.manifest.now.named;
      lines = c.shrink_lines.new.lines;
      actions = c.from_vec.result;
      pools = c.args.manifest.now.pools;
      defaults = c.args.manifest.now.defaults;
      builddir = c.args.manifest.now.builddir;
    } in
    let held = held_for was now cc in
    record { few = held.few; fits = held.fits; names = held.names; numbered = held.numbered; within = held.within; known = held.known; dyndeps = held.dyndeps }
