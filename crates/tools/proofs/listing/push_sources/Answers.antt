use Rattle.std.proofs.Common.{[], ◌∷◌, ℕ, List, filter, is_none, map, sym, ap, ◌∙◌, subst, string_bytes, take}
use Rattle.std.proofs.lemmas.List.{map-append, take_all}
use Rattle.graph.specs.Links.{links_of}
use Rattle.paths.specs.Told.{text_at, texts_at}
use Rattle.tools.specs.Answers.{Puts}
use Rattle.tools.proofs.Putting.{filter_next, puts_none, puts_then}
use Rattle.tools.proofs.listing.push_sources.Goals as goal

pub loop-path-init : goal.loop-path-init
loop-path-init c = puts_none (string_bytes c.args.told.now)

pub loop-path-preserved : goal.loop-path-preserved
loop-path-preserved c =
    let graph = c.args.graph.now in
    let test = λ (p : ℕ). is_none ((links_of graph).maker p) in
    let path = c.path-item.result in
    let paths = c.args.paths.now in
    let more = filter_next test paths c.loop-path.path-index path c.loop-path-test.true c.path-item.is in
    let before = filter test (take c.loop-path.path-index paths) in
    let old = string_bytes c.args.told.now in
    let new = string_bytes c.push_source.new.told in
    subst (Puts old new) (sym (ap (texts_at graph.manifest.paths) more ∙ map-append (text_at graph.manifest.paths) before (filter test (path ∷ []))))
    (puts_then old (string_bytes c.loop-path.told) new (texts_at graph.manifest.paths before) (texts_at graph.manifest.paths (filter test (path ∷ []))) c.loop-path.invariant c.in_ok-push_source.ensures)

pub returns : goal.returns
returns c =
    let graph = c.args.graph.now in
    subst (λ (l : List ℕ). Puts (string_bytes c.args.told.now) (string_bytes c.loop-path.told) (texts_at graph.manifest.paths (filter (λ (p : ℕ). is_none ((links_of graph).maker p)) l)))
    (take_all c.loop-path.path-index c.args.paths.now c.loop-path-test.false) c.loop-path.invariant
