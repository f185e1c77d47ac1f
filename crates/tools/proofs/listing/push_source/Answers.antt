use Rattle.std.proofs.Common.{[], ◌∷◌, ℕ, List, None, Some, Option, is_none, map, filter, cond, Bool, sym, ap, ◌∙◌, subst, string_bytes}
use Rattle.graph.specs.Links.{links_of}
use Rattle.paths.specs.Told.{texts_at, text_at}
use Rattle.tools.specs.Answers.{Puts}
use Rattle.tools.proofs.Putting.{filter_one_yes, filter_one_no, on_ok, one_part, puts_none}
use Rattle.tools.proofs.listing.push_source.Goals as goal

pub returns-in-Some : goal.returns-in-Some
returns-in-Some c =
    let graph = c.args.graph.now in
    let told = string_bytes c.args.told.now in
    let no = filter_one_no (λ (p : ℕ). is_none ((links_of graph).maker p)) c.args.path (ap is_none (sym c.in-Some.ensures.value)) in
    subst (λ (l : List ℕ). Puts told told (texts_at graph.manifest.paths l)) (sym no) (puts_none told)

pub returns-in-None : goal.returns-in-None
returns-in-None c =
    let graph = c.args.graph.now in
    let yes = filter_one_yes (λ (p : ℕ). is_none ((links_of graph).maker p)) c.args.path (ap is_none (sym c.in-None.ensures.value)) in
    on_ok c.push_line.result (λ put. subst (λ (l : List ℕ). Puts (string_bytes c.args.told.now) (string_bytes c.push_line.new.text) (texts_at graph.manifest.paths l)) (sym yes) (one_part _ _ c.text_at.result.now (text_at graph.manifest.paths c.args.path) put c.text_at.ensures)) c.push_line.ensures
