use Rattle.std.proofs.Common.{◌≡◌, ◌++◌, [], ℕ, Bool, true, false, List, if◌then◌else◌, map, ap, sym, ◌∙◌, append-nil, bytes_eq}
use Rattle.std.specs.Map.Iter.{deref}
use Rattle.graph.specs.Links.{links_of}
use Rattle.paths.specs.Told.{texts_at}
use Rattle.tools.specs.Answers.{outputs_of_rule}
use Rattle.tools.specs.Files.{rule_of}
use Rattle.tools.proofs.Putting.{on_ok}
use Rattle.tools.proofs.listing.push_if_of_rule.Goals as goal

pub returns-then-eq : goal.returns-then-eq
returns-then-eq c =
    let declared = c.args.declared.now in
    let paths = declared.graph.manifest.paths in
    let all = texts_at paths ((links_of declared.graph).outputs c.args.edge) in
    let same : bytes_eq (rule_of declared c.args.edge) c.args.rule.now ≡ true = ap (λ (l : List ℕ). bytes_eq l c.args.rule.now) (sym c.rule.ensures) ∙ (sym c.eq.ensures ∙ c.if-eq.true) in
    on_ok c.push_texts.result
    (λ put. put ∙ ap (λ (l : List (List ℕ)). map deref c.args.paths.now.items ++ l) (ap (texts_at paths) c.outputs_at.ensures ∙ ap (λ (b : Bool). if b then all else []) (sym same)))
    c.push_texts.ensures

pub returns : goal.returns
returns c =
    let declared = c.args.declared.now in
    let old = map deref c.args.paths.now.items in
    let all = texts_at declared.graph.manifest.paths ((links_of declared.graph).outputs c.args.edge) in
    let other : bytes_eq (rule_of declared c.args.edge) c.args.rule.now ≡ false = ap (λ (l : List ℕ). bytes_eq l c.args.rule.now) (sym c.rule.ensures) ∙ (sym c.eq.ensures ∙ c.if-eq.false) in
    sym (append-nil old) ∙ ap (λ (l : List (List ℕ)). old ++ l) (ap (λ (b : Bool). if b then all else []) (sym other))
