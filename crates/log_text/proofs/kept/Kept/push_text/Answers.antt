use Rattle.std.proofs.Common.{◌++◌, sym, ap, ◌∙◌, map, List, ℕ, Option, ◌∷◌, []}
use Rattle.std.proofs.lemmas.List.{append-nil, map-append}
use Rattle.log_text.specs.Kept.{if_some}
use Rattle.log_text.proofs.kept.Kept.push_text.Goals as goal

pub returns-in_ok-push : goal.returns-in_ok-push
returns-in_ok-push g c =
    let texts = map (λ x. x.now) c.args.texts.now.items in
    ap (map (λ x. x.now)) c.in_ok-push.ensures.items
    ∙ (map-append (λ x. x.now) c.args.texts.now.items (c.in-Some.text ∷ []) ∙ ap (λ (o : Option (List ℕ)). texts ++ if_some o) c.in-Some.ensures)

pub returns-in_default : goal.returns-in_default
returns-in_default g c =
    let texts = map (λ x. x.now) c.args.texts.now.items in
    sym (append-nil texts) ∙ ap (λ (o : Option (List ℕ)). texts ++ if_some o) c.in_default.ensures
