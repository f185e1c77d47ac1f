use Rattle.std.proofs.Common.{◌≡◌, ◌∷◌, [], ◌++◌, Some, None, sym, ap, ◌∙◌, map, cond, List, ℕ, Bool}
use Rattle.std.proofs.lemmas.List.{append-nil, map-append}
use Rattle.log_text.proofs.kept.Kept.push_in_force.Goals as goal

pub returns-then-not-is_place : goal.returns-then-not-is_place
returns-then-not-is_place g c = λ o at.
    let left = map (λ x. x.now) c.args.left.now.items in
    let no = sym c.is_place.ensures ∙ c.if-not-is_place.true in
    sym (append-nil left) ∙ ap (λ (b : Bool). left ++ cond b (o ∷ []) []) (sym no)

pub returns-in_ok-push : goal.returns-in_ok-push
returns-in_ok-push g c = λ o at.
    let left = map (λ x. x.now) c.args.left.now.items in
    let yes = sym c.is_place.ensures ∙ c.if-not-is_place.false in
    let both : Some c.in-Some.output.now ≡ Some o = c.in-Some.ensures ∙ at in
    let same : c.in-Some.output.now ≡ o = cc in
    ap (map (λ x. x.now)) c.in_ok-push.ensures.items
    ∙ (map-append (λ x. x.now) c.args.left.now.items (c.in-Some.output ∷ [])
    ∙ (ap (λ (x : List ℕ). left ++ x ∷ []) same ∙ ap (λ (b : Bool). left ++ cond b (o ∷ []) []) (sym yes)))

pub returns-in_default : goal.returns-in_default
returns-in_default g c = λ o at.
    let clash : None ≡ Some o = c.in_default.ensures ∙ at in
    cc
