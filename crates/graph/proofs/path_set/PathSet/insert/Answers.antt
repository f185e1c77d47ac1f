use Rattle.std.proofs.Common.{◌≡◌, ◌++◌, ◌∷◌, [], ℕ, List, nat_eq, get_or, set, sym, ap, ◌∙◌, subst}
use Rattle.std.proofs.lemmas.List.{get_or_default}
use Rattle.indexmap.specs.IndexSet.{insert_key}
use Rattle.graph.specs.Marked.{AreOfRound}
use Rattle.graph.proofs.Sets.{put_in}
use Rattle.graph.proofs.Rounded.{rounded_same, rounded_push, insert_held, insert_fresh}
use Rattle.graph.proofs.path_set.PathSet.insert.Goals as goal

pub invariant_of-self-then-index-self : goal.invariant_of-self-then-index-self
invariant_of-self-then-index-self c =
    let paths = c.self.inside.paths.items in
    let rounds = c.reach.new.rounds.items in
    let round = c.self.inside.round in
    let place = c.index-place.result in
    let are = rounded_same paths c.self.inside.rounds.items rounds round c.self.invariant c.reach.ensures.same in
    let at : c.index.result.now ≡ get_or rounds place 0 = c.index.ensures ∙ get_or_default rounds place c.index.result.now 0 c.in_ok-reach.ensures.reached in
    subst (λ (l : List ℕ). AreOfRound l (set rounds place round) round) (sym (c.in_ok-push.ensures.items ∙ ap (λ (p : ℕ). paths ++ p ∷ []) (sym c.index-place.ensures.place)))
    (rounded_push paths rounds round place are c.in_ok-reach.ensures.reached (λ e. c.if-index-self.true (at ∙ e)))

pub returns-in_ok-push : goal.returns-in_ok-push
returns-in_ok-push c =
    let paths = c.self.inside.paths.items in
    let rounds = c.reach.new.rounds.items in
    let round = c.self.inside.round in
    let place = c.index-place.result in
    let are = rounded_same paths c.self.inside.rounds.items rounds round c.self.invariant c.reach.ensures.same in
    let at : c.index.result.now ≡ get_or rounds place 0 = c.index.ensures ∙ get_or_default rounds place c.index.result.now 0 c.in_ok-reach.ensures.reached in
    put_in _ _ c.args.path (
    c.in_ok-push.ensures.items
    ∙ (ap (λ (p : ℕ). paths ++ p ∷ []) (sym c.index-place.ensures.place)
    ∙ (insert_fresh paths rounds round place are (λ e. c.if-index-self.true (at ∙ e))
    ∙ (ap (insert_key nat_eq paths) c.index-place.ensures.place ∙ ap (λ (l : List ℕ). insert_key nat_eq l c.args.path) c.self.view_is)))
    )

pub returns-else-index-self : goal.returns-else-index-self
returns-else-index-self c =
    let paths = c.self.inside.paths.items in
    let rounds = c.reach.new.rounds.items in
    let round = c.self.inside.round in
    let place = c.index-place.result in
    let are = rounded_same paths c.self.inside.rounds.items rounds round c.self.invariant c.reach.ensures.same in
    let at : c.index.result.now ≡ get_or rounds place 0 = c.index.ensures ∙ get_or_default rounds place c.index.result.now 0 c.in_ok-reach.ensures.reached in
    put_in _ _ c.args.path (
    insert_held paths rounds round place are (sym at ∙ c.if-index-self.false)
    ∙ (ap (insert_key nat_eq paths) c.index-place.ensures.place ∙ ap (λ (l : List ℕ). insert_key nat_eq l c.args.path) c.self.view_is)
    )
