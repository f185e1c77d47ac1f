use Rattle.std.proofs.Common.{◌≡◌, ◌∙◌, ◌<◌, ℕ, List, ◌∷◌, [], ap, sym, subst, arith, length, take, get_or}
use Rattle.std.proofs.lemmas.List.{get_or_default}
use Rattle.graph.specs.Held.{pushed, push_at}
use Rattle.graph.proofs.Ends.{ok_of, err_of, all_take}
use Rattle.graph.proofs.Lists.{length-pushed, pushed-append}
use Rattle.graph.proofs.Parts.{all_index, index_all}
use Rattle.graph.proofs.Turns.{take_next}
use Rattle.graph.proofs.users.Users.push_all.Goals as goal

pub push-requires : goal.push-requires
push-requires c =
    let paths = c.args.paths.now in
    let place = c.loop-done.done in
    let low : get_or paths place 0 < length c.args.self.now = c.requires place 0 c.loop-done-test.true in
    let at : c.index-paths-done.result ≡ get_or paths place 0 = c.index-paths-done.is ∙ get_or_default paths place c.index-paths-done.result 0 c.loop-done-test.true in
    let long : length c.make_ready.new.self ≡ length c.args.self.now = ap length c.make_ready.ensures ∙ (ap length c.loop-done.invariant ∙ length-pushed c.args.self.now (take place paths) c.args.edge) in
    omega (arith, low, at, long)

pub pop_all-requires : goal.pop_all-requires
pop_all-requires c =
    let paths = c.args.paths.now in
    let place = c.loop-done.done in
    let kept : c.push.new.self ≡ c.loop-done.self = err_of c.push.result (sym c.if-is_err.ensures.value) c.push.ensures.err ∙ c.make_ready.ensures in
    let long : length c.push.new.self ≡ length c.args.self.now = ap length kept ∙ (ap length c.loop-done.invariant ∙ length-pushed c.args.self.now (take place paths) c.args.edge) in
    subst (λ (n : ℕ). (k d : ℕ) → k < length (take place paths) → get_or (take place paths) k d < n) (sym {A = ℕ} long)
    (all_index (length c.args.self.now) (take place paths) (all_take (λ p. p < length c.args.self.now) place paths (index_all (length c.args.self.now) paths c.requires)))

pub loop-done-preserved : goal.loop-done-preserved
loop-done-preserved c =
    let paths = c.args.paths.now in
    let place = c.loop-done.done in
    let path = c.index-paths-done.result in
    ok_of c.push.result (sym c.if-is_err.ensures.value) c.push.ensures.ok
    ∙ (ap (λ (v : List (List ℕ)). push_at v path c.args.edge) (c.make_ready.ensures ∙ c.loop-done.invariant)
    ∙ (sym (pushed-append c.args.self.now (take place paths) (path ∷ []) c.args.edge)
    ∙ sym (ap (λ (l : List ℕ). pushed c.args.self.now l c.args.edge) (take_next paths place path c.loop-done-test.true c.index-paths-done.is))))
