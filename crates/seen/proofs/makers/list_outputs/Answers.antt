use Rattle.std.proofs.Common.{◌≡◌, ◌<◌, ◌++◌, ◌+◌, ◌∷◌, [], ◌∙◌, ℕ, suc, true, length, take, get_or, slice_get, List, Some, None, Vec, Global, ap, sym, subst}
use Rattle.paths.specs.Lists.{line_at, line_outputs}
use Rattle.seen.specs.Makers.{are_below, pairs_of, texts_with}
use Rattle.seen.specs.declared.makers.Output.{Output}
use Rattle.seen.proofs.Making.{below_more, none_more, text_more}
use Rattle.seen.proofs.makers.list_outputs.Goals.{in-Some+in_ok-try_alloc_str+in_ok-push, in_default-get}
use Rattle.seen.proofs.makers.list_outputs.Goals as goal

pub loop-output-preserved : goal.loop-output-preserved
loop-output-preserved c =
    let paths = c.args.manifest.now.paths in
    let job = suc c.args.place in
    let outputs = line_outputs (line_at c.args.manifest.now.lines c.args.place) in
    let i = c.loop-output.output-index in
    let n = c.output-item.result in
    let before = pairs_of c.args.listed.now.items in
    let its : c.outputs-output-items.result.now ≡ outputs = c.outputs-output-items.ensures ∙ ap (λ (e : ℕ). line_outputs (line_at c.args.manifest.now.lines e)) c.edge-edge.ensures in
    let below : i < length outputs = subst (λ (l : List ℕ). i < length l) its c.loop-output-test.true in
    let at : get_or outputs i n ≡ n = ap (λ (l : List ℕ). get_or l i n) (sym {A = List ℕ} its) ∙ sym c.output-item.is in
    elim c.match-get.branch [
      | in-Some+in_ok-try_alloc_str+in_ok-push w ↦
          let o : Output = record { text = w.in_ok-try_alloc_str.field-0; job = w.job.result } in
          let grown : c.match-get.listed.items ≡ c.loop-output.listed.items ++ o ∷ [] = ap (λ (v : Vec Output Global). v.items) w.listed-is ∙ w.in_ok-push.ensures.items in
          let started : o.job ≡ job = w.job.ensures ∙ ap suc c.edge-edge.ensures in
          let text : slice_get paths (get_or outputs i n) ≡ Some o.text.now = ap (slice_get paths) at ∙ (sym w.in-Some.ensures ∙ ap (λ (t : List ℕ). Some t) (sym w.in_ok-try_alloc_str.ensures)) in
          record {
            below = λ jobs low all.
                subst (λ (os : List Output). are_below jobs os ≡ true) (sym {A = List Output} grown)
                (below_more jobs c.loop-output.listed.items o (c.loop-output.invariant.below jobs low all) (subst (λ (j : ℕ). j < jobs) (sym started) low));
            lists = subst (λ (os : List Output). pairs_of os ≡ before ++ texts_with paths job (take (i + 1) outputs)) (sym {A = List Output} grown)
                (text_more paths job outputs i n c.loop-output.listed.items o before below text started c.loop-output.invariant.lists);
          }
      | in_default-get w ↦
          let same : c.match-get.listed.items ≡ c.loop-output.listed.items = ap (λ (v : Vec Output Global). v.items) w.listed-is in
          let none : slice_get paths (get_or outputs i n) ≡ None = ap (slice_get paths) at ∙ sym w.in_default-get.ensures in
          record {
            below = λ jobs low all. subst (λ (os : List Output). are_below jobs os ≡ true) (sym {A = List Output} same) (c.loop-output.invariant.below jobs low all);
            lists = ap pairs_of same ∙ none_more paths job outputs i n (pairs_of c.loop-output.listed.items) before below none c.loop-output.invariant.lists;
          }
    ]
