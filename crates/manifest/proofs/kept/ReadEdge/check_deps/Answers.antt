use Rattle.std.proofs.Common.{◌≡◌, refl, sym, ◌∙◌, ap, false, true}
use Rattle.std.proofs.lemmas.Bool.{false≢true}
use Rattle.manifest.specs.Edges.{is_unknown_deps}
use Rattle.manifest.specs.declared.fault.FaultKind.TheVariants.{UnknownDeps}
use Rattle.manifest.proofs.Binds.{unless_at}
use Rattle.manifest.proofs.EdgeChecks.{at_build, empty_is, told_empty, not_true, not_false, gcc_is, deps_is, known_deps}
use Rattle.manifest.proofs.kept.ReadEdge.check_deps.Goals as goal
use Rattle.manifest.proofs.kept.ReadEdge.check_deps.Goals.{then-is_empty-via-then-is_empty, then-is_empty-via-else-is_empty+then-not-is_empty, then-eq, else-eq}

pub returns-then-is_empty : goal.returns-then-is_empty
returns-then-is_empty c = λ build is. known_deps build c.args.values.now (elim c.then-is_empty.branch [
  | then-is_empty-via-then-is_empty w ↦ deps_is c.args.values.now true _ _ (empty_is _ _ true w.if-is_empty.ensures c.as_str-deps.ensures) refl refl
  | then-is_empty-via-else-is_empty+then-not-is_empty w ↦ elim w.if-eq.branch [
    | then-eq w' ↦ deps_is c.args.values.now false true w'.is_empty-then-eq.result (empty_is _ _ false w.if-is_empty.ensures c.as_str-deps.ensures)
        (gcc_is _ _ true w'.if-eq.ensures c.as_str-deps.ensures) (told_empty _ _ w'.is_empty-then-eq.ensures.0 w'.is_empty-then-eq.ensures.1)
        ∙ not_true w'.is_empty-then-eq.result (sym w'.value-is ∙ w.if-not-is_empty.true)
    | else-eq w' ↦ absurd (false≢true (sym w'.if-eq.false ∙ (sym w'.value-is ∙ w.if-not-is_empty.true)))
  ]
])

pub returns : goal.returns
returns c = λ build is.
    let unknown : is_unknown_deps c.args.values.now ≡ true = elim c.if-eq.branch [
      | then-eq w ↦ deps_is c.args.values.now false true w.is_empty-then-eq.result (empty_is _ _ false c.if-is_empty.ensures c.as_str-deps.ensures)
          (gcc_is _ _ true w.if-eq.ensures c.as_str-deps.ensures) (told_empty _ _ w.is_empty-then-eq.ensures.0 w.is_empty-then-eq.ensures.1)
          ∙ not_false w.is_empty-then-eq.result (sym w.value-is ∙ c.if-not-is_empty.false)
      | else-eq w ↦ deps_is c.args.values.now false false _ (empty_is _ _ false c.if-is_empty.ensures c.as_str-deps.ensures)
          (gcc_is _ _ false w.if-eq.ensures c.as_str-deps.ensures) refl
    ] in
    unless_at _ _ build.place (UnknownDeps c.args.values.now.deps) c.fault.result unknown
    (at_build _ build.place _ (UnknownDeps c.args.values.now.deps) c.fault.result (c.place.ensures build is) (ap UnknownDeps (c.in_ok-from_str.ensures ∙ c.as_str-deps.ensures)) c.fault.ensures)
