use Rattle.std.proofs.Common.{ℕ, List, rules, subst, sym}
use Rattle.ninja_asked.specs.Above.{AreAboveFile}
use Rattle.ninja_asked.proofs.Gathering.{all_of_file, generators_are_edges}
use Rattle.ninja_asked.proofs.above.all_above.Goals as goal

pub returns-clause-all : goal.returns-clause-all
returns-clause-all c =
    let edges = c.as_slice.result.now in
    all_of_file c.args.declared.now c.args.name.now c.in_ok-file.file edges c.add_edges.new.above c.in_ok-file.ensures
    (subst (λ (l : List ℕ). AreAboveFile c.args.declared.now.graph c.in_ok-file.file l) (sym c.as_slice.ensures.value) c.in_ok-edges.ensures) (c.in_ok-add_edges.ensures (search rules) (search rules))

pub returns-clause-within : goal.returns-clause-within
returns-clause-within c =
    let edges = c.as_slice.result.now in
    generators_are_edges c.args.declared.now c.in_ok-file.file edges c.add_edges.new.above
    (subst (λ (l : List ℕ). AreAboveFile c.args.declared.now.graph c.in_ok-file.file l) (sym c.as_slice.ensures.value) c.in_ok-edges.ensures) (c.in_ok-add_edges.ensures (search rules) (search rules))
