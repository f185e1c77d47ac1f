use Rattle.manifest.proofs.kept.Declared.read_declaration.Goals as goal

pub returns-in-Binding-clause-said : goal.returns-in-Binding-clause-said
returns-in-Binding-clause-said c = λ state is. rw c.in-Binding.is (c.read_binding.ensures.said state is)
