use Rattle.std.proofs.Common.{◌∙◌, ◌<◌, ap, sym, subst, length, []}
use Rattle.std.proofs.lemmas.Option.{get_or_from_slice_get}
use Rattle.graph.specs.declared.fault.GraphFault.TheVariants.{MadeTwice as MadeTwiceFault, NoDyndepInput as NoDyndepInputFault}
use Rattle.graph.specs.Making.{IsFaultFor}
use Rattle.graph.proofs.Flaws.{flaw_path, flaw_within}
use Rattle.graph.proofs.makers.fault_of.Goals as goal

pub text-requires : goal.text-requires
text-requires c = subst (λ f. flaw_path f < length c.args.manifest.now.paths) c.in-MadeTwice.is (flaw_within c.args.manifest.now c.args.flaw c.requires)

pub returns-in_ok-from_str-in-MadeTwice : goal.returns-in_ok-from_str-in-MadeTwice
returns-in_ok-from_str-in-MadeTwice c =
    subst (λ f. IsFaultFor c.args.manifest.now.paths f (MadeTwiceFault c.in_ok-from_str-in-MadeTwice.field-0)) (sym c.in-MadeTwice.is)
    (ap MadeTwiceFault (c.in_ok-from_str-in-MadeTwice.ensures ∙ sym (get_or_from_slice_get c.args.manifest.now.paths c.in-MadeTwice.path c.text.result.now [] c.text.ensures)))

pub returns-in_ok-from_str-in-NoDyndepInput : goal.returns-in_ok-from_str-in-NoDyndepInput
returns-in_ok-from_str-in-NoDyndepInput c =
    subst (λ f. IsFaultFor c.args.manifest.now.paths f (NoDyndepInputFault c.in_ok-from_str-in-NoDyndepInput.field-0)) (sym c.in-NoDyndepInput.is)
    (ap NoDyndepInputFault (c.in_ok-from_str-in-NoDyndepInput.ensures ∙ sym (get_or_from_slice_get c.args.manifest.now.paths c.in-NoDyndepInput.path c.text-in-NoDyndepInput.result.now [] c.text-in-NoDyndepInput.ensures)))
