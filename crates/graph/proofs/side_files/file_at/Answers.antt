use Rattle.std.proofs.Common.{◌≡◌, ◌∙◌, sym, refl, subst}
use Rattle.graph.specs.declared.fault.SideFile.{SideFile}
use Rattle.graph.specs.declared.fault.SideFile.TheVariants.{Depfile, Response}
use Rattle.graph.specs.Namings.{declared_file}
use Rattle.graph.proofs.Beside.{file_is}
use Rattle.graph.proofs.side_files.file_at.Goals as goal

pub returns-in-Alias : goal.returns-in-Alias
returns-in-Alias c = file_is c.args.manifest.now c.args.edge c.args.file _ (sym c.in-Alias.is ∙ c.action.ensures) _ refl

pub returns-in-Depfile : goal.returns-in-Depfile
returns-in-Depfile c =
    subst (λ (f : SideFile). c.as_str.result.now ≡ declared_file c.args.manifest.now c.args.edge f) (sym {A = SideFile} c.in-Depfile.is)
    (file_is c.args.manifest.now c.args.edge Depfile _ (sym c.in-Command.is ∙ c.action.ensures) _ c.as_str.ensures)

pub returns-in-Response : goal.returns-in-Response
returns-in-Response c =
    subst (λ (f : SideFile). c.as_str-in-Response.result.now ≡ declared_file c.args.manifest.now c.args.edge f) (sym {A = SideFile} c.in-Response.is)
    (file_is c.args.manifest.now c.args.edge Response _ (sym c.in-Command.is ∙ c.action.ensures) _ c.as_str-in-Response.ensures)
