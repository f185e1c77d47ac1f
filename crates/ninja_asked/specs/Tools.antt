-- Which tools change something.
use Rattle.std.specs.Prelude.{Bool, true, false}
use Rattle.tools.specs.declared.tool.Tool.{Tool}
use Rattle.tools.specs.declared.tool.Tool.TheVariants as tool

abbrev pub removes : Tool → Bool
removes tool.Clean = true
removes tool.Commands = false
removes tool.Inputs = false
removes tool.Deps = false
removes tool.MissingDeps = false
removes tool.Graph = false
removes tool.Query = false
removes tool.Targets = false
removes tool.Compdb = false
removes tool.CompdbTargets = false
removes tool.Recompact = false
removes tool.Restat = false
removes tool.Rules = false
removes tool.CleanDead = true
