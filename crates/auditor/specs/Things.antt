-- The things that a command did, as they are judged, and the facts that a trace tells.
use Rattle.std.specs.Prelude.{◌≡◌, Bool, true, false, List, ◌++◌}
use Rattle.std.specs.List.{AllByRecursion, AllZip}
use Rattle.trace.specs.declared.fact.Deed.{Deed}
use Rattle.trace.specs.declared.fact.Deed.TheVariants.{Asked, Emptied, Folder, Listed}
use Rattle.trace.specs.declared.fact.Fact.{Fact}
use Rattle.audit.specs.declared.whole.Whole.{Whole}
use Rattle.audit.specs.Stood.{Stood}
use Rattle.audit.specs.Wholes.{AreWhole}

-- what may be told by a descriptor alone
abbrev pub may_be_renamed : Deed → Bool
may_be_renamed Asked = true
may_be_renamed Listed = true
may_be_renamed Emptied = true
may_be_renamed _ = false

-- the same thing; what is told by a descriptor alone may have another name, by which the file was opened
pub record IsGiven (whole named : Whole) : Type 0 where
  pub deed : named.deed ≡ whole.deed
  pub real : named.real ≡ whole.real
  pub other : named.other ≡ whole.other
  pub up : named.up ≡ whole.up
  pub way : named.way ≡ whole.way
  pub path : may_be_renamed whole.deed ≡ false → named.path ≡ whole.path

-- each of these things is that a folder is there
abbrev pub AreFolders : List Whole → Type 0
AreFolders = AllByRecursion (λ whole. whole.deed ≡ Folder)

-- these things are those of the facts, each of them once, by where links of others stand, and in front of them that folders are there
pub record AreThings (old : Stood) (facts : List Fact) (things : List Whole) : Type 0 where
  pub wholes : List Whole
  pub whole : AreWhole old facts wholes
  pub named : List Whole
  pub given : AllZip IsGiven wholes named
  pub folders : List Whole
  pub each : AreFolders folders
  pub are : things ≡ folders ++ named
