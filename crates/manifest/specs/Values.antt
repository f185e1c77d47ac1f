-- The values of rule variables, in the terms of scopes.
use Rattle.std.specs.Prelude.{◌≡◌, ℕ, ◌≤◌, true, List, length, codes}
use Rattle.scopes.specs.declared.all_scopes.Scopes.{Scopes}
use Rattle.scopes.specs.declared.usage.Use.{Use}
use Rattle.scopes.specs.Moves.{Move}
use Rattle.scopes.specs.Scopes.{Always}
use Rattle.scopes.specs.Use.{opened, fixed, IsValueAtUse}
use Rattle.scopes.specs.Large.{IsTooLargeAtUse}
use Rattle.scopes.specs.Texts.{largest_value}
use Rattle.manifest.specs.declared.values.Values.{Values}
use Rattle.manifest.specs.Uses.{is_expanded, LeadsIntoCircle}

abbrev pub IsValueAt : Use → List Move → List ℕ → List ℕ → Type 0
IsValueAt at past name value = IsValueAtUse (opened at) (fixed at name past) name value

pub record AreValuesAt (at : Use) (past : List Move) (values : Values) : Type 0 where
  pub command : IsValueAt at past (codes "command") values.command
  pub depfile : IsValueAt at past (codes "depfile") values.depfile
  pub deps : IsValueAt at past (codes "deps") values.deps
  pub dyndep : IsValueAt at past (codes "dyndep") values.dyndep
  pub description : IsValueAt at past (codes "description") values.description
  pub pool : IsValueAt at past (codes "pool") values.pool
  pub restat : IsValueAt at past (codes "restat") values.restat
  pub rspfile : IsValueAt at past (codes "rspfile") values.rspfile
  pub rspfile_content : IsValueAt at past (codes "rspfile_content") values.rspfile_content

abbrev pub LeadsIntoCircleAt : Use → Type 0
LeadsIntoCircleAt at = LeadsIntoCircle (opened at)

pub record HasLargeValueAt (at : Use) (past : List Move) : Type 0 where
  pub name : List ℕ
  pub expanded : is_expanded name ≡ true
  pub large : IsTooLargeAtUse (opened at) (fixed at name past) name

-- no value is too large
pub record AreSmall (values : Values) : Type 0 where
  pub command : length values.command ≤ largest_value
  pub depfile : length values.depfile ≤ largest_value
  pub deps : length values.deps ≤ largest_value
  pub dyndep : length values.dyndep ≤ largest_value
  pub description : length values.description ≤ largest_value
  pub pool : length values.pool ≤ largest_value
  pub restat : length values.restat ≤ largest_value
  pub rspfile : length values.rspfile ≤ largest_value
  pub rspfile_content : length values.rspfile_content ≤ largest_value

-- ---- whatever was done to the scopes

abbrev pub AreValuesIn : Scopes → Use → Values → Type 0
AreValuesIn scopes at values = Always scopes (λ past. AreValuesAt at past values)

abbrev pub HasNoCircleIn : Scopes → Use → Type 0
HasNoCircleIn scopes at = Always scopes (λ past. LeadsIntoCircleAt at → ⊥)
