-- States that say the same: their rules may be kept in another way.
use Rattle.std.proofs.Common.{◌≡◌, ℕ, List, Option, None, Some}
use Rattle.std.specs.List.{AllZip}
use Rattle.scopes.specs.declared.template.Rule.{Rule}
use Rattle.scopes.specs.Rule.{template_of}
use Rattle.scopes.specs.Moves.{Move, Bind, DeclareRule, Enter, Leave}
use Rattle.manifest.specs.States.{State, Build}

-- two rules that keep the same texts
abbrev pub SameRule : Rule → Rule → Type 0
SameRule rule other = (name : List ℕ) → template_of rule name ≡ template_of other name

abbrev pub SameOption : {X Y : Type 0} → (X → Y → Type 0) → Option X → Option Y → Type 0
SameOption R None None = Unit {0}
SameOption R None (Some y) = ⊥
SameOption R (Some x) None = ⊥
SameOption R (Some x) (Some y) = R x y

abbrev pub SameMove : Move → Move → Type 0
SameMove (Bind name value) (Bind name' value') = (name ≡ name') × (value ≡ value')
SameMove (DeclareRule name rule) (DeclareRule name' rule') = (name ≡ name') × SameRule rule rule'
SameMove Enter Enter = Unit {0}
SameMove Leave Leave = Unit {0}
SameMove (Bind name value) (DeclareRule name' rule') = ⊥
SameMove (Bind name value) Enter = ⊥
SameMove (Bind name value) Leave = ⊥
SameMove (DeclareRule name rule) (Bind name' value') = ⊥
SameMove (DeclareRule name rule) Enter = ⊥
SameMove (DeclareRule name rule) Leave = ⊥
SameMove Enter (Bind name value) = ⊥
SameMove Enter (DeclareRule name rule) = ⊥
SameMove Enter Leave = ⊥
SameMove Leave (Bind name value) = ⊥
SameMove Leave (DeclareRule name rule) = ⊥
SameMove Leave Enter = ⊥

abbrev pub SamePast : List Move → List Move → Type 0
SamePast = AllZip SameMove

pub record SameBuild (build other : Build) : Type 0 where
  pub place : build.place ≡ other.place
  pub scope : build.scope ≡ other.scope
  pub rule_name : build.rule_name ≡ other.rule_name
  pub rule : SameOption SameRule build.rule other.rule
  pub block : build.block ≡ other.block
  pub paths : build.paths ≡ other.paths

abbrev pub SameBuilds : List Build → List Build → Type 0
SameBuilds = AllZip SameBuild

pub record SameState (state other : State) : Type 0 where
  pub past : SamePast state.past other.past
  pub builds : SameBuilds state.builds other.builds
  pub pools : state.pools ≡ other.pools
  pub defaults : state.defaults ≡ other.defaults
