-- What is kept of the facts of outputs and inputs that were taken in one after another.
use Rattle.std.specs.Prelude.{◌≡◌, not, List, ◌∷◌, [], ◌++◌, ℕ, Option, is_none}
use Rattle.std.specs.List.{list_any}
use Rattle.model.specs.declared.act.Act.{Act}
use Rattle.model.specs.Judgement.{OutputFacts, InputFacts, is_later, is_same_number, has_other_act, start_of}
use Rattle.judge.specs.declared.output_facts.Outputs.{Outputs}
use Rattle.judge.specs.declared.input_facts.Inputs.{Inputs}

-- the summary is of these outputs of an edge that does this now
pub record AreOutputs (act : Act) (outputs : List OutputFacts) (summary : Outputs) : Type 0 where
  pub absent : summary.has_absent ≡ list_any (λ o. is_none o.stamp) outputs
  pub unknown : summary.has_unknown ≡ list_any (λ o. is_none o.made) outputs
  pub other_act : summary.has_other_act ≡ list_any (λ o. has_other_act act o.made) outputs
  pub other_deps : summary.has_other_deps ≡ list_any (λ o. not (is_same_number (start_of o.made) o.deps_start)) outputs
  pub started : (stamp : Option ℕ) → is_later stamp summary.earliest_start ≡ list_any (λ o. is_later stamp (start_of o.made)) outputs
  pub stamped : (stamp : Option ℕ) → is_later stamp summary.earliest_stamp ≡ list_any (λ o. is_later stamp o.stamp) outputs

-- the summary is of these inputs
pub record AreInputs (inputs : List InputFacts) (summary : Inputs) : Type 0 where
  pub absent : summary.has_absent ≡ list_any (λ p. is_none p.stamp) inputs
  pub anew : summary.has_changed ≡ list_any (λ p. p.changed) inputs
  pub stamped : (than : Option ℕ) → is_later summary.latest_stamp than ≡ list_any (λ p. is_later p.stamp than) inputs

-- one output more was taken in
abbrev pub TakesOutput : Act → OutputFacts → Outputs → Outputs → Type 0
TakesOutput act output old new = (outputs : List OutputFacts) → AreOutputs act outputs old → AreOutputs act (outputs ++ output ∷ []) new

-- one input more was taken in
abbrev pub TakesInput : InputFacts → Inputs → Inputs → Type 0
TakesInput input old new = (inputs : List InputFacts) → AreInputs inputs old → AreInputs (inputs ++ input ∷ []) new

-- all inputs of another summary were taken in
abbrev pub JoinsInputs : Inputs → Inputs → Inputs → Type 0
JoinsInputs others old new = (inputs more : List InputFacts) → AreInputs inputs old → AreInputs more others → AreInputs (inputs ++ more) new
