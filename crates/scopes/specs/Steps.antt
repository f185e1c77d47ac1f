-- One step of a walk along the names of a rule's texts.
use Rattle.std.specs.Prelude.{◌≡◌, ℕ, true, false, List, [], ◌∷◌, ◌++◌, Option, IsSome}
use Rattle.scopes.specs.declared.template.Template.{Template}
use Rattle.scopes.specs.declared.template.Part.{Part}
use Rattle.scopes.specs.declared.template.Part.TheVariants.{Text, Name}
use Rattle.scopes.specs.Texts.{names}
use Rattle.scopes.specs.Use.{has, Names, Follows}

module _ (opens : List ℕ → Option Template) where
  -- the last text waits for none
  pub record IsReady (stack order : List (List ℕ)) : Type 0 where
    pub front : List (List ℕ)
    pub last : List ℕ
    pub stack_is : stack ≡ front ++ last ∷ []
    pub follows : Follows opens order last

  -- the last text names this one, which is not listed
  pub record IsNext (stack order : List (List ℕ)) (next : List ℕ) : Type 0 where
    pub front : List (List ℕ)
    pub last : List ℕ
    pub stack_is : stack ≡ front ++ last ∷ []
    pub named : Names opens last next
    pub opened : IsSome (opens next)
    pub unlisted : has order next ≡ false

  -- a part that needs no other text first, and one that does
  abbrev pub IsDone : List (List ℕ) → Part → Type 0
  IsDone order (Text text) = Unit {0}
  IsDone order (Name name) = IsSome (opens name) → has order name ≡ true

  pub record Waits (order : List (List ℕ)) (part : Part) (next : List ℕ) : Type 0 where
    pub part_is : part ≡ Name next
    pub opened : IsSome (opens next)
    pub unlisted : has order next ≡ false

  abbrev pub AllDone : List (List ℕ) → List Part → Type 0
  AllDone order [] = Unit {0}
  AllDone order (part ∷ parts) = IsDone order part × AllDone order parts

  -- the parts name it
  pub record IsWaiting (order : List (List ℕ)) (parts : List Part) (next : List ℕ) : Type 0 where
    pub named : names parts next ≡ true
    pub opened : IsSome (opens next)
    pub unlisted : has order next ≡ false
