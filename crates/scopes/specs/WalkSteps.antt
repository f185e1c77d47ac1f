-- One step of a walk, by what waits and what is listed in it.
use Rattle.std.specs.Prelude.{◌≡◌, ℕ, true, false, List, IsSome}
use Rattle.scopes.specs.declared.order.Walk.{Walk}
use Rattle.scopes.specs.declared.template.Part.{Part}
use Rattle.scopes.specs.Use.{opened, has}
use Rattle.scopes.specs.Steps.{IsReady, IsNext, IsDone, Waits, AllDone, IsWaiting}

-- the last text waits for none, or for this one
abbrev pub IsReadyIn : Walk → Type 0
IsReadyIn walk = IsReady (opened walk.at.now) walk.stack.items walk.order.items

abbrev pub IsNextIn : Walk → List ℕ → Type 0
IsNextIn walk next = IsNext (opened walk.at.now) walk.stack.items walk.order.items next

-- a part needs no other text first, or this one
abbrev pub IsDoneIn : Walk → Part → Type 0
IsDoneIn walk part = IsDone (opened walk.at.now) walk.order.items part

abbrev pub WaitsIn : Walk → Part → List ℕ → Type 0
WaitsIn walk part next = Waits (opened walk.at.now) walk.order.items part next

-- none of the parts needs another text first, or one needs this one
abbrev pub AllDoneIn : Walk → List Part → Type 0
AllDoneIn walk parts = AllDone (opened walk.at.now) walk.order.items parts

abbrev pub IsWaitingIn : Walk → List Part → List ℕ → Type 0
IsWaitingIn walk parts next = IsWaiting (opened walk.at.now) walk.order.items parts next

-- the name stands for a text that is not listed; it is listed, if it stands for one
abbrev pub IsUnlisted : Walk → List ℕ → Type 0
IsUnlisted walk name = IsSome (opened walk.at.now name) × (has walk.order.items name ≡ false)

abbrev pub IsListed : Walk → List ℕ → Type 0
IsListed walk name = IsSome (opened walk.at.now name) → has walk.order.items name ≡ true
