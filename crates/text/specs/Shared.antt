-- A text that several hold.
use Rattle.std.specs.Prelude.{ℕ, List, [], Option, Some, None}
use Rattle.std.specs.declared.alloc.Global.{Global}
use Rattle.std.specs.declared.rc.Rc.{Rc}

-- the text; none is the empty one
abbrev pub held : Option (Rc (List ℕ) Global) → List ℕ
held None = []
held (Some text) = text.value
