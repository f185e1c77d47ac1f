-- That dyndep files can be read.
use Rattle.std.specs.Prelude.{ℕ, List, Option}
use Rattle.dyndep.specs.declared.addition.Addition.{Addition}
use Rattle.dyndep.specs.Dyndep.{IsReading}

-- there is a function that reads each dyndep file as its grammar says
abbrev pub HasReading : Type 0
HasReading = (reading : List ℕ → Option (List Addition)) × IsReading reading
