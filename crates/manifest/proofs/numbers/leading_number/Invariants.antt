use Rattle.std.proofs.Common.{◌≡◌, ◌++◌, take, drop}
use Rattle.manifest.specs.Numbers.{number_behind, leading_digits, IsNumber}
use Rattle.manifest.proofs.numbers.leading_number.Given as goal

abbrev pub invariant-loop-byte : goal.invariant-loop-byte
invariant-loop-byte l = record {
  number : IsNumber l.number (number_behind 0 (take l.byte-index l.text));
  digits : leading_digits l.text ≡ take l.byte-index l.text ++ leading_digits (drop l.byte-index l.text);
}
