use Rattle.std.proofs.Common.{◌≡◌, ◌<◌, ◌^◌, take}
use Rattle.std.specs.Str.Parse.{AllDigits, digits_value}
use Rattle.script_line.proofs.decimal.number.Given as goal

abbrev pub invariant-loop-byte : goal.invariant-loop-byte
invariant-loop-byte l = record {
  fits : l.n < 2 ^ 64;
  digits : AllDigits 10 (take l.byte-index l.word);
  value : l.n ≡ digits_value 10 (take l.byte-index l.word);
}
