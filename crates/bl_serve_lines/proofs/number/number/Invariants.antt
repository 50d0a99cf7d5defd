use Rattle.std.proofs.Common.{◌≡◌, ◌<◌, ◌^◌, drop}
use Rattle.std.specs.Str.{all_ascii_digits}
use Rattle.bl_serve_lines.proofs.Numbers.{read_on}
use Rattle.bl_serve_lines.proofs.number.number.Given as goal

abbrev pub invariant-loop-byte : goal.invariant-loop-byte
invariant-loop-byte l = record {
  digits : all_ascii_digits l.text ≡ all_ascii_digits (drop l.byte-index l.text);
  small : l.value < 2 ^ 64;
  value : read_on 0 l.text ≡ read_on l.value (drop l.byte-index l.text);
}
