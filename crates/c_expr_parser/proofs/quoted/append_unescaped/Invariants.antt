use Rattle.std.proofs.Common.{◌≡◌, ◌++◌, IsUtf8, string_bytes}
use Rattle.std.specs.Str.Iter.{chars_rest}
use Rattle.c_expr_parser.specs.Quoted.{unescaped}
use Rattle.c_expr_parser.proofs.StringReading.{pending}
use Rattle.c_expr_parser.proofs.quoted.append_unescaped.Given as goal

abbrev pub invariant-loop-c : goal.invariant-loop-c
invariant-loop-c l = IsUtf8 (chars_rest l.c-iterator)
    × (string_bytes l.into ++ pending l.behind_backslash (chars_rest l.c-iterator) ≡ string_bytes l.fn.into ++ unescaped l.fn.body)
