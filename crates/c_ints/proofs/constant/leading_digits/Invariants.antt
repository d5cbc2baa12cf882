-- the bytes after are digits, and the value is theirs as far as it is counted
use Rattle.std.proofs.Common.{◌≡◌, ◌<◌, ℕ, get_or, min, take, true}
use Rattle.std.specs.Char.{is_digit}
use Rattle.std.specs.Str.Parse.{digits_value}
use Rattle.c_ints.proofs.constant.leading_digits.Given as goal

abbrev pub invariant-loop-i : goal.invariant-loop-i
invariant-loop-i l =
    record {
      passed : (k : ℕ) → k < l.i → is_digit (get_or l.bytes k 0) l.base ≡ true;
      value : l.value ≡ min (digits_value l.base (take l.i l.bytes)) 18446744073709551616;
    }
