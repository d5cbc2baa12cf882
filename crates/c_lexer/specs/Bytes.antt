-- The classes of bytes and characters.
use Rattle.std.specs.Prelude.{ℕ, zero, suc, Bool, true, ◌||◌, ◌&&◌, ◌==◌, nat_le, not, List, slice_index}
use Rattle.std.specs.Char.{is_ascii_alphabetic, is_ascii_alphanumeric}
use Rattle.std.specs.Int.{is_in_range}
use Rattle.unicode_ident.specs.Ident.{is_xid_start, is_xid_continue}

-- the bytes that the forms name
abbrev pub tab : ℕ
tab = 9

abbrev pub newline : ℕ
newline = 10

abbrev pub carriage_return : ℕ
carriage_return = 13

abbrev pub space : ℕ
space = 32

abbrev pub double_quote : ℕ
double_quote = 34

abbrev pub hash : ℕ
hash = 35

abbrev pub quote : ℕ
quote = 39

abbrev pub star : ℕ
star = 42

abbrev pub slash : ℕ
slash = 47

abbrev pub backslash : ℕ
backslash = 92

abbrev pub underscore : ℕ
underscore = 95

-- space, and the bytes from tab to carriage return (6.4p3)
abbrev pub is_blank : ℕ → Bool
is_blank b = (b == space) || is_in_range tab carriage_return b

-- space and tab, the blanks that may be in a directive (6.10p5)
abbrev pub is_gap : ℕ → Bool
is_gap b = (b == space) || (b == tab)

-- no newline
abbrev pub stays_in_line : ℕ → Bool
stays_in_line b = not (b == newline)

-- what an identifier may begin with (6.4.2.1): a letter, `_`, or a character past ASCII with XID_Start
abbrev pub starts_word : ℕ → Bool
starts_word c = (is_ascii_alphabetic c || (c == underscore)) || (nat_le 128 c && is_xid_start c)

-- what it may go on with: a letter, a digit, `_`, or a character past ASCII with XID_Continue
abbrev pub continues_word : ℕ → Bool
continues_word c = (is_ascii_alphanumeric c || (c == underscore)) || (nat_le 128 c && is_xid_continue c)

-- the first byte of such a character, or of another one past ASCII
abbrev pub may_start_word : ℕ → Bool
may_start_word b = (is_ascii_alphabetic b || (b == underscore)) || nat_le 128 b

-- what stands between quotes as itself: a printable byte but for the quote and the backslash
abbrev pub is_plain : ℕ → ℕ → Bool
is_plain closing c = is_in_range 32 126 c && (not (c == closing) && not (c == backslash))

-- what may come after a backslash (6.4.4.4): n t r \ ' "
abbrev pub is_escape : ℕ → Bool
is_escape c = (c == 110) || (c == 116) || (c == 114) || (c == backslash) || (c == quote) || (c == double_quote)

-- only blanks are on its line before a place
abbrev pub starts_line : List ℕ → ℕ → Bool
starts_line text zero = true
starts_line text (suc at) = (slice_index text at == newline) || (is_blank (slice_index text at) && starts_line text at)
