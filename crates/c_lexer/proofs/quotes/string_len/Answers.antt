use Rattle.std.proofs.Common.{sym, refl}
use Rattle.c_lexer.proofs.UnitsByFirstBytes.{string_utf8, string_other}
use Rattle.c_lexer.proofs.quotes.string_len.Goals as goal

pub returns-in-None : goal.returns-in-None
returns-in-None c = λ m least. let h = c.in-None.ensures m least in rw h refl

pub returns-then-is_text : goal.returns-then-is_text
returns-then-is_text c = string_utf8 c.args.tail.now c.in-Some.len c.in-Some.ensures (sym c.if-is_text.ensures)

pub returns-else-is_text : goal.returns-else-is_text
returns-else-is_text c = string_other c.args.tail.now c.in-Some.len c.in-Some.ensures (sym c.if-is_text.ensures)
