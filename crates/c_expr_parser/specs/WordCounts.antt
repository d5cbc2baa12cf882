-- The words of an integer type as the parser keeps them. The contracts of private functions cite this.
use Rattle.std.specs.Prelude.{ℕ, Bool, true, false, List, [], ◌∷◌, codes}
use Rattle.c_expr_parser.specs.declared.type_name.Word.{Word}
use Rattle.c_expr_parser.specs.declared.type_name.Word.TheVariants.{Char, Short, Int, Long, Signed, Unsigned}
use Rattle.c_expr_parser.specs.declared.type_name.Words.{Words}

-- the spelling of a word
abbrev pub spelled : Word → List ℕ
spelled Char = codes "char"
spelled Short = codes "short"
spelled Int = codes "int"
spelled Long = codes "long"
spelled Signed = codes "signed"
spelled Unsigned = codes "unsigned"

-- how often something was seen
abbrev pub times : Bool → ℕ
times false = 0
times true = 1

-- how often each word was seen, in the order of `integer_words`
abbrev pub seen : Words → List ℕ
seen w = times w.char ∷ times w.short ∷ times w.int ∷ times w.long ∷ times w.signed ∷ times w.unsigned ∷ []

-- whether a word was seen
abbrev pub has : Word → Words → Bool
has Char w = w.char
has Short w = w.short
has Int w = w.int
has Long w = w.long
has Signed w = w.signed
has Unsigned w = w.unsigned
