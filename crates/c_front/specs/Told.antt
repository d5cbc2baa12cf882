-- What the private functions say that turn the faults of the layers into those of a text. Nothing that `read_text` promises
-- rests on these.
use Rattle.std.specs.Prelude.{ℕ, List}
use Rattle.c_lexer.specs.declared.token.Token.{Token}
use Rattle.c_lexer.specs.declared.token.LexFault.{LexFault}
use Rattle.c_lexer.specs.declared.token.LexFault.TheVariants as lexer
use Rattle.c_expr_parser.specs.declared.parser.SyntaxFault.{SyntaxFault}
use Rattle.c_expr_parser.specs.declared.parser.SyntaxFault.TheVariants as parser
use Rattle.c_expr_types.specs.declared.fault.TypeFault.{TypeFault}
use Rattle.c_expr_types.specs.declared.fault.TypeFault.TheVariants as types
use Rattle.c_front.specs.declared.fault.TextFault.{TextFault}
use Rattle.c_front.specs.declared.fault.TextFault.TheVariants.{Refused, Memory}
use Rattle.c_front.specs.declared.fault.FaultKind.TheVariants.{BadByte, BadLiteral, Directive, TooMany, Syntax, TooDeep, Kind}
use Rattle.c_front.specs.Accepted.{byte_of}

abbrev pub lexical : LexFault → TextFault
lexical (lexer.BadByte at) = Refused BadByte at
lexical (lexer.BadLiteral at) = Refused BadLiteral at
lexical (lexer.Directive at) = Refused Directive at
lexical (lexer.TooMany at) = Refused TooMany at
lexical lexer.Memory = Memory

abbrev pub syntactic : List ℕ → List Token → SyntaxFault → TextFault
syntactic text tokens (parser.At number) = Refused Syntax (byte_of text tokens number)
syntactic text tokens (parser.TooDeep number) = Refused TooDeep (byte_of text tokens number)
syntactic text tokens parser.Memory = Memory

abbrev pub typed_fault : TypeFault → TextFault
typed_fault (types.Refused kind at) = Refused (Kind kind) at
typed_fault types.Memory = Memory
