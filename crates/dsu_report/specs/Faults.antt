-- What standard error has for a fault.
use Rattle.std.specs.Prelude.{ℕ, List, ◌++◌, codes}
use Rattle.std.specs.Fmt.{decimal}
use Rattle.c_expr_types.specs.declared.fault.TypeKind.{TypeKind}
use Rattle.c_expr_types.specs.declared.fault.TypeKind.TheVariants.{UnknownName, DeclaredTwice, WrongType, WrongCount, NotPlace, OutsideLoop, NoMain, BadFormat, LeavesTransaction, OverLimit, UnknownField, BadTransformer}
use Rattle.c_front.specs.declared.fault.FaultKind.{FaultKind}
use Rattle.c_front.specs.declared.fault.FaultKind.TheVariants.{BadByte, BadLiteral, Directive, TooMany, Syntax, TooDeep, Kind}
use Rattle.dsu_report.specs.declared.fault.LineWord.{LineWord}
use Rattle.dsu_report.specs.declared.fault.LineWord.TheVariants.{Header, NoEvent, CannotHappen}
use Rattle.dsu_report.specs.declared.fault.FaultLine.{FaultLine}
use Rattle.dsu_report.specs.declared.fault.FaultLine.TheVariants.{Usage, Place, Unread, TooLong, Line, Write, Memory}

-- the usage text
unfoldable pub usage_text : List ℕ
usage_text =
    codes "usage: ginseng run FILE [--offer FILE@LINES]... [--workers W] [--moves N] [--objects N] [--engine E] [--journal] [--explain]\n"
    ++ codes "       ginseng replay FILE JOURNAL [--offer FILE@LINES]... [--objects N] [--engine E] [--explain]\n"
    ++ codes "       ginseng check FILE [--explain]\n"
    ++ codes "       ginseng effects FILE [--explain]\n"
    ++ codes "       ginseng changes OLD NEW [--explain]\n"
    ++ codes "       ginseng gen SEED SIZE [--engine E] [--explain]\n"
    ++ codes "       ginseng admits OLD NEW [--explain]\n"

-- the words of a fault of the types
abbrev pub kind_word : TypeKind → List ℕ
kind_word UnknownName = codes "unknown name"
kind_word DeclaredTwice = codes "declared twice"
kind_word WrongType = codes "wrong type"
kind_word WrongCount = codes "wrong number of arguments"
kind_word NotPlace = codes "not a place"
kind_word OutsideLoop = codes "outside a loop"
kind_word NoMain = codes "no main"
kind_word BadFormat = codes "bad printf format"
kind_word LeavesTransaction = codes "leaves a transaction"
kind_word OverLimit = codes "over a limit"
kind_word UnknownField = codes "unknown field"
kind_word BadTransformer = codes "bad transformer"

-- the words of what is wrong at a place
abbrev pub place_word : FaultKind → List ℕ
place_word BadByte = codes "bad byte"
place_word BadLiteral = codes "bad literal"
place_word Directive = codes "directive"
place_word TooMany = codes "too many tokens"
place_word Syntax = codes "syntax"
place_word TooDeep = codes "nested too deep"
place_word (Kind kind) = kind_word kind

-- the words of what is wrong in a line of a journal
abbrev pub line_word : LineWord → List ℕ
line_word Header = codes "header"
line_word NoEvent = codes "no event"
line_word CannotHappen = codes "cannot happen"

-- the line of a fault, with the file where one is at fault
abbrev pub fault_line : FaultLine → List ℕ → List ℕ
fault_line Usage file = usage_text
fault_line (Place line column word) file = file ++ codes ":" ++ decimal line ++ codes ":" ++ decimal column ++ codes ": " ++ place_word word ++ codes "\n"
fault_line Unread file = file ++ codes ": read fault\n"
fault_line TooLong file = file ++ codes ": too long\n"
fault_line (Line line word) file = file ++ codes ": line " ++ decimal line ++ codes ": " ++ line_word word ++ codes "\n"
fault_line Write file = codes "write fault\n"
fault_line Memory file = codes "want of memory\n"
