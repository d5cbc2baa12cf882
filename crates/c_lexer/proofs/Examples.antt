-- Small texts with their tokens or faults.
use Rattle.std.specs.Prelude.{◌≡◌, ℕ, List, [], ◌∷◌, Ok, Err, codes}
use Rattle.std.proofs.Common.{refl}
use Rattle.c_lexer.specs.declared.token.TokenKind.{TokenKind}
use Rattle.c_lexer.specs.declared.token.TokenKind.TheVariants.{Identifier, Keyword, LibraryWord, Number, Character, Str, Punctuator}
use Rattle.c_lexer.specs.declared.token.Token.{Token}
use Rattle.c_lexer.specs.declared.token.LexFault.TheVariants.{BadByte, BadLiteral, Directive as BadDirective}
use Rattle.c_lexer.specs.Words.{keywords, library_words}
use Rattle.c_lexer.specs.Units.{reading, is_include, names_header, ends_line, consists_of, is_name, punctuators, headers}
use Rattle.std.specs.Str.{is_utf8, chars}
use lib.Utf8.{encode}
use Rattle.c_lexer.specs.Numbers.{is_number}
use Rattle.c_lexer.specs.Compute.{lexed}

abbrev tok : TokenKind → ℕ → ℕ → List ℕ → Token
tok k at n s = record { kind = k; at = at; len = n; text = s }

empty : lexed [] ≡ Ok []
unfolding reading is_number is_include names_header ends_line consists_of is_name keywords library_words punctuators headers is_utf8 chars encode
empty = refl

first_form : lexed (codes "int x;") ≡ Ok (tok Keyword 0 3 (codes "int") ∷ tok Identifier 4 1 (codes "x") ∷ tok Punctuator 5 1 (codes ";") ∷ [])
unfolding reading is_number is_include names_header ends_line consists_of is_name keywords library_words punctuators headers is_utf8 chars encode
first_form = refl

zero_is_octal : lexed (codes "a 08;") ≡ Err (BadLiteral 2)
unfolding reading is_number is_include names_header ends_line consists_of is_name keywords library_words punctuators headers is_utf8 chars encode
zero_is_octal = refl

digits_and_letters : lexed (codes "12ab") ≡ Err (BadLiteral 0)
unfolding reading is_number is_include names_header ends_line consists_of is_name keywords library_words punctuators headers is_utf8 chars encode
digits_and_letters = refl

call : lexed (codes "printf(\"%d\\n\", 1+23)") ≡ Ok (
    tok LibraryWord 0 6 (codes "printf") ∷ tok Punctuator 6 1 (codes "(") ∷ tok Str 7 6 (codes "\"%d\\n\"") ∷ tok Punctuator 13 1 (codes ",")
    ∷ tok Number 15 1 (codes "1") ∷ tok Punctuator 16 1 (codes "+") ∷ tok Number 17 2 (codes "23") ∷ tok Punctuator 19 1 (codes ")") ∷ [])
unfolding reading is_number is_include names_header ends_line consists_of is_name keywords library_words punctuators headers is_utf8 chars encode
call = refl

open_string : lexed (codes "a \"b") ≡ Err (BadLiteral 2)
unfolding reading is_number is_include names_header ends_line consists_of is_name keywords library_words punctuators headers is_utf8 chars encode
open_string = refl

stray : lexed (codes "a $") ≡ Err (BadByte 2)
unfolding reading is_number is_include names_header ends_line consists_of is_name keywords library_words punctuators headers is_utf8 chars encode
stray = refl

open_comment : lexed (codes "/* open") ≡ Err (BadByte 0)
unfolding reading is_number is_include names_header ends_line consists_of is_name keywords library_words punctuators headers is_utf8 chars encode
open_comment = refl

comment : lexed (codes "a/*/ b*/c") ≡ Ok (tok Identifier 0 1 (codes "a") ∷ tok Identifier 8 1 (codes "c") ∷ [])
unfolding reading is_number is_include names_header ends_line consists_of is_name keywords library_words punctuators headers is_utf8 chars encode
comment = refl

line_comment : lexed (codes "a// b\n/=") ≡ Ok (tok Identifier 0 1 (codes "a") ∷ tok Punctuator 6 2 (codes "/=") ∷ [])
unfolding reading is_number is_include names_header ends_line consists_of is_name keywords library_words punctuators headers is_utf8 chars encode
line_comment = refl

define : lexed (codes " #define A") ≡ Err (BadDirective 1)
unfolding reading is_number is_include names_header ends_line consists_of is_name keywords library_words punctuators headers is_utf8 chars encode
define = refl

include : lexed (codes "\n #include <stdio.h> /**/\r\nx") ≡ Ok (tok Identifier 27 1 (codes "x") ∷ [])
unfolding reading is_number is_include names_header ends_line consists_of is_name keywords library_words punctuators headers is_utf8 chars encode
include = refl

hash_inside : lexed (codes "a #b") ≡ Err (BadByte 2)
unfolding reading is_number is_include names_header ends_line consists_of is_name keywords library_words punctuators headers is_utf8 chars encode
hash_inside = refl

shifts : lexed (codes "a<<=b+++c") ≡ Ok (tok Identifier 0 1 (codes "a") ∷ tok Punctuator 1 3 (codes "<<=") ∷ tok Identifier 4 1 (codes "b") ∷ tok Punctuator 5 2 (codes "++") ∷ tok Punctuator 7 1 (codes "+") ∷ tok Identifier 8 1 (codes "c") ∷ [])
unfolding reading is_number is_include names_header ends_line consists_of is_name keywords library_words punctuators headers is_utf8 chars encode
shifts = refl

characters : lexed (codes "'a' '\\0'") ≡ Ok (tok Character 0 3 (codes "'a'") ∷ tok Character 4 4 (codes "'\\0'") ∷ [])
unfolding reading is_number is_include names_header ends_line consists_of is_name keywords library_words punctuators headers is_utf8 chars encode
characters = refl

bad_character : lexed (codes "'ab'") ≡ Err (BadLiteral 0)
unfolding reading is_number is_include names_header ends_line consists_of is_name keywords library_words punctuators headers is_utf8 chars encode
bad_character = refl

malformed : lexed (97 ∷ 195 ∷ []) ≡ Err (BadByte 1)
unfolding reading is_number is_include names_header ends_line consists_of is_name keywords library_words punctuators headers is_utf8 chars encode
malformed = refl

suffixes : lexed (codes "0x1Ful 017 5U") ≡ Ok (tok Number 0 6 (codes "0x1Ful") ∷ tok Number 7 3 (codes "017") ∷ tok Number 11 2 (codes "5U") ∷ [])
unfolding reading is_number is_include names_header ends_line consists_of is_name keywords library_words punctuators headers is_utf8 chars encode
suffixes = refl

no_digits : lexed (codes "0x") ≡ Err (BadLiteral 0)
unfolding reading is_number is_include names_header ends_line consists_of is_name keywords library_words punctuators headers is_utf8 chars encode
no_digits = refl

two_suffixes : lexed (codes "4294967295ulu") ≡ Err (BadLiteral 0)
unfolding reading is_number is_include names_header ends_line consists_of is_name keywords library_words punctuators headers is_utf8 chars encode
two_suffixes = refl

no_type : lexed (codes "9223372036854775808") ≡ Err (BadLiteral 0)
unfolding reading is_number is_include names_header ends_line consists_of is_name keywords library_words punctuators headers is_utf8 chars encode
no_type = refl

zero_alone : lexed (codes "0") ≡ Ok (tok Number 0 1 (codes "0") ∷ [])
unfolding reading is_number is_include names_header ends_line consists_of is_name keywords library_words punctuators headers is_utf8 chars encode
zero_alone = refl
