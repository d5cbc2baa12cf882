-- The words that a text can't declare.
use Rattle.std.specs.Prelude.{ℕ, Bool, List, [], ◌∷◌, length, take, if◌then◌else◌, codes}
use Rattle.std.specs.List.{list_any}
use Rattle.std.specs.Str.{bytes_eq}
use Rattle.c_lexer.specs.declared.token.TokenKind.{TokenKind}
use Rattle.c_lexer.specs.declared.token.TokenKind.TheVariants.{Identifier, Keyword, LibraryWord}

-- the keywords of C11 (6.4.1)
unfoldable pub keywords : List (List ℕ)
keywords =
    codes "auto" ∷ codes "break" ∷ codes "case" ∷ codes "char" ∷ codes "const" ∷ codes "continue"
    ∷ codes "default" ∷ codes "do" ∷ codes "double" ∷ codes "else" ∷ codes "enum" ∷ codes "extern"
    ∷ codes "float" ∷ codes "for" ∷ codes "goto" ∷ codes "if" ∷ codes "inline" ∷ codes "int"
    ∷ codes "long" ∷ codes "register" ∷ codes "restrict" ∷ codes "return" ∷ codes "short" ∷ codes "signed"
    ∷ codes "sizeof" ∷ codes "static" ∷ codes "struct" ∷ codes "switch" ∷ codes "typedef" ∷ codes "union"
    ∷ codes "unsigned" ∷ codes "void" ∷ codes "volatile" ∷ codes "while"
    ∷ codes "_Alignas" ∷ codes "_Alignof" ∷ codes "_Atomic" ∷ codes "_Bool" ∷ codes "_Complex"
    ∷ codes "_Generic" ∷ codes "_Imaginary" ∷ codes "_Noreturn" ∷ codes "_Static_assert" ∷ codes "_Thread_local"
    ∷ []

-- the names of the library and of updating that the language knows
unfoldable pub library_words : List (List ℕ)
library_words =
    codes "printf" ∷ codes "calloc" ∷ codes "free"
    ∷ codes "thrd_create" ∷ codes "thrd_join" ∷ codes "thrd_t" ∷ codes "thrd_success" ∷ codes "thrd_error"
    ∷ codes "mtx_t" ∷ codes "mtx_init" ∷ codes "mtx_lock" ∷ codes "mtx_unlock" ∷ codes "mtx_plain"
    ∷ codes "NULL" ∷ codes "dsu_update" ∷ codes "dsu_tx" ∷ codes "dsu_transform"
    ∷ []

-- the text is one of the list
abbrev pub is_one_of : List (List ℕ) → List ℕ → Bool
is_one_of texts text = list_any (bytes_eq text) texts

abbrev pub starts_with : List ℕ → List ℕ → Bool
starts_with front text = bytes_eq front (take (length front) text)

-- what a word is
abbrev pub word_kind : List ℕ → TokenKind
word_kind word =
    if is_one_of keywords word then Keyword
    else (if is_one_of library_words word then LibraryWord else Identifier)
