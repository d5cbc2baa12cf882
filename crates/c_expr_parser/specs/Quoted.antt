-- What the spellings of characters and strings mean.
use Rattle.std.specs.Prelude.{◌≡◌, ℕ, ◌==◌, if◌then◌else◌, List, [], ◌∷◌, ◌++◌}
use Rattle.c_lexer.specs.Bytes.{tab, newline, carriage_return, backslash}

-- the byte that a backslash and a byte stand for (6.4.4.4): n, t, r and 0 stand for another, the rest for themselves
abbrev pub escaped : ℕ → ℕ
escaped c =
    if c == 110 then newline
    else (if c == 116 then tab
    else (if c == 114 then carriage_return
    else (if c == 48 then 0 else c)))

-- the bytes that are meant, each escape read as one
abbrev pub unescaped : List ℕ → List ℕ
unescaped [] = []
unescaped (b ∷ []) = b ∷ []
unescaped (b ∷ c ∷ bs) = if b == backslash then escaped c ∷ unescaped bs else b ∷ unescaped (c ∷ bs)

-- a spelling between two quotes, and the bytes that it means
pub record IsQuoted (quote : ℕ) (spelling : List ℕ) (bytes : List ℕ) : Type 0 where
  pub body : List ℕ
  pub are : spelling ≡ quote ∷ body ++ quote ∷ []
  pub means : bytes ≡ unescaped body
