-- Tokens with their depth. The depth of a token is how many of these enclose it: bracket pairs of any kind, whose own
-- brackets don't count as enclosed; operands of prefix operators and casts; right sides of assignments; third parts of
-- `?:`; the statements that `if`, `else`, `while`, `do` and `for` govern. The rules of the grammar say it place by place.
use Rattle.std.specs.Prelude.{ℕ, ◌+◌, List, [], ◌∷◌, map}
use Rattle.c_lexer.specs.declared.token.Token.{Token}

-- a token, and how deep it stands
pub record Placed : Type 0 where
  pub token : Token
  pub depth : ℕ

-- the tokens alone
abbrev pub tokens : List Placed → List Token
tokens ts = map (λ t. t.token) ts

-- where a token begins
abbrev pub at : Placed → ℕ
at t = t.token.at

-- its spelling
abbrev pub text : Placed → List ℕ
text t = t.token.text

-- where some tokens begin: the place of the first
abbrev pub start : List Placed → ℕ
start [] = 0
start (t ∷ ts) = at t

-- where they end: the place after the last, and 0 where there is none
abbrev pub end : List Placed → ℕ
end [] = 0
end (t ∷ []) = t.token.at + t.token.len
end (t ∷ u ∷ ts) = end (u ∷ ts)
