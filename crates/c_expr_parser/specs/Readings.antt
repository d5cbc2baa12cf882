-- What it is to read a list of tokens, and where it can't be read. A phrase of the grammar says which placed tokens are
-- which tree.
use Rattle.std.specs.Prelude.{◌≡◌, ℕ, ◌+◌, ◌<◌, ◌≤◌, ◌⊎◌, List, [], ◌∷◌, ◌++◌, take, length}
use Rattle.std.specs.List.{All}
use Rattle.c_lexer.specs.declared.token.Token.{Token}
use Rattle.c_expr_parser.specs.Placed.{Placed, tokens}

-- the depth of the deepest tokens
abbrev pub most_depth : ℕ
most_depth = 64

-- no token is too deep
abbrev pub IsShallow : List Placed → Type 0
IsShallow ts = All (λ t. t.depth ≤ most_depth) ts

-- the last token is too deep and none before it
pub record Sinks (ts : List Placed) : Type 0 where
  pub above : List Placed
  pub last : Placed
  pub are : ts ≡ above ++ last ∷ []
  pub shallow : IsShallow above
  pub deep : most_depth < last.depth

module _ {Tree : Type 0} (Phrase : List Placed → Tree → Type 0) where
  -- the tokens are this tree, and none is too deep
  pub record Reads (ts : List Token) (tree : Tree) : Type 0 where
    pub placed : List Placed
    pub are : tokens placed ≡ ts
    pub phrase : Phrase placed tree
    pub shallow : IsShallow placed

  -- the placed tokens begin a phrase
  abbrev pub Begins : List Placed → Type 0
  Begins front = (rest : List Placed) × (tree : Tree) × Phrase (front ++ rest) tree

  -- the tokens begin a phrase, however deep
  abbrev pub IsFront : List Token → Type 0
  IsFront ts = (front : List Placed) × (tokens front ≡ ts) × Begins front

  -- the tokens are a phrase, however deep
  abbrev pub IsWhole : List Token → Type 0
  IsWhole ts = (placed : List Placed) × (tree : Tree) × (tokens placed ≡ ts) × Phrase placed tree

  -- how far tokens can be read: the first n begin a phrase, and with the next they don't, or there is no next
  pub record ReadsTo (ts : List Token) (n : ℕ) : Type 0 where
    pub within : n ≤ length ts
    pub front : IsFront (take n ts)
    pub ends : (n ≡ length ts) ⊎ ¬ IsFront (take (n + 1) ts)

  -- a fault of syntax where all tokens are to be a phrase: at the first with which they begin none, or at their end
  abbrev pub FaultAt : List Token → ℕ → Type 0
  FaultAt ts k = ReadsTo ts k × ((k < length ts) ⊎ ¬ IsWhole ts)

  -- a fault of syntax where the tokens are read as far as they begin a phrase: at the first with which they begin none,
  -- where those before it are none
  abbrev pub FaultBefore : List Token → ℕ → Type 0
  FaultBefore ts k = ReadsTo ts k × ¬ IsWhole (take k ts)

  -- a token that is too deep, where the tokens up to it begin a phrase and none before it is too deep
  abbrev pub TooDeepAt : List Token → ℕ → Type 0
  TooDeepAt ts k = (k < length ts) × (front : List Placed) × (tokens front ≡ take (k + 1) ts) × Begins front × Sinks front

  -- at most one tree is read from a list of tokens, in one way to place them
  abbrev pub ReadsOnce : Type 0
  ReadsOnce =
      (p q : List Placed) (a b : Tree) → tokens p ≡ tokens q → Phrase p a → Phrase q b → (p ≡ q) × (a ≡ b)

  -- the depth of a token depends on the tokens up to it alone
  abbrev pub DepthByFront : Type 0
  DepthByFront =
      (p q : List Placed) (a b : Tree) (n : ℕ) → Phrase p a → Phrase q b → take n (tokens p) ≡ take n (tokens q)
      → take n p ≡ take n q
