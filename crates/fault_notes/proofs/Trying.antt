-- One more token that is tried.
use Rattle.std.proofs.Common.{◌≡◌, ◌↔◌, List, [], ◌∷◌, ◌++◌, Bool, IsTrue, length, refl, arith}
use Rattle.c_lexer.specs.declared.token.Token.{Token}
use Rattle.fault_notes.specs.Expected.{AreTried, BeginsProgram}

pub tried_more : (before tried : List Token) (fits : List Bool) (c : Token) (one : Bool) → AreTried before tried fits
    → (IsTrue one ↔ BeginsProgram (before ++ c ∷ [])) → AreTried before (tried ++ c ∷ []) (fits ++ one ∷ [])
tried_more before [] [] c one all here = (here, tt)
tried_more before [] (fit ∷ fits) c one all here = absurd all
tried_more before (t ∷ tried) [] c one all here = absurd all
tried_more before (t ∷ tried) (fit ∷ fits) c one all here = (all.0, tried_more before tried fits c one all.1 here)

pub none_left : (ts : List Token) → length ts ≡ 0 → ts ≡ []
none_left [] e = refl
none_left (t ∷ ts) e = absurd (omega (arith, e))
