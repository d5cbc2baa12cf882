use Rattle.std.proofs.Common.{◌≡◌, Bool, true, false, List, ℕ, sym, refl, IsUtf8}
use Rattle.std.specs.Str.{is_utf8}
use Rattle.std.proofs.lemmas.Str.{IsUtf8-from_is_utf8, is_utf8-from_IsUtf8}
use Rattle.c_lexer.proofs.quotes.is_text.Goals as goal

no_text : (s : List ℕ) → (IsUtf8 s → ⊥) → false ≡ is_utf8 s
no_text s other = by_test (is_utf8 s) (IsUtf8-from_is_utf8 s)
  where
    by_test : (v : Bool) → (v ≡ true → IsUtf8 s) → false ≡ v
    by_test false h = refl
    by_test true h = absurd (other (h refl))

pub returns-in-Ok : goal.returns-in-Ok
returns-in-Ok c = sym (is_utf8-from_IsUtf8 c.args.bytes.now c.in-Ok.ensures.cases.1)

pub returns-in-Err : goal.returns-in-Err
returns-in-Err c = no_text c.args.bytes.now c.in-Err.ensures.cases.0
