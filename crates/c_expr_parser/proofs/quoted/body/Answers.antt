use Rattle.std.proofs.Common.{◌≡◌, ℕ, List, [], ◌∷◌, ◌++◌, Option, Some, None, Bor}
use Rattle.std.specs.Option.{MatchOption}
use Rattle.std.proofs.lemmas.Str.Pattern.{strip_prefix_char, strip_suffix_char}
use Rattle.c_expr_parser.specs.Quoted.{unescaped}
use Rattle.c_expr_parser.specs.Tables.{unquoted}
use Rattle.c_expr_parser.proofs.StringReading.{between, no_first, no_last}
use Rattle.c_expr_parser.proofs.quoted.body.Goals as goal

pub returns-in_err-strip_prefix : goal.returns-in_err-strip_prefix
returns-in_err-strip_prefix c =
    rw c.from_residual.ensures (no_first c.args.quote c.args.text.now (strip_prefix_char c.args.quote c.args.text.now None c.in_err-strip_prefix.ensures.cases c.requires))

-- what comes after the first quote
behind : (quote : ℕ) (text rest : List ℕ) (r : Option (Bor (List ℕ))) → text ≡ quote ∷ rest
    → MatchOption r ((front : List ℕ) → rest ≡ front ++ quote ∷ [] → ⊥) (λ x. rest ≡ x.now ++ quote ∷ [])
    → MatchOption r (unquoted quote text ≡ None) (λ body. unquoted quote text ≡ Some (unescaped body.now))
behind quote text rest None begins other = no_last quote text rest begins other
behind quote text rest (Some body) begins ends = between quote text rest body.now begins ends

pub returns : goal.returns
returns c =
    let rest = c.in_ok-strip_prefix.field-0 in
    behind c.args.quote c.args.text.now rest.now c.strip_suffix.result
    (strip_prefix_char c.args.quote c.args.text.now (Some rest) c.in_ok-strip_prefix.ensures.cases c.requires)
    (strip_suffix_char c.args.quote rest.now c.strip_suffix.result c.strip_suffix.ensures.cases c.requires)
