use Rattle.std.proofs.Common.{◌≡◌, ℕ, List, Err, Result, inl, inr, sym, ap, ◌∙◌}
use Rattle.std.specs.Prelude.{◌⊎◌}
use Rattle.c_ints.specs.declared.int.Int.{Int}
use Rattle.c_ints.specs.declared.constant.Radix.{Radix}
use Rattle.c_ints.specs.declared.constant.Suffix.{Suffix}
use Rattle.c_ints.specs.declared.constant.LiteralFault.{LiteralFault}
use Rattle.c_ints.specs.declared.constant.LiteralFault.TheVariants.{Shape}
use Rattle.c_ints.specs.Literal.{IsLiteral, IsSomeLiteral, literal_value}
use Rattle.c_ints.proofs.Reading.{reading, reading_value, reading_some}
use Rattle.c_expr_parser.specs.Tables.{if_ok}
use Rattle.c_expr_parser.proofs.constants.constant.Goals as goal

-- what the clauses on a literal's result say is the reading
same_reading : (text : List ℕ) (result : Result Int LiteralFault)
    → ((radix : Radix) → (digits : List ℕ) → (suffix : Suffix) → IsLiteral text radix digits suffix → result ≡ literal_value radix digits suffix)
    → IsSomeLiteral text ⊎ (result ≡ Err Shape) → IsSomeLiteral text ⊎ (reading text ≡ Err Shape) → result ≡ reading text
same_reading text result value (inl (radix, (digits, (suffix, literal)))) other =
    value radix digits suffix literal ∙ sym (reading_value text radix digits suffix literal)
same_reading text result value (inr none) (inl (radix, (digits, (suffix, literal)))) =
    value radix digits suffix literal ∙ sym (reading_value text radix digits suffix literal)
same_reading text result value (inr none) (inr neither) = none ∙ sym neither

pub returns : goal.returns
returns c =
    c.ok.ensures.value ∙ ap if_ok (same_reading c.args.text.now c.literal.result c.literal.ensures.value c.literal.ensures.some (reading_some c.args.text.now))
