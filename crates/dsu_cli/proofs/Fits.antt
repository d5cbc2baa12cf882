-- What follows where items fit a command.
use Rattle.std.proofs.Common.{◌≡◌, ◌∙◌, ◌||◌, ℕ, Bool, true, List, [], ◌∷◌, refl, sym, ap, codes, true≢false, inl, inr, arith}
use Rattle.std.specs.Prelude.{⊤, ◌==◌, is_some}
use Rattle.std.specs.List.{list_all}
use Rattle.std.specs.Str.{bytes_eq}
use Rattle.std.proofs.Math.Bool.{or-false, or-true}
use Rattle.std.proofs.lemmas.Bool.{and_from, and_parts, cases_Bool, ne_eqb, leb-true, not_from_false}
use Rattle.std.proofs.lemmas.Slice.Eq.{bytes_eq-Decides}
use Rattle.dsu_cli.specs.declared.command.Command.{Command}
use Rattle.dsu_cli.specs.declared.command.Command.TheVariants as command
use Rattle.dsu_cli.specs.declared.setting.Setting.{Setting}
use Rattle.dsu_cli.specs.declared.setting.Setting.TheVariants.{Offer, Workers, Moves, Objects, Engine}
use Rattle.dsu_cli.specs.Words.{Text, Item, positional, option, switch, line, fits, is_engine, is_switch, item_fits, is_number, is_value, positionals, positionals_fit, values}
use Rattle.dsu_cli.specs.Fit.{name_of, setting_of, value_test}
use Rattle.dsu_cli.specs.Sorted.{is_known}
use Rattle.dsu_cli.proofs.Names.{known, name_view, other, setting_named, setting_other}
use Rattle.dsu_cli.proofs.Numbers.{number_parts}
use Rattle.dsu_cli.proofs.Steps.{unknown_option}

-- a number is a value
pub number_is_value : (digits least most : ℕ) (word : Text) → is_number digits least most word ≡ true → is_value word ≡ true
number_is_value digits least most [] is = absurd (true≢false (sym is))
number_is_value digits least most (c ∷ cs) is =
    let h = number_parts digits least most (c ∷ cs) is in
    let digit = and_parts _ _ (and_parts _ _ h.all_digits).0 in
    let above = leb-true 48 c digit.0 in
    not_from_false (c == 45) (ne_eqb c 45 (λ e. omega arith))

-- the name of an engine is a value
engine_is_value : (word : Text) → is_engine word ≡ true → is_value word ≡ true
engine_is_value word is = elim (cases_Bool (bytes_eq word (codes "compiled"))) [
  | inl compiled ↦ ap is_value ((bytes_eq-Decides word _).0 compiled)
  | inr a ↦ elim (cases_Bool (bytes_eq word (codes "plain"))) [
    | inl plain ↦ ap is_value ((bytes_eq-Decides word _).0 plain)
    | inr b ↦ absurd (true≢false (sym is ∙ (rw (a, b) refl)))
  ]
]

setting_value : (s : Setting) (v : Text) → value_test s v ≡ true → is_value v ≡ true
setting_value Offer v is = (and_parts _ _ is).0
setting_value Workers v is = number_is_value 7 1 8 v is
setting_value Moves v is = number_is_value 7 1 1600000 v is
setting_value Objects v is = number_is_value 7 1 65536 v is
setting_value Engine v is = engine_is_value v is

-- an option that a command has takes the values that pass its test
pub option_tested : (c : Command) (s : Setting) (v : Text) → item_fits (line c) (option (name_of s) v) ≡ true → value_test s v ≡ true
option_tested command.Run Offer v e = sym (or-false _) ∙ e
option_tested command.Run Workers v e = sym (or-false _) ∙ e
option_tested command.Run Moves v e = sym (or-false _) ∙ e
option_tested command.Run Objects v e = sym (or-false _) ∙ e
option_tested command.Run Engine v e = sym (or-false _) ∙ e
option_tested command.Replay Offer v e = sym (or-false _) ∙ e
option_tested command.Replay Workers v e = absurd (true≢false (sym e))
option_tested command.Replay Moves v e = absurd (true≢false (sym e))
option_tested command.Replay Objects v e = sym (or-false _) ∙ e
option_tested command.Replay Engine v e = sym (or-false _) ∙ e
option_tested command.Check s v e = absurd (true≢false (sym e))
option_tested command.Effects s v e = absurd (true≢false (sym e))
option_tested command.Changes s v e = absurd (true≢false (sym e))
option_tested command.Admits s v e = absurd (true≢false (sym e))
option_tested command.Gen Offer v e = absurd (true≢false (sym e))
option_tested command.Gen Workers v e = absurd (true≢false (sym e))
option_tested command.Gen Moves v e = absurd (true≢false (sym e))
option_tested command.Gen Objects v e = absurd (true≢false (sym e))
option_tested command.Gen Engine v e = sym (or-false _) ∙ e

explain_known : (name : Text) → item_fits (line command.Check) (switch name) ≡ true → is_switch name ≡ true
explain_known name e = ap (λ b. bytes_eq name (codes "journal") || b) (sym (or-false _) ∙ e) ∙ or-true _

switch_known : (c : Command) (name : Text) → item_fits (line c) (switch name) ≡ true → is_switch name ≡ true
switch_known command.Run name e = ap (λ b. bytes_eq name (codes "journal") || b) (sym (or-false _)) ∙ e
switch_known command.Replay name e = explain_known name e
switch_known command.Check name e = explain_known name e
switch_known command.Effects name e = explain_known name e
switch_known command.Changes name e = explain_known name e
switch_known command.Admits name e = explain_known name e
switch_known command.Gen name e = explain_known name e

option_known : (c : Command) (name v : Text) → item_fits (line c) (option name v) ≡ true → is_known (option name v) ≡ true
option_known c name v e = elim (name_view name) [
  | known s is ↦
      let tested = option_tested c s v (ap (λ n. item_fits (line c) (option n v)) (sym is) ∙ e) in
      and_from _ _ (ap (λ n. is_some (setting_of n)) is ∙ ap is_some (setting_named s)) (setting_value s v tested)
  | other h ↦ absurd (true≢false (sym e ∙ unknown_option c name v (setting_other name h)))
]

-- each test asks for a value
abbrev Strict : List (Text → Bool) → Type 0
Strict [] = ⊤
Strict (test ∷ tests) = ((word : Text) → test word ≡ true → is_value word ≡ true) × Strict tests

tests_strict : (c : Command) → Strict (line c).positionals
tests_strict command.Run = ((λ word is. is), tt)
tests_strict command.Replay = ((λ word is. is), ((λ word is. is), tt))
tests_strict command.Check = ((λ word is. is), tt)
tests_strict command.Effects = ((λ word is. is), tt)
tests_strict command.Changes = ((λ word is. is), ((λ word is. is), tt))
tests_strict command.Admits = ((λ word is. is), ((λ word is. is), tt))
tests_strict command.Gen = (number_is_value 19 0 9223372036854775807, (number_is_value 7 1 200, tt))

known_all : (c : Command) (its : List Item) (tests : List (Text → Bool)) → Strict tests → list_all (item_fits (line c)) its ≡ true
    → positionals_fit tests (positionals its) ≡ true → list_all is_known its ≡ true
known_all c [] tests strict e p = refl
known_all c (positional word ∷ its) [] strict e p = absurd (true≢false (sym p))
known_all c (positional word ∷ its) (test ∷ tests) strict e p =
    let fit = and_parts _ _ p in
    and_from _ _ (strict.0 word fit.0) (known_all c its tests strict.1 e fit.1)
known_all c (option name v ∷ its) tests strict e p =
    let all = and_parts _ _ e in
    and_from _ _ (option_known c name v all.0) (known_all c its tests strict all.1 p)
known_all c (switch name ∷ its) tests strict e p =
    let all = and_parts _ _ e in
    and_from _ _ (switch_known c name all.0) (known_all c its tests strict all.1 p)

-- items that fit a command are known
pub fits_known : (c : Command) (its : List Item) → fits (line c) its ≡ true → list_all is_known its ≡ true
fits_known c its e =
    let a = and_parts _ _ e in
    known_all c its (line c).positionals (tests_strict c) a.0 (and_parts _ _ a.1).0

-- the values of an option pass its test
pub values_pass : (c : Command) (s : Setting) (its : List Item) → list_all (item_fits (line c)) its ≡ true → list_all (value_test s) (values (name_of s) its) ≡ true
values_pass c s [] e = refl
values_pass c s (positional word ∷ its) e = values_pass c s its e
values_pass c s (option name v ∷ its) e =
    let all = and_parts _ _ e in
    elim (cases_Bool (bytes_eq name (name_of s))) [
      | inl is ↦
          let here = option_tested c s v (ap (λ n. item_fits (line c) (option n v)) (sym ((bytes_eq-Decides name (name_of s)).0 is)) ∙ all.0) in
          rw is (and_from _ _ here (values_pass c s its all.1))
      | inr isnt ↦ rw isnt (values_pass c s its all.1)
    ]
values_pass c s (switch name ∷ its) e = values_pass c s its (and_parts _ _ e).1
