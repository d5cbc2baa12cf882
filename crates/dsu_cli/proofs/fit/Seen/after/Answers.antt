use Rattle.std.proofs.Common.{◌≡◌, ◌∙◌, false, sym, ap, Some, None, Option, Bor}
use Rattle.std.specs.Option.{option_map}
use Rattle.dsu_cli.specs.Words.{Text, line, behind_dashes, is_switch, name_and_value}
use Rattle.dsu_cli.specs.Fit.{setting_of, switch_name}
use Rattle.dsu_cli.proofs.Names.{not_switch, switch_known}
use Rattle.dsu_cli.proofs.Steps.{after_waiting, after_positional, after_pair, after_switch, after_name, after_unknown, after_unknown_pair, unknown_option}
use Rattle.dsu_cli.proofs.fit.Seen.after.Goals as goal

abbrev now_of : Option (Bor Text) → Option Text
now_of = option_map (λ text. text.now)

abbrev now_both : Option (Bor Text × Bor Text) → Option (Text × Text)
now_both = option_map (λ parts. (parts.0.now, parts.1.now))

pub returns-in-Some : goal.returns-in-Some
returns-in-Some c = after_waiting (line c.args.command) c.args.self c.args.word.now c.with_value.result c.with_value.ensures.waits
    c.in-Some.setting c.in-Some.is c.with_value.ensures.steps

pub returns-in_default-behind_dashes : goal.returns-in_default-behind_dashes
returns-in_default-behind_dashes c =
    let plain : behind_dashes c.args.word.now ≡ None = sym c.behind_dashes.ensures ∙ ap now_of c.in_default-behind_dashes.is in
    after_positional (line c.args.command) c.args.self c.args.word.now c.with_positional.result c.with_positional.ensures.waits
    c.in_default.is plain c.with_positional.ensures.steps

pub returns-in-Some-name_and_value : goal.returns-in-Some-name_and_value
returns-in-Some-name_and_value c =
    let dashes : behind_dashes c.args.word.now ≡ Some c.in-Some-behind_dashes.text.now = sym c.behind_dashes.ensures ∙ ap now_of c.in-Some-behind_dashes.is in
    let parts : name_and_value c.in-Some-behind_dashes.text.now ≡ Some (c.in-Some-name_and_value.name.now, c.in-Some-name_and_value.value.now) =
    sym c.name_and_value.ensures ∙ ap now_both c.in-Some-name_and_value.is in
    let known : setting_of c.in-Some-name_and_value.name.now ≡ Some c.in_ok-of.field-0 = sym c.of.ensures ∙ c.in_ok-of.was in
    after_pair (line c.args.command) c.args.self c.args.word.now c.with_value-in-Some-name_and_value.result c.with_value-in-Some-name_and_value.ensures.waits
    _ _ _ c.in_ok-of.field-0 c.in_default.is dashes parts known c.with_value-in-Some-name_and_value.ensures.steps

pub returns-in_err-of : goal.returns-in_err-of
returns-in_err-of c =
    let dashes : behind_dashes c.args.word.now ≡ Some c.in-Some-behind_dashes.text.now = sym c.behind_dashes.ensures ∙ ap now_of c.in-Some-behind_dashes.is in
    let parts : name_and_value c.in-Some-behind_dashes.text.now ≡ Some (c.in-Some-name_and_value.name.now, c.in-Some-name_and_value.value.now) =
    sym c.name_and_value.ensures ∙ ap now_both c.in-Some-name_and_value.is in
    let unknown : setting_of c.in-Some-name_and_value.name.now ≡ None = sym c.of.ensures ∙ c.in_err-of.was in
    rw c.from_residual.ensures (after_unknown_pair (line c.args.command) c.args.self c.args.word.now _ _ _ c.in_default.is dashes parts
    (unknown_option c.args.command _ c.in-Some-name_and_value.value.now unknown))

pub returns-in-Some-of : goal.returns-in-Some-of
returns-in-Some-of c =
    let dashes : behind_dashes c.args.word.now ≡ Some c.in-Some-behind_dashes.text.now = sym c.behind_dashes.ensures ∙ ap now_of c.in-Some-behind_dashes.is in
    let whole : name_and_value c.in-Some-behind_dashes.text.now ≡ None = sym c.name_and_value.ensures ∙ ap now_both c.in_default-name_and_value.is in
    let used : c.in-Some-behind_dashes.text.now ≡ switch_name c.in-Some-of.switch = switch_known _ _ (sym c.of-2.ensures ∙ c.in-Some-of.is) in
    after_switch (line c.args.command) c.args.self c.args.word.now c.with_switch.result c.with_switch.ensures.waits
    _ c.in-Some-of.switch c.in_default.is dashes whole used c.with_switch.ensures.steps

pub returns-in_err-of-2 : goal.returns-in_err-of-2
returns-in_err-of-2 c =
    let dashes : behind_dashes c.args.word.now ≡ Some c.in-Some-behind_dashes.text.now = sym c.behind_dashes.ensures ∙ ap now_of c.in-Some-behind_dashes.is in
    let whole : name_and_value c.in-Some-behind_dashes.text.now ≡ None = sym c.name_and_value.ensures ∙ ap now_both c.in_default-name_and_value.is in
    let other : is_switch c.in-Some-behind_dashes.text.now ≡ false = not_switch c.in-Some-behind_dashes.text.now (sym c.of-2.ensures ∙ c.in_default-of.is) in
    let unknown : setting_of c.in-Some-behind_dashes.text.now ≡ None = sym c.of-3.ensures ∙ c.in_err-of-2.was in
    rw c.from_residual-in_err-of-2.ensures (after_unknown (line c.args.command) c.args.self c.args.word.now _ c.in_default.is dashes whole other
    (λ value. unknown_option c.args.command _ value unknown))

pub returns : goal.returns
returns c =
    let dashes : behind_dashes c.args.word.now ≡ Some c.in-Some-behind_dashes.text.now = sym c.behind_dashes.ensures ∙ ap now_of c.in-Some-behind_dashes.is in
    let whole : name_and_value c.in-Some-behind_dashes.text.now ≡ None = sym c.name_and_value.ensures ∙ ap now_both c.in_default-name_and_value.is in
    let other : is_switch c.in-Some-behind_dashes.text.now ≡ false = not_switch c.in-Some-behind_dashes.text.now (sym c.of-2.ensures ∙ c.in_default-of.is) in
    let known : setting_of c.in-Some-behind_dashes.text.now ≡ Some c.in_ok-of-2.field-0 = sym c.of-3.ensures ∙ c.in_ok-of-2.was in
    after_name (line c.args.command) c.args.self c.args.word.now _ c.in_default.is dashes whole other c.in_ok-of-2.field-0 known
