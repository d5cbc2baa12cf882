use Rattle.std.proofs.Common.{◌≡◌, ◌∙◌, ap, ap₂, codes, true}
use Rattle.std.proofs.lemmas.Result.{IfOk-weaker}
use Rattle.clap.specs.Words.{App, app_of, new_app, with_rule}
use Rattle.clap.specs.Simple.{app_of_fields, on_top}
use Rattle.dsu_cli.proofs.sorted.parser.Goals as goal

abbrev settled : App
settled = on_top (λ s. record s { no_binary_name = true; disable_help_flag = true }) (new_app (codes "ginseng"))

pub returns : goal.returns
returns c =
    let named = ap app_of_fields c.no_binary_name.ensures ∙ ap (on_top (λ s. record s { no_binary_name = true })) c.new.ensures.app in
    let base : app_of c.disable_help_flag.result ≡ settled =
    ap app_of_fields c.disable_help_flag.ensures ∙ ap (on_top (λ s. record s { disable_help_flag = true })) named in
    let one = c.in_ok-arg.ensures.shape c.files.ensures.local ∙ ap₂ with_rule base c.files.ensures.rule in
    let two = c.in_ok-arg-2.ensures.shape c.option.ensures.local ∙ ap₂ with_rule one c.option.ensures.rule in
    let three = c.in_ok-arg-3.ensures.shape c.option-2.ensures.local ∙ ap₂ with_rule two c.option-2.ensures.rule in
    let four = c.in_ok-arg-4.ensures.shape c.option-3.ensures.local ∙ ap₂ with_rule three c.option-3.ensures.rule in
    let five = c.in_ok-arg-5.ensures.shape c.option-4.ensures.local ∙ ap₂ with_rule four c.option-4.ensures.rule in
    let six = c.in_ok-arg-6.ensures.shape c.option-5.ensures.local ∙ ap₂ with_rule five c.option-5.ensures.rule in
    let seven = c.in_ok-arg-7.ensures.shape c.switch.ensures.local ∙ ap₂ with_rule six c.switch.ensures.rule in
    IfOk-weaker c.arg-8.result _ _ (λ command h. h.shape c.switch-2.ensures.local ∙ ap₂ with_rule seven c.switch-2.ensures.rule) c.arg-8.ensures
