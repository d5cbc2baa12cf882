use Rattle.std.proofs.Common.{◌≡◌, Some, None, option_copied, sym, ap, ◌∙◌}
use Rattle.source_install.specs.declared.changes.Data.TheVariants.{Struct}
use Rattle.source_install.specs.FoundChanges.{found, transform_in}
use Rattle.word_layouts.proofs.Preparing.{is_conversion, is_same}
use Rattle.word_layouts.proofs.preparation.converted.Goals as goal

pub returns-in_ok-conversion-in-Some : goal.returns-in_ok-conversion-in-Some
returns-in_ok-conversion-in-Some c = λ p q tag was is named are.
    let changes = c.args.changes.now in
    let x = c.in-Some.transform.now in
    let e : transform_in (found Struct changes tag) ≡ Some x =
    ap (λ n. transform_in (found Struct changes n)) (sym (c.as_str-name.ensures ∙ was.named)) ∙ sym c.transform.ensures ∙ ap option_copied c.in-Some.is
    in
    is_conversion p q changes named are tag x c.in_ok-conversion-in-Some.conversion e
    (c.in_ok-conversion-in-Some.ensures.kinds ∙ was.kinds) c.in_ok-conversion-in-Some.ensures.transform

pub returns-in-None : goal.returns-in-None
returns-in-None c = λ p q tag was is named are.
    let changes = c.args.changes.now in
    let e : transform_in (found Struct changes tag) ≡ None =
    ap (λ n. transform_in (found Struct changes n)) (sym (c.as_str-name.ensures ∙ was.named)) ∙ sym c.transform.ensures ∙ ap option_copied c.in-None.is
    in
    is_same p q changes named are tag was.defined is e
