use Rattle.std.proofs.Common.{option_copied, ap, subst}
use Rattle.word_layouts.specs.TextLayouts.{IsLayout, IsLayoutOf}
use Rattle.word_layouts.proofs.Preparing.{is_gone, is_zero}
use Rattle.word_layouts.proofs.preparation.change_of.Goals as goal

pub returns-in-None : goal.returns-in-None
returns-in-None c = λ p q tag was is named are.
    is_gone p q tag (subst (IsLayoutOf q tag) (ap option_copied c.in-None.is) is)

pub returns-in-None-old : goal.returns-in-None-old
returns-in-None-old c = λ p q tag was is named are.
    let new : IsLayout q tag c.in-Some.field-0.now = subst (IsLayoutOf q tag) (ap option_copied c.in-Some.is) is in
    is_zero p q tag (subst (IsLayoutOf p tag) (ap option_copied c.in-None-old.is) was) new.defined

pub returns-in-Some-old : goal.returns-in-Some-old
returns-in-Some-old c = λ p q tag was is named are.
    let new : IsLayout q tag c.in-Some.field-0.now = subst (IsLayoutOf q tag) (ap option_copied c.in-Some.is) is in
    c.converted.ensures p q tag (subst (IsLayoutOf p tag) (ap option_copied c.in-Some-old.is) was) new.defined named are
