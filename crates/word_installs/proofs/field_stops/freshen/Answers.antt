use Rattle.std.proofs.Common.{◌≡◌, None, refl, sym, ◌∙◌}
use Rattle.std.proofs.lemmas.Option.{none-some}
use Rattle.word_data.specs.Stacks.{stack_of}
use Rattle.word_installs.specs.Freshened.{used_handle}
use Rattle.word_installs.proofs.Freshening.{freshens}
use Rattle.word_installs.proofs.field_stops.freshen.Goals as goal

pub returns-in_default-clause-freshens : goal.returns-in_default-clause-freshens
returns-in_default-clause-freshens c = λ t names texts text seen r all last known numbers.
    let d = c.args.shared.now in
    let stack = stack_of c.args.words.now c.args.stack in
    let none : used_handle c.args.stop stack ≡ None = sym c.used_handle.ensures ∙ c.in_default.is in
    freshens texts names seen stack d d t text c.args.stop r (λ e. refl) (λ h tag is uses. absurd (none-some h (sym none ∙ is)))
