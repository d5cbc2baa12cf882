use Rattle.std.proofs.Common.{ℕ, sym, subst, ◌∙◌}
use Rattle.image_load.specs.Numbering.{IsNumber}
use Rattle.image_load.proofs.NameLists.{unplaced}
use Rattle.image_load.proofs.NameNumbers.{is_number}
use Rattle.image_load.proofs.tables.number.Goals as goal

pub returns-clause-number : goal.returns-clause-number
returns-clause-number c = λ names has.
    subst (λ (n : ℕ). IsNumber names c.args.name.now n) (sym c.in_ok-small.ensures)
    (is_number c.args.places.now names c.args.name.now c.in-Some.place has (sym c.find.ensures ∙ c.in-Some.is))

pub returns-in_default-clause-fault : goal.returns-in_default-clause-fault
returns-in_default-clause-fault c = λ names has there.
    absurd (unplaced names c.args.name.now (sym (has c.args.name.now) ∙ sym c.find.ensures ∙ c.in_default.is) there)
