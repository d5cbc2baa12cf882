-- Rules whose rows are those of the definitions of effects.
use Rattle.effects.specs.Rows.{AreRows}
use Rattle.source_model.specs.Guards.{Rules}

-- there are such rules
abbrev pub RulesExist : Type 0
RulesExist = (rules : Rules) × AreRows rules.row
