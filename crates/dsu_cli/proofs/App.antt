-- The command that reads the words, as `clap` builds it.
use Rattle.std.proofs.Common.{◌≡◌, true, refl, List, Some, codes}
use Rattle.clap.specs.Words.{Rule, is_simple}
use Rattle.clap.specs.Walk.{arg_by_id, arg_by_index, arg_by_long}
use Rattle.clap.specs.Simple.{Shape, built, filled, with_index}
use Rattle.dsu_cli.specs.declared.setting.Setting.{Setting}
use Rattle.dsu_cli.specs.declared.setting.Setting.TheVariants.{Offer, Workers, Moves, Objects, Engine}
use Rattle.dsu_cli.specs.declared.setting.Switch.{Switch}
use Rattle.dsu_cli.specs.declared.setting.Switch.TheVariants.{Journal, Explain}
use Rattle.dsu_cli.specs.Words.{Text}
use Rattle.dsu_cli.specs.Fit.{name_of, switch_name}
use Rattle.dsu_cli.specs.Sorted.{app, files_rule, option_rule, switch_rule}

pub app_simple : is_simple app ≡ true
app_simple = refl

abbrev pub shape : Shape
shape = (built app).top

abbrev pub rules : List Rule
rules = shape.rules

abbrev pub files_built : Rule
files_built = with_index 1 (filled files_rule)

abbrev pub option_built : Text → Rule
option_built name = filled (option_rule name)

abbrev pub switch_built : Text → Rule
switch_built name = filled (switch_rule name)

pub by_long : (s : Setting) → arg_by_long rules (name_of s) ≡ Some (option_built (name_of s))
by_long Offer = refl
by_long Workers = refl
by_long Moves = refl
by_long Objects = refl
by_long Engine = refl

pub by_id : (s : Setting) → arg_by_id rules (name_of s) ≡ Some (option_built (name_of s))
by_id Offer = refl
by_id Workers = refl
by_id Moves = refl
by_id Objects = refl
by_id Engine = refl

pub files_by_id : arg_by_id rules (codes "files") ≡ Some files_built
files_by_id = refl

pub files_by_index : arg_by_index rules 1 ≡ Some files_built
files_by_index = refl

pub switch_by_long : (s : Switch) → arg_by_long rules (switch_name s) ≡ Some (switch_built (switch_name s))
switch_by_long Journal = refl
switch_by_long Explain = refl
