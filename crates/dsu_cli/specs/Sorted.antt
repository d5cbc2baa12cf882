-- What the private functions say that read the words by `clap`. Nothing that `read_words` promises rests on these.
use Rattle.std.specs.Prelude.{◌≡◌, ◌&&◌, Bool, true, List, [], ◌∷◌, length, Some, None, is_some, option_and_then, slice_get, unwrap_or, codes}
use Rattle.std.specs.List.{list_all}
use Rattle.clap.specs.Words.{App, Rule, all_of, found_of, new_app, new_rule, rows_of, with_rule}
use Rattle.clap.specs.Simple.{on_top}
use Rattle.clap.specs.declared.parser.matches.ArgMatches.{ArgMatches}
use Rattle.clap.specs.declared.builder.action.ArgAction.TheVariants.{Append}
use Rattle.dsu_cli.specs.declared.command.Command.{Command}
use Rattle.dsu_cli.specs.declared.job.EngineKind.{EngineKind}
use Rattle.dsu_cli.specs.declared.job.EngineKind.TheVariants as engine
use Rattle.dsu_cli.specs.declared.job.Job.{Job}
use Rattle.dsu_cli.specs.Words.{Text, Item, engine_named, fits, is_switch, items, is_value, job, line, option, positional, positionals, switch, uses, values}
use Rattle.dsu_cli.specs.declared.setting.Setting.{Setting}
use Rattle.dsu_cli.specs.declared.setting.Switch.{Switch}
use Rattle.dsu_cli.specs.Fit.{name_of, setting_of, switch_name}

-- each positional is one more value of `files`
abbrev pub files_rule : Rule
files_rule = record (new_rule (codes "files")) { action = Some Append }

-- each use of an option is one more value
abbrev pub option_rule : Text → Rule
option_rule name = record (new_rule name) { long = Some name; action = Some Append }

-- an option without a value has `true` for one
abbrev pub switch_rule : Text → Rule
switch_rule name = record (option_rule name) { range = Some (record { start_inclusive = 0; end_inclusive = 0 }); missing = codes "true" ∷ [] }

abbrev pub app : App
app = with_rule (with_rule (with_rule (with_rule (with_rule (with_rule (with_rule (with_rule
    (on_top (λ s. record s { no_binary_name = true; disable_help_flag = true }) (new_app (codes "ginseng")))
    files_rule) (option_rule (codes "offer"))) (option_rule (codes "workers"))) (option_rule (codes "moves")))
    (option_rule (codes "objects"))) (option_rule (codes "engine"))) (switch_rule (codes "journal"))) (switch_rule (codes "explain"))

-- the values of an argument, in their order
abbrev pub given : Text → ArgMatches → List Text
given id m = unwrap_or (all_of id (rows_of (found_of m))) []

-- the engine that they name
abbrev pub engine_given : ArgMatches → EngineKind
engine_given m = unwrap_or (option_and_then engine_named (slice_get (given (codes "engine") m) 0)) engine.Compiled

-- the item is a positional or an option of some command, with a value that can be one
abbrev pub is_known : Item → Bool
is_known (positional word) = is_value word
is_known (option name value) = is_some (setting_of name) && is_value value
is_known (switch name) = is_switch name

-- the words are items that some command may have
pub record AreKnown (words : List Text) (its : List Item) : Type 0 where
  pub are : items None words ≡ Some its
  pub known : list_all is_known its ≡ true

-- the matches have the items' words by their names
pub record Sorts (its : List Item) (m : ArgMatches) : Type 0 where
  pub files : given (codes "files") m ≡ positionals its
  pub options : (s : Setting) → given (name_of s) m ≡ values (name_of s) its
  pub switches : (s : Switch) → length (given (switch_name s) m) ≡ uses (switch_name s) its

-- the matches are of words that fit the command
pub record IsRead (c : Command) (m : ArgMatches) : Type 0 where
  pub its : List Item
  pub sorts : Sorts its m
  pub fit : fits (line c) its ≡ true

-- the job of the items that were sorted
abbrev pub IsJobOf : Command → ArgMatches → Job → Type 0
IsJobOf c m result = (its : List Item) → Sorts its m → fits (line c) its ≡ true → job c its (positionals its) ≡ Some result
