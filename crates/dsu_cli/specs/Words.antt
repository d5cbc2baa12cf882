-- The words of a command line: which of them fit, and the job that they name.
use Rattle.std.specs.Prelude.{ℕ, ◌+◌, ◌-◌, ◌^◌, ◌&&◌, ◌||◌, ◌==◌, Bool, true, false, not, List, [], ◌∷◌, length, take, drop, Option, Some, None, option_map, option_and_then, is_some, unwrap_or, slice_get, nat_le, nat_lt, if◌then◌else◌, codes}
use Rattle.std.specs.List.{list_all, list_any, filter_map, position, before_last, after_last}
use Rattle.std.specs.Option.{option_map_or}
use Rattle.std.specs.Str.{bytes_eq, all_ascii_digits}
use Rattle.std.specs.Str.Parse.{digits_value}
use Rattle.dsu_cli.specs.declared.job.Job.{Job}
use Rattle.dsu_cli.specs.declared.job.Job.TheVariants.{Run, Replay, Check, Effects, Changes, Admits, Gen}
use Rattle.dsu_cli.specs.declared.job.Offer.{Offer}
use Rattle.dsu_cli.specs.declared.job.EngineKind.{EngineKind}
use Rattle.dsu_cli.specs.declared.job.EngineKind.TheVariants as engine
use Rattle.dsu_cli.specs.declared.job.Detail.{Detail}
use Rattle.dsu_cli.specs.declared.job.Detail.TheVariants.{Plain, Explained}
use Rattle.dsu_cli.specs.declared.command.Command.{Command}
use Rattle.dsu_cli.specs.declared.command.Command.TheVariants as command

-- the bytes of a word
abbrev pub Text : Type 0
Text = List ℕ

-- ---- values

-- a positional or a value isn't empty and doesn't begin with `-` (45)
abbrev pub is_value : Text → Bool
is_value [] = false
is_value (c ∷ cs) = not (c == 45)

-- a number from `least` to `most`, in decimal digits alone: at least one and at most so many
abbrev pub is_number : ℕ → ℕ → ℕ → Text → Bool
is_number digits least most text =
    all_ascii_digits text && (nat_lt 0 (length text) && (nat_le (length text) digits
    && (nat_le least (digits_value 10 text) && nat_le (digits_value 10 text) most)))

abbrev pub is_workers : Text → Bool
is_workers = is_number 7 1 8

abbrev pub is_moves : Text → Bool
is_moves = is_number 7 1 1600000

abbrev pub is_objects : Text → Bool
is_objects = is_number 7 1 65536

abbrev pub is_seed : Text → Bool
is_seed = is_number 19 0 (2 ^ 63 - 1)

abbrev pub is_size : Text → Bool
is_size = is_number 7 1 200

-- the engine of this name
abbrev pub engine_named : Text → Option EngineKind
engine_named text =
    if bytes_eq text (codes "compiled") then Some engine.Compiled
    else if bytes_eq text (codes "plain") then Some engine.Plain
    else None

-- the name of an engine
abbrev pub is_engine : Text → Bool
is_engine text = is_some (engine_named text)

-- `@`
abbrev pub is_at : ℕ → Bool
is_at c = c == 64

-- the parts of FILE@LINES, cut at its last `@`
abbrev pub file_and_lines : Text → Option (Text × Text)
file_and_lines text = if list_any is_at text then Some (before_last is_at text, after_last is_at text) else None

abbrev pub is_offer : Text → Bool
is_offer text = is_value text && option_map_or (λ parts. nat_lt 0 (length parts.0) && is_number 7 0 1000000 parts.1) (file_and_lines text) false

-- ---- the words after the command

-- what one of them is, or two of them
pub data Item : Type 0 where
  positional : Text → Item
  -- the name of an option and its value: `--name value` or `--name=value`
  option : Text → Text → Item
  -- the name of an option that has no value: `--journal` or `--explain`
  switch : Text → Item

-- what comes after the `--` (45) of an option; none where the word is no option
abbrev pub behind_dashes : Text → Option Text
behind_dashes (a ∷ b ∷ text) = if a == 45 && b == 45 then Some text else None
behind_dashes _ = None

-- the parts of name=value, cut at its first `=` (61)
abbrev pub name_and_value : Text → Option (Text × Text)
name_and_value text = option_map (λ at. (take at text, drop (at + 1) text)) (position (λ c. c == 61) text)

-- the option of this name has no value
abbrev pub is_switch : Text → Bool
is_switch name = bytes_eq name (codes "journal") || bytes_eq name (codes "explain")

-- one item and then these
abbrev pub then_items : Item → Option (List Item) → Option (List Item)
then_items item = option_map (λ items. item ∷ items)

-- the words as items, where an option before them may wait for its value; none where an option's value is missing
abbrev pub items : Option Text → List Text → Option (List Item)
items None [] = Some []
items (Some name) [] = None
items (Some name) (value ∷ words) = then_items (option name value) (items None words)
items None (word ∷ words) = option_map_or (λ text. option_map_or
    (λ parts. then_items (option parts.0 parts.1) (items None words)) (name_and_value text)
    (if is_switch text then then_items (switch text) (items None words) else items (Some text) words))
    (behind_dashes word) (then_items (positional word) (items None words))

-- the positionals, in their order
abbrev pub positionals : List Item → List Text
positionals [] = []
positionals (positional word ∷ items) = word ∷ positionals items
positionals (_ ∷ items) = positionals items

-- the values of an option, in their order
abbrev pub values : Text → List Item → List Text
values name [] = []
values name (option other value ∷ items) = if bytes_eq other name then value ∷ values name items else values name items
values name (_ ∷ items) = values name items

-- the item uses the option, and how many do
abbrev pub is_use : Text → Item → Bool
is_use name (positional _) = false
is_use name (option other _) = bytes_eq other name
is_use name (switch other) = bytes_eq other name

abbrev pub uses : Text → List Item → ℕ
uses name [] = 0
uses name (item ∷ items) = if is_use name item then 1 + uses name items else uses name items

-- ---- the commands

-- what a command takes: a test for each of its positionals, its options with a test for their value, and its
-- options without a value
pub record Line : Type 0 where
  pub positionals : List (Text → Bool)
  pub options : List (Text × (Text → Bool))
  pub switches : List Text

abbrev pub line : Command → Line
-- run FILE [--offer FILE@LINES]... [--workers W] [--moves N] [--objects N] [--engine E] [--journal] [--explain]
line command.Run = record {
  positionals = is_value ∷ [];
  options = (codes "offer", is_offer) ∷ (codes "workers", is_workers) ∷ (codes "moves", is_moves) ∷ (codes "objects", is_objects) ∷ (codes "engine", is_engine) ∷ [];
  switches = codes "journal" ∷ codes "explain" ∷ [];
}
-- replay FILE JOURNAL [--offer FILE@LINES]... [--objects N] [--engine E] [--explain]
line command.Replay = record {
  positionals = is_value ∷ is_value ∷ [];
  options = (codes "offer", is_offer) ∷ (codes "objects", is_objects) ∷ (codes "engine", is_engine) ∷ [];
  switches = codes "explain" ∷ [];
}
-- check FILE [--explain]
line command.Check = record { positionals = is_value ∷ []; options = []; switches = codes "explain" ∷ [] }
-- effects FILE [--explain]
line command.Effects = record { positionals = is_value ∷ []; options = []; switches = codes "explain" ∷ [] }
-- changes OLD NEW [--explain]
line command.Changes = record { positionals = is_value ∷ is_value ∷ []; options = []; switches = codes "explain" ∷ [] }
-- admits OLD NEW [--explain]
line command.Admits = record { positionals = is_value ∷ is_value ∷ []; options = []; switches = codes "explain" ∷ [] }
-- gen SEED SIZE [--engine E] [--explain]
line command.Gen = record { positionals = is_seed ∷ is_size ∷ []; options = (codes "engine", is_engine) ∷ []; switches = codes "explain" ∷ [] }

-- an item is one that the command has; a positional is tested by its place
abbrev pub item_fits : Line → Item → Bool
item_fits l (positional word) = true
item_fits l (option name value) = list_any (λ o. bytes_eq name o.0 && o.1 value) l.options
item_fits l (switch name) = list_any (bytes_eq name) l.switches

-- there are as many positionals as tests, and each passes its own
abbrev pub positionals_fit : List (Text → Bool) → List Text → Bool
positionals_fit [] [] = true
positionals_fit (test ∷ tests) (word ∷ words) = test word && positionals_fit tests words
positionals_fit _ _ = false

abbrev pub is_once : Text → List Item → Bool
is_once name items = nat_le (uses name items) 1

-- the items fit the command: every option but `--offer` is at most once, and that at most 63 times
abbrev pub fits : Line → List Item → Bool
fits l items = list_all (item_fits l) items && (positionals_fit l.positionals (positionals items)
    && (nat_le (uses (codes "offer") items) 63 && (is_once (codes "workers") items
    && (is_once (codes "moves") items && (is_once (codes "objects") items && (is_once (codes "engine") items
    && (is_once (codes "journal") items && is_once (codes "explain") items)))))))

-- ---- the job of items that fit

abbrev pub offer_of : Text → Option Offer
offer_of text = option_map (λ parts. record { file = parts.0; lines = digits_value 10 parts.1 }) (file_and_lines text)

-- of items that fit, each value is an offer
abbrev pub offers_of : List Item → List Offer
offers_of items = filter_map offer_of (values (codes "offer") items)

-- the number that is an option's value, where it stands
abbrev pub number_of : Text → List Item → Option ℕ
number_of name items = option_map (digits_value 10) (slice_get (values name items) 0)

-- the engine that the items name; the compiled one where they name none
abbrev pub engine_of : List Item → EngineKind
engine_of items = unwrap_or (option_and_then engine_named (slice_get (values (codes "engine") items) 0)) engine.Compiled

-- the job of a command, by its items and, in their order, its positionals
abbrev pub job : Command → List Item → List Text → Option Job
job command.Run items (file ∷ []) = Some (Run (record {
  file = file;
  offers = offers_of items;
  workers = number_of (codes "workers") items;
  moves = unwrap_or (number_of (codes "moves") items) 1000000;
  objects = unwrap_or (number_of (codes "objects") items) 4096;
  engine = engine_of items;
  journal = nat_lt 0 (uses (codes "journal") items);
}))
job command.Replay items (file ∷ journal ∷ []) = Some (Replay (record {
  file = file;
  journal = journal;
  offers = offers_of items;
  objects = unwrap_or (number_of (codes "objects") items) 4096;
  engine = engine_of items;
}))
job command.Check items (file ∷ []) = Some (Check file)
job command.Effects items (file ∷ []) = Some (Effects file)
job command.Changes items (old ∷ new ∷ []) = Some (Changes old new)
job command.Admits items (old ∷ new ∷ []) = Some (Admits old new)
job command.Gen items (seed ∷ size ∷ []) = Some (Gen (digits_value 10 seed) (digits_value 10 size) (engine_of items))
job _ items _ = None

-- the command of a name
abbrev pub command_of : Text → Option Command
command_of name =
    if bytes_eq name (codes "run") then Some command.Run
    else if bytes_eq name (codes "replay") then Some command.Replay
    else if bytes_eq name (codes "check") then Some command.Check
    else if bytes_eq name (codes "effects") then Some command.Effects
    else if bytes_eq name (codes "changes") then Some command.Changes
    else if bytes_eq name (codes "admits") then Some command.Admits
    else if bytes_eq name (codes "gen") then Some command.Gen
    else None

abbrev pub job_if_fits : Command → List Item → Option Job
job_if_fits c items = if fits (line c) items then job c items (positionals items) else None

-- explained where the items use `--explain`
abbrev pub detail_of_items : List Item → Detail
detail_of_items items = if nat_lt 0 (uses (codes "explain") items) then Explained else Plain

-- the job of the words; none where they fit no line
abbrev pub job_of : List Text → Option Job
job_of [] = None
job_of (name ∷ words) = option_and_then (λ c. option_and_then (job_if_fits c) (items None words)) (command_of name)

-- explained where the words after the command use `--explain`; plain otherwise, also where they can't be cut into items
abbrev pub detail_of : List Text → Detail
detail_of [] = Plain
detail_of (name ∷ words) = option_map_or detail_of_items (items None words) Plain
