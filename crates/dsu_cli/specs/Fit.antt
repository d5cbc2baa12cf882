-- What the private functions say that test the words. Nothing that `read_words` promises rests on these.
use Rattle.std.specs.Prelude.{◌≡◌, ◌+◌, ◌&&◌, ℕ, Bool, true, false, List, [], ◌∷◌, drop, Option, Some, None, option_map, option_and_then, nat_le, codes, if◌then◌else◌}
use Rattle.std.specs.List.{list_all}
use Rattle.std.specs.Option.{option_map_or}
use Rattle.std.specs.Str.{bytes_eq}
use Rattle.dsu_cli.specs.declared.setting.Setting.{Setting}
use Rattle.dsu_cli.specs.declared.setting.Setting.TheVariants.{Offer, Workers, Moves, Objects, Engine}
use Rattle.dsu_cli.specs.declared.setting.Switch.{Switch}
use Rattle.dsu_cli.specs.declared.setting.Switch.TheVariants.{Journal, Explain}
use Rattle.dsu_cli.specs.declared.command.Command.{Command}
use Rattle.dsu_cli.specs.declared.job.Job.{Job}
use Rattle.dsu_cli.specs.declared.command.Command.TheVariants as command
use Rattle.dsu_cli.specs.declared.fit.Seen.{Seen}
use Rattle.dsu_cli.specs.Words.{Text, Item, Line, item_fits, items, fits, is_engine, is_offer, is_workers, is_moves, is_objects, job_if_fits, positionals, positionals_fit, switch, uses}

-- the option with a value that has this name
abbrev pub setting_of : Text → Option Setting
setting_of name =
    if bytes_eq name (codes "offer") then Some Offer
    else if bytes_eq name (codes "workers") then Some Workers
    else if bytes_eq name (codes "moves") then Some Moves
    else if bytes_eq name (codes "objects") then Some Objects
    else if bytes_eq name (codes "engine") then Some Engine
    else None

-- the test of its value
abbrev pub value_test : Setting → Text → Bool
value_test Offer = is_offer
value_test Workers = is_workers
value_test Moves = is_moves
value_test Objects = is_objects
value_test Engine = is_engine

abbrev pub name_of : Setting → Text
name_of Offer = codes "offer"
name_of Workers = codes "workers"
name_of Moves = codes "moves"
name_of Objects = codes "objects"
name_of Engine = codes "engine"

-- the option without a value that has this name
abbrev pub switch_of : Text → Option Switch
switch_of name =
    if bytes_eq name (codes "journal") then Some Journal
    else if bytes_eq name (codes "explain") then Some Explain
    else None

abbrev pub switch_name : Switch → Text
switch_name Journal = codes "journal"
switch_name Explain = codes "explain"

-- the item that uses it
abbrev pub use_of : Switch → Item
use_of s = switch (switch_name s)

-- the command has the option with a value
abbrev pub has : Command → Setting → Bool
has command.Run _ = true
has command.Replay Offer = true
has command.Replay Objects = true
has command.Replay Engine = true
has command.Gen Engine = true
has _ _ = false

-- the next positional passes its test
abbrev pub next_fits : List (Text → Bool) → Text → Bool
next_fits [] word = false
next_fits (test ∷ tests) word = test word

-- how often that is
abbrev pub times : Bool → ℕ
times false = 0
times true = 1

-- the items fit after those that were seen
abbrev pub fits_after : Line → Seen → List Item → Bool
fits_after l seen items = list_all (item_fits l) items && (positionals_fit (drop seen.positionals l.positionals) (positionals items)
    && (nat_le (uses (codes "offer") items) seen.offers_left && (nat_le (times seen.workers + uses (codes "workers") items) 1
    && (nat_le (times seen.moves + uses (codes "moves") items) 1 && (nat_le (times seen.objects + uses (codes "objects") items) 1
    && (nat_le (times seen.engine + uses (codes "engine") items) 1 && (nat_le (times seen.journal + uses (codes "journal") items) 1
    && nat_le (times seen.explain + uses (codes "explain") items) 1)))))))

-- the words fit after those that were seen
abbrev pub fits_from : Line → Seen → List Text → Bool
fits_from l seen words = option_map_or (fits_after l seen) (items (option_map name_of seen.waiting) words) false

-- the words could be cut into items, and these fit
abbrev pub fits_items : Line → Option (List Item) → Bool
fits_items l found = option_map_or (fits l) found false

-- one more item leads to the next, or to none where nothing after it can fit
abbrev pub Steps : Line → Seen → Item → Option Seen → Type 0
Steps l seen item next = (items : List Item) → fits_after l seen (item ∷ items) ≡ option_map_or (λ s. fits_after l s items) next false

-- one more word
abbrev pub StepsTo : Line → Seen → Text → Option Seen → Type 0
StepsTo l seen word next = (words : List Text) → fits_from l seen (word ∷ words) ≡ option_map_or (λ s. fits_from l s words) next false

-- the job, where the words could be cut into items
abbrev pub job_of_items : Command → Option (List Item) → Option Job
job_of_items c = option_and_then (job_if_fits c)
