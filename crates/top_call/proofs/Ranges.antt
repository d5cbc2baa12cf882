-- The job of words has at most 63 offers, and a generated program has a function.
use Rattle.std.proofs.Common.{◌≡◌, refl, ◌+◌, ◌<◌, ◌≤◌, Bool, true, false, List, [], ◌∷◌, Option, Some, None, codes, subst, arith}
use Rattle.std.specs.Prelude.{⊤, length, nat_le, nat_lt, option_and_then, if◌then◌else◌}
use Rattle.std.specs.List.{cons_option, filter_map}
use Rattle.std.specs.Str.{all_ascii_digits, bytes_eq}
use Rattle.std.specs.Str.Parse.{digits_value}
use Rattle.std.proofs.lemmas.Bool.{and_parts, leb-true}
use Rattle.dsu_cli.specs.declared.command.Command.{Command}
use Rattle.dsu_cli.specs.declared.command.Command.TheVariants as command
use Rattle.dsu_cli.specs.declared.job.Job.{Job}
use Rattle.dsu_cli.specs.declared.job.Offer.{Offer}
use Rattle.dsu_cli.specs.Words.{Text, Item, positional, option, switch, command_of, fits, items, job, job_if_fits, job_of, is_seed, line, offer_of, offers_of, positionals, positionals_fit, uses, values}
use Rattle.top_call.specs.Words.{IsInRange}

-- an option has no more values than uses
values_few : (name : Text) (its : List Item) → length (values name its) ≤ uses name its
values_few name [] = omega arith
values_few name (positional word ∷ its) = values_few name its
values_few name (switch other ∷ its) = by (bytes_eq other name) (values_few name its)
  where
    by : (b : Bool) → length (values name its) ≤ uses name its
        → length (values name its) ≤ (if b then 1 + uses name its else uses name its)
    by true more = omega (arith, more)
    by false more = more
values_few name (option other value ∷ its) = by (bytes_eq other name) (values_few name its)
  where
    by : (b : Bool) → length (values name its) ≤ uses name its
        → length (if b then value ∷ values name its else values name its) ≤ (if b then 1 + uses name its else uses name its)
    by true more = omega (arith, more)
    by false more = more

-- values that aren't offers are left out
offers_few : (words : List Text) → length (filter_map offer_of words) ≤ length words
offers_few [] = omega arith
offers_few (w ∷ ws) = by (offer_of w) (offers_few ws)
  where
    by : (o : Option Offer) → length (filter_map offer_of ws) ≤ length ws
        → length (cons_option o (filter_map offer_of ws)) ≤ length (w ∷ ws)
    by None more = omega (arith, more)
    by (Some o) more = omega (arith, more)

few : (its : List Item) → uses (codes "offer") its ≤ 63 → length (offers_of its) ≤ 63
few its most =
    let a = offers_few (values (codes "offer") its) in
    let b = values_few (codes "offer") its in
    omega (arith, a, b, most)

-- a size that fits is at least 1
has_function : (seed size : Text) → positionals_fit (line command.Gen).positionals (seed ∷ size ∷ []) ≡ true → 0 < digits_value 10 size
has_function seed size fit =
    leb-true 1 (digits_value 10 size)
    (and_parts _ (nat_le (digits_value 10 size) 200) (and_parts (nat_le (length size) 7) _ (and_parts (nat_lt 0 (length size)) _
    (and_parts (all_ascii_digits size) _ (and_parts _ true (and_parts (is_seed seed) _ fit).1).0).1).1).1).0

-- whatever the positionals are
abbrev if_job : Option Job → Type 0
if_job None = ⊤
if_job (Some j) = IsInRange j

in_job : (c : Command) (its : List Item) (ps : List Text) → uses (codes "offer") its ≤ 63
    → positionals_fit (line c).positionals ps ≡ true → if_job (job c its ps)
in_job command.Run its [] most fit = tt
in_job command.Run its (a ∷ []) most fit = few its most
in_job command.Run its (a ∷ b ∷ ps) most fit = tt
in_job command.Replay its [] most fit = tt
in_job command.Replay its (a ∷ []) most fit = tt
in_job command.Replay its (a ∷ b ∷ []) most fit = few its most
in_job command.Replay its (a ∷ b ∷ c ∷ ps) most fit = tt
in_job command.Check its [] most fit = tt
in_job command.Check its (a ∷ []) most fit = tt
in_job command.Check its (a ∷ b ∷ ps) most fit = tt
in_job command.Effects its [] most fit = tt
in_job command.Effects its (a ∷ []) most fit = tt
in_job command.Effects its (a ∷ b ∷ ps) most fit = tt
in_job command.Changes its [] most fit = tt
in_job command.Changes its (a ∷ []) most fit = tt
in_job command.Changes its (a ∷ b ∷ []) most fit = tt
in_job command.Changes its (a ∷ b ∷ c ∷ ps) most fit = tt
in_job command.Admits its [] most fit = tt
in_job command.Admits its (a ∷ []) most fit = tt
in_job command.Admits its (a ∷ b ∷ []) most fit = tt
in_job command.Admits its (a ∷ b ∷ c ∷ ps) most fit = tt
in_job command.Gen its [] most fit = tt
in_job command.Gen its (a ∷ []) most fit = tt
in_job command.Gen its (a ∷ b ∷ []) most fit = has_function a b fit
in_job command.Gen its (a ∷ b ∷ c ∷ ps) most fit = tt

-- items that fit use `--offer` at most 63 times, and their positionals pass their tests
by_fit : (c : Command) (its : List Item) (b : Bool) → fits (line c) its ≡ b → if_job (if b then job c its (positionals its) else None)
by_fit c its false is = tt
by_fit c its true is =
    let rest = (and_parts _ _ is).1 in
    in_job c its (positionals its) (leb-true (uses (codes "offer") its) 63 (and_parts _ _ (and_parts _ _ rest).1).0) (and_parts _ _ rest).0

by_items : (c : Command) (found : Option (List Item)) → if_job (option_and_then (job_if_fits c) found)
by_items c None = tt
by_items c (Some its) = by_fit c its (fits (line c) its) refl

by_command : (found : Option Command) (words : List Text)
    → if_job (option_and_then (λ c. option_and_then (job_if_fits c) (items None words)) found)
by_command None words = tt
by_command (Some c) words = by_items c (items None words)

by_words : (words : List Text) → if_job (job_of words)
by_words [] = tt
by_words (name ∷ words) = by_command (command_of name) words

pub in_range : (words : List Text) (j : Job) → job_of words ≡ Some j → IsInRange j
in_range words j is = subst if_job is (by_words words)
