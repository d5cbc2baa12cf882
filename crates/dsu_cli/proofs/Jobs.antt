-- The jobs of items that were sorted.
use Rattle.std.proofs.Common.{◌≡◌, ◌∙◌, ◌++◌, ◌≤◌, append-nil, drop_of_length-le, Bor, map, drop, ℕ, Bool, true, false, true≢false, List, [], ◌∷◌, Option, Some, None, length, refl, sym, ap, codes}
use Rattle.std.specs.Prelude.{nat_lt, slice_get, unwrap_or}
use Rattle.std.specs.Option.{option_and_then, option_map, option_map_or}
use Rattle.std.specs.List.{filter_map, list_all}
use Rattle.std.specs.Str.Parse.{digits_value}
use Rattle.std.proofs.lemmas.Bool.{and_parts}
use Rattle.std.proofs.lemmas.Option.{none-some, same_Some}
use Rattle.clap.specs.declared.parser.matches.ArgMatches.{ArgMatches}
use Rattle.dsu_cli.specs.declared.command.Command.{Command}
use Rattle.dsu_cli.specs.declared.command.Command.TheVariants as command
use Rattle.dsu_cli.specs.declared.setting.Setting.{Setting}
use Rattle.dsu_cli.specs.declared.setting.Setting.TheVariants.{Offer, Workers, Moves, Objects, Engine}
use Rattle.dsu_cli.specs.declared.setting.Switch.TheVariants.{Journal}
use Rattle.dsu_cli.specs.declared.job.Offer as offers
use Rattle.dsu_cli.specs.declared.job.EngineKind.{EngineKind}
use Rattle.dsu_cli.specs.declared.job.EngineKind.TheVariants as engine
use Rattle.dsu_cli.specs.declared.job.Job.{Job}
use Rattle.dsu_cli.specs.declared.job.Job.TheVariants.{Run, Replay, Gen}
use Rattle.dsu_cli.specs.Words.{Text, Item, command_of, engine_named, engine_of, fits, items, job, job_if_fits, job_of, line, offer_of, positionals, positionals_fit}
use Rattle.dsu_cli.specs.Fit.{fits_items, job_of_items, name_of, value_test}
use Rattle.dsu_cli.specs.Sorted.{AreKnown, Sorts, engine_given, given}
use Rattle.dsu_cli.proofs.Fits.{fits_known, values_pass}

-- what was given for an option passes its test
pub given_pass : (c : Command) (its : List Item) (m : ArgMatches) → Sorts its m → fits (line c) its ≡ true → (s : Setting) → list_all (value_test s) (given (name_of s) m) ≡ true
given_pass c its m sorts fit s = ap (list_all (value_test s)) (sorts.options s) ∙ values_pass c s its (and_parts _ _ fit).0

one_positional : (test : Text → Bool) (words : List Text) (file : Text) → positionals_fit (test ∷ []) words ≡ true → slice_get words 0 ≡ Some file → words ≡ file ∷ []
one_positional test [] file fit e = absurd (true≢false (sym fit))
one_positional test (a ∷ []) file fit e = ap (λ x. x ∷ []) (same_Some a file e)
one_positional test (a ∷ b ∷ words) file fit e = absurd (true≢false (sym (and_parts _ _ fit).1))

two_positionals : (first second : Text → Bool) (words : List Text) (a b : Text) → positionals_fit (first ∷ second ∷ []) words ≡ true
    → slice_get words 0 ≡ Some a → slice_get words 1 ≡ Some b → words ≡ a ∷ b ∷ []
two_positionals first second [] a b fit e f = absurd (true≢false (sym fit))
two_positionals first second (x ∷ []) a b fit e f = absurd (true≢false (sym (and_parts _ _ fit).1))
two_positionals first second (x ∷ y ∷ []) a b fit e f = ap (λ z. z ∷ y ∷ []) (same_Some x a e) ∙ ap (λ z. a ∷ z ∷ []) (same_Some y b f)
two_positionals first second (x ∷ y ∷ z ∷ words) a b fit e f = absurd (true≢false (sym (and_parts _ _ (and_parts _ _ fit).1).1))

abbrev number_given : Text → ArgMatches → Option ℕ
number_given id m = option_map (digits_value 10) (slice_get (given id m) 0)

module _ (its : List Item) (m : ArgMatches) (sorts : Sorts its m) where
  engine_is : engine_given m ≡ engine_of its
  engine_is = ap (λ vs. unwrap_or (option_and_then engine_named (slice_get vs 0)) engine.Compiled) (sorts.options Engine)

  pub run_is : (file : Text) (offers : List offers.Offer) (workers : Option ℕ) (moves objects : ℕ) (chosen : EngineKind) (journal : Bool) → fits (line command.Run) its ≡ true
      → slice_get (given (codes "files") m) 0 ≡ Some file → offers ≡ filter_map offer_of (given (codes "offer") m)
      → workers ≡ number_given (codes "workers") m → moves ≡ unwrap_or (number_given (codes "moves") m) 1000000
      → objects ≡ unwrap_or (number_given (codes "objects") m) 4096 → chosen ≡ engine_given m → journal ≡ nat_lt 0 (length (given (codes "journal") m))
      → job command.Run its (positionals its) ≡ Some (Run (record { file = file; offers = offers; workers = workers; moves = moves; objects = objects; engine = chosen; journal = journal }))
  run_is file offers workers moves objects chosen journal fit f o w mo ob en j =
      let words = one_positional _ (positionals its) file (and_parts _ _ (and_parts _ _ fit).1).0 (sym (ap (λ ws. slice_get ws 0) sorts.files) ∙ f) in
      let o-is = o ∙ ap (filter_map offer_of) (sorts.options Offer) in
      let w-is = w ∙ ap (λ vs. option_map (digits_value 10) (slice_get vs 0)) (sorts.options Workers) in
      let mo-is = mo ∙ ap (λ vs. unwrap_or (option_map (digits_value 10) (slice_get vs 0)) 1000000) (sorts.options Moves) in
      let ob-is = ob ∙ ap (λ vs. unwrap_or (option_map (digits_value 10) (slice_get vs 0)) 4096) (sorts.options Objects) in
      let en-is = en ∙ engine_is in
      let j-is = j ∙ ap (nat_lt 0) (sorts.switches Journal) in
      ap (job command.Run its) words
      ∙ sym (λ i. Some (Run (record { file = file; offers = o-is i; workers = w-is i; moves = mo-is i; objects = ob-is i; engine = en-is i; journal = j-is i })))

  pub replay_is : (file journal : Text) (offers : List offers.Offer) (objects : ℕ) (chosen : EngineKind) → fits (line command.Replay) its ≡ true
      → slice_get (given (codes "files") m) 0 ≡ Some file → slice_get (given (codes "files") m) 1 ≡ Some journal
      → offers ≡ filter_map offer_of (given (codes "offer") m) → objects ≡ unwrap_or (number_given (codes "objects") m) 4096 → chosen ≡ engine_given m
      → job command.Replay its (positionals its) ≡ Some (Replay (record { file = file; journal = journal; offers = offers; objects = objects; engine = chosen }))
  replay_is file journal offers objects chosen fit f g o ob en =
      let words = two_positionals _ _ (positionals its) file journal (and_parts _ _ (and_parts _ _ fit).1).0
      (sym (ap (λ ws. slice_get ws 0) sorts.files) ∙ f) (sym (ap (λ ws. slice_get ws 1) sorts.files) ∙ g) in
      let o-is = o ∙ ap (filter_map offer_of) (sorts.options Offer) in
      let ob-is = ob ∙ ap (λ vs. unwrap_or (option_map (digits_value 10) (slice_get vs 0)) 4096) (sorts.options Objects) in
      let en-is = en ∙ engine_is in
      ap (job command.Replay its) words
      ∙ sym (λ i. Some (Replay (record { file = file; journal = journal; offers = o-is i; objects = ob-is i; engine = en-is i })))

  pub gen_is : (seed size : Text) (chosen : EngineKind) → fits (line command.Gen) its ≡ true
      → slice_get (given (codes "files") m) 0 ≡ Some seed → slice_get (given (codes "files") m) 1 ≡ Some size → chosen ≡ engine_given m
      → job command.Gen its (positionals its) ≡ Some (Gen (digits_value 10 seed) (digits_value 10 size) chosen)
  gen_is seed size chosen fit f g en =
      let words = two_positionals _ _ (positionals its) seed size (and_parts _ _ (and_parts _ _ fit).1).0
      (sym (ap (λ ws. slice_get ws 0) sorts.files) ∙ f) (sym (ap (λ ws. slice_get ws 1) sorts.files) ∙ g) in
      ap (job command.Gen its) words ∙ ap (λ e. Some (Gen (digits_value 10 seed) (digits_value 10 size) e)) (sym (en ∙ engine_is))

-- words that fit are known items
pub record Fitting (c : Command) (words : List Text) : Type 0 where
  pub its : List Item
  pub known : AreKnown words its
  pub fit : fits (line c) its ≡ true

pub fitting : (c : Command) (words : List Text) → fits_items (line c) (items None words) ≡ true → Fitting c words
fitting c words is = go (items None words) refl is
  where
    go : (o : Option (List Item)) → items None words ≡ o → option_map_or (fits (line c)) o false ≡ true → Fitting c words
    go None e h = absurd (true≢false (sym h))
    go (Some its) e h = record { its = its; known = record { are = e; known = fits_known c its h }; fit = h }

pub job_read : (c : Command) (words : List Text) (its : List Item) (j : Job) → items None words ≡ Some its → fits (line c) its ≡ true
    → job c its (positionals its) ≡ Some j → job_of_items c (items None words) ≡ Some j
job_read c words its j are fit is = ap (job_of_items c) are ∙ (rw fit is)

-- the texts of all words
pub all_words : (slice texts : List (Bor Text)) (words : List Text) (i : ℕ) → slice ≡ texts → map (λ t. t.now) texts ++ drop i words ≡ words → length words ≤ i
    → map (λ t. t.now) slice ≡ words
all_words slice texts words i is inv past =
    ap (map (λ t. t.now)) is ∙ sym (append-nil _) ∙ ap (λ rest. map (λ t. t.now) texts ++ rest) (sym (drop_of_length-le words past)) ∙ inv

-- ---- whether there is a job

some_job : (c : Command) (its : List Item) (words : List Text) → positionals_fit (line c).positionals words ≡ true → job c its words ≡ None → ⊥
some_job command.Run its [] fit e = true≢false (sym fit)
some_job command.Run its (a ∷ []) fit e = none-some _ (sym e)
some_job command.Run its (a ∷ b ∷ words) fit e = true≢false (sym (and_parts _ _ fit).1)
some_job command.Replay its [] fit e = true≢false (sym fit)
some_job command.Replay its (a ∷ []) fit e = true≢false (sym (and_parts _ _ fit).1)
some_job command.Replay its (a ∷ b ∷ []) fit e = none-some _ (sym e)
some_job command.Replay its (a ∷ b ∷ d ∷ words) fit e = true≢false (sym (and_parts _ _ (and_parts _ _ fit).1).1)
some_job command.Check its [] fit e = true≢false (sym fit)
some_job command.Check its (a ∷ []) fit e = none-some _ (sym e)
some_job command.Check its (a ∷ b ∷ words) fit e = true≢false (sym (and_parts _ _ fit).1)
some_job command.Effects its [] fit e = true≢false (sym fit)
some_job command.Effects its (a ∷ []) fit e = none-some _ (sym e)
some_job command.Effects its (a ∷ b ∷ words) fit e = true≢false (sym (and_parts _ _ fit).1)
some_job command.Changes its [] fit e = true≢false (sym fit)
some_job command.Changes its (a ∷ []) fit e = true≢false (sym (and_parts _ _ fit).1)
some_job command.Changes its (a ∷ b ∷ []) fit e = none-some _ (sym e)
some_job command.Changes its (a ∷ b ∷ d ∷ words) fit e = true≢false (sym (and_parts _ _ (and_parts _ _ fit).1).1)
some_job command.Admits its [] fit e = true≢false (sym fit)
some_job command.Admits its (a ∷ []) fit e = true≢false (sym (and_parts _ _ fit).1)
some_job command.Admits its (a ∷ b ∷ []) fit e = none-some _ (sym e)
some_job command.Admits its (a ∷ b ∷ d ∷ words) fit e = true≢false (sym (and_parts _ _ (and_parts _ _ fit).1).1)
some_job command.Gen its [] fit e = true≢false (sym fit)
some_job command.Gen its (a ∷ []) fit e = true≢false (sym (and_parts _ _ fit).1)
some_job command.Gen its (a ∷ b ∷ []) fit e = none-some _ (sym e)
some_job command.Gen its (a ∷ b ∷ d ∷ words) fit e = true≢false (sym (and_parts _ _ (and_parts _ _ fit).1).1)

pub job_found : (c : Command) (found : Option (List Item)) → fits_items (line c) found ≡ true → job_of_items c found ≡ None → ⊥
job_found c None fit e = true≢false (sym fit)
job_found c (Some its) fit e = some_job c its (positionals its) (and_parts _ _ (and_parts _ _ fit).1).0 (rw fit at e)

pub job_missing : (c : Command) (found : Option (List Item)) → fits_items (line c) found ≡ false → job_of_items c found ≡ None
job_missing c None fit = refl
job_missing c (Some its) fit = rw fit refl

-- the words after a command's name
pub job_of_command : (words rest : List Text) (name : Text) (c : Command) → words ≡ name ∷ rest → command_of name ≡ Some c → job_of words ≡ job_of_items c (items None rest)
job_of_command words rest name c is named = ap job_of is ∙ ap (λ o. option_and_then (λ k. option_and_then (job_if_fits k) (items None rest)) o) named
