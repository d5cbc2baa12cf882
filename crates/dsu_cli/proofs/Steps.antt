-- How the words lead from one state to the next.
use Rattle.std.proofs.Common.{◌≡◌, ◌+◌, ◌∙◌, ℕ, suc, zero, Bool, true, false, List, [], ◌∷◌, Option, Some, None, length, drop, refl, sym, ap, arith, true≢false, inl, inr}
use Rattle.std.specs.Prelude.{IfSome, nat_le}
use Rattle.std.specs.Option.{option_map_or}
use Rattle.std.proofs.Math.Bool.{and-true}
use Rattle.std.proofs.lemmas.Bool.{le-leb, lt-leb, and_left}
use Rattle.std.proofs.lemmas.Bool.Decides.{leb_tells}
use Rattle.dsu_cli.proofs.Names.{name_known, name_other, switch_named}
use Rattle.dsu_cli.specs.declared.command.Command.{Command}
use Rattle.dsu_cli.specs.declared.command.Command.TheVariants as command
use Rattle.dsu_cli.specs.declared.setting.Setting.{Setting}
use Rattle.dsu_cli.specs.declared.setting.Switch.{Switch}
use Rattle.dsu_cli.specs.declared.fit.Seen.{Seen}
use Rattle.dsu_cli.specs.Words.{Text, Item, positional, option, Line, line, is_switch, item_fits, items, then_items, behind_dashes, name_and_value, positionals_fit}
use Rattle.dsu_cli.specs.Fit.{Steps, StepsTo, fits_after, fits_from, name_of, next_fits, setting_of, switch_name, times, use_of}

-- ---- the end of the words

once_ends : (b : Bool) → nat_le (times b + 0) 1 ≡ true
once_ends true = refl
once_ends false = refl

both_more : (a b : ℕ) → nat_le a b ≡ nat_le (suc a) (suc b)
both_more a b = elim (leb_tells a b) [
  | inl h ↦ h.0 ∙ sym (le-leb (suc a) (suc b) (omega (arith, h.1)))
  | inr h ↦ h.0 ∙ sym (lt-leb (suc a) (suc b) (omega (arith, h.1)))
]

positionals_end : (tests : List (Text → Bool)) (k : ℕ) → positionals_fit (drop k tests) [] ≡ nat_le (length tests) k
positionals_end [] zero = refl
positionals_end [] (suc k) = sym (le-leb 0 (suc k) (omega arith))
positionals_end (test ∷ tests) zero = sym (lt-leb (length (test ∷ tests)) 0 (omega arith))
positionals_end (test ∷ tests) (suc k) = positionals_end tests k ∙ both_more (length tests) k

pub words_end : (l : Line) (s : Seen) → s.waiting ≡ None → fits_from l s [] ≡ nat_le (length l.positionals) s.positionals
words_end l s none =
    rw (none, once_ends s.workers, once_ends s.moves, once_ends s.objects, once_ends s.engine, once_ends s.journal, once_ends s.explain, le-leb 0 s.offers_left (omega arith), positionals_end l.positionals s.positionals) (and-true _)

-- ---- one more positional

pub next_step : (tests : List (Text → Bool)) (k : ℕ) (word : Text) (words : List Text) → next_fits (drop k tests) word ≡ true
    → positionals_fit (drop k tests) (word ∷ words) ≡ positionals_fit (drop (k + 1) tests) words
next_step [] zero word words fits = absurd (true≢false (sym fits))
next_step [] (suc k) word words fits = absurd (true≢false (sym fits))
next_step (test ∷ tests) zero word words fits = rw fits refl
next_step (test ∷ tests) (suc k) word words fits =
    let next : suc k + 1 ≡ suc (k + 1) = omega arith in
    rw next (next_step tests k word words fits)

-- ---- one more word

by_waiting : (l : Line) (next : Seen) (words : List Text) → next.waiting ≡ None
    → option_map_or (fits_after l next) (items None words) false ≡ fits_from l next words
by_waiting l next words none = rw none refl

step_found : (l : Line) (s : Seen) (item : Item) (next : Option Seen) (found : Option (List Item)) → Steps l s item next
    → option_map_or (fits_after l s) (then_items item found) false ≡ option_map_or (λ n. option_map_or (fits_after l n) found false) next false
step_found l s item None None steps = refl
step_found l s item (Some n) None steps = refl
step_found l s item None (Some its) steps = steps its
step_found l s item (Some n) (Some its) steps = steps its

step_items : (l : Line) (s : Seen) (item : Item) (next : Option Seen) (words : List Text) → Steps l s item next → IfSome next (λ n. n.waiting ≡ None)
    → option_map_or (fits_after l s) (then_items item (items None words)) false ≡ option_map_or (λ n. fits_from l n words) next false
step_items l s item None words steps waits = step_found l s item None (items None words) steps
step_items l s item (Some n) words steps waits = step_found l s item (Some n) (items None words) steps ∙ by_waiting l n words waits

module _ (l : Line) (s : Seen) (word : Text) (next : Option Seen) (waits : IfSome next (λ n. n.waiting ≡ None)) where
  pub after_waiting : (setting : Setting) → s.waiting ≡ Some setting → Steps l s (option (name_of setting) word) next → StepsTo l s word next
  after_waiting setting waiting steps words = rw waiting (step_items l s (option (name_of setting) word) next words steps waits)

  pub after_positional : s.waiting ≡ None → behind_dashes word ≡ None → Steps l s (positional word) next → StepsTo l s word next
  after_positional waiting plain steps words = rw (waiting, plain) (step_items l s (positional word) next words steps waits)

  pub after_pair : (text name value : Text) (setting : Setting) → s.waiting ≡ None → behind_dashes word ≡ Some text
      → name_and_value text ≡ Some (name, value) → setting_of name ≡ Some setting → Steps l s (option (name_of setting) value) next → StepsTo l s word next
  after_pair text name value setting waiting dashes parts known steps words =
      rw (waiting, dashes, parts, name_known name setting known) (step_items l s (option (name_of setting) value) next words steps waits)

  pub after_switch : (text : Text) (used : Switch) → s.waiting ≡ None → behind_dashes word ≡ Some text → name_and_value text ≡ None
      → text ≡ switch_name used → Steps l s (use_of used) next → StepsTo l s word next
  after_switch text used waiting dashes whole is steps words =
      let no_value : is_switch text ≡ true = ap is_switch is ∙ switch_named used in
      rw (waiting, dashes, whole, no_value, is) (step_items l s (use_of used) next words steps waits)

-- an item that the command doesn't have
misfit : (l : Line) (s : Seen) (item : Item) (found : Option (List Item)) → item_fits l item ≡ false → option_map_or (fits_after l s) (then_items item found) false ≡ false
misfit l s item None unknown = refl
misfit l s item (Some its) unknown = and_left _ _ (and_left _ _ unknown)

-- `--name=value` of an option that no command has
pub after_unknown_pair : (l : Line) (s : Seen) (word text name value : Text) → s.waiting ≡ None → behind_dashes word ≡ Some text
    → name_and_value text ≡ Some (name, value) → item_fits l (option name value) ≡ false → StepsTo l s word None
after_unknown_pair l s word text name value waiting dashes parts unknown words =
    rw (waiting, dashes, parts) (misfit l s (option name value) (items None words) unknown)

module _ (l : Line) (s : Seen) (word text : Text) (waiting : s.waiting ≡ None) (dashes : behind_dashes word ≡ Some text)
    (whole : name_and_value text ≡ None) (other : is_switch text ≡ false) where
  -- an option whose value is the next word
  pub after_name : (setting : Setting) → setting_of text ≡ Some setting → StepsTo l s word (Some (record s { waiting = Some setting }))
  after_name setting known words = rw (waiting, dashes, whole, other, name_known text setting known) refl

  -- an option that no command has
  pub after_unknown : ((value : Text) → item_fits l (option text value) ≡ false) → StepsTo l s word None
  after_unknown unknown words = rw (waiting, dashes, whole, other) (never words)
    where
      never : (words : List Text) → option_map_or (fits_after l s) (items (Some text) words) false ≡ false
      never [] = refl
      never (value ∷ words) = misfit l s (option text value) (items None words) (unknown value)

-- no command has an option of another name
pub unknown_option : (c : Command) (name value : Text) → setting_of name ≡ None → item_fits (line c) (option name value) ≡ false
unknown_option command.Run name value none =
    let h = name_other name none in
    rw (h.offer, h.workers, h.moves, h.objects, h.engine) refl
unknown_option command.Replay name value none =
    let h = name_other name none in
    rw (h.offer, h.objects, h.engine) refl
unknown_option command.Check name value none = refl
unknown_option command.Effects name value none = refl
unknown_option command.Changes name value none = refl
unknown_option command.Admits name value none = refl
unknown_option command.Gen name value none = rw (name_other name none).engine refl
