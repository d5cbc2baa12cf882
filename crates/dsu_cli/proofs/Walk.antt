-- What `clap` makes of words that are known items, one after the other.
use Rattle.std.proofs.Common.{◌≡◌, ◌∙◌, ◌&&◌, ◌||◌, true, false, List, [], ◌∷◌, Option, Some, None, refl, sym, ap, codes, true≢false, cond}
use Rattle.std.specs.Prelude.{◌==◌}
use Rattle.std.specs.Option.{option_map_or}
use Rattle.std.specs.Str.{bytes_eq}
use Rattle.std.proofs.lemmas.Bool.{and_from, not-true}
use Rattle.clap.specs.Lexer.{long_of, short_of}
use Rattle.clap.specs.Walk.{Held, Row, Step, Walk, Waiting, after_flag, after_step, arg_by_long, idle, long_met, long_or_other, long_word, next, option as waits_for, plain_word, positional as takes_more, positional_held, reacted, settled_rows, short_or_plain, subcommand_met, subcommand_or_other, trailing, value, walked, with_values, word_met}
use Rattle.clap.specs.Takes.{bundle_passes, flag_word_passes, long_passes, other_passes, positional_passes, settle_passes, step_passes, turn_passes, word_passes}
use Rattle.clap.specs.Values.{reading_of}
use Rattle.clap.specs.declared.builder.value_parser.ValueParser.TheVariants as vp
use Rattle.clap.specs.declared.parser.matches.ValueSource.TheVariants.{CommandLine}
use Rattle.dsu_cli.specs.declared.setting.Setting.{Setting}
use Rattle.dsu_cli.specs.declared.setting.Setting.TheVariants.{Offer, Workers, Moves, Objects, Engine}
use Rattle.dsu_cli.specs.declared.setting.Switch.{Switch}
use Rattle.dsu_cli.specs.Words.{Text, Item, is_value}
use Rattle.dsu_cli.specs.Words as words
use Rattle.dsu_cli.specs.Fit.{name_of, switch_name}
use Rattle.dsu_cli.proofs.App.{rules, shape, option_built, files_built, switch_built, by_long, switch_by_long}

-- one more value of an argument
abbrev pub put : Text → Text → List Row → List Row
put id v = with_values id (reading_of vp.String) CommandLine (v ∷ [])

-- the argument whose value is read last: none, the positionals or an option
pub data Pending : Option (Text × List Text) → Type 0 where
  nothing : Pending None
  file : (word : Text) → Pending (Some (codes "files", word ∷ []))
  last : (s : Setting) (word : Text) → Pending (Some (name_of s, word ∷ []))

pub data Resting : Waiting → Type 0 where
  idle_rests : Resting idle
  more_rests : Resting takes_more

-- a walk between two words
abbrev pub at : List Row → Option (Text × List Text) → Waiting → Walk
at rows pending waiting = record {
  held = record { rows = rows; pending = pending; skip = 0 };
  waiting = waiting;
  position = 1;
  is_trailing = false;
  stopped = None;
}

abbrev pub base : List Row → Option (Text × List Text) → List Row
base rows pending = settled_rows rules pending rows

pub settle_ok : (rows : List Row) (p : Option (Text × List Text)) → Pending p → settle_passes rules false (record { rows = rows; pending = p; skip = 0 }) ≡ true
settle_ok rows _ nothing = refl
settle_ok rows _ (file word) = refl
settle_ok rows _ (last Offer word) = refl
settle_ok rows _ (last Workers word) = refl
settle_ok rows _ (last Moves word) = refl
settle_ok rows _ (last Objects word) = refl
settle_ok rows _ (last Engine word) = refl

-- the step of a word: where it leads, and that it passes
pub record Turns (from : Walk) (word : Text) (to : Walk) : Type 0 where
  pub leads : walked rules [] from word ≡ to
  pub passes : turn_passes shape [] from word ≡ true

abbrev no_subcommand : (w : Waiting) (word : Text) → subcommand_met [] w word ≡ None
no_subcommand idle word = refl
no_subcommand (waits_for id) word = refl
no_subcommand takes_more word = refl

abbrev dashes : Text
dashes = 45 ∷ 45 ∷ []

module _ (w : Waiting) (word : Text) (h : Held) (no_dashes : bytes_eq word dashes ≡ false) where
  abbrev met_from : word_met rules [] false w 1 word h ≡ long_or_other rules w word (long_of word) h
  met_from = ap (λ o. subcommand_or_other rules o w 1 word h) (no_subcommand w word)
      ∙ ap (λ b. cond b (h, trailing 1) (long_or_other rules w word (long_of word) h)) no_dashes

  abbrev passes_from : word_passes shape [] false w word h ≡ flag_word_passes rules false (long_of word) word h
  passes_from = ap (λ o. other_passes shape o word h) (no_subcommand w word) ∙ ap (λ b. b || flag_word_passes rules false (long_of word) word h) no_dashes

  met_plain : long_of word ≡ None → short_of word ≡ None → word_met rules [] false w 1 word h ≡ plain_word rules w word h
  met_plain long short = met_from ∙ ap (λ o. long_or_other rules w word o h) long ∙ ap (λ o. short_or_plain rules w word o h) short

  passes_plain : long_of word ≡ None → short_of word ≡ None → word_passes shape [] false w word h ≡ true
  passes_plain long short = passes_from ∙ ap (λ o. flag_word_passes rules false o word h) long
      ∙ ap (λ o. option_map_or (λ flags. bundle_passes rules false flags h) o true) short

  met_long : (name : Text) (v : Option Text) → long_of word ≡ Some (name, v) → word_met rules [] false w 1 word h ≡ long_word rules w word name v h
  met_long name v long = met_from ∙ ap (λ o. long_or_other rules w word o h) long

  passes_long : (name : Text) (v : Option Text) → long_of word ≡ Some (name, v) → word_passes shape [] false w word h ≡ long_passes rules false (arg_by_long rules name) v h
  passes_long name v long = passes_from ∙ ap (λ o. flag_word_passes rules false o word h) long

-- what `clap` sees in a word that is a value
record IsPlain (word : Text) : Type 0 where
  pub no_dashes : bytes_eq word dashes ≡ false
  pub long : long_of word ≡ None
  pub short : short_of word ≡ None

value_is_plain : (word : Text) → is_value word ≡ true → IsPlain word
value_is_plain [] is = absurd (true≢false (sym is))
value_is_plain (c ∷ cs) is =
    let other : (c == 45) ≡ false = not-true _ is in
    record { no_dashes = ap (λ b. b && bytes_eq cs (45 ∷ [])) other; long = rw other refl; short = rw other refl }

-- the step of a word, from what it is met as
turn_from : (rows : List Row) (p : Option (Text × List Text)) (w : Waiting) (word : Text) (to : Walk) (h : Held) (step : Step)
    → word_met rules [] false w 1 word (record { rows = rows; pending = p; skip = 0 }) ≡ (h, step) → after_step rules word (at rows p w) h step ≡ to
    → word_passes shape [] false w word (record { rows = rows; pending = p; skip = 0 }) ≡ true → step_passes shape 1 h step ≡ true → Turns (at rows p w) word to
unfolding walked
turn_from rows p w word to h step met leads passes steps = record {
  leads = ap (λ (m : Held × Step). after_step rules word (at rows p w) m.0 m.1) met ∙ leads;
  passes = and_from _ _ passes (ap (λ (m : Held × Step). step_passes shape 1 m.0 m.1) met ∙ steps);
}

plain_rests : (w : Waiting) (word : Text) (h : Held) → Resting w → plain_word rules w word h ≡ (h, value)
plain_rests _ word h idle_rests = refl
plain_rests _ word h more_rests = refl

abbrev held_at : List Row → Option (Text × List Text) → Held
held_at rows p = record { rows = rows; pending = p; skip = 0 }

files_held : (rows : List Row) (p : Option (Text × List Text)) (word : Text) → Pending p
    → positional_held rules files_built word (held_at rows p) ≡ held_at (base rows p) (Some (codes "files", word ∷ []))
files_held rows _ word nothing = refl
files_held rows _ word (file v) = refl
files_held rows _ word (last Offer v) = refl
files_held rows _ word (last Workers v) = refl
files_held rows _ word (last Moves v) = refl
files_held rows _ word (last Objects v) = refl
files_held rows _ word (last Engine v) = refl

files_pass : (rows : List Row) (p : Option (Text × List Text)) → Pending p → positional_passes rules false files_built (held_at rows p) ≡ true
files_pass rows _ nothing = refl
files_pass rows _ (file v) = refl
files_pass rows _ (last Offer v) = refl
files_pass rows _ (last Workers v) = refl
files_pass rows _ (last Moves v) = refl
files_pass rows _ (last Objects v) = refl
files_pass rows _ (last Engine v) = refl

module _ (rows : List Row) (p : Option (Text × List Text)) (w : Waiting) (word : Text) (pending : Pending p) (rests : Resting w) where
  abbrev held : Held
  held = held_at rows p

  -- a positional
  pub turn_positional : is_value word ≡ true → Turns (at rows p w) word (at (base rows p) (Some (codes "files", word ∷ [])) takes_more)
  turn_positional is =
      let plain = value_is_plain word is in
      turn_from rows p w word _ held value (met_plain w word held plain.no_dashes plain.long plain.short ∙ plain_rests w word held rests)
      (ap (λ (h : Held). record { held = h; waiting = takes_more; position = 1; is_trailing = false; stopped = None }) (files_held rows p word pending))
      (passes_plain w word held plain.no_dashes plain.long plain.short) (files_pass rows p pending)

  module _ (no_dashes : bytes_eq word dashes ≡ false) where
    -- `--name=value`
    pub turn_pair : (s : Setting) (v : Text) → long_of word ≡ Some (name_of s, Some v) → Turns (at rows p w) word (at (put (name_of s) v (base rows p)) None idle)
    turn_pair s v long =
        let a = option_built (name_of s) in
        turn_from rows p w word _ (reacted rules a (v ∷ []) held) (next idle) (met_long w word held no_dashes (name_of s) (Some v) long
        ∙ ap (λ o. after_flag rules w word (long_met rules o (Some v) held).0 (long_met rules o (Some v) held).1) (by_long s)) refl
        (passes_long w word held no_dashes (name_of s) (Some v) long ∙ ap (λ o. long_passes rules false o (Some v) held) (by_long s) ∙ and_from _ _ (settle_ok rows p pending) refl) refl

    -- `--name` of an option without a value
    pub turn_switch : (s : Switch) → long_of word ≡ Some (switch_name s, None) → Turns (at rows p w) word (at (put (switch_name s) (codes "true") (base rows p)) None idle)
    turn_switch s long =
        let a = switch_built (switch_name s) in
        turn_from rows p w word _ (reacted rules a [] held) (next idle) (met_long w word held no_dashes (switch_name s) None long
        ∙ ap (λ o. after_flag rules w word (long_met rules o None held).0 (long_met rules o None held).1) (switch_by_long s)) refl
        (passes_long w word held no_dashes (switch_name s) None long ∙ ap (λ o. long_passes rules false o None held) (switch_by_long s) ∙ and_from _ _ (settle_ok rows p pending) refl) refl

    -- `--name`, whose value is the next word
    pub turn_name : (s : Setting) → long_of word ≡ Some (name_of s, None)
        → Turns (at rows p w) word (at (base rows p) (Some (name_of s, [])) (waits_for (name_of s)))
    turn_name s long =
        let a = option_built (name_of s) in
        turn_from rows p w word _ (held_at (base rows p) (Some (name_of s, []))) (next (waits_for (name_of s))) (met_long w word held no_dashes (name_of s) None long
        ∙ ap (λ o. after_flag rules w word (long_met rules o None held).0 (long_met rules o None held).1) (by_long s)) refl
        (passes_long w word held no_dashes (name_of s) None long ∙ ap (λ o. long_passes rules false o None held) (by_long s) ∙ settle_ok rows p pending) refl

-- the value of an option
value_met : (s : Setting) (rows : List Row) (word : Text)
    → plain_word rules (waits_for (name_of s)) word (held_at rows (Some (name_of s, []))) ≡ (held_at rows (Some (name_of s, word ∷ [])), next idle)
value_met Offer rows word = refl
value_met Workers rows word = refl
value_met Moves rows word = refl
value_met Objects rows word = refl
value_met Engine rows word = refl

pub turn_value : (rows : List Row) (s : Setting) (word : Text) → is_value word ≡ true
    → Turns (at rows (Some (name_of s, [])) (waits_for (name_of s))) word (at rows (Some (name_of s, word ∷ [])) idle)
turn_value rows s word is =
    let plain = value_is_plain word is in
    let w = waits_for (name_of s) in
    let held = held_at rows (Some (name_of s, [])) in
    turn_from rows _ w word _ (held_at rows (Some (name_of s, word ∷ []))) (next idle) (met_plain w word held plain.no_dashes plain.long plain.short ∙ value_met s rows word) refl
    (passes_plain w word held plain.no_dashes plain.long plain.short) refl

-- ---- all words

-- the value that an item adds
abbrev pub put_item : List Row → Item → List Row
put_item rows (words.positional word) = put (codes "files") word rows
put_item rows (words.option name v) = put name v rows
put_item rows (words.switch name) = put name (codes "true") rows
