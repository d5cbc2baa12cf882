-- What the parts of a report show: the names of a set by a table, and the lines and blocks of the text.
use Rattle.std.specs.Prelude.{ℕ, zero, suc, ◌<◌, ◌==◌, List, [], ◌∷◌, ◌++◌, length, map, slice_index, if◌then◌else◌}
use Rattle.std.specs.Int.{bit_at}
use Rattle.name_sets.specs.Texts.{text_of}
use Rattle.con_freeness.specs.Rows.{Names, Row}
use Rattle.c_tree.specs.BareExpr.{Bytes}
use Rattle.skeletons.specs.Meaning.{check_in_of}
use Rattle.contextual_effects.specs.Effects.{Sets}
use Rattle.check_in_places.specs.declared.section.Spot.{Spot}
use Rattle.check_in_places.specs.declared.section.Section.{Section}
use Rattle.effects_report.specs.EffectsText.{Line, Block}

-- a name, if its id is in a set
abbrev pub name_if : List Bytes → ℕ → ℕ → Names
name_if names set id = if bit_at set id == 1 then text_of names id ∷ [] else []

-- the names of a set whose ids are below a number, in the order of the ids
abbrev pub names_below : List Bytes → ℕ → ℕ → Names
names_below names set zero = []
names_below names set (suc id) = names_below names set id ++ name_if names set id

-- the names of a set
abbrev pub names_in : List Bytes → ℕ → Names
names_in names set = names_below names set (length names)

-- the three sets at a place of the flow
abbrev pub row_at : List Bytes → Sets → ℕ → Row
row_at names sets at = record {
  prior = names_in names (slice_index sets.prior at);
  future = names_in names (slice_index sets.future at);
  concrete = names_in names (slice_index sets.concrete at);
}

-- the line of a check-in
abbrev pub line_of : List Bytes → Sets → Spot → Line
line_of names sets spot = record { place = spot.at; kind = check_in_of spot.kind; effects = row_at names sets spot.point }

-- the block of a function
abbrev pub block_of : List Bytes → Sets → Section → Block
block_of names sets section = record {
  function = text_of names section.function;
  standard = names_in names (slice_index sets.standard section.function);
  lines = map (line_of names sets) section.spots.items;
}

-- a function can be written: its name is in the table
pub record IsReady (names : List Bytes) (section : Section) : Type 0 where
  pub named : section.function < length names
