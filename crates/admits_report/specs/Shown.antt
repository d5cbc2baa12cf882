-- What the parts of a report show: lines and blocks of the text, by a table of names.
use Rattle.std.specs.Prelude.{List, ◌∷◌, map, Option}
use Rattle.std.specs.Option.{option_map}
use Rattle.name_sets.specs.Texts.{text_of}
use Rattle.c_tree.specs.BareExpr.{Bytes}
use Rattle.con_freeness.specs.declared.refusal.Effect.{Effect as EffectOfIds}
use Rattle.con_freeness.specs.Verdicts.{Effect, effect_seen}
use Rattle.skeletons.specs.Meaning.{check_in_of}
use Rattle.admits_report.specs.declared.answers.CheckInAnswer.{CheckInAnswer}
use Rattle.admits_report.specs.declared.answers.FunctionAnswers.{FunctionAnswers}
use Rattle.admits_report.specs.AdmitsText.{Line, Block}

-- an answer
abbrev pub answer_shown : List Bytes → Option EffectOfIds → Option Effect
answer_shown names answer = option_map (effect_seen names) answer

-- the line of a check-in
abbrev pub line_of : List Bytes → CheckInAnswer → Line
line_of names line = record {
  place = line.spot.at;
  kind = check_in_of line.spot.kind;
  answer = answer_shown names line.answer;
}

-- the block of a function
abbrev pub block_of : List Bytes → FunctionAnswers → Block
block_of names f = record {
  function = text_of names f.function;
  start = answer_shown names f.start;
  lines = map (line_of names) f.lines.items;
}

-- the answers of a function, before their names are shown
abbrev pub ids_of_line : CheckInAnswer → Option EffectOfIds
ids_of_line line = line.answer

abbrev pub ids_of : FunctionAnswers → List (Option EffectOfIds)
ids_of f = f.start ∷ map ids_of_line f.lines.items
