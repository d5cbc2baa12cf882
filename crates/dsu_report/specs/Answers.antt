-- What standard error has for the answers to offers.
use Rattle.std.specs.Prelude.{ℕ, suc, List, [], ◌++◌, codes, length, get_or}
use Rattle.std.specs.Fmt.{decimal}
use Rattle.std.specs.List.{flat_map, range_with_len}
use Rattle.con_freeness.specs.Verdicts.{Effect, Concrete, Both, Pinned}
use Rattle.source_model.specs.declared.patch.NotPatch.{NotPatch}
use Rattle.source_model.specs.declared.patch.NotPatch.TheVariants.{Versions, Names, Kind, Transform, StoreFull}
use Rattle.source_model.specs.Answers.{Answer, Installed, RefusedFor, NoPatch, Withdrawn, NotOffered}
use Rattle.dsu_report.specs.Places.{line_at, column_at}

-- the effect by which a row doesn't admit a patch, with the names that show it
abbrev pub effect_words : Effect → List ℕ
effect_words (Concrete z) = codes "concrete " ++ z
effect_words (Both y z) = codes "both " ++ y ++ codes " " ++ z
effect_words (Pinned z) = codes "pinned " ++ z

-- why a text is no patch; the place of a transformer's fault is shown by its line and its column in the text
abbrev pub cause_words : NotPatch → List ℕ → List ℕ
cause_words Versions text = codes "versions"
cause_words Names text = codes "names"
cause_words (Kind name) text = codes "kind " ++ name
cause_words (Transform at) text =
    codes "transform " ++ decimal (line_at text at) ++ codes ":" ++ decimal (column_at text at)
cause_words StoreFull text = codes "store full"

-- what was answered to the offer of a text
abbrev pub answer_words : Answer → List ℕ → List ℕ
answer_words (Installed version) text = codes "installed as version " ++ decimal version
answer_words (RefusedFor r) text = codes "refused: thread " ++ decimal r.slot ++ codes " " ++ effect_words r.effect
answer_words (NoPatch cause) text = codes "not a patch: " ++ cause_words cause text
answer_words Withdrawn text = codes "withdrawn"
answer_words NotOffered text = codes "not offered"

-- the line of offer k
abbrev pub answer_line : ℕ → Answer → List ℕ → List ℕ
answer_line k answer text = codes "# offer " ++ decimal k ++ codes " " ++ answer_words answer text ++ codes "\n"

-- the line of the offer at a place in the order of the words, counted from 0; offers are numbered from 1
abbrev pub line_of_offer : List Answer → List (List ℕ) → ℕ → List ℕ
line_of_offer answers texts at = answer_line (suc at) (get_or answers at NotOffered) (get_or texts at [])

-- a line for each answer, in the order of the offers; `texts` are those that were offered
abbrev pub answers_text : List Answer → List (List ℕ) → List ℕ
answers_text answers texts = flat_map (line_of_offer answers texts) (range_with_len 0 (length answers))
