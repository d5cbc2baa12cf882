-- The text of where a run of an older text could take a newer one: what the row of each function's start and of each check-in
-- answers; or why the newer text is no patch of the older one.
use Rattle.std.specs.Prelude.{◌≡◌, ℕ, List, [], ◌∷◌, ◌++◌, map, length, count_by, codes, false, Option, Some, None}
use Rattle.std.specs.Option.{is_none}
use Rattle.std.specs.List.{flat_map, AllZip}
use Rattle.std.specs.List.Sorted.{IsPermutation, IsNonDecreasingBy}
use Rattle.std.specs.Fmt.{decimal}
use Rattle.run_types.specs.CheckIns.{CheckInKind}
use Rattle.con_freeness.specs.Rows.{Names, Row, obstacle}
use Rattle.con_freeness.specs.Verdicts.{Effect}
use Rattle.c_tree.specs.BareExpr.{Bytes}
use Rattle.c_tree.specs.declared.def.Function.{Function}
use Rattle.c_tree.specs.declared.def.Program.{Program}
use Rattle.c_semantics.specs.Changes.{changed, interface}
use Rattle.c_semantics.specs.Texts.{definition}
use Rattle.c_semantics.specs.SourceTexts.{Text, text_of}
use Rattle.c_semantics.specs.Places.{places}
use Rattle.c_semantics.specs.Store.{Body, Mark, Start, CheckInOf, check_in_number, store}
use Rattle.effects.specs.Rows.{IsRowOf}
use Rattle.source_model.specs.declared.patch.NotPatch.{NotPatch}
use Rattle.source_model.specs.Patches.{not_patch}
use Rattle.dsu_report.specs.Answers.{effect_words, cause_words}
use Rattle.check_in_places.specs.Bodies.{body_of}
use Rattle.check_in_places.specs.CheckIns.{CheckIn, check_ins_in, functions, head_text}

-- a check-in: the byte of the older text where it is, its kind, and what its row answers, which is nothing where it admits the
-- newer text and else the effect of a refusal
pub record Line : Type 0 where
  pub place : ℕ
  pub kind : CheckInKind
  pub answer : Option Effect

-- a function: its name, what the row of its start answers, and its check-ins
pub record Block : Type 0 where
  pub function : Bytes
  pub start : Option Effect
  pub lines : List Line

-- an answer in words
abbrev pub answer_words : Option Effect → Bytes
answer_words None = codes "admitted"
answer_words (Some effect) = effect_words effect

-- an answer with the blank before it and the end of its line
abbrev pub answer_end : Option Effect → Bytes
answer_end answer = codes " " ++ answer_words answer ++ codes "\n"

-- the line of a check-in
abbrev pub line_text : Bytes → Line → Bytes
line_text text line = head_text text line.place line.kind ++ answer_end line.answer

-- the first line of a function, and that of its start
abbrev pub title_text : Bytes → Bytes
title_text function = codes "function " ++ function ++ codes ":\n"

abbrev pub start_text : Option Effect → Bytes
start_text answer = codes "  start" ++ answer_end answer

-- the lines of a function
abbrev pub block_text : Bytes → Block → Bytes
block_text text block = title_text block.function ++ start_text block.start ++ flat_map (line_text text) block.lines

-- the answers of a function
abbrev pub answers_of : Block → List (Option Effect)
answers_of block = block.start ∷ map (λ line. line.answer) block.lines

-- the last line: how many answers admit, of how many
abbrev pub count_text : ℕ → ℕ → Bytes
count_text admitted all = codes "admitted at " ++ decimal admitted ++ codes " of " ++ decimal all ++ codes "\n"

-- the last line after some functions
abbrev pub end_text : List Block → Bytes
end_text blocks = let all = flat_map answers_of blocks in count_text (count_by is_none all) (length all)

-- the text where there is no patch, for the bytes of the newer text
abbrev pub cause_text : NotPatch → Bytes → Bytes
cause_text cause newer = codes "not a patch: " ++ cause_words cause newer ++ codes "\n"

-- ---- which text a pair of programs has

-- what the row of a mark answers of a thread that isn't pinned
pub record IsAnswer (bodies : List Body) (changed interface : Names) (mark : Mark) (answer : Option Effect) : Type 0 where
  pub row : Row
  pub row_is : IsRowOf bodies mark row
  pub answer_is : answer ≡ obstacle row false changed interface

-- the line of a check-in of a body has the answer of the check-in's row
pub record IsLineOf (bodies : List Body) (changed interface : Names) (body : Body) (c : CheckIn) (line : Line) : Type 0 where
  pub place : line.place ≡ c.place
  pub kind : line.kind ≡ c.kind
  pub answer : IsAnswer bodies changed interface (CheckInOf body.function body.generation (check_in_number body c.point)) line.answer

-- the lines of a body: one for each of its check-ins, in the order of their places
pub record AreLinesOf (bodies : List Body) (changed interface : Names) (body : Body) (at : List ℕ) (listed : List Line) : Type 0 where
  pub order : List CheckIn
  pub all : IsPermutation (check_ins_in body.skeleton at) order
  pub ascending : IsNonDecreasingBy (λ c. c.place) order
  pub lines : AllZip (IsLineOf bodies changed interface body) order listed

-- the block of a function of a text
pub record IsBlockOf (bodies : List Body) (changed interface : Names) (text : Text) (f : Function) (block : Block) : Type 0 where
  pub function : block.function ≡ f.name.text
  pub start : IsAnswer bodies changed interface (Start f.name.text) block.start
  pub lines : AreLinesOf bodies changed interface (body_of text f) (places (definition text.definitions) f) block.lines

-- the text where some names of p change, among these the interface of some, for the bytes of p: a block for each function of p,
-- in the order of its text, over the store of p alone, and then the count
pub record IsPatchText (p : Program) (text : Bytes) (changed interface : Names) (output : Bytes) : Type 0 where
  pub blocks : List Block
  pub are : AllZip (IsBlockOf (store (text_of p ∷ [])) changed interface (text_of p)) (functions p) blocks
  pub printed : output ≡ flat_map (block_text text) blocks ++ end_text blocks

-- the text by the first cause for which q is no patch of p
abbrev pub IsTextBy : Option NotPatch → Program → Bytes → Program → Bytes → Bytes → Type 0
IsTextBy (Some cause) p text q newer output = output ≡ cause_text cause newer
IsTextBy None p text q newer output =
    let old = (text_of p).definitions in
    let new = (text_of q).definitions in
    IsPatchText p text (changed old new) (interface old new) output

-- the text of two programs, for the bytes from which each was read
abbrev pub IsAdmitsText : Program → Bytes → Program → Bytes → Bytes → Type 0
IsAdmitsText p text q newer output =
    let old = text_of p in IsTextBy (not_patch (store (old ∷ [])) (old ∷ []) (text_of q)) p text q newer output
