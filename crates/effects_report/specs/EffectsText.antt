-- The text of a program's effects: its functions with their standard effects, and their check-ins with the three sets there.
use Rattle.std.specs.Prelude.{◌≡◌, ℕ, suc, List, [], ◌∷◌, ◌++◌, codes, Some, ⊤}
use Rattle.std.specs.List.{flat_map, AllZip}
use Rattle.std.specs.List.Sorted.{IsPermutation, IsNonDecreasingBy}
use Rattle.run_types.specs.CheckIns.{CheckInKind}
use Rattle.run_types.specs.Skeleton.{Skeleton}
use Rattle.con_freeness.specs.Rows.{Names, Row}
use Rattle.c_tree.specs.BareExpr.{Bytes}
use Rattle.c_tree.specs.Bare.{bare_function}
use Rattle.c_tree.specs.declared.def.Function.{Function as FunctionTree}
use Rattle.c_tree.specs.declared.def.Program.{Program}
use Rattle.c_semantics.specs.Texts.{Definitions, definition}
use Rattle.c_semantics.specs.SourceTexts.{text_of}
use Rattle.c_semantics.specs.Skeletons.{skeleton_of}
use Rattle.c_semantics.specs.Places.{places}
use Rattle.c_semantics.specs.Store.{Body, store}
use Rattle.effects.specs.Standard.{Standard}
use Rattle.effects.specs.Contextual.{Prior, Future}
use Rattle.effects.specs.Concrete.{Concrete}
use Rattle.effects.specs.Rows.{IsSet}
use Rattle.check_in_places.specs.CheckIns.{CheckIn, check_ins_in, functions, head_text}

-- a check-in: the byte of the text where it is, its kind, and the three sets there
pub record Line : Type 0 where
  pub place : ℕ
  pub kind : CheckInKind
  pub effects : Row

-- a function: its name, its standard effect and its check-ins
pub record Block : Type 0 where
  pub function : Bytes
  pub standard : Names
  pub lines : List Line

-- names, each after a blank
abbrev pub names_text : Names → Bytes
names_text = flat_map (λ name. codes " " ++ name)

-- the three sets
abbrev pub row_text : Row → Bytes
row_text row =
    (codes " prior:" ++ names_text row.prior) ++ (codes " future:" ++ names_text row.future)
    ++ (codes " concrete:" ++ names_text row.concrete) ++ codes "\n"

-- the line of a check-in
abbrev pub line_text : Bytes → Line → Bytes
line_text text line = head_text text line.place line.kind ++ row_text line.effects

-- the first line of a function
abbrev pub title_text : Bytes → Names → Bytes
title_text function standard = codes "function " ++ function ++ (codes ":" ++ names_text standard) ++ codes "\n"

-- the lines of a function
abbrev pub block_text : Bytes → Block → Bytes
block_text text block = title_text block.function block.standard ++ flat_map (line_text text) block.lines

-- the text of all functions
abbrev pub blocks_text : Bytes → List Block → Bytes
blocks_text text = flat_map (block_text text)

-- ---- which text a program has

-- the line of a check-in of the body with a number has exactly the three effects at its point
pub record IsLineOf (bodies : List Body) (body : ℕ) (c : CheckIn) (line : Line) : Type 0 where
  pub place : line.place ≡ c.place
  pub kind : line.kind ≡ c.kind
  pub prior : IsSet line.effects.prior (Prior bodies (record { body = body; point = c.point }))
  pub future : IsSet line.effects.future (Future bodies (record { body = body; point = c.point }))
  pub concrete : IsSet line.effects.concrete (Concrete bodies (record { body = body; point = c.point }))

-- the lines of a body: one for each of its check-ins, in the order of their places
pub record AreLinesOf (bodies : List Body) (body : ℕ) (skeleton : Skeleton) (at : List ℕ) (listed : List Line) : Type 0 where
  pub order : List CheckIn
  pub all : IsPermutation (check_ins_in skeleton at) order
  pub ascending : IsNonDecreasingBy (λ c. c.place) order
  pub lines : AllZip (IsLineOf bodies body) order listed

-- the block of a function, whose body has a number among the bodies
pub record IsBlockOf (bodies : List Body) (look : Definitions) (body : ℕ) (f : FunctionTree) (block : Block) : Type 0 where
  pub function : block.function ≡ f.name.text
  pub standard : IsSet block.standard (Standard bodies f.name.text)
  pub lines : AreLinesOf bodies body (skeleton_of look (Some (bare_function f))) (places look f) block.lines

-- a block for each function, whose bodies have the numbers from one on
abbrev pub AreBlocksFrom : List Body → Definitions → ℕ → List FunctionTree → List Block → Type 0
AreBlocksFrom bodies look body [] [] = ⊤
AreBlocksFrom bodies look body [] (block ∷ blocks) = ⊥
AreBlocksFrom bodies look body (f ∷ fs) [] = ⊥
AreBlocksFrom bodies look body (f ∷ fs) (block ∷ blocks) =
    IsBlockOf bodies look body f block × AreBlocksFrom bodies look (suc body) fs blocks

-- a text of the effects of a program, for the bytes from which the program was read. The store of one text has one body for
-- each of its functions, in the order of the text
pub record IsEffectsText (p : Program) (text output : Bytes) : Type 0 where
  pub blocks : List Block
  pub are : AreBlocksFrom (store (text_of p ∷ [])) (definition (text_of p).definitions) 0 (functions p) blocks
  pub printed : output ≡ blocks_text text blocks
