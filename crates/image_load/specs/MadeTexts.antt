-- What is made of the texts of a run.
use Rattle.std.specs.Prelude.{◌≡◌, ◌≤◌, ◌<◌, ℕ, IsTrue, List, All, Contains, map, length, slice_get, Option, Some, codes}
use Rattle.c_tree.specs.BareExpr.{Bytes}
use Rattle.c_tree.specs.BareDef.{BareDef}
use Rattle.c_semantics.specs.Texts.{definition}
use Rattle.resolved_tree.specs.Nodes.{Table, word}
use Rattle.bytecode.specs.Seen.{code_of}
use Rattle.thread_state.specs.Frames.{most_words}
use Rattle.text_code.specs.declared.body.Body.{Body}
use Rattle.text_code.specs.declared.outline.Outline.{Outline}
use Rattle.text_code.specs.Bodies.{CodedFunction, ResolvedFunction, body_of, code_of_text, outlined, outlines_of}
use Rattle.code_runs.specs.CodeData.{number_of}
use Rattle.word_data.specs.Lengths.{most_printed}
use Rattle.code_image.specs.declared.function.CodeFunction.{CodeFunction}
use Rattle.code_image.specs.StopHeights.{StopsPrint}
use Rattle.code_image.specs.Stacks.{IsHighestStack}
use Rattle.code_image.specs.Images.{has_body}
use Rattle.image_load.specs.declared.callees.Callees.{Callees}
use Rattle.image_load.specs.declared.loading.Parts.{Parts}
use Rattle.image_load.specs.declared.names.Run.{Run}
use Rattle.image_load.specs.declared.texts.Made.{Made}
use Rattle.image_load.specs.Doing.{HasStops}
use Rattle.image_load.specs.Numbering.{IsTable, callees_of, meaning, texts_of, words_of}

-- ---- bodies

-- the functions of a text, and their code
abbrev pub functions_in : List BareDef → List ResolvedFunction
functions_in text = outlines_of (definition text) text

abbrev pub code_in : List BareDef → List CodedFunction
code_in text = code_of_text (definition text) text

-- the functions of each text of a run, by their trees
abbrev pub AreOutlined : Table → List (List BareDef) → List (List Outline) → Type 0
AreOutlined t texts outlines = map (map (outlined t)) outlines ≡ map functions_in texts

-- their code
abbrev pub AreCompiled : Table → List (List BareDef) → List (List Body) → Type 0
AreCompiled t texts bodies = map (map (body_of t)) bodies ≡ map code_in texts

-- their names
abbrev pub body_names : Table → List Body → List Bytes
body_names t bodies = map (λ b. word t b.name) bodies

pub record AreCallees (t : Table) (names : List Bytes) (c : Callees) : Type 0 where
  pub numbers : IsTable names c.numbers
  pub same : map (word t) c.words.items ≡ names

-- ---- functions

-- a function has the code of one of its text, with its stops
pub record IsMadeFor (r : Run) (f : CodeFunction) : Type 0 where
  pub text : List BareDef
  pub own : slice_get (texts_of r) f.text ≡ Some text
  pub parameters : ℕ
  pub coded : Contains (code_in text)
      (record { name = word (words_of r) f.name; parameters = parameters; code = code_of (words_of r) f.verified.body.code.items })
  pub stops : HasStops (meaning r text) f.verified.body.code.items f.stops.items

-- ---- numbers of bodies

-- under the number of a name there is that of one of some functions with the name
pub record IsBodyAt (r : Run) (functions : List CodeFunction) (n first before k : ℕ) : Type 0 where
  pub from : first ≤ k
  pub to : k < before
  pub function : CodeFunction
  pub there : slice_get functions k ≡ Some function
  pub named : slice_get (callees_of r) n ≡ Some (word (words_of r) function.name)

-- of the functions from one to another, there is one under the number of each name
pub record HasBodies (r : Run) (functions : List CodeFunction) (first before : ℕ) (row : List (Option ℕ)) : Type 0 where
  pub many : length row ≡ length (callees_of r)
  pub own : (n k : ℕ) → slice_get row n ≡ Some (Some k) → IsBodyAt r functions n first before k
  pub each : (k : ℕ) (f : CodeFunction) → first ≤ k → k < before → slice_get functions k ≡ Some f
      → (j : ℕ) × (slice_get row (number_of (callees_of r) (word (words_of r) f.name)) ≡ Some (Some j))

-- a body is a function of a text with the name of its number
pub record IsOwnAt (r : Run) (functions : List CodeFunction) (number n k : ℕ) : Type 0 where
  pub function : CodeFunction
  pub there : slice_get functions k ≡ Some function
  pub own : function.text ≡ number
  pub named : slice_get (callees_of r) n ≡ Some (word (words_of r) function.name)

-- each name that a text defines as a function has one
pub record AreOwnBodies (r : Run) (functions : List CodeFunction) (number : ℕ) (text : List BareDef) (row : List (Option ℕ)) : Type 0 where
  pub own : (n k : ℕ) → slice_get row n ≡ Some (Some k) → IsOwnAt r functions number n k
  pub each : (n : ℕ) (name : Bytes) → slice_get (callees_of r) n ≡ Some name → IsTrue (has_body (definition text name))
      → (k : ℕ) × (slice_get row n ≡ Some (Some k))

-- so much is made of the first texts
pub record AreMadeTo (r : Run) (count : ℕ) (m : Made) : Type 0 where
  pub functions : All (IsMadeFor r) m.functions.items
  pub many : length m.bodies.items ≡ count
  pub bodies : (number : ℕ) (text : List BareDef) (row : List (Option ℕ)) → slice_get (texts_of r) number ≡ Some text
      → slice_get (map (λ v. v.items) m.bodies.items) number ≡ Some row → AreOwnBodies r m.functions.items number text row

-- ---- what an image is made of

pub record ArePartsOf (r : Run) (p : Parts) : Type 0 where
  pub made : AreMadeTo r (length r.texts.now) p.made
  pub main : slice_get (callees_of r) p.main ≡ Some (codes "main")
  pub short : p.longest_print ≤ most_printed
  pub prints : (n : ℕ) (f : CodeFunction) → slice_get p.made.functions.items n ≡ Some f → StopsPrint (words_of r) p.longest_print f.stops.items
  pub low : p.highest_stack ≤ most_words
  pub highest : IsHighestStack p.made.functions.items p.highest_stack
