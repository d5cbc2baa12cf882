-- What contracts see of the texts of a run: all of them, and those of the versions so far.
use Rattle.std.specs.Prelude.{◌≡◌, ◌<◌, ℕ, List, [], All, IfSome, Option, map, length, bytes_eq, codes, slice_index_or}
use Rattle.std.specs.Option.{option_map_or}
use Rattle.std.specs.List.{position}
use Rattle.c_tree.specs.BareExpr.{Bytes}
use Rattle.c_tree.specs.BareDef.{BareDef}
use Rattle.c_tree.specs.Bare.{bare_def}
use Rattle.c_tree.specs.declared.def.Program.{Program}
use Rattle.c_semantics.specs.Names.{struct_name}
use Rattle.source_model.specs.JournalLaws.{HasMain}
use Rattle.version_laws.specs.Histories.{last_text}
use Rattle.resolved_tree.specs.Nodes.{Table, word}
use Rattle.resolved_tree.specs.Trees.{table}
use Rattle.source_programs.specs.declared.definition.Name.{Name}
use Rattle.source_programs.specs.declared.definition.Name.TheVariants.{Plain, Struct}
use Rattle.source_programs.specs.declared.ready.Ready.{Ready}
use Rattle.source_programs.specs.declared.programs.Programs.{Programs}
use Rattle.source_programs.specs.Definitions.{AreDefinitions, HaveTrees}
use Rattle.source_programs.specs.Places.{place_in}

-- the definitions of a text
abbrev pub text_in : Program → List BareDef
text_in p = map bare_def p.definitions

-- a text that is ready to run
abbrev pub text_of : Ready → List BareDef
text_of r = text_in r.text

-- a text that may be there; where it isn't, it defines nothing
abbrev pub text_if : Option Ready → List BareDef
text_if r = option_map_or text_of r []

-- the trees of the texts of a run, the first text first, and their definitions
abbrev pub trees_of : Programs → List Program
trees_of p = map (λ r. r.text) p.texts.items

abbrev pub texts_of : Programs → List (List BareDef)
texts_of p = map text_of p.texts.items

-- the text with a number
abbrev pub text_at : Programs → ℕ → List BareDef
text_at p k = slice_index_or (texts_of p) k []

-- the texts of the versions so far
abbrev pub versions_of : Programs → List (List BareDef)
versions_of p = map (text_at p) p.installed

-- that of the version in force
abbrev pub current_of : Programs → List BareDef
current_of p = last_text (versions_of p)

-- the table of all their trees
abbrev pub table_of : Programs → Table
table_of p = table p.trees

-- a name, or that of a struct with a tag
abbrev pub name_of : Table → Name → Bytes
name_of t (Plain name) = word t name
name_of t (Struct tag) = struct_name (word t tag)

-- a text's definitions are those that it has, with their trees; each is found by its name, and a struct by its tag
pub record IsReady (t : Table) (r : Ready) : Type 0 where
  pub definitions : AreDefinitions t (text_of r) r.definitions.items
  pub trees : HaveTrees t (text_of r) r.definitions.items
  pub names : (name : Bytes) → place_in r.names name ≡ position (λ d. bytes_eq name (word t d.name)) r.definitions.items
  pub tags : (tag : Bytes) → place_in r.tags tag ≡ position (λ d. bytes_eq (struct_name tag) (word t d.name)) r.definitions.items
  pub main : HasMain (text_of r)

-- so is a text that may be there
abbrev pub ReadyIf : Table → Option Ready → Type 0
ReadyIf t r = IfSome r (IsReady t)

-- the texts of a run are ready, and each version is of one of them
pub record ArePrograms (p : Programs) : Type 0 where
  pub ready : All (IsReady (table_of p)) p.texts.items
  pub versions : All (λ k. k < length p.texts.items) p.installed
  pub some : 0 < length p.installed
  pub main : word (table_of p) p.main ≡ codes "main"
