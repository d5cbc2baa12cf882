-- The data of a run where a newer text is installed.
use Rattle.std.specs.Prelude.{◌≡◌, ℕ, zero, suc, List, [], ◌∷◌, ◌++◌, All, map, filter, filter_map, Option, Some, None, Vec}
use Rattle.std.specs.declared.alloc.Global.{Global}
use Rattle.c_tree.specs.BareDef.{BareDef}
use Rattle.c_semantics.specs.Texts.{definition}
use Rattle.source_model.specs.Worlds.{World}
use Rattle.source_model.specs.Installs.{brought, global_after, is_mutex}
use Rattle.version_laws.specs.Fitting.{Fits}
use Rattle.type_transformers.specs.declared.change.Change.{Change}
use Rattle.type_transformers.specs.Changes.{changing, name_of, IsChange}
use Rattle.resolved_tree.specs.Nodes.{Table}
use Rattle.source_programs.specs.declared.programs.Programs.{Programs}
use Rattle.source_programs.specs.Globals.{globals_of}
use Rattle.source_programs.specs.Programs.{ArePrograms, current_of, table_of, text_at}
use Rattle.source_data.specs.declared.store.Field.{Field}
use Rattle.source_data.specs.declared.store.Object.{Object}
use Rattle.source_data.specs.declared.store.Store.{Store}
use Rattle.source_install.specs.declared.install.NewFields.{NewFields}
use Rattle.source_install.specs.declared.install.NewData.{NewData}
use Rattle.source_data.specs.Stores.{with_store, objects_of, holders_of}

-- the text with a number follows the version in force, which a world has, and these are the changes of data
pub record Follows (program : Programs) (number : ℕ) (changes : List Change) (w : World) : Type 0 where
  pub programs : ArePrograms program
  pub text : w.text ≡ current_of program
  pub named : map name_of changes ≡ changing w.text (text_at program number)
  pub are : All (IsChange w.text (text_at program number)) changes

-- it does so in a world with what is shared, whose objects have the fields of their structs
pub record IsInstall (program : Programs) (number : ℕ) (changes : List Change) (store : Store) (w : World) : Type 0 where
  pub follows : Follows program number changes w
  pub shared : w ≡ with_store (table_of program) store w
  pub fits : All (Fits w.text) w.objects

-- an object of some has other fields
abbrev pub with_fields : ℕ → Vec Field Global → List Object → List Object
with_fields n fields [] = []
with_fields zero fields (o ∷ os) = record o { fields = fields } ∷ os
with_fields (suc n) fields (o ∷ os) = o ∷ with_fields n fields os

-- some objects have
abbrev pub with_new : List NewFields → List Object → List Object
with_new [] os = os
with_new (new ∷ news) os = with_new news (with_fields new.number new.fields os)

-- new data are those of a world with what is shared, where text q is installed in it
pub record IsNewData (t : Table) (q : List BareDef) (w : World) (store : Store) (new : NewData) : Type 0 where
  pub shared : w ≡ with_store t store w
  pub globals : globals_of new.globals.list.items ≡ filter_map (global_after w w.text q) q
  pub objects : objects_of t (with_new new.objects.items store.objects.all.items) ≡ map (brought w.text q) w.objects
  pub holders : holders_of t new.holders.items ≡ filter (λ h. is_mutex (definition q h.mutex)) w.holders

-- a world with the data of another
abbrev pub with_data_of : World → World → World
with_data_of from w = record w {
  globals = from.globals;
  objects = from.objects;
  capacity = from.capacity;
  holders = from.holders;
  output = from.output;
}

-- For the contracts of private functions.

-- an object with its new fields, if it has some
abbrev pub fields_or : Object → Option (Vec Field Global) → Object
fields_or o None = o
fields_or o (Some fields) = record o { fields = fields }

-- new fields of objects, with those of one object more, if it has some
abbrev pub news_with : List NewFields → ℕ → Option (Vec Field Global) → List NewFields
news_with news n None = news
news_with news n (Some fields) = news ++ record { number = n; fields = fields } ∷ []
