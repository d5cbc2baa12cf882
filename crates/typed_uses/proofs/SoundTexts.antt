-- What the definitions of a text without faults have.
use Rattle.std.proofs.Common.{◌≡◌, Bool, true, false, IsTrue, List, [], ◌∷◌, ◌++◌, map, Option, Some, None, is_some, find, cond, refl}
use Rattle.c_tree.specs.declared.name.CType.{CType}
use Rattle.c_tree.specs.declared.name.CType.TheVariants.{Integer, Handle, Thread}
use Rattle.c_tree.specs.declared.def.Def.{Def}
use Rattle.c_tree.specs.declared.def.DefKind.{DefKind}
use Rattle.c_tree.specs.declared.def.DefKind.TheVariants.{Struct, Forward, Mutex, Function, Prototype, Global, Array, TransformStruct, TransformGlobal}
use Rattle.c_tree.specs.declared.def.Function.{Function as FunctionTree}
use Rattle.c_tree.specs.declared.def.Program.{Program}
use Rattle.c_expr_types.specs.declared.fault.Fault.{Fault}
use Rattle.c_expr_types.specs.declared.fault.TypeKind.TheVariants.{WrongType, UnknownName}
use Rattle.c_definitions.specs.Lookup.{is_known, is_tag, members_of}
use Rattle.c_expr_types.specs.Expressions.{unknown_tag}
use Rattle.c_types.specs.Statements.{in_order, walk}
use Rattle.c_types.specs.Definitions.{Types, all_faults, bindings, inside, kind_faults, result_faults}
use Rattle.typed_uses.specs.UseLaws.{NamesApart}
use Rattle.typed_uses.proofs.Faultless.{none_before, none_after, none_hidden, passes}

-- a function's result, parameters and body have no faults
pub record SoundFunction (text : List Def) (f : FunctionTree) : Type 0 where
  pub result : result_faults text f.result ≡ []
  pub parameters : bindings text [] f.parameters ≡ []
  pub body : (in_order (map walk f.body) (inside text f)).faults ≡ []

-- what a definition has that has no faults
abbrev pub Sound : List Def → DefKind → Type 0
Sound text (Struct tag members) = bindings text [] members ≡ []
Sound text (Forward tag) = IsTrue (is_some (members_of text tag.text))
Sound text (Function f) = SoundFunction text f
Sound text (Global d) = unknown_tag text d.declared ≡ []
Sound text (Array a) = unknown_tag text a.element ≡ []
Sound text _ = Unit {0}

abbrev pub AllSound : List Def → List Def → Type 0
AllSound text [] = Unit {0}
AllSound text (d ∷ ds) = Sound text d.kind × AllSound text ds

abbrev pub IfSound : List Def → Option Def → Type 0
IfSound text None = Unit {0}
IfSound text (Some d) = Sound text d.kind

sound_kind : (text before : List Def) (d : Def) (k : DefKind) → kind_faults text before d k ≡ [] → Sound text k
sound_kind text before d (Struct tag members) e = (none_hidden _ _ e).0
sound_kind text before d (Forward tag) e = passes (is_some (members_of text tag.text)) WrongType d.place e
sound_kind text before d (Mutex name) e = tt
sound_kind text before d (Function f) e =
    let halves = none_hidden (bindings text [] f.parameters ++ (in_order (map walk f.body) (inside text f)).faults) _ e in
    record {
      result = none_before (result_faults text f.result) _ halves.1;
      parameters = none_before (bindings text [] f.parameters) _ halves.0;
      body = none_after (bindings text [] f.parameters) _ halves.0;
    }
sound_kind text before d (Prototype p) e = tt
sound_kind text before d (Global variable) e = none_before (unknown_tag text variable.declared) _ (none_hidden _ _ e).1
sound_kind text before d (Array a) e = none_before (unknown_tag text a.element) _ (none_hidden _ _ e).1
sound_kind text before d (TransformStruct t) e = tt
sound_kind text before d (TransformGlobal name value) e = tt

all_sound : (text before ds : List Def) → all_faults text before ds ≡ [] → AllSound text ds
all_sound text before [] e = tt
all_sound text before (d ∷ ds) e =
    let own : List Fault = kind_faults text before d d.kind in
    (sound_kind text before d d.kind (none_before own _ e), all_sound text (before ++ d ∷ []) ds (none_after own _ e))

pub found_sound : (text ds : List Def) (test : Def → Bool) → AllSound text ds → IfSound text (find test ds)
found_sound text [] test s = tt
found_sound text (d ∷ ds) test s = by (test d) (found_sound text ds test s.1)
  where
    by : (b : Bool) → IfSound text (find test ds) → IfSound text (cond b (Some d) (find test ds))
    by true rest = s.0
    by false rest = rest

-- what is used of a text that types
pub record Facts (text : List Def) : Type 0 where
  pub sound : AllSound text text
  pub apart : NamesApart text

pub facts_of : (program : Program) → Types program → NamesApart program.definitions → Facts program.definitions
facts_of program types apart = record {
  sound = all_sound program.definitions [] program.definitions (none_hidden _ _ types).0;
  apart = apart;
}

-- a type whose tag is declared
pub known : (text : List Def) (t : CType) → unknown_tag text t ≡ [] → IsTrue (is_known text t)
known text (Integer k) e = refl
known text (Handle tag) e = passes (is_tag text tag.text) UnknownName tag.place e
known text Thread e = refl
