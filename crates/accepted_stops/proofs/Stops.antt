-- The code of an accepted text fits it.
use Rattle.std.proofs.Common.{◌≡◌, ◌≤◌, ℕ, List, Option, length, subst, arith}
use Rattle.std.specs.Prelude.{codes}
use Rattle.c_tree.specs.BareDef.{BareDef}
use Rattle.c_tree.specs.BareExpr.{Bytes}
use Rattle.c_semantics.specs.Names.{struct_name}
use Rattle.c_semantics.specs.Texts.{members_of, parameters_of, result_type}
use Rattle.c_semantics.specs.Resolution.{resolved_body}
use Rattle.c_semantics.specs.SourceTexts.{Text}
use Rattle.c_semantics.specs.Stops.{Stop}
use Rattle.c_semantics.specs.Stops as stop
use Rattle.typed_runs.proofs.FirstWorld.{main_typed}
use Rattle.frame_bodies.specs.AcceptedTexts.{IsAccepted, looked_up}
use Rattle.code_kinds.specs.WellFormed.{most_variables}
use Rattle.accepted_code.specs.AcceptedCode.{FunctionsHaveFineCode, coded_in}
use Rattle.code_runs.specs.CodeData.{most_fields}
use Rattle.accepted_stops.specs.StopNames.{IsNamed, function_names}
use Rattle.accepted_stops.specs.FittingCode.{AcceptedCodeFits, AcceptedNamesAreFew, AcceptedStructsAreSmall}
use Rattle.accepted_stops.proofs.FewNames.{few_members, few_names}
use Rattle.accepted_stops.proofs.Fitting.{fits_less}
use Rattle.accepted_stops.proofs.FoundNames.{array_numbered, function_numbered, is_member, mutex_numbered, mutexes_few, tag_numbered, tags_few, variable_numbered}
use Rattle.accepted_stops.proofs.StructNames.{struct_found}
use Rattle.accepted_stops.proofs.TreeStops.{IsUsed, typed_code_fits}

module _ (text : Text) (a : IsAccepted text) where
  abbrev ds : List BareDef
  ds = text.definitions

  few_parameters : FunctionsHaveFineCode → (name : Bytes) (n : ℕ) → n ≡ length (parameters_of (looked_up text name)) → n ≤ most_variables
  few_parameters fine name n e = let few = (fine text name a).few in omega (arith, few, e)

  -- what a stop uses by types has numbers
  named : FunctionsHaveFineCode → (s : Stop) → IsUsed (looked_up text) s → IsNamed ds (function_names ds) s
  named fine (stop.ReadGlobal name) h = variable_numbered ds (few_names text a) name h
  named fine (stop.WriteGlobal name) h = variable_numbered ds (few_names text a) name h
  named fine (stop.ReadElement name) h = array_numbered ds (few_names text a) name h
  named fine (stop.WriteElement name) h = array_numbered ds (few_names text a) name h
  named fine (stop.ReadField tag name) h = is_member _ name (few_members text (struct_name tag) a) h
  named fine (stop.WriteField tag name) h = is_member _ name (few_members text (struct_name tag) a) h
  named fine (stop.New tag) h = tag_numbered ds (few_names text a) tag h
  named fine (stop.Free tag) h = tt
  named fine (stop.Print format n) h = tt
  named fine (stop.InitMutex name) h = mutex_numbered ds (few_names text a) name h
  named fine (stop.Lock name) h = mutex_numbered ds (few_names text a) name h
  named fine (stop.Unlock name) h = mutex_numbered ds (few_names text a) name h
  named fine (stop.Spawn name) h = function_numbered ds (few_names text a) name h
  named fine stop.Join h = tt
  named fine (stop.Call name n) h = (function_numbered ds (few_names text a) name h.0, few_parameters fine name n h.1)
  named fine stop.Return h = tt
  named fine stop.Back h = absurd h
  named fine stop.Begin h = tt
  named fine stop.End h = tt
  named fine stop.Update h = tt

pub accepted_code_fits : FunctionsHaveFineCode → AcceptedCodeFits
accepted_code_fits fine text function a =
    let look = looked_up text in
    let d = look function in
    fits_less (IsUsed look) (IsNamed text.definitions (function_names text.definitions)) (named text a fine) (coded_in text function).code
    (typed_code_fits look (parameters_of d) (result_type d) (resolved_body look d) (fine text function a).typed.statements)

pub accepted_names_are_few : AcceptedNamesAreFew
accepted_names_are_few text a = record {
  main = function_numbered text.definitions (few_names text a) (codes "main") (main_typed text a).function;
  mutexes = mutexes_few text.definitions (few_names text a);
  tags = tags_few text.definitions (few_names text a);
}

pub accepted_structs_are_small : AcceptedStructsAreSmall
accepted_structs_are_small text tag d a found = record {
  struct = struct_found text tag d a found;
  few = subst (λ (o : Option BareDef). length (members_of o) ≤ most_fields) found (few_members text (struct_name tag) a);
}
