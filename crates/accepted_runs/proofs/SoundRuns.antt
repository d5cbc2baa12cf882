-- Accepted texts are sound.
use Rattle.std.proofs.Common.{◌≡◌, ℕ, zero, suc, true, List, [], ◌∷◌, ◌++◌, Option, Some, None, option_map, Contains, codes, refl, sym, ap, subst, ◌∙◌}
use Rattle.std.specs.Prelude.{slice_get}
use Rattle.std.specs.Option.{is_some, option_and_then}
use Rattle.std.proofs.lemmas.List.{length-map}
use Rattle.std.proofs.lemmas.List.Elements.{All-nil, All-cons, All-append, All-head, All-tail}
use Rattle.run_types.specs.Skeleton.{Point, Skeleton, Call, Spawn, direct_use, kind_at}
use Rattle.c_tree.specs.BareExpr.{Bytes}
use Rattle.c_tree.specs.BareDef.{BareDef}
use Rattle.c_tree.specs.declared.name.CType.{CType}
use Rattle.c_tree.specs.declared.def.Def.{Def}
use Rattle.c_definitions.specs.Lookup.{Meaning, definition_of, meaning_in, name_of}
use Rattle.c_definitions.specs.Lookup.Meaning.{AVariable, AnArray, AFunction, AMutex}
use Rattle.c_expr_types.specs.declared.fault.TypeKind.TheVariants.{NoMain}
use Rattle.c_types.specs.Definitions.{all_faults, defines_main, is_main, main_faults, name_place}
use Rattle.c_semantics.specs.Texts.{definition, names}
use Rattle.c_semantics.specs.Skeletons.{direct_uses, skeleton_of}
use Rattle.c_semantics.specs.SourceTexts.{Text}
use Rattle.source_model.specs.Guards.{Setup}
use Rattle.version_laws.specs.Histories.{last_text, text_in}
use Rattle.version_laws.proofs.TableHistories.{last_is_next}
use Rattle.typed_uses.proofs.Faultless.{none_hidden, passes}
use Rattle.typed_uses.proofs.Lookups.{look}
use Rattle.typed_uses.proofs.Points.{EachPoint, OfName}
use Rattle.typed_uses.proofs.Uses.{accepted_texts_define_their_uses}
use Rattle.frame_bodies.specs.AcceptedTexts.{AreAccepted, IsAccepted, looked_up}
use Rattle.frame_bodies.proofs.AcceptedFacts.{bare_of, facts_in, named_is_defined}
use Rattle.frame_bodies.proofs.CallPoints.{called_are_functions, spawned_are_functions}
use Rattle.frame_bodies.proofs.Lists.{each_point_has_it, none_in}
use Rattle.frame_bodies.proofs.Stores.{each_has_a_body}
use Rattle.frame_bodies.proofs.TypedExpressions.{function_of}
use Rattle.admission_laws.specs.SoundTexts.{BodiesStay, InForceNow, IsSound, TextsOf, definitions_of, first, is_function, newest, next, now_in}
use Rattle.admission_laws.proofs.LaterTexts.{definitions_more}
use Rattle.accepted_runs.specs.AcceptedRuns.{AcceptedRunsAreSound, TextsAreAccepted}
use Rattle.accepted_runs.proofs.StoredBodies.{all_shaped, bodies_stay, same_function}

-- ---- main

-- what has the name main takes no arguments and gives an integer
abbrev IsMain : Option Meaning → Type 0
IsMain m = (t : CType) × (m ≡ Some (AFunction (Some t) []))

main_is : (m : Option Meaning) → is_main m ≡ true → IsMain m
main_is None e = cc
main_is (Some (AVariable t)) e = cc
main_is (Some (AnArray t)) e = cc
main_is (Some AMutex) e = cc
main_is (Some (AFunction None types)) e = cc
main_is (Some (AFunction (Some t) (u ∷ us))) e = cc
main_is (Some (AFunction (Some t) [])) e = (t, refl)

main_found : (end : ℕ) (o : Option Def) → main_faults end o ≡ [] → IsMain (option_and_then (λ d. meaning_in d.kind) o)
main_found end None e = cc
main_found end (Some d) e = main_is (meaning_in d.kind) (passes (defines_main d.kind) NoMain (name_place end (name_of d.kind)) e)

abbrev HasMain : List BareDef → Type 0
HasMain ds = is_function (definition ds (codes "main")) ≡ true

main_in : (text : Text) → IsAccepted text → HasMain text.definitions
main_in text a =
    let ds = text.tree.definitions in
    let main = main_found text.tree.end (definition_of ds (codes "main")) (none_hidden (all_faults ds [] ds) _ a.accepted.types).1 in
    subst HasMain (bare_of text a)
    (sym (same_function (look ds (codes "main"))) ∙ function_of ds (codes "main") (Some main.0) [] (facts_in text a) main.1)

-- ---- uses

-- what each point of a list uses has the property
use_at : (P : Bytes → Type 0) (ps : List Point) (n : ℕ) (name : Bytes) → EachPoint P ps
    → option_and_then direct_use (option_map (λ p. p.kind) (slice_get ps n)) ≡ Some name → P name
use_at P [] n name each is = cc
use_at P (p ∷ ps) zero name each is = of (direct_use p.kind) each.0 is
  where
    of : (o : Option Bytes) → OfName P o → o ≡ Some name → P name
    of None h is = cc
    of (Some own) h is = let same : own ≡ name = cc in subst P same h
use_at P (p ∷ ps) (suc n) name each is = use_at P ps n name each.1 is

abbrev Names : Bytes → List BareDef → Type 0
Names f ds = (used : Bytes) → Contains (direct_uses (skeleton_of (definition ds) (definition ds f))) used → Contains (names ds) used

abbrev Uses : List BareDef → Type 0
Uses ds =
    (f name : Bytes) (n : ℕ) → option_and_then direct_use (kind_at (skeleton_of (definition ds) (definition ds f)) n) ≡ Some name
    → is_some (definition ds name) ≡ true

-- each name that a function uses is defined
abbrev DefinesUses : List BareDef → Type 0
DefinesUses ds =
    (f u : Bytes) → Contains (direct_uses (skeleton_of (definition ds) (definition ds f))) u → is_some (definition ds u) ≡ true

defines_in : (text : Text) → IsAccepted text → DefinesUses text.definitions
defines_in text a f u h =
    let named : Names f text.definitions = subst (Names f) (bare_of text a) (accepted_texts_define_their_uses a.bytes text.tree a.accepted f) in
    named_is_defined text.definitions u (named u h)

uses_in : (text : Text) → IsAccepted text → Uses text.definitions
uses_in text a f name n is =
    let ds = text.definitions in
    let s : Skeleton = skeleton_of (definition ds) (definition ds f) in
    let Defined : Bytes → Type 0 = λ used. is_some (definition ds used) ≡ true in
    use_at Defined s.points n name (each_point_has_it Defined s (λ used h. defines_in text a f used h)) is

-- ---- calls and spawns

abbrev Calls : List BareDef → Type 0
Calls ds =
    (f name : Bytes) (n : ℕ) → kind_at (skeleton_of (definition ds) (definition ds f)) n ≡ Some (Call name)
    → is_function (definition ds name) ≡ true

abbrev Spawns : List BareDef → Type 0
Spawns ds =
    (f name : Bytes) (n : ℕ) → kind_at (skeleton_of (definition ds) (definition ds f)) n ≡ Some (Spawn name)
    → is_function (definition ds name) ≡ true

calls_in : (text : Text) → IsAccepted text → Calls text.definitions
calls_in text a f name n is =
    sym (same_function (looked_up text name)) ∙ called_are_functions text f name n a (record { is_call = is })

spawns_in : (text : Text) → IsAccepted text → Spawns text.definitions
spawns_in text a f name n is = sym (same_function (looked_up text name)) ∙ spawned_are_functions text f name n a is

-- ---- the texts of a run

-- the newest of some texts
record Newest (texts : List Text) : Type 0 where
  text : Text
  accepted : IsAccepted text
  is : text.definitions ≡ text_in (definitions_of texts) (newest texts)

newest_is : (texts : List Text) (q : Text) → text_in (definitions_of (texts ++ q ∷ [])) (newest (texts ++ q ∷ [])) ≡ q.definitions
newest_is texts q =
    ap (text_in (definitions_of (texts ++ q ∷ []))) (sym (length-map (texts ++ q ∷ []) (λ t. t.definitions)))
    ∙ ap last_text (definitions_more texts q) ∙ last_is_next (definitions_of texts) q.definitions

newest_of : (setup : Setup) (texts : List Text) → TextsAreAccepted setup → TextsOf setup texts → Newest texts
newest_of setup _ a first = record { text = setup.first; accepted = a.first; is = refl }
newest_of setup _ a (next texts k o of there) =
    record { text = o.text; accepted = a.offered k o there; is = sym (newest_is texts o.text) }

all_accepted : (setup : Setup) (texts : List Text) → TextsAreAccepted setup → TextsOf setup texts → AreAccepted texts
all_accepted setup _ a first = All-cons IsAccepted setup.first [] a.first (All-nil IsAccepted)
all_accepted setup _ a (next texts k o of there) =
    All-append IsAccepted texts (o.text ∷ []) (all_accepted setup texts a of)
    (All-cons IsAccepted o.text [] (a.offered k o there) (All-nil IsAccepted))

body_in_force : (texts : List Text) (f : Bytes) → AreAccepted texts → is_function (now_in texts f) ≡ true → InForceNow texts f
body_in_force texts f all fun =
    let b = each_has_a_body texts (newest texts) f all (same_function (now_in texts f) ∙ fun) in
    record { body = b.body; found = b.found; function_is = b.function_is; generation_is = b.generation_is; skeleton_is = b.skeleton_is }

-- the texts before a last one, and it
former : (texts : List Text) (q : Text) → AreAccepted (texts ++ q ∷ []) → AreAccepted texts
former [] q all = All-nil IsAccepted
former (t ∷ texts) q all =
    All-cons IsAccepted t texts (All-head IsAccepted t (texts ++ q ∷ []) all) (former texts q (All-tail IsAccepted t (texts ++ q ∷ []) all))

last_one : (texts : List Text) (q : Text) → AreAccepted (texts ++ q ∷ []) → IsAccepted q
last_one [] q all = All-head IsAccepted q [] all
last_one (t ∷ texts) q all = last_one texts q (All-tail IsAccepted t (texts ++ q ∷ []) all)

newest_in : (t : Text) (texts : List Text) → AreAccepted (t ∷ texts) → Newest (t ∷ texts)
newest_in t [] all = record { text = t; accepted = All-head IsAccepted t [] all; is = refl }
newest_in t (u ∷ texts) all =
    let rest = newest_in u texts (All-tail IsAccepted t (u ∷ texts) all) in
    record { text = rest.text; accepted = rest.accepted; is = rest.is }

defines_now : (texts : List Text) → AreAccepted texts → DefinesUses (text_in (definitions_of texts) (newest texts))
defines_now [] all = λ f u h. absurd (none_in u h)
defines_now (t ∷ texts) all =
    let last = newest_in t texts all in subst DefinesUses last.is (defines_in last.text last.accepted)

stay : (before : List Text) (q : Text) → AreAccepted (before ++ q ∷ []) → BodiesStay before q
stay before q all =
    let some = former before q all in
    bodies_stay before q (last_one before q all) (defines_now before some) (λ f fun. body_in_force before f some fun)

sound : (texts : List Text) → AreAccepted texts → Newest texts → IsSound texts
sound texts all last = record {
  main = subst HasMain last.is (main_in last.text last.accepted);
  in_force = λ f fun. body_in_force texts f all fun;
  uses = subst Uses last.is (uses_in last.text last.accepted);
  calls = subst Calls last.is (calls_in last.text last.accepted);
  spawns = subst Spawns last.is (spawns_in last.text last.accepted);
  shapes = all_shaped texts all;
  stay = λ before q is. stay before q (subst AreAccepted is all);
}

pub accepted_runs_are_sound : AcceptedRunsAreSound
accepted_runs_are_sound setup a texts of = sound texts (all_accepted setup texts a of) (newest_of setup texts a of)
