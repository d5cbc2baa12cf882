-- The bodies of an accepted text: their stops fit, and the verifier finds no fault in them.
use Rattle.std.proofs.Common.{◌≡◌, List, map, sym, ap, subst, ◌∙◌}
use Rattle.std.specs.Prelude.{All, Contains}
use Rattle.std.proofs.lemmas.List.Elements.{All-same, All-weaker}
use Rattle.c_tree.specs.BareDef.{BareDef}
use Rattle.c_tree.specs.BareExpr.{Bytes}
use Rattle.c_semantics.specs.SourceTexts.{Text}
use Rattle.c_semantics.specs.Stops.{Stop}
use Rattle.c_semantics.specs.Stops as stop
use Rattle.c_semantics.specs.Texts.{definition, parameters_of, result_type}
use Rattle.frame_bodies.specs.AcceptedTexts.{IsAccepted}
use Rattle.resolved_tree.specs.Nodes.{word}
use Rattle.bytecode.specs.Seen.{code_of}
use Rattle.code_kinds.specs.WellFormed.{FunctionCode, most_variables}
use Rattle.code_kinds.specs.WordKinds.{word_kind}
use Rattle.formed_code.specs.FormedLaws.{kinds_of}
use Rattle.text_code.specs.declared.body.Body.{Body}
use Rattle.text_code.specs.Bodies.{CodedFunction, body_of}
use Rattle.accepted_code.specs.AcceptedCode.{CodeIsThatOfFunctions, IsCodeIn, code_in as verified_code, coded_in}
use Rattle.accepted_stops.specs.FittingCode.{AcceptedCodeFits, CodeFits}
use Rattle.code_runs.specs.CodeData.{number_of}
use Rattle.code_image.specs.Images.{names_of}
use Rattle.accepted_stops.specs.StopNames.{IsNamed, IsNumbered, function_names}
use Rattle.accepted_stops.proofs.Fitting.{fits_less}
use Rattle.image_load.specs.declared.names.Run.{Run}
use Rattle.image_load.specs.Numbering.{AreNumbers, Meaning, meaning, texts_of}
use Rattle.image_load.specs.NamedStops.{AreAmong, HasNames}
use Rattle.image_load.specs.MadeTexts.{code_in}
use Rattle.image_load.specs.OwnBodies.{IsOwnBody}
use Rattle.image_load.proofs.Lists.{of_images}
use Rattle.image_load.proofs.NameLists.{in_each, once_has, placed_contained}

-- ---- the stops of a body fit

contained : (names : List Bytes) (name : Bytes) → IsNumbered names name → Contains names name
contained names name h = placed_contained names name (number_of names name) h.there

-- what a text names has numbers, where the names of the text are among those that have
has_names : (m : Meaning) → AreAmong m → (s : Stop) → IsNamed m.text (function_names m.text) s → HasNames m s
has_names m a (stop.ReadGlobal name) h = a.cells name (contained _ name h)
has_names m a (stop.WriteGlobal name) h = a.cells name (contained _ name h)
has_names m a (stop.ReadElement name) h = a.cells name (contained _ name h)
has_names m a (stop.WriteElement name) h = a.cells name (contained _ name h)
has_names m a (stop.ReadField tag name) h = h
has_names m a (stop.WriteField tag name) h = h
has_names m a (stop.New tag) h = a.tags tag (contained _ tag h)
has_names m a (stop.Free tag) h = tt
has_names m a (stop.Print format n) h = tt
has_names m a (stop.InitMutex name) h = a.mutexes name (contained _ name h)
has_names m a (stop.Lock name) h = a.mutexes name (contained _ name h)
has_names m a (stop.Unlock name) h = a.mutexes name (contained _ name h)
has_names m a (stop.Spawn name) h = a.functions name (contained _ name h)
has_names m a stop.Join h = tt
has_names m a (stop.Call name n) h = (a.functions name (contained _ name h.0), h.1)
has_names m a stop.Return h = tt
has_names m a stop.Back h = h
has_names m a stop.Begin h = tt
has_names m a stop.End h = tt
has_names m a stop.Update h = tt

pub own_fits : AcceptedCodeFits → (whole : Text) (m : Meaning) (b : Body) → IsAccepted whole → IsOwnBody whole m b
    → CodeFits (HasNames m) (code_of m.words b.code.items)
own_fits law whole m b a own =
    let code = (coded_in whole (word m.words b.name)).code in
    subst (CodeFits (HasNames m)) (sym own.code)
    (fits_less (IsNamed m.text (function_names m.text)) (HasNames m) (has_names m own.among) code
    (subst (λ (ds : List BareDef). CodeFits (IsNamed ds (function_names ds)) code) own.text (law whole (word m.words b.name) a)))

-- ---- what is handed to the verifier is the code of the text's function

same_code : (u v : FunctionCode) → u.look ≡ v.look → u.parameters ≡ v.parameters → u.result ≡ v.result → u.room ≡ v.room → u.code ≡ v.code → u ≡ v
same_code u v l p r m c =
    ap (λ x. record { look = x; parameters = u.parameters; result = u.result; room = u.room; code = u.code }) l
    ∙ ap (λ x. record { look = v.look; parameters = x; result = u.result; room = u.room; code = u.code }) p
    ∙ ap (λ x. record { look = v.look; parameters = v.parameters; result = x; room = u.room; code = u.code }) r
    ∙ ap (λ x. record { look = v.look; parameters = v.parameters; result = v.result; room = x; code = u.code }) m
    ∙ ap (λ x. record { look = v.look; parameters = v.parameters; result = v.result; room = v.room; code = x }) c

pub own_code : (whole : Text) (m : Meaning) (b : Body) → IsOwnBody whole m b → (u : FunctionCode) → u.look ≡ definition m.text
    → u.parameters ≡ kinds_of (parameters_of (definition m.text (word m.words b.name)))
    → u.result ≡ word_kind (result_type (definition m.text (word m.words b.name))) → u.room ≡ most_variables
    → u.code ≡ code_of m.words b.code.items → u ≡ verified_code whole (word m.words b.name)
own_code whole m b own u l p r n c =
    let f = word m.words b.name in
    same_code u (verified_code whole f) (l ∙ ap definition (sym own.text))
    (p ∙ ap (λ (ds : List BareDef). kinds_of (parameters_of (definition ds f))) (sym own.text))
    (r ∙ ap (λ (ds : List BareDef). word_kind (result_type (definition ds f))) (sym own.text)) n (c ∙ own.code)

-- ---- the bodies that are made of an accepted text are its own

abbrev HasOwnCode : Text → CodedFunction → Type 0
HasOwnCode whole c = c.code ≡ (coded_in whole c.name).code

pub own_bodies : (m : Meaning) (bodies : List Body) (whole : Text) → IsAccepted whole → whole.definitions ≡ m.text → AreAmong m
    → CodeIsThatOfFunctions → map (body_of m.words) bodies ≡ code_in m.text → All (IsOwnBody whole m) bodies
own_bodies m bodies whole a is among law compiled =
    let coded = code_in whole.definitions in
    let each : All (HasOwnCode whole) coded =
    All-weaker (IsCodeIn whole) (HasOwnCode whole) (λ c h. ap (λ (x : CodedFunction). x.code) h.1) coded (law whole a).each in
    let made : map (body_of m.words) bodies ≡ coded = compiled ∙ ap code_in (sym is) in
    let own : All (λ b. HasOwnCode whole (body_of m.words b)) bodies =
    of_images (HasOwnCode whole) (body_of m.words) bodies (All-same (HasOwnCode whole) (map (body_of m.words) bodies) coded made each) in
    All-weaker (λ b. HasOwnCode whole (body_of m.words b)) (IsOwnBody whole m) (λ b h. record { text = is; among = among; code = h }) bodies own

-- ---- the names of a text of a run are among those of the run

pub are_among : (r : Run) → AreNumbers r → (text : List BareDef) → Contains (texts_of r) text → AreAmong (meaning r text)
are_among r n text there = record {
  cells = λ name h. once_has _ name (in_each (λ x. (names_of x).cells) (texts_of r) text name there h);
  mutexes = λ name h. once_has _ name (in_each (λ x. (names_of x).mutexes) (texts_of r) text name there h);
  tags = λ name h. once_has _ name (in_each (λ x. (names_of x).tags) (texts_of r) text name there h);
  functions = λ name h. n.called text name there h;
}
