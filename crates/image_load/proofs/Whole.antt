-- What is made of the texts of a run is the image of the texts.
use Rattle.std.proofs.Common.{◌≡◌, ◌<◌, ℕ, List, [], ◌∷◌, ◌++◌, Contains, map, length, get_or, Option, Some, None, refl, sym, ap, subst, ◌∙◌, arith}
use Rattle.std.specs.Prelude.{All, flat_map, slice_get}
use Rattle.std.specs.Option.{option_flatten}
use Rattle.std.proofs.Math.Path.{fun_ext}
use Rattle.std.proofs.lemmas.List.{length-map, map-id}
use Rattle.std.proofs.lemmas.List.Elements.{All-contains}
use Rattle.std.proofs.lemmas.Option.{same_Some, slice_get-get_or, slice_get-map, slice_get_within}
use Rattle.std.proofs.lemmas.Simd.{map-map}
use Rattle.c_tree.specs.BareExpr.{Bytes}
use Rattle.c_tree.specs.BareDef.{BareDef}
use Rattle.c_semantics.specs.SourceTexts.{Text}
use Rattle.c_semantics.specs.Stops.{Stop}
use Rattle.frame_bodies.specs.AcceptedTexts.{AreAccepted, IsAccepted, definitions_of}
use Rattle.resolved_tree.specs.Nodes.{Table, word}
use Rattle.resolved_tree.specs.Trees.{table}
use Rattle.source_programs.specs.Programs.{text_in}
use Rattle.local_evaluation.specs.Pieces.{stop_of}
use Rattle.bytecode.specs.Seen.{instruction_of}
use Rattle.tree_code.specs.CodedPieces.{Stops}
use Rattle.text_code.specs.declared.body.Body.{Body}
use Rattle.text_code.specs.Bodies.{CodedFunction, body_of}
use Rattle.accepted_code.specs.AcceptedCode.{CodeIsThatOfFunctions, IsCodeIn}
use Rattle.code_runs.specs.CodeMoves.{code_in as code_under}
use Rattle.code_image.specs.declared.act.StopPlace.{StopPlace}
use Rattle.code_image.specs.declared.function.CodeFunction.{CodeFunction}
use Rattle.code_image.specs.declared.image.CodeImage.{CodeImage}
use Rattle.code_image.specs.Acts.{Acts, named}
use Rattle.code_image.specs.Images.{AreBodiesOf, IsFunctionOf, code_in_image, names_in}
use Rattle.code_image.specs.StopHeights.{LeadsTo, StopsLead}
use Rattle.accepted_stops.specs.StopNames.{function_names}
use Rattle.image_load.specs.declared.names.Run.{Run}
use Rattle.image_load.specs.declared.texts.Made.{Made}
use Rattle.image_load.specs.MadeTexts.{AreCompiled, AreMadeTo, AreOwnBodies, IsMadeFor, body_names, code_in}
use Rattle.image_load.specs.Numbering.{callees_of, texts_of, words_of}
use Rattle.image_load.proofs.Lists.{Paired, found_in, nothing, paired}
use Rattle.image_load.proofs.StopsOfCode.{stop_there}

-- ---- accepted texts

-- an accepted text with these definitions
pub record AcceptedOne (text : List BareDef) : Type 0 where
  pub whole : Text
  pub accepted : IsAccepted whole
  pub is : whole.definitions ≡ text

pub accepted_one : (whole : List Text) (texts : List (List BareDef)) (k : ℕ) (text : List BareDef) → AreAccepted whole → definitions_of whole ≡ texts
    → slice_get texts k ≡ Some text → AcceptedOne text
accepted_one whole texts k text accepted are at =
    let own : Paired (λ (ds : List BareDef). ds) (λ (t : Text). t.definitions) whole k text =
    paired (λ (ds : List BareDef). ds) (λ (t : Text). t.definitions) texts whole k text (map-id texts ∙ sym are) at in
    record { whole = own.item; accepted = found_in IsAccepted whole k own.item accepted own.there; is = sym own.same }

-- ---- functions

module _ (r : Run) (f : CodeFunction) (m : IsMadeFor r f) where
  -- each stop leads to a name that a function has
  pub leads : StopsLead (length r.callees.now) f.stops.items
  leads place x at =
      subst (λ k. LeadsTo k x.act) (length-map r.callees.now (word (words_of r))) (m.stops.each place (Some x) at).act.leads

  abbrev own : CodedFunction
  own = record { name = word (words_of r) f.name; parameters = m.parameters; code = code_in_image (words_of r) f }

  its_code : CodeIsThatOfFunctions → AcceptedOne m.text → code_in_image (words_of r) f ≡ code_under (m.text ∷ []) 1 (word (words_of r) f.name)
  its_code law one =
      let there : Contains (code_in one.whole.definitions) own =
      subst (λ (ds : List BareDef). Contains (code_in ds) own) (sym one.is) m.coded in
      let is : IsCodeIn one.whole own = All-contains (IsCodeIn one.whole) (code_in one.whole.definitions) own (law one.whole one.accepted).each there in
      ap (λ (c : CodedFunction). c.code) is.1
      ∙ ap (λ (ds : List BareDef). code_under (ds ∷ []) 1 (word (words_of r) f.name)) one.is

  named_same : (n : ℕ) → slice_get (callees_of r) n ≡ named (words_of r) r.callees.now n
  named_same n = slice_get-map (word (words_of r)) r.callees.now n

  pub function_of : CodeIsThatOfFunctions → AcceptedOne m.text → IsFunctionOf (words_of r) (texts_of r) r.callees.now f
  function_of law one = record {
    text = m.text;
    own = m.own;
    code = its_code law one;
    stops = λ place x at. let stop = m.stops.each place (Some x) at in record {
      stops = stop.stops;
      acts =
          subst (λ (g : ℕ → Option Bytes). Acts (words_of r) (names_in (texts_of r)) m.text g (stop_of (words_of r) x.stop) x.act)
          (fun_ext named_same) stop.act.acts;
    };
    others = λ place s n after none stop. other place s n after (slice_get f.stops.items place) refl none stop;
  }
    where
      other : (place : ℕ) (s : Stop) (n after : ℕ) (o : Option (Option StopPlace)) → slice_get f.stops.items place ≡ o
          → option_flatten o ≡ None → Stops (code_in_image (words_of r) f) s n place after → ⊥
      other place s n after None at none stop =
          let there = stop_there (code_in_image (words_of r) f) s n place after stop in
          let code = f.verified.body.code.items in
          let within = slice_get_within (code_in_image (words_of r) f) place there.found there.there in
          absurd (nothing _ (sym at ∙ slice_get-get_or f.stops.items place None
          (omega (arith, within, length-map code (instruction_of (words_of r)), m.stops.places))))
      other place s n after (Some None) at none stop = m.stops.each place None at s n after stop
      other place s n after (Some (Some x)) at none stop = absurd (nothing x (sym none))

pub functions_are : (r : Run) (fs : List CodeFunction) → All (IsMadeFor r) fs → CodeIsThatOfFunctions → (whole : List Text) → AreAccepted whole
    → definitions_of whole ≡ texts_of r → All (IsFunctionOf (words_of r) (texts_of r) r.callees.now) fs
functions_are r fs made law whole accepted are = λ k d within.
    let m = made k d within in
    function_of r (get_or fs k d) m law (accepted_one whole (texts_of r) (get_or fs k d).text m.text accepted are m.own)

pub all_lead : (r : Run) (fs : List CodeFunction) → All (IsMadeFor r) fs → (n : ℕ) (f : CodeFunction) → slice_get fs n ≡ Some f
    → StopsLead (length r.callees.now) f.stops.items
all_lead r fs made n f there = leads r f (found_in (IsMadeFor r) fs n f made there)

-- ---- bodies by their names

-- a body is a function that is there
pub bodies_within : (r : Run) (m : Made) → AreMadeTo r (length r.texts.now) m → (number n k : ℕ) (row : List (Option ℕ))
    → slice_get (map (λ v. v.items) m.bodies.items) number ≡ Some row → slice_get row n ≡ Some (Some k) → k < length m.functions.items
bodies_within r m are number n k row there e =
    let place = slice_get_within (map (λ v. v.items) m.bodies.items) number row there in
    let many = are.many in
    let within : number < length (texts_of r) =
    omega (arith, place, many, length-map m.bodies.items (λ v. v.items), length-map r.texts.now text_in) in
    let text = get_or (texts_of r) number [] in
    let own = (are.bodies number text row (slice_get-get_or (texts_of r) number [] within) there).own n k e in
    slice_get_within m.functions.items k own.function own.there

module _ (r : Run) (image : CodeImage) (words : table image.trees ≡ words_of r) (callees : image.callees.items ≡ r.callees.now) where
  named_at : (n : ℕ) → named (table image.trees) image.callees.items n ≡ slice_get (callees_of r) n
  named_at n =
      ap (λ t. named t image.callees.items n) words ∙ ap (λ cs. named (words_of r) cs n) callees
      ∙ sym (slice_get-map (word (words_of r)) r.callees.now n)

  pub bodies_of : (number : ℕ) (text : List BareDef) (row : List (Option ℕ)) → AreOwnBodies r image.functions.items number text row
      → AreBodiesOf image number text row
  bodies_of number text row are = record {
    own = λ n k f e there.
        let b = are.own n k e in
        ap (λ (g : CodeFunction). g.text) (sym (same_Some b.function f (sym b.there ∙ there))) ∙ b.own;
    same = λ n k f e there.
        let b = are.own n k e in
        named_at n ∙ b.named ∙ ap (λ (g : CodeFunction). Some (word (words_of r) g.name)) (same_Some b.function f (sym b.there ∙ there))
        ∙ ap (λ t. Some (word t f.name)) (sym words);
    each = λ n name there body. are.each n name (sym (named_at n) ∙ there) body;
  }

-- ---- names of functions

-- the parts of the images of items
pub names_mapped : {X Y Z : Type 0} (g : Y → List Z) (f : X → Y) (xs : List X) → flat_map (λ x. g (f x)) xs ≡ flat_map g (map f xs)
names_mapped g f [] = refl
names_mapped g f (x ∷ xs) = ap (λ zs. g (f x) ++ zs) (names_mapped g f xs)

same_parts : {X Z : Type 0} (f g : X → List Z) → ((x : X) → f x ≡ g x) → (xs : List X) → flat_map f xs ≡ flat_map g xs
same_parts f g e [] = refl
same_parts f g e (x ∷ xs) = ap (λ ys. ys ++ flat_map f xs) (e x) ∙ ap (λ ys. g x ++ ys) (same_parts f g e xs)

-- the names of the bodies of all texts are those of their functions
pub all_names : (t : Table) (texts : List (List BareDef)) (bodies : List (List Body)) → AreCompiled t texts bodies
    → flat_map (body_names t) bodies ≡ flat_map function_names texts
all_names t texts bodies compiled =
    let names : List CodedFunction → List Bytes = map (λ c. c.name) in
    same_parts (body_names t) (λ bs. names (map (body_of t) bs)) (λ bs. sym (map-map (λ (c : CodedFunction). c.name) (body_of t) bs)) bodies
    ∙ names_mapped names (map (body_of t)) bodies ∙ ap (flat_map names) compiled ∙ sym (names_mapped names code_in texts)
