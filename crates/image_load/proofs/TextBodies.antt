-- The functions that are made of the bodies of a text, and their numbers by their names.
use Rattle.std.proofs.Common.{◌≡◌, ◌+◌, ◌-◌, ◌⊎◌, inl, inr, ℕ, Bool, true, false, IsTrue, List, [], ◌∷◌, ◌++◌, Contains, map, length, cond, get_or, Option, Some, None, option_map, refl, sym, ap, subst, ◌∙◌, arith}
use Rattle.std.specs.Prelude.{All, Vec, slice_get, slice_index_or}
use Rattle.std.specs.declared.alloc.Global.{Global}
use Rattle.std.specs.List.{cons_option}
use Rattle.std.proofs.lemmas.List.{length-append, length-map, map-id}
use Rattle.std.proofs.lemmas.List.Elements.{All-append, Contains-append_right}
use Rattle.std.proofs.lemmas.Option.{get_or_from_slice_get, same_Some, slice_get-get_or, slice_get-map, slice_get_within}
use Rattle.std.proofs.lemmas.Simd.{map-map}
use Rattle.std.proofs.lemmas.Slice.Eq.{bytes_eq-Decides}
use Rattle.c_tree.specs.BareExpr.{Bytes}
use Rattle.c_tree.specs.BareDef.{BareDef}
use Rattle.c_tree.specs.BareDef as bare
use Rattle.c_semantics.specs.Texts.{Definitions, defines, definition}
use Rattle.resolved_tree.specs.declared.words.Word.{Word}
use Rattle.resolved_tree.specs.Nodes.{word}
use Rattle.bytecode.specs.declared.instr.Instr.{Instr}
use Rattle.bytecode.specs.Seen.{code_of}
use Rattle.text_code.specs.declared.body.Body.{Body}
use Rattle.text_code.specs.Bodies.{CodedFunction, ResolvedFunction, body_of, coded, outline_if, outlines_of}
use Rattle.code_runs.specs.CodeData.{number_of}
use Rattle.code_image.specs.declared.function.CodeFunction.{CodeFunction}
use Rattle.code_image.specs.Images.{has_body}
use Rattle.accepted_stops.specs.StopNames.{function_names}
use Rattle.image_load.specs.declared.names.Run.{Run}
use Rattle.image_load.specs.declared.texts.Made.{Made}
use Rattle.image_load.specs.Doing.{AreMade, HasStops, given, made}
use Rattle.image_load.specs.Numbering.{AreDistinct, AreNumbers, callees_of, meaning, texts_of, words_of}
use Rattle.image_load.specs.MadeTexts.{AreMadeTo, AreOwnBodies, HasBodies, IsMadeFor, IsOwnAt, code_in}
use Rattle.image_load.proofs.Lists.{Paired, found_in, in_first, in_second, paired}
use Rattle.image_load.proofs.NameLists.{at_cases, at_number, found_contained}

-- ---- what a text defines as a function has a body

abbrev named_in : Definitions → List BareDef → List Bytes
named_in look ds = map (λ c. c.name) (map (coded look) (outlines_of look ds))

not_true : IsTrue false → ⊥
not_true h = cc

defined_named : (look : Definitions) (ds : List BareDef) (name : Bytes) → IsTrue (has_body (definition ds name)) → Contains (named_in look ds) name
defined_named look [] name h = absurd (not_true h)
defined_named look (d ∷ ds) name h = by d (defines name d) refl (defined_named look ds name) h
  where
    rest : List ResolvedFunction
    rest = outlines_of look ds

    names : List ResolvedFunction → List Bytes
    names fs = map (λ c. c.name) (map (coded look) fs)

    later : (o : Option ResolvedFunction) → Contains (names rest) name → Contains (names (cons_option o rest)) name
    later None k = k
    later (Some f) k = Contains-append_right (f.name ∷ []) (names rest) name k

    own : (own : BareDef) → defines name own ≡ true → IsTrue (has_body (Some own)) → Contains (names (cons_option (outline_if look own) rest)) name
    own (bare.Function result n parameters body) is k =
        let same : name ≡ n = (bytes_eq-Decides name n).0 is in
        subst (λ (x : Bytes). Contains (x ∷ names rest) name) same (found_contained (name ∷ names rest) 0 name refl)
    own _ is k = absurd (not_true k)

    by : (e : BareDef) (b : Bool) → defines name e ≡ b → (IsTrue (has_body (definition ds name)) → Contains (names rest) name)
        → IsTrue (has_body (cond b (Some e) (definition ds name))) → Contains (names (cons_option (outline_if look e) rest)) name
    by e true is before k = own e is k
    by e false is before k = later (outline_if look e) (before k)

pub defined_has_name : (text : List BareDef) (name : Bytes) → IsTrue (has_body (definition text name)) → Contains (function_names text) name
defined_has_name text name h = defined_named (definition text) text name h

-- ---- functions and bodies

module _ (r : Run) (number : ℕ) (text : List BareDef) (bodies : List Body) (fs : List CodeFunction)
    (at : slice_get (texts_of r) number ≡ Some text) (compiled : map (body_of (words_of r)) bodies ≡ code_in text)
    (m : AreMade (meaning r text) number bodies fs) where
  abbrev coded_as : ℕ → Word × List Instr → CodedFunction
  coded_as parameters w = record { name = word (words_of r) w.0; parameters = parameters; code = code_of (words_of r) w.1 }

  made_for : (k : ℕ) (f : CodeFunction) → slice_get fs k ≡ Some f → IsMadeFor r f
  made_for k f there =
      let own = paired made given fs bodies k f m.same there in
      let found : slice_get (map (body_of (words_of r)) bodies) k ≡ Some (coded_as own.item.parameters (made f)) =
      slice_get-map (body_of (words_of r)) bodies k ∙ ap (option_map (body_of (words_of r))) own.there
      ∙ ap (λ w. Some (coded_as own.item.parameters w)) (sym own.same) in
      record {
        text = text;
        own = ap (slice_get (texts_of r)) (found_in (λ g. g.text ≡ number) fs k f m.own there) ∙ at;
        parameters = own.item.parameters;
        coded = found_contained (code_in text) k _ (ap (λ cs. slice_get cs k) (sym compiled) ∙ found);
        stops = found_in (λ (g : CodeFunction). HasStops (meaning r text) g.verified.body.code.items g.stops.items) fs k f m.stops there;
      }

  pub all_made : All (IsMadeFor r) fs
  all_made = λ k d within. made_for k (get_or fs k d) (slice_get-get_or fs k d within)

  -- the names of the functions are those of the text
  pub same_names : map (λ f. word (words_of r) f.name) fs ≡ function_names text
  same_names =
      sym (map-map (λ (w : Word × List Instr). word (words_of r) w.0) made fs)
      ∙ ap (map (λ (w : Word × List Instr). word (words_of r) w.0)) m.same
      ∙ map-map (λ (w : Word × List Instr). word (words_of r) w.0) given bodies
      ∙ sym (map-map (λ (c : CodedFunction). c.name) (body_of (words_of r)) bodies)
      ∙ ap (map (λ (c : CodedFunction). c.name)) compiled

  -- so each is among the names that functions have
  pub callee_of : AreNumbers r → (k : ℕ) (f : CodeFunction) → slice_get fs k ≡ Some f → Contains (callees_of r) (word (words_of r) f.name)
  callee_of n k f there =
      let name_of : CodeFunction → Bytes = λ g. word (words_of r) g.name in
      n.called text (name_of f) (found_contained (texts_of r) number text at)
      (subst (λ (ns : List Bytes). Contains ns (name_of f)) same_names
      (found_contained (map name_of fs) k (name_of f) (slice_get-map name_of fs k ∙ ap (option_map name_of) there)))

  -- ---- a row of their numbers

  module _ (old : List CodeFunction) (row : List (Option ℕ)) (distinct : AreDistinct (callees_of r))
      (has : HasBodies r (old ++ fs) (length old) (length (old ++ fs)) row) where
    own_at : (n k : ℕ) → slice_get row n ≡ Some (Some k) → IsOwnAt r (old ++ fs) number n k
    own_at n k e =
        let b = has.own n k e in
        record {
          function = b.function;
          there = b.there;
          own = found_in (λ g. g.text ≡ number) fs (k - length old) b.function m.own (sym (in_second old fs k b.from) ∙ b.there);
          named = b.named;
        }

    own_each : (n : ℕ) (name : Bytes) → slice_get (callees_of r) n ≡ Some name → IsTrue (has_body (definition text name))
        → (k : ℕ) × (slice_get row n ≡ Some (Some k))
    own_each n name there defined =
        let name_of : CodeFunction → Bytes = λ f. word (words_of r) f.name in
        let listed : Contains (map name_of fs) name = subst (λ (ns : List Bytes). Contains ns name) (sym same_names) (defined_has_name text name defined) in
        let place = number_of (map name_of fs) name in
        let own : Paired (λ (x : Bytes). x) name_of fs place name =
        paired (λ (x : Bytes). x) name_of (map name_of fs) fs place name (map-id (map name_of fs)) (at_number (map name_of fs) name listed) in
        let f = own.item in
        let back : length old + place - length old ≡ place = omega arith in
        let here : slice_get (old ++ fs) (length old + place) ≡ Some f =
        in_second old fs (length old + place) (omega arith) ∙ ap (slice_get fs) back ∙ own.there in
        let found = has.each (length old + place) f (omega arith) (slice_get_within (old ++ fs) (length old + place) f here) here in (
          found.0,
          subst (λ (m : ℕ). slice_get row m ≡ Some (Some found.0)) (ap (number_of (callees_of r)) (sym own.same) ∙ distinct n name there) found.1,
        )

    pub own_bodies_are : AreOwnBodies r (old ++ fs) number text row
    own_bodies_are = record { own = own_at; each = own_each }

-- ---- one text more

-- what holds of rows holds when there are more functions
pub more_functions : (r : Run) (functions more : List CodeFunction) (number : ℕ) (text : List BareDef) (row : List (Option ℕ))
    → AreOwnBodies r functions number text row → AreOwnBodies r (functions ++ more) number text row
more_functions r functions more number text row are = record {
  own = λ n k e.
      let b = are.own n k e in
      record { function = b.function; there = in_first functions more k b.function b.there; own = b.own; named = b.named };
  each = are.each;
}

pub one_text_more : (r : Run) (number : ℕ) (text : List BareDef) (old new : Made) (fs : List CodeFunction) (row : List (Option ℕ))
    → slice_get (texts_of r) number ≡ Some text → AreMadeTo r number old → All (IsMadeFor r) fs
    → new.functions.items ≡ old.functions.items ++ fs → AreOwnBodies r (old.functions.items ++ fs) number text row
    → map (λ v. v.items) new.bodies.items ≡ map (λ v. v.items) old.bodies.items ++ row ∷ [] → AreMadeTo r (number + 1) new
one_text_more r number text old new fs row at before more functions own rows = record {
  functions = subst (λ (gs : List CodeFunction). All (IsMadeFor r) gs) (sym functions) (All-append (IsMadeFor r) old.functions.items fs before.functions more);
  many =
      let longer = ap length rows ∙ length-append (map (λ v. v.items) old.bodies.items) (row ∷ []) in
      let many = before.many in
      omega (arith, longer, many, length-map new.bodies.items (λ v. v.items), length-map old.bodies.items (λ v. v.items));
  bodies = λ n other found there at_n.
      subst (λ (gs : List CodeFunction). AreOwnBodies r gs n other found) (sym functions)
      (by n other found there (at_cases (map (λ v. v.items) old.bodies.items) row found n (ap (λ rs. slice_get rs n) (sym rows) ∙ at_n)));
}
  where
    by : (n : ℕ) (other : List BareDef) (found : List (Option ℕ)) → slice_get (texts_of r) n ≡ Some other
        → (slice_get (map (λ v. v.items) old.bodies.items) n ≡ Some found) ⊎ ((n ≡ length (map (λ v. v.items) old.bodies.items)) × (row ≡ found))
        → AreOwnBodies r (old.functions.items ++ fs) n other found
    by n other found there (inl earlier) = more_functions r old.functions.items fs n other found (before.bodies n other found there earlier)
    by n other found there (inr last) =
        let here : n ≡ number = last.0 ∙ length-map old.bodies.items (λ v. v.items) ∙ before.many in
        let same : text ≡ other = same_Some _ _ (sym at ∙ ap (slice_get (texts_of r)) (sym here) ∙ there) in
        subst (λ (m : ℕ). AreOwnBodies r (old.functions.items ++ fs) m other found) (sym here)
        (subst (λ (ds : List BareDef). AreOwnBodies r (old.functions.items ++ fs) number ds found) same
        (subst (λ (fr : List (Option ℕ)). AreOwnBodies r (old.functions.items ++ fs) number text fr) last.1 own))

-- ---- what is made of a text

pub part_at : {X Y : Type 0} (f : X → Y) (g : List BareDef → List Y) (texts : List (List BareDef)) (parts : List (Vec X Global)) (k : ℕ)
    (v : Vec X Global) → map (map f) (map (λ p. p.items) parts) ≡ map g texts → slice_get parts k ≡ Some v → map f v.items ≡ g (slice_index_or texts k [])
part_at {X} f g texts parts k v same at =
    let own : Paired (λ (p : Vec X Global). map f p.items) g texts k v =
    paired (λ (p : Vec X Global). map f p.items) g parts texts k v (sym (map-map (map f) (λ (p : Vec X Global). p.items) parts) ∙ same) at in
    own.same ∙ ap g (sym (get_or_from_slice_get texts k own.item [] own.there))
