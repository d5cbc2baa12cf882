-- What the steps of an install come to.
use Rattle.std.proofs.Common.{◌≡◌, ℕ, zero, suc, ◌+◌, ◌<◌, ◌≤◌, Bool, true, false, cond, List, [], ◌∷◌, ◌++◌, length, map, filter, get_or, set, take, drop, Option, Some, None, All, find, is_some, option_map, unwrap_or, slice_get, refl, sym, ap, subst, ◌∙◌, arith}
use Rattle.std.specs.Prelude.{Vec}
use Rattle.std.specs.List.{position, position_or_len}
use Rattle.std.specs.declared.alloc.Global.{Global}
use Rattle.std.proofs.lemmas.List.{append_assoc, append-nil, take_all, take_more, drop_all, drop_more, get_or-map, length-map, length-take, map-append}
use Rattle.std.proofs.lemmas.List.Elements.{All-get_or}
use Rattle.std.proofs.lemmas.List.Folds.{find_at}
use Rattle.std.proofs.lemmas.Option.{slice_get-map, slice_get_past, unwrap_or-slice_get, get_or_from_slice_get, slice_get-get_or}
use Rattle.c_tree.specs.BareExpr.{Bytes}
use Rattle.c_tree.specs.BareDef.{BareDef}
use Rattle.c_tree.specs.Bare.{bare_def}
use Rattle.c_tree.specs.declared.def.Program.{Program}
use Rattle.c_semantics.specs.Changes.{agree, same_interface}
use Rattle.c_semantics.specs.Pieces.{Variable}
use Rattle.c_semantics.specs.Texts.{definition}
use Rattle.source_model.specs.Worlds as world
use Rattle.version_laws.proofs.DefinedNames.{found_defines}
use Rattle.version_laws.proofs.SameDefinitions.{interface_is_itself}
use Rattle.resolved_tree.specs.Nodes.{Table}
use Rattle.source_programs.specs.declared.ready.Ready.{Ready}
use Rattle.source_programs.specs.declared.programs.Programs.{Programs}
use Rattle.source_programs.specs.declared.globals.Cells.{Cells}
use Rattle.source_programs.specs.Programs.{text_at, text_of, trees_of}
use Rattle.source_programs.specs.Globals.{cells_of, globals_of}
use Rattle.source_data.specs.declared.store.Field.{Field}
use Rattle.source_data.specs.declared.store.Held.{Held}
use Rattle.source_data.specs.declared.store.Object.{Object}
use Rattle.source_install.specs.declared.install.NewFields.{NewFields}
use Rattle.source_data.specs.Stores.{fields_of, held_of, holders_of, object_of, objects_of}
use Rattle.source_install.specs.NewData.{fields_or, news_with, with_fields, with_new}
use Rattle.source_data.proofs.Newest.{last_first}
use Rattle.source_programs.proofs.Placed.{found_at, nowhere}

-- ---- what is found

-- the first that passes is at its position
pub find_there : {X : Type 0} (p : X → Bool) (xs : List X) (i : ℕ) → position p xs ≡ Some i → slice_get xs i ≡ find p xs
find_there p xs i h = sym (find_at p xs ∙ ap (slice_get xs) (found_at p xs i h).first)

pub find_nowhere : {X : Type 0} (p : X → Bool) (xs : List X) → position p xs ≡ None → None ≡ find p xs
find_nowhere p xs h = sym (find_at p xs ∙ slice_get_past xs (position_or_len p xs) (nowhere p xs h))

-- a text agrees with itself on the names that it defines
pub agrees_with_itself : (text : List BareDef) (name : Bytes) → agree same_interface (definition text name) (definition text name) ≡ is_some (definition text name)
agrees_with_itself text name = by (definition text name) refl
  where
    by : (o : Option BareDef) → definition text name ≡ o → agree same_interface o o ≡ is_some o
    by None is = refl
    by (Some d) is = interface_is_itself d (found_defines text name d is)

-- ---- a text by its number

-- there is none past the last
pub no_text : (p : Programs) (k : ℕ) → slice_get (trees_of p) k ≡ None → text_at p k ≡ []
no_text p k is =
    sym (unwrap_or-slice_get (map text_of p.texts.items) k [])
    ∙ ap (λ o. unwrap_or o []) (slice_get-map text_of p.texts.items k)
    ∙ by (slice_get p.texts.items k) (sym (slice_get-map (λ r. r.text) p.texts.items k) ∙ is)
  where
    by : (o : Option Ready) → option_map (λ r. r.text) o ≡ None → unwrap_or (option_map text_of o) [] ≡ []
    by None e = refl
    by (Some r) e = cc

pub text_is : (p : Programs) (k : ℕ) (program : Program) → slice_get (trees_of p) k ≡ Some program → text_at p k ≡ map bare_def program.definitions
text_is p k program is =
    sym (unwrap_or-slice_get (map text_of p.texts.items) k [])
    ∙ ap (λ o. unwrap_or o []) (slice_get-map text_of p.texts.items k)
    ∙ by (slice_get p.texts.items k) (sym (slice_get-map (λ r. r.text) p.texts.items k) ∙ is)
  where
    by : (o : Option Ready) → option_map (λ r. r.text) o ≡ Some program → unwrap_or (option_map text_of o) [] ≡ map bare_def program.definitions
    by None e = cc
    by (Some r) e = let same : r.text ≡ program = cc in ap (λ p. map bare_def p.definitions) same

-- ---- holders

module _ (t : Table) (keeps : world.Held → Bool) (hs : List Held) (i : ℕ) (h : Held) (kept : List Held) (within : i < length hs) (is : h ≡ get_or hs i h)
    (before : holders_of t kept ≡ filter keeps (holders_of t (take i hs))) where
  one_more : holders_of t (take (i + 1) hs) ≡ held_of t h ∷ holders_of t (take i hs)
  one_more =
      ap (holders_of t) (take_more hs i h within ∙ ap (λ x. take i hs ++ x ∷ []) (sym is))
      ∙ last_first (held_of t) (take i hs) h

  pub holder_kept : keeps (held_of t h) ≡ true → holders_of t (kept ++ h ∷ []) ≡ filter keeps (holders_of t (take (i + 1) hs))
  holder_kept passes =
      last_first (held_of t) kept h
      ∙ ap (λ l. held_of t h ∷ l) before
      ∙ sym (ap (filter keeps) one_more
      ∙ ap (λ b. cond b (held_of t h ∷ filter keeps (holders_of t (take i hs))) (filter keeps (holders_of t (take i hs)))) passes)

  pub holder_dropped : keeps (held_of t h) ≡ false → holders_of t kept ≡ filter keeps (holders_of t (take (i + 1) hs))
  holder_dropped fails =
      before
      ∙ sym (ap (filter keeps) one_more
      ∙ ap (λ b. cond b (held_of t h ∷ filter keeps (holders_of t (take i hs))) (filter keeps (holders_of t (take i hs)))) fails)

-- ---- cells

-- a global that is found, as the definitions have it
pub global_at : (cs : List Cells) (place : ℕ) (c : Cells) (g : world.Cells) → place < length cs → c ≡ get_or cs place c
    → slice_get (globals_of cs) place ≡ Some g → g ≡ cells_of c
global_at cs place c g within is at =
    sym (get_or_from_slice_get (globals_of cs) place g (cells_of c) at)
    ∙ get_or-map cells_of cs place c (cells_of c) within
    ∙ ap cells_of (sym is)

pub global_there : (cs : List Cells) (place : ℕ) (c : Cells) → place < length cs → c ≡ get_or cs place c
    → slice_get (globals_of cs) place ≡ Some (cells_of c)
global_there cs place c within is =
    let long = length-map cs cells_of in
    slice_get-get_or (globals_of cs) place (cells_of c) (omega (arith, within, long))
    ∙ ap Some (get_or-map cells_of cs place c (cells_of c) within ∙ ap cells_of (sym is))

-- ---- objects

-- new fields of one object more
pub with_new_more : (news : List NewFields) (new : NewFields) (os : List Object) → with_new (news ++ new ∷ []) os ≡ with_fields new.number new.fields (with_new news os)
with_new_more [] new os = refl
with_new_more (x ∷ news) new os = with_new_more news new (with_fields x.number x.fields os)

-- an object with other fields
pub with_fields_set : (n : ℕ) (fields : Vec Field Global) (os : List Object) (o : Object) → n < length os → o ≡ get_or os n o
    → set os n (record o { fields = fields }) ≡ with_fields n fields os
with_fields_set n fields [] o within is = absurd (omega (arith, within))
with_fields_set zero fields (x ∷ os) o within is = ap {A = Object} (λ y. record y { fields = fields } ∷ os) is
with_fields_set (suc n) fields (x ∷ os) o within is = ap (λ l. x ∷ l) (with_fields_set n fields os o (omega (arith, within)) is)

pub with_fields_past : (n : ℕ) (fields : Vec Field Global) (os : List Object) → length os ≤ n → os ≡ with_fields n fields os
with_fields_past n fields [] past = refl
with_fields_past zero fields (x ∷ os) past = absurd (omega (arith, past))
with_fields_past (suc n) fields (x ∷ os) past = ap (λ l. x ∷ l) (with_fields_past n fields os (omega (arith, past)))

-- the object at a place with other fields, as the definitions have it
fields_at : (t : Table) (n : ℕ) (fields : Vec Field Global) (os : List Object) (before after : List world.Object) (o : world.Object)
    → objects_of t os ≡ before ++ o ∷ after → length before ≡ n
    → objects_of t (with_fields n fields os) ≡ before ++ record o { fields = fields_of t fields.items } ∷ after
fields_at t n fields [] [] after o is at = cc
fields_at t n fields [] (b ∷ before) after o is at = cc
fields_at t zero fields (x ∷ os) [] after o is at =
    let first : object_of t x ≡ o = cc in
    let rest : objects_of t os ≡ after = cc in
    ap {A = world.Object} (λ y. record y { fields = fields_of t fields.items } ∷ objects_of t os) first
    ∙ ap (λ l. record o { fields = fields_of t fields.items } ∷ l) rest
fields_at t (suc n) fields (x ∷ os) [] after o is at = cc
fields_at t zero fields (x ∷ os) (b ∷ before) after o is at = cc
fields_at t (suc n) fields (x ∷ os) (b ∷ before) after o is at =
    let first : object_of t x ≡ b = cc in
    let rest : objects_of t os ≡ before ++ o ∷ after = cc in
    ap (λ y. y ∷ objects_of t (with_fields n fields os)) first
    ∙ ap (λ l. b ∷ l) (fields_at t n fields os before after o rest (omega (arith, at)))

-- the objects before one are brought, and the others are as they were: so it is with one more
module _ (t : Table) (bring : world.Object → world.Object) (os : List Object) (news : List NewFields) (i : ℕ) (o : Object) (fields : Option (Vec Field Global))
    (within : i < length os) (is : o ≡ get_or os i o)
    (before : objects_of t (with_new news os) ≡ map bring (take i (objects_of t os)) ++ drop i (objects_of t os))
    (brings : object_of t (fields_or o fields) ≡ bring (object_of t o)) where
  abbrev all : List world.Object
  all = objects_of t os

  abbrev front : List world.Object
  front = map bring (take i (objects_of t os))

  abbrev back : List world.Object
  back = drop (i + 1) (objects_of t os)

  within_all : i < length all
  within_all = let long = length-map os (object_of t) in omega (arith, within, long)

  this : get_or all i (object_of t o) ≡ object_of t o
  this = get_or-map (object_of t) os i o (object_of t o) within ∙ ap (object_of t) (sym is)

  front_length : length front ≡ i
  front_length =
      let long = length-map (take i all) bring in
      let taken = length-take i all in
      omega (arith, long, taken, within_all)

  now : objects_of t (with_new news os) ≡ front ++ object_of t o ∷ back
  now =
      before
      ∙ ap (λ l. front ++ l) (drop_more all i (object_of t o) within_all ∙ ap (λ x. x ∷ back) this)

  next : map bring (take (i + 1) all) ++ back ≡ front ++ bring (object_of t o) ∷ back
  next =
      ap (λ l. map bring l ++ back) (take_more all i (object_of t o) within_all ∙ ap (λ x. take i all ++ x ∷ []) this)
      ∙ ap (λ l. l ++ back) (map-append bring (take i all) (object_of t o ∷ []))
      ∙ append_assoc front (bring (object_of t o) ∷ []) back

  with_this : (f : Option (Vec Field Global)) → object_of t (fields_or o f) ≡ bring (object_of t o)
      → objects_of t (with_new (news_with news i f) os) ≡ front ++ bring (object_of t o) ∷ back
  with_this None b = now ∙ ap (λ x. front ++ x ∷ back) b
  with_this (Some fs) b =
      ap (objects_of t) (with_new_more news (record { number = i; fields = fs }) os)
      ∙ fields_at t i fs (with_new news os) front back (object_of t o) now front_length
      ∙ ap (λ x. front ++ x ∷ back) b

  pub brought_more : objects_of t (with_new (news_with news i fields) os) ≡ map bring (take (i + 1) all) ++ drop (i + 1) all
  brought_more = with_this fields brings ∙ sym next

-- all of them are brought
pub brought_all : (bring : world.Object → world.Object) (os : List world.Object) (n : ℕ) → length os ≤ n → map bring (take n os) ++ drop n os ≡ map bring os
brought_all bring os n past =
    ap (λ l. map bring l ++ drop n os) (take_all n os past)
    ∙ ap (λ l. map bring os ++ l) (drop_all n os past)
    ∙ append-nil (map bring os)

-- what holds of all objects, as the definitions have them, holds of one
pub holds_of : (P : world.Object → Type 0) (t : Table) (os : List Object) (all : List world.Object) (i : ℕ) (o : Object)
    → all ≡ objects_of t os → All P all → i < length os → o ≡ get_or os i o → P (object_of t o)
holds_of P t os all i o same holds within is =
    let long = length-map os (object_of t) in
    let there : P (get_or (objects_of t os) i (object_of t o)) =
    All-get_or P (objects_of t os) i (object_of t o) (omega (arith, within, long)) (subst {A = List world.Object} (All P) same holds)
    in
    subst {A = world.Object} P (get_or-map (object_of t) os i o (object_of t o) within ∙ ap (object_of t) (sym is)) there

-- an object whose fields are some
pub with_fields_of : (t : Table) (o : Object) (fields : Option (Vec Field Global)) (are : List Variable) → option_map (λ f. fields_of t f.items) fields ≡ Some are
    → object_of t (fields_or o fields) ≡ record (object_of t o) { fields = are }
with_fields_of t o None are e = cc
with_fields_of t o (Some fs) are e = let same : fields_of t fs.items ≡ are = cc in ap (λ l. record (object_of t o) { fields = l }) same
