-- Objects that have words: as many as there are, at their numbers, and where one is changed, added or named anew.
use Rattle.std.proofs.Common.{◌≡◌, ℕ, zero, suc, Bool, true, false, List, [], ◌∷◌, ◌++◌, map, length, get_or, set, slice_get, Option, Some, None, is_some, refl, sym, ap, ap₂, subst, ◌∙◌}
use Rattle.std.proofs.lemmas.Option.{none-some, same_Some}
use Rattle.c_tree.specs.BareExpr.{Bytes}
use Rattle.c_tree.specs.BareDef.{BareDef}
use Rattle.c_semantics.specs.Names.{struct_name}
use Rattle.c_semantics.specs.Texts.{definition, members_of}
use Rattle.source_model.specs.Worlds.{Object}
use Rattle.typed_runs.proofs.MoreObjects.{Grows, scope_still}
use Rattle.bytecode.specs.Words.{Naming}
use Rattle.object_store.specs.declared.object.Object.{Object as Own}
use Rattle.object_store.specs.Naming.{Objects}
use Rattle.code_runs.specs.CodeData.{Names}
use Rattle.code_runs.specs.Layouts.{text_at}
use Rattle.code_run_laws.specs.DataMatches.{LivesAs, ObjectMatches, ObjectsMatch}
use Rattle.code_run_laws.proofs.MoreNames.{fields_still}
use Rattle.code_run_laws.proofs.SharedAlike.{MoreNamed}

module _ (names : Names) (texts : List (List BareDef)) (tags : List Bytes) (naming : Naming) where
  abbrev Match : List Object → Objects → Type 0
  Match = ObjectsMatch names texts tags naming

  pub as_many : (os : List Object) (owns : Objects) → Match os owns → length owns ≡ length os
  as_many [] [] h = refl
  as_many [] (own ∷ owns) h = absurd h
  as_many (o ∷ os) [] h = absurd h
  as_many (o ∷ os) (own ∷ owns) h = ap suc (as_many os owns h.1)

  -- the same live
  lives_so : (live : Bool) (o : Object) (own : Option Own) → ObjectMatches names texts tags naming live o own → is_some own ≡ live
  lives_so true o (Some own) h = refl
  lives_so true o None h = absurd h
  lives_so false o (Some own) h = absurd h
  lives_so false o None h = refl

  pub live_alike : (os : List Object) (owns : Objects) → Match os owns → map is_some owns ≡ map (λ o. o.live) os
  live_alike [] [] h = refl
  live_alike [] (own ∷ owns) h = absurd h
  live_alike (o ∷ os) [] h = absurd h
  live_alike (o ∷ os) (own ∷ owns) h = ap₂ (◌∷◌) (lives_so o.live o own h.0) (live_alike os owns h.1)

  -- the object of a number
  pub match_at : (os : List Object) (owns : Objects) (n : ℕ) (o : Object) → Match os owns → slice_get os n ≡ Some o
      → ObjectMatches names texts tags naming o.live o (get_or owns n None)
  match_at [] owns n o h e = absurd (none-some o e)
  match_at (x ∷ os) [] n o h e = absurd h
  match_at (x ∷ os) (own ∷ owns) zero o h e =
      subst (λ y. ObjectMatches names texts tags naming y.live y own) (same_Some x o e) h.0
  match_at (x ∷ os) (own ∷ owns) (suc n) o h e = match_at os owns n o h.1 e

  -- one is changed
  pub match_set : (os : List Object) (owns : Objects) (n : ℕ) (o : Object) (own : Option Own) → Match os owns
      → ObjectMatches names texts tags naming o.live o own → Match (set os n o) (set owns n own)
  match_set [] [] n o own h new = tt
  match_set [] (y ∷ owns) n o own h new = absurd h
  match_set (x ∷ os) [] n o own h new = absurd h
  match_set (x ∷ os) (y ∷ owns) zero o own h new = (new, h.1)
  match_set (x ∷ os) (y ∷ owns) (suc n) o own h new = (h.0, match_set os owns n o own h.1 new)

  -- its words are changed, and it is as it was
  pub match_again : (os : List Object) (owns : Objects) (n : ℕ) (o : Object) (own : Option Own) → Match os owns → slice_get os n ≡ Some o
      → ObjectMatches names texts tags naming o.live o own → Match os (set owns n own)
  match_again [] owns n o own h e new = absurd (none-some o e)
  match_again (x ∷ os) [] n o own h e new = absurd h
  match_again (x ∷ os) (y ∷ owns) zero o own h e new =
      (subst (λ z. ObjectMatches names texts tags naming z.live z own) (sym (same_Some x o e)) new, h.1)
  match_again (x ∷ os) (y ∷ owns) (suc n) o own h e new = (h.0, match_again os owns n o own h.1 e new)

  -- one is added
  pub match_push : (os : List Object) (owns : Objects) (o : Object) (own : Option Own) → Match os owns
      → ObjectMatches names texts tags naming o.live o own → Match (os ++ o ∷ []) (owns ++ own ∷ [])
  match_push [] [] o own h new = (new, tt)
  match_push [] (y ∷ owns) o own h new = absurd h
  match_push (x ∷ os) [] o own h new = absurd h
  match_push (x ∷ os) (y ∷ owns) o own h new = (h.0, match_push os owns o own h.1 new)

-- there are more objects, which are named
module _ (names : Names) (texts : List (List BareDef)) (tags tags_now : List Bytes) (grows : Grows tags tags_now) (old new : Naming)
    (more : MoreNamed (length tags) old new) where
  lives_still : (o : Object) (own : Own) → LivesAs names texts tags old o own → LivesAs names texts tags_now new o own
  lives_still o own h =
      let ms = members_of (definition (text_at texts own.layout) (struct_name o.tag)) in
      record {
        tag = h.tag;
        known = h.known;
        old = h.old;
        fits = (h.fits.0, scope_still tags tags_now grows ms h.old h.fits.1);
        words = record {
          others = h.words.others;
          are = h.words.are ∙ ap (λ ws. ws ++ h.words.others) (sym (fields_still tags old new more ms h.old h.fits.1));
          ranged = h.words.ranged;
        };
        brought = h.brought;
      }

  object_still : (live : Bool) (o : Object) (own : Option Own) → ObjectMatches names texts tags old live o own
      → ObjectMatches names texts tags_now new live o own
  object_still true o (Some own) h = lives_still o own h
  object_still true o None h = absurd h
  object_still false o (Some own) h = absurd h
  object_still false o None h = tt

  pub objects_match_still : (os : List Object) (owns : Objects) → ObjectsMatch names texts tags old os owns
      → ObjectsMatch names texts tags_now new os owns
  objects_match_still [] [] h = tt
  objects_match_still [] (own ∷ owns) h = absurd h
  objects_match_still (o ∷ os) [] h = absurd h
  objects_match_still (o ∷ os) (own ∷ owns) h = (object_still o.live o own h.0, objects_match_still os owns h.1)
