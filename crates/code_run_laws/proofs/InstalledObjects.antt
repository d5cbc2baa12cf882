-- An install leaves the words of objects as they are, and they stand for the objects after it.
use Rattle.std.proofs.Common.{◌≡◌, ℕ, suc, ◌+◌, ◌-◌, ◌<◌, Bool, true, false, List, [], ◌∷◌, ◌++◌, length, map, Option, Some, None, refl, sym, ap, ap₂, subst, ◌∙◌, arith}
use Rattle.c_tree.specs.BareExpr.{Bytes}
use Rattle.c_tree.specs.BareDef.{BareDef}
use Rattle.c_semantics.specs.Pieces.{Variable}
use Rattle.source_model.specs.Worlds.{Object}
use Rattle.source_model.specs.Installs.{brought}
use Rattle.version_laws.specs.Histories.{last_text, text_in}
use Rattle.version_laws.proofs.TableHistories.{one_longer, text_of_next}
use Rattle.typed_runs.specs.TypedWorlds.{tags_of}
use Rattle.bytecode.specs.Words.{Naming}
use Rattle.object_store.specs.declared.object.Object.{Object as Own}
use Rattle.object_store.specs.Naming.{Objects}
use Rattle.code_runs.specs.CodeData.{Names, number_of}
use Rattle.code_runs.specs.Layouts.{AreFieldsIn, brought_fields, brought_once, newest_fields, text_at}
use Rattle.code_run_laws.specs.DataMatches.{LivesAs, ObjectMatches, ObjectsMatch}
use Rattle.code_run_laws.proofs.BroughtFields.{brought_has, brought_live, brought_still, brought_tag, text_still}

module _ (texts : List (List BareDef)) (q : List BareDef) where
  abbrev longer : List (List BareDef)
  longer = texts ++ q ∷ []

  abbrev after : Object → Object
  after = brought (last_text texts) q

  -- what fields are by the newer text is one step more
  newest_more : (tag : Bytes) (n : ℕ) (old : List Variable) → n < length texts
      → newest_fields longer tag n old ≡ brought_once (last_text texts) q tag (newest_fields texts tag n old)
  newest_more tag n old within =
      let k = length texts - suc n in
      let count = one_longer texts q in
      let more : length longer - suc n ≡ suc k = omega (arith, within, count) in
      let last : suc (n + k) ≡ length texts = omega (arith, within) in
      let before : text_at longer (n + k) ≡ last_text texts =
      text_still texts q (n + k) (omega (arith, last)) ∙ ap (text_in texts) last in
      let now : text_at longer (suc (n + k)) ≡ q = ap (λ m. text_in longer (suc m)) last ∙ text_of_next texts q in
      ap (λ m. brought_fields longer tag n m old) more
      ∙ ap (λ t. brought_once t (text_at longer (suc (n + k))) tag (brought_fields longer tag n k old)) before
      ∙ ap (λ t. brought_once (last_text texts) t tag (brought_fields longer tag n k old)) now
      ∙ ap (brought_once (last_text texts) q tag) (brought_still texts q tag n k old (omega (arith, last)))

  module _ (names : Names) (tags : List Bytes) (naming : Naming) where
    lives_after : (o : Object) (own : Own) → LivesAs names texts tags naming o own → LivesAs names longer tags naming (after o) own
    lives_after o own h =
        let same : (after o).tag ≡ o.tag = brought_tag (last_text texts) q o in
        record {
          tag = h.tag ∙ ap (number_of names.tags) (sym same);
          known = let count = one_longer texts q in let known = h.known in omega (arith, count, known);
          old = h.old;
          fits =
              subst (λ g. AreFieldsIn (text_at longer own.layout) tags g h.old) (sym same)
              (subst (λ t. AreFieldsIn t tags o.tag h.old) (sym (text_still texts q own.layout h.known)) h.fits);
          words = h.words;
          brought =
              brought_has (last_text texts) q o ∙ ap (brought_once (last_text texts) q o.tag) h.brought
              ∙ sym (newest_more o.tag own.layout h.old h.known)
              ∙ ap (λ g. newest_fields longer g own.layout h.old) (sym same);
        }

    object_after : (live : Bool) (o : Object) (own : Option Own) → ObjectMatches names texts tags naming live o own
        → ObjectMatches names longer tags naming live (after o) own
    object_after true o (Some own) h = lives_after o own h
    object_after true o None h = absurd h
    object_after false o (Some own) h = absurd h
    object_after false o None h = tt

    pub objects_match_after : (os : List Object) (owns : Objects) → ObjectsMatch names texts tags naming os owns
        → ObjectsMatch names longer tags naming (map (brought (last_text texts) q) os) owns
    objects_match_after [] [] h = tt
    objects_match_after [] (own ∷ owns) h = absurd h
    objects_match_after (o ∷ os) [] h = absurd h
    objects_match_after (o ∷ os) (own ∷ owns) h = (
      subst (λ b. ObjectMatches names longer tags naming b (after o) own) (sym (brought_live (last_text texts) q o)) (object_after o.live o own h.0),
      objects_match_after os owns h.1,
    )

pub tags_after : (p q : List BareDef) (os : List Object) → tags_of (map (brought p q) os) ≡ tags_of os
tags_after p q [] = refl
tags_after p q (o ∷ os) = ap₂ (◌∷◌) (brought_tag p q o) (tags_after p q os)
