-- What the move of a thread needs of a world after installs: that its object can be brought to the last text, whose fields are at the same
-- places.
use Rattle.std.proofs.Common.{◌≡◌, ℕ, zero, suc, ◌<◌, Bool, true, false, List, [], ◌∷◌, length, slice_index_or, All, Option, None, Some, is_some, sym, ap, subst, ◌∙◌, arith}
use Rattle.std.specs.FinMap.{get}
use Rattle.std.proofs.lemmas.List.Elements.{All-get_or}
use Rattle.std.proofs.lemmas.Option.{none-some, same_Some}
use Rattle.c_tree.specs.BareExpr.{Bytes}
use Rattle.c_tree.specs.BareDef.{BareDef}
use Rattle.c_semantics.specs.SourceTexts.{Text}
use Rattle.source_model.specs.Worlds.{World}
use Rattle.source_model.specs.Worlds as world
use Rattle.version_laws.specs.Histories.{last_text, text_in}
use Rattle.frame_bodies.specs.AcceptedTexts.{definitions_of}
use Rattle.typed_runs.specs.TypedWorlds.{tags_of}
use Rattle.bytecode.specs.Words.{Naming}
use Rattle.object_store.specs.declared.object.Object.{Object}
use Rattle.object_store.specs.Naming.{Objects}
use Rattle.code_runs.specs.CodeData.{Names}
use Rattle.code_runs.specs.CodeThreads.{CodeWorld}
use Rattle.code_run_laws.specs.DataMatches.{ObjectMatches, ObjectsMatch}
use Rattle.code_run_laws.specs.MoveLaws.{Stands, UsesWell}
use Rattle.code_run_laws.specs.WorldMatches.{Numbers}
use Rattle.code_install_laws.specs.UsedNames.{FieldsStayAtTheirPlaces}
use Rattle.word_installs.specs.Freshened.{HasLayouts, NumbersStructs}
use Rattle.code_machine.specs.Versions.{MovesWell}

-- what holds of each of some texts holds of the last
pub last_has : (P : List BareDef → Type 0) (texts : List (List BareDef)) (v : ℕ) → suc v ≡ length texts → All P texts → P (last_text texts)
last_has P texts v e h =
    let within : v < length texts = omega (arith, e) in
    subst (λ (n : ℕ). P (text_in texts n)) e (All-get_or P texts v [] within h)

module _ (names : Names) (texts : List (List BareDef)) (tags : List Bytes) (naming : Naming) where
  lives_there : (live : Bool) (o : world.Object) (x : Option Object) (own : Object) → x ≡ Some own
      → ObjectMatches names texts tags naming live o x → own.layout < length texts
  lives_there true o (Some y) own e h = subst (λ (z : Object). z.layout < length texts) (same_Some y own e) h.known
  lives_there true o None own e h = absurd h
  lives_there false o (Some y) own e h = absurd h
  lives_there false o None own e h = absurd (none-some own e)

  -- an object that lives has the layout of a version
  known_at : (os : List world.Object) (owns : Objects) (n : ℕ) (own : Object) → ObjectsMatch names texts tags naming os owns
      → slice_index_or owns n None ≡ Some own → own.layout < length texts
  known_at [] [] n own h e = absurd (none-some own e)
  known_at [] (x ∷ owns) n own h e = absurd h
  known_at (o ∷ os) [] n own h e = absurd h
  known_at (o ∷ os) (x ∷ owns) zero own h e = lives_there o.live o x own e h.0
  known_at (o ∷ os) (x ∷ owns) (suc n) own h e = known_at os owns n own h.1 e

module _ (texts : List Text) (names : Names) (w : World) (own : CodeWorld) (s : Stands texts names w own) where
  abbrev defs : List (List BareDef)
  defs = definitions_of texts

  known : HasLayouts own.shared
  known handle object lives =
      let m = s.matches in
      let at = m.shared.named.only handle (ap is_some lives) in
      let there : slice_index_or m.objects at.0 None ≡ Some object =
      sym (m.shared.named.leads at.0 at.1.0) ∙ ap (get own.shared.objects.live) at.1.1 ∙ lives in
      let low = known_at names defs (tags_of w.objects) m.naming w.objects m.objects at.0 object m.shared.objects_match there in
      let long = m.shared.version in
      omega (arith, low, long)

  numbered : NumbersStructs names (last_text defs)
  numbered = let last = last_has (Numbers names) defs own.shared.version s.matches.shared.version s.numbers in last.tags

  pub moves_well : FieldsStayAtTheirPlaces → (t : ℕ) → UsesWell w t → MovesWell defs names own t
  moves_well stay t uses = record {
    known = known;
    tags = numbered;
    fields = λ th f going there next stop point after tag stops is.
        stay texts names w own t th f stop point after tag s uses going there next stops is;
  }
