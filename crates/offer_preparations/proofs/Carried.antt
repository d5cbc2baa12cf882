-- What was prepared for some versions holds of all that are the same.
use Rattle.std.proofs.Common.{◌≡◌, ℕ, suc, List, [], ◌∷◌, ◌++◌, All, map, sym, ap, subst, ◌∙◌}
use Rattle.std.proofs.lemmas.List.Elements.{All-weaker}
use Rattle.c_tree.specs.BareExpr.{Bytes}
use Rattle.c_tree.specs.Bare.{bare_def}
use Rattle.c_tree.specs.declared.def.Program.{Program}
use Rattle.c_semantics.specs.SourceTexts.{Text, text_of}
use Rattle.c_semantics.specs.Store.{brought_bodies, store}
use Rattle.source_model.specs.Patches.{all_names, last_definitions}
use Rattle.code_store.specs.declared.body.StoredBody.{StoredBody}
use Rattle.code_store.specs.Limits.{are_too_many}
use Rattle.code_store.specs.Stored.{meant_body, IsNewTo, IsStoreOf}
use Rattle.checkin_rows.specs.Rows.{Contents}
use Rattle.rows_in_force.specs.StoreRows.{AreRowsOver}
use Rattle.type_transformers.specs.Changes.{changing, name_of, IsChange}
use Rattle.patch_build.specs.declared.patch.Patch.{Patch}
use Rattle.patch_build.specs.declared.patch.Versions.{Versions}
use Rattle.patch_build.specs.Versions.{AreVersions, Extends, IsTableOf}
use Rattle.offer_decision.specs.declared.prepared.Found.{Found}
use Rattle.offer_decision.specs.declared.prepared.Found.TheVariants as found
use Rattle.offer_decision.specs.declared.prepared.Prepared.{Prepared}
use Rattle.offer_decision.specs.Patches.{IsPatchFor}
use Rattle.offer_decision.specs.Prepared.{IsFound, IsPrepared}
use Rattle.version_copies.specs.SameBodies.{HaveSameBodies}
use Rattle.version_copies.proofs.SameContents.{new_same, same_meaning, same_stores, same_with_more}

-- two that are the same
pub record AreSame (versions others : Versions) : Type 0 where
  pub count : versions.count ≡ others.count
  pub names : versions.names.now ≡ others.names.now
  pub bodies : HaveSameBodies versions.store.now others.store.now
  pub last : versions.last.now ≡ others.last.now

-- rows over some bodies are those over others that are the same
pub rows_carried : (stored others : List StoredBody) (rows : Contents) → HaveSameBodies stored others
    → AreRowsOver stored rows → AreRowsOver others rows
rows_carried stored others rows same are names bodies is =
    are names bodies (same_stores names bodies others stored (sym same) is)

-- they are versions of the same texts
versions_back : (texts : List Text) (versions others : Versions) → AreSame versions others → AreVersions texts others
    → AreVersions texts versions
versions_back texts versions others same are = record {
  before = are.before;
  last_is = are.last_is ∙ ap (λ (p : Program). are.before ++ text_of p ∷ []) (sym same.last);
  count_is = are.count_is ∙ sym same.count;
  names_are = subst (IsTableOf (all_names texts)) (sym same.names) are.names_are;
  store_is = subst (λ (names : List Bytes). IsStoreOf names (store texts) versions.store.now) (sym same.names)
      (same_stores others.names.now (store texts) others.store.now versions.store.now (sym same.bodies) are.store_is);
}

-- a patch of the ones is one of the others
patch_carried : (texts : List Text) (versions others : Versions) (next : Program) (patch : Patch) → AreSame versions others
    → IsPatchFor texts versions next patch → IsPatchFor texts others next patch
patch_carried texts versions others next patch same is =
    let more = patch.bodies.items in
    let old = versions.store.now in
    let new = others.store.now in
    record {
      names = is.names;
      ids = subst (λ (names : List Bytes). Extends names patch.names) same.names is.ids;
      changed = is.changed;
      interface = is.interface;
      bodies = is.bodies ∙ ap (λ (n : ℕ). brought_bodies (suc n) (last_definitions texts) (text_of next)) same.count;
      new = All-weaker (λ body. IsNewTo old body.function body.generation) (λ body. IsNewTo new body.function body.generation)
          (λ body. new_same body.function body.generation old new same.bodies) more is.new;
      room = λ names.
          ap (λ ms. are_too_many (ms ++ map (meant_body names) more)) (sym (same_meaning names old new same.bodies)) ∙ is.room names;
      store = same_stores patch.names (store (texts ++ text_of next ∷ [])) (old ++ more) (new ++ more)
          (same_with_more old new more same.bodies) is.store;
      changing = subst
          (λ (p : Program). map name_of patch.transforms.items ≡ changing (map bare_def p.definitions) (map bare_def next.definitions))
          same.last is.changing;
      transforms = subst
          (λ (p : Program). All (IsChange (map bare_def p.definitions) (map bare_def next.definitions)) patch.transforms.items)
          same.last is.transforms;
    }

found_carried : (texts : List Text) (versions others : Versions) (next : Program) (f : Found) → AreSame versions others
    → IsFound texts versions next f → IsFound texts others next f
found_carried texts versions others next (found.NotPatch cause) same is = is
found_carried texts versions others next (found.Patch patch rows) same is = (
  is.0,
  patch_carried texts versions others next patch same is.1,
  rows_carried versions.store.now others.store.now _ same.bodies is.2,
)

pub prepared_carried : (versions others : Versions) (next : Program) (prepared : Prepared) → AreSame versions others
    → IsPrepared versions next prepared → IsPrepared others next prepared
prepared_carried versions others next prepared same is = record {
  count = is.count ∙ same.count;
  found = λ texts are.
      found_carried texts versions others next prepared.found same (is.found texts (versions_back texts versions others same are));
}
