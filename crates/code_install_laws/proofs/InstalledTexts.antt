-- Code that stood for a world stands for the world after an install.
use Rattle.std.proofs.Common.{◌≡◌, suc, List, [], ◌∷◌, ◌++◌, length, All, Option, Some, None, option_map, refl, sym, ap, subst, ◌∙◌}
use Rattle.std.specs.Prelude.{nat_le, nat_lt}
use Rattle.std.specs.Option.{option_or}
use Rattle.std.proofs.lemmas.List.{map-append}
use Rattle.std.proofs.lemmas.List.Elements.{All-head, All-push, All-tail}
use Rattle.std.proofs.lemmas.Option.{none-some}
use Rattle.name_sets.specs.Limit.{most_names}
use Rattle.c_tree.specs.BareDef.{BareDef}
use Rattle.c_semantics.specs.SourceTexts.{Text}
use Rattle.c_semantics.specs.Store.{Body, brought_bodies}
use Rattle.patch_faults.specs.Sorts.{other_kind}
use Rattle.patch_faults.specs.TransformFaults.{first_transform_fault, place_of}
use Rattle.source_model.specs.declared.patch.NotPatch.{NotPatch}
use Rattle.source_model.specs.declared.patch.NotPatch.TheVariants.{Versions, Names as ManyNames, Kind, Transform, StoreFull}
use Rattle.source_model.specs.Guards.{bodies_of}
use Rattle.source_model.specs.Installs.{installed}
use Rattle.source_model.specs.Patches.{all_names, cause_if, is_full, last_definitions, last_tree, not_patch, version_limit}
use Rattle.version_laws.specs.Histories.{IsHistory, last_text}
use Rattle.version_laws.proofs.RunHistories.{install_is_of}
use Rattle.world_laws.proofs.Accepted.{main_in}
use Rattle.world_laws.proofs.Cells.{installs_hold}
use Rattle.frame_bodies.specs.AcceptedTexts.{AreAccepted, IsAccepted, definitions_of}
use Rattle.typed_runs.proofs.AcceptedWorlds.{installs_keep_types}
use Rattle.typed_runs.proofs.Installed.{Transforms}
use Rattle.typed_journals.proofs.Journals.{journal_ran}
use Rattle.accepted_code.specs.AcceptedCode.{FineIn, FunctionsHaveFineCode}
use Rattle.code_runs.specs.CodeInstalls.{Installs}
use Rattle.code_run_laws.specs.MoveLaws.{CodeInstallsAlike, IsCoded, Stands}
use Rattle.code_run_laws.specs.WorldMatches.{Numbers}
use Rattle.code_install_laws.specs.InstalledTexts.{AcceptedTextsAreCoded, InstallsStand, PatchesStand}

pub accepted_texts_are_coded : FunctionsHaveFineCode → AcceptedTextsAreCoded
accepted_texts_are_coded law text a = record {
  typed = λ f. let fine : FineIn text f = law text f a in fine.typed;
  room = λ f. let fine : FineIn text f = law text f a in fine.room;
  words = λ f. let fine : FineIn text f = law text f a in fine.words;
  few = λ f. let fine : FineIn text f = law text f a in fine.few;
}

-- ---- a text that follows the last one well

pub installs_stand : AcceptedTextsAreCoded → CodeInstallsAlike → Transforms → InstallsStand
installs_stand coded alike transforms texts p q names w own new follows numbers s i =
    let before = texts ++ p ∷ [] in
    let defs = definitions_of before in
    let more : definitions_of (before ++ q ∷ []) ≡ defs ++ q.definitions ∷ [] = map-append (λ (t : Text). t.definitions) before (q ∷ []) in
    let is = install_is_of defs w q.definitions (main_in q follows.newer) (record { history = s.of.history; last = s.of.last }) in
    record {
      accepted = All-push IsAccepted before q s.accepted follows.newer;
      coded = subst (All IsCoded) (sym more) (All-push IsCoded defs q.definitions s.coded (coded q follows.newer));
      numbers = subst (All (Numbers names)) (sym more) (All-push (Numbers names) defs q.definitions s.numbers numbers);
      of = record {
        history = subst (λ ts. IsHistory ts (installed q.definitions w).table) (sym more) is.history;
        last = is.last ∙ ap last_text (sym more);
        holds = (installs_hold q.definitions w).0 s.of.holds;
      };
      typed = installs_keep_types transforms texts p q w follows s.of s.typed;
      matches = alike before q names w own new s i;
    }

-- ---- a patch

first_none : {A : Type 0} (a b : Option A) → option_or a b ≡ None → (a ≡ None) × (b ≡ None)
first_none None b e = (refl, e)
first_none (Some x) b e = absurd (none-some x (sym e))

mapped_none : {A B : Type 0} (f : A → B) (o : Option A) → option_map f o ≡ None → o ≡ None
mapped_none f None e = refl
mapped_none f (Some x) e = absurd (none-some (f x) (sym e))

-- the transformers of a patch have no fault
patch_fits : (bodies : List Body) (versions : List Text) (q : Text) → not_patch bodies versions q ≡ None
    → first_transform_fault (last_tree versions) q.tree.definitions ≡ None
patch_fits bodies versions q e =
    let p = last_definitions versions in
    let fault = first_transform_fault (last_tree versions) q.tree.definitions in
    let count : Option NotPatch = cause_if (nat_le version_limit (length versions)) Versions in
    let names : Option NotPatch = cause_if (nat_lt most_names (length (all_names (versions ++ q ∷ [])))) ManyNames in
    let kinds : Option NotPatch = option_map Kind (other_kind p q.definitions) in
    let transforms : Option NotPatch = option_map (λ f. Transform (place_of f)) fault in
    let full : Option NotPatch = cause_if (is_full (bodies ++ brought_bodies (suc (length versions)) p q)) StoreFull in
    let after_count = (first_none count (option_or names (option_or kinds (option_or transforms full))) e).1 in
    let after_names = (first_none names (option_or kinds (option_or transforms full)) after_count).1 in
    let after_kinds = (first_none kinds (option_or transforms full) after_names).1 in
    mapped_none (λ f. Transform (place_of f)) fault (first_none transforms full after_kinds).0

last_tree_is : (texts : List Text) (p : Text) → last_tree (texts ++ p ∷ []) ≡ p.tree.definitions
last_tree_is [] p = refl
last_tree_is (t ∷ []) p = refl
last_tree_is (t ∷ u ∷ texts) p = last_tree_is (u ∷ texts) p

-- some texts are the last one after those before it
record EndsWith (texts : List Text) : Type 0 where
  before : List Text
  last : Text
  is : texts ≡ before ++ last ∷ []

ends_with : (t : Text) (ts : List Text) → EndsWith (t ∷ ts)
ends_with t [] = record { before = []; last = t; is = refl }
ends_with t (u ∷ ts) =
    let e : EndsWith (u ∷ ts) = ends_with u ts in record { before = t ∷ e.before; last = e.last; is = ap (λ l. t ∷ l) e.is }

some_text : (ts : List Text) (d : List BareDef) (ds : List (List BareDef)) → d ∷ ds ≡ definitions_of ts → EndsWith ts
some_text [] d ds e = cc
some_text (t ∷ ts) d ds e = ends_with t ts

last_accepted : (texts : List Text) (p : Text) → AreAccepted (texts ++ p ∷ []) → IsAccepted p
last_accepted [] p h = All-head IsAccepted p [] h
last_accepted (t ∷ texts) p h = last_accepted texts p (All-tail IsAccepted t (texts ++ p ∷ []) h)

pub patches_stand : InstallsStand → PatchesStand
patches_stand installs rules setup events g q names own new accepted legal newer patch numbers s i =
    by (some_text g.versions _ _ (journal_ran setup rules events g legal).are)
  where
    by : EndsWith g.versions → Stands (g.versions ++ q ∷ []) names (installed q.definitions g.world) new
    by e =
        subst (λ ts. Stands (ts ++ q ∷ []) names (installed q.definitions g.world) new) (sym e.is)
        (installs e.before e.last q names g.world own new
        (record {
          older = last_accepted e.before e.last (subst AreAccepted e.is s.accepted);
          newer = newer;
          faultless =
              ap (λ d. first_transform_fault d q.tree.definitions) (sym (ap last_tree e.is ∙ last_tree_is e.before e.last))
              ∙ patch_fits (bodies_of g) g.versions q patch;
        })
        numbers (subst (λ ts. Stands ts names g.world own) e.is s)
        (subst (λ ts. Installs (definitions_of ts) names q.definitions own new) e.is i))
