-- A run before its first move.
use Rattle.std.proofs.Common.{◌≡◌, ℕ, suc, ◌<◌, List, [], ◌∷◌, length, Some, sym, subst, ap, ◌∙◌, arith}
use Rattle.std.specs.Prelude.{All, slice_get}
use Rattle.std.proofs.lemmas.List.Elements.{All-nil, All-push}
use Rattle.c_tree.specs.BareDef.{BareDef}
use Rattle.word_layouts.specs.WordChanges.{StandFor}
use Rattle.code_image.specs.declared.image.CodeImage.{CodeImage}
use Rattle.code_image.specs.Images.{IsImage, names_in}
use Rattle.code_machine.specs.declared.running.Running.{Running}
use Rattle.code_machine.specs.declared.state.RunState.{RunState}
use Rattle.code_machine.specs.Stops.{IsFresh}
use Rattle.code_machine.specs.Used.{HasUsed}
use Rattle.code_machine.specs.Versions.{IsOfVersion, IsRunOf, texts_by}

module _ (run : RunState) (main : ℕ) (fresh : (n : ℕ) (r : Running) → slice_get run.slots.items n ≡ Some r → IsFresh r main) where
  -- it is one of some texts, in the version of the first
  pub runs_first : (text : List BareDef) (texts : List (List BareDef)) (image : CodeImage) → IsImage (text ∷ texts) image
      → run.versions.items ≡ 0 ∷ [] → run.in_force ≡ 0 → run.shared.version ≡ 0
      → StandFor (text ∷ []) (names_in (text ∷ texts)).tags run.layouts.versions.items → IsRunOf (text ∷ texts) image run
  runs_first text texts image is versions in_force version stand =
      let all : List (List BareDef) = text ∷ texts in
      let some : 0 < length all = omega arith in
      record {
        image_is = is;
        known = subst (All (λ n. n < length all)) (sym versions) (All-push (λ n. n < length all) [] 0 (All-nil (λ n. n < length all)) some);
        version = ap suc version ∙ ap length (sym versions);
        last =
            ap (λ (vs : List ℕ). slice_get vs run.shared.version) versions
            ∙ ap (λ (n : ℕ). slice_get (0 ∷ []) n) version ∙ ap Some (sym in_force);
        stand = subst (λ (vs : List ℕ). StandFor (texts_by all vs) (names_in all).tags run.layouts.versions.items) (sym versions) stand;
        frames = λ n r there. subst (All (IsOfVersion image.functions.items run.versions.items)) (sym (fresh n r there).none) (All-nil (IsOfVersion image.functions.items run.versions.items));
      }

  -- and has used none of its numbers but that of main's thread
  pub uses_none : run.shared.objects.created ≡ 0 → run.threads ≡ 1 → HasUsed 0 run
  uses_none created threads = record {
    creations = omega (arith, created);
    threads = omega (arith, threads);
    depths = λ t r there. let none = (fresh t r there).depth in omega (arith, none);
  }
