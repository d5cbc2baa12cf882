-- The texts of a run.
use Rattle.std.proofs.Common.{Bor, ◌≡◌, true, false, ℕ, zero, suc, ◌<◌, ◌≤◌, List, [], ◌∷◌, length, map, All, refl, sym, ap, subst, ◌∙◌, arith}
use Rattle.std.specs.Prelude.{slice_get, option_copied, Option, Some, None}
use Rattle.std.specs.Option.{is_some}
use Rattle.std.proofs.lemmas.List.{length-map}
use Rattle.std.proofs.lemmas.Option.{slice_get-get_or, slice_get_past, slice_get_within}
use Rattle.std.proofs.lemmas.List.Elements.{All-map}
use Rattle.c_tree.specs.BareDef.{BareDef}
use Rattle.c_tree.specs.declared.def.Program.{Program as Tree}
use Rattle.source_model.specs.JournalLaws.{HasMain}
use Rattle.version_laws.specs.Histories.{last_text}
use Rattle.source_programs.specs.declared.programs.Programs.{Programs}
use Rattle.source_programs.specs.declared.ready.Ready.{Ready}
use Rattle.source_programs.specs.Programs.{ArePrograms, current_of, text_at, text_in as tree_text, text_of, texts_of, trees_of, versions_of}

-- each text of a run
pub texts_have_main : (p : Programs) → ArePrograms p → All HasMain (texts_of p)
texts_have_main p h = All-map HasMain text_of p.texts.items (λ k r below. (h.ready k r below).main)

pub text_has_main : (p : Programs) → ArePrograms p → (k : ℕ) → k < length p.texts.items → HasMain (text_at p k)
text_has_main p h k below = texts_have_main p h k [] (subst (λ l. k < l) (sym (length-map p.texts.items text_of)) below)

-- the one in force
pub current_main : (p : Programs) → ArePrograms p → HasMain (current_of p)
current_main p h = of (versions_of p) each (subst (λ n. 0 < n) (sym (length-map p.installed (text_at p))) h.some)
  where
    each : All HasMain (versions_of p)
    each = All-map HasMain (text_at p) p.installed
        (λ k n below. text_has_main p h _ (h.versions k n below))

    of : (versions : List (List BareDef)) → All HasMain versions → 0 < length versions → HasMain (last_text versions)
    of [] each some = absurd (omega (arith, some))
    of (v ∷ vs) each some = each (length vs) [] (omega arith)

-- the definitions of the texts, by their trees
pub texts_are : (p : Programs) (trees : List Tree) → trees_of p ≡ trees → texts_of p ≡ map tree_text trees
texts_are p trees same = each p.texts.items ∙ ap (map tree_text) same
  where
    each : (rs : List Ready) → map text_of rs ≡ map tree_text (map (λ r. r.text) rs)
    each [] = refl
    each (r ∷ rs) = ap (λ ts. text_of r ∷ ts) (each rs)

pub as_many : (p : Programs) → length (trees_of p) ≡ length (texts_of p)
as_many p = length-map p.texts.items (λ r. r.text) ∙ sym (length-map p.texts.items text_of)

-- the text with a number
pub text_there : (p : Programs) (k : ℕ) → k < length (trees_of p) → slice_get (texts_of p) k ≡ Some (text_at p k)
text_there p k below = slice_get-get_or (texts_of p) k [] (subst (λ n. k < n) (as_many p) below)

pub no_text : (p : Programs) (k : ℕ) → slice_get (trees_of p) k ≡ None → slice_get (texts_of p) k ≡ None
no_text p k none = slice_get_past (texts_of p) k (subst (λ n. n ≤ k) (as_many p) (past (trees_of p) k none))
  where
    past : {A : Type 0} (xs : List A) (k : ℕ) → slice_get xs k ≡ None → length xs ≤ k
    past [] k none = omega arith
    past (x ∷ xs) zero none = absurd (no none)
      where
        no : Some x ≡ None → ⊥
        no e = cc
    past (x ∷ xs) (suc k) none = omega (arith, past xs k none)

-- whether there is a text, as it was asked
pub asked_some : {A : Type 0} (r : Option (Bor A)) (xs : List A) (k : ℕ) → option_copied r ≡ slice_get xs k → is_some r ≡ true → k < length xs
asked_some None xs k e h = absurd (no h)
  where
    no : false ≡ true → ⊥
    no e = cc
asked_some (Some b) xs k e h = slice_get_within xs k _ (sym e)

pub asked_none : {A : Type 0} (r : Option (Bor A)) (xs : List A) (k : ℕ) → option_copied r ≡ slice_get xs k → is_some r ≡ false → slice_get xs k ≡ None
asked_none None xs k e h = sym e
asked_none (Some b) xs k e h = absurd (no h)
  where
    no : true ≡ false → ⊥
    no e = cc
