-- The words of first cells, by the numbers of their names.
use Rattle.std.proofs.Common.{◌≡◌, ◌<◌, inl, inr, ℕ, List, [], ◌∷◌, ◌++◌, map, Some, None, bytes_eq, sym, ap, subst, ◌∙◌, arith}
use Rattle.std.specs.Prelude.{filter_map, slice_get}
use Rattle.std.specs.Option.{option_map_or}
use Rattle.std.specs.List.{position}
use Rattle.c_tree.specs.BareExpr.{Bytes}
use Rattle.c_tree.specs.BareDef.{BareDef}
use Rattle.source_model.specs.Worlds.{Cells, cells_at_first}
use Rattle.bytecode.specs.Words.{Naming, word_of}
use Rattle.source_programs.proofs.Placed.{find_nowhere, find_there}
use Rattle.code_runs.specs.CodeData.{number_of}
use Rattle.code_image.specs.Images.{names_in}
use Rattle.image_load.specs.FirstCells.{HaveFirst, cells_in}
use Rattle.image_load.specs.Loaded.{HasFirstCells}
use Rattle.image_load.proofs.NameLists.{at_cases, at_number}
use Rattle.std.proofs.lemmas.List.{get_or_append_left, get_or_push, length-append}
use Rattle.std.proofs.lemmas.Option.{same_Some, slice_get_within}

-- the cells of a name that has a place, and of one that has none
pub cells_there : (gs : List Cells) (name : Bytes) (i : ℕ) (g : Cells) → position (λ x. bytes_eq name x.name) gs ≡ Some i
    → slice_get gs i ≡ Some g → cells_in gs name ≡ g.cells
cells_there gs name i g at there =
    ap (λ o. option_map_or (λ x. x.cells) o []) (sym (find_there (λ x. bytes_eq name x.name) gs i at) ∙ there)

pub no_cells : (gs : List Cells) (name : Bytes) → position (λ x. bytes_eq name x.name) gs ≡ None → cells_in gs name ≡ []
no_cells gs name none = ap (λ o. option_map_or (λ x. x.cells) o []) (sym (find_nowhere (λ x. bytes_eq name x.name) gs none))

-- rows with the words of the first values of the first text's globals and arrays
pub first_cells : (texts : List (List BareDef)) (first : List BareDef) (rows : List (List ℕ)) → slice_get texts 0 ≡ Some first
    → HaveFirst (filter_map cells_at_first first) (names_in texts).cells rows → HasFirstCells texts rows
first_cells texts first rows at have = λ limits naming other name there among.
    let names = (names_in texts).cells in
    have.each naming (number_of names name) name (at_number names name among)
    ∙ ap (λ (ds : List BareDef). map (word_of naming) (cells_in (filter_map cells_at_first ds) name)) (same_Some _ _ (sym at ∙ there))

-- one name more
pub more_first : (gs : List Cells) (names : List Bytes) (rows : List (List ℕ)) (name : Bytes) (row : List ℕ) → HaveFirst gs names rows
    → ((naming : Naming) → row ≡ map (word_of naming) (cells_in gs name)) → HaveFirst gs (names ++ name ∷ []) (rows ++ row ∷ [])
more_first gs names rows name row have own = record {
  many = let many = have.many in omega (arith, many, length-append rows (row ∷ []), length-append names (name ∷ []));
  each = λ naming k other at.
      elim (at_cases names name other k at) [
        | inl before ↦
            let within = slice_get_within names k other before in
            get_or_append_left rows (row ∷ []) [] k (subst (λ n. k < n) (sym have.many) within) ∙ have.each naming k other before
        | inr last ↦
            get_or_push rows row [] k (have.many ∙ sym last.0) ∙ own naming ∙ ap (λ (x : Bytes). map (word_of naming) (cells_in gs x)) last.1
      ];
}
