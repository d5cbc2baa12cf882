-- The words of a global after a change stand for its new cells.
use Rattle.std.proofs.Common.{◌≡◌, ℕ, zero, suc, ◌-◌, Bool, true, false, List, [], ◌∷◌, ◌++◌, map, length, take, replicate, Option, Some, refl, sym, ap, subst, ◌∙◌, arith}
use Rattle.std.specs.Prelude.{All}
use Rattle.std.proofs.lemmas.List.{length-map, map-append}
use Rattle.std.proofs.lemmas.List.Elements.{All-head, All-tail}
use Rattle.c_tree.specs.BareExpr.{Bytes, BareType, BareExpr}
use Rattle.c_tree.specs.BareDef.{BareDef}
use Rattle.c_tree.specs.BareDef as bare
use Rattle.c_semantics.specs.Texts.{definition, global_type}
use Rattle.c_semantics.specs.Transformers.{given_value}
use Rattle.c_semantics.specs.Values.{Value}
use Rattle.source_model.specs.Installs.{has_cells}
use Rattle.constant_values.specs.Kinds.{a_type_of, converted_to_kind, kind_of, zero_of_kind}
use Rattle.constant_values.specs.declared.kind.ValueKind.{ValueKind}
use Rattle.versioned_structs.specs.Formulas.{value_in}
use Rattle.typed_trees.specs.ValueTypes.{HasType}
use Rattle.bytecode.specs.Words.{Naming, Distinguishes, word_of}
use Rattle.tree_code.specs.Ranges.{AllRanged}
use Rattle.tree_code.proofs.WordValues.{zero_word}
use Rattle.code_runs.specs.CodeInstalls.{Transforms}
use Rattle.type_transformers.specs.declared.global.GlobalChange.{GlobalChange}
use Rattle.type_transformers.specs.declared.global.GlobalChange.TheVariants.{Given, Copied, Zero}
use Rattle.type_transformers.specs.Cells.{cells_by}
use Rattle.type_transformers.specs.Changes.{IsGlobalChange}
use Rattle.type_transformers.specs.Hows.{How, how_global, how_of_global}
use Rattle.type_transformers.specs.Hows as how
use Rattle.word_layouts.specs.ChangedCells.{changed_cells}
use Rattle.word_layouts.specs.WordValues.{by_word, read_word, renamed}
use Rattle.word_layouts.proofs.Bringing.{has_its_type, is_known}
use Rattle.word_layouts.proofs.Renaming.{AllKnown, cast_value_renames}
use Rattle.word_layouts.proofs.WordFields.{read_back, written}

map_take : {A B : Type 0} (f : A → B) (n : ℕ) (xs : List A) → take n (map f xs) ≡ map f (take n xs)
map_take f zero xs = refl
map_take f (suc n) [] = refl
map_take f (suc n) (x ∷ xs) = ap (λ l. f x ∷ l) (map_take f n xs)

zero_cells : (n : Naming) (k : ValueKind) (m : ℕ) → map (word_of n) (replicate m (zero_of_kind k)) ≡ replicate m 0
zero_cells n k zero = refl
zero_cells n k (suc m) =
    ap (λ w. w ∷ map (word_of n) (replicate m (zero_of_kind k))) (zero_word n (a_type_of k)) ∙ ap (λ ws. 0 ∷ ws) (zero_cells n k m)

-- cells of a type
cells_known : (tags : List Bytes) (t : BareType) (cells : List Value) → All (HasType tags t) cells → AllKnown (length tags) cells
cells_known tags t [] h = tt
cells_known tags t (v ∷ vs) h =
    (is_known tags t v (All-head (HasType tags t) v vs h), cells_known tags t vs (All-tail (HasType tags t) v vs h))

read_cells : (n : Naming) (tags : List Bytes) → Distinguishes (length tags) n → (t : BareType) (cells : List Value)
    → All (HasType tags t) cells → AllRanged cells → map (read_word (kind_of t)) (map (word_of n) cells) ≡ map (renamed n) cells
read_cells n tags apart t [] h r = refl
read_cells n tags apart t (v ∷ vs) h r =
    let typed = All-head (HasType tags t) v vs h in
    ap (λ w. w ∷ map (read_word (kind_of t)) (map (word_of n) vs))
    (read_back n (length tags) apart t v (has_its_type tags t v typed) r.0 (is_known tags t v typed))
    ∙ ap (λ ws. renamed n v ∷ ws) (read_cells n tags apart t vs (All-tail (HasType tags t) v vs h) r.1)

-- by the change
changed : (n : Naming) (tags : List Bytes) → Distinguishes (length tags) n → (t : BareType) (cells : List Value) (words : List ℕ) (c : GlobalChange)
    → words ≡ map (word_of n) cells → All (HasType tags t) cells → AllRanged cells
    → changed_cells (kind_of t) c words ≡ map (word_of n) (cells_by c cells)
changed n tags apart t cells words (Given to f) are typed ranged =
    let reads = ap (map (read_word (kind_of t))) are ∙ read_cells n tags apart t cells typed ranged in
    let renames = cast_value_renames n (length tags) apart cells (map (read_word (kind_of t)) words)
    (record { are = reads; known = cells_known tags t cells typed }) to f
    in
    ap (λ w. w ∷ []) (ap (word_of by_word) renames.is ∙ written n (converted_to_kind to (value_in cells f)))
changed n tags apart t cells words (Copied m to) are typed ranged =
    ap (λ ws. take m ws ++ replicate (m - length ws) 0) are
    ∙ ap (λ ws. ws ++ replicate (m - length (map (word_of n) cells)) 0) (map_take (word_of n) m cells)
    ∙ ap (λ k. map (word_of n) (take m cells) ++ replicate (m - k) 0) (length-map cells (word_of n))
    ∙ ap (λ ws. map (word_of n) (take m cells) ++ ws) (sym (zero_cells n to (m - length cells)))
    ∙ sym (map-append (word_of n) (take m cells) (replicate (m - length cells) (zero_of_kind to)))
changed n tags apart t cells words (Zero m to) are typed ranged = sym (zero_cells n to m)

-- what had no cells becomes zeros
zero_how : (d : BareDef) (b : Option BareDef) (e : Option BareExpr) → has_cells d ≡ false → how_global (Some d) b e ≡ how.Zero
zero_how (bare.Struct tag ms) b e none = refl
zero_how (bare.Forward tag) b e none = refl
zero_how (bare.Mutex name) b e none = refl
zero_how (bare.Function r name ps body) b e none = refl
zero_how (bare.Prototype r name ps) b e none = refl
zero_how (bare.Global v) b e none = cc
zero_how (bare.Array t name n values) b e none = cc
zero_how (bare.TransformStruct tag values) b e none = refl
zero_how (bare.TransformGlobal name value) b e none = refl

zeroed : (n : Naming) (cells : List Value) (words : List ℕ) (k : ValueKind) (c : GlobalChange) → how_of_global c ≡ how.Zero
    → changed_cells k c words ≡ map (word_of n) (cells_by c cells)
zeroed n cells words k (Given to f) h = cc
zeroed n cells words k (Copied m to) h = cc
zeroed n cells words k (Zero m to) h = sym (zero_cells n to m)

pub cells_transform : (p q : List BareDef) (name : Bytes) (before : BareDef) (c : GlobalChange) (k : ValueKind) (words : List ℕ)
    → IsGlobalChange p q name c → definition p name ≡ Some before → kind_of (global_type (Some before)) ≡ k
    → Transforms p q name before words (changed_cells k c words)
cells_transform p q name before c k words is was kind naming tags cells apart stand =
    by (has_cells before) refl ∙ ap (map (word_of naming)) (is.cells cells)
  where
    by : (b : Bool) → has_cells before ≡ b → changed_cells k c words ≡ map (word_of naming) (cells_by c cells)
    by true e =
        let s = stand e in
        subst (λ x. changed_cells x c words ≡ map (word_of naming) (cells_by c cells)) kind
        (changed naming tags apart (global_type (Some before)) cells words c s.are s.typed s.ranged)
    by false e = zeroed naming cells words k c (is.how ∙ ap (λ o. how_global o (definition q name) (given_value q name)) was ∙ zero_how before (definition q name) (given_value q name) e)

-- no words are filled with 0
pub no_words : (m : ℕ) → ◌≡◌ {A = List ℕ} (take m [] ++ replicate (m - length {A = ℕ} []) 0) (replicate m 0)
no_words zero = refl
no_words (suc m) = let whole : suc m - 0 ≡ suc m = omega arith in ap (λ k. replicate {A = ℕ} k 0) whole
