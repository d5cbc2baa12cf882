-- What is found under a name: a definition in a text, the cells of a world.
use Rattle.std.proofs.Common.{◌≡◌, Bool, true, false, List, [], ◌∷◌, map, Option, Some, None, refl, sym, ap, subst, ◌∙◌, bytes_eq, if◌then◌else◌}
use Rattle.std.specs.Prelude.{filter_map, find}
use Rattle.std.specs.List.{cons_option}
use Rattle.std.specs.Option.{option_map_or}
use Rattle.std.proofs.lemmas.Slice.Eq.{bytes_eq-Decides}
use Rattle.std.proofs.lemmas.Option.{none-some, same_Some}
use Rattle.c_tree.specs.BareExpr.{Bytes}
use Rattle.c_tree.specs.BareDef.{BareDef, Struct, Forward, Mutex, Function, Prototype, Global, Array, TransformStruct, TransformGlobal}
use Rattle.c_semantics.specs.Texts.{defines, definition}
use Rattle.c_semantics.specs.Values.{Value}
use Rattle.source_model.specs.Worlds.{Cells, with_cells_in}
use Rattle.source_model.specs.Installs.{has_cells}
use Rattle.world_laws.specs.Holdings.{names_with_cells}

pub same_bytes : (a b : Bytes) → bytes_eq a b ≡ true → a ≡ b
same_bytes a b e = (bytes_eq-Decides a b).0 e

pub itself : (a : Bytes) → bytes_eq a a ≡ true
itself a = (bytes_eq-Decides a a).1 refl

no : false ≡ true → ⊥
no e = cc

-- what is found under a name defines it
pub found_defines : (text : List BareDef) (name : Bytes) (d : BareDef) → definition text name ≡ Some d → defines name d ≡ true
found_defines [] name d e = absurd (none-some d e)
found_defines (x ∷ text) name d e = by (defines name x) refl (found_defines text name d) e
  where
    by : (b : Bool) → defines name x ≡ b → (definition text name ≡ Some d → defines name d ≡ true)
        → (if b then Some x else definition text name) ≡ Some d → defines name d ≡ true
    by true is rest e = ap (defines name) (sym (same_Some x d e)) ∙ is
    by false is rest e = rest e

-- ---- cells by name

abbrev pub cells_in : List Cells → Bytes → List Value
cells_in gs name = option_map_or (λ g. g.cells) (find (λ g. bytes_eq name g.name) gs) []

-- one entry for each definition with cells, with these cells
abbrev pub entry_of : (BareDef → List Value) → BareDef → Option Cells
entry_of f (Global d) = Some (record { name = d.name; cells = f (Global d) })
entry_of f (Array type name n values) = Some (record { name = name; cells = f (Array type name n values) })
entry_of f _ = None

module _ (make : BareDef → Option Cells) (f : BareDef → List Value) (makes : (d : BareDef) → make d ≡ entry_of f d) where
  unfolded : (d : BareDef) (text : List BareDef) → filter_map make (d ∷ text) ≡ cons_option (entry_of f d) (filter_map make text)
  unfolded d text = ap (λ o. cons_option o (filter_map make text)) (makes d)

  abbrev Finds : List BareDef → Bytes → BareDef → Type 0
  Finds text name d = definition text name ≡ Some d → cells_in (filter_map make text) name ≡ f d

  -- the cells of a definition are found under its name
  pub cells_found : (text : List BareDef) (name : Bytes) (d : BareDef) → has_cells d ≡ true → Finds text name d
  cells_found [] name d h e = absurd (none-some d e)
  cells_found (x ∷ text) name d h e =
      ap (λ gs. cells_in gs name) (unfolded x text) ∙ by x (cells_found text name d h) e
    where
      -- where the first definition has none
      other : (x : BareDef) (b : Bool) → has_cells x ≡ false → Finds text name d → (if b then Some x else definition text name) ≡ Some d
          → cells_in (filter_map make text) name ≡ f d
      other x true none rest e = absurd (no (sym none ∙ ap has_cells (same_Some x d e) ∙ h))
      other x false none rest e = rest e

      own : (x : BareDef) (b : Bool) (n : Bytes) → Finds text name d → (if b then Some x else definition text name) ≡ Some d
          → option_map_or (λ g. g.cells) (if b then Some (record { name = n; cells = f x }) else find (λ g. bytes_eq name g.name) (filter_map make text)) []
          ≡ f d
      own x true n rest e = ap f (same_Some x d e)
      own x false n rest e = rest e

      by : (x : BareDef) → Finds text name d → definition (x ∷ text) name ≡ Some d
          → cells_in (cons_option (entry_of f x) (filter_map make text)) name ≡ f d
      by (Global v) rest e = own (Global v) (bytes_eq name v.name) v.name rest e
      by (Array type n k values) rest e = own (Array type n k values) (bytes_eq name n) n rest e
      by (Struct tag members) rest e = other (Struct tag members) (defines name (Struct tag members)) refl rest e
      by (Forward tag) rest e = rest e
      by (Mutex n) rest e = other (Mutex n) (bytes_eq name n) refl rest e
      by (Function r n ps body) rest e = other (Function r n ps body) (bytes_eq name n) refl rest e
      by (Prototype r n ps) rest e = rest e
      by (TransformStruct tag values) rest e = rest e
      by (TransformGlobal n value) rest e = rest e

  -- the entries have the names of these definitions
  named_more : (x : BareDef) (text : List BareDef) → map (λ g. g.name) (filter_map make text) ≡ names_with_cells text
      → map (λ g. g.name) (cons_option (entry_of f x) (filter_map make text)) ≡ names_with_cells (x ∷ text)
  named_more (Global v) text rest = ap (λ ns. v.name ∷ ns) rest
  named_more (Array type n k values) text rest = ap (λ ns. n ∷ ns) rest
  named_more (Struct tag members) text rest = rest
  named_more (Forward tag) text rest = rest
  named_more (Mutex n) text rest = rest
  named_more (Function r n ps body) text rest = rest
  named_more (Prototype r n ps) text rest = rest
  named_more (TransformStruct tag values) text rest = rest
  named_more (TransformGlobal n value) text rest = rest

  pub entries_named : (text : List BareDef) → map (λ g. g.name) (filter_map make text) ≡ names_with_cells text
  entries_named [] = refl
  entries_named (x ∷ text) = ap (map (λ g. g.name)) (unfolded x text) ∙ named_more x text (entries_named text)

-- what holds of the cells of a name before a write and of the cells that are written holds after it
pub written : (P : List Value → Type 0) (name : Bytes) (cells : List Value) (gs : List Cells) (n : Bytes) → P (cells_in gs n)
    → (bytes_eq n name ≡ true → P cells) → P (cells_in (with_cells_in name cells gs) n)
written P name cells [] n h new = h
written P name cells (g ∷ gs) n h new = by (λ i. written P name cells gs n i new) (bytes_eq name g.name) refl (bytes_eq n g.name) refl h
  where
    by : (P (cells_in gs n) → P (cells_in (with_cells_in name cells gs) n)) → (b : Bool) → bytes_eq name g.name ≡ b → (t : Bool) → bytes_eq n g.name ≡ t
        → P (option_map_or (λ x. x.cells) (if t then Some g else find (λ x. bytes_eq n x.name) gs) [])
        → P (cells_in (if b then record g { cells = cells } ∷ gs else g ∷ with_cells_in name cells gs) n)
    by rest true is true own h =
        let one : n ≡ name = same_bytes n g.name own ∙ sym (same_bytes name g.name is) in
        subst (λ t. P (option_map_or (λ x. x.cells) (if t then Some (record g { cells = cells }) else find (λ x. bytes_eq n x.name) gs) [])) (sym own)
        (new (ap (bytes_eq n) (sym one) ∙ itself n))
    by rest true is false own h =
        subst (λ t. P (option_map_or (λ x. x.cells) (if t then Some (record g { cells = cells }) else find (λ x. bytes_eq n x.name) gs) [])) (sym own) h
    by rest false is true own h =
        subst (λ t. P (option_map_or (λ x. x.cells) (if t then Some g else find (λ x. bytes_eq n x.name) (with_cells_in name cells gs)) [])) (sym own) h
    by rest false is false own h =
        subst (λ t. P (option_map_or (λ x. x.cells) (if t then Some g else find (λ x. bytes_eq n x.name) (with_cells_in name cells gs)) [])) (sym own)
        (rest h)
