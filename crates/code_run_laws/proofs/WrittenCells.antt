-- The cells of globals by name, after a write.
use Rattle.std.proofs.Common.{◌≡◌, ◌≢◌, ◌<◌, Bool, true, false, List, [], ◌∷◌, length, Some, find, refl, ap, ◌∙◌, bytes_eq, if◌then◌else◌, arith}
use Rattle.std.specs.Option.{option_map_or}
use Rattle.c_tree.specs.BareExpr.{Bytes}
use Rattle.c_semantics.specs.Values.{Value}
use Rattle.source_model.specs.Worlds.{Cells, with_cells_in}
use Rattle.world_laws.proofs.Found.{cells_in, same_bytes, written}

-- the cells of another name stay
pub cells_left : (name : Bytes) (cells : List Value) (gs : List Cells) (n : Bytes) → n ≢ name
    → cells_in (with_cells_in name cells gs) n ≡ cells_in gs n
cells_left name cells gs n other =
    written (λ vs. vs ≡ cells_in gs n) name cells gs n refl (λ e. absurd (other (same_bytes n name e)))

-- a name that has cells has those that are written
pub cells_now : (name : Bytes) (cells : List Value) (gs : List Cells) → 0 < length (cells_in gs name)
    → cells_in (with_cells_in name cells gs) name ≡ cells
cells_now name cells [] there = absurd (omega (arith, there))
cells_now name cells (g ∷ gs) there = by (bytes_eq name g.name) refl there (cells_now name cells gs)
  where
    by : (b : Bool) → bytes_eq name g.name ≡ b → 0 < length (option_map_or (λ x. x.cells) (if b then Some g else find (λ x. bytes_eq name x.name) gs) [])
        → (0 < length (cells_in gs name) → cells_in (with_cells_in name cells gs) name ≡ cells)
        → cells_in (if b then record g { cells = cells } ∷ gs else g ∷ with_cells_in name cells gs) name ≡ cells
    by true is there rest =
        ap (λ t. option_map_or (λ x. x.cells) (if t then Some (record g { cells = cells }) else find (λ x. bytes_eq name x.name) gs) []) is
    by false is there rest =
        ap (λ t. option_map_or (λ x. x.cells) (if t then Some g else find (λ x. bytes_eq name x.name) (with_cells_in name cells gs)) []) is
        ∙ rest there
