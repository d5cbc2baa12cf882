-- Globals by name.
use Rattle.std.proofs.Common.{◌≡◌, ℕ, suc, ◌+◌, ◌<◌, Bool, true, false, not, ◌&&◌, cond, if◌then◌else◌, ℤ, pos, negsuc, List, [], ◌∷◌, length, map, get_or, set, Option, Some, None, find, bytes_eq, string_bytes, unsigned_abs, nat_lt, slice_get, slice_set, unwrap_or, refl, sym, ap, ◌∙◌, arith}
use Rattle.std.specs.List.{position, position_or_len}
use Rattle.std.specs.Option.{option_map_or}
use Rattle.std.proofs.lemmas.Bool.{le-ltb}
use Rattle.std.proofs.lemmas.List.{map-set, get_or-map, length-map, length-set, set_past}
use Rattle.std.proofs.lemmas.List.Folds.{find_at, position_or_len-set}
use Rattle.std.proofs.lemmas.Option.{cond_some, slice_get-get_or, slice_get_past}
use Rattle.c_ints.specs.declared.int.Int.{Int}
use Rattle.c_ints.specs.Number.{value_of}
use Rattle.run_types.specs.declared.trap.TrapKind.TheVariants.{Index}
use Rattle.c_tree.specs.BareExpr.{Bytes}
use Rattle.c_tree.specs.BareDef.{BareDef}
use Rattle.c_semantics.specs.Stops.{ReadGlobal, ReadElement, WriteElement}
use Rattle.c_semantics.specs.Values.{Value as Seen, Number, int_of}
use Rattle.source_model.specs.Worlds.{World, with_cells, with_cells_in, cells_of as cells_in}
use Rattle.source_model.specs.Worlds as world
use Rattle.source_model.specs.Moves.{in_bounds, goes_on, traps, read_element, write_element}
use Rattle.c_semantics.specs.Transformers.{first_cell}
use Rattle.local_evaluation.specs.declared.value.Value.{Value}
use Rattle.local_evaluation.specs.declared.value.Value.TheVariants.{Number as NumberIs, Reference, Started}
use Rattle.source_data.specs.declared.store.Store.{Store}
use Rattle.source_data.specs.declared.shared_stops.Did.TheVariants.{On, Trap, Nothing}
use Rattle.source_programs.specs.declared.globals.Cells.{Cells}
use Rattle.source_programs.specs.declared.places.Places.{Places}
use Rattle.source_programs.specs.Places.{place_in}
use Rattle.resolved_tree.specs.Nodes.{Table}
use Rattle.local_evaluation.specs.Values.{seen}
use Rattle.source_programs.specs.Globals.{cells_of, globals_of}
use Rattle.source_data.specs.Stores.{Performs, standing_with, with_store}
use Rattle.local_evaluation.specs.Work.{newest}
use Rattle.source_data.proofs.Performing.{goes}
use Rattle.source_programs.proofs.Placed.{found_at, nowhere}

abbrev pub named : Bytes → world.Cells → Bool
named name g = bytes_eq name g.name

-- the cells of the first global of a name changed
with_cells_first : (name : Bytes) (cells : List Seen) (gs : List world.Cells) (d : world.Cells)
    → with_cells_in name cells gs
    ≡ set gs (position_or_len (named name) gs) (record { name = (get_or gs (position_or_len (named name) gs) d).name; cells = cells })
with_cells_first name cells [] d = refl
with_cells_first name cells (g ∷ gs) d =
    by (with_cells_first name cells gs d) (bytes_eq name g.name)
    ∙ ap (λ k. set (g ∷ gs) (cond (not (bytes_eq name g.name)) k 0) (record { name = (get_or (g ∷ gs) (cond (not (bytes_eq name g.name)) k 0) d).name; cells = cells })) next
  where
    i : ℕ
    i = position_or_len (named name) gs

    next : suc i ≡ 1 + i
    next = omega arith

    by : with_cells_in name cells gs ≡ set gs i (record { name = (get_or gs i d).name; cells = cells }) → (b : Bool)
        → (if b then record g { cells = cells } ∷ gs else g ∷ with_cells_in name cells gs)
        ≡ set (g ∷ gs) (cond (not b) (suc i) 0) (record { name = (get_or (g ∷ gs) (cond (not b) (suc i) 0) d).name; cells = cells })
    by rest true = refl
    by rest false = ap (λ l. g ∷ l) rest

-- the global that was found is changed
pub changed_at : (cs : List Cells) (name : Bytes) (place : ℕ) (d new : Cells) (cells : List Seen)
    → position (named name) (globals_of cs) ≡ Some place
    → new.name ≡ (get_or cs place d).name → map seen new.cells.items ≡ cells
    → globals_of (set cs place new) ≡ with_cells_in name cells (globals_of cs)
changed_at cs name place d new cells h same is =
    let gs = globals_of cs in
    let at = found_at (named name) gs place h in
    let long = length-map cs cells_of in
    let within : place < length cs = omega (arith, at.within, long) in
    let kept : (get_or gs place (cells_of d)).name ≡ string_bytes new.name =
    ap (λ g. g.name) (get_or-map cells_of cs place d (cells_of d) within) ∙ ap string_bytes (sym same)
    in
    map-set cells_of cs place new
    ∙ ap (λ n. set gs place (record { name = n; cells = map seen new.cells.items })) (sym kept)
    ∙ ap (λ l. set gs place (record { name = (get_or gs place (cells_of d)).name; cells = l })) is
    ∙ sym (with_cells_first name cells gs (cells_of d)
    ∙ ap (λ i. set gs i (record { name = (get_or gs i (cells_of d)).name; cells = cells })) at.first)

-- it is one of them
pub place_within : (cs : List Cells) (name : Bytes) (place : ℕ) → position (named name) (globals_of cs) ≡ Some place → place < length cs
place_within cs name place h =
    let at = found_at (named name) (globals_of cs) place h in
    omega (arith, at.within, length-map cs cells_of)

-- and stays where it was
pub placed_kept : (cs : List Cells) (places : Places) (i : ℕ) (d new : Cells) → i < length cs → new.name ≡ (get_or cs i d).name
    → ((name : Bytes) → place_in places name ≡ position (named name) (globals_of cs))
    → (name : Bytes) → place_in places name ≡ position (named name) (globals_of (set cs i new))
placed_kept cs places i d new within same placed name =
    let gs = globals_of cs in
    let other = cells_of new in
    let first : position_or_len (named name) (set gs i other) ≡ position_or_len (named name) gs =
    position_or_len-set (named name) gs i other (cells_of d)
    (ap (λ s. bytes_eq name (string_bytes s)) same ∙ ap (named name) (sym (get_or-map cells_of cs i d (cells_of d) within)))
    in
    placed name
    ∙ ap (λ n. cond (nat_lt n (length gs)) (Some n) None) (sym first)
    ∙ ap (λ l. cond (nat_lt (position_or_len (named name) (set gs i other)) l) (Some (position_or_len (named name) (set gs i other))) None) (sym (length-set gs i other))
    ∙ ap (position (named name)) (sym (map-set cells_of cs i new))

-- where there is none, nothing changes
pub changed_nowhere : (cs : List Cells) (name : Bytes) (cells : List Seen)
    → position (named name) (globals_of cs) ≡ None
    → globals_of cs ≡ with_cells_in name cells (globals_of cs)
changed_nowhere cs name cells h =
    let gs = globals_of cs in
    let d : world.Cells = record { name = name; cells = cells } in
    sym (with_cells_first name cells gs d ∙ set_past gs (position_or_len (named name) gs) _ (nowhere (named name) gs h))

-- the cells of a global
abbrev pub cells_found : Option world.Cells → List Seen
cells_found g = option_map_or (λ g. g.cells) g []

pub cells_at : (cs : List Cells) (name : Bytes) (place : ℕ) (d : Cells) (w : World)
    → position (named name) (globals_of cs) ≡ Some place → w.globals ≡ globals_of cs
    → cells_in w name ≡ map seen (get_or cs place d).cells.items
cells_at cs name place d w h is =
    let gs = globals_of cs in
    let at = found_at (named name) gs place h in
    let long = length-map cs cells_of in
    let within : place < length cs = omega (arith, at.within, long) in
    ap (λ l. cells_found (find (named name) l)) is
    ∙ ap cells_found (find_at (named name) gs ∙ ap (slice_get gs) at.first ∙ slice_get-get_or gs place (cells_of d) at.within)
    ∙ ap (λ g. g.cells) (get_or-map cells_of cs place d (cells_of d) within)

pub cells_nowhere : (cs : List Cells) (name : Bytes) (w : World)
    → position (named name) (globals_of cs) ≡ None → w.globals ≡ globals_of cs → cells_in w name ≡ []
cells_nowhere cs name w h is =
    let gs = globals_of cs in
    ap (λ l. cells_found (find (named name) l)) is
    ∙ ap cells_found (find_at (named name) gs ∙ slice_get_past gs (position_or_len (named name) gs) (nowhere (named name) gs h))

both_false : (a b : Bool) → b ≡ false → (a && b) ≡ false
both_false true b h = h
both_false false b h = refl

-- no index is within no cells
pub none_within : (i : ℤ) → in_bounds i [] ≡ false
none_within (pos n) = both_false _ _ (le-ltb n 0 (omega arith))
none_within (negsuc n) = refl

-- what an index comes to
pub is_within : (i : ℤ) (cells : List Seen) (place : ℕ)
    → (if in_bounds i cells then Some (unsigned_abs i) else None) ≡ Some place
    → (in_bounds i cells ≡ true) × (unsigned_abs i ≡ place)
is_within i cells place h = cond_some (in_bounds i cells) (unsigned_abs i) place h

pub is_outside : (i : ℤ) (cells : List Seen)
    → (if in_bounds i cells then Some (unsigned_abs i) else None) ≡ None → in_bounds i cells ≡ false
is_outside i cells h = by (in_bounds i cells) h
  where
    by : (b : Bool) → (if b then Some (unsigned_abs i) else None) ≡ None → b ≡ false
    by true h = cc
    by false h = refl

-- ---- the stops

-- what is in a global of what is shared
abbrev pub Holds : Table → Store → Bytes → List Seen → Type 0
Holds t store name cells = (w : World) → cells_in (with_store t store w) name ≡ cells

pub reads_global : (t : Table) (text : List BareDef) (slot : ℕ) (store : Store) (name : Bytes) (values after : List Value)
    (v : Seen) (cells : List Seen)
    → Holds t store name cells → v ≡ first_cell cells → newest after ≡ v ∷ newest values
    → Performs t text slot (ReadGlobal name) store values On store after
reads_global t text slot store name values after v cells held is pushed =
    goes t text slot (ReadGlobal name) store store values after (λ w. w) (v ∷ newest values)
    (λ s at defined. ap (λ x. goes_on (standing_with t store s) (with_store t store s.world) (x ∷ newest values))
    (ap first_cell (held s.world) ∙ sym is))
    (λ w defined. refl) pushed

pub reads_element : (t : Table) (text : List BareDef) (slot : ℕ) (store : Store) (name : Bytes) (values after : List Value)
    (i : Int) (v : Seen) (rest cells : List Seen)
    → newest values ≡ Number i ∷ rest → Holds t store name cells → in_bounds (value_of i) cells ≡ true
    → unwrap_or (slice_get cells (unsigned_abs (value_of i))) (int_of 0) ≡ v → newest after ≡ v ∷ rest
    → Performs t text slot (ReadElement name) store values On store after
reads_element t text slot store name values after i v rest cells is held inside value left =
    goes t text slot (ReadElement name) store store values after (λ w. w) (v ∷ rest)
    (λ s at defined.
    let st = standing_with t store s in
    let n = unsigned_abs (value_of i) in
    ap (read_element st name) is
    ∙ ap (λ cs. if in_bounds (value_of i) cs then goes_on st st.world (unwrap_or (slice_get cs n) (int_of 0) ∷ rest) else traps st Index) (held s.world)
    ∙ ap (λ b. if b then goes_on st st.world (unwrap_or (slice_get cells n) (int_of 0) ∷ rest) else traps st Index) inside
    ∙ ap (λ x. goes_on st st.world (x ∷ rest)) value)
    (λ w defined. refl) left

pub read_traps : (t : Table) (text : List BareDef) (slot : ℕ) (store : Store) (name : Bytes) (values : List Value)
    (i : Int) (rest cells : List Seen)
    → newest values ≡ Number i ∷ rest → Holds t store name cells → in_bounds (value_of i) cells ≡ false
    → Performs t text slot (ReadElement name) store values (Trap Index) store values
read_traps t text slot store name values i rest cells is held outside = λ s at defined.
    let st = standing_with t store s in
    let n = unsigned_abs (value_of i) in
    ap (read_element st name) is
    ∙ ap (λ cs. if in_bounds (value_of i) cs then goes_on st st.world (unwrap_or (slice_get cs n) (int_of 0) ∷ rest) else traps st Index) (held s.world)
    ∙ ap (λ b. if b then goes_on st st.world (unwrap_or (slice_get cells n) (int_of 0) ∷ rest) else traps st Index) outside

-- whether an index is within a global of what is shared
abbrev pub Inside : Table → Store → Bytes → ℤ → Bool → Type 0
Inside t store name i b = (w : World) → in_bounds i (cells_in (with_store t store w) name) ≡ b

-- an element of a global changed
abbrev pub with_element : Bytes → ℤ → Seen → World → World
with_element name i v w = with_cells name (slice_set (cells_in w name) (unsigned_abs i) v) w

pub writes_element : (t : Table) (text : List BareDef) (slot : ℕ) (old new : Store) (name : Bytes) (values after : List Value)
    (i : Int) (v : Seen) (rest : List Seen)
    → newest values ≡ v ∷ Number i ∷ rest → Inside t old name (value_of i) true
    → ((w : World) → with_store t new w ≡ with_element name (value_of i) v (with_store t old w)) → newest after ≡ v ∷ rest
    → Performs t text slot (WriteElement name) old values On new after
writes_element t text slot old new name values after i v rest is inside changed left =
    goes t text slot (WriteElement name) old new values after (with_element name (value_of i) v) (v ∷ rest)
    (λ s at defined.
    let st = standing_with t old s in
    ap (write_element st name) is
    ∙ ap (λ b. if b then goes_on st (with_element name (value_of i) v st.world) (v ∷ rest) else traps st Index) (inside s.world))
    (λ w defined. changed w) left

pub write_traps : (t : Table) (text : List BareDef) (slot : ℕ) (old new : Store) (name : Bytes) (values : List Value)
    (i : Int) (v : Seen) (rest : List Seen)
    → newest values ≡ v ∷ Number i ∷ rest → Inside t old name (value_of i) false
    → ((w : World) → with_store t new w ≡ with_store t old w)
    → Performs t text slot (WriteElement name) old values (Trap Index) new values
write_traps t text slot old new name values i v rest is outside same = λ s at defined.
    let st = standing_with t old s in
    ap (write_element st name) is
    ∙ ap (λ b. if b then goes_on st (with_element name (value_of i) v st.world) (v ∷ rest) else traps st Index) (outside s.world)
    ∙ ap (λ w. traps (record s { world = w }) Index) (sym (same s.world))

-- where the value under the newest one is no number
pub write_nothing : (t : Table) (text : List BareDef) (slot : ℕ) (store : Store) (name : Bytes) (values : List Value)
    (under : Value) (v : Seen) (rest : List Seen)
    → newest values ≡ v ∷ seen under ∷ rest → ((i : Int) → under ≡ NumberIs i → ⊥)
    → Performs t text slot (WriteElement name) store values Nothing store values
write_nothing t text slot store name values (NumberIs i) v rest is other = λ s at defined. absurd (other i refl)
write_nothing t text slot store name values (Reference r) v rest is other = λ s at defined. ap (write_element (standing_with t store s) name) is
write_nothing t text slot store name values (Started r) v rest is other = λ s at defined. ap (write_element (standing_with t store s) name) is
