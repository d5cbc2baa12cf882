-- Tables of names.
use Rattle.std.proofs.Common.{◌≡◌, true, false, not, if◌then◌else◌, List, [], ◌∷◌, ◌++◌, length, map, Option, Some, None, is_some, bytes_eq, refl, sym, ap, subst, ◌∙◌}
use Rattle.std.specs.Prelude.{filter_map, flat_map, string_bytes}
use Rattle.std.specs.List.{cons_option}
use Rattle.std.specs.Option.{option_map, option_to_list}
use Rattle.std.proofs.lemmas.List.{append-nil, length-map}
use Rattle.std.proofs.lemmas.List.Concat.{flat_map-append}
use Rattle.std.proofs.lemmas.List.Elements.{filter_map-append}
use Rattle.name_sets.specs.NameLists.{is_among}
use Rattle.c_tree.specs.BareExpr.{Bytes}
use Rattle.c_tree.specs.BareDef.{BareDef}
use Rattle.source_model.specs.Worlds.{cells_at_first}
use Rattle.source_programs.specs.Places.{place_in}
use Rattle.code_image.specs.Images.{each_once, names_in, names_of, with_more, with_new}
use Rattle.image_load.specs.declared.tables.NameTable.{NameTable}
use Rattle.image_load.specs.declared.numbers.Named.TheVariants.{Cells, Mutexes, Tags}
use Rattle.image_load.specs.Numbering.{IsTable, name_by}
use Rattle.image_load.proofs.NameLists.{more_append, placed_among}
use Rattle.image_load.proofs.NameNumbers.{is_none, numbers_more}

-- ---- one name more

among_in : (names : List Bytes) (t : NameTable) (name : Bytes) → IsTable names t → is_some (place_in t.places name) ≡ is_among names name
among_in names t name h = ap is_some (h.numbers name) ∙ placed_among names name

-- which is there already
pub table_same : (names : List Bytes) (t : NameTable) (name : Bytes) → is_some (place_in t.places name) ≡ true → IsTable names t
    → IsTable (with_new names name) t
table_same names t name there h =
    let among : is_among names name ≡ true = sym (among_in names t name h) ∙ there in
    subst (λ (ns : List Bytes). IsTable ns t) (sym (ap (λ b. if b then names else names ++ name ∷ []) among)) h

-- which is put there
pub table_more : (names : List Bytes) (old new : NameTable) (name : Bytes) → is_some (place_in old.places name) ≡ false
    → ((other : Bytes) → place_in new.places other ≡ (if bytes_eq other name then Some (length old.names.items) else place_in old.places other))
    → map string_bytes new.names.items ≡ map string_bytes old.names.items ++ name ∷ []
    → IsTable names old → IsTable (with_new names name) new
table_more names old new name absent put same h =
    let among : is_among names name ≡ false = sym (among_in names old name h) ∙ absent in
    subst (λ (ns : List Bytes). IsTable ns new) (sym (ap (λ b. if b then names else names ++ name ∷ []) among))
    (record {
      numbers =
          numbers_more old.places new.places names name (length old.names.items) h.numbers
          (sym (length-map old.names.items string_bytes) ∙ ap length h.same) (is_none _ absent) put;
      same = same ∙ ap (λ (ns : List Bytes). ns ++ name ∷ []) h.same;
    })

-- it is new where it has no place
pub is_fresh : (names : List Bytes) (t : NameTable) (name : Bytes) (there : _) → is_some (place_in t.places name) ≡ there → IsTable names t
    → not there ≡ not (is_among names name)
is_fresh names t name there e h = ap not (sym e ∙ among_in names t name h)

-- how many there are
pub counted : (names : List Bytes) (t : NameTable) → IsTable names t → length t.names.items ≡ length names
counted names t h = sym (length-map t.names.items string_bytes) ∙ ap length h.same

-- ---- the names of texts

-- those of one definition more
pub names_more : (f : BareDef → Option Bytes) (names : List Bytes) (ys zs : List BareDef) (y : BareDef) → zs ≡ ys ++ y ∷ []
    → with_more (with_more names (filter_map f ys)) (option_to_list (f y)) ≡ with_more names (filter_map f zs)
names_more f names ys zs y e =
    sym (more_append names (filter_map f ys) (option_to_list (f y)))
    ∙ ap (with_more names) (by (f y) ∙ sym (filter_map-append f ys (y ∷ [])) ∙ sym (ap (filter_map f) e))
  where
    by : (o : Option Bytes) → filter_map f ys ++ option_to_list o ≡ filter_map f ys ++ cons_option o []
    by None = refl
    by (Some name) = refl

-- those of one text more
pub texts_more : {X : Type 0} (f : X → List Bytes) (names : List Bytes) (ys zs : List X) (y : X) → zs ≡ ys ++ y ∷ []
    → with_more (with_more names (flat_map f ys)) (f y) ≡ with_more names (flat_map f zs)
texts_more f names ys zs y e =
    sym (more_append names (flat_map f ys) (f y))
    ∙ ap (with_more names) (sym (flat_map-append f ys (y ∷ []) ∙ ap (λ ns. flat_map f ys ++ ns) (append-nil (f y))) ∙ sym (ap (flat_map f) e))

-- names that are added to none
pub each_added : {X : Type 0} (f : X → List Bytes) (y : X) (ys : List X) → with_more (with_more [] (f y)) (flat_map f ys) ≡ each_once (flat_map f (y ∷ ys))
each_added f y ys = sym (more_append [] (f y) (flat_map f ys))

-- ---- those by which a run numbers things

map_filter : {X Y Z : Type 0} (g : Y → Z) (f : X → Option Y) (xs : List X) → filter_map (λ x. option_map g (f x)) xs ≡ map g (filter_map f xs)
map_filter g f [] = refl
map_filter {X} {Y} {Z} g f (x ∷ xs) = by (f x) (filter_map (λ y. option_map g (f y)) xs) (map_filter g f xs)
  where
    by : (o : Option Y) (zs : List Z) → zs ≡ map g (filter_map f xs) → cons_option (option_map g o) zs ≡ map g (cons_option o (filter_map f xs))
    by None zs e = e
    by (Some y) zs e = ap (λ ws. g y ∷ ws) e

same_each : {X : Type 0} (f g : X → List Bytes) → ((x : X) → f x ≡ g x) → (xs : List X) → flat_map f xs ≡ flat_map g xs
same_each f g e [] = refl
same_each f g e (x ∷ xs) = ap (λ ys. ys ++ flat_map f xs) (e x) ∙ ap (λ ys. g x ++ ys) (same_each f g e xs)

pub cells_named : (texts : List (List BareDef)) → each_once (flat_map (filter_map (name_by Cells)) texts) ≡ (names_in texts).cells
cells_named texts =
    ap each_once (same_each (filter_map (name_by Cells)) (λ text. (names_of text).cells) (map_filter (λ c. c.name) cells_at_first) texts)

-- those of one text
pub named_cells : (text : List BareDef) → filter_map (name_by Cells) text ≡ (names_of text).cells
named_cells text = map_filter (λ c. c.name) cells_at_first text

pub mutexes_named : (texts : List (List BareDef)) → each_once (flat_map (filter_map (name_by Mutexes)) texts) ≡ (names_in texts).mutexes
mutexes_named texts = refl

pub tags_named : (texts : List (List BareDef)) → each_once (flat_map (filter_map (name_by Tags)) texts) ≡ (names_in texts).tags
tags_named texts = refl
