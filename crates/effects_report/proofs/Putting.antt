-- Bytes that are put in pieces, each of which may fail.
use Rattle.std.proofs.Common.{◌≡◌, ℕ, ◌+◌, ◌≤◌, ◌<◌, List, [], ◌∷◌, ◌++◌, length, take, drop, get_or, map, Result, Err, sym, ◌∙◌, ap, subst, arith, append-nil}
use Rattle.std.proofs.lemmas.List.{get_or-map, get_or_default, length-map, take_all, take_more, drop_more, take-append-drop}
use Rattle.std.proofs.lemmas.List.Concat.{flat_map-append}
use Rattle.std.specs.List.{flat_map}
use Rattle.std.specs.declared.option.Option.{Option}
use Rattle.std.specs.Io.KnownBytes.{Appends}
use Rattle.dsu_io.specs.Sinks.{AppendsFront, PutAppends}
use Rattle.dsu_io.proofs.Written.{Appends-then, AppendsFront-then}
use Rattle.dsu_journal.proofs.Pieces.{AppendsFront-first, AppendsFront-last, PutAppends-then}

-- where a call has failed, a shorter prefix was put
pub put_failed : {E : Type 0} (old new : Option (List ℕ)) (result : Result (Unit {0}) E) (bytes : List ℕ) (e : E)
    → result ≡ Err e → AppendsFront old new bytes → PutAppends old new result bytes
put_failed {E} old new result bytes e is front =
    subst {A = Result (Unit {0}) E} (λ r. PutAppends old new r bytes) (sym is) front

-- ---- a loop over items that puts bytes of each

-- the bytes of the items up to a place and of the item there
pub each_more : {X : Type 0} (f : X → List ℕ) (old mid new : Option (List ℕ)) (xs : List X) (i : ℕ) (d : X) → i < length xs
    → Appends old mid (flat_map f (take i xs)) → Appends mid new (f (get_or xs i d)) → Appends old new (flat_map f (take (i + 1) xs))
each_more f old mid new xs i d within first second =
    let e : flat_map f (take (i + 1) xs) ≡ flat_map f (take i xs) ++ f (get_or xs i d) =
    ap (flat_map f) (take_more xs i d within) ∙ flat_map-append f (take i xs) (get_or xs i d ∷ [])
    ∙ ap (λ bytes. flat_map f (take i xs) ++ bytes) (append-nil (f (get_or xs i d)))
    in
    subst {A = List ℕ} (λ bytes. Appends old new bytes) (sym e) (Appends-then old mid new _ _ first second)

-- those up to a place and a shorter prefix of the one there
pub each_front : {X : Type 0} (f : X → List ℕ) (old mid new : Option (List ℕ)) (xs : List X) (i : ℕ) (d : X) → i < length xs
    → Appends old mid (flat_map f (take i xs)) → AppendsFront mid new (f (get_or xs i d)) → AppendsFront old new (flat_map f xs)
each_front f old mid new xs i d within first second =
    let e : flat_map f xs ≡ flat_map f (take i xs) ++ (f (get_or xs i d) ++ flat_map f (drop (i + 1) xs)) =
    ap (flat_map f) (sym (take-append-drop i xs)) ∙ flat_map-append f (take i xs) (drop i xs)
    ∙ ap (λ rest. flat_map f (take i xs) ++ flat_map f rest) (drop_more xs i d within)
    in
    subst {A = List ℕ} (λ bytes. AppendsFront old new bytes) (sym e)
    (AppendsFront-then old mid new (flat_map f (take i xs)) (f (get_or xs i d)) (flat_map f (drop (i + 1) xs)) first second)

-- ---- four pieces

pub four_put : {E : Type 0} (s a b c new : Option (List ℕ)) (p q r t : List ℕ) (result : Result (Unit {0}) E)
    → Appends s a p → Appends a b q → Appends b c r → PutAppends c new result t → PutAppends s new result (p ++ q ++ r ++ t)
four_put s a b c new p q r t result one two three last =
    PutAppends-then s c new result (p ++ q ++ r) t
    (Appends-then s b c (p ++ q) r (Appends-then s a b p q one two) three) last

pub front_first : (s new : Option (List ℕ)) (p q r t : List ℕ) → AppendsFront s new p → AppendsFront s new (p ++ q ++ r ++ t)
front_first s new p q r t one =
    AppendsFront-first s new (p ++ q ++ r) t (AppendsFront-first s new (p ++ q) r (AppendsFront-first s new p q one))

pub front_second : (s a new : Option (List ℕ)) (p q r t : List ℕ) → Appends s a p → AppendsFront a new q → AppendsFront s new (p ++ q ++ r ++ t)
front_second s a new p q r t one two =
    AppendsFront-first s new (p ++ q ++ r) t (AppendsFront-first s new (p ++ q) r (AppendsFront-last s a new p q one two))

pub front_third : (s a b new : Option (List ℕ)) (p q r t : List ℕ) → Appends s a p → Appends a b q → AppendsFront b new r → AppendsFront s new (p ++ q ++ r ++ t)
front_third s a b new p q r t one two three =
    AppendsFront-first s new (p ++ q ++ r) t (AppendsFront-last s b new (p ++ q) r (Appends-then s a b p q one two) three)

-- ---- a loop over items that puts bytes of what each shows

pub mapped_more : {X Y : Type 0} (f : Y → List ℕ) (v : X → Y) (old mid new : Option (List ℕ)) (xs : List X) (i : ℕ) (x : X) → i < length xs
    → x ≡ get_or xs i x → Appends old mid (flat_map f (take i (map v xs))) → Appends mid new (f (v x))
    → Appends old new (flat_map f (take (i + 1) (map v xs)))
mapped_more f v old mid new xs i x within is first second =
    let at : get_or (map v xs) i (v x) ≡ v x = get_or-map v xs i x (v x) within ∙ ap v (sym is) in
    each_more f old mid new (map v xs) i (v x) (omega (arith, length-map xs v)) first
    (subst {A = _} (λ y. Appends mid new (f y)) (sym at) second)

pub mapped_front : {X Y : Type 0} (f : Y → List ℕ) (v : X → Y) (old mid new : Option (List ℕ)) (xs : List X) (i : ℕ) (x : X) → i < length xs
    → x ≡ get_or xs i x → Appends old mid (flat_map f (take i (map v xs))) → AppendsFront mid new (f (v x))
    → AppendsFront old new (flat_map f (map v xs))
mapped_front f v old mid new xs i x within is first second =
    let at : get_or (map v xs) i (v x) ≡ v x = get_or-map v xs i x (v x) within ∙ ap v (sym is) in
    each_front f old mid new (map v xs) i (v x) (omega (arith, length-map xs v)) first
    (subst {A = _} (λ y. AppendsFront mid new (f y)) (sym at) second)

-- the same where an item is read at a default
pub read_more : {X Y : Type 0} (f : Y → List ℕ) (v : X → Y) (old mid new : Option (List ℕ)) (xs : List X) (i : ℕ) (d : X) → i < length xs
    → Appends old mid (flat_map f (take i (map v xs))) → Appends mid new (f (v (get_or xs i d)))
    → Appends old new (flat_map f (take (i + 1) (map v xs)))
read_more f v old mid new xs i d within first second =
    mapped_more f v old mid new xs i (get_or xs i d) within (get_or_default xs i d (get_or xs i d) within) first second

pub read_front : {X Y : Type 0} (f : Y → List ℕ) (v : X → Y) (old mid new : Option (List ℕ)) (xs : List X) (i : ℕ) (d : X) → i < length xs
    → Appends old mid (flat_map f (take i (map v xs))) → AppendsFront mid new (f (v (get_or xs i d)))
    → AppendsFront old new (flat_map f (map v xs))
read_front f v old mid new xs i d within first second =
    mapped_front f v old mid new xs i (get_or xs i d) within (get_or_default xs i d (get_or xs i d) within) first second

pub mapped_all : {X Y : Type 0} (f : Y → List ℕ) (v : X → Y) (old new : Option (List ℕ)) (xs : List X) (i : ℕ) → length xs ≤ i
    → Appends old new (flat_map f (take i (map v xs))) → Appends old new (flat_map f (map v xs))
mapped_all f v old new xs i all some =
    subst {A = List _} (λ ys. Appends old new (flat_map f ys)) (take_all i (map v xs) (omega (arith, length-map xs v))) some
