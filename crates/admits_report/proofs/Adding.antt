-- Texts that grow by pieces, and by what items show.
use Rattle.std.proofs.Common.{◌≡◌, ℕ, ◌+◌, ◌≤◌, ◌<◌, Bor, List, [], ◌∷◌, ◌++◌, length, take, get_or, map, sym, ◌∙◌, ap, append_assoc, append-nil, arith, refl}
use Rattle.std.proofs.lemmas.List.{get_or-map, take_all, take_more, length-map}
use Rattle.std.proofs.lemmas.List.Concat.{flat_map-append}
use Rattle.std.specs.List.{flat_map}
use Rattle.dsu_io.specs.Sinks.{joined}
use Rattle.dsu_io.proofs.Written.{joined-more}

-- a text that had the bytes of what came before has those of one more
grown : (old mid new before piece after : List ℕ) → after ≡ before ++ piece → mid ≡ old ++ before → new ≡ mid ++ piece → new ≡ old ++ after
grown old mid new before piece after is had has =
    has ∙ ap (λ xs. xs ++ piece) had ∙ append_assoc old before piece ∙ ap (λ xs. old ++ xs) (sym is)

-- ---- pieces

pub pieces_more : (old mid new : List ℕ) (pieces : List (Bor (List ℕ))) (i : ℕ) (d : Bor (List ℕ)) → i < length pieces
    → mid ≡ old ++ joined (take i pieces) → new ≡ mid ++ (get_or pieces i d).now → new ≡ old ++ joined (take (i + 1) pieces)
pieces_more old mid new pieces i d within had has =
    grown old mid new (joined (take i pieces)) (get_or pieces i d).now _ (joined-more pieces i d within) had has

pub pieces_all : (old new : List ℕ) (pieces : List (Bor (List ℕ))) (i : ℕ) → length pieces ≤ i
    → new ≡ old ++ joined (take i pieces) → new ≡ old ++ joined pieces
pieces_all old new pieces i all had = had ∙ ap (λ ps. old ++ joined ps) (take_all i pieces all)

-- ---- what two and three calls add

pub two_added : (a b old mid new : List ℕ) → mid ≡ old ++ a → new ≡ mid ++ b → new ≡ old ++ (a ++ b)
two_added a b old mid new first second = second ∙ ap (λ xs. xs ++ b) first ∙ append_assoc old a b

pub three_added : (a b c old mid more new : List ℕ) → mid ≡ old ++ a → more ≡ mid ++ b → new ≡ more ++ c → new ≡ old ++ (a ++ b ++ c)
three_added a b c old mid more new first second third =
    two_added (a ++ b) c old more new (two_added a b old mid more first second) third

pub from_nothing : (a none new : List ℕ) → none ≡ [] → new ≡ none ++ a → new ≡ a
from_nothing a none new is has = has ∙ ap (λ xs. xs ++ a) is

-- ---- a number between words

numbers_added : (a b c d e t : List ℕ) → t ++ (a ++ (b ++ (c ++ (d ++ (e ++ []))))) ≡ t ++ (a ++ b ++ c ++ d ++ e)
numbers_added a b c d e t = simp (append_assoc, append-nil) refl

-- two numbers, each given by the bytes that show it
pub two_numbers : (a b c d e first second old new : List ℕ) → first ≡ b → second ≡ d
    → new ≡ old ++ (a ++ (first ++ (c ++ (second ++ (e ++ []))))) → new ≡ old ++ (a ++ b ++ c ++ d ++ e)
two_numbers a b c d e first second old new is are has =
    has ∙ ap (λ x. old ++ (a ++ (x ++ (c ++ (second ++ (e ++ [])))))) is
    ∙ ap (λ y. old ++ (a ++ (b ++ (c ++ (y ++ (e ++ [])))))) are ∙ numbers_added a b c d e old

head_added : (a b c d e f t : List ℕ) → t ++ (a ++ (b ++ (c ++ (d ++ (e ++ (f ++ [])))))) ≡ t ++ (a ++ b ++ c ++ d ++ e ++ f)
head_added a b c d e f t = simp (append_assoc, append-nil) refl

-- the same before a word that is given too
pub numbers_and_word : (a b c d e f first second word old new : List ℕ) → first ≡ b → second ≡ d → word ≡ f
    → new ≡ old ++ (a ++ (first ++ (c ++ (second ++ (e ++ (word ++ [])))))) → new ≡ old ++ (a ++ b ++ c ++ d ++ e ++ f)
numbers_and_word a b c d e f first second word old new is are word_is has =
    has ∙ ap (λ x. old ++ (a ++ (x ++ (c ++ (second ++ (e ++ (word ++ []))))))) is
    ∙ ap (λ y. old ++ (a ++ (b ++ (c ++ (y ++ (e ++ (word ++ []))))))) are
    ∙ ap (λ z. old ++ (a ++ (b ++ (c ++ (d ++ (e ++ (z ++ []))))))) word_is ∙ head_added a b c d e f old

place_added : (a b c d t : List ℕ) → t ++ (a ++ (b ++ (c ++ (d ++ [])))) ≡ t ++ a ++ b ++ c ++ d
place_added a b c d t = simp (append_assoc, append-nil) refl

-- two numbers at the end
pub place_words : (a b c d first second old new : List ℕ) → first ≡ b → second ≡ d
    → new ≡ old ++ (a ++ (first ++ (c ++ (second ++ [])))) → new ≡ old ++ a ++ b ++ c ++ d
place_words a b c d first second old new is are has =
    has ∙ ap (λ x. old ++ (a ++ (x ++ (c ++ (second ++ []))))) is ∙ ap (λ y. old ++ (a ++ (b ++ (c ++ (y ++ []))))) are
    ∙ place_added a b c d old

-- ---- what items show

items_more : {X : Type 0} (f : X → List ℕ) (old mid new : List ℕ) (xs : List X) (i : ℕ) (x : X) → i < length xs
    → x ≡ get_or xs i x → mid ≡ old ++ flat_map f (take i xs) → new ≡ mid ++ f x → new ≡ old ++ flat_map f (take (i + 1) xs)
items_more f old mid new xs i x within is had has =
    grown old mid new (flat_map f (take i xs)) (f x) _
    (ap (flat_map f) (take_more xs i x within) ∙ flat_map-append f (take i xs) (get_or xs i x ∷ [])
    ∙ ap (λ bytes. flat_map f (take i xs) ++ bytes) (append-nil (f (get_or xs i x)) ∙ ap f (sym is)))
    had has

pub shown_more : {X Y : Type 0} (f : Y → List ℕ) (v : X → Y) (old mid new : List ℕ) (xs : List X) (i : ℕ) (x : X) → i < length xs
    → x ≡ get_or xs i x → mid ≡ old ++ flat_map f (take i (map v xs)) → new ≡ mid ++ f (v x)
    → new ≡ old ++ flat_map f (take (i + 1) (map v xs))
shown_more f v old mid new xs i x within is had has =
    let at : get_or (map v xs) i (v x) ≡ v x = get_or-map v xs i x (v x) within ∙ ap v (sym is) in
    items_more f old mid new (map v xs) i (v x) (omega (arith, length-map xs v)) (sym at) had has

pub shown_all : {X Y : Type 0} (f : Y → List ℕ) (v : X → Y) (old new : List ℕ) (xs : List X) (i : ℕ) → length xs ≤ i
    → new ≡ old ++ flat_map f (take i (map v xs)) → new ≡ old ++ flat_map f (map v xs)
shown_all f v old new xs i all had =
    had ∙ ap (λ ys. old ++ flat_map f ys) (take_all i (map v xs) (omega (arith, length-map xs v)))
