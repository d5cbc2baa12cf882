-- Texts that grow by the lines of items.
use Rattle.std.proofs.Common.{◌≡◌, ◌⊎◌, inl, inr, ℕ, ◌+◌, ◌≤◌, ◌<◌, Bor, List, [], ◌∷◌, ◌++◌, length, take, drop, get_or, map, refl, sym, ◌∙◌, ap, append_assoc, append-nil, arith}
use Rattle.std.proofs.lemmas.List.{get_or-map, take_all, take_more, drop_more, drop_all, length-map}
use Rattle.std.proofs.lemmas.List.Concat.{flat_map-append}
use Rattle.std.specs.List.{flat_map}
use Rattle.dsu_io.specs.Sinks.{joined}
use Rattle.dsu_io.proofs.Written.{joined-more}
use Rattle.c_tree.specs.BareExpr.{Bytes}
use Rattle.c_tree.specs.BareDef.{BareBinding}
use Rattle.type_transformers.specs.Hows.{How}
use Rattle.changes_report.specs.ChangesText.{field_line}
use Rattle.changes_report.specs.Shown.{fields_text}

-- a text that had the bytes of what came before has those of one more
grown : (old mid new before piece after : List ℕ) → after ≡ before ++ piece → mid ≡ old ++ before → new ≡ mid ++ piece → new ≡ old ++ after
grown old mid new before piece after is had has =
    has ∙ ap (λ xs. xs ++ piece) had ∙ append_assoc old before piece ∙ ap (λ xs. old ++ xs) (sym is)

-- ---- lines that are added by two or three calls

two_added : (a b c d e t : List ℕ) → t ++ a ++ b ++ c ++ d ++ e ≡ t ++ (a ++ b ++ c ++ d ++ e)
two_added a b c d e t = simp append_assoc refl

pub line_by_two : (a b c d e old mid new : List ℕ) → mid ≡ old ++ a ++ b ++ c → new ≡ mid ++ d ++ e → new ≡ old ++ (a ++ b ++ c ++ d ++ e)
line_by_two a b c d e old mid new first second = second ∙ ap (λ xs. xs ++ d ++ e) first ∙ two_added a b c d e old

three_added : (a b c d e f g t : List ℕ) → t ++ a ++ b ++ c ++ (d ++ e) ++ f ++ g ≡ t ++ (a ++ b ++ c ++ d ++ e ++ f ++ g)
three_added a b c d e f g t = simp append_assoc refl

pub line_by_three : (a b c d e f g old mid more new : List ℕ) → mid ≡ old ++ a ++ b ++ c → more ≡ mid ++ (d ++ e) → new ≡ more ++ f ++ g
    → new ≡ old ++ (a ++ b ++ c ++ d ++ e ++ f ++ g)
line_by_three a b c d e f g old mid more new first second third =
    third ∙ ap (λ xs. xs ++ f ++ g) (second ∙ ap (λ xs. xs ++ (d ++ e)) first) ∙ three_added a b c d e f g old

-- ---- the line of a place

five_added : (a b c d e t : List ℕ) → t ++ (a ++ (b ++ (c ++ (d ++ e)))) ≡ t ++ a ++ b ++ c ++ d ++ e
five_added a b c d e t = simp append_assoc refl

pub place_line : (a b c d e line column old new : List ℕ) → line ≡ b → column ≡ d → new ≡ old ++ (a ++ (line ++ (c ++ (column ++ e))))
    → new ≡ old ++ a ++ b ++ c ++ d ++ e
place_line a b c d e line column old new is are has =
    has ∙ ap (λ x. old ++ (a ++ (x ++ (c ++ (column ++ e))))) is ∙ ap (λ y. old ++ (a ++ (b ++ (c ++ (y ++ e))))) are
    ∙ five_added a b c d e old

-- ---- an empty text to which two are added

pub from_nothing : (a b none mid new : List ℕ) → none ≡ [] → mid ≡ none ++ a → new ≡ mid ++ b → new ≡ a ++ b
from_nothing a b none mid new is first second = second ∙ ap (λ xs. xs ++ b) (first ∙ ap (λ xs. xs ++ a) is)

-- ---- pieces

pub pieces_more : (old mid new : List ℕ) (pieces : List (Bor (List ℕ))) (i : ℕ) (d : Bor (List ℕ)) → i < length pieces
    → mid ≡ old ++ joined (take i pieces) → new ≡ mid ++ (get_or pieces i d).now → new ≡ old ++ joined (take (i + 1) pieces)
pieces_more old mid new pieces i d within had has =
    grown old mid new (joined (take i pieces)) (get_or pieces i d).now _ (joined-more pieces i d within) had has

pub pieces_all : (old new : List ℕ) (pieces : List (Bor (List ℕ))) (i : ℕ) → length pieces ≤ i
    → new ≡ old ++ joined (take i pieces) → new ≡ old ++ joined pieces
pieces_all old new pieces i all had = had ∙ ap (λ ps. old ++ joined ps) (take_all i pieces all)

-- ---- items that own memory

pub items_more : {X : Type 0} (f : X → List ℕ) (old mid new : List ℕ) (xs : List X) (i : ℕ) (x : X) → i < length xs
    → x ≡ get_or xs i x → mid ≡ old ++ flat_map f (take i xs) → new ≡ mid ++ f x → new ≡ old ++ flat_map f (take (i + 1) xs)
items_more f old mid new xs i x within is had has =
    grown old mid new (flat_map f (take i xs)) (f x) _
    (ap (flat_map f) (take_more xs i x within) ∙ flat_map-append f (take i xs) (get_or xs i x ∷ [])
    ∙ ap (λ bytes. flat_map f (take i xs) ++ bytes) (append-nil (f (get_or xs i x)) ∙ ap f (sym is)))
    had has

pub items_all : {X : Type 0} (f : X → List ℕ) (old new : List ℕ) (xs : List X) (i : ℕ) → length xs ≤ i
    → new ≡ old ++ flat_map f (take i xs) → new ≡ old ++ flat_map f xs
items_all f old new xs i all had = had ∙ ap (λ ys. old ++ flat_map f ys) (take_all i xs all)

-- ---- the fields of a struct, each with its change. The invariant has the lines that are still to come

unroll : (name : Bytes) (bs : List BareBinding) (hows : List How) (i : ℕ) (b : BareBinding) (how : How)
    → i < length bs → i < length hows → b ≡ get_or bs i b → how ≡ get_or hows i how
    → fields_text name (drop i bs) (drop i hows) ≡ field_line name b.name how ++ fields_text name (drop (i + 1) bs) (drop (i + 1) hows)
unroll name bs hows i b how within also is are =
    ap (λ xs. fields_text name xs (drop i hows)) (drop_more bs i b within ∙ ap (λ x. x ∷ drop (i + 1) bs) (sym is))
    ∙ ap (λ ys. fields_text name (b ∷ drop (i + 1) bs) ys) (drop_more hows i how also ∙ ap (λ y. y ∷ drop (i + 1) hows) (sym are))

one_less : (mid new line rest total before : List ℕ) → before ≡ line ++ rest → mid ++ before ≡ total → new ≡ mid ++ line → new ++ rest ≡ total
one_less mid new line rest total before is had has =
    ap (λ xs. xs ++ rest) has ∙ append_assoc mid line rest ∙ ap (λ xs. mid ++ xs) (sym is) ∙ had

pub fields_more : {X Y : Type 0} (v : X → BareBinding) (w : Y → How) (name : Bytes) (mid new total : List ℕ) (xs : List X) (ys : List Y) (i : ℕ)
    (x : X) (y : Y) → i < length xs → i < length ys → x ≡ get_or xs i x → y ≡ get_or ys i y
    → mid ++ fields_text name (drop i (map v xs)) (drop i (map w ys)) ≡ total
    → new ≡ mid ++ field_line name (v x).name (w y)
    → new ++ fields_text name (drop (i + 1) (map v xs)) (drop (i + 1) (map w ys)) ≡ total
fields_more v w name mid new total xs ys i x y within also is are had has =
    let at : get_or (map v xs) i (v x) ≡ v x = get_or-map v xs i x (v x) within ∙ ap v (sym is) in
    let at_too : get_or (map w ys) i (w y) ≡ w y = get_or-map w ys i y (w y) also ∙ ap w (sym are) in
    one_less mid new (field_line name (v x).name (w y)) _ total _
    (unroll name (map v xs) (map w ys) i (v x) (w y) (omega (arith, length-map xs v)) (omega (arith, length-map ys w)) (sym at) (sym at_too))
    had has

none_left : (name : Bytes) (bs : List BareBinding) → fields_text name bs [] ≡ []
none_left name [] = refl
none_left name (b ∷ bs) = refl

-- where the fields or the changes are at their end
pub fields_all : {X Y : Type 0} (v : X → BareBinding) (w : Y → How) (name : Bytes) (new total : List ℕ) (xs : List X) (ys : List Y) (i : ℕ)
    → (length xs ≤ i) ⊎ (length ys ≤ i)
    → new ++ fields_text name (drop i (map v xs)) (drop i (map w ys)) ≡ total → new ≡ total
fields_all v w name new total xs ys i (inl all) had =
    sym (append-nil new)
    ∙ ap (λ bs. new ++ fields_text name bs (drop i (map w ys))) (sym (drop_all i (map v xs) (omega (arith, length-map xs v)))) ∙ had
fields_all v w name new total xs ys i (inr all) had =
    sym (append-nil new) ∙ ap (λ bytes. new ++ bytes) (sym (none_left name (drop i (map v xs))))
    ∙ ap (λ hows. new ++ fields_text name (drop i (map v xs)) hows) (sym (drop_all i (map w ys) (omega (arith, length-map ys w)))) ∙ had
