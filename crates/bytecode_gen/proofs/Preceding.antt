-- Code that is put in front of a tail in parts.
use Rattle.std.proofs.Common.{◌≡◌, ◌<◌, ◌≤◌, ℕ, ◌+◌, ◌-◌, List, [], ◌∷◌, ◌++◌, map, drop, reverse, length, slice_set, refl, sym, ap, ◌∙◌, arith, append_assoc, length-append}
use Rattle.std.proofs.lemmas.List.{map-append, map-set, length-map, reverse-append, reverse-reverse, length-reverse}
use Rattle.std.proofs.Math.Seq.{set-append_seam}
use Rattle.resolved_tree.specs.Nodes.{Table}
use Rattle.bytecode.specs.declared.instr.Instr.{Instr}
use Rattle.bytecode.specs.Instructions.{Instruction}
use Rattle.bytecode.specs.Seen.{instruction_of, code_of}
use Rattle.tree_code.specs.Code.{Code}
use Rattle.expr_gen.specs.Scope.{Adds}
use Rattle.bytecode_gen.specs.declared.part.Jumps.{Jumps}
use Rattle.bytecode_gen.specs.Tails.{Precedes, AreInside, tail_of}

-- equal code; nothing; more in front of some
pub precedes_as : {t : Table} {x y : List Instr} {a b : Code} → a ≡ b → Precedes t x y a → Precedes t x y b
precedes_as {t} {x} {y} {a} {b} e h = record { code = h.code ∙ ap (λ c. c ++ tail_of t x) e }

pub precedes_nothing : (t : Table) (x : List Instr) → Precedes t x x []
precedes_nothing t x = record { code = refl }

pub precedes_more : {t : Table} {x y z : List Instr} {a b : Code} → Precedes t x y b → Precedes t y z a → Precedes t x z (a ++ b)
precedes_more {t} {x} {y} {z} {a} {b} h k =
    record { code = k.code ∙ ap (λ c. a ++ c) h.code ∙ sym (append_assoc a b (tail_of t x)) }

-- how long a tail is then, how far a place behind is from it, and that the targets of jumps are still in it
pub tail_length : (t : Table) (x : List Instr) → length (tail_of t x) ≡ length x
tail_length t x = length-map (reverse x) (instruction_of t) ∙ length-reverse x

pub precedes_length : {t : Table} {x y : List Instr} {a : Code} → Precedes t x y a → length y ≡ length a + length x
precedes_length {t} {x} {y} {a} h =
    sym (tail_length t y) ∙ ap length h.code ∙ length-append a (tail_of t x) ∙ ap (λ n. length a + n) (tail_length t x)

pub longer : {t : Table} {x y : List Instr} {a : Code} → Precedes t x y a → length x ≤ length y
longer h = let l = precedes_length h in omega arith

pub longer_by_one : {t : Table} {x y : List Instr} {i : Instruction} → Precedes t x y (i ∷ []) → length x < length y
longer_by_one h = let l = precedes_length h in omega arith

pub further : {t : Table} {x y : List Instr} {a : Code} (to : ℕ) → to ≤ length x → Precedes t x y a → length y - to ≡ length a + (length x - to)
further to inside h = let l = precedes_length h in omega arith

pub still_inside : {t : Table} {jumps : Jumps} {x y : List Instr} {a : Code} → AreInside jumps x → Precedes t x y a → AreInside jumps y
still_inside inside h =
    let l = precedes_length h in
    let b = inside.broken in
    let c = inside.continued in
    record { broken = omega arith; continued = omega arith }

pub inside_loop : {t : Table} {jumps : Jumps} {x y z : List Instr} {a b : Code} → Precedes t x y a → Precedes t y z b
    → jumps.broken ≡ length x → jumps.continued ≡ length z → AreInside jumps z
inside_loop h k broken continued =
    let l = precedes_length h in
    let m = precedes_length k in
    record { broken = omega arith; continued = omega arith }

-- a list that was put there from its end
pub precedes_list : (t : Table) (x y made : List Instr) (left : ℕ) → left ≤ 0 → reverse y ≡ drop left made ++ reverse x
    → Precedes t x y (code_of t made)
precedes_list t x y made left none e =
    let zero : left ≡ 0 = omega arith in
    record { code = ap (code_of t) (e ∙ ap (λ n. drop n made ++ reverse x) zero) ∙ map-append (instruction_of t) made (reverse x) }

-- code that was made in a list of its own
pub precedes_made : {t : Table} {x y made first code : List Instr} {a b : Code} → made ≡ code → first ≡ [] → Adds t first code a → a ≡ b
    → Precedes t x y (code_of t made) → Precedes t x y b
precedes_made {t} {x} {y} {made} {first} {code} {a} {b} is empty added same h =
    let same_code : code_of t made ≡ b =
    ap (code_of t) is ∙ added.code ∙ ap (λ xs. code_of t xs ++ a) empty ∙ same in
    precedes_as same_code h

map_reversed : {A B : Type 0} (f : A → B) (xs : List A) → map f (reverse xs) ≡ reverse (map f xs)
map_reversed f [] = refl
map_reversed f (x ∷ xs) =
    ap (map f) (reverse-append (x ∷ []) xs) ∙ map-append f (reverse xs) (x ∷ [])
    ∙ ap (λ ys. ys ++ f x ∷ []) (map_reversed f xs) ∙ sym (reverse-append (f x ∷ []) (map f xs))

-- an element in the middle of a list that is kept from its end
set_middle : {A : Type 0} (items before after : List A) (old new : A) → reverse items ≡ before ++ old ∷ after
    → reverse (slice_set items (length after) new) ≡ before ++ new ∷ after
set_middle items before after old new e =
    let whole : items ≡ reverse after ++ old ∷ reverse before =
    sym (reverse-reverse items) ∙ ap reverse e ∙ reverse-append before (old ∷ after)
    ∙ ap (λ xs. xs ++ reverse before) (reverse-append (old ∷ []) after) ∙ append_assoc (reverse after) (old ∷ []) (reverse before) in
    ap (λ n. reverse (slice_set items n new)) (sym (length-reverse after))
    ∙ ap (λ xs. reverse (slice_set xs (length (reverse after)) new)) whole
    ∙ ap reverse (set-append_seam (reverse after) old (reverse before) new)
    ∙ reverse-append (reverse after) (new ∷ reverse before)
    ∙ ap (λ xs. xs ++ reverse (reverse after)) (reverse-append (new ∷ []) (reverse before))
    ∙ ap (λ xs. (xs ++ new ∷ []) ++ reverse (reverse after)) (reverse-reverse before)
    ∙ append_assoc before (new ∷ []) (reverse (reverse after)) ∙ ap (λ xs. before ++ new ∷ xs) (reverse-reverse after)

-- the instruction of a back edge, set once the beginning of its loop is there
pub led_back : (t : Table) (inside rest : Code) (i : Instruction) (items : List Instr) (after : ℕ) (j : Instr)
    → tail_of t items ≡ inside ++ i ∷ rest → length rest ≡ after
    → tail_of t (slice_set items after j) ≡ inside ++ instruction_of t j ∷ rest
led_back t inside rest i items after j there long =
    let f = instruction_of t in
    map_reversed f (slice_set items after j) ∙ ap reverse (map-set f items after j)
    ∙ ap (λ n. reverse (slice_set (map f items) n (f j))) (sym long)
    ∙ set_middle (map f items) inside rest i (f j) (sym (map_reversed f items) ∙ there)

-- and how far back it leads
pub back_length : (t : Table) (inside rest : Code) (i : Instruction) (items : List Instr) (after over : ℕ)
    → tail_of t items ≡ inside ++ i ∷ rest → length rest ≡ after → over ≡ length items - (after + 1) → over ≡ length inside
back_length t inside rest i items after over there long far =
    let h = ap length there in
    let a = length-append inside (i ∷ rest) in
    let b = tail_length t items in
    omega arith
