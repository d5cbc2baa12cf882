-- The function of specs/Compute.antt finds the cut, so each text has one.
use Rattle.std.proofs.Common.{◌≡◌, ℕ, zero, suc, ◌+◌, ◌-◌, ◌<◌, ◌≤◌, Bool, true, false, cond, List, [], ◌∷◌, length, take, drop, Option, Some, None, sym, refl, ◌∙◌, subst, ⊎_elim, arith, length-drop}
use Rattle.std.proofs.str.Laws.{order}
use Rattle.c_lexer.specs.declared.unit.Reading.{Reading}
use Rattle.c_lexer.specs.declared.unit.Reading.TheVariants.{Space, Lexeme, Bad}
use Rattle.c_lexer.specs.Bytes.{starts_line}
use Rattle.c_lexer.specs.Units.{reading, when, consists_of}
use Rattle.c_lexer.specs.Cut.{IsUnit, UnitAt, Cut, finish, space, lexeme, bad, Lexes}
use Rattle.c_lexer.proofs.Laws.{unit_not_empty}
use Rattle.c_lexer.proofs.Spelling.{nothing_consists}
use Rattle.c_lexer.specs.Compute.{longest_unit, tokens_from, lexed}

-- a spelling is read
record IsRead (q : Option Reading) : Type 0 where
  reading : Reading
  is : q ≡ Some reading

read_some : (r : Reading) → IsRead (Some r)
read_some r = record { reading = r; is = refl }

either_read : (test : Bool) (p q : Option Reading) → IsRead p → IsRead q → IsRead (cond test p q)
either_read true p q h k = h
either_read false p q h k = k

read_alone : (test : ℕ → Bool) (r : Reading) → IsRead (when (consists_of test []) r)
read_alone test r = rw (nothing_consists test) (read_some r)

-- each single byte is a unit
byte_read : (starts : Bool) (b : ℕ) → IsRead (reading starts (b ∷ []))
unfolding reading
byte_read starts b = search (read_some, read_alone, either_read) depth 24

some_unit : (starts : Bool) (rest : List ℕ) → 0 < length rest → ((m : ℕ) → 0 < m → m ≤ length rest → reading starts (take m rest) ≡ None) → ⊥
some_unit starts [] some none = omega arith
some_unit starts (b ∷ bs) some none =
    let read = byte_read starts b in
    let h : None ≡ Some read.reading = sym (none 1 (omega arith) (omega arith)) ∙ read.is in cc

-- the longest unit is found where none is longer than the lengths that are tried
found : (starts : Bool) (rest : List ℕ) (n : ℕ) → 0 < length rest → n ≤ length rest → ((m : ℕ) → n < m → m ≤ length rest → reading starts (take m rest) ≡ None)
    → (u : ℕ × Reading) × (longest_unit (reading starts) rest n ≡ Some u) × IsUnit (reading starts) rest u.0 u.1
found starts rest zero some within none = absurd (some_unit starts rest some none)
found starts rest (suc n) some within none =
    (elim (reading starts (take (suc n) rest)) as (λ q. reading starts (take (suc n) rest) ≡ q → (u : ℕ × Reading) × (longest_unit (reading starts) rest (suc n) ≡ Some u) × IsUnit (reading starts) rest u.0 u.1) [
      | Some r ↦ λ e. ((suc n, r), rw (e, longest_unit) refl, record { within = within; is = e; longest = none })
      | None ↦ λ e.
          let all : (m : ℕ) → n < m → m ≤ length rest → reading starts (take m rest) ≡ None
          = λ m more least. ⊎_elim (λ above. none m above least) (λ upto. subst (λ k. reading starts (take k rest) ≡ None) (let same : suc n ≡ m = omega arith in same) e) (order (suc n) m) in
          let h = found starts rest n some (omega arith) all in
          (h.0, rw (e, longest_unit) h.1, h.2)
    ]) refl

-- the cut from a place on, where a unit is found there
after_unit : (units : ℕ) (text : List ℕ) (at n : ℕ) (r : Reading) → longest_unit (reading (starts_line text at)) (drop at text) (length text - at) ≡ Some (n, r) → UnitAt text at n r
    → Cut text (at + n) (tokens_from units text (at + n)).0 (tokens_from units text (at + n)).1 → Cut text at (tokens_from (suc units) text at).0 (tokens_from (suc units) text at).1
after_unit units text at n Space e u cut = rw (e, tokens_from) (space n u cut)
after_unit units text at n (Lexeme kind) e u cut = rw (e, tokens_from) (lexeme n kind u cut)
after_unit units text at n (Bad why) e u cut = rw (e, tokens_from) (bad n why u)

-- the cut from a place on is found
pub cut_found : (units : ℕ) (text : List ℕ) (at : ℕ) → at ≤ length text → length text ≤ at + units
    → Cut text at (tokens_from units text at).0 (tokens_from units text at).1
cut_found zero text at within enough = finish (omega arith)
cut_found (suc units) text at within enough =
    ⊎_elim
    (λ before.
    let h = found (starts_line text at) (drop at text) (length text - at) (omega (arith, length-drop at text)) (omega (arith, length-drop at text))
    (λ m more least. absurd (omega (arith, length-drop at text))) in
    let some = unit_not_empty (starts_line text at) h.2 in
    let least = h.2.within in
    after_unit units text at h.0.0 h.0.1 h.1 h.2 (cut_found units text (at + h.0.0) (omega (arith, length-drop at text)) (omega (arith, length-drop at text))))
    (λ past.
    let e : at ≡ length text = omega arith in
    let none : length text - at ≡ 0 = omega arith in
    rw (none, tokens_from) (finish e))
    (order at (length text))

-- each text has its answer, which the function computes
pub lexed_is : (text : List ℕ) → Lexes text (lexed text)
lexed_is text = (_, _, cut_found (length text) text 0 (omega arith) (omega arith), refl)
