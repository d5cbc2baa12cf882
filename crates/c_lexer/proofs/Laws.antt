-- One text has one cut, and the function of specs/Compute.antt finds it.
use Rattle.std.proofs.Common.{◌≡◌, ℕ, zero, suc, ◌+◌, ◌<◌, Bool, List, [], ◌∷◌, length, take, drop, Option, Some, None, Result, sym, refl, ap, ◌∙◌, subst, ⊎_elim, arith, length-drop}
use Rattle.std.proofs.str.Laws.{order}
use Rattle.c_lexer.specs.declared.token.Token.{Token}
use Rattle.c_lexer.specs.declared.token.LexFault.{LexFault}
use Rattle.c_lexer.specs.declared.unit.Reading.{Reading}
use Rattle.c_lexer.specs.declared.unit.Reading.TheVariants.{Space, Lexeme, Bad}
use Rattle.c_lexer.specs.Bytes.{starts_line}
use Rattle.c_lexer.specs.Units.{reading}
use Rattle.c_lexer.specs.Cut.{IsUnit, UnitAt, Cut, finish, space, lexeme, bad, token, fault_at, answer, Lexes}

-- a unit has a byte at least
pub unit_not_empty : (starts : Bool) {rest : List ℕ} {n : ℕ} {r : Reading} → IsUnit (reading starts) rest n r → 0 < n
unfolding reading
unit_not_empty starts {n = zero} u = let h : None ≡ Some _ = u.is in cc
unit_not_empty starts {n = suc n} u = omega arith

-- a longer prefix is no unit
not_longer : {read : List ℕ → Option Reading} {rest : List ℕ} {n m : ℕ} {r s : Reading} → IsUnit read rest n r → IsUnit read rest m s → n < m → ⊥
not_longer u v less = let h = sym (u.longest _ less v.within) ∙ v.is in cc

-- one unit is at a place
pub unit_length : {read : List ℕ → Option Reading} {rest : List ℕ} {n m : ℕ} {r s : Reading} → IsUnit read rest n r → IsUnit read rest m s → n ≡ m
unit_length {n = n} {m = m} u v =
    ⊎_elim (λ below. absurd (not_longer u v below)) (λ other. ⊎_elim (λ above. absurd (not_longer v u above)) (λ upto. omega arith) (order m n)) (order n m)

pub unit_reading : {read : List ℕ → Option Reading} {rest : List ℕ} {n : ℕ} {r s : Reading} → IsUnit read rest n r → IsUnit read rest n s → r ≡ s
unit_reading u v = let h = sym u.is ∙ v.is in cc

-- what a unit at a place leaves of a cut from there
Past : List ℕ → ℕ → ℕ → List Token → Option LexFault → Reading → Type 0
Past text at n tokens fault Space = Cut text (at + n) tokens fault
Past text at n tokens fault (Lexeme kind) = (rest : List Token) × Cut text (at + n) rest fault × (tokens ≡ token kind at (take n (drop at text)) ∷ rest)
Past text at n tokens fault (Bad why) = (tokens ≡ []) × (fault ≡ Some (fault_at at why))

-- no unit is at the end
nothing_at_end : (text : List ℕ) (at : ℕ) {n : ℕ} {r : Reading} → UnitAt text at n r → at ≡ length text → ⊥
nothing_at_end text at u e = let some = unit_not_empty (starts_line text at) u in omega (arith, u.within, length-drop at text)

past_same : (text : List ℕ) (at : ℕ) (tokens : List Token) (fault : Option LexFault) {n m : ℕ} {r s : Reading}
    → UnitAt text at n r → UnitAt text at m s → Past text at m tokens fault s → Past text at n tokens fault r
past_same text at tokens fault {n = n} {m = m} {r = r} {s = s} u v past =
    let same : m ≡ n = unit_length v u in
    let w : UnitAt text at n s = subst (λ k. UnitAt text at k s) same v in
    let kind : s ≡ r = unit_reading w u in
    subst (λ q. Past text at n tokens fault q) kind (subst (λ k. Past text at k tokens fault s) same past)

past : (text : List ℕ) {at : ℕ} {n : ℕ} {r : Reading} {tokens : List Token} {fault : Option LexFault} → UnitAt text at n r → Cut text at tokens fault → Past text at n tokens fault r
unfolding Past
past text u (finish e) = absurd (nothing_at_end text _ u e)
past text u (space n v rest) = past_same text _ _ _ u v rest
past text u (lexeme n kind v rest) = past_same text _ _ _ u v (_, rest, refl)
past text u (bad n why v) = past_same text _ _ _ u v (refl, refl)

at_end : (text : List ℕ) {at : ℕ} {tokens : List Token} {fault : Option LexFault} → at ≡ length text → Cut text at tokens fault → (tokens ≡ []) × (fault ≡ None)
at_end text e (finish f) = (refl, refl)
at_end text e (space n v rest) = absurd (nothing_at_end text _ v e)
at_end text e (lexeme n kind v rest) = absurd (nothing_at_end text _ v e)
at_end text e (bad n why v) = absurd (nothing_at_end text _ v e)

-- one text has one cut
pub cut_once : (text : List ℕ) {at : ℕ} {tokens others : List Token} {fault other : Option LexFault} → Cut text at tokens fault → Cut text at others other
    → (tokens ≡ others) × (fault ≡ other)
unfolding Past
cut_once text (finish e) cut = let h = at_end text e cut in (sym h.0, sym h.1)
cut_once text (space n u rest) cut = cut_once text rest (past text u cut)
cut_once text {at = at} (lexeme n kind u rest) cut =
    let h = past text u cut in
    let same = cut_once text rest h.1 in
    (ap (λ later. token kind at (take n (drop at text)) ∷ later) same.0 ∙ sym h.2, same.1)
cut_once text (bad n why u) cut = let h = past text u cut in (sym h.0, sym h.1)

-- one text has one answer
pub lexes_once : (text : List ℕ) {result other : Result (List Token) LexFault} → Lexes text result → Lexes text other → result ≡ other
lexes_once text (tokens, fault, cut, is) (others, fault', cut', is') =
    let same = cut_once text cut cut' in is ∙ ap (λ ts. answer ts fault) same.0 ∙ ap (λ f. answer others f) same.1 ∙ sym is'
