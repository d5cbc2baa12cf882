-- Words are read one character at a time.
use Rattle.std.proofs.Common.{◌≡◌, ℕ, ◌+◌, ◌-◌, ◌<◌, ◌≤◌, Bool, true, false, List, [], ◌∷◌, ◌++◌, length, take, drop, Option, Some, None, sym, refl, ap, ◌∙◌, subst, arith, append_assoc, length-append, length-drop, length-take-le, take-append-drop}
use Rattle.std.specs.List.{list_all}
use Rattle.std.specs.Str.{is_utf8, chars}
use Rattle.std.proofs.Math.Seq.{take-append-add}
use Rattle.std.proofs.lemmas.Str.{chars-encodes, IsUtf8-from_is_utf8, is_utf8-from_IsUtf8, encode_same, length-encode, len_utf8_bounds, encodes-chars, scalars-chars}
use lib.Utf8.{scalar, scalars, encode, encodes}
use Rattle.bstr.specs.Utf8.{decoded}
use Rattle.bstr.proofs.lemmas.SoundLemmas.{SpellsChar, SpellsChar-decoded}
use Rattle.bstr.proofs.lemmas.EncodeLemmas.{decoded-encode}
use Rattle.c_lexer.specs.Bytes.{starts_word, continues_word}
use Rattle.c_lexer.specs.Units.{consists_of, is_word, is_name}
use Rattle.c_lexer.specs.Prefixes.{IsLongest, NonePasses, NoMorePasses, Passes}
use Rattle.c_lexer.proofs.LongestOfThree.{both_true}

-- the characters that a text spells
record Spells (s cs : List ℕ) : Type 0 where
  scalar : scalars cs ≡ true
  spelled : encodes cs ≡ s

-- UTF-8 spells its characters
spells_chars : (s : List ℕ) → is_utf8 s ≡ true → Spells s (chars s)
spells_chars s u = let w = IsUtf8-from_is_utf8 s u in record { scalar = scalars-chars s w; spelled = encodes-chars s w }

-- and what spells characters is UTF-8, and has no others
spelled_utf8 : (s cs : List ℕ) → Spells s cs → is_utf8 s ≡ true
spelled_utf8 s cs spells = is_utf8-from_IsUtf8 s (cs, (spells.scalar, spells.spelled))

spelled_chars : (s cs : List ℕ) → Spells s cs → chars s ≡ cs
spelled_chars s cs spells = subst (λ t. chars t ≡ cs) spells.spelled (chars-encodes cs spells.scalar)

-- the characters of a text that consists of some
consists_chars : (test : ℕ → Bool) (s : List ℕ) → consists_of test s ≡ true → Spells s (chars s) × (list_all test (chars s) ≡ true)
unfolding consists_of
consists_chars test s h = let k = both_true (is_utf8 s) (list_all test (chars s)) h in (spells_chars s k.0, k.1)

consists : (test : ℕ → Bool) (s cs : List ℕ) → Spells s cs → list_all test cs ≡ true → consists_of test s ≡ true
unfolding consists_of
consists test s cs spells all = let u = spelled_utf8 s cs spells in let e = spelled_chars s cs spells in rw (u, e, all) refl

-- one character more in front
spells_more : (c : ℕ) (s cs : List ℕ) → scalar c ≡ true → Spells s cs → Spells (encode c ++ s) (c ∷ cs)
spells_more c s cs one spells = record { scalar = rw (one, spells.scalar) refl; spelled = ap (λ t. encode c ++ t) spells.spelled }

encode_some : (c : ℕ) → 0 < length (encode c)
encode_some c = omega (arith, length-encode c, (len_utf8_bounds c).0)

-- what spells a character and more spells no list without a first character
spells_first : (c : ℕ) (s cs : List ℕ) → Spells (encode c ++ s) cs → (ds : List ℕ) × (cs ≡ c ∷ ds) × Spells s ds
spells_first c s [] spells = let e = ap length spells.spelled in absurd (omega (arith, length-append (encode c) s, encode_some c))
spells_first c s (d ∷ ds) spells =
    let both = encode_same d c (encodes ds) s spells.spelled in
    let scalar = both_true (scalar d) (scalars ds) spells.scalar in
    (ds, ap (λ x. x ∷ ds) both.0, record { scalar = scalar.1; spelled = both.1 })

pub bool_same : (a b : Bool) → (a ≡ true → b ≡ true) → (b ≡ true → a ≡ true) → a ≡ b
bool_same true b f g = sym (f refl)
bool_same false true f g = g refl
bool_same false false f g = refl

-- a character that passes is read off the prefix
consists_more : (test : ℕ → Bool) (c : ℕ) (s : List ℕ) → scalar c ≡ true → test c ≡ true → consists_of test (encode c ++ s) ≡ consists_of test s
consists_more test c s one passes = bool_same (consists_of test (encode c ++ s)) (consists_of test s)
    (λ h.
    let k = consists_chars test (encode c ++ s) h in
    let first = spells_first c s (chars (encode c ++ s)) k.0 in
    let all : list_all test (c ∷ first.0) ≡ true = subst (λ l. list_all test l ≡ true) first.1 k.1 in
    consists test s first.0 first.2 (both_true (test c) (list_all test first.0) all).1)
    (λ h.
    let k = consists_chars test s h in
    consists test (encode c ++ s) (c ∷ chars s) (spells_more c s (chars s) one k.0) (rw (passes, k.1) refl))

-- the prefix of a text that begins with a character
take_past : (bs : List ℕ) (c n m : ℕ) → SpellsChar bs c n → take (n + m) bs ≡ encode c ++ take m (drop n bs)
take_past bs c n m first =
    ap (take (n + m)) first.bytes
    ∙ subst (λ k. take (k + m) (encode c ++ drop n bs) ≡ encode c ++ take m (drop n bs)) first.width (take-append-add (encode c) (drop n bs) m)

pub size_within : (bs : List ℕ) (c n : ℕ) → SpellsChar bs c n → n ≤ length bs
size_within bs c n first = omega (arith, ap length first.bytes, length-append (encode c) (drop n bs), first.width)

pub next_passes : (test : ℕ → Bool) (bs : List ℕ) (c n : ℕ) → SpellsChar bs c n → test c ≡ true → Passes (consists_of test) bs n
next_passes test bs c n first passes = record {
  within = size_within bs c n first;
  beyond = λ m. ap (consists_of test) (take_past bs c n m first) ∙ consists_more test c (take m (drop n bs)) first.scalar passes;
}

pub next_some : (bs : List ℕ) (c n : ℕ) → SpellsChar bs c n → 0 < n
next_some bs c n first = omega (arith, first.width, encode_some c)

-- a prefix that spells characters begins with the one that is decoded
front_decodes : (bs : List ℕ) (m d : ℕ) (ds : List ℕ) → Spells (take m bs) (d ∷ ds) → (decoded bs).char ≡ Some d
front_decodes bs m d ds spells =
    let whole : bs ≡ encode d ++ (encodes ds ++ drop m bs) =
    sym (take-append-drop m bs) ∙ ap (λ t. t ++ drop m bs) (sym spells.spelled) ∙ append_assoc (encode d) (encodes ds) (drop m bs) in
    let one = (both_true (scalar d) (scalars ds) spells.scalar).0 in
    ap (λ l. (decoded l).char) whole ∙ ap (λ p. p.char) (decoded-encode d (encodes ds ++ drop m bs) one)

-- a prefix that isn't empty spells a character
spells_some : (bs : List ℕ) (m : ℕ) (cs : List ℕ) → 0 < m → m ≤ length bs → Spells (take m bs) cs → (d : ℕ) × (ds : List ℕ) × (cs ≡ d ∷ ds)
spells_some bs m [] some least spells = let e = ap length spells.spelled in absurd (omega (arith, length-take-le m bs least))
spells_some bs m (d ∷ ds) some least spells = (d, ds, refl)

pub next_stops : (test : ℕ → Bool) (bs : List ℕ) → ((d : ℕ) → (decoded bs).char ≡ Some d → test d ≡ false) → NoMorePasses (consists_of test) bs
next_stops test bs none m some least = (elim (consists_of test (take m bs)) as (λ v. consists_of test (take m bs) ≡ v → consists_of test (take m bs) ≡ false) [
  | false ↦ λ e. e
  | true ↦ λ e.
      let k = consists_chars test (take m bs) e in
      let first = spells_some bs m (chars (take m bs)) some least k.0 in
      let spells = subst (λ cs. Spells (take m bs) cs) first.2 k.0 in
      let all : list_all test (first.0 ∷ first.1) ≡ true = subst (λ cs. list_all test cs ≡ true) first.2 k.1 in
      let fails = none first.0 (front_decodes bs m first.0 first.1 spells) in
      let passes = (both_true (test first.0) (list_all test first.1) all).0 in
      let h : false ≡ true = sym fails ∙ passes in cc
]) refl

-- a name's characters
name_chars : (s : List ℕ) → is_name s ≡ true → (d : ℕ) × (ds : List ℕ) × Spells s (d ∷ ds) × (starts_word d ≡ true) × (list_all continues_word ds ≡ true)
unfolding is_name
name_chars s h = by_chars (chars s) refl
  where
    k : (is_utf8 s ≡ true) × (is_word (chars s) ≡ true)
    k = both_true (is_utf8 s) (is_word (chars s)) h

    by_chars : (cs : List ℕ) → chars s ≡ cs → (d : ℕ) × (ds : List ℕ) × Spells s (d ∷ ds) × (starts_word d ≡ true) × (list_all continues_word ds ≡ true)
    by_chars [] e = let none : false ≡ true = sym (ap is_word e) ∙ k.1 in cc
    by_chars (d ∷ ds) e =
        let word : is_word (d ∷ ds) ≡ true = subst (λ cs. is_word cs ≡ true) e k.1 in
        let parts = both_true (starts_word d) (list_all continues_word ds) word in
        (d, ds, subst (λ cs. Spells s cs) e (spells_chars s k.0), parts.0, parts.1)

name_spelled : (s : List ℕ) (d : ℕ) (ds : List ℕ) → Spells s (d ∷ ds) → starts_word d ≡ true → list_all continues_word ds ≡ true → is_name s ≡ true
unfolding is_name
name_spelled s d ds spells starts goes =
    let u = spelled_utf8 s (d ∷ ds) spells in let e = spelled_chars s (d ∷ ds) spells in rw (u, e, starts, goes) refl

-- no name begins where no character that starts one does
pub no_name : (bs : List ℕ) → ((d : ℕ) → (decoded bs).char ≡ Some d → starts_word d ≡ false) → NonePasses is_name bs
no_name bs none m least = (elim (is_name (take m bs)) as (λ v. is_name (take m bs) ≡ v → is_name (take m bs) ≡ false) [
  | false ↦ λ e. e
  | true ↦ λ e.
      let name = name_chars (take m bs) e in
      let fails = none name.0 (front_decodes bs m name.0 name.1 name.2) in
      let h : false ≡ true = sym fails ∙ name.3 in cc
]) refl

-- a character that starts a name, and what goes on with it
pub name_is : (bs : List ℕ) (c n k : ℕ) → SpellsChar bs c n → starts_word c ≡ true → IsLongest (consists_of continues_word) (drop n bs) k → IsLongest is_name bs (n + k)
name_is bs c n k first starts tail = record {
  within = omega (arith, size_within bs c n first, tail.within, length-drop n bs);
  passes =
      let goes = consists_chars continues_word (take k (drop n bs)) tail.passes in
      ap is_name (take_past bs c n k first)
      ∙ name_spelled (encode c ++ take k (drop n bs)) c (chars (take k (drop n bs))) (spells_more c (take k (drop n bs)) (chars (take k (drop n bs))) first.scalar goes.0) starts goes.1;
  longest = λ m more least.
      let split : n + (m - n) ≡ m = omega arith in
      subst (λ j. is_name (take j bs) ≡ false) split
      (ap is_name (take_past bs c n (m - n) first) ∙ longer (m - n) (tail.longest (m - n) (omega arith) (omega (arith, length-drop n bs))));
}
  where
    longer : (j : ℕ) → consists_of continues_word (take j (drop n bs)) ≡ false → is_name (encode c ++ take j (drop n bs)) ≡ false
    longer j fails = (elim (is_name (encode c ++ take j (drop n bs))) as (λ v. is_name (encode c ++ take j (drop n bs)) ≡ v → is_name (encode c ++ take j (drop n bs)) ≡ false) [
      | false ↦ λ e. e
      | true ↦ λ e.
          let name = name_chars (encode c ++ take j (drop n bs)) e in
          let rest = spells_first c (take j (drop n bs)) (name.0 ∷ name.1) name.2 in
          let same : name.1 ≡ rest.0 = let both = rest.1 in cc in
          let goes = consists continues_word (take j (drop n bs)) rest.0 rest.2 (subst (λ l. list_all continues_word l ≡ true) same name.4) in
          let h : false ≡ true = sym fails ∙ goes in cc
    ]) refl

-- the first character, as it is decoded
pub first_char : (bs : List ℕ) (first : Option ℕ) (n c : ℕ) → first ≡ (decoded bs).char → n ≡ (decoded bs).size → first ≡ Some c → SpellsChar bs c n
first_char bs first n c char size is = subst (λ k. SpellsChar bs c k) (sym size) (SpellsChar-decoded bs c (sym char ∙ is))

pub other_char : (bs : List ℕ) (first : Option ℕ) (test : ℕ → Bool) (c : ℕ) → first ≡ (decoded bs).char → first ≡ Some c → test c ≡ false
    → (d : ℕ) → (decoded bs).char ≡ Some d → test d ≡ false
other_char bs first test c char is fails d found = let same : Some c ≡ Some d = sym is ∙ char ∙ found in let e : c ≡ d = cc in subst (λ x. test x ≡ false) e fails

pub no_char : (bs : List ℕ) (first : Option ℕ) (test : ℕ → Bool) → first ≡ (decoded bs).char → first ≡ None → (d : ℕ) → (decoded bs).char ≡ Some d → test d ≡ false
no_char bs first test char is d found = let h : None ≡ Some d = sym is ∙ char ∙ found in cc

pub nothing_consists : (test : ℕ → Bool) → consists_of test [] ≡ true
unfolding consists_of is_utf8 chars
nothing_consists test = refl
