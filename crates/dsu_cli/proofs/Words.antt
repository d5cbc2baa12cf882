-- What `clap` sees in the words of options.
use Rattle.std.proofs.Common.{◌≡◌, ◌∙◌, ◌&&◌, ◌+◌, ℕ, suc, Bool, true, false, List, [], ◌∷◌, Option, Some, None, length, take, drop, refl, sym, ap, ap₂, cond, arith, inl, inr}
use Rattle.std.specs.Prelude.{◌==◌, nat_lt}
use Rattle.std.specs.List.{list_any, position_or_len}
use Rattle.std.specs.Option.{option_map}
use Rattle.std.proofs.lemmas.Bool.{cases_Bool, cases_lt, eqb-true, lt-ltb, le-ltb, ltb-false, and_parts}
use Rattle.std.proofs.lemmas.Option.{cond_some, none-some, some_pair_parts}
use Rattle.std.proofs.lemmas.List.{take_all}
use Rattle.clap.specs.Lexer.{long_of}
use Rattle.dsu_cli.specs.Words.{Text, behind_dashes, name_and_value}

pub behind_dashes_is : (word text : Text) → behind_dashes word ≡ Some text → word ≡ 45 ∷ 45 ∷ text
behind_dashes_is [] text e = absurd (none-some text e)
behind_dashes_is (a ∷ []) text e = absurd (none-some text e)
behind_dashes_is (a ∷ b ∷ rest) text e =
    let parts = cond_some (a == 45 && b == 45) rest text e in
    let both = and_parts _ _ parts.0 in
    let first : a ≡ 45 = eqb-true a 45 both.0 in
    let second : b ≡ 45 = eqb-true b 45 both.1 in
    rw (first, second, parts.1) refl

lt_more : (a b : ℕ) → nat_lt a b ≡ nat_lt (suc a) (suc b)
lt_more a b = elim (cases_lt a b) [
  | inl lt ↦ lt-ltb a b lt ∙ sym (lt-ltb (suc a) (suc b) (omega arith))
  | inr le ↦ le-ltb a b le ∙ sym (le-ltb (suc a) (suc b) (omega arith))
]

any_position : (p : ℕ → Bool) (xs : List ℕ) → list_any p xs ≡ nat_lt (position_or_len p xs) (length xs)
any_position p [] = refl
any_position p (x ∷ xs) = elim (cases_Bool (p x)) [
  | inl is ↦ rw is (sym (lt-ltb 0 (suc (length xs)) (omega arith)))
  | inr isnt ↦
      let next : 1 + position_or_len p xs ≡ suc (position_or_len p xs) = omega arith in
      rw (isnt, any_position p xs) (lt_more _ _ ∙ ap (λ n. nat_lt n (suc (length xs))) (sym next))
]

abbrev is_equals : ℕ → Bool
is_equals c = c == 61

abbrev cut : Text → ℕ → Text × Text
cut text at = (take at text, drop (at + 1) text)

pair_from : (b : Bool) (q : ℕ) (text name v : Text) → option_map (cut text) (cond b (Some q) None) ≡ Some (name, v)
    → (b ≡ true) × (take q text ≡ name) × (drop (q + 1) text ≡ v)
pair_from true q text name v e =
    let parts = some_pair_parts (take q text) name (drop (q + 1) text) v e in
    (refl, parts.0, parts.1)
pair_from false q text name v e = absurd (none-some (name, v) e)

whole_from : (b : Bool) (q : ℕ) (text : Text) → option_map (cut text) (cond b (Some q) None) ≡ None → b ≡ false
whole_from true q text e = absurd (none-some (cut text q) (sym e))
whole_from false q text e = refl

pub long_pair : (text name v : Text) → name_and_value text ≡ Some (name, v) → long_of (45 ∷ 45 ∷ text) ≡ Some (name, Some v)
long_pair [] name v e = absurd (none-some (name, v) e)
long_pair (x ∷ xs) name v e =
    let parts = pair_from _ (position_or_len is_equals (x ∷ xs)) (x ∷ xs) name v e in
    ap₂ (λ (a : Text) (b : Option Text). Some (a, b)) parts.1
    (ap (λ b. cond b (Some (drop (position_or_len is_equals (x ∷ xs) + 1) (x ∷ xs))) None) (any_position is_equals (x ∷ xs) ∙ parts.0) ∙ ap Some parts.2)

pub long_whole : (c : ℕ) (cs : Text) → name_and_value (c ∷ cs) ≡ None → long_of (45 ∷ 45 ∷ c ∷ cs) ≡ Some (c ∷ cs, None)
long_whole c cs e =
    let none = whole_from _ (position_or_len is_equals (c ∷ cs)) (c ∷ cs) e in
    ap₂ (λ (a : Text) (b : Option Text). Some (a, b)) (take_all _ (c ∷ cs) (ltb-false _ _ none))
    (ap (λ b. cond b (Some (drop (position_or_len is_equals (c ∷ cs) + 1) (c ∷ cs))) None) (any_position is_equals (c ∷ cs) ∙ none))
