-- What the getters of the matches give.
use Rattle.std.proofs.Common.{◌≡◌, ◌∙◌, ◌<◌, ℕ, Bool, true, false, true≢false, ◌&&◌, lt-ltb, List, [], ◌∷◌, Option, Some, None, Bor, length, get_or, map, refl, sym, ap, arith}
use Rattle.std.specs.Prelude.{nat_lt, slice_get, unwrap_or, is_some, IsSome}
use Rattle.std.specs.List.{list_all}
use Rattle.std.proofs.lemmas.Bool.{and_parts, both_ways, true_from_ne_false}
use Rattle.std.proofs.lemmas.List.Folds.{list_all_at}
use Rattle.std.proofs.lemmas.Option.{none-some, same_Some}
use Rattle.std.specs.Option.{option_and_then, option_map, option_map_or}
use Rattle.clap.specs.Matches.{matched_of, raw_values}
use Rattle.clap.specs.Words.{Row, first_value, found_of}
use Rattle.clap.specs.declared.parser.matches.ArgMatches.{ArgMatches}
use Rattle.clap.proofs.WalkLemmas.{first_value-rows, raw_values-rows}
use Rattle.dsu_cli.specs.Words.{Text, file_and_lines, is_number, is_offer}
use Rattle.dsu_cli.specs.Sorted.{given}

first_row : (o : Option Row) → option_and_then (λ r. slice_get r.values 0) o ≡ slice_get (unwrap_or (option_map (λ (r : Row). r.values) o) []) 0
first_row None = refl
first_row (Some r) = refl

-- `get_str`
pub first_given : (m : ArgMatches) (id : Text) → first_value (found_of m) id ≡ slice_get (given id m) 0
first_given m id = first_value-rows (found_of m) id ∙ first_row _

abbrev pub nows : Bor (List (Bor Text)) → List Text
nows s = map (λ v. v.now) s.now

-- `get_raw`
pub raw_given : (m : ArgMatches) (id : Text) (r : Option (Bor (List (Bor Text)))) → option_map nows r ≡ option_map raw_values (matched_of (found_of m) id)
    → unwrap_or (option_map nows r) [] ≡ given id m
raw_given m id r e = ap (λ o. unwrap_or o []) (e ∙ raw_values-rows (found_of m) id)

pub some_given : (xs : List Text) → is_some (slice_get xs 0) ≡ nat_lt 0 (length xs)
some_given [] = refl
some_given (x ∷ xs) = sym (lt-ltb 0 (length (x ∷ xs)) (omega arith))

pub same_some : {X Y : Type 0} (f : X → Y) (o : Option X) → is_some o ≡ is_some (option_map f o)
same_some f None = refl
same_some f (Some x) = refl

pub is_there : {X : Type 0} (o : Option X) → (o ≡ None → ⊥) → IsSome o
is_there None h = absurd (h refl)
is_there (Some x) h = refl

-- what all values pass the first passes
pub first_passes : (p : Text → Bool) (xs : List Text) (x : Text) → list_all p xs ≡ true → slice_get xs 0 ≡ Some x → p x ≡ true
first_passes p [] x all e = absurd (none-some x e)
first_passes p (y ∷ xs) x all e = ap p (sym (same_Some y x e)) ∙ (and_parts _ _ all).0

-- the parts of an offer
pub record OfferParts (word : Text) : Type 0 where
  pub file : Text
  pub lines : Text
  pub are : file_and_lines word ≡ Some (file, lines)
  pub number : is_number 7 0 1000000 lines ≡ true

pub offer_parts : (word : Text) → is_offer word ≡ true → OfferParts word
offer_parts word is = go (file_and_lines word) refl (and_parts _ _ is).1
  where
    go : (o : Option (Text × Text)) → file_and_lines word ≡ o → option_map_or (λ parts. nat_lt 0 (length parts.0) && is_number 7 0 1000000 parts.1) o false ≡ true → OfferParts word
    go None e h = absurd (true≢false (sym h))
    go (Some parts) e h = record { file = parts.0; lines = parts.1; are = e; number = (and_parts _ _ h).1 }

pub all_at : (p : Text → Bool) (xs : List Text) (i : ℕ) (d : Text) → i < length xs → list_all p xs ≡ true → p (get_or xs i d) ≡ true
all_at p xs i d within all = true_from_ne_false _ (λ missed. both_ways _ (list_all_at p xs i d within missed) all)
