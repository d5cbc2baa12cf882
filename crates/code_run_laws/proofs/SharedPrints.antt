-- The stop that prints: what is printed of words is what is printed of values.
use Rattle.std.proofs.Common.{◌≡◌, ℕ, List, [], ◌∷◌, ◌++◌, map, take, drop, reverse, Option, Some, None, refl, sym, ap, ap₂, subst, ◌∙◌}
use Rattle.std.proofs.lemmas.List.{drop-map, length-reverse, map-append, reverse-append, take-map}
use Rattle.c_ints.specs.declared.kind.Kind.{Kind}
use Rattle.c_format.specs.declared.reading.Reading.TheVariants.{Text}
use Rattle.c_format.specs.Formats.{kinds}
use Rattle.c_tree.specs.BareExpr.{Bytes}
use Rattle.c_semantics.specs.Texts.{int}
use Rattle.c_semantics.specs.Values.{Value, int_of}
use Rattle.c_semantics.specs.Stops.{Print}
use Rattle.source_model.specs.Printing.{printed}
use Rattle.source_model.specs.Moves.{arguments_of}
use Rattle.typed_trees.specs.ValueTypes.{HaveTypes}
use Rattle.typed_trees.specs.PieceTypes.{PopsFormat, Stack}
use Rattle.typed_runs.proofs.Arguments.{printed_left}
use Rattle.bytecode.specs.Words.{word_of}
use Rattle.tree_code.specs.Ranges.{AllRanged}
use Rattle.code_runs.specs.SharedStops.{Done, On, printed_words}
use Rattle.code_run_laws.specs.DataMatches.{DataMatches}
use Rattle.code_run_laws.proofs.AtStop.{AtStop, Comes, comes_as, goes_beside, tags_at, words_at}
use Rattle.code_run_laws.proofs.PrintedWords.{arguments_fit, printed_alike}
use Rattle.code_run_laws.proofs.RangedValues.{ranged_drop, zero_int}

map-reverse : {X Y : Type 0} (f : X → Y) (xs : List X) → reverse (map f xs) ≡ map f (reverse xs)
map-reverse f [] = refl
map-reverse f (x ∷ xs) =
    reverse-append (f x ∷ []) (map f xs) ∙ ap (λ ys. ys ++ f x ∷ []) (map-reverse f xs)
    ∙ sym (map-append f (reverse xs) (x ∷ [])) ∙ ap (map f) (sym (reverse-append (x ∷ []) xs))

module _ (a : AtStop) (format : Bytes) (n : ℕ) where
  -- the words of the arguments, in order
  arguments_words : (values : List Value) → reverse (take n (words_at a values)) ≡ words_at a (arguments_of n values)
  arguments_words values = ap reverse (take-map (word_of a.naming) n values) ∙ map-reverse (word_of a.naming) (take n values)

  -- the output is no part of what is shared
  matches_still : (more : List ℕ)
      → DataMatches a.texts a.names a.naming a.objects (record a.standing.world { output = a.standing.world.output ++ more }) a.data_of
  matches_still more = record {
    rows = a.matches.rows;
    cells = a.matches.cells;
    ranged = a.matches.ranged;
    named = a.matches.named;
    objects_match = a.matches.objects_match;
    capacity = a.matches.capacity;
    mutexes = a.matches.mutexes;
    holders = a.matches.holders;
    version = a.matches.version;
  }

  prints : (values : List Value) (types : Stack) (ks : Option (List Kind)) (done : Done) → kinds Text format ≡ ks
      → PopsFormat ks n types (λ under. a.then_are (int ∷ under)) → HaveTypes (tags_at a) types values → AllRanged values
      → done ≡ record { shared = a.data_of; printed = printed_words format (reverse (take n (words_at a values))); came = On (0 ∷ drop n (words_at a values)) }
      → Comes a (Print format n) values done
  prints values types None done is p h ranged e = absurd p
  prints values types (Some ks) done is p h ranged e =
      let fit = arguments_fit (tags_at a) ks n types (λ under. a.then_are (int ∷ under)) values p.0 p.1 h ranged in
      let left = printed_left (tags_at a) (reverse ks) types (λ under. a.then_are (int ∷ under)) values p.1 h in
      let shown : printed_words format (reverse (take n (words_at a values))) ≡ printed format (arguments_of n values) =
      ap (printed_words format) (arguments_words values) ∙ printed_alike a.naming Text format ks (arguments_of n values) is fit in
      comes_as a (Print format n) values done
      (record { shared = a.data_of; printed = printed format (arguments_of n values); came = On (words_at a (int_of 0 ∷ drop n values)) })
      (e ∙ ap₂ (λ bs ws. record { shared = a.data_of; printed = bs; came = On (0 ∷ ws) }) shown (drop-map (word_of a.naming) n values))
      (goes_beside a (Print format n) values (int_of 0 ∷ drop n values) (int ∷ left.under)
      (record a.standing.world { output = a.standing.world.output ++ printed format (arguments_of n values) }) a.data_of (printed format (arguments_of n values))
      (record { objects = refl; slots = refl; threads = refl; finish = refl; misused = refl }) refl refl (matches_still (printed format (arguments_of n values))) left.holds
      (refl, subst (λ m. HaveTypes (tags_at a) left.under (drop m values)) (length-reverse ks ∙ p.0) left.have) (zero_int, ranged_drop n values ranged))

  pub print_alike : (values : List Value) (types : Stack) (done : Done)
      → PopsFormat (kinds Text format) n types (λ under. a.then_are (int ∷ under)) → HaveTypes (tags_at a) types values → AllRanged values
      → done ≡ record { shared = a.data_of; printed = printed_words format (reverse (take n (words_at a values))); came = On (0 ∷ drop n (words_at a values)) }
      → Comes a (Print format n) values done
  print_alike values types done p h ranged e = prints values types (kinds Text format) done refl p h ranged e
