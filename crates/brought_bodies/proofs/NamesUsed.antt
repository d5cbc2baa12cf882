-- Whether a skeleton uses a name of a set, by ids and by names.
use Rattle.std.proofs.Common.{◌≡◌, ℕ, ◌<◌, ◌↔◌, Bool, true, false, List, [], ◌∷◌, map, length, get_or, Option, Some, None, refl, sym, ap, subst, ◌∙◌, arith}
use Rattle.std.specs.Prelude.{◌||◌, Contains, bytes_eq, if◌then◌else◌, IsTrue, filter_map}
use Rattle.std.specs.Bool.{Decides}
use Rattle.std.specs.Option.{option_map_or}
use Rattle.std.specs.List.{list_any, cons_option}
use Rattle.std.proofs.lemmas.Bool.Decides.{same_from_decides}
use Rattle.std.proofs.lemmas.List.{get_or_default}
use Rattle.std.proofs.lemmas.List.Elements.{All-nil, All-contains, All-from_get_or}
use Rattle.std.proofs.lemmas.List.Folds.{list_any_none, list_any_at}
use Rattle.std.proofs.lemmas.Map.Views.{Contains-from_any}
use Rattle.std.proofs.lemmas.Slice.Eq.{bytes_eq-Decides}
use Rattle.name_sets.specs.IdSet.{Holds}
use Rattle.name_sets.specs.NameLists.{precedes, is_among, with_name, name_set}
use Rattle.name_sets.specs.Texts.{text_of}
use Rattle.run_types.specs.Skeleton.{direct_use}
use Rattle.c_tree.specs.BareExpr.{Bytes}
use Rattle.c_semantics.specs.Skeletons.{direct_uses}
use Rattle.skeletons.specs.declared.point.Point.{Point}
use Rattle.skeletons.specs.declared.skeleton.Skeleton.{Skeleton}
use Rattle.skeletons.specs.Meaning.{kind_of, point_of, meant}
use Rattle.brought_bodies.specs.Sets.{IsSetOf, uses_one}

-- a name among some is one of them
found_at : (z : Bytes) (list : List Bytes) (k : ℕ) → k < length list → get_or list k z ≡ z → is_among list z ≡ true
found_at z list k l e = list_any_at (bytes_eq z) list k z l ((bytes_eq-Decides z (get_or list k z)).1 (sym e))

pub among_decides : (list : List Bytes) (z : Bytes) → Decides (is_among list z) (Contains list z)
among_decides list z = (
  Contains-from_any (λ x y. (bytes_eq-Decides x y).0) z list,
  λ h. found_at z list h.0 h.1 h.2,
)

-- a set answers as its names do
pub held : (names list : List Bytes) (set id : ℕ) (holds : Bool) → IsSetOf names set list → id < length names
    → IsTrue holds ↔ Holds set id → holds ≡ is_among list (text_of names id)
held names list set id holds is l answer =
    same_from_decides holds (is_among list (text_of names id))
    (λ e. (is.members id l).0 (answer.0 e), λ h. answer.1 ((is.members id l).1 h))
    (among_decides list (text_of names id))

-- ---- what is tested of the names of a set is tested of all names

or_again : (s t : Bool) → (s || t) ≡ (s || (s || t))
or_again true t = refl
or_again false t = refl

or_swapped : (s t u : Bool) → (s || (t || u)) ≡ (t || (s || u))
or_swapped true true u = refl
or_swapped true false u = refl
or_swapped false true u = refl
or_swapped false false u = refl

any_with : (f : Bytes → Bool) (n : Bytes) (ns : List Bytes) → list_any f (with_name n ns) ≡ (f n || list_any f ns)
any_with f n [] = refl
any_with f n (k ∷ ks) = by (bytes_eq n k) (precedes n k) refl (any_with f n ks)
  where
    by : (s t : Bool) → bytes_eq n k ≡ s → list_any f (with_name n ks) ≡ (f n || list_any f ks)
        → list_any f (if s then k ∷ ks else (if t then n ∷ k ∷ ks else k ∷ with_name n ks)) ≡ (f n || (f k || list_any f ks))
    by true t e rest =
        let same : f n ≡ f k = ap f ((bytes_eq-Decides n k).0 e) in
        or_again (f k) (list_any f ks) ∙ ap (λ s. s || (f k || list_any f ks)) (sym same)
    by false true e rest = refl
    by false false e rest = ap (λ s. f k || s) rest ∙ or_swapped (f k) (f n) (list_any f ks)

pub any_of_set : (f : Bytes → Bool) (ns : List Bytes) → list_any f (name_set ns) ≡ list_any f ns
any_of_set f [] = refl
any_of_set f (n ∷ ns) = any_with f n (name_set ns) ∙ ap (λ s. f n || s) (any_of_set f ns)

-- ---- points

any_used : (f : Bytes → Bool) (names : List Bytes) (ps : List Point)
    → list_any f (filter_map (λ p. direct_use p.kind) (map (point_of names) ps))
    ≡ list_any (λ p. option_map_or f (direct_use (kind_of names p.kind)) false) ps
any_used f names [] = refl
any_used f names (p ∷ ps) = by (direct_use (kind_of names p.kind)) (any_used f names ps)
  where
    Rest : List Bytes
    Rest = filter_map (λ p. direct_use p.kind) (map (point_of names) ps)

    by : (o : Option Bytes) → list_any f Rest ≡ list_any (λ p. option_map_or f (direct_use (kind_of names p.kind)) false) ps
        → list_any f (cons_option o Rest)
        ≡ (option_map_or f o false || list_any (λ p. option_map_or f (direct_use (kind_of names p.kind)) false) ps)
    by None rest = rest
    by (Some z) rest = ap (λ s. f z || s) rest

pub any_direct : (names list : List Bytes) (s : Skeleton)
    → list_any (is_among list) (direct_uses (meant names s)) ≡ list_any (λ p. uses_one names list p.kind) s.points.items
any_direct names list s =
    any_of_set (is_among list) (filter_map (λ p. direct_use p.kind) (map (point_of names) s.points.items))
    ∙ any_used (is_among list) names s.points.items

-- ---- the empty set

pub none_among : (names list : List Bytes) (set : ℕ) → IsSetOf names set list → ((id : ℕ) → Holds set id → ⊥)
    → (z : Bytes) → is_among list z ≡ false
none_among names list set is none z = by (is_among list z) (λ e. empty ((among_decides list z).0 e))
  where
    at : (h : Contains names z) → Contains list z → Contains list (text_of names h.0)
    at h c = subst (Contains list) (sym (get_or_default names h.0 [] z h.1 ∙ h.2)) c

    empty : Contains list z → ⊥
    empty c =
        let h : Contains names z = All-contains (Contains names) list z is.known c in
        none h.0 ((is.members h.0 h.1).1 (at h c))

    by : (b : Bool) → (b ≡ true → ⊥) → b ≡ false
    by true h = absurd (h refl)
    by false h = refl

pub none_used : (names list : List Bytes) (set : ℕ) (xs : List Bytes) → IsSetOf names set list → ((id : ℕ) → Holds set id → ⊥)
    → list_any (is_among list) xs ≡ false
none_used names list set xs is none =
    list_any_none (is_among list) xs (All-from_get_or (λ z. is_among list z ≡ false) xs [] (λ i l. none_among names list set is none (get_or xs i [])))

pub set_of_none : (names : List Bytes) (set : ℕ) → ((id : ℕ) → Holds set id → ⊥) → IsSetOf names set []
set_of_none names set none = record {
  members = λ id l. (λ h. absurd (none id h), λ x. absurd (no_item (text_of names id) x));
  known = All-nil (Contains names);
}
  where
    no_item : (z : Bytes) → Contains [] z → ⊥
    no_item z x = let l : x.0 < 0 = x.1 in omega arith
