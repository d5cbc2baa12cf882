-- A format is read from the prefix: what is left of it takes what is left of the arguments.
use Rattle.std.proofs.Common.{◌≡◌, ℕ, ◌-◌, ◌≤◌, nat_eq, length, drop, length-drop, arith, true, false, ◌&&◌, List, [], ◌∷◌, ◌++◌, Option, Some, None, option_map, refl, ◌∙◌, ap}
use Rattle.c_ints.specs.declared.kind.Kind.{Kind}
use Rattle.c_format.specs.declared.reading.Reading.{Reading}
use Rattle.c_format.specs.declared.reading.Reading.TheVariants.{Text, Percent, Long, Bad}
use Rattle.c_format.specs.Formats.{read, taken, kinds}
use Rattle.c_expr_types.specs.declared.found.Part.{Part}
use Rattle.c_expr_types.specs.Formats.{is_promoted_to, are_taken, take_all}

-- the kinds of a format, by those of all but its first byte
kinds_more : (r : Reading) (c : ℕ) (cs : List ℕ) →
    kinds r (c ∷ cs) ≡ option_map (λ others. taken r c ++ others) (kinds (read r c) cs)
kinds_more Text c cs = refl
kinds_more Percent c cs = refl
kinds_more Long c cs = refl
kinds_more Bad c cs = refl

-- with some kinds in front, or none
with_none : (ks : List Kind) (rest : Option (List Kind)) (arguments : List Part) → ks ≡ [] →
    take_all (option_map (λ others. ks ++ others) rest) arguments ≡ take_all rest arguments
with_none ks None arguments e = refl
with_none ks (Some others) arguments e = ap (λ t. are_taken (t ++ others) arguments) e

with_one : (ks : List Kind) (k : Kind) (rest : Option (List Kind)) (argument : Part) (arguments : List Part) → ks ≡ k ∷ [] →
    is_promoted_to k argument ≡ true →
    take_all (option_map (λ others. ks ++ others) rest) (argument ∷ arguments) ≡ take_all rest arguments
with_one ks k None argument arguments e fits = refl
with_one ks k (Some others) argument arguments e fits =
    ap (λ t. are_taken (t ++ others) (argument ∷ arguments)) e ∙ ap (λ b. b && are_taken others arguments) fits

with_another : (ks : List Kind) (k : Kind) (rest : Option (List Kind)) (argument : Part) (arguments : List Part) → ks ≡ k ∷ [] →
    is_promoted_to k argument ≡ false →
    take_all (option_map (λ others. ks ++ others) rest) (argument ∷ arguments) ≡ false
with_another ks k None argument arguments e fits = refl
with_another ks k (Some others) argument arguments e fits =
    ap (λ t. are_taken (t ++ others) (argument ∷ arguments)) e ∙ ap (λ b. b && are_taken others arguments) fits

with_no_argument : (ks : List Kind) (k : Kind) (rest : Option (List Kind)) → ks ≡ k ∷ [] →
    take_all (option_map (λ others. ks ++ others) rest) [] ≡ false
with_no_argument ks k None e = refl
with_no_argument ks k (Some others) e = ap (λ t. are_taken (t ++ others) []) e

-- a byte that ends no conversion that takes something
pub passes : (r : Reading) (c : ℕ) (cs : List ℕ) (arguments : List Part) → taken r c ≡ [] →
    take_all (kinds r (c ∷ cs)) arguments ≡ take_all (kinds (read r c) cs) arguments
passes r c cs arguments e =
    ap (λ k. take_all k arguments) (kinds_more r c cs) ∙ with_none (taken r c) (kinds (read r c) cs) arguments e

-- a byte that ends one, and an argument of its kind
pub takes : (r : Reading) (c : ℕ) (cs : List ℕ) (k : Kind) (argument : Part) (arguments : List Part) → taken r c ≡ k ∷ [] →
    is_promoted_to k argument ≡ true →
    take_all (kinds r (c ∷ cs)) (argument ∷ arguments) ≡ take_all (kinds (read r c) cs) arguments
takes r c cs k argument arguments e fits =
    ap (λ ks. take_all ks (argument ∷ arguments)) (kinds_more r c cs)
    ∙ with_one (taken r c) k (kinds (read r c) cs) argument arguments e fits

-- and one of another kind
pub refuses : (r : Reading) (c : ℕ) (cs : List ℕ) (k : Kind) (argument : Part) (arguments : List Part) → taken r c ≡ k ∷ [] →
    is_promoted_to k argument ≡ false → take_all (kinds r (c ∷ cs)) (argument ∷ arguments) ≡ false
refuses r c cs k argument arguments e fits =
    ap (λ ks. take_all ks (argument ∷ arguments)) (kinds_more r c cs)
    ∙ with_another (taken r c) k (kinds (read r c) cs) argument arguments e fits

-- and none
pub lacks : (r : Reading) (c : ℕ) (cs : List ℕ) (k : Kind) → taken r c ≡ k ∷ [] → take_all (kinds r (c ∷ cs)) [] ≡ false
lacks r c cs k e = ap (λ ks. take_all ks []) (kinds_more r c cs) ∙ with_no_argument (taken r c) k (kinds (read r c) cs) e

-- at the end of a format no argument may be left
none_left : (arguments : List Part) → are_taken [] arguments ≡ nat_eq (length arguments) 0
none_left [] = refl
none_left (argument ∷ arguments) = grind arith

used_up : (m n : ℕ) → m ≤ n → nat_eq (n - m) 0 ≡ nat_eq m n
used_up m n h = grind arith

pub at_end : (r : Reading) (rest : List ℕ) (used : ℕ) (arguments : List Part) → r ≡ Text → rest ≡ [] → used ≤ length arguments →
    take_all (kinds r rest) (drop used arguments) ≡ nat_eq used (length arguments)
at_end r rest used arguments text end below =
    ap (λ k. take_all (kinds k rest) (drop used arguments)) text
    ∙ ap (λ cs. take_all (kinds Text cs) (drop used arguments)) end
    ∙ none_left (drop used arguments)
    ∙ ap (λ n. nat_eq n 0) (length-drop used arguments)
    ∙ used_up used (length arguments) below
