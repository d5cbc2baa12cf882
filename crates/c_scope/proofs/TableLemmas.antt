-- Look-ups once the innermost table has one more declaration.
use Rattle.std.proofs.Common.{◌≡◌, ℕ, ◌<◌, Bool, true, false, List, [], ◌∷◌, ◌++◌, length, Option, None, Some, IsSome, if◌then◌else◌, refl, sym, ap, subst, ◌∙◌, arith, bytes_eq}
use Rattle.std.specs.Option.{option_or}
use Rattle.c_scope.specs.Tables.{look_up, look_up_first, innermost, declared}
use Rattle.c_scope.proofs.NameLemmas.{same_bytes}

module _ {T : Type 0} where
  option_or-None : (o : Option T) → option_or o None ≡ o
  option_or-None None = refl
  option_or-None (Some x) = refl

  look_up-push : (table : List (List ℕ × T)) (name : List ℕ) (value : T) (other : List ℕ) → look_up (table ++ (name, value) ∷ []) other ≡ option_or (look_up table other) (if bytes_eq other name then Some value else None)
  look_up-push [] name value other = refl
  look_up-push (d ∷ ds) name value other = by (bytes_eq other d.0) (look_up-push ds name value other)
    where
      by : (b : Bool) → look_up (ds ++ (name, value) ∷ []) other ≡ option_or (look_up ds other) (if bytes_eq other name then Some value else None) → (if b then Some d.1 else look_up (ds ++ (name, value) ∷ []) other) ≡ option_or (if b then Some d.1 else look_up ds other) (if bytes_eq other name then Some value else None)
      by true rest = refl
      by false rest = rest

  module _ (tables : List (List (List ℕ × T))) (name : List ℕ) (value : T) where
    pub length-declared : length (declared tables name value) ≡ length tables
    length-declared = by tables
      where
        by : (ts : List (List (List ℕ × T))) → length (declared ts name value) ≡ length ts
        by [] = refl
        by (t ∷ ts) = refl

  -- another name stands for what it stood for
  pub first-other : (tables : List (List (List ℕ × T))) (name : List ℕ) (value : T) (other : List ℕ) → bytes_eq other name ≡ false → look_up_first (declared tables name value) other ≡ look_up_first tables other
  first-other [] name value other apart = refl
  first-other (t ∷ ts) name value other apart = look_up-push t name value other ∙ ap (λ b. option_or (look_up t other) (if b then Some value else None)) apart ∙ option_or-None (look_up t other)

  pub innermost-other : (tables : List (List (List ℕ × T))) (name : List ℕ) (value : T) (other : List ℕ) → bytes_eq other name ≡ false → innermost (declared tables name value) other ≡ innermost tables other
  innermost-other [] name value other apart = refl
  innermost-other (t ∷ ts) name value other apart = ap (λ o. option_or o (innermost ts other)) (first-other (t ∷ ts) name value other apart)

  -- the name itself stands for the value, where the innermost table didn't have it
  pub first-same : (tables : List (List (List ℕ × T))) (name : List ℕ) (value : T) → 0 < length tables → look_up_first tables name ≡ None → look_up_first (declared tables name value) name ≡ Some value
  first-same [] name value some none = absurd (omega arith)
  first-same (t ∷ ts) name value some none = look_up-push t name value name ∙ ap (λ b. option_or (look_up t name) (if b then Some value else None)) (same_bytes name name refl) ∙ ap (λ o. option_or o (Some value)) none

  pub innermost-same : (tables : List (List (List ℕ × T))) (name : List ℕ) (value : T) → 0 < length tables → look_up_first tables name ≡ None → innermost (declared tables name value) name ≡ Some value
  innermost-same [] name value some none = absurd (omega arith)
  innermost-same (t ∷ ts) name value some none = ap (λ o. option_or o (innermost ts name)) (first-same (t ∷ ts) name value some none)

  option_or-some : (o : Option T) (value : T) → IsSome (option_or o (Some value))
  option_or-some None value = refl
  option_or-some (Some x) value = refl

  pub first-some : (tables : List (List (List ℕ × T))) (name : List ℕ) (value : T) → 0 < length tables → IsSome (look_up_first (declared tables name value) name)
  first-some [] name value some = absurd (omega arith)
  first-some (t ∷ ts) name value some = subst IsSome (sym (look_up-push t name value name ∙ ap (λ b. option_or (look_up t name) (if b then Some value else None)) (same_bytes name name refl))) (option_or-some (look_up t name) value)
