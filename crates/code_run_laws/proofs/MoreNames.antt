-- What has words by a naming keeps them where more objects are named.
use Rattle.std.proofs.Common.{◌≡◌, ℕ, List, [], ◌∷◌, ◌++◌, map, length, slice_get, Some, None, All, refl, sym, ap₂, subst}
use Rattle.std.proofs.lemmas.List.{length-map}
use Rattle.std.proofs.lemmas.List.Elements.{All-head, All-tail}
use Rattle.std.proofs.lemmas.Option.{slice_get_within}
use Rattle.c_tree.specs.BareExpr.{Bytes, BareType, Integer, Handle, Thread}
use Rattle.c_tree.specs.BareDef.{BareBinding}
use Rattle.c_semantics.specs.Values.{Value, Number, Reference, Started}
use Rattle.c_semantics.specs.Pieces.{Variable, Scopes}
use Rattle.source_model.specs.Worlds.{Object}
use Rattle.typed_trees.specs.ValueTypes.{Environment, HasType, HaveTypes, ScopeHas, ScopesHave}
use Rattle.typed_runs.specs.TypedWorlds.{tags_of}
use Rattle.bytecode.specs.Words.{Naming, word_of}
use Rattle.tree_code.specs.CodeLaws.{Holds, variables_in}
use Rattle.code_runs.specs.Layouts.{field_words}
use Rattle.code_run_laws.proofs.SharedAlike.{MoreNamed}

-- a naming has all words of itself
pub no_more_named : (n : ℕ) (naming : Naming) → MoreNamed n naming naming
no_more_named n naming = record { objects = λ o h. refl; threads = λ t. refl }

-- objects are as many as their tags
pub by_tags : (os : List Object) (old new : Naming) → MoreNamed (length os) old new → MoreNamed (length (tags_of os)) old new
by_tags os old new more = subst (λ n. MoreNamed n old new) (sym (length-map os (λ (o : Object). o.tag))) more

module _ (tags : List Bytes) (old new : Naming) (more : MoreNamed (length tags) old new) where
  pub word_still : (t : BareType) (v : Value) → HasType tags t v → word_of new v ≡ word_of old v
  word_still t (Number n) h = refl
  word_still t (Reference None) h = refl
  word_still (Integer k) (Reference (Some n)) h = absurd h
  word_still (Handle tag) (Reference (Some n)) h = more.objects n (slice_get_within tags n tag h)
  word_still Thread (Reference (Some n)) h = absurd h
  word_still t (Started None) h = refl
  word_still t (Started (Some thread)) h = more.threads thread

  -- the values of a frame
  pub words_still : (ts : List BareType) (vs : List Value) → HaveTypes tags ts vs → map (word_of new) vs ≡ map (word_of old) vs
  words_still [] [] h = refl
  words_still [] (v ∷ vs) h = absurd h
  words_still (t ∷ ts) [] h = absurd h
  words_still (t ∷ ts) (v ∷ vs) h = ap₂ (◌∷◌) (word_still t v h.0) (words_still ts vs h.1)

  -- the cells of a global or an array
  pub cells_still : (t : BareType) (vs : List Value) → All (HasType tags t) vs → map (word_of new) vs ≡ map (word_of old) vs
  cells_still t [] h = refl
  cells_still t (v ∷ vs) h =
      ap₂ (◌∷◌) (word_still t v (All-head (HasType tags t) v vs h)) (cells_still t vs (All-tail (HasType tags t) v vs h))

  -- the fields of an object
  pub fields_still : (bs : List BareBinding) (fs : List Variable) → ScopeHas tags bs fs → field_words new fs ≡ field_words old fs
  fields_still [] [] h = refl
  fields_still [] (f ∷ fs) h = absurd h
  fields_still (b ∷ bs) [] h = absurd h
  fields_still (b ∷ bs) (f ∷ fs) h = ap₂ (◌∷◌) (word_still b.declared f.value h.1) (fields_still bs fs h.2)

  -- the variables of a frame. Those of more scopes stand after them
  abbrev Still : List Variable → List ℕ → Type 0
  Still vs locals = Holds old vs locals → Holds new vs locals

  scope_still : (bs : List BareBinding) (vs others : List Variable) (locals : List ℕ) → ScopeHas tags bs vs → Still others locals
      → Still (vs ++ others) locals
  scope_still [] [] others locals h rest holds = rest holds
  scope_still [] (v ∷ vs) others locals h rest holds = absurd h
  scope_still (b ∷ bs) [] others locals h rest holds = absurd h
  scope_still (b ∷ bs) (v ∷ vs) others locals h rest holds = (
    subst (λ w. slice_get locals (length (vs ++ others)) ≡ Some w) (sym (word_still b.declared v.value h.1)) holds.0,
    holds.1,
    scope_still bs vs others locals h.2 rest holds.2,
  )

  pub holds_still : (env : Environment) (scopes : Scopes) (locals : List ℕ) → ScopesHave tags env scopes
      → Holds old (variables_in scopes) locals → Holds new (variables_in scopes) locals
  holds_still [] [] locals h holds = tt
  holds_still [] (vs ∷ scopes) locals h holds = absurd h
  holds_still (bs ∷ env) [] locals h holds = absurd h
  holds_still (bs ∷ env) (vs ∷ scopes) locals h holds =
      scope_still bs vs (variables_in scopes) locals h.0 (holds_still env scopes locals h.1) holds
