-- The types of values and of variables.
use Rattle.std.specs.Prelude.{◌≡◌, List, [], ◌∷◌, ◌++◌, Some, None, slice_get}
use Rattle.c_ints.specs.Number.{kind_of}
use Rattle.c_tree.specs.BareExpr.{Bytes, BareType, Integer, Handle, Thread}
use Rattle.c_tree.specs.BareDef.{BareBinding}
use Rattle.c_semantics.specs.Values.{Value, Number, Reference, Started}
use Rattle.c_semantics.specs.Pieces.{Variable, Scopes}

-- a value is one of a type: an integer of its kind, a handle that is null or that of an object of the struct, a `thrd_t`.
-- The list has the struct tags of all objects so far, by number
abbrev pub HasType : List Bytes → BareType → Value → Type 0
HasType tags (Integer k) (Number n) = kind_of n ≡ k
HasType tags (Handle tag) (Reference None) = Unit {0}
HasType tags (Handle tag) (Reference (Some n)) = slice_get tags n ≡ Some tag
HasType tags Thread (Started thread) = Unit {0}
HasType tags _ _ = ⊥

-- values have types, one by one
abbrev pub HaveTypes : List Bytes → List BareType → List Value → Type 0
HaveTypes tags [] [] = Unit {0}
HaveTypes tags (t ∷ ts) (v ∷ vs) = HasType tags t v × HaveTypes tags ts vs
HaveTypes tags _ _ = ⊥

-- what variables are declared, by scope, the innermost scope first, and in a scope the last one first
abbrev pub Environment : Type 0
Environment = List (List BareBinding)

-- and all of them in one list, in which a name is looked up
abbrev pub in_scope : Environment → List BareBinding
in_scope [] = []
in_scope (bindings ∷ outer) = bindings ++ in_scope outer

-- the variables of a scope are those declared, each with a value of its type
abbrev pub ScopeHas : List Bytes → List BareBinding → List Variable → Type 0
ScopeHas tags [] [] = Unit {0}
ScopeHas tags (b ∷ bs) (v ∷ vs) = (v.name ≡ b.name) × HasType tags b.declared v.value × ScopeHas tags bs vs
ScopeHas tags _ _ = ⊥

-- and those of all scopes
abbrev pub ScopesHave : List Bytes → Environment → Scopes → Type 0
ScopesHave tags [] [] = Unit {0}
ScopesHave tags (bs ∷ outer) (vs ∷ scopes) = ScopeHas tags bs vs × ScopesHave tags outer scopes
ScopesHave tags _ _ = ⊥
