-- What one more local does to scopes.
use Rattle.std.proofs.Common.{◌≡◌, ℕ, suc, ◌+◌, ◌-◌, ◌<◌, ◌≤◌, Bool, true, false, if◌then◌else◌, List, [], ◌∷◌, ◌++◌, length, get_or, take, drop, set, Some, None, refl, sym, ap, ◌∙◌, arith}
use Rattle.std.specs.Prelude.{bytes_eq, find}
use Rattle.std.specs.Option.{option_map, option_or, is_some}
use Rattle.std.proofs.lemmas.List.{take_more, drop_more, set_split}
use Rattle.c_tree.specs.BareExpr.{Bytes}
use Rattle.c_semantics.specs.Values.{Value}
use Rattle.c_semantics.specs.Pieces.{Variable, Scopes, Nothing}
use Rattle.c_semantics.specs.Evaluation.{Next, look_up, stored, declared, in_scope, with_value, close_scope}
use Rattle.local_evaluation.specs.declared.work.Local.{Local}
use Rattle.local_evaluation.specs.declared.work.Local.TheVariants.{Block, Variable as VariableIs}
use Rattle.resolved_tree.specs.declared.words.Word.{Word}
use Rattle.local_evaluation.specs.declared.value.Value.{Value as Held}
use Rattle.resolved_tree.specs.Nodes.{Table, word}
use Rattle.local_evaluation.specs.Values.{seen}
use Rattle.local_evaluation.specs.Work.{entered, scopes_on, scopes_of}

-- the scopes after the innermost one, and whether there is one
abbrev pub behind : Scopes → Scopes
behind [] = []
behind (vs ∷ scopes) = scopes

abbrev pub is_open : Bool → Scopes → Bool
is_open b [] = b
is_open b (vs ∷ scopes) = true

pub on_append : (t : Table) (ls ms : List Local) (scopes : Scopes) → scopes_on t (ls ++ ms) scopes ≡ scopes_on t ms (scopes_on t ls scopes)
on_append t [] ms scopes = refl
on_append t (l ∷ ls) ms scopes = on_append t ls ms (entered t l scopes)

-- one more local
pub scopes_push : (t : Table) (ls : List Local) (l : Local) → scopes_of t (ls ++ l ∷ []) ≡ entered t l (scopes_of t ls)
scopes_push t ls l = on_append t ls (l ∷ []) []

-- a variable of another name, and one of the name
pub look_up_declared : (name other : Bytes) (v : Value) (scopes : Scopes)
    → look_up (declared other v scopes) name ≡ (if bytes_eq name other then Some v else look_up scopes name)
look_up_declared name other v [] = by (bytes_eq name other)
  where
    by : (b : Bool) → option_or (option_map (λ (x : Variable). x.value) (if b then Some (record { name = other; value = v }) else None)) None ≡ (if b then Some v else None)
    by true = refl
    by false = refl
look_up_declared name other v (vs ∷ scopes) = by (bytes_eq name other)
  where
    by : (b : Bool)
        → option_or (option_map (λ (x : Variable). x.value) (if b then Some (record { name = other; value = v }) else find (λ x. bytes_eq name x.name) vs)) (look_up scopes name)
        ≡ (if b then Some v else option_or (in_scope vs name) (look_up scopes name))
    by true = refl
    by false = refl

pub stored_declared : (name other : Bytes) (v old : Value) (scopes : Scopes)
    → stored name v (declared other old scopes) ≡ (if bytes_eq name other then declared other v scopes else declared other old (stored name v scopes))
stored_declared name other v old [] = by (bytes_eq name other)
  where
    x : Variable
    x = record { name = other; value = old }

    by : (b : Bool)
        → (if is_some (option_map (λ (y : Variable). y.value) (if b then Some x else None))
        then (if b then record { name = other; value = v } ∷ [] else x ∷ []) ∷ [] else (x ∷ []) ∷ [])
        ≡ (if b then (record { name = other; value = v } ∷ []) ∷ [] else (x ∷ []) ∷ [])
    by true = refl
    by false = refl
stored_declared name other v old (vs ∷ scopes) = by (bytes_eq name other)
  where
    x : Variable
    x = record { name = other; value = old }

    y : Variable
    y = record { name = other; value = v }

    under : (c : Bool)
        → (if c then (x ∷ with_value name v vs) ∷ scopes else (x ∷ vs) ∷ stored name v scopes)
        ≡ declared other old (if c then with_value name v vs ∷ scopes else vs ∷ stored name v scopes)
    under true = refl
    under false = refl

    by : (b : Bool)
        → (if is_some (option_map (λ (z : Variable). z.value) (if b then Some x else find (λ z. bytes_eq name z.name) vs))
        then (if b then y ∷ vs else x ∷ with_value name v vs) ∷ scopes else (x ∷ vs) ∷ stored name v scopes)
        ≡ (if b then (y ∷ vs) ∷ scopes else declared other old (if is_some (in_scope vs name) then with_value name v vs ∷ scopes else vs ∷ stored name v scopes))
    by true = refl
    by false = under (is_some (in_scope vs name))

-- ---- from the newest local back

-- the newest of the first locals
pub last_of : (t : Table) (ls : List Local) (left : ℕ) (d l : Local) → 0 < left → left ≤ length ls → get_or ls (left - 1) d ≡ l
    → scopes_of t (take left ls) ≡ entered t l (scopes_of t (take (left - 1) ls))
last_of t ls left d l some within is =
    let n : left ≡ left - 1 + 1 = omega arith in
    ap (λ i. scopes_of t (take i ls)) n
    ∙ ap (scopes_of t) (take_more ls (left - 1) d (omega arith))
    ∙ ap (λ x. scopes_of t (take (left - 1) ls ++ x ∷ [])) is
    ∙ scopes_push t (take (left - 1) ls) l

-- a look-up finds the newest variable where it has the name
pub look_up_found : (t : Table) (ls : List Local) (left : ℕ) (d : Local) (w : Word) (v : Held) (name : Bytes)
    → 0 < left → left ≤ length ls → get_or ls (left - 1) d ≡ VariableIs w v → bytes_eq name (word t w) ≡ true
    → look_up (scopes_of t (take left ls)) name ≡ Some (seen v)
look_up_found t ls left d w v name some within is same =
    let scopes = scopes_of t (take (left - 1) ls) in
    ap (λ s. look_up s name) (last_of t ls left d (VariableIs w v) some within is)
    ∙ look_up_declared name (word t w) (seen v) scopes
    ∙ ap (λ b. if b then Some (seen v) else look_up scopes name) same

-- it passes another variable, and the begin of a scope
pub look_up_passes : (t : Table) (ls : List Local) (left : ℕ) (d : Local) (w : Word) (v : Held) (name : Bytes)
    → 0 < left → left ≤ length ls → get_or ls (left - 1) d ≡ VariableIs w v → bytes_eq name (word t w) ≡ false
    → look_up (scopes_of t (take (left - 1) ls)) name ≡ look_up (scopes_of t (take left ls)) name
look_up_passes t ls left d w v name some within is same =
    let scopes = scopes_of t (take (left - 1) ls) in
    sym (ap (λ s. look_up s name) (last_of t ls left d (VariableIs w v) some within is)
    ∙ look_up_declared name (word t w) (seen v) scopes
    ∙ ap (λ b. if b then Some (seen v) else look_up scopes name) same)

pub look_up_leaves : (t : Table) (ls : List Local) (left : ℕ) (d : Local) (name : Bytes)
    → 0 < left → left ≤ length ls → get_or ls (left - 1) d ≡ Block
    → look_up (scopes_of t (take (left - 1) ls)) name ≡ look_up (scopes_of t (take left ls)) name
look_up_leaves t ls left d name some within is =
    sym (ap (λ s. look_up s name) (last_of t ls left d Block some within is))

-- what a store comes to with the first locals, and the others after it
abbrev pub stored_before : Table → List Local → ℕ → Bytes → Value → Scopes
stored_before t ls left name value = scopes_on t (drop left ls) (stored name value (scopes_of t (take left ls)))

one_less : (t : Table) (ls : List Local) (left : ℕ) (d l : Local) (scopes : Scopes) → 0 < left → left ≤ length ls
    → get_or ls (left - 1) d ≡ l → scopes_on t (drop left ls) (entered t l scopes) ≡ scopes_on t (drop (left - 1) ls) scopes
one_less t ls left d l scopes some within is =
    let n : left ≡ left - 1 + 1 = omega arith in
    ap (λ i. scopes_on t (drop i ls) (entered t l scopes)) n
    ∙ sym (ap (λ ms. scopes_on t ms scopes) (drop_more ls (left - 1) d (omega arith) ∙ ap (λ x. x ∷ drop (left - 1 + 1) ls) is))

pub store_passes : (t : Table) (ls : List Local) (left : ℕ) (d : Local) (w : Word) (v : Held) (name : Bytes) (value : Value)
    → 0 < left → left ≤ length ls → get_or ls (left - 1) d ≡ VariableIs w v → bytes_eq name (word t w) ≡ false
    → stored_before t ls left name value ≡ stored_before t ls (left - 1) name value
store_passes t ls left d w v name value some within is same =
    let scopes = scopes_of t (take (left - 1) ls) in
    ap (λ s. scopes_on t (drop left ls) (stored name value s)) (last_of t ls left d (VariableIs w v) some within is)
    ∙ ap (scopes_on t (drop left ls)) (stored_declared name (word t w) value (seen v) scopes
    ∙ ap (λ b. if b then declared (word t w) value scopes else declared (word t w) (seen v) (stored name value scopes)) same)
    ∙ one_less t ls left d (VariableIs w v) (stored name value scopes) some within is

pub store_leaves : (t : Table) (ls : List Local) (left : ℕ) (d : Local) (name : Bytes) (value : Value)
    → 0 < left → left ≤ length ls → get_or ls (left - 1) d ≡ Block
    → stored_before t ls left name value ≡ stored_before t ls (left - 1) name value
store_leaves t ls left d name value some within is =
    let scopes = scopes_of t (take (left - 1) ls) in
    ap (λ s. scopes_on t (drop left ls) (stored name value s)) (last_of t ls left d Block some within is)
    ∙ one_less t ls left d Block (stored name value scopes) some within is

pub store_found : (t : Table) (ls : List Local) (left : ℕ) (d : Local) (w : Word) (v new : Held) (name : Bytes)
    → 0 < left → left ≤ length ls → get_or ls (left - 1) d ≡ VariableIs w v → bytes_eq name (word t w) ≡ true
    → scopes_of t (set ls (left - 1) (VariableIs w new)) ≡ stored_before t ls left name (seen new)
store_found t ls left d w v new name some within is same =
    let scopes = scopes_of t (take (left - 1) ls) in
    let n : suc (left - 1) ≡ left = omega arith in
    ap (scopes_of t) (set_split ls (left - 1) (VariableIs w new) (omega arith))
    ∙ on_append t (take (left - 1) ls) (VariableIs w new ∷ drop (suc (left - 1)) ls) []
    ∙ ap (λ i. scopes_on t (drop i ls) (declared (word t w) (seen new) scopes)) n
    ∙ sym (ap (λ s. scopes_on t (drop left ls) (stored name (seen new) s)) (last_of t ls left d (VariableIs w v) some within is)
    ∙ ap (scopes_on t (drop left ls)) (stored_declared name (word t w) (seen new) (seen v) scopes
    ∙ ap (λ b. if b then declared (word t w) (seen new) scopes else declared (word t w) (seen v) (stored name (seen new) scopes)) same))

-- ---- the end of a scope

pub after_declared : (name : Bytes) (v : Value) (scopes : Scopes) → behind (declared name v scopes) ≡ behind scopes
after_declared name v [] = refl
after_declared name v (vs ∷ scopes) = refl

pub declared_opens : (b : Bool) (name : Bytes) (v : Value) (scopes : Scopes) → is_open b (declared name v scopes) ≡ true
declared_opens b name v [] = refl
declared_opens b name v (vs ∷ scopes) = refl

pub always_open : (scopes : Scopes) → is_open true scopes ≡ true
always_open [] = refl
always_open (vs ∷ scopes) = refl

-- an end closes the innermost scope, if there is one
pub closes : (k : Next) (values : List Value) (scopes : Scopes) → is_open false scopes ≡ true
    → close_scope k values scopes ≡ k values (behind scopes)
closes k values [] h = cc
closes k values (vs ∷ scopes) h = refl

pub closes_none : (k : Next) (values : List Value) (scopes : Scopes) → is_open false scopes ≡ false → close_scope k values scopes ≡ Nothing
closes_none k values [] h = refl
closes_none k values (vs ∷ scopes) h = cc
