-- The bodies of all versions installed so far: one for each function of each version that brought a new one.
use Rattle.std.specs.Prelude.{ℕ, suc, ◌==◌, max, nat_le, Bool, not, ◌&&◌, ◌||◌, List, [], ◌∷◌, ◌++◌, filter_map, find, sum_by, Option, Some, None, bytes_eq, take, count_by, if◌then◌else◌}
use Rattle.std.specs.Option.{option_map_or}
use Rattle.std.specs.List.{list_any}
use Rattle.run_types.specs.Skeleton.{Skeleton}
use Rattle.name_sets.specs.NameLists.{is_among}
use Rattle.c_tree.specs.BareExpr.{Bytes}
use Rattle.c_tree.specs.BareDef.{BareDef, Function}
use Rattle.c_semantics.specs.Texts.{definition, names}
use Rattle.c_semantics.specs.Changes.{changed, interface}
use Rattle.c_semantics.specs.Skeletons.{skeleton_of, direct_uses, check_ins, is_check_in_kind}
use Rattle.c_semantics.specs.SourceTexts.{Text}

-- a body: its function, the version that brought it, its skeleton and its number of tokens
pub record Body : Type 0 where
  pub function : Bytes
  pub generation : ℕ
  pub skeleton : Skeleton
  pub tokens : ℕ

-- the number of a function's tokens
abbrev pub tokens_of : Text → Bytes → ℕ
tokens_of text name = option_map_or (λ t. t.count) (find (λ t. bytes_eq name t.function) text.tokens) 0

-- a function with a new body: one that is added or changed, or that has a direct use of a name whose interface changes
abbrev pub is_new : List BareDef → List BareDef → Bytes → Skeleton → Bool
is_new p q name skeleton =
    not (is_among (names p) name) || is_among (changed p q) name || list_any (is_among (interface p q)) (direct_uses skeleton)

-- the body of a definition, where it is a function with a new one
abbrev pub body_if_new : ℕ → List BareDef → Text → Bytes → Skeleton → Option Body
body_if_new n p q name skeleton =
    if is_new p q.definitions name skeleton
    then Some (record { function = name; generation = n; skeleton = skeleton; tokens = tokens_of q name })
    else None

abbrev pub body_of : ℕ → List BareDef → Text → BareDef → Option Body
body_of n p q (Function result name parameters body) =
    body_if_new n p q name (skeleton_of (definition q.definitions) (Some (Function result name parameters body)))
body_of n p q _ = None

-- the bodies that version n brings, whose text q follows the definitions p, in the order of the text
abbrev pub brought_bodies : ℕ → List BareDef → Text → List Body
brought_bodies n p q = filter_map (body_of n p q) q.definitions

-- the bodies of texts that follow the definitions p, the first of which is version n; the first version of all follows
-- nothing
abbrev pub bodies_from : ℕ → List BareDef → List Text → List Body
bodies_from n p [] = []
bodies_from n p (q ∷ qs) = brought_bodies n p q ++ bodies_from (suc n) q.definitions qs

abbrev pub store : List Text → List Body
store = bodies_from 1 []

-- the generation of the body of a function in force in version n: the last that was brought by then
abbrev pub generation_by : Bytes → ℕ → List Body → ℕ
generation_by name n [] = 0
generation_by name n (b ∷ bs) =
    if bytes_eq name b.function && nat_le b.generation n
    then max b.generation (generation_by name n bs)
    else generation_by name n bs

-- a body by its function and generation
abbrev pub body_in : List Body → Bytes → ℕ → Option Body
body_in bodies name generation = find (λ b. bytes_eq name b.function && b.generation == generation) bodies

-- the number of a body's check-in at a point: how many come before it
abbrev pub check_in_number : Body → ℕ → ℕ
check_in_number b point = count_by (λ p. is_check_in_kind p.kind) (take point b.skeleton.points)

-- how many check-ins and how many tokens some bodies have
abbrev pub all_check_ins : List Body → ℕ
all_check_ins = sum_by (λ b. check_ins b.skeleton)

abbrev pub all_tokens : List Body → ℕ
all_tokens = sum_by (λ b. b.tokens)

-- where the row in force of a thread comes from: the start of its first function, or a check-in of a body, by its function,
-- its generation and its number
pub data Mark : Type 0 where
  Start : Bytes → Mark
  CheckInOf : Bytes → ℕ → ℕ → Mark
