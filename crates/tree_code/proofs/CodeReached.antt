-- From where jumps lead to some place, the code does what it does from there.
use Rattle.std.proofs.Common.{ℕ, List, [], ◌∷◌, inl, inr}
use Rattle.std.specs.Prelude.{◌⊎◌}
use Rattle.c_tree.specs.BareExpr.{BareType}
use Rattle.c_semantics.specs.Pieces.{Piece, Compute, Arguments, Parts, Get, Set, Dup, Tuck, Swap, Apply, Combine, ConvertTo, Drop, Push, Truth, Created, AndThen, OrElse, Choose, Then, ThenElse, Turn, Repeat, Do, Sequence, Close, LoopTest, AfterBody, BackEdge, Until, At as StopAt}
use Rattle.c_semantics.specs.Evaluation.{Next}
use Rattle.typed_trees.specs.ValueTypes.{Environment}
use Rattle.typed_trees.specs.ExpressionTypes.{part_types}
use Rattle.typed_trees.specs.PieceTypes.{Pops, Stack, Top}
use Rattle.tree_code.specs.Code.{Code}
use Rattle.tree_code.specs.CodedPieces.{At, From, Reaches, Tested, Tests, if_zero, unless_zero}
use Rattle.tree_code.proofs.CodePlaces.{reaches_on}
use Rattle.tree_code.proofs.CodeSteps.{Coded, Fine, Setting, reached}

top_map : (stack : Stack) (P Q : BareType → Stack → Type 0) → ((t : BareType) (under : Stack) → P t under → Q t under) → Top stack P → Top stack Q
top_map [] P Q f h = absurd h
top_map (t ∷ under) P Q f h = f t under h

pops_map : (ts : List BareType) (stack : Stack) (P Q : Stack → Type 0) → ((under : Stack) → P under → Q under) → Pops ts stack P → Pops ts stack Q
pops_map [] stack P Q f h = f stack h
pops_map (t ∷ ts) [] P Q f h = absurd h
pops_map (t ∷ ts) (u ∷ stack) P Q f h = (h.0, pops_map ts stack P Q f h.1)

both_map : (A B C D : Type 0) → (A → C) → (B → D) → A ⊎ B → C ⊎ D
both_map A B C D f g (inl a) = inl (f a)
both_map A B C D f g (inr b) = inr (g b)

tests_reached : (code : Code) (p q t f : ℕ) → Reaches code p q → Tests code (At q) t f → Tests code (At p) t f
tests_reached code p q t f r (if_zero a b d x is) = if_zero p b d (reaches_on code p a b r x) is
tests_reached code p q t f r (unless_zero a b d x is) = unless_zero p b d (reaches_on code p a b r x) is

module _ (c : Setting) where
  module _ (p q : ℕ) (r : Reaches c.code p q) where
    from : (then : ℕ → Type 0) → From c.code (At q) then → From c.code (At p) then
    from then h = (h.0, reaches_on c.code p q h.0 r h.1, h.2)

    tested : (then : ℕ → ℕ → Type 0) → Tested c.code (At q) then → Tested c.code (At p) then
    tested then h = (h.0, h.1, tests_reached c.code p q h.0 h.1 r h.2, h.3)

    pub coded_reached : (ps : List Piece) (stack : Stack) (env : Environment) → Coded c ps stack env (At q) → Coded c ps stack env (At p)
    coded_reached [] stack env h = absurd h
    coded_reached (Compute e n ∷ ps) stack env h = (h.0, from _ h.1)
    coded_reached (Arguments es n ∷ ps) stack env h = (h.0, from _ h.1)
    coded_reached (Parts pl n ∷ ps) stack env h = (h.0, from _ h.1)
    coded_reached (Get pl n ∷ ps) stack env h = (h.0, pops_map (part_types c.look env pl) stack _ _ (λ under x. from _ x) h.1)
    coded_reached (Set pl n ∷ ps) stack env h = (
      h.0,
      top_map stack _ _ (λ t below x. (
        x.0,
        pops_map (part_types c.look env pl) below _ _
            (λ under y. both_map _ _ _ _ (λ z. from _ z) (λ z. (z.0, from _ z.1)) y) x.1,
      )) h.1,
    )
    coded_reached (Dup pl ∷ ps) stack env h = pops_map (part_types c.look env pl) stack _ _ (λ under x. from _ x) h
    coded_reached (Tuck pl ∷ ps) stack env h =
        top_map stack _ _ (λ t below x. pops_map (part_types c.look env pl) below _ _ (λ under y. from _ y) x) h
    coded_reached (Swap pl ∷ ps) stack env h =
        pops_map (part_types c.look env pl) stack _ _ (λ below x. top_map below _ _ (λ t under y. from _ y) x) h
    coded_reached (Apply op ∷ ps) stack env h =
        top_map stack _ _ (λ t under x. (x.0, both_map _ _ _ _ (λ z. from _ z) (λ z. (z.0, tested _ z.1)) x.1)) h
    coded_reached (Combine op ∷ ps) stack env h =
        top_map stack _ _ (λ b below x. top_map below _ _ (λ a under y. (y.0, from _ y.1)) x) h
    coded_reached (ConvertTo type ∷ ps) stack env h = top_map stack _ _ (λ t under x. (x.0, from _ x.1)) h
    coded_reached (Drop ∷ ps) stack env h =
        top_map stack _ _ (λ t under x. (x.0, reaches_on c.code p q x.0 r x.1, x.2, x.3)) h
    coded_reached (Push v ∷ ps) stack env h = (h.0, h.1, from _ h.2)
    coded_reached (Truth ∷ ps) stack env h = top_map stack _ _ (λ t under x. (x.0, from _ x.1)) h
    coded_reached (Created ∷ ps) stack env h = top_map stack _ _ (λ t under x. (x.0, from _ x.1)) h
    coded_reached (AndThen b m ∷ ps) stack env h = top_map stack _ _ (λ t under x. (x.0, x.1, tested _ x.2)) h
    coded_reached (OrElse b m ∷ ps) stack env h = top_map stack _ _ (λ t under x. (x.0, x.1, tested _ x.2)) h
    coded_reached (Choose a b m ∷ ps) stack env h = top_map stack _ _ (λ t under x. (x.0, x.1, x.2, x.3, tested _ x.4)) h
    coded_reached (Then s m ∷ ps) stack env h = top_map stack _ _ (λ t under x. (x.0, x.1, x.2, tested _ x.3)) h
    coded_reached (ThenElse s o m ∷ ps) stack env h = top_map stack _ _ (λ t under x. (x.0, x.1, x.2, x.3, x.4, tested _ x.5)) h
    coded_reached (Turn l ∷ ps) stack env h = top_map stack _ _ (λ t under x. (x.0, x.1, tested _ x.2)) h
    coded_reached (Repeat s e n ∷ ps) stack env h = top_map stack _ _ (λ t under x. (x.0, x.1, tested _ x.2)) h
    coded_reached (Do s n ∷ ps) stack env h = (h.0, from _ h.1)
    coded_reached (Sequence ss n ∷ ps) stack env h = (h.0, from _ h.1)
    coded_reached (Close ∷ ps) stack [] h = absurd h
    coded_reached (Close ∷ ps) stack (bs ∷ env) h = coded_reached ps stack env h
    coded_reached (LoopTest l ∷ ps) stack env h = (h.0, from _ h.1)
    coded_reached (AfterBody l ∷ ps) stack env h = (h.0, from _ h.1)
    coded_reached (BackEdge l ∷ ps) stack env h = (h.0, from _ h.1)
    coded_reached (Until s e n ∷ ps) stack env h = (h.0, from _ h.1)
    coded_reached (StopAt s n ∷ ps) stack env h = from _ h

    pub fine_reached : (ps : List Piece) (k : Next) (stack : Stack) (env : Environment) → Fine c ps k stack env (At q) → Fine c ps k stack env (At p)
    fine_reached ps k stack env f =
        record { coded = coded_reached ps stack env f.coded; ready = reached c k stack env p q r f.ready }
