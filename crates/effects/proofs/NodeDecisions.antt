-- The nodes of a store are finitely many, and whether a name is in a seed is decided by whether it is in a standard effect.
use Rattle.std.proofs.Common.{◌≡◌, ℕ, zero, suc, List, [], ◌∷◌, ◌++◌, refl, sym, subst, ap, ◌∙◌, inl, inr}
use Rattle.std.proofs.lemmas.Bool.{cases_eq}
use Rattle.c_tree.specs.BareExpr.{Bytes}
use Rattle.c_semantics.specs.Store.{Body}
use Rattle.effects.specs.Sites.{Site}
use Rattle.effects.specs.Standard.{Standard}
use Rattle.effects.proofs.Reachable.{Among}
use Rattle.effects.proofs.Deciding.{collect, among_left, among_right}
use Rattle.effects.proofs.Decisions.{Decision, same_as, both, same_bytes}
use Rattle.effects.proofs.FiniteFlows.{among_collected}
use Rattle.effects.proofs.StoreSites.{places, occurring}
use Rattle.effects.proofs.PointDecisions.{same_site}
use Rattle.effects.proofs.Systems.{Node, At, Calls, Whole, Name, NameSeed, EffectSeed}
use Rattle.effects.proofs.Systems as system
use Rattle.effects.proofs.RowEquations.{RowNode, From, To, Entries, Starts, Returns}

-- what a node is: its kind, and a site or a name
pub record Sign : Type 0 where
  pub kind : ℕ
  pub site : Site
  pub name : Bytes

same_sign : (a b : Sign) → Decision (a ≡ b)
same_sign a b =
    same_as (λ s. λ t. record { kind = s.0 t; site = s.1.0 t; name = s.1.1 t })
    (λ e. (ap (λ x. x.kind) e, (ap (λ x. x.site) e, ap (λ x. x.name) e)))
    (both (cases_eq a.kind b.kind) (both (same_site a.site b.site) (same_bytes a.name b.name)))

-- what has signs is told apart by them
by_sign : {N : Type 0} (sign : N → Sign) (node : Sign → N) → ((n : N) → node (sign n) ≡ n) → (a b : N) → Decision (a ≡ b)
by_sign sign node back a b =
    same_as (λ e. sym (back a) ∙ ap node e ∙ back b) (ap sign) (same_sign (sign a) (sign b))

no_site : Site
no_site = record { body = 0; point = 0 }

sign : Node → Sign
sign (At p) = record { kind = 0; site = p; name = [] }
sign (Calls f) = record { kind = 1; site = no_site; name = f }
sign (Whole f) = record { kind = 2; site = no_site; name = f }
sign (Name u) = record { kind = 3; site = no_site; name = u }

node : ℕ → Site → Bytes → Node
node zero p f = At p
node (suc zero) p f = Calls f
node (suc (suc zero)) p f = Whole f
node (suc (suc (suc n))) p f = Name f

pub same_node : (a b : Node) → Decision (a ≡ b)
unfolding node sign
same_node = by_sign sign (λ s. node s.kind s.site s.name) back
  where
    back : (n : Node) → node (sign n).kind (sign n).site (sign n).name ≡ n
    back (At p) = refl
    back (Calls f) = refl
    back (Whole f) = refl
    back (Name u) = refl

row_sign : RowNode → Sign
row_sign (From p) = record { kind = 0; site = p; name = [] }
row_sign (To p) = record { kind = 1; site = p; name = [] }
row_sign (Entries f) = record { kind = 2; site = no_site; name = f }
row_sign (Starts f) = record { kind = 3; site = no_site; name = f }
row_sign (Returns f) = record { kind = 4; site = no_site; name = f }

row_node : ℕ → Site → Bytes → RowNode
row_node zero p f = From p
row_node (suc zero) p f = To p
row_node (suc (suc zero)) p f = Entries f
row_node (suc (suc (suc zero))) p f = Starts f
row_node (suc (suc (suc (suc n)))) p f = Returns f

pub same_row_node : (a b : RowNode) → Decision (a ≡ b)
unfolding row_node row_sign
same_row_node = by_sign row_sign (λ s. row_node s.kind s.site s.name) back
  where
    back : (n : RowNode) → row_node (row_sign n).kind (row_sign n).site (row_sign n).name ≡ n
    back (From p) = refl
    back (To p) = refl
    back (Entries f) = refl
    back (Starts f) = refl
    back (Returns f) = refl

-- the nodes of a store
abbrev pub nodes_of : {N : Type 0} → (Site → List N) → (Bytes → List N) → List Body → List N
nodes_of of_site of_name bodies = collect of_site (places bodies) ++ collect of_name (occurring bodies)

site_node : {N : Type 0} (of_site : Site → List N) (of_name : Bytes → List N) (bodies : List Body) (p : Site) (n : N)
    → Among (of_site p) n → Among (places bodies) p → Among (nodes_of of_site of_name bodies) n
site_node of_site of_name bodies p n m at =
    among_left (collect of_site (places bodies)) (collect of_name (occurring bodies)) n
    (among_collected of_site (places bodies) p n at m)

name_node : {N : Type 0} (of_site : Site → List N) (of_name : Bytes → List N) (bodies : List Body) (f : Bytes) (n : N)
    → Among (of_name f) n → Among (occurring bodies) f → Among (nodes_of of_site of_name bodies) n
name_node of_site of_name bodies f n m at =
    among_right (collect of_site (places bodies)) (collect of_name (occurring bodies)) n
    (among_collected of_name (occurring bodies) f n at m)

abbrev at_site : Site → List Node
at_site p = At p ∷ []

abbrev of_name : Bytes → List Node
of_name f = Calls f ∷ Whole f ∷ Name f ∷ []

abbrev pub nodes : List Body → List Node
nodes = nodes_of at_site of_name

pub at_is_node : (bodies : List Body) (p : Site) → Among (places bodies) p → Among (nodes bodies) (At p)
at_is_node bodies p = site_node at_site of_name bodies p (At p) (inl refl)

pub calls_is_node : (bodies : List Body) (f : Bytes) → Among (occurring bodies) f → Among (nodes bodies) (Calls f)
calls_is_node bodies f = name_node at_site of_name bodies f (Calls f) (inl refl)

pub whole_is_node : (bodies : List Body) (f : Bytes) → Among (occurring bodies) f → Among (nodes bodies) (Whole f)
whole_is_node bodies f = name_node at_site of_name bodies f (Whole f) (inr (inl refl))

pub name_is_node : (bodies : List Body) (f : Bytes) → Among (occurring bodies) f → Among (nodes bodies) (Name f)
name_is_node bodies f = name_node at_site of_name bodies f (Name f) (inr (inr (inl refl)))

abbrev row_at_site : Site → List RowNode
row_at_site p = From p ∷ To p ∷ []

abbrev row_of_name : Bytes → List RowNode
row_of_name f = Entries f ∷ Starts f ∷ Returns f ∷ []

abbrev pub row_nodes : List Body → List RowNode
row_nodes = nodes_of row_at_site row_of_name

pub from_is_node : (bodies : List Body) (p : Site) → Among (places bodies) p → Among (row_nodes bodies) (From p)
from_is_node bodies p = site_node row_at_site row_of_name bodies p (From p) (inl refl)

pub to_is_node : (bodies : List Body) (p : Site) → Among (places bodies) p → Among (row_nodes bodies) (To p)
to_is_node bodies p = site_node row_at_site row_of_name bodies p (To p) (inr (inl refl))

pub entries_is_node : (bodies : List Body) (f : Bytes) → Among (occurring bodies) f → Among (row_nodes bodies) (Entries f)
entries_is_node bodies f = name_node row_at_site row_of_name bodies f (Entries f) (inl refl)

pub starts_is_node : (bodies : List Body) (f : Bytes) → Among (occurring bodies) f → Among (row_nodes bodies) (Starts f)
starts_is_node bodies f = name_node row_at_site row_of_name bodies f (Starts f) (inr (inl refl))

pub returns_is_node : (bodies : List Body) (f : Bytes) → Among (occurring bodies) f → Among (row_nodes bodies) (Returns f)
returns_is_node bodies f = name_node row_at_site row_of_name bodies f (Returns f) (inr (inr (inl refl)))

-- seeds
abbrev NameIs : Node → Bytes → Type 0
NameIs (Name u) z = u ≡ z
NameIs n z = ⊥

named : (n : Node) (z : Bytes) → NameSeed n z → NameIs n z
named _ _ (system.NameSeed.of_name u) = refl

names : (n : Node) (z : Bytes) → NameIs n z → NameSeed n z
names (Name u) z e = subst (NameSeed (Name u)) e (system.NameSeed.of_name u)
names n z e = absurd e

is_named : (n : Node) (z : Bytes) → Decision (NameIs n z)
is_named (Name u) z = same_bytes u z
is_named n z = inr (λ e. e)

pub name_seed_or_not : (n : Node) (z : Bytes) → Decision (NameSeed n z)
name_seed_or_not n z = same_as (names n z) (named n z) (is_named n z)

abbrev EffectIs : List Body → Node → Bytes → Type 0
EffectIs bodies (Name u) z = u ≡ z
EffectIs bodies (Whole f) z = Standard bodies f z
EffectIs bodies n z = ⊥

in_effect : (bodies : List Body) (n : Node) (z : Bytes) → EffectSeed bodies n z → EffectIs bodies n z
in_effect bodies _ _ (system.EffectSeed.of_name u) = refl
in_effect bodies _ _ (system.EffectSeed.of_function f z s) = s

of_effect : (bodies : List Body) (n : Node) (z : Bytes) → EffectIs bodies n z → EffectSeed bodies n z
of_effect bodies (Name u) z e = subst (EffectSeed bodies (Name u)) e (system.EffectSeed.of_name u)
of_effect bodies (Whole f) z s = system.EffectSeed.of_function f z s
of_effect bodies n z e = absurd e

is_in_effect : (bodies : List Body) → ((f z : Bytes) → Decision (Standard bodies f z)) → (n : Node) (z : Bytes)
    → Decision (EffectIs bodies n z)
is_in_effect bodies standard (Name u) z = same_bytes u z
is_in_effect bodies standard (Whole f) z = standard f z
is_in_effect bodies standard n z = inr (λ e. e)

pub effect_seed_or_not : (bodies : List Body) → ((f z : Bytes) → Decision (Standard bodies f z)) → (n : Node) (z : Bytes)
    → Decision (EffectSeed bodies n z)
effect_seed_or_not bodies standard n z = same_as (of_effect bodies n z) (in_effect bodies n z) (is_in_effect bodies standard n z)
