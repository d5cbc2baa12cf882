-- Each family is closed under its rules, and each family that is closed under them contains it.
use Rattle.std.proofs.Common.{List}
use Rattle.c_tree.specs.BareExpr.{Bytes}
use Rattle.c_semantics.specs.Store.{Body}
use Rattle.effects.specs.Sites.{Site}
use Rattle.effects.specs.Standard.{Standard}
use Rattle.effects.specs.Standard as standard
use Rattle.effects.specs.Nested.{Nested}
use Rattle.effects.specs.Nested as nested
use Rattle.effects.specs.Contextual.{Prior, Future}
use Rattle.effects.specs.Contextual as contextual
use Rattle.effects.specs.Concrete.{Concrete}
use Rattle.effects.specs.Concrete as concrete
use Rattle.effects.proofs.Unending.{function_of, no_ending_end, goes_on_or_ends}
use Rattle.effects.specs.LeastLaws.{NestedClosed, StandardClosed, PriorClosed, FutureClosed, ConcreteClosed, NestedLeast, StandardLeast, PriorLeast, FutureLeast, ConcreteLeast}

-- what is closed contains the family
pub nested_within : (bodies : List Body) (In : Bytes → Type 0) → NestedClosed bodies In → (f : Bytes) → Nested bodies f → In f
nested_within bodies In k _ (nested.in_transaction f c call enclosed) = k.in_transaction f c call enclosed
nested_within bodies In k _ (nested.Nested.in_nested f g c call of more) =
    k.in_nested f g c call of (nested_within bodies In k g more)

pub standard_within : (bodies : List Body) (In : Bytes → Bytes → Type 0) → StandardClosed bodies In
    → (f name : Bytes) → Standard bodies f name → In f name
standard_within bodies In k _ _ (standard.used f name p of uses) = k.used f name p of uses
standard_within bodies In k _ _ (standard.Standard.called f g name c of call more) =
    k.called f g name c of call (standard_within bodies In k g name more)

pub prior_within : (bodies : List Body) (In : Site → Bytes → Type 0) → PriorClosed bodies In
    → (p : Site) (name : Bytes) → Prior bodies p name → In p name
prior_within bodies In k _ _ (contextual.before a b name inside next more) =
    k.before a b name inside next (prior_within bodies In k a name more)
prior_within bodies In k _ _ (contextual.Prior.added a b name inside next adds) = k.added a b name inside next adds
prior_within bodies In k _ _ (contextual.entered e f at nested) = k.entered e f at nested
prior_within bodies In k _ _ (contextual.before_call e c f name at nested call inside more) =
    k.before_call e c f name at nested call inside (prior_within bodies In k c name more)

pub future_within : (bodies : List Body) (In : Site → Bytes → Type 0) → FutureClosed bodies In
    → (p : Site) (name : Bytes) → Future bodies p name → In p name
future_within bodies In k _ _ (contextual.Future.added p name on adds) =
    let of = function_of bodies p on in k.added p of.0 name of.1 (no_ending_end bodies p of.0 on) adds
future_within bodies In k _ _ (contextual.Future.later p q name on next more) =
    let of = function_of bodies p on in
    k.later p q of.0 name of.1 (no_ending_end bodies p of.0 on) next (future_within bodies In k q name more)
future_within bodies In k _ _ (contextual.Future.returned r c f name ret call more) =
    k.returned r c f name ret call (future_within bodies In k _ name more)

pub concrete_within : (bodies : List Body) (In : Site → Bytes → Type 0) → ConcreteClosed bodies In
    → (p : Site) (name : Bytes) → Concrete bodies p name → In p name
concrete_within bodies In k _ _ (concrete.used p name uses) = k.used p name uses
concrete_within bodies In k _ _ (concrete.later p q name next more) =
    k.later p q name next (concrete_within bodies In k q name more)
concrete_within bodies In k _ _ (concrete.returned r c f name ret call more) =
    k.returned r c f name ret call (concrete_within bodies In k _ name more)

pub nested_least : NestedLeast
nested_least bodies = record {
  closed = record { in_transaction = nested.in_transaction; in_nested = nested.Nested.in_nested };
  least = λ has k. nested_within bodies _ k;
}

pub standard_least : StandardLeast
standard_least bodies = record {
  closed = record { used = standard.used; called = standard.Standard.called };
  least = λ has k. standard_within bodies _ k;
}

pub prior_least : PriorLeast
prior_least bodies = record {
  closed = record {
    before = contextual.before;
    added = contextual.Prior.added;
    entered = contextual.entered;
    before_call = contextual.before_call;
  };
  least = λ has k. prior_within bodies _ k;
}

pub future_least : FutureLeast
future_least bodies = record {
  closed = record {
    added = λ p f name of no_end. contextual.Future.added p name ((goes_on_or_ends bodies p f of).1 no_end);
    later = λ p q f name of no_end. contextual.Future.later p q name ((goes_on_or_ends bodies p f of).1 no_end);
    returned = contextual.Future.returned;
  };
  least = λ has k. future_within bodies _ k;
}

pub concrete_least : ConcreteLeast
concrete_least bodies = record {
  closed = record { used = concrete.used; later = concrete.later; returned = concrete.returned };
  least = λ has k. concrete_within bodies _ k;
}
