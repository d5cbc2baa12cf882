-- The names of effects occur in the store.
use Rattle.std.proofs.Common.{List}
use Rattle.c_tree.specs.BareExpr.{Bytes}
use Rattle.c_semantics.specs.Store.{Body}
use Rattle.effects.specs.Sites.{Site}
use Rattle.effects.specs.Standard.{Standard, Adds}
use Rattle.effects.specs.Standard as standard
use Rattle.effects.specs.Contextual.{Prior, Future}
use Rattle.effects.specs.Contextual as contextual
use Rattle.effects.specs.Concrete.{Concrete}
use Rattle.effects.specs.Concrete as concrete
use Rattle.effects.proofs.Reachable.{Among}
use Rattle.effects.proofs.StoreSites.{occurring, used_occurs, function_occurs}

pub standard_occurs : (bodies : List Body) (f z : Bytes) → Standard bodies f z → Among (occurring bodies) z
standard_occurs bodies _ _ (standard.used f z p of uses) = used_occurs bodies p z uses
standard_occurs bodies _ _ (standard.Standard.called f g z c of call more) = standard_occurs bodies g z more

added_occurs : (bodies : List Body) (p : Site) (z : Bytes) → Adds bodies p z → Among (occurring bodies) z
added_occurs bodies _ _ (standard.direct p z uses) = used_occurs bodies p z uses
added_occurs bodies _ _ (standard.Adds.called p f z call x) = standard_occurs bodies f z x

pub prior_occurs : (bodies : List Body) (p : Site) (z : Bytes) → Prior bodies p z → Among (occurring bodies) z
prior_occurs bodies _ _ (contextual.before a b z inside next x) = prior_occurs bodies a z x
prior_occurs bodies _ _ (contextual.Prior.added a b z inside next x) = added_occurs bodies a z x
prior_occurs bodies _ _ (contextual.entered e f at n) = function_occurs bodies e f at.is_of
prior_occurs bodies _ _ (contextual.before_call e c f z at n call inside x) = prior_occurs bodies c z x

pub future_occurs : (bodies : List Body) (p : Site) (z : Bytes) → Future bodies p z → Among (occurring bodies) z
future_occurs bodies _ _ (contextual.Future.added p z goes x) = added_occurs bodies p z x
future_occurs bodies _ _ (contextual.Future.later p q z goes next x) = future_occurs bodies q z x
future_occurs bodies _ _ (contextual.Future.returned r c f z ret call x) = future_occurs bodies _ z x

pub concrete_occurs : (bodies : List Body) (p : Site) (z : Bytes) → Concrete bodies p z → Among (occurring bodies) z
concrete_occurs bodies _ _ (concrete.used p z uses) = used_occurs bodies p z uses
concrete_occurs bodies _ _ (concrete.later p q z next x) = concrete_occurs bodies q z x
concrete_occurs bodies _ _ (concrete.returned r c f z ret call x) = concrete_occurs bodies _ z x
