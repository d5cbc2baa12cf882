-- The laws of local evaluation.
use Rattle.std.proofs.Common.{refl}
use Rattle.c_semantics.specs.Pieces.{Halt, Stopped, Trapped, Nothing}
use Rattle.c_semantics.specs.Evaluation.{local}
use Rattle.source_model.specs.EvaluationLaws.{Ends, at_a_stop, with_a_trap, with_nothing, AlwaysEnds, Makes, ExpressionsInOrder, Accesses, PlacesStop, Does, StatementsAsPieces, DeclarationsBegin, TestsChoose}
use Rattle.source_model.specs.EvaluationLaws.{PartsOfPlaces, ValuesChange}
use Rattle.source_model.specs.EvaluationLaws as laws

ends : (h : Halt) → Ends h
ends (Stopped s n rest values scopes) = at_a_stop s n rest values scopes
ends (Trapped kind) = with_a_trap kind
ends Nothing = with_nothing

pub always_ends : AlwaysEnds
always_ends ps values scopes = ends (local ps values scopes)

pub expressions_in_order : ExpressionsInOrder
expressions_in_order n e made_of ps (laws.constant v) = refl
expressions_in_order n e made_of ps (laws.read p) = refl
expressions_in_order n e made_of ps (laws.unary op a) = refl
expressions_in_order n e made_of ps (laws.binary op a b) = refl
expressions_in_order n e made_of ps (laws.convert type a) = refl
expressions_in_order n e made_of ps (laws.both a b) = refl
expressions_in_order n e made_of ps (laws.either a b) = refl
expressions_in_order n e made_of ps (laws.choice c a b) = refl
expressions_in_order n e made_of ps (laws.assign p v) = refl
expressions_in_order n e made_of ps (laws.update type op p v) = refl
expressions_in_order n e made_of ps (laws.postfix type op p) = refl
expressions_in_order n e made_of ps (laws.call name es) = refl
expressions_in_order n e made_of ps (laws.print format es) = refl
expressions_in_order n e made_of ps (laws.new tag) = refl
expressions_in_order n e made_of ps (laws.free tag v) = refl
expressions_in_order n e made_of ps (laws.create p name v) = refl
expressions_in_order n e made_of ps (laws.join v) = refl
expressions_in_order n e made_of ps (laws.join_into v p) = refl
expressions_in_order n e made_of ps (laws.init_mutex name) = refl
expressions_in_order n e made_of ps (laws.lock name) = refl
expressions_in_order n e made_of ps (laws.unlock name) = refl

pub places_stop : PlacesStop
places_stop n p reads writes ps (laws.global name) = (refl, refl)
places_stop n p reads writes ps (laws.element name i) = (refl, refl)
places_stop n p reads writes ps (laws.field tag e name) = (refl, refl)

pub statements_as_pieces : StatementsAsPieces
statements_as_pieces n s made_of ps laws.empty = refl
statements_as_pieces n s made_of ps (laws.evaluate e) = refl
statements_as_pieces n s made_of ps (laws.if_only c a) = refl
statements_as_pieces n s made_of ps (laws.if_else c a b) = refl
statements_as_pieces n s made_of ps (laws.while c a) = refl
statements_as_pieces n s made_of ps (laws.do_while a c) = refl
statements_as_pieces n s made_of ps (laws.return e) = refl
statements_as_pieces n s made_of ps laws.update = refl
statements_as_pieces n s made_of ps (laws.transaction ss) = refl

pub values_change : ValuesChange
values_change un op type a b values scopes ps = (refl, refl, refl, refl, refl, refl, refl)

pub parts_of_places : PartsOfPlaces
parts_of_places name tag e n a b values scopes ps = (refl, refl, refl, refl, refl, refl, refl, refl, refl, refl)

pub declarations_begin : DeclarationsBegin
declarations_begin type name e n ps = (refl, refl)

pub tests_choose : TestsChoose
tests_choose a b s t n v values scopes ps = (refl, refl, refl, refl, refl, refl, refl)
