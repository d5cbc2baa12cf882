pub mod ValueTypes
pub mod ExpressionTypes
pub mod StatementTypes
pub mod PieceTypes
pub mod TypeLaws
