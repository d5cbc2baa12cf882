pub mod BareExpr
pub mod BareStmt
pub mod BareDef
pub mod Bare
