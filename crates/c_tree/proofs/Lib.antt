pub mod Lists
pub mod Exprs
pub mod Forms
pub mod Stmts
pub mod StmtForms
pub mod Examples
