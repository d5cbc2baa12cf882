pub mod UseLaws
