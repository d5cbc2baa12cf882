pub mod SameBodies
