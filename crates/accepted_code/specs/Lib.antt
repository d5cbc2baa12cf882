pub mod AcceptedCode
